use Rattle.std.proofs.Common.{◌≡◌, [], ◌∷◌, refl}
use Rattle.std.specs.Prelude.{Vec}
use Rattle.std.specs.Global.{Global}
use Rattle.spec_meaning.specs.Convert.{to_text}
use Rattle.spec_meaning.specs.Program.{Give, then}
use Rattle.spec_transform.specs.Key.{values_of}
use Rattle.xt_tree.specs.ValueView.{value_of}
use Rattle.spec_node.specs.declared.node_ref.NodeRef.{NodeRef}
use Rattle.xt_tree.specs.declared.value.Value.{Value}
use Rattle.xt_tree.specs.declared.value.Value.TheVariants.{Number, Text, Boolean, Nodes, Fragment}
use Rattle.xt_match.proofs.Together.{runs_as}
use Rattle.xt_keys.proofs.values.values_of.Goals as goal

-- any other value is one text
one_text_of : (v : Value) → ((ns : Vec NodeRef Global) → v ≡ Nodes ns → ⊥) → then (to_text (value_of v)) (λ t. Give (t ∷ [])) ≡ values_of (value_of v)
unfolding then
one_text_of (Number n) other = refl
one_text_of (Text t) other = refl
one_text_of (Boolean b) other = refl
one_text_of (Nodes ns) other = absurd (other ns refl)
one_text_of (Fragment s) other = refl

pub returns-in-Nodes-clause-runs : goal.returns-in-Nodes-clause-runs
returns-in-Nodes-clause-runs g c supply depth = rw c.in-Nodes.is (rw c.as_slice.ensures.value at (c.texts_of.ensures.runs supply depth))

pub returns-in_default : goal.returns-in_default
returns-in_default g c = record {
  runs = λ supply depth. runs_as (one_text_of c.args.value c.in_default.not-Nodes) (c.one_text.ensures.runs supply depth);
  name = c.one_text.ensures.name;
}
