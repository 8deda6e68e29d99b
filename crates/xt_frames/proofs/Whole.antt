-- Items that have no holes.
use Rattle.std.proofs.Common.{◌≡◌, ℕ, List, [], ◌∷◌, Global, rules, sym, ap, ◌∙◌}
use Rattle.std.specs.declared.rc.Rc.{Rc}
use Rattle.spec_meaning.specs.Stream.{Stream, Ended, Text, Attribute, holes}
use Rattle.xt_questions.specs.declared.context.Bindings as bindings
use Rattle.xt_questions.specs.declared.context.Binding.{Binding}
use Rattle.xt_questions.specs.View.{bindings_of}
use Rattle.xt_tree.specs.ValueView.{value_of}
use Rattle.xt_tree.specs.StreamView.{item_step, items_step, single_of, stream_of}
use Rattle.xt_tree.specs.declared.items.Items.{Items}
use Rattle.xt_tree.specs.declared.items.Item.{Item-F, fold-roll-Item}
use Rattle.xt_tree.specs.declared.items.Item.TheVariants as code

pub view-Text : (text : List ℕ) → single_of (code.Text text) ≡ Text text Ended
view-Text text = ap single_of (sym (code.rolls-Text text)) ∙ fold-roll-Item Stream Stream item_step items_step (Item-F.Text text)

pub whole-Text : (text : List ℕ) → holes (single_of (code.Text text)) ≡ 0
whole-Text text = ap holes (view-Text text)

pub view-Attribute : (name uri : List ℕ) (content : Rc Items Global) → single_of (code.Attribute name uri content) ≡ Attribute name uri (stream_of content.value) Ended
view-Attribute name uri content = ap single_of (sym (code.rolls-Attribute name uri content)) ∙ fold-roll-Item Stream Stream item_step items_step (Item-F.Attribute name uri content)

-- no variables
pub view-Empty : bindings_of bindings.Empty ≡ []
view-Empty = search (rules, bindings.the_lemmas)

-- a variable more
pub view-More : (binding : Rc Binding Global) → bindings_of (bindings.More binding) ≡ record { name = binding.value.name; value = value_of binding.value.value } ∷ bindings_of binding.value.outer
view-More = search (rules, bindings.the_lemmas)
