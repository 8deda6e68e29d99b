-- Which nodes have a value is told by the values of each.
use Rattle.std.proofs.Common.{◌≡◌, ℕ, List, [], ◌∷◌, map, refl, sym, ap, subst, ◌∙◌}
use Rattle.std.specs.Prelude.{Vec}
use Rattle.std.specs.Global.{Global}
use Rattle.std.specs.declared.rc.Rc.{Rc}
use Rattle.spec_document.specs.Forest.{Document}
use Rattle.spec_document.specs.Name.{Expanded}
use Rattle.spec_document.specs.Order.{entries_of}
use Rattle.spec_meaning.specs.Program.{outcome_of}
use Rattle.spec_meaning.specs.Question.{Key, SomeNodes}
use Rattle.spec_transform.specs.Key.{indexed, keyed, keys_named, no_globals}
use Rattle.spec_run.specs.Documents.{Parameters}
use Rattle.spec_node.specs.Naming.{ref_of, same_ref}
use Rattle.spec_node.specs.declared.node_ref.NodeRef.{NodeRef}
use Rattle.xt_match.specs.Context.{units_in}
use Rattle.xt_document_world.specs.View.{truth_of}
use Rattle.xt_keys.specs.View.{AreNodesApart, having}
use Rattle.xt_keys.proofs.Grouping.{having_is}
use Rattle.xt_world.specs.View.{truth_in}
use Rattle.xt_world.specs.declared.stylesheet.Stylesheet.{Stylesheet}
use Rattle.xt_spared.specs.View.{questions_of}
use Rattle.xt_own.specs.Keys.{AreNodesOf, IsKeyOf, having_in, lists_of, nodes_of}
use Rattle.xt_own.specs.declared.own_key.OwnKey.{OwnKey}
use Rattle.xt_own.specs.declared.own_node.OwnNode.{OwnNode}
use Rattle.xt_own.proofs.AtOnce.{AllGive, all_at_once}
use Rattle.xt_own.proofs.NodeReading.{agree_with_itself}

each_gives : (s : Stylesheet) (p : Parameters) (d : Document ℕ) (name : Expanded) (owns : List (Rc OwnNode Global))
    → AreNodesOf s (truth_in s p d) name owns → AllGive (truth_of d) (keys_named name (units_in s.units.items)) [] (nodes_of owns) (lists_of owns)
each_gives s p d name [] known = tt
each_gives s p d name (own ∷ owns) known = (
  record { before = []; same = refl; gives = known.0 p d refl (agree_with_itself (truth_in s p d) (questions_of own.value.reads.items)) },
  each_gives s p d name owns known.1,
)

pub answers_so : (s : Stylesheet) (p : Parameters) (d : Document ℕ) (name : Expanded) (owns : List (Rc OwnNode Global))
    → nodes_of owns ≡ map ref_of (entries_of d) → AreNodesApart (map ref_of (entries_of d)) → AreNodesOf s (truth_in s p d) name owns
    → (text : List ℕ) → truth_in s p d (Key name text) ≡ SomeNodes (having_in text owns)
answers_so s p d name owns all apart known text =
    let nodes = nodes_of owns in
    let ks = keys_named name (units_in s.units.items) in
    let told = all_at_once (truth_of d) ks nodes (lists_of owns) [] (subst AreNodesApart (sym all) apart) (each_gives s p d name owns known) in
    ap (λ (ns : List NodeRef). keyed same_ref ns text (outcome_of (truth_of d) no_globals (indexed same_ref ks ns []))) (sym all)
    ∙ ap (keyed same_ref nodes text) told.gives
    ∙ ap (λ (ns : List NodeRef). SomeNodes ns) (sym (having_is nodes told.entries text) ∙ ap (having text nodes) told.texts)

-- all nodes of a source, asked there
pub key_known : (s : Stylesheet) (p : Parameters) (d : Document ℕ) (key : OwnKey) → nodes_of key.nodes.items ≡ map ref_of (entries_of d)
    → AreNodesApart (map ref_of (entries_of d)) → AreNodesOf s (truth_in s p d) key.name key.nodes.items → IsKeyOf s (truth_in s p d) key
key_known s p d key all apart known = record { nodes = known; answers = answers_so s p d key.name key.nodes.items all apart known }

pub key_of_known : (s : Stylesheet) (p : Parameters) (d : Document ℕ) (name : Expanded) (key : OwnKey) (owns : Vec (Rc OwnNode Global) Global) → key.name ≡ name → key.nodes ≡ owns
    → nodes_of owns.items ≡ map ref_of (entries_of d) → AreNodesApart (map ref_of (entries_of d)) → AreNodesOf s (truth_in s p d) name owns.items → IsKeyOf s (truth_in s p d) key
key_of_known s p d name key owns named held all apart known =
    let K : Expanded → Type 0 = λ n. AreNodesOf s (truth_in s p d) n key.nodes.items in
    let L : Vec (Rc OwnNode Global) Global → Type 0 = λ v. AreNodesOf s (truth_in s p d) name v.items in
    key_known s p d key (ap (λ (v : Vec (Rc OwnNode Global) Global). nodes_of v.items) held ∙ all) apart (subst K (sym named) (subst L (sym held) known))
