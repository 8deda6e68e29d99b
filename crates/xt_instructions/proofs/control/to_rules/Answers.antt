use Rattle.std.proofs.Common.{◌≡◌, ℕ, Option, List, Vec, Global, length, drop, suc, map, ◌∙◌, arith}
use Rattle.std.proofs.lemmas.Bool.Decides.{nat_tests}
use Rattle.spec_document.specs.Name.{Expanded}
use Rattle.spec_stylesheet.specs.Place.{Place}
use Rattle.spec_meaning.specs.Context.{Bound}
use Rattle.spec_run.specs.Plan.{Plan}
use Rattle.spec_run.specs.Content.{Here, applied, applied_to, each, sorted}
use Rattle.xt_syntax.specs.declared.sort_key.SortKey.{SortKey}
use Rattle.xt_syntax.specs.PartView.{place_of, sort_key_of}
use Rattle.spec_node.specs.declared.node_ref.NodeRef.{NodeRef}
use Rattle.xt_frames.specs.View.{here_of}
use Rattle.xt_instructions.proofs.Rows.{not_sorted}
use Rattle.xt_instructions.proofs.control.to_rules.Goals as goal

pub returns-then-is_empty : goal.returns-then-is_empty
returns-then-is_empty c ps after =
    let keys = c.args.selection.now.keys.value in
    let none : length keys.items ≡ 0 = grind (arith, nat_tests, keys.ok.0, c.is_empty.ensures, c.deref.ensures, c.if-is_empty.true) in
    let is_to = c.in_ok-to.ensures in
    let h = here_of c.args.here.now in
    let k : List NodeRef → Plan NodeRef = λ ns. applied_to (place_of c.args.site.now.place) c.args.selection.now.mode ps c.args.here.now.depth ns after in
    let F : Place → Option Expanded → Vec NodeRef Global → ℕ → ℕ → Plan NodeRef = λ p m ns n d. each (applied p m ps (length ns.items) d) (suc n) (drop n ns.items) after in
    let e : _ ≡ k c.args.nodes.items = λ i. F (is_to.place i) (is_to.mode i) (is_to.nodes i) (is_to.next i) (is_to.depth i) in
    e ∙ not_sorted keys.items h c.args.nodes.items k none

pub returns : goal.returns
returns c ps after =
    let is_to = c.in-Ok.ensures in
    let F : Vec SortKey Global → Here NodeRef → Place → Option Expanded → Vec NodeRef Global → ℕ → Plan NodeRef =
    λ keys h p m ns d. sorted (map sort_key_of keys.items) h ns.items (λ ms. applied_to p m ps d ms after) in
    λ i. F (c.in_ok-keys.ensures i) (c.in_ok-standing.ensures.here i) (is_to.place i) (is_to.mode i) (is_to.nodes i) (is_to.depth i)
