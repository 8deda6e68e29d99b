use Rattle.std.proofs.Common.{◌≡◌, ◌<◌, ◌∙◌, List, arith, length}
use Rattle.std.proofs.lemmas.Bool.Decides.{nat_tests}
use Rattle.spec_run.specs.Plan.{Plan}
use Rattle.spec_run.specs.Content.{items_entered}
use Rattle.xt_syntax.specs.PartView.{place_of}
use Rattle.spec_node.specs.declared.node_ref.NodeRef.{NodeRef}
use Rattle.xt_questions.specs.View.{bindings_of}
use Rattle.xt_frames.specs.View.{here_of}
use Rattle.xt_frames.specs.Left.{left_in}
use Rattle.xt_frames.proofs.Lefts.{if_ok}
use Rattle.xt_frames.proofs.Entering.{all_items}
use Rattle.xt_runner.proofs.Passed.{steps_as, sorted_by, sorted_by_none}
use Rattle.xt_runner.proofs.parameters.sort_items.Goals as goal

pub returns-then-is_empty-clause-does : goal.returns-then-is_empty-clause-does
returns-then-is_empty-clause-does g c =
    let a = c.args.left in
    let keys = c.args.keys.value in
    let k : List NodeRef → Plan NodeRef = λ ns. items_entered (place_of a.place) a.element (bindings_of a.parameters) a.depth ns (left_in c.args.run.now) in
    let none : length keys.items ≡ 0 = grind (arith, nat_tests, keys.ok.0, c.is_empty.ensures, c.deref.ensures, c.if-is_empty.true) in
    let all = all_items (place_of a.place) a.element (bindings_of a.parameters) a.depth a.nodes.items (left_in c.args.run.now) in
    if_ok c.go_on_items.result c.go_on_items.ensures (λ next h. steps_as (all ∙ sorted_by_none keys.items (here_of c.args.here) a.nodes.items k none) (h (g.W.World.state c.args.world.now).truth))

pub returns-clause-does : goal.returns-clause-does
returns-clause-does g c =
    let a = c.args.left in
    let keys = c.args.keys.value in
    let k : List NodeRef → Plan NodeRef = λ ns. items_entered (place_of a.place) a.element (bindings_of a.parameters) a.depth ns (left_in c.args.run.now) in
    let some : 0 < length keys.items = grind (arith, nat_tests, keys.ok.0, c.is_empty.ensures, c.deref.ensures, c.if-is_empty.false) in
    if_ok c.go_on_sorting.result c.go_on_sorting.ensures.does (λ next h. steps_as (c.unsorted-sorting.ensures (left_in c.args.run.now) ∙ sorted_by keys.items (here_of c.args.here) a.nodes.items k some) h)
