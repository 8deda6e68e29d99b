use Rattle.spec_meaning.specs.Value.{Value}
use Rattle.spec_run.specs.Content.{value_copied}
use Rattle.xt_tree.specs.ValueView.{value_of}
use Rattle.spec_node.specs.declared.node_ref.NodeRef.{NodeRef}
use Rattle.spec_run.specs.Plan.{Plan}
use Rattle.xt_syntax.specs.PartView.{place_of}
use Rattle.xt_frames.specs.declared.frame.Frame.TheVariants as frames
use Rattle.xt_frames.specs.View.{after_body}
use Rattle.xt_frames.specs.Left.{left_in}
use Rattle.xt_frames.proofs.Lefts.{if_ok, if_both}
use Rattle.xt_frames.proofs.Performs.{perform_is, perform_halts, perform_lacks}
use Rattle.xt_instructions.proofs.simple.copy_of.Goals as goal

pub returns-in-Is-clause-does : goal.returns-in-Is-clause-does
returns-in-Is-clause-does g c =
    let truth = (g.W.World.state c.args.world.now).truth in
    let old = c.args.run.now in
    let b = c.args.body in
    let k : Value NodeRef → Plan NodeRef = λ v. value_copied v (after_body b (left_in old)) in
    let found = rw c.in-Is.is at c.in-Ok.ensures.found k in
    if_ok c.write_value.result c.write_value.ensures (λ next h.
    perform_is truth _ (λ l. value_copied (value_of c.in-Is.value) (after_body b l)) (frames.Body b) old c.value.new.run c.write_value.new.run next found.so c.value.ensures.still (h truth))

pub returns-in-Halts-clause-does : goal.returns-in-Halts-clause-does
returns-in-Halts-clause-does g c =
    let truth = (g.W.World.state c.args.world.now).truth in
    let old = c.args.run.now in
    let b = c.args.body in
    let k : Value NodeRef → Plan NodeRef = λ v. value_copied v (after_body b (left_in old)) in
    let found = rw c.in-Halts.is at c.in-Ok.ensures.found k in
    perform_halts truth _ _ old c.value.new.run c.in-Halts.why found.so c.value.ensures.still

pub returns-in-Lacks-clause-does : goal.returns-in-Lacks-clause-does
returns-in-Lacks-clause-does g c =
    let truth = (g.W.World.state c.args.world.now).truth in
    let old = c.args.run.now in
    let b = c.args.body in
    let k : Value NodeRef → Plan NodeRef = λ v. value_copied v (after_body b (left_in old)) in
    let found = rw c.in-Lacks.is at c.in-Ok.ensures.found k in
    if_both c.lack.result c.lack.ensures.needs c.lack.ensures.pushed (λ next e back.
    perform_lacks truth _ (frames.Body b) old c.value.new.run c.lack.new.run c.in-Lacks.name b.here.depth (place_of c.args.site.now.place) next found.so c.value.ensures.still e back)
