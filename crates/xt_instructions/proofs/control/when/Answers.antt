use Rattle.std.proofs.Common.{map, Bool}
use Rattle.std.specs.Prelude.{if◌then◌else◌}
use Rattle.spec_stylesheet.specs.Instruction.{instrs}
use Rattle.spec_meaning.specs.Stream.{Ended}
use Rattle.spec_run.specs.Plan.{Put}
use Rattle.xt_syntax.specs.InstrView.{instr_of}
use Rattle.spec_node.specs.declared.node_ref.NodeRef.{NodeRef}
use Rattle.spec_run.specs.Plan.{Plan}
use Rattle.xt_syntax.specs.PartView.{site_of, place_of}
use Rattle.xt_frames.specs.declared.frame.Frame.TheVariants as frames
use Rattle.xt_frames.specs.View.{here_of, inside, after_body}
use Rattle.xt_frames.specs.Left.{left_in}
use Rattle.xt_frames.proofs.Lefts.{if_ok, if_both}
use Rattle.xt_frames.proofs.Performs.{perform_is, perform_halts, perform_lacks}
use Rattle.xt_instructions.proofs.control.when.Goals as goal

pub returns-then-is_true-clause-does : goal.returns-then-is_true-clause-does
returns-then-is_true-clause-does g c =
    let truth = (g.W.World.state c.args.world.now).truth in
    let old = c.args.run.now in
    let b = c.args.body in
    let s = site_of c.args.site.now in
    let is = instrs (map instr_of c.args.content.now.value.items) in
    let k : Bool → Plan NodeRef = λ x. if x then inside s.place is (here_of b.here) (after_body b (left_in old)) else Put Ended (after_body b (left_in old)) in
    let found = rw (c.in-Is.is, c.if-is_true.true) at c.in-Ok.ensures.found k in
    if_ok c.into_content.result c.into_content.ensures (λ next h.
    perform_is truth _ (λ l. inside s.place is (here_of b.here) (after_body b l)) (frames.Body b) old c.truth.new.run c.into_content.new.run next found.so c.truth.ensures.still (h truth))

pub returns-else-is_true-clause-does : goal.returns-else-is_true-clause-does
returns-else-is_true-clause-does g c =
    let truth = (g.W.World.state c.args.world.now).truth in
    let old = c.args.run.now in
    let b = c.args.body in
    let s = site_of c.args.site.now in
    let is = instrs (map instr_of c.args.content.now.value.items) in
    let k : Bool → Plan NodeRef = λ x. if x then inside s.place is (here_of b.here) (after_body b (left_in old)) else Put Ended (after_body b (left_in old)) in
    let found = rw (c.in-Is.is, c.if-is_true.false) at c.in-Ok.ensures.found k in
    if_ok c.nothing.result c.nothing.ensures (λ next h.
    perform_is truth _ (λ l. Put Ended (after_body b l)) (frames.Body b) old c.truth.new.run c.nothing.new.run next found.so c.truth.ensures.still (h truth))

pub returns-in-Halts-clause-does : goal.returns-in-Halts-clause-does
returns-in-Halts-clause-does g c =
    let truth = (g.W.World.state c.args.world.now).truth in
    let old = c.args.run.now in
    let b = c.args.body in
    let s = site_of c.args.site.now in
    let is = instrs (map instr_of c.args.content.now.value.items) in
    let k : Bool → Plan NodeRef = λ x. if x then inside s.place is (here_of b.here) (after_body b (left_in old)) else Put Ended (after_body b (left_in old)) in
    let found = rw c.in-Halts.is at c.in-Ok.ensures.found k in
    perform_halts truth _ _ old c.truth.new.run c.in-Halts.why found.so c.truth.ensures.still

pub returns-in-Lacks-clause-does : goal.returns-in-Lacks-clause-does
returns-in-Lacks-clause-does g c =
    let truth = (g.W.World.state c.args.world.now).truth in
    let old = c.args.run.now in
    let b = c.args.body in
    let s = site_of c.args.site.now in
    let is = instrs (map instr_of c.args.content.now.value.items) in
    let k : Bool → Plan NodeRef = λ x. if x then inside s.place is (here_of b.here) (after_body b (left_in old)) else Put Ended (after_body b (left_in old)) in
    let found = rw c.in-Lacks.is at c.in-Ok.ensures.found k in
    if_both c.lack.result c.lack.ensures.needs c.lack.ensures.pushed (λ next e back.
    perform_lacks truth _ (frames.Body b) old c.truth.new.run c.lack.new.run c.in-Lacks.name b.here.depth (place_of c.args.site.now.place) next found.so c.truth.ensures.still e back)
