use Rattle.std.proofs.Common.{map}
use Rattle.spec_stylesheet.specs.Instruction.{instrs}
use Rattle.spec_run.specs.Plan.{Wrapping, Begin, Wrap}
use Rattle.spec_run.specs.Content.{sets_used}
use Rattle.xt_syntax.specs.InstrView.{instr_of}
use Rattle.xt_engine.specs.View.{wrapping_of}
use Rattle.spec_node.specs.declared.node_ref.NodeRef.{NodeRef}
use Rattle.spec_run.specs.Plan.{Plan}
use Rattle.xt_syntax.specs.PartView.{site_of, place_of}
use Rattle.xt_frames.specs.declared.frame.Frame.TheVariants as frames
use Rattle.xt_frames.specs.View.{here_of, inside, after_body}
use Rattle.xt_frames.specs.Left.{left_in}
use Rattle.xt_frames.proofs.Lefts.{if_ok, if_both}
use Rattle.xt_frames.proofs.Performs.{perform_is, perform_halts, perform_lacks}
use Rattle.xt_instructions.proofs.making.element.Goals as goal

pub returns-in-Is-clause-does : goal.returns-in-Is-clause-does
returns-in-Is-clause-does g c =
    let truth = (g.W.World.state c.args.world.now).truth in
    let old = c.args.run.now in
    let b = c.args.body in
    let s = site_of c.args.site.now in
    let is = instrs (map instr_of c.args.content.now.value.items) in
    let used = sets_used s.place (here_of b.here) c.args.sets.now.items in
    let k : Wrapping → Plan NodeRef = λ how. Begin (used (inside s.place is (here_of b.here) (Wrap how (after_body b (left_in old))))) in
    let found = rw c.in-Is.is at c.in_ok-end.ensures.found k in
    if_ok c.collect_with_sets.result c.collect_with_sets.ensures (λ next h.
    perform_is truth _ (λ l. Begin (used (inside s.place is (here_of b.here) (Wrap (wrapping_of c.in-Is.end) (after_body b l))))) (frames.Body b) old c.element.new.run c.collect_with_sets.new.run next found.so c.element.ensures.still (h truth))

pub returns-in-Halts-clause-does : goal.returns-in-Halts-clause-does
returns-in-Halts-clause-does g c =
    let truth = (g.W.World.state c.args.world.now).truth in
    let old = c.args.run.now in
    let b = c.args.body in
    let s = site_of c.args.site.now in
    let is = instrs (map instr_of c.args.content.now.value.items) in
    let used = sets_used s.place (here_of b.here) c.args.sets.now.items in
    let k : Wrapping → Plan NodeRef = λ how. Begin (used (inside s.place is (here_of b.here) (Wrap how (after_body b (left_in old))))) in
    let found = rw c.in-Halts.is at c.in_ok-end.ensures.found k in
    perform_halts truth _ _ old c.element.new.run c.in-Halts.why found.so c.element.ensures.still

pub returns-in-Lacks-clause-does : goal.returns-in-Lacks-clause-does
returns-in-Lacks-clause-does g c =
    let truth = (g.W.World.state c.args.world.now).truth in
    let old = c.args.run.now in
    let b = c.args.body in
    let s = site_of c.args.site.now in
    let is = instrs (map instr_of c.args.content.now.value.items) in
    let used = sets_used s.place (here_of b.here) c.args.sets.now.items in
    let k : Wrapping → Plan NodeRef = λ how. Begin (used (inside s.place is (here_of b.here) (Wrap how (after_body b (left_in old))))) in
    let found = rw c.in-Lacks.is at c.in_ok-end.ensures.found k in
    if_both c.lack.result c.lack.ensures.needs c.lack.ensures.pushed (λ next e back.
    perform_lacks truth _ (frames.Body b) old c.element.new.run c.lack.new.run c.in-Lacks.name b.here.depth (place_of c.args.site.now.place) next found.so c.element.ensures.still e back)
