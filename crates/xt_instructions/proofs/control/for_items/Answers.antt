use Rattle.std.proofs.Common.{List, [], map}
use Rattle.spec_stylesheet.specs.Instruction.{bindings}
use Rattle.spec_meaning.specs.Stream.{Ended}
use Rattle.spec_run.specs.Plan.{Put}
use Rattle.spec_run.specs.Content.{passed, items_entered, sorted, template_called}
use Rattle.xt_syntax.specs.InstrView.{binding_of}
use Rattle.spec_node.specs.declared.node_ref.NodeRef.{NodeRef}
use Rattle.spec_run.specs.Plan.{Plan}
use Rattle.xt_syntax.specs.PartView.{site_of, place_of, sort_key_of}
use Rattle.xt_frames.specs.declared.frame.Frame.TheVariants as frames
use Rattle.xt_frames.specs.View.{here_of, after_body}
use Rattle.xt_frames.specs.Left.{left_in}
use Rattle.xt_frames.proofs.Lefts.{if_ok, if_both}
use Rattle.xt_frames.proofs.Performs.{perform_is, perform_halts, perform_lacks}
use Rattle.xt_instructions.proofs.control.for_items.Goals as goal

pub returns-in-Is-clause-does : goal.returns-in-Is-clause-does
returns-in-Is-clause-does g c =
    let truth = (g.W.World.state c.args.world.now).truth in
    let old = c.args.run.now in
    let b = c.args.body in
    let s = site_of c.args.site.now in
    let bs = bindings (map binding_of c.args.bindings.now.value.items) in
    let keys = map sort_key_of c.args.keys.now.value.items in
    let k : List NodeRef → Plan NodeRef = λ ns. Put Ended (passed bs (here_of b.here) [] (λ parameters. sorted keys (here_of b.here) ns (λ ms. items_entered s.place (template_called c.args.name.now (here_of b.here).templates) parameters b.here.depth ms (after_body b (left_in old))))) in
    let found = rw c.in-Is.is at c.in-Ok.ensures.found k in
    if_ok c.items_of.result c.items_of.ensures (λ next h.
    perform_is truth _ (λ l. Put Ended (passed bs (here_of b.here) [] (λ parameters. sorted keys (here_of b.here) c.in-Is.nodes.items (λ ms. items_entered s.place (template_called c.args.name.now (here_of b.here).templates) parameters b.here.depth ms (after_body b l))))) (frames.Body b) old c.nodes.new.run c.items_of.new.run next found.so c.nodes.ensures.still (h truth))

pub returns-in-Halts-clause-does : goal.returns-in-Halts-clause-does
returns-in-Halts-clause-does g c =
    let truth = (g.W.World.state c.args.world.now).truth in
    let old = c.args.run.now in
    let b = c.args.body in
    let s = site_of c.args.site.now in
    let bs = bindings (map binding_of c.args.bindings.now.value.items) in
    let keys = map sort_key_of c.args.keys.now.value.items in
    let k : List NodeRef → Plan NodeRef = λ ns. Put Ended (passed bs (here_of b.here) [] (λ parameters. sorted keys (here_of b.here) ns (λ ms. items_entered s.place (template_called c.args.name.now (here_of b.here).templates) parameters b.here.depth ms (after_body b (left_in old))))) in
    let found = rw c.in-Halts.is at c.in-Ok.ensures.found k in
    perform_halts truth _ _ old c.nodes.new.run c.in-Halts.why found.so c.nodes.ensures.still

pub returns-in-Lacks-clause-does : goal.returns-in-Lacks-clause-does
returns-in-Lacks-clause-does g c =
    let truth = (g.W.World.state c.args.world.now).truth in
    let old = c.args.run.now in
    let b = c.args.body in
    let s = site_of c.args.site.now in
    let bs = bindings (map binding_of c.args.bindings.now.value.items) in
    let keys = map sort_key_of c.args.keys.now.value.items in
    let k : List NodeRef → Plan NodeRef = λ ns. Put Ended (passed bs (here_of b.here) [] (λ parameters. sorted keys (here_of b.here) ns (λ ms. items_entered s.place (template_called c.args.name.now (here_of b.here).templates) parameters b.here.depth ms (after_body b (left_in old))))) in
    let found = rw c.in-Lacks.is at c.in-Ok.ensures.found k in
    if_both c.lack.result c.lack.ensures.needs c.lack.ensures.pushed (λ next e back.
    perform_lacks truth _ (frames.Body b) old c.nodes.new.run c.lack.new.run c.in-Lacks.name b.here.depth (place_of c.args.site.now.place) next found.so c.nodes.ensures.still e back)
