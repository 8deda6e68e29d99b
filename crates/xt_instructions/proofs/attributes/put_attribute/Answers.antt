use Rattle.std.proofs.Common.{ℕ, List, ◌+◌, refl}
use Rattle.spec_run.specs.Plan.{Put}
use Rattle.xt_syntax.specs.PartView.{literal_attribute_of}
use Rattle.xt_frames.specs.View.{left_frame}
use Rattle.xt_frames.proofs.Performs.{put_does}
use Rattle.spec_run.specs.Content.{attribute_aliased}
use Rattle.spec_node.specs.declared.node_ref.NodeRef.{NodeRef}
use Rattle.spec_run.specs.Plan.{Plan}
use Rattle.xt_syntax.specs.PartView.{place_of}
use Rattle.xt_frames.specs.declared.frame.Frame.TheVariants as frames
use Rattle.xt_frames.specs.declared.run.Run.{Run}
use Rattle.xt_frames.specs.View.{here_of}
use Rattle.xt_frames.specs.Left.{left_in}
use Rattle.xt_frames.proofs.Lefts.{if_both}
use Rattle.xt_frames.proofs.Performs.{perform_is, perform_halts, perform_lacks}
use Rattle.xt_instructions.proofs.attributes.put_attribute.Goals as goal

pub returns-in_ok-push-in-Is-clause-does : goal.returns-in_ok-push-in-Is-clause-does
returns-in_ok-push-in-Is-clause-does g c =
    let truth = (g.W.World.state c.args.world.now).truth in
    let old = c.args.run.now in
    let b = c.args.attributes in
    let f = frames.Attributes (record { content = b.content; number = b.number; next = b.next + 1; here = b.here }) in
    let k : List ℕ → Plan NodeRef = λ t. Put (attribute_aliased (here_of b.here).aliases (literal_attribute_of c.args.attribute.now) t) (left_frame f (left_in old)) in
    let found = rw c.in-Is.is at c.in-Ok.ensures.found k in
    let one = c.expansion.new.run in
    let mid : Run = record { room = one.room; supplies = one.supplies; waiting = one.waiting; frames = one.frames; going = c.put_item.new.going; did = one.did } in
    let going = rw (c.as_slice-aliases.ensures.value, c.deref-in-Is.ensures, c.deref.ensures) at c.in_ok-put_item-in-Is.ensures in
    let does = put_does truth (attribute_aliased (here_of b.here).aliases (literal_attribute_of c.args.attribute.now) c.in-Is.text) (frames.Attributes c.advanced.result) one mid c.push.new.run refl refl refl going c.in_ok-push-in-Is.ensures in
    perform_is truth _ (λ l. Put (attribute_aliased (here_of b.here).aliases (literal_attribute_of c.args.attribute.now) c.in-Is.text) (left_frame f l)) (frames.Attributes b) old c.expansion.new.run c.push.new.run _ found.so c.expansion.ensures.still (rw c.advanced.ensures at does)

pub returns-in-Halts-clause-does : goal.returns-in-Halts-clause-does
returns-in-Halts-clause-does g c =
    let truth = (g.W.World.state c.args.world.now).truth in
    let old = c.args.run.now in
    let b = c.args.attributes in
    let f = frames.Attributes (record { content = b.content; number = b.number; next = b.next + 1; here = b.here }) in
    let k : List ℕ → Plan NodeRef = λ t. Put (attribute_aliased (here_of b.here).aliases (literal_attribute_of c.args.attribute.now) t) (left_frame f (left_in old)) in
    let found = rw c.in-Halts.is at c.in-Ok.ensures.found k in
    perform_halts truth _ _ old c.expansion.new.run c.in-Halts.why found.so c.expansion.ensures.still

pub returns-in-Lacks-clause-does : goal.returns-in-Lacks-clause-does
returns-in-Lacks-clause-does g c =
    let truth = (g.W.World.state c.args.world.now).truth in
    let old = c.args.run.now in
    let b = c.args.attributes in
    let f = frames.Attributes (record { content = b.content; number = b.number; next = b.next + 1; here = b.here }) in
    let k : List ℕ → Plan NodeRef = λ t. Put (attribute_aliased (here_of b.here).aliases (literal_attribute_of c.args.attribute.now) t) (left_frame f (left_in old)) in
    let found = rw c.in-Lacks.is at c.in-Ok.ensures.found k in
    if_both c.lack.result c.lack.ensures.needs c.lack.ensures.pushed (λ next e back.
    perform_lacks truth _ (frames.Attributes b) old c.expansion.new.run c.lack.new.run c.in-Lacks.name b.here.depth (place_of c.args.site.now.place) next found.so c.expansion.ensures.still e back)
