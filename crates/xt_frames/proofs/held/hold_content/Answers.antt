use Rattle.std.proofs.Common.{◌≡◌, ◌<◌, length, map, refl, ap, ◌∙◌, subst, arith}
use Rattle.std.proofs.lemmas.Bool.Decides.{nat_tests}
use Rattle.spec_stylesheet.specs.Instruction.{instrs}
use Rattle.xt_syntax.specs.PartView.{site_of}
use Rattle.xt_syntax.specs.InstrView.{instr_of}
use Rattle.xt_frames.specs.declared.frame.Frame.TheVariants as frames
use Rattle.xt_frames.specs.declared.run.Run.{Run}
use Rattle.xt_frames.specs.View.{here_of, inside}
use Rattle.xt_frames.specs.Left.{left_in, Does}
use Rattle.spec_run.specs.Content.{Here}
use Rattle.spec_run.specs.Going.{begun}
use Rattle.xt_progress.specs.View.{going_of}
use Rattle.spec_node.specs.declared.node_ref.NodeRef.{NodeRef}
use Rattle.xt_frames.proofs.Lefts.{if_ok, no_content, some_content, held_in_sink}
use Rattle.xt_frames.proofs.held.hold_content.Goals as goal

pub returns-then-is_empty : goal.returns-then-is_empty
returns-then-is_empty c =
    let items = c.args.content.now.value.items in
    let none : length items ≡ 0 = grind (arith, nat_tests, c.args.content.now.value.ok.0, c.is_empty.ensures, c.deref.ensures, c.if-is_empty.true) in
    rw (no_content items none) (rw c.new.ensures at c.hold_value.ensures)

pub returns : goal.returns
returns c =
    let items = c.args.content.now.value.items in
    let some : 0 < length items = grind (arith, nat_tests, c.args.content.now.value.ok.0, c.is_empty.ensures, c.deref.ensures, c.if-is_empty.false) in
    let old = c.args.run.now in
    let low : Run = record { room = old.room; supplies = old.supplies; waiting = old.waiting; frames = old.frames; going = c.begin.new.self; did = old.did } in
    let p = c.push.new.run in
    let b = c.in_ok-push.ensures in
    let mid : Run = record { room = p.room; supplies = p.supplies; waiting = p.waiting; frames = p.frames; going = c.begin.new.self; did = p.did } in
    let is = instrs (map instr_of items) in
    rw (some_content items some)
    (if_ok c.go_into.result c.go_into.ensures (λ next h ask.
    let At : Here NodeRef → Type 0 = λ x. Does ask (inside (site_of c.args.site.now).place is x (left_in mid)) (length mid.frames.items) mid c.go_into.new.run next in
    held_in_sink ask old low mid c.go_into.new.run (site_of c.args.site.now).place is (here_of c.args.here.now) (frames.Take c.args.holder) next
    refl refl refl (c.in_ok-begin.ensures ∙ ap (λ g. begun (going_of g)) b.going) (record { frames = b.frames; going = refl; room = b.room; supplies = b.supplies }) (subst At c.in_ok-here.ensures.here (rw c.in_ok-inner.ensures at h ask))))
