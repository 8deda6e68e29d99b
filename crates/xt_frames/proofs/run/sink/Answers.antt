use Rattle.std.proofs.Common.{map}
use Rattle.spec_stylesheet.specs.Instruction.{instrs}
use Rattle.xt_syntax.specs.PartView.{place_of}
use Rattle.xt_syntax.specs.InstrView.{instr_of}
use Rattle.xt_frames.specs.declared.frame.Frame.TheVariants as frames
use Rattle.xt_frames.specs.View.{here_of}
use Rattle.xt_frames.proofs.Lefts.{sink_after, if_ok}
use Rattle.xt_frames.proofs.run.sink.Goals as goal

pub returns : goal.returns
returns c =
    let r = c.args.run.now in
    let b = c.in-Ok.ensures in
    if_ok c.go_into.result c.go_into.ensures (λ next h ask.
    sink_after ask r c.begin.new.run c.push.new.run c.go_into.new.run (place_of c.args.place.now) (instrs (map instr_of c.args.content.now.value.items)) (here_of c.args.here) c.args.rest (frames.Wrap c.args.end) next
    b.frames b.going b.room b.supplies c.in_ok-push.ensures (rw c.in_ok-inner.ensures at h ask))
