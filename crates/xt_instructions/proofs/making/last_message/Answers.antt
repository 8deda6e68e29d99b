use Rattle.std.proofs.Common.{map, subst, length, suc}
use Rattle.spec_stylesheet.specs.Place.{Place}
use Rattle.spec_stylesheet.specs.Instruction.{instrs}
use Rattle.spec_run.specs.Plan.{Begin, Wrap, Stop, AsMessage}
use Rattle.spec_run.specs.Content.{terminated}
use Rattle.xt_syntax.specs.PartView.{place_of}
use Rattle.xt_syntax.specs.InstrView.{instr_of}
use Rattle.xt_frames.specs.View.{here_of, inside}
use Rattle.xt_frames.specs.Left.{Does}
use Rattle.xt_frames.proofs.Lefts.{if_ok}
use Rattle.xt_instructions.proofs.making.last_message.Goals as goal

pub returns : goal.returns
returns c =
    let r = c.args.run.now in
    let is = instrs (map instr_of c.args.content.now.value.items) in
    if_ok c.sink.result c.sink.ensures (λ next h ask.
    let P : Place → Type 0 = λ p. Does ask (Begin (inside (place_of c.args.site.now.place) is (here_of c.args.here) (Wrap AsMessage (Stop (terminated p))))) (suc (length r.frames.items)) r c.sink.new.run next in
    subst P c.in_ok-copy_place.ensures (h ask))
