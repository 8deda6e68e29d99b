use Rattle.std.proofs.Common.{map, refl}
use Rattle.spec_stylesheet.specs.Instruction.{instrs}
use Rattle.xt_syntax.specs.PartView.{place_of}
use Rattle.xt_syntax.specs.InstrView.{instr_of}
use Rattle.xt_frames.proofs.Lefts.{if_ok}
use Rattle.xt_instructions.proofs.Into.{into_body}
use Rattle.xt_instructions.proofs.simple.into_content.Goals as goal

pub returns : goal.returns
returns c =
    if_ok c.go_into.result c.go_into.ensures (λ next h ask.
    into_body ask c.args.run.now c.put_rest.new.run c.go_into.new.run (place_of c.args.site.now.place) (instrs (map instr_of c.args.content.now.value.items)) c.args.body _ c.in_ok-here.here next c.in_ok-here.ensures.here refl c.in_ok-here.ensures.pushed (rw c.in_ok-inner.ensures at h ask))
