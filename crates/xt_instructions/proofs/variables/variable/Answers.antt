use Rattle.std.proofs.Common.{map}
use Rattle.std.specs.Option.{option_map}
use Rattle.spec_stylesheet.specs.Instruction.{instrs}
use Rattle.xt_syntax.specs.View.{expr_of}
use Rattle.xt_syntax.specs.PartView.{site_of}
use Rattle.xt_syntax.specs.InstrView.{instr_of}
use Rattle.xt_frames.proofs.Lefts.{if_ok}
use Rattle.xt_instructions.proofs.Held.{IsRest, rest_sees}
use Rattle.xt_instructions.proofs.variables.variable.Goals as goal

pub returns-clause-does : goal.returns-clause-does
returns-clause-does g c =
    let truth = (g.W.World.state c.args.world.now).truth in
    let is = instrs (map instr_of c.args.content.now.value.items) in
    let shared = c.in-Ok-share_body.shared in
    let e : IsRest c.args.body c.advanced.result shared c.in-Ok.name c.args.name.now = record {
      is_rest = c.advanced.ensures;
      same_content = c.in-Ok-share_body.ensures.content;
      same_next = c.in-Ok-share_body.ensures.next;
      same_here = c.in-Ok-share_body.ensures.here;
      same_name = c.in-Ok.ensures;
    } in
    if_ok c.hold.result c.hold.ensures.does (λ next h.
    rest_sees truth (site_of c.args.site.now) (option_map expr_of c.args.select.now) is c.args.body c.advanced.result shared c.in-Ok-share.here c.in-Ok.name c.args.name.now c.args.run.now c.hold.new.run next c.in-Ok-share.ensures.here e h)
