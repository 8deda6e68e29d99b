use Rattle.std.proofs.Common.{sym, ap, ◌∙◌}
use Rattle.std.specs.Prelude.{is_some}
use Rattle.spec_session.specs.Request.{position_of}
use Rattle.xt_wire.proofs.Paths.{position_parsed}
use Rattle.xt_wire.proofs.path.read_position.Goals as goal

pub returns-then-is_position : goal.returns-then-is_position
returns-then-is_position c =
    c.ok.ensures.value ∙ position_parsed c.args.part.now c.parse.result c.parse.ensures.value.0
    (ap (λ bytes. is_some (position_of bytes)) (sym c.as_bytes.ensures.value) ∙ sym c.is_position.ensures ∙ c.if-is_position.true)
