use Rattle.std.proofs.Common.{sym}
use Rattle.xt_instructions.proofs.Named.{no_name}
use Rattle.xt_instructions.proofs.copying.kind_in.Goals as goal

pub returns-in_default : goal.returns-in_default
returns-in_default c = sym (no_name c.args.answer.now c.in_default.not-Named).kind
