use Rattle.std.proofs.Common.{sym, refl}
use Rattle.xp_functions.proofs.Within.{few, many, runs_as}
use Rattle.xt_questions.proofs.Steps.{runs_gives}
use Rattle.xp_functions.proofs.key.arranged.Goals as goal

pub returns-then-from-lt2-clause-runs : goal.returns-then-from-lt2-clause-runs
returns-then-from-lt2-clause-runs g c supply depth = runs_as (sym (few c.args.from.now c.args.found.items c.if-from-lt2.true)) (runs_gives refl)

pub returns-else-from-lt2-clause-runs : goal.returns-else-from-lt2-clause-runs
returns-else-from-lt2-clause-runs g c supply depth = runs_as (sym (many c.args.from.now c.args.found.items c.if-from-lt2.false)) (c.ask_order.ensures.runs supply depth)
