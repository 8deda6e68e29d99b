use Rattle.std.proofs.Common.{sym}
use Rattle.xp_functions.specs.Part.{asked_by, told_by}
use Rattle.xp_functions.proofs.Within.{runs_as, first_is}
use Rattle.xp_functions.proofs.nodes.of_first.Goals as goal

pub returns-in-len1-up-clause-runs : goal.returns-in-len1-up-clause-runs
returns-in-len1-up-clause-runs g c supply depth = runs_as (sym (first_is (asked_by c.args.part) (told_by c.args.part) c.args.nodes.now _ c.in-len1-up.len_at_least)) (c.of_node.ensures.runs supply depth)
