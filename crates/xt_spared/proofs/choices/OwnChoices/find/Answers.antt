use Rattle.std.proofs.Common.{arith}
use Rattle.xt_spared.proofs.Among.{among_at}
use Rattle.xt_spared.proofs.choices.OwnChoices.find.Goals as goal

pub returns-then-is_same_choice-clause-among : goal.returns-then-is_same_choice-clause-among
returns-then-is_same_choice-clause-among c =
    among_at c.args.self.now.list.items c.in-Some.turn c.index-own.result.now (omega arith) c.index-own.ensures
