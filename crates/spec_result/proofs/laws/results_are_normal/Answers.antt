use Rattle.std.proofs.Common.{subst}
use Rattle.spec_document.specs.Forest.{IsForestOf, written}
use Rattle.spec_document.proofs.Written.{written_forest, plain_itself}
use Rattle.spec_result.specs.Shape.{shaped}
use Rattle.spec_result.proofs.Normal.{normal}
use Rattle.spec_result.proofs.laws.results_are_normal.Goals as goal

pub returns-clause-normal : goal.returns-clause-normal
returns-clause-normal c = normal

pub returns-clause-reads_back : goal.returns-clause-reads_back
returns-clause-reads_back c s = subst (IsForestOf (written (shaped s))) (plain_itself (shaped s)) (written_forest (shaped s) (normal s))
