use Rattle.std.proofs.Common.{subst}
use Rattle.spec_document.specs.Forest.{IsForestOf, written}
use Rattle.spec_document.proofs.Written.{written_forest, plain_itself}
use Rattle.spec_document.proofs.laws.written_forests_read_back.Goals as goal

pub returns : goal.returns
returns c f normal = subst (IsForestOf (written f)) (plain_itself f) (written_forest f normal)
