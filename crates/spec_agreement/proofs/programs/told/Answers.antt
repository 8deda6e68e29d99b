use Rattle.std.proofs.Common.{ap}
use Rattle.spec_meaning.specs.Program.{Ending}
use Rattle.spec_meaning.proofs.Runs.{run_is}
use Rattle.spec_agreement.proofs.programs.told.Goals as goal

pub returns : goal.returns
returns c = λ type p supply depth s. (
  ap (λ (e : Ending _ _). e.said) (run_is supply depth p s),
  ap (λ (e : Ending _ _). e.state.truth) (run_is supply depth p s),
  ap (λ (e : Ending _ _). e.state.reads) (run_is supply depth p s),
)
