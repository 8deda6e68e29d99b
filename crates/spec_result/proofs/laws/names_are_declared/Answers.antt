use Rattle.spec_result.specs.Recovery.{standing}
use Rattle.spec_result.proofs.Readable.{readable}
use Rattle.spec_result.proofs.Declared.{named}
use Rattle.spec_result.proofs.laws.names_are_declared.Goals as goal

pub returns : goal.returns
returns c scope stream good = named (standing stream) scope (readable stream) good
