use Rattle.spec_compile.proofs.Wanting.{some_sheet}
use Rattle.spec_compile.proofs.laws.no_want_of_sheet.Goals as goal

pub returns : goal.returns
returns c = some_sheet
