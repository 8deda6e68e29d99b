use Rattle.spec_compile.proofs.Sheets.{one_whole}
use Rattle.spec_compile.proofs.laws.one_sheet.Goals as goal

pub returns : goal.returns
returns c modules main r s =
    one_whole c.modules_have_one_reading_order.ensures
    (record { expression = c.one_answer.ensures; pattern = c.one_pattern.ensures; template = c.one_template.ensures })
