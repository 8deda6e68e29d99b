use Rattle.xt_import.specs.View.{plain_of}
use Rattle.xt_compile.proofs.Reading.{read_faulty, read_well}
use Rattle.xt_compile.proofs.read.read_document.Goals as goal

pub returns-in-Ok : goal.returns-in-Ok
returns-in-Ok c modules is judged =
    read_well {modules = modules} c.args.listed (plain_of c.args.document.now) c.in_ok-module.module.fault c.in_ok-says.says c.answer.result c.in-Ok.top_levels is judged
    c.in_ok-module.ensures.fault c.in_ok-says.ensures c.answer.ensures c.in-Ok.is

pub returns : goal.returns
returns c modules is judged =
    read_faulty {modules = modules} c.args.listed (plain_of c.args.document.now) c.in_ok-module.module.fault c.in_ok-says.says c.answer.result c.in-Err.fault
    c.refusal_at.result is judged c.in_ok-module.ensures.fault c.in_ok-says.ensures c.answer.ensures c.in-Err.is c.refusal_at.ensures
