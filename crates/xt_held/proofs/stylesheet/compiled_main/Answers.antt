use Rattle.xt_import.specs.View.{modules_in}
use Rattle.xt_held.specs.Called.{numbered_modules}
use Rattle.xt_held.proofs.Calling.{refused_called}
use Rattle.xt_held.proofs.stylesheet.compiled_main.Goals as goal

pub returns-in-Err-Refused-clause-called : goal.returns-in-Err-Refused-clause-called
returns-in-Err-Refused-clause-called c =
    refused_called (modules_in c.args.modules.now.entries) (numbered_modules c.args.modules.now.entries) c.in-Err-Refused.refusal
