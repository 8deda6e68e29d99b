use Rattle.std.proofs.lemmas.Result.{on_ok_weaker}
use Rattle.xt_scoping.specs.View.{violation_in}
use Rattle.xt_compile.proofs.Faults.{its_module, no_module}
use Rattle.xt_compile.proofs.between.add_module.Goals as goal

pub returns-in-None : goal.returns-in-None
returns-in-None c before faulty = no_module before (violation_in c.args.violation.now) c.args.faulty.now.keys c.in-None.is faulty

pub returns-in-Some : goal.returns-in-Some
returns-in-Some c =
    on_ok_weaker c.add_name.result (λ added before faulty. its_module before (violation_in c.args.violation.now) c.in-Some.name c.args.faulty.now.keys c.add_name.new.faulty.keys c.in-Some.is added faulty)
    c.add_name.ensures
