use Rattle.spec_run.specs.Documents.{main_name}
use Rattle.xt_import.specs.View.{modules_in}
use Rattle.xt_held.specs.Called.{numbered_modules}
use Rattle.xt_held.proofs.Calling.{none_called}
use Rattle.xt_held.proofs.Coming.{is_not_there, is_there, none_there, one_there}
use Rattle.xt_held.proofs.Keys.{is_main}
use Rattle.xt_held.proofs.stylesheet.compile.Goals as goal

pub compiled_main-requires : goal.compiled_main-requires
compiled_main-requires c =
    is_there (modules_in c.args.modules.now.entries) main_name c.get.result c.in-Some.field-0 (is_main c.args.modules.now.entries c.get.result c.get.ensures.value) c.in-Some.is

pub returns-in-None-clause-compiled : goal.returns-in-None-clause-compiled
returns-in-None-clause-compiled c =
    let modules = modules_in c.args.modules.now.entries in
    none_there modules (is_not_there modules main_name c.get.result (is_main c.args.modules.now.entries c.get.result c.get.ensures.value) c.in-None.is)

pub returns-in-None-clause-called : goal.returns-in-None-clause-called
returns-in-None-clause-called c = none_called (modules_in c.args.modules.now.entries) (numbered_modules c.args.modules.now.entries)

pub returns-in_ok-compiled_main-in-Some-clause-compiled : goal.returns-in_ok-compiled_main-in-Some-clause-compiled
returns-in_ok-compiled_main-in-Some-clause-compiled c =
    let modules = modules_in c.args.modules.now.entries in
    one_there modules c.in_ok-compiled_main-in-Some.field-0
    (is_there modules main_name c.get.result c.in-Some.field-0 (is_main c.args.modules.now.entries c.get.result c.get.ensures.value) c.in-Some.is)
    c.in_ok-compiled_main-in-Some.ensures.compiled
