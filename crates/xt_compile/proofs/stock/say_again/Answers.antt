use Rattle.std.proofs.Common.{ap, sym, ◌∙◌}
use Rattle.spec_compile.proofs.Readings.{OneAnswer}
use Rattle.xt_import.specs.View.{modules_in, plain_of}
use Rattle.xt_compile.specs.View.{says_in}
use Rattle.xt_compile.proofs.Found.{IsFound, found, no_module, its_module}
use Rattle.xt_compile.proofs.Stocked.{ok_of, says_same}
use Rattle.xt_compile.proofs.stock.say_again.Goals as goal

pub returns-in-None : goal.returns-in-None
returns-in-None c said says there =
    let f : IsFound c.args.modules.now.entries c.args.name.now c.get.result
    = found c.as_str.result.now c.as_str.utf8 c.as_str.ensures.characters c.get.ensures.value in
    let none = no_module f c.in-None.is in
    let some = (says.so c.args.name.now there).is in
    absurd (cc (none, some))

pub returns-in-Ok : goal.returns-in-Ok
returns-in-Ok c said says there =
    let f : IsFound c.args.modules.now.entries c.args.name.now c.get.result
    = found c.as_str.result.now c.as_str.utf8 c.as_str.ensures.characters c.get.ensures.value in
    let one : OneAnswer = record { expression = c.one_answer.ensures; pattern = c.one_pattern.ensures; template = c.one_template.ensures } in
    let same = says_same (modules_in c.args.modules.now.entries) c.args.name.now (plain_of c.in-Some.document.now) said (says_in c.in_ok-again-in-Some.field-0) one
    (its_module c.in-Some.document f c.in-Some.is) c.in_ok-again-in-Some.ensures says there in
    ap ok_of (ap says_in (sym c.in-Ok.is) ∙ same)

pub returns : goal.returns
returns c said says there =
    let f : IsFound c.args.modules.now.entries c.args.name.now c.get.result
    = found c.as_str.result.now c.as_str.utf8 c.as_str.ensures.characters c.get.ensures.value in
    let one : OneAnswer = record { expression = c.one_answer.ensures; pattern = c.one_pattern.ensures; template = c.one_template.ensures } in
    let same = says_same (modules_in c.args.modules.now.entries) c.args.name.now (plain_of c.in-Some.document.now) said (says_in c.in_ok-again-in-Some.field-0) one
    (its_module c.in-Some.document f c.in-Some.is) c.in_ok-again-in-Some.ensures says there in
    let not = ap says_in (sym c.in-Err.is) ∙ same in
    absurd (cc (not))
