use Rattle.std.proofs.Common.{List, ap, map, ◌∙◌}
use Rattle.xt_syntax.specs.SheetView.{sheet_of, unit_of}
use Rattle.xt_syntax.specs.declared.unit.Unit.{Unit}
use Rattle.xt_held.specs.Called.{numbered_modules, numbers_among}
use Rattle.xt_held.proofs.Calling.{numbered_called}
use Rattle.xt_held.proofs.Coming.{holds_lifted}
use Rattle.xt_held.proofs.stylesheet.numbered.Goals as goal

pub returns-clause-holds : goal.returns-clause-holds
returns-clause-holds c =
    holds_lifted c.in-Ok.numbers.items (sheet_of c.args.sheet) (sheet_of c.in_ok-lifted.lifted) c.runnable.result c.in_ok-lifted.ensures c.runnable.ensures

pub returns-clause-called : goal.returns-clause-called
returns-clause-called c all whole =
    let numbered = numbered_modules c.args.modules.now.entries in
    let given = c.in-Ok.ensures ∙ ap (λ (us : List Unit). numbers_among numbered (map unit_of us)) c.as_slice.ensures.value in
    numbered_called c.one_sheet.ensures c.in-Ok.numbers.items numbered all (sheet_of c.args.sheet) (sheet_of c.in_ok-lifted.lifted) c.runnable.result
    c.in_ok-lifted.ensures given c.runnable.ensures whole
