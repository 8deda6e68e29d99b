use Rattle.std.proofs.Common.{None, map, refl}
use Rattle.xt_syntax.specs.SheetView.{sheet_of, space_rule_of}
use Rattle.xt_held.proofs.Coming.{answers_given}
use Rattle.xt_held.proofs.stylesheet.runnable.Goals as goal

pub returns : goal.returns
returns c =
    let sheet = sheet_of c.args.sheet in
    let answers = answers_given c.args.numbers.items c.in-Ok.stylesheet sheet (record { rules = map space_rule_of c.new.result.items }) None c.in-Ok.ensures in
    (answers, refl, refl)
