use Rattle.std.proofs.Common.{map, sym, ◌∙◌}
use Rattle.std.proofs.lemmas.Result.{IfOk-weaker}
use Rattle.xt_syntax.specs.SheetView.{sheet_of, unit_of}
use Rattle.xt_lift.proofs.Decided.{not_plain, not_apart, is_lifted}
use Rattle.xt_lift.proofs.sheet.with_items.Goals as goal

pub returns-then-not-is_plain : goal.returns-then-not-is_plain
returns-then-not-is_plain c = not_plain (sheet_of c.args.sheet) (sym c.is_plain.ensures ∙ c.if-not-is_plain.true)

pub returns-then-not-are_apart : goal.returns-then-not-are_apart
returns-then-not-are_apart c =
    not_apart (sheet_of c.args.sheet) (map unit_of c.in-Ok.made.items.items) c.in-Ok.ensures.items (sym c.are_apart.ensures ∙ c.if-not-are_apart.true)

pub returns : goal.returns
returns c =
    let lifted =
    is_lifted (sheet_of c.args.sheet) (map unit_of c.in-Ok.made.left.items) (map unit_of c.in-Ok.made.items.items) c.in-Ok.ensures.left c.in-Ok.ensures.items
    (sym c.is_plain.ensures ∙ c.if-not-is_plain.false) (sym c.are_apart.ensures ∙ c.if-not-are_apart.false) in
    IfOk-weaker c.put_in.result _ _ (λ s e. e ∙ lifted) c.put_in.ensures
