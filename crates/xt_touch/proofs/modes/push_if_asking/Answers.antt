use Rattle.std.proofs.Common.{List, Option, ap, sym, ◌∙◌}
use Rattle.spec_document.specs.Name.{Expanded}
use Rattle.spec_touch.specs.Plain.{is_mode_among}
use Rattle.xt_syntax.specs.SheetView.{rule_of}
use Rattle.xt_touch.proofs.Asking.{with_known}
use Rattle.xt_touch.proofs.modes.push_if_asking.Goals as goal

pub returns-then-is_among : goal.returns-then-is_among
returns-then-is_among c = λ rules h.
    with_known c.args.list.now.items rules (rule_of c.args.rule.now) (sym c.is_plain_pattern.ensures ∙ c.if-is_plain_pattern.false)
    (ap (λ (modes : List (Option Expanded)). is_mode_among modes c.args.rule.now.mode) (sym c.as_slice.ensures.value) ∙ sym c.is_among.ensures
    ∙ c.if-is_among.true) h
