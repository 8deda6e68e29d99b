use Rattle.std.proofs.Common.{[], Option, Some, ap, subst, sym, ◌∙◌}
use Rattle.std.proofs.lemmas.Result.{IfOk-weaker}
use Rattle.std.specs.Prelude.{IfOk}
use Rattle.std.specs.Option.{option_copied}
use Rattle.xt_touch.specs.View.{since_of}
use Rattle.xt_held.specs.RunView.{StaysSpared, last_known}
use Rattle.xt_held.specs.declared.stylesheet.Compiled.{Compiled}
use Rattle.xt_held.specs.Marked.{known_of}
use Rattle.xt_held.proofs.Marked.{same_stays}
use Rattle.xt_held.proofs.Told.{none_add, refused_add, same_told, styles}
use Rattle.xt_held.proofs.marking.since_modules.Goals as goal
use denote.Ref.{Bor}

pub returns-in-None-clause-spared : goal.returns-in-None-clause-spared
returns-in-None-clause-spared c = λ parameters source.
    let what = option_copied c.args.known in
    subst (λ (new : Option (Bor Compiled)). IfOk c.copy.result (λ next. StaysSpared what (last_known (option_copied new) what) parameters parameters source source
    (since_of c.args.since.now) (since_of next))) (sym c.in-None.is)
    (IfOk-weaker c.copy.result _ _ (λ next is. same_stays what parameters source (since_of c.args.since.now) (since_of next) is) c.copy.ensures)

pub returns-in-None-clause-told : goal.returns-in-None-clause-told
returns-in-None-clause-told c = λ marks h modules are.
    IfOk-weaker c.copy.result _ _ (λ next is. (
      [],
      none_add modules (known_of (option_copied c.args.known)) (option_copied c.args.new) (ap option_copied c.in-None.is) are,
      same_told c.args.records.now marks (since_of c.args.since.now) (since_of next) is h,
    )) c.copy.ensures

pub returns-in-Refused-clause-spared : goal.returns-in-Refused-clause-spared
returns-in-Refused-clause-spared c = λ parameters source.
    let what = option_copied c.args.known in
    subst (λ (new : Option Compiled). IfOk c.copy-in-Refused.result (λ next. StaysSpared what (last_known new what) parameters parameters source source
    (since_of c.args.since.now) (since_of next))) (sym (ap option_copied c.in-Some.is ∙ ap Some c.in-Refused.is))
    (IfOk-weaker c.copy-in-Refused.result _ _ (λ next is. same_stays what parameters source (since_of c.args.since.now) (since_of next) is) c.copy-in-Refused.ensures)

pub returns-in-Refused-clause-told : goal.returns-in-Refused-clause-told
returns-in-Refused-clause-told c = λ marks h modules are.
    IfOk-weaker c.copy-in-Refused.result _ _ (λ next is. (
      [],
      refused_add modules (known_of (option_copied c.args.known)) (option_copied c.args.new) c.in-Refused.field-0
          (ap option_copied c.in-Some.is ∙ ap Some c.in-Refused.is) are,
      same_told c.args.records.now marks (since_of c.args.since.now) (since_of next) is h,
    )) c.copy-in-Refused.ensures

pub returns-in-Stylesheet-clause-spared : goal.returns-in-Stylesheet-clause-spared
returns-in-Stylesheet-clause-spared c = λ parameters source.
    let what = option_copied c.args.known in
    subst (λ (new : Option Compiled). IfOk c.since_stylesheet.result (λ next. StaysSpared what (last_known new what) parameters parameters source source
    (since_of c.args.since.now) (since_of next))) (sym (ap option_copied c.in-Some.is ∙ ap Some c.in-Stylesheet.is))
    (c.since_stylesheet.ensures.spared c.in-Stylesheet.field-2 parameters source)

pub returns-in-Stylesheet-clause-told : goal.returns-in-Stylesheet-clause-told
returns-in-Stylesheet-clause-told c = λ marks h modules are.
    let s = styles modules (option_copied c.args.new) c.in-Stylesheet.stylesheet c.in-Stylesheet.space_rules c.in-Stylesheet.field-2
    (ap option_copied c.in-Some.is ∙ ap Some c.in-Stylesheet.is) are in
    IfOk-weaker c.since_stylesheet.result _ _ (λ next told. (told.0, s.adds (known_of (option_copied c.args.known)) told.0 told.1, told.2))
    (c.since_stylesheet.ensures.told marks h s.sheet s.rules_are)
