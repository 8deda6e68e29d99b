use Rattle.std.proofs.Common.{[], ◌∷◌, Option, Some, ap, subst, sym, ◌∙◌}
use Rattle.std.proofs.lemmas.Result.{IfOk-weaker}
use Rattle.std.specs.Prelude.{IfOk}
use Rattle.std.specs.Option.{option_copied}
use Rattle.spec_cost.specs.Marking.{Anything, Restyled}
use Rattle.xt_syntax.specs.SheetView.{space_rules_of}
use Rattle.xt_tree.proofs.Bools.{true_false}
use Rattle.xt_touch.specs.View.{since_of}
use Rattle.xt_held.specs.RunView.{StaysSpared}
use Rattle.xt_held.specs.declared.stylesheet.Compiled.{Compiled}
use Rattle.xt_held.specs.declared.stylesheet.Compiled.TheVariants as compiled
use Rattle.xt_held.specs.Marked.{known_of}
use Rattle.xt_held.proofs.Marked.{anything_stays}
use Rattle.xt_held.proofs.Told.{anything_told, style_other, style_same, style_unknown}
use Rattle.xt_held.proofs.marking.since_stylesheet.Goals as goal

pub returns-in-None-clause-spared : goal.returns-in-None-clause-spared
returns-in-None-clause-spared c = λ method parameters source.
    IfOk-weaker c.anything.result _ _ (λ next is.
    anything_stays (option_copied c.args.known) (Some (compiled.Stylesheet c.args.stylesheet.now c.args.space_rules.now method)) parameters parameters source source
    (since_of c.args.since.now) (since_of next) is) c.anything.ensures

pub returns-in-None-clause-told : goal.returns-in-None-clause-told
returns-in-None-clause-told c = λ marks h sheet rules.
    IfOk-weaker c.anything.result _ _ (λ next is. (
      Anything ∷ [],
      style_unknown (known_of (option_copied c.args.known)) sheet (ap known_of (ap option_copied c.in-None.is)),
      anything_told c.args.records.now marks (since_of next) is,
    )) c.anything.ensures

pub returns-in-Refused-clause-spared : goal.returns-in-Refused-clause-spared
returns-in-Refused-clause-spared c = λ method parameters source.
    IfOk-weaker c.anything-in-Refused.result _ _ (λ next is.
    anything_stays (option_copied c.args.known) (Some (compiled.Stylesheet c.args.stylesheet.now c.args.space_rules.now method)) parameters parameters source source
    (since_of c.args.since.now) (since_of next) is) c.anything-in-Refused.ensures

pub returns-in-Refused-clause-told : goal.returns-in-Refused-clause-told
returns-in-Refused-clause-told c = λ marks h sheet rules.
    IfOk-weaker c.anything-in-Refused.result _ _ (λ next is. (
      Anything ∷ [],
      style_unknown (known_of (option_copied c.args.known)) sheet (ap known_of (ap option_copied c.in-Some.is ∙ ap Some c.in-Refused.is)),
      anything_told c.args.records.now marks (since_of next) is,
    )) c.anything-in-Refused.ensures

pub returns-then-not-same-clause-spared : goal.returns-then-not-same-clause-spared
returns-then-not-same-clause-spared c = λ method parameters source.
    IfOk-weaker c.anything-then-not-same.result _ _ (λ next is.
    anything_stays (option_copied c.args.known) (Some (compiled.Stylesheet c.args.stylesheet.now c.args.space_rules.now method)) parameters parameters source source
    (since_of c.args.since.now) (since_of next) is) c.anything-then-not-same.ensures

pub returns-then-not-same-clause-told : goal.returns-then-not-same-clause-told
returns-then-not-same-clause-told c = λ marks h sheet rules.
    IfOk-weaker c.anything-then-not-same.result _ _ (λ next is. (
      Anything ∷ [],
      style_other (known_of (option_copied c.args.known)) sheet (space_rules_of c.in-Stylesheet.rules) (space_rules_of c.args.space_rules.now)
          (ap known_of (ap option_copied c.in-Some.is ∙ ap Some c.in-Stylesheet.is))
          (λ same. true_false (sym (c.same.ensures.1 same) ∙ c.if-not-same.true)) rules,
      anything_told c.args.records.now marks (since_of next) is,
    )) c.anything-then-not-same.ensures

pub returns-else-not-same-clause-spared : goal.returns-else-not-same-clause-spared
returns-else-not-same-clause-spared c = λ method parameters source.
    subst (λ (what : Option Compiled). IfOk c.since_other.result (λ next.
    StaysSpared what (Some (compiled.Stylesheet c.args.stylesheet.now c.args.space_rules.now method)) parameters parameters source source
    (since_of c.args.since.now) (since_of next))) (sym (ap option_copied c.in-Some.is ∙ ap Some c.in-Stylesheet.is))
    (c.since_other.ensures.spared c.in-Stylesheet.rules c.args.space_rules.now c.in-Stylesheet.field-2 method parameters source
    (c.same.ensures.0 c.if-not-same.false))

pub returns-else-not-same-clause-told : goal.returns-else-not-same-clause-told
returns-else-not-same-clause-told c = λ marks h sheet rules.
    IfOk-weaker c.since_other.result _ _ (λ next told. (
      Restyled ∷ [],
      style_same (known_of (option_copied c.args.known)) sheet (space_rules_of c.in-Stylesheet.rules) (space_rules_of c.args.space_rules.now)
          (ap known_of (ap option_copied c.in-Some.is ∙ ap Some c.in-Stylesheet.is)) (c.same.ensures.0 c.if-not-same.false) rules,
      told,
    )) (c.since_other.ensures.told marks h)
