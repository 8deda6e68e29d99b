use Rattle.std.proofs.Common.{Option, Some, ap, subst, sym, ◌∙◌}
use Rattle.std.proofs.lemmas.Result.{IfOk-weaker}
use Rattle.std.specs.Prelude.{IfOk}
use Rattle.std.specs.Option.{option_copied}
use Rattle.spec_cost.specs.Marking.{Mark, move_marks, remembered}
use Rattle.xt_tree.proofs.Bools.{true_false}
use Rattle.xt_touch.specs.View.{since_of}
use Rattle.xt_held.specs.RunView.{StaysSpared}
use Rattle.xt_held.specs.declared.stylesheet.Compiled.{Compiled}
use Rattle.xt_held.specs.Marked.{AreToldBy, known_of}
use Rattle.xt_held.proofs.Marked.{anything_stays}
use Rattle.xt_held.proofs.Told.{anything_where, move_where_all, move_where_some}
use Rattle.xt_held.proofs.marking.since_move.Goals as goal

pub returns-in-None-clause-spared : goal.returns-in-None-clause-spared
returns-in-None-clause-spared c = λ parameters.
    IfOk-weaker c.anything.result _ _ (λ next is.
    anything_stays (option_copied c.args.known) (option_copied c.args.known) parameters parameters (Some c.args.old.now) (Some c.args.new.now)
    (since_of c.args.since.now) (since_of next) is) c.anything.ensures

pub returns-in-None-clause-told : goal.returns-in-None-clause-told
returns-in-None-clause-told c = λ records marks h.
    IfOk-weaker c.anything.result _ _ (λ next is.
    anything_where records marks _ (since_of next) is
    (ap (λ (what : Option Compiled). move_marks (known_of what) c.args.path.now c.args.other.now c.args.old.now c.args.new.now)
    (ap option_copied c.in-None.is))) c.anything.ensures

pub returns-in-Refused-clause-spared : goal.returns-in-Refused-clause-spared
returns-in-Refused-clause-spared c = λ parameters.
    IfOk-weaker c.anything-in-Refused.result _ _ (λ next is.
    anything_stays (option_copied c.args.known) (option_copied c.args.known) parameters parameters (Some c.args.old.now) (Some c.args.new.now)
    (since_of c.args.since.now) (since_of next) is) c.anything-in-Refused.ensures

pub returns-in-Refused-clause-told : goal.returns-in-Refused-clause-told
returns-in-Refused-clause-told c = λ records marks h.
    IfOk-weaker c.anything-in-Refused.result _ _ (λ next is.
    anything_where records marks _ (since_of next) is
    (ap (λ (what : Option Compiled). move_marks (known_of what) c.args.path.now c.args.other.now c.args.old.now c.args.new.now)
    (ap option_copied c.in-Some.is ∙ ap Some c.in-Refused.is))) c.anything-in-Refused.ensures

pub returns-then-not-sees_all-clause-spared : goal.returns-then-not-sees_all-clause-spared
returns-then-not-sees_all-clause-spared c = λ parameters.
    IfOk-weaker c.anything-then-not-sees_all.result _ _ (λ next is.
    anything_stays (option_copied c.args.known) (option_copied c.args.known) parameters parameters (Some c.args.old.now) (Some c.args.new.now)
    (since_of c.args.since.now) (since_of next) is) c.anything-then-not-sees_all.ensures

pub returns-then-not-sees_all-clause-told : goal.returns-then-not-sees_all-clause-told
returns-then-not-sees_all-clause-told c = λ records marks h.
    IfOk-weaker c.anything-then-not-sees_all.result _ _ (λ next is.
    anything_where records marks _ (since_of next) is
    (ap (λ (what : Option Compiled). move_marks (known_of what) c.args.path.now c.args.other.now c.args.old.now c.args.new.now)
    (ap option_copied c.in-Some.is ∙ ap Some c.in-Stylesheet.is)
    ∙ move_where_some c.in-Stylesheet.space_rules c.args.path.now c.args.other.now c.args.old.now c.args.new.now
    (λ all. true_false (sym (c.sees_all.ensures.1 all) ∙ c.if-not-sees_all.true)))) c.anything-then-not-sees_all.ensures

pub returns-else-not-sees_all-clause-spared : goal.returns-else-not-sees_all-clause-spared
returns-else-not-sees_all-clause-spared c = λ parameters.
    subst (λ (what : Option Compiled). IfOk c.since_move_of.result (λ next.
    StaysSpared what what parameters parameters (Some c.args.old.now) (Some c.args.new.now) (since_of c.args.since.now) (since_of next)))
    (sym (ap option_copied c.in-Some.is ∙ ap Some c.in-Stylesheet.is))
    (c.since_move_of.ensures.spared c.in-Stylesheet.space_rules c.in-Stylesheet.field-2 parameters (c.sees_all.ensures.0 c.if-not-sees_all.false))

pub returns-else-not-sees_all-clause-told : goal.returns-else-not-sees_all-clause-told
returns-else-not-sees_all-clause-told c = λ records marks h.
    subst (λ (mark : Mark). IfOk c.since_move_of.result (λ next. AreToldBy records (remembered marks mark) (since_of next)))
    (sym (ap (λ (what : Option Compiled). move_marks (known_of what) c.args.path.now c.args.other.now c.args.old.now c.args.new.now)
    (ap option_copied c.in-Some.is ∙ ap Some c.in-Stylesheet.is)
    ∙ move_where_all c.in-Stylesheet.space_rules c.args.path.now c.args.other.now c.args.old.now c.args.new.now
    (c.sees_all.ensures.0 c.if-not-sees_all.false))) (c.since_move_of.ensures.told records marks h)
