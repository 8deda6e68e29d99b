use Rattle.std.proofs.Common.{List, Some, ap, map, subst, sym, ◌∙◌}
use Rattle.std.proofs.lemmas.Result.{IfOk-weaker}
use Rattle.std.specs.Option.{option_map}
use Rattle.spec_move.specs.Changed.{move_change}
use Rattle.spec_touch.specs.Plain.{AreAsking}
use Rattle.xt_edit.specs.MoveTelling.{move_change_in}
use Rattle.xt_syntax.specs.SheetView.{rule_of}
use Rattle.xt_syntax.specs.declared.rule.Rule.{Rule}
use Rattle.xt_touch.specs.View.{since_of}
use Rattle.xt_held.specs.declared.stylesheet.Compiled.TheVariants as compiled
use Rattle.xt_held.proofs.Marked.{anything_stays, move_stays}
use Rattle.xt_held.proofs.Told.{move_told, no_move_told}
use Rattle.xt_held.proofs.marking.since_move_of.Goals as goal

pub returns-in-None-clause-spared : goal.returns-in-None-clause-spared
returns-in-None-clause-spared c = λ rules method parameters all.
    let what = Some (compiled.Stylesheet c.args.stylesheet.now rules method) in
    IfOk-weaker c.anything.result _ _ (λ next is.
    anything_stays what what parameters parameters (Some c.args.old.now) (Some c.args.new.now) (since_of c.args.since.now) (since_of next) is)
    c.anything.ensures

pub returns-in-None-clause-told : goal.returns-in-None-clause-told
returns-in-None-clause-told c = λ records marks h.
    IfOk-weaker c.anything.result _ _ (λ next is.
    no_move_told records marks (move_change c.args.path.now c.args.other.now c.args.old.now c.args.new.now) (since_of next) is
    (sym (ap (option_map move_change_in) c.in-None.is) ∙ c.in_ok-move_change_of.ensures)) c.anything.ensures

pub returns-in-Ok-clause-spared : goal.returns-in-Ok-clause-spared
returns-in-Ok-clause-spared c = λ rules method parameters all.
    IfOk-weaker c.and.result _ _ (λ next is.
    move_stays c.what_need_not_be_asked_keeps_its_answers.ensures c.args.stylesheet.now rules method parameters c.args.path.now c.args.other.now
    c.args.old.now c.args.new.now all c.requires.faultless c.distinct_numbers.ensures c.requires.moved (move_change_in c.in-Some.change)
    (sym c.in_ok-move_change_of.ensures ∙ ap (option_map move_change_in) c.in-Some.is)
    c.in-Ok.asking
    (subst (λ (rs : List Rule). AreAsking c.in-Ok.asking (map rule_of rs)) c.as_slice.ensures.value c.in-Ok.ensures.whole)
    (since_of c.args.since.now) (since_of next) is) c.and.ensures

pub returns-in-Ok-clause-told : goal.returns-in-Ok-clause-told
returns-in-Ok-clause-told c = λ records marks h.
    IfOk-weaker c.and.result _ _ (λ next is.
    move_told records marks (move_change c.args.path.now c.args.other.now c.args.old.now c.args.new.now) (move_change_in c.in-Some.change)
    (sym (ap (option_map move_change_in) c.in-Some.is) ∙ c.in_ok-move_change_of.ensures) c.in-Ok.asking (since_of c.args.since.now) (since_of next) is h)
    c.and.ensures
