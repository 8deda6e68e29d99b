use Rattle.std.proofs.Common.{List, map, subst}
use Rattle.std.proofs.lemmas.Result.{IfOk-weaker}
use Rattle.spec_touch.specs.Plain.{AreAsking}
use Rattle.xt_edit.specs.Telling.{change_in, numbers_in}
use Rattle.xt_edit.specs.View.{edit_of}
use Rattle.xt_syntax.specs.SheetView.{rule_of, space_rules_of}
use Rattle.xt_syntax.specs.declared.rule.Rule.{Rule}
use Rattle.xt_touch.specs.View.{since_of}
use Rattle.xt_held.proofs.Marked.{edit_stays}
use Rattle.xt_held.proofs.Told.{edit_told}
use Rattle.xt_held.proofs.marking.since_edit_of.Goals as goal

pub returns-clause-spared : goal.returns-clause-spared
returns-clause-spared c = λ method parameters.
    IfOk-weaker c.and.result _ _ (λ next is.
    edit_stays c.what_need_not_be_asked_keeps_its_answers.ensures c.edits_lead_as_they_are_seen.ensures c.edits_keep_space.ensures
    c.args.stylesheet.now c.args.space_rules.now method parameters (edit_of c.args.edit.now) c.args.old.now c.args.new.now c.requires.faultless
    c.distinct_numbers.ensures c.requires.edit (change_in c.in_ok-told.told) (change_in c.in_ok-change.change) c.in_ok-told.ensures
    c.in_ok-change.ensures.told c.in-Ok.asking
    (subst (λ (rs : List Rule). AreAsking c.in-Ok.asking (map rule_of rs)) c.as_slice.ensures.value c.in-Ok.ensures.whole)
    (numbers_in c.in_ok-change.loose.items) c.in_ok-change.ensures.loose
    (since_of c.args.since.now) (since_of next) is) c.and.ensures

pub returns-clause-told : goal.returns-clause-told
returns-clause-told c = λ records marks h.
    IfOk-weaker c.and.result _ _ (λ next is.
    edit_told c.edits_lead_as_they_are_seen.ensures c.edits_keep_space.ensures records marks (space_rules_of c.args.space_rules.now).rules
    (edit_of c.args.edit.now) c.args.old.now c.args.new.now c.requires.faultless c.distinct_numbers.ensures c.requires.edit
    (change_in c.in_ok-told.told) (change_in c.in_ok-change.change) c.in_ok-told.ensures c.in_ok-change.ensures.told c.in-Ok.asking
    (numbers_in c.in_ok-change.loose.items) (since_of c.args.since.now) (since_of next) is h) c.and.ensures
