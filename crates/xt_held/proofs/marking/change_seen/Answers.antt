use Rattle.std.proofs.Common.{ℕ, ◌≡◌, IfOk, map, subst}
use Rattle.std.proofs.lemmas.Result.{IfOk-weaker}
use Rattle.spec_document.specs.Forest.{Document}
use Rattle.spec_seen.specs.Seen as sight
use Rattle.spec_touch.specs.Leads as leads
use Rattle.spec_touch.specs.Leads.{AreLooseBelow, Leads}
use Rattle.xt_edit.specs.Telling.{change_in, numbers_in}
use Rattle.xt_syntax.specs.SheetView.{space_rule_of}
use Rattle.xt_held.proofs.marking.change_seen.Goals as goal

pub returns-clause-told : goal.returns-clause-told
returns-clause-told c =
    let change = change_in c.args.change in
    let Told : (old new : Document ℕ) → Type 0
    = λ old new. IfOk c.seen_change-told.result (λ told. Leads (leads.seen_change change old new) old new → change_in told ≡ leads.seen_change change old new) in
    let rules = map space_rule_of c.args.space_rules.now.rules.items in
    let before = sight.seen rules c.args.old.now in
    let after = sight.seen rules c.args.new.now in
    let old : c.in-Ok.old ≡ before = c.in-Ok.ensures in
    let new : c.in-Ok-seen.new ≡ after = c.in-Ok-seen.ensures in
    let told = subst (λ (d : Document ℕ). Told d after) old (subst (λ (d : Document ℕ). Told c.in-Ok.old d) new c.seen_change-told.ensures) in
    IfOk-weaker c.both.result _ _ (λ seen is.
    subst (λ r. IfOk r (λ told. Leads (leads.seen_change change before after) before after → change_in told ≡ leads.seen_change change before after)) is told)
    c.both.ensures.told

pub returns-clause-loose : goal.returns-clause-loose
returns-clause-loose c =
    let rules = map space_rule_of c.args.space_rules.now.rules.items in
    let number = (change_in c.args.change).node in
    let Loose : Document ℕ → Type 0 = λ d. IfOk c.loose_children-loose.result (λ list. AreLooseBelow (numbers_in list.items) number d) in
    let loose = subst Loose c.in-Ok-seen.ensures c.loose_children-loose.ensures in
    IfOk-weaker c.both.result _ _ (λ seen is.
    subst (λ r. IfOk r (λ list. AreLooseBelow (numbers_in list.items) number (sight.seen rules c.args.new.now))) is loose) c.both.ensures.loose
