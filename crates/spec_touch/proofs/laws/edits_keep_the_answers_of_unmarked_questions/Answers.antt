use Rattle.std.proofs.Common.{◌≡◌, false, sym, ◌∙◌, subst}
use Rattle.spec_edit.proofs.Around.{some_same}
use Rattle.spec_edit.proofs.Numbers.{once-distinct, below-from}
use Rattle.spec_seen.specs.Seen.{seen}
use Rattle.spec_touch.specs.Touched.{is_touched}
use Rattle.spec_touch.specs.Leads.{seen_change}
use Rattle.spec_touch.proofs.Answering.{unmarked}
use Rattle.spec_touch.proofs.Leading.{after_edit}
use Rattle.spec_touch.proofs.SeenLeading.{edit-leads-seen}
use Rattle.spec_touch.proofs.laws.edits_keep_the_answers_of_unmarked_questions.Goals as goal

pub returns : goal.returns
returns c sheet first edit document new e normal distinct low keeps parameters called change is question u =
    let rules = sheet.space_rules.rules in
    let after = after_edit document new in
    let l = edit-leads-seen rules first edit document new normal (once-distinct _ distinct) (below-from first _ low) e keeps in
    let same = some_same change l.change (sym is ∙ l.change_is) in
    unmarked (seen_change l.change (seen rules document) (seen rules after)) (seen rules document) (seen rules after) l.leads sheet parameters called
    question
    (subst (λ x. is_touched (seen_change x (seen rules document) (seen rules after)) question ≡ false) same u)
