use Rattle.std.proofs.Common.{◌≡◌, true, sym, ◌∙◌, subst}
use Rattle.spec_edit.proofs.Around.{some_same}
use Rattle.spec_edit.proofs.Numbers.{once-distinct, below-from, edit_numbers}
use Rattle.spec_seen.specs.Seen.{seen}
use Rattle.spec_touch.specs.Leads.{seen_change}
use Rattle.spec_touch.specs.Plain.{spared}
use Rattle.spec_touch.proofs.Leading.{after_edit}
use Rattle.spec_touch.proofs.SeenLeading.{edit-leads-seen}
use Rattle.spec_touch.proofs.Sparing.{choice-spared}
use Rattle.spec_touch.proofs.ToldApart.{seen-apart}
use Rattle.spec_touch.proofs.laws.edits_keep_plain_choices.Goals as goal

pub returns : goal.returns
returns c sheet first edit document new e normal distinct low keeps parameters called change is question asking plain u =
    let rules = sheet.space_rules.rules in
    let after = after_edit document new in
    let once = once-distinct _ distinct in
    let below = below-from first _ low in
    let l = edit-leads-seen rules first edit document new normal once below e keeps in
    let same = some_same change l.change (sym is ∙ l.change_is) in
    choice-spared (seen_change l.change (seen rules document) (seen rules after)) (seen rules document) (seen rules after) l.leads sheet parameters
    called (seen-apart rules document.root l.change document.nodes new.nodes once (edit_numbers first edit document new e once below).once) asking plain
    question
    (subst (λ x. spared asking (seen_change x (seen rules document) (seen rules after)) question ≡ true) same u)
