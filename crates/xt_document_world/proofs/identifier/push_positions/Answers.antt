use Rattle.std.proofs.Common.{◌≡◌, ◌++◌, ℕ, List, ◌∙◌, sym, ap, subst, append_assoc}
use Rattle.std.specs.Prelude.{OnOk, decimal}
use Rattle.spec_meaning.specs.Truth.{positions_text}
use Rattle.xt_document_world.specs.View.{later_text}
use Rattle.xt_document_world.proofs.Told.{positions_are}
use Rattle.xt_document_world.proofs.identifier.push_positions.Goals as goal

pub returns-in_ok-push_number-in-Some : goal.returns-in_ok-push_number-in-Some
returns-in_ok-push_number-in-Some c =
    let text = c.args.text.now in
    let p = c.in-Some.first.now in
    let ps = c.in-Some.later.now in
    let all : c.push_number.new.text ++ later_text ps ≡ text ++ positions_text c.args.positions.now
    = ap (λ (t : List ℕ). t ++ later_text ps) c.in_ok-push_number-in-Some.ensures ∙ append_assoc text (decimal p) (later_text ps)
    ∙ ap (λ (t : List ℕ). text ++ t) (sym (positions_are p ps) ∙ ap positions_text (sym c.in-Some.ensures.cases.0)) in
    subst (λ (t : List ℕ). OnOk c.push_later.result (c.push_later.new.text ≡ t)) all c.push_later.ensures
