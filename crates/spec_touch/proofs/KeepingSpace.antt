-- In documents without faults xml:space says what it said, where attributes change and no node is made anew.
use Rattle.std.proofs.Common.{◌≡◌, ℕ, Bool, true, false, cond, List, [], ◌∷◌, Option, Some, refl}
use Rattle.std.proofs.Common.{sym, ap, ◌∙◌}
use Rattle.std.specs.Prelude.{Ok}
use Rattle.spec_document.specs.Forest.{Document}
use Rattle.spec_document.specs.Place.{node_at, scope_at}
use Rattle.spec_structure.specs.Inside.{value_of, space_name}
use Rattle.spec_edit.specs.Edit.{Edit, Edited, edited_nodes}
use Rattle.spec_edit.specs.Judged.{path_of}
use Rattle.spec_edit.specs.Valid.{IsValid}
use Rattle.spec_edit.proofs.Around.{some_same}
use Rattle.spec_change.specs.Change.{changes_attributes, changed_path}
use Rattle.spec_touch.specs.Leads.{space_in, space_said, KeepsSpace}
use Rattle.spec_touch.proofs.Leading.{Led, attributes_led, edit-led, after_edit}
use Rattle.spec_touch.proofs.Spaces.{root-only, found-only, says-same}

pub keeps-space : (first : ℕ) (edit : Edit) (document : Document ℕ) (new : Edited ℕ) → edited_nodes first edit document ≡ Ok new
    → IsValid document.nodes → KeepsSpace edit document (after_edit document new)
keeps-space first edit document new e valid t x y at_x at_y =
    let c = edit-led first edit document new e in by (changes_attributes edit) refl c.path c.path_is c.is_led
  where
    after : Document ℕ
    after = after_edit document new

    at-path : (b : Bool) → b ≡ true → (o : Option (List ℕ)) (path : List ℕ) → cond b (Some (path_of edit)) o ≡ Some path → path_of edit ≡ path
    at-path true f o path h = some_same (path_of edit) path h
    at-path false f o path h = absurd (cc)

    by : (b : Bool) → changes_attributes edit ≡ b → (path : List ℕ) → changed_path edit ≡ Some path → Led first document new b path
        → space_said y ≡ space_said x
    by false f path pe led = absurd (let g : true ≡ false = sym t ∙ f in cc)
    by true f _ pe (attributes_led {p = p} {ps = ps} was at name old more content named apart set same nodes now there has scope) =
        let way : path_of edit ≡ p ∷ ps = at-path (changes_attributes edit) f _ (p ∷ ps) pe in
        let is_was : x ≡ was = some_same x was (sym at_x ∙ ap (node_at document) way ∙ at) in
        let is_now : y ≡ now = some_same y now (sym at_y ∙ ap (node_at after) way ∙ there) in
        let only = found-only was p ps [] 1 document.nodes root-only valid.unfaulted at in
        ap space_said is_now ∙ ap (λ k. space_in k (scope_at now)) has ∙ sym (ap (λ s. value_of s space_name more) scope)
        ∙ says-same (scope_at was) only named apart old more set ∙ sym (ap (λ k. space_in k (scope_at was)) content) ∙ sym (ap space_said is_was)
