-- The templates of contents are found, each at its element and by its name: no unit stands where one of them does, and their names differ.
use Rattle.std.proofs.Common.{◌≡◌, ℕ, zero, suc, List, [], ◌∷◌, ◌++◌, map, Bool, true, false, cond, Option, None, Some, refl, sym, ap, subst, ◌∙◌}
use Rattle.std.specs.Prelude.{◌&&◌, ◌||◌, not, ◌==◌, bytes_eq}
use Rattle.std.specs.List.{find, list_any}
use Rattle.std.proofs.Math.Dec.{eqb-zero-suc}
use Rattle.spec_document.specs.Name.{Expanded, same_name}
use Rattle.spec_stylesheet.specs.Place.{Place}
use Rattle.spec_stylesheet.specs.Sheet as sheet
use Rattle.spec_stylesheet.specs.Sheet.{Alias}
use Rattle.spec_meaning.specs.Question as question
use Rattle.spec_meaning.specs.Question.{Question, Answer}
use Rattle.spec_run.specs.World.{Node, InModule, same_element, is_template, last_element, unit_by, counts}
use Rattle.spec_items.specs.Lifted.{text_of, path_text, item_name, left_unit, stands_in, items_of, items_behind}
use Rattle.spec_items.specs.Liftable.{is_reserved, have_one_name, have_own_names}
use Rattle.spec_items.proofs.Variables.{name_itself, both_true}
use Rattle.spec_items.proofs.Sheets.{AreTemplates}
use Rattle.spec_items.proofs.Tables.{NoneCalled, last_none}
use Rattle.spec_items.proofs.Walks.{AreFound, found_front, found_back, units_of}
use Rattle.spec_items.proofs.Standing.{place_is, place_itself}

-- ---- either is false
pub both_false : (x y : Bool) → (x || y) ≡ false → (x ≡ false) × (y ≡ false)
both_false true y h = absurd (cc)
both_false false y h = (refl, h)

pub turned : (b : Bool) → not b ≡ true → b ≡ false
turned true h = absurd (cc)
turned false h = refl

-- ---- a name that is not reserved is that of no template of a content
zero_apart : (c : ℕ) (x y : List ℕ) → (c == 0) ≡ false → bytes_eq (0 ∷ x) (c ∷ y) ≡ false
zero_apart zero x y h = absurd (cc)
zero_apart (suc c) x y h = ap (λ b. b && bytes_eq x y) (eqb-zero-suc c)

item_apart : (place : Place) (name : Expanded) → is_reserved name ≡ false → same_name (item_name place) name ≡ false
item_apart place name h = ap (λ b. b && bytes_eq (path_text place.path) name.local) (go name.uri h)
  where
    go : (uri : List ℕ) → is_reserved (record { uri = uri; local = name.local }) ≡ false → bytes_eq (0 ∷ text_of place.module_name) uri ≡ false
    go [] h = refl
    go (c ∷ more) h = zero_apart c (text_of place.module_name) more h

abbrev by_name : Expanded → Option Expanded → Bool
by_name name o = elim o [ None ↦ false | Some other ↦ same_name other name ]

-- of a template of a content
item_is : (name : Expanded) (w : sheet.Unit) (t : sheet.Template) → w.declared ≡ sheet.ATemplate t → t.name ≡ Some (item_name w.site.place)
    → is_template name w.declared ≡ same_name (item_name w.site.place) name
item_is name w t d n = ap (is_template name) d ∙ ap (by_name name) n

pub none_reserved : (name : Expanded) → is_reserved name ≡ false → (ws : List sheet.Unit) → AreTemplates ws → NoneCalled name ws
none_reserved name h [] t = tt
none_reserved name h (w ∷ ws) t =
    (item_is name w t.0.0 t.0.1 t.0.2 ∙ item_apart w.site.place name h, none_reserved name h ws t.1)

-- ---- names that differ
abbrev as_named : sheet.Declared → Option Expanded → Bool
as_named other o = elim o [ None ↦ false | Some name ↦ is_template name other ]

none_after : (w : sheet.Unit) (t : sheet.Template) → w.declared ≡ sheet.ATemplate t → t.name ≡ Some (item_name w.site.place) → (ws : List sheet.Unit)
    → list_any (λ later. have_one_name w.declared later.declared) ws ≡ false → NoneCalled (item_name w.site.place) ws
none_after w t d n [] h = tt
none_after w t d n (v ∷ ws) h =
    let e = both_false (have_one_name w.declared v.declared) (list_any (λ later. have_one_name w.declared later.declared) ws) h in
    (sym (ap (λ x. have_one_name x v.declared) d ∙ ap (as_named v.declared) n) ∙ e.0, none_after w t d n ws e.1)

-- those of other names stand elsewhere
elsewhere : (a b : Place) → same_name (item_name a) (item_name b) ≡ false → same_element a b ≡ false
elsewhere a b h = go (same_element a b) refl
  where
    go : (x : Bool) → same_element a b ≡ x → x ≡ false
    go false e = refl
    go true e = sym (name_itself (item_name a)) ∙ ap (λ c. same_name (item_name a) (item_name c)) (place_is a b e) ∙ h

-- ---- found at their elements
abbrev at : Place → List sheet.Unit → Option sheet.Unit
at place us = find (λ u. same_element place u.site.place) us

-- at the elements of these, all units find what those that are left find
abbrev Reached : (all left : List sheet.Unit) → List sheet.Unit → Type 0
Reached all left [] = Unit {0}
Reached all left (w ∷ ws) = (at w.site.place all ≡ at w.site.place left) × Reached all left ws

past_units : (place : Place) (us ws : List sheet.Unit) → stands_in place us ≡ false → at place (units_of us ws) ≡ at place ws
past_units place [] ws h = refl
past_units place (u ∷ us) ws h =
    let e = both_false (same_element place u.site.place) (stands_in place us) h in
    ap (λ b. cond b (Some (left_unit u)) (at place (units_of us ws))) e.0 ∙ past_units place us ws e.1

reached_first : (us all ws : List sheet.Unit) → list_any (λ item. stands_in item.site.place us) ws ≡ false → Reached (units_of us all) all ws
reached_first us all [] h = tt
reached_first us all (w ∷ ws) h =
    let e = both_false (stands_in w.site.place us) (list_any (λ item. stands_in item.site.place us) ws) h in
    (past_units w.site.place us all e.0, reached_first us all ws e.1)

reached_past : (all : List sheet.Unit) (w : sheet.Unit) (left ws : List sheet.Unit) → NoneCalled (item_name w.site.place) ws → AreTemplates ws
    → Reached all (w ∷ left) ws → Reached all left ws
reached_past all w left [] n t r = tt
reached_past all w left (v ∷ ws) n t r =
    let apart = elsewhere v.site.place w.site.place (sym (item_is (item_name w.site.place) v t.0.0 t.0.1 t.0.2) ∙ n.0) in
    (r.0 ∙ ap (λ b. cond b (Some w) (at v.site.place left)) apart, reached_past all w left ws n.1 t.1 r.1)

-- ---- found by their names
-- of all units that one counts which is the last of those that are left, if one of these is such a one
abbrev Counted : (all left : List sheet.Unit) → Type 0
Counted all left = (test : sheet.Declared → Bool) → (found : Option Place) × (last_element test None all ≡ last_element test found left)

counted_behind : (test : sheet.Declared → Bool) (found : Option Place) (us ws : List sheet.Unit)
    → (before : Option Place) × (last_element test found (us ++ ws) ≡ last_element test before ws)
counted_behind test found [] ws = (found, refl)
counted_behind test found (u ∷ us) ws = counted_behind test (cond (test u.declared) (Some u.site.place) found) us ws

counted_past : (all : List sheet.Unit) (w : sheet.Unit) (left : List sheet.Unit) → Counted all (w ∷ left) → Counted all left
counted_past all w left c = λ test. (cond (test w.declared) (Some w.site.place) (c test).0, (c test).1)

counted_here : (all : List sheet.Unit) (w : sheet.Unit) (left : List sheet.Unit) (t : sheet.Template) → w.declared ≡ sheet.ATemplate t
    → t.name ≡ Some (item_name w.site.place) → NoneCalled (item_name w.site.place) left → Counted all (w ∷ left)
    → last_element (is_template (item_name w.site.place)) None all ≡ Some w.site.place
counted_here all w left t d n none c =
    let name = item_name w.site.place in
    let before = (c (is_template name)).0 in
    (c (is_template name)).1
    ∙ ap (λ b. last_element (is_template name) (cond b (Some w.site.place) before) left) (item_is name w t d n ∙ name_itself name)
    ∙ last_none name (Some w.site.place) left none

-- ---- all of them
found_from : (aliases : List Alias) (other : Question Node → Answer Node) (all : List sheet.Unit)
    → ((place : Place) → other (question.Unit (InModule place)) ≡ unit_by InModule aliases all (at place all)) → (ws : List sheet.Unit) → AreTemplates ws
    → have_own_names ws ≡ true → Reached all ws ws → Counted all ws → AreFound InModule aliases other all ws
found_from aliases other all answers [] t h r c = tt
found_from aliases other all answers (w ∷ ws) t h r c =
    let e = both_true (not (list_any (λ later. have_one_name w.declared later.declared) ws)) (have_own_names ws) h in
    let none = none_after w t.0.0 t.0.1 t.0.2 ws (turned (list_any (λ later. have_one_name w.declared later.declared) ws) e.0) in
    let here : at w.site.place all ≡ Some w = r.0 ∙ ap (λ b. cond b (Some w) (at w.site.place ws)) (place_itself w.site.place) in (
      (
        w,
        counts all w,
        answers w.site.place ∙ ap (unit_by InModule aliases all) here,
        refl,
        counted_here all w ws t.0.0 t.0.1 t.0.2 none c,
      ),
      found_from aliases other all answers ws t.1 e.1 (reached_past all w ws ws none t.1 r.1) (counted_past all w ws c),
    )

pub items_found : (aliases : List Alias) (other : Question Node → Answer Node) (us ws : List sheet.Unit)
    → ((place : Place) → other (question.Unit (InModule place)) ≡ unit_by InModule aliases (units_of us ws) (at place (units_of us ws))) → AreTemplates ws
    → list_any (λ item. stands_in item.site.place us) ws ≡ false → have_own_names ws ≡ true → AreFound InModule aliases other (units_of us ws) ws
items_found aliases other us ws answers t apart h =
    found_from aliases other (units_of us ws) answers ws t h (reached_first us ws ws apart) (λ test. counted_behind test None (map left_unit us) ws)

-- ---- those of one unit, the first at its place
abbrev pub FoundOf : List Alias → (Question Node → Answer Node) → List sheet.Unit → Option sheet.Unit → Type 0
FoundOf aliases other all None = Unit {0}
FoundOf aliases other all (Some u) = AreFound InModule aliases other all (items_of u)

stands_before : (place : Place) (before : List sheet.Unit) (u : sheet.Unit) → stands_in place before ≡ false → same_element place u.site.place ≡ false
    → stands_in place (before ++ u ∷ []) ≡ false
stands_before place [] u h e = λ i. e i || false
stands_before place (b ∷ before) u h e =
    let x = both_false (same_element place b.site.place) (stands_in place before) h in
    λ i. x.0 i || stands_before place before u x.1 e i

pub found_of : (aliases : List Alias) (other : Question Node → Answer Node) (all before us : List sheet.Unit) (place : Place)
    → stands_in place before ≡ false → AreFound InModule aliases other all (items_behind before us) → FoundOf aliases other all (at place us)
found_of aliases other all before [] place n f = tt
found_of aliases other all before (u ∷ us) place n f =
    go (same_element place u.site.place) refl (found_of aliases other all (before ++ u ∷ []) us place)
  where
    mine : List sheet.Unit
    mine = cond (stands_in u.site.place before) [] (items_of u)

    later : List sheet.Unit
    later = items_behind (before ++ u ∷ []) us

    go : (b : Bool) → same_element place u.site.place ≡ b
        → (stands_in place (before ++ u ∷ []) ≡ false → AreFound InModule aliases other all later → FoundOf aliases other all (at place us))
        → FoundOf aliases other all (cond b (Some u) (at place us))
    go true e rest =
        let first : stands_in u.site.place before ≡ false = subst (λ p. stands_in p before ≡ false) (place_is place u.site.place e) n in
        subst (λ b. AreFound InModule aliases other all (cond b [] (items_of u))) first (found_front InModule aliases other all mine later f)
    go false e rest = rest (stands_before place before u n e) (found_back InModule aliases other all mine later f)
