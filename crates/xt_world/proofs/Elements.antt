-- What elements of units are called tells their places apart.
use Rattle.std.proofs.Common.{◌≡◌, ◌≤◌, ◌<◌, ℕ, suc, ◌+◌, ◌==◌, arith, List, [], ◌∷◌, Bool, true, false, cond, Option, None, Some, refl, sym, ap, subst, ◌∙◌, eq-eqb}
use Rattle.std.specs.Prelude.{◌&&◌, ◌||◌, length, slice_get}
use Rattle.std.specs.Bool.{Decides}
use Rattle.std.specs.List.{list_all}
use Rattle.std.specs.Option.{option_map}
use Rattle.std.specs.declared.rc.Rc.{Rc}
use Rattle.std.specs.Global.{Global}
use Rattle.std.proofs.lemmas.Bool.{and_parts}
use Rattle.std.proofs.lemmas.Bool.Decides.{Decides-eqb}
use Rattle.std.proofs.lemmas.List.{length-map}
use Rattle.std.proofs.lemmas.Option.{slice_get-map, slice_get_within}
use Rattle.spec_stylesheet.specs.Place.{Place}
use Rattle.spec_stylesheet.specs.Sheet.{Unit as Piece}
use Rattle.spec_run.specs.World.{same_element}
use Rattle.spec_run.proofs.Truths.{OfUnit, this, that}
use Rattle.spec_node.specs.Naming.{same_ref}
use Rattle.xt_syntax.specs.PartView.{place_of}
use Rattle.xt_syntax.specs.SheetView.{unit_of}
use Rattle.xt_syntax.specs.declared.unit.Unit.{Unit}
use Rattle.xt_base.specs.declared.place.Place as base
use Rattle.xt_world.specs.Numbered.{AgreeAmong, IsNaming, element_called, has_unit}
use Rattle.xt_world.specs.Sameness.{element_itself, same_place_is, same_places}
use Rattle.xt_world.specs.Turned.{AreNumbersOf, at_number, found_or, is_at_turn, leads_back, numbers_in, stands_at, turn_found, turn_of_number, turn_of_place, units_of}
use Rattle.xt_world.specs.declared.numbers.Numbers.{Numbers}

-- ---- places of units
pub has_unit_there : (us : List Piece) (p : Place) → OfUnit us p → has_unit us p ≡ true
has_unit_there _ _ (this {u = u} {us = us}) = ap (λ b. b || has_unit us u.site.place) (element_itself u.site.place)
has_unit_there _ _ (that {u = u} {us = us} {p = p} k) = either (same_element p u.site.place) (has_unit us p) (has_unit_there us p k)
  where
    either : (a b : Bool) → b ≡ true → (a || b) ≡ true
    either true b h = refl
    either false b h = h

-- ---- turns
at_least : (k : ℕ) (p : Place) (us : List Piece) → k ≤ turn_of_place k p us
at_least k p [] = omega arith
at_least k p (u ∷ us) = either (same_element p u.site.place) (at_least (k + 1) p us)
  where
    either : (b : Bool) → k + 1 ≤ turn_of_place (k + 1) p us → k ≤ cond b k (turn_of_place (k + 1) p us)
    either true later = omega arith
    either false later = omega (arith, later)

-- not the first, so it stands behind
behind : (a b : Bool) → a ≡ false → (a || b) ≡ true → b ≡ true
behind true b e h = absurd (cc)
behind false b e h = h

one_turn : (us : List Piece) (k : ℕ) (p q : Place) → has_unit us p ≡ true → has_unit us q ≡ true → turn_of_place k p us ≡ turn_of_place k q us → p ≡ q
one_turn [] k p q h g e = absurd (cc)
one_turn (u ∷ us) k p q h g e =
    by (λ f i j. one_turn us (k + 1) p q f i j) (same_element p u.site.place) (same_element q u.site.place) refl refl e
  where
    by : (has_unit us p ≡ true → has_unit us q ≡ true → turn_of_place (k + 1) p us ≡ turn_of_place (k + 1) q us → p ≡ q) → (a b : Bool)
        → same_element p u.site.place ≡ a → same_element q u.site.place ≡ b
        → cond a k (turn_of_place (k + 1) p us) ≡ cond b k (turn_of_place (k + 1) q us) → p ≡ q
    by rest true true x y e = same_places p u.site.place x ∙ sym (same_places q u.site.place y)
    by rest true false x y e = absurd (let later = at_least (k + 1) q us in omega (arith, later, e))
    by rest false true x y e = absurd (let later = at_least (k + 1) p us in omega (arith, later, e))
    by rest false false x y e =
        rest (behind (same_element p u.site.place) (has_unit us p) x h) (behind (same_element q u.site.place) (has_unit us q) y g) e

-- the first turns of places tell units apart
pub turns_tell : (n : Numbers) → ((place : Place) → numbers_in n place ≡ turn_of_place 0 place (units_of n)) → IsNaming (numbers_in n) (units_of n)
turns_tell n h p q there also e = one_turn (units_of n) 0 p q there also (sym (h p) ∙ e ∙ h q)

-- ---- numbers that lead back
one_place : (p q : Place) (o : Option (Rc Unit Global)) → stands_at p o ≡ true → stands_at q o ≡ true → p ≡ q
one_place p q None h g = absurd (cc)
one_place p q (Some u) h g = same_places p (unit_of u.value).site.place h ∙ sym (same_places q (unit_of u.value).site.place g)

one_led : (us : List (Rc Unit Global)) (p q : Place) (o : Option ℕ) → is_at_turn us p o ≡ true → is_at_turn us q o ≡ true → p ≡ q
one_led us p q None h g = absurd (cc)
one_led us p q (Some turn) h g = one_place p q (slice_get us turn) h g

passes : (test : Place → Bool) (us : List Piece) (p : Place) → list_all (λ u. test u.site.place) us ≡ true → has_unit us p ≡ true → test p ≡ true
passes test [] p h g = absurd (cc)
passes test (u ∷ us) p h g = by (λ i j. passes test us p i j) (same_element p u.site.place) refl
  where
    parts : (test u.site.place ≡ true) × (list_all (λ v. test v.site.place) us ≡ true)
    parts = and_parts (test u.site.place) (list_all (λ v. test v.site.place) us) h

    by : (list_all (λ v. test v.site.place) us ≡ true → has_unit us p ≡ true → test p ≡ true) → (b : Bool) → same_element p u.site.place ≡ b
        → test p ≡ true
    by rest true e = ap test (same_places p u.site.place e) ∙ parts.0
    by rest false e = rest parts.1 (behind (same_element p u.site.place) (has_unit us p) e g)

-- where the number of each unit's place leads back to that place, the numbers tell units apart
pub back_tells : (n : Numbers) (turns : List (ℕ × ℕ)) → list_all (λ u. leads_back n turns u.site.place) (units_of n) ≡ true
    → IsNaming (numbers_in n) (units_of n)
back_tells n turns all p q there also e =
    let led = passes (leads_back n turns) (units_of n) p all there in
    one_led n.units.now p q (turn_found turns (numbers_in n q))
    (subst (λ (k : ℕ). is_at_turn n.units.now p (turn_found turns k) ≡ true) e led)
    (passes (leads_back n turns) (units_of n) q all also)

-- the first unit whose place has the number of this one
record IsFirst (numbers : Place → ℕ) (place : Place) (turn : ℕ) (us : List Piece) : Type 0 where
  index : ℕ
  unit : Piece
  turned : turn_of_number numbers turn (numbers place) us ≡ turn + index
  at : slice_get us index ≡ Some unit
  one : numbers place ≡ numbers unit.site.place
  there : has_unit us unit.site.place ≡ true

or_later : (a b : Bool) → b ≡ true → (a || b) ≡ true
or_later true b h = refl
or_later false b h = h

first_at : (numbers : Place → ℕ) (p : Place) (turn : ℕ) (us : List Piece) → has_unit us p ≡ true → IsFirst numbers p turn us
first_at numbers p turn [] h = absurd (cc)
first_at numbers p turn (u ∷ us) h = by (λ g. first_at numbers p (turn + 1) us g) (numbers p == numbers u.site.place) refl
  where
    apart : (numbers p == numbers u.site.place) ≡ false → (b : Bool) → same_element p u.site.place ≡ b → b ≡ false
    apart e true is = absurd (let same = eq-eqb (numbers p) (numbers u.site.place) (ap numbers (same_places p u.site.place is)) in cc)
    apart e false is = refl

    by : (has_unit us p ≡ true → IsFirst numbers p (turn + 1) us) → (b : Bool) → (numbers p == numbers u.site.place) ≡ b → IsFirst numbers p turn (u ∷ us)
    by rest true e = record {
      index = 0;
      unit = u;
      turned = ap (λ b. cond b turn (turn_of_number numbers (turn + 1) (numbers p) us)) e ∙ omega arith;
      at = refl;
      one = (Decides-eqb (numbers p) (numbers u.site.place)).0 e;
      there = ap (λ b. b || has_unit us u.site.place) (element_itself u.site.place);
    }
    by rest false e =
        let other = rest (behind (same_element p u.site.place) (has_unit us p) (apart e (same_element p u.site.place) refl) h) in
        record {
          index = suc other.index;
          unit = other.unit;
          turned = ap (λ b. cond b turn (turn_of_number numbers (turn + 1) (numbers p) us)) e ∙ (let is = other.turned in omega (arith, is));
          at = other.at;
          one = other.one;
          there = or_later (same_element other.unit.site.place u.site.place) (has_unit us other.unit.site.place) other.there;
        }

turn_there : (most j : ℕ) (o : Option ℕ) → found_or most o ≡ j → j < most → o ≡ Some j
turn_there most j None e h = absurd (omega (arith, e, h))
turn_there most j (Some turn) e h = ap (λ (k : ℕ). Some k) e

stands_there : (p : Place) (q : Piece) (o : Option (Rc Unit Global)) → option_map (λ (r : Rc Unit Global). unit_of r.value) o ≡ Some q → p ≡ q.site.place
    → stands_at p o ≡ true
stands_there p q None h e = absurd (cc)
stands_there p q (Some r) h e =
    let same : unit_of r.value ≡ q = cc in
    (same_place_is p (unit_of r.value).site.place).1 (e ∙ ap (λ (v : Piece). v.site.place) (sym same))

leads : (n : Numbers) (turns : List (ℕ × ℕ)) → IsNaming (numbers_in n) (units_of n)
    → ((number : ℕ) → at_number (length n.units.now) turns number ≡ turn_of_number (numbers_in n) 0 number (units_of n))
    → (p : Place) → has_unit (units_of n) p ≡ true → leads_back n turns p ≡ true
leads n turns naming are p there =
    let view = λ (r : Rc Unit Global). unit_of r.value in
    let k = numbers_in n p in
    let first = first_at (numbers_in n) p 0 (units_of n) there in
    let turn : at_number (length n.units.now) turns k ≡ first.index = are k ∙ first.turned ∙ omega arith in
    let within : first.index < length n.units.now
    = subst (λ (most : ℕ). first.index < most) (length-map n.units.now view) (slice_get_within (units_of n) first.index first.unit first.at) in
    let at = sym (slice_get-map view n.units.now first.index) ∙ first.at in
    ap (is_at_turn n.units.now p) (turn_there (length n.units.now) first.index (turn_found turns k) turn within)
    ∙ stands_there p first.unit (slice_get n.units.now first.index) at (naming p first.unit.site.place there first.there first.one)

each_passes : (test : Place → Bool) (us : List Piece) → ((p : Place) → has_unit us p ≡ true → test p ≡ true) → list_all (λ u. test u.site.place) us ≡ true
each_passes test [] h = refl
each_passes test (u ∷ us) h =
    let here = h u.site.place (ap (λ b. b || has_unit us u.site.place) (element_itself u.site.place)) in
    let rest = each_passes test us (λ p there. h p (or_later (same_element p u.site.place) (has_unit us p) there)) in
    λ i. here i && rest i

-- where numbers tell units apart, the number of each unit's place leads back to that place
pub tells_back : (n : Numbers) (turns : List (ℕ × ℕ)) → IsNaming (numbers_in n) (units_of n)
    → ((number : ℕ) → at_number (length n.units.now) turns number ≡ turn_of_number (numbers_in n) 0 number (units_of n))
    → list_all (λ u. leads_back n turns u.site.place) (units_of n) ≡ true
tells_back n turns naming are = each_passes (leads_back n turns) (units_of n) (leads n turns naming are)

-- ---- numbers that agree
pub agreed_naming : (numbers other : Place → ℕ) (us : List Piece) → AgreeAmong numbers other us → IsNaming other us → IsNaming numbers us
agreed_naming numbers other us agree naming p q there also e = naming p q there also (sym (agree p there) ∙ e ∙ agree q also)

-- where places have these numbers, and no others
pub agree_so : (n : Numbers) (meant : Place → ℕ) → AreNumbersOf meant (units_of n) n.places.entries → AgreeAmong (numbers_in n) meant (units_of n)
agree_so n meant are place there = are place (length n.units.now) ∙ ap (λ b. cond b (meant place) (length n.units.now)) there

-- ---- what is told apart
equal_tests : (a b : Bool) → (a ≡ true → b ≡ true) → (b ≡ true → a ≡ true) → a ≡ b
equal_tests true b h g = sym (h refl)
equal_tests false true h g = g refl
equal_tests false false h g = refl

-- the places of the program are told apart as those of the definition
pub decided : (p q : base.Place) (b : Bool) → Decides b (p ≡ q) → b ≡ same_element (place_of p) (place_of q)
decided p q b h =
    equal_tests b (same_element (place_of p) (place_of q))
    (λ e. subst (λ (r : base.Place). same_element (place_of p) (place_of r) ≡ true) (h.0 e) (element_itself (place_of p)))
    (λ e. let same = same_places (place_of p) (place_of q) e in h.1 (λ i. record { «module» = (same i).module_name; path = (same i).path }))

pub elements_told : (numbers : Place → ℕ) (us : List Piece) → IsNaming numbers us → (p q : Place) → OfUnit us p → OfUnit us q
    → same_element p q ≡ same_ref (element_called numbers p) (element_called numbers q)
elements_told numbers us naming p q h g =
    equal_tests (same_element p q) (same_ref (element_called numbers p) (element_called numbers q))
    (λ e. subst (λ r. same_ref (element_called numbers p) (element_called numbers r) ≡ true) (same_places p q e) (one p))
    (λ e. let parts = and_parts (numbers p == numbers q) true e in
    subst (λ r. same_element p r ≡ true)
    (naming p q (has_unit_there us p h) (has_unit_there us q g) ((Decides-eqb (numbers p) (numbers q)).0 parts.0)) (element_itself p))
  where
    one : (r : Place) → same_ref (element_called numbers r) (element_called numbers r) ≡ true
    one r = ap (λ b. b && true) (eq-eqb (numbers r) (numbers r) refl)
