-- Units by the numbers that they are given.
use Rattle.std.proofs.Common.{◌≡◌, ◌<◌, ℕ, ◌+◌, ◌==◌, Bool, true, false, cond, List, [], ◌∷◌, ◌++◌, take, length, get_or, Option, None, Some, refl, sym, ap, subst}
use Rattle.std.proofs.Common.{◌∙◌, eq-eqb}
use Rattle.std.specs.Prelude.{◌||◌, IfSome, IsSomeAnd}
use Rattle.std.specs.declared.rc.Rc.{Rc}
use Rattle.std.specs.Global.{Global}
use Rattle.std.proofs.lemmas.List.{get_or-map, length-map, map-append, take_more}
use Rattle.std.proofs.lemmas.List.Folds.{list_any-append}
use Rattle.spec_stylesheet.specs.Place.{Place}
use Rattle.spec_stylesheet.specs.Sheet.{Unit as Piece}
use Rattle.spec_run.specs.World.{same_element}
use Rattle.xt_syntax.specs.SheetView.{unit_of}
use Rattle.xt_syntax.specs.declared.unit.Unit.{Unit}
use Rattle.xt_world.specs.Numbered.{AgreeAmong, AreAsGiven, IsNaming, has_unit, numbers_among}
use Rattle.xt_world.specs.Sameness.{same_places}
use Rattle.xt_world.specs.Turned.{AreNumbersOf, at_place, numbers_in, units_of}
use Rattle.xt_world.specs.Units.{plain_units}
use Rattle.xt_world.specs.declared.key.PlaceKey.{PlaceKey}
use Rattle.xt_world.specs.declared.numbers.Numbers.{Numbers}

-- after this place has got its number it is the one that it is to have
abbrev pub Gets : Place → ℕ → List (PlaceKey × ℕ) → List (PlaceKey × ℕ) → Type 0
Gets place number old new =
    (sought : Place) (other : ℕ) → at_place other new sought ≡ cond (same_element sought place) number (at_place other old sought)

one_more : (meant : Place → ℕ) (us : List Piece) (u : Piece) (number : ℕ) (old new : List (PlaceKey × ℕ)) → number ≡ meant u.site.place
    → AreNumbersOf meant us old → Gets u.site.place number old new → AreNumbersOf meant (us ++ u ∷ []) new
one_more meant us u number old new is had got place other =
    got place other ∙ (λ i. cond (same_element place u.site.place) (is i) (had place other i))
    ∙ by (has_unit us place) (same_element place u.site.place) refl
    ∙ ap (λ b. cond b (meant place) other) (sym (list_any-append (λ (v : Piece). same_element place v.site.place) us (u ∷ [])))
  where
    by : (a b : Bool) → same_element place u.site.place ≡ b
        → cond b (meant u.site.place) (cond a (meant place) other) ≡ cond (a || (b || false)) (meant place) other
    by true true e = ap meant (sym (same_places place u.site.place e))
    by false true e = ap meant (sym (same_places place u.site.place e))
    by true false e = refl
    by false false e = refl

-- the number that is given to a unit is the one that its place is to have
pub given_at : (meant : Place → ℕ) (units : List (Rc Unit Global)) (given : List ℕ) (i : ℕ) (u : Rc Unit Global) (number other : ℕ) → i < length units
    → u ≡ get_or units i u → number ≡ get_or given i other → given ≡ numbers_among meant (plain_units units)
    → number ≡ meant (unit_of u.value).site.place
given_at meant units given i u number other within unit_is number_is are =
    let v = unit_of u.value in
    let also : i < length (plain_units units) = subst (λ (n : ℕ). i < n) (sym (length-map units (λ (r : Rc Unit Global). unit_of r.value))) within in
    number_is ∙ ap (λ (l : List ℕ). get_or l i other) are
    ∙ get_or-map (λ (w : Piece). meant w.site.place) (plain_units units) i v other also
    ∙ ap (λ (w : Piece). meant w.site.place)
    (get_or-map (λ (r : Rc Unit Global). unit_of r.value) units i u v within ∙ ap (λ (r : Rc Unit Global). unit_of r.value) (sym unit_is))

-- so a turn adds the number of one unit more
pub next_number : (meant : Place → ℕ) (units : List (Rc Unit Global)) (i : ℕ) (u : Rc Unit Global) (number : ℕ) (old new : List (PlaceKey × ℕ))
    → i < length units → u ≡ get_or units i u → number ≡ meant (unit_of u.value).site.place → AreNumbersOf meant (plain_units (take i units)) old
    → Gets (unit_of u.value).site.place number old new → AreNumbersOf meant (plain_units (take (i + 1) units)) new
next_number meant units i u number old new within unit_is is had got =
    let one : plain_units (take i units) ++ unit_of u.value ∷ [] ≡ plain_units (take (i + 1) units)
    = sym (map-append (λ (r : Rc Unit Global). unit_of r.value) (take i units) (u ∷ []))
    ∙ ap plain_units (ap (λ (r : Rc Unit Global). take i units ++ r ∷ []) unit_is ∙ sym (take_more units i u within)) in
    subst (λ (us : List Piece). AreNumbersOf meant us new) one (one_more meant (plain_units (take i units)) (unit_of u.value) number old new is had got)

-- and no place had another number before
pub had_none : (meant : Place → ℕ) (us : List Piece) (place : Place) (number : ℕ) (old : List (PlaceKey × ℕ)) → number ≡ meant place
    → AreNumbersOf meant us old → (at_place number old place == number) ≡ true
had_none meant us place number old is had = eq-eqb (at_place number old place) number (had place number ∙ by (has_unit us place))
  where
    by : (b : Bool) → cond b (meant place) number ≡ number
    by true = sym is
    by false = refl

pub as_many : (meant : Place → ℕ) (units : List (Rc Unit Global)) (given : List ℕ) → given ≡ numbers_among meant (plain_units units)
    → length given ≡ length units
as_many meant units given are =
    ap (λ (l : List ℕ). length l) are ∙ length-map (plain_units units) (λ (u : Piece). meant u.site.place)
    ∙ length-map units (λ (r : Rc Unit Global). unit_of r.value)

-- ---- Whether they serve

-- where they are one for each place and tell the units apart, they were taken
abbrev Serves : List ℕ → List (Rc Unit Global) → Option Numbers → Type 0
Serves given units found =
    (meant : Place → ℕ) → given ≡ numbers_among meant (plain_units units) → IsNaming meant (plain_units units)
    → IsSomeAnd found (λ (n : Numbers). AgreeAmong (numbers_in n) meant (units_of n))

pub taken : (given : List ℕ) (units : List (Rc Unit Global)) (found : Option Numbers) (n : Numbers) → found ≡ Some n
    → IfSome found (λ (m : Numbers). m.units.now ≡ units) → Serves given units found → AreAsGiven given (numbers_in n) (units_of n)
taken given units None n is same serve = absurd (cc)
taken given units (Some m) n is same serve =
    let one : m ≡ n = cc in
    subst (λ (x : Numbers). AreAsGiven given (numbers_in x) (units_of x)) one (λ meant are naming.
    serve meant (are ∙ ap (λ (us : List (Rc Unit Global)). numbers_among meant (plain_units us)) same)
    (subst (λ (us : List (Rc Unit Global)). IsNaming meant (plain_units us)) same naming))

pub not_taken : (given : List ℕ) (units : List (Rc Unit Global)) (found : Option Numbers) (n : Numbers) → found ≡ None → n.units.now ≡ units
    → Serves given units found → AreAsGiven given (numbers_in n) (units_of n)
not_taken given units None n is same serve = λ meant are naming.
    absurd (serve meant (are ∙ ap (λ (us : List (Rc Unit Global)). numbers_among meant (plain_units us)) same)
    (subst (λ (us : List (Rc Unit Global)). IsNaming meant (plain_units us)) same naming))
not_taken given units (Some m) n is same serve = absurd (cc)
