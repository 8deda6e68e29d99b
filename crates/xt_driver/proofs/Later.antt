-- What is remembered still holds after the turn of a global.
use Rattle.std.proofs.Common.{◌≡◌, ℕ, ◌+◌, ◌≤◌, List, [], ◌∷◌, ◌++◌, Bool, true, false, cond, refl, sym, ap, subst, ◌∙◌, arith}
use Rattle.std.specs.Prelude.{Option, None, Some}
use Rattle.spec_document.specs.Name.{Expanded, same_name}
use Rattle.spec_meaning.specs.Value.{Value}
use Rattle.spec_meaning.specs.Context.{Bound}
use Rattle.spec_meaning.specs.Program.{Valued}
use Rattle.spec_run.specs.Plan.{nowhere}
use Rattle.spec_run.specs.Direct.{Supplied, Known}
use Rattle.spec_run.specs.Meaning.{Setting, Past, going_into, global_call, held_by, element_named, meaning}
use Rattle.xt_driver.specs.Remembered.{Entry, first_named, IsIfThere, Fits, Comes, HoldsAt, Holds, AllHold, Remembers, Unnamed}
use Rattle.xt_driver.specs.Turning.{later}
use Rattle.xt_driver.proofs.Given.{equal_names, own_name}
use Rattle.xt_driver.proofs.Remembering.{suits_here, unnamed_inside, fits_out, hold_later}

-- names are the same both ways
other_way : (a b : Expanded) → same_name a b ≡ false → same_name b a ≡ false
other_way a b e = go (same_name b a) refl
  where
    go : (t : Bool) → same_name b a ≡ t → t ≡ false
    go false f = refl
    go true f =
        let both : same_name a b ≡ true = ap (λ n. same_name a n) (equal_names b a f) ∙ own_name a in
        absurd (cc)

first_later : {N : Type 0} (name : Expanded) (bs : List (Bound N)) (b : Bound N) (v : Value N) → IsIfThere (first_named name bs) v → (same_name b.name name ≡ true → b.value ≡ v) → IsIfThere (first_named name (bs ++ b ∷ [])) v
first_later {N = N} name [] b v h f = go (same_name b.name name) f
  where
    go : (t : Bool) → (t ≡ true → b.value ≡ v) → IsIfThere (cond t (Some b.value) None) v
    go true g = g refl
    go false g = tt
first_later {N = N} name (c ∷ bs) b v h f = go (same_name c.name name) h (λ k. first_later name bs b v k f)
  where
    go : (t : Bool) → IsIfThere (cond t (Some c.value) (first_named name bs)) v → (IsIfThere (first_named name bs) v → IsIfThere (first_named name (bs ++ b ∷ [])) v)
        → IsIfThere (cond t (Some c.value) (first_named name (bs ++ b ∷ []))) v
    go true k g = k
    go false k g = g k

-- where none of them has its name
fits_later : {N : Type 0} (es : List (Entry N)) (past : Past N) (b : Bound N) → Unnamed b.name es → Fits es past → Fits es (later past b)
fits_later [] past b h k = tt
fits_later (e ∷ es) past b h k =
    ((k.0.0, first_later e.name past.values b e.value k.0.1 (λ t. let no = other_way e.name b.name h.0 in absurd (cc))), fits_later es past b h.1 k.1)

-- after an evaluation at its turn
pub later_evaluated : {N : Type 0} (s : Setting N) (past : Past N) (b : Bound N) (m : List (Entry N)) → Remembers s (going_into b.name past) m → Remembers s (later past b) m
later_evaluated s past b m h = record {
  hold = hold_later s past.values b m m h.hold;
  fits = fits_later m past b (unnamed_inside m b.name past h.fits) (fits_out m b.name past h.fits);
}

-- ---- At the turn of one that is remembered

-- it comes to that at its turn
pub comes_at_turn : {N : Type 0} (s : Setting N) (past : Past N) (m : List (Entry N)) (e : Entry N) (element : N) (levels : ℕ)
    → Holds s past.values m e → Fits m past → e.element ≡ Some element → e.levels ≤ levels → Comes e (meaning s levels (going_into e.name past) 0 (global_call s.root element nowhere))
comes_at_turn {N = N} s past m e element levels h fits is low =
    let P : Option N → Type 0 = λ o. HoldsAt s past.values m e o in
    subst P is h.at levels past nowhere low (suits_here fits)

-- two of one name have one value
same_value : {N : Type 0} (s : Setting N) (past : Past N) (m : List (Entry N)) (e f : Entry N) (element : N) → Fits m past → Holds s past.values m e → Holds s past.values m f → e.element ≡ Some element → e.name ≡ f.name → e.value ≡ f.value
same_value {N = N} s past m e f element fits h k is same =
    let r = e.levels + f.levels in
    let one = comes_at_turn s past m e element r h fits is (omega arith) in
    let other = comes_at_turn s past m f element r k fits (sym k.element_is ∙ ap (λ n. element_named n s.globals) (sym same) ∙ h.element_is ∙ is) (omega arith) in
    let H : Expanded → Supplied N = λ n. held_by (meaning s r (going_into n past) 0 (global_call s.root element nowhere)) in
    let both = sym one.held ∙ ap H same ∙ other.held in
    known_value e.value f.value both
  where
    value_in : Supplied N → Value N
    value_in (Known (Valued v)) = v
    value_in _ = e.value

    known_value : (v w : Value N) → Known (Valued v) ≡ Known (Valued w) → v ≡ w
    known_value v w k = ap value_in k

fits_turned : {N : Type 0} (s : Setting N) (past : Past N) (m es : List (Entry N)) (e : Entry N) (element : N)
    → Fits m past → Holds s past.values m e → e.element ≡ Some element → AllHold s past.values m es → Fits es past → Fits es (later past (record { name = e.name; value = e.value }))
fits_turned s past m [] e element fits h is k l = tt
fits_turned s past m (f ∷ es) e element fits h is k l = (
  (l.0.0, first_later f.name past.values (record { name = e.name; value = e.value }) f.value l.0.1 (λ t. same_value s past m e f element fits h k.0 is (equal_names e.name f.name t))),
  fits_turned s past m es e element fits h is k.1 l.1,
)

pub later_remembered : {N : Type 0} (s : Setting N) (past : Past N) (m : List (Entry N)) (e : Entry N) (element : N)
    → Holds s past.values m e → e.element ≡ Some element → Remembers s past m → Remembers s (later past (record { name = e.name; value = e.value })) m
later_remembered s past m e element h is k =
    record { hold = hold_later s past.values (record { name = e.name; value = e.value }) m m k.hold; fits = fits_turned s past m m e element k.fits h is k.hold k.fits }
