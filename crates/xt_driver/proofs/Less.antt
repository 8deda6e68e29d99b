-- A reference from a content less deep, or at another element, gives the same value.
use Rattle.std.proofs.Common.{◌≡◌, ℕ, zero, suc, ◌-◌, ◌≤◌, List, [], ◌∷◌, Bool, true, false, cond, refl, sym, ap, subst, ◌∙◌, arith}
use Rattle.std.specs.Prelude.{Option, None, Some}
use Rattle.std.specs.List.{list_any}
use Rattle.spec_document.specs.Name.{Expanded, same_name}
use Rattle.spec_stylesheet.specs.Place.{Place}
use Rattle.spec_meaning.specs.Context.{Bound}
use Rattle.spec_meaning.specs.Program.{Given, Valued}
use Rattle.spec_run.specs.Direct.{Supplied, Known, Outcome}
use Rattle.spec_run.specs.Hold.{GoesOn}
use Rattle.spec_run.specs.Meaning.{Setting, Past, going_into, held_by, global_call, element_named, refer, evaluated, referred, meaning}
use Rattle.spec_run.proofs.More.{meaning_at, more_room, held_known}

-- where a global that comes to its end is evaluated does not count
pub elsewhere : {N : Type 0} (s : Setting N) (room : ℕ) (past : Past N) (d : ℕ) (element : N) (l m : Place)
    → GoesOn (meaning s room past d (global_call s.root element l)).ending → meaning s room past d (global_call s.root element m) ≡ meaning s room past d (global_call s.root element l)
elsewhere s zero past d element l m h = absurd h
elsewhere s (suc room) past zero element l m h = refl
elsewhere s (suc room) past (suc d) element l m h = elsewhere s room past d element l m h

refer_less : {N : Type 0} (name : Expanded) (l m : Place) (bs : List (Bound N)) (is_under : Bool) (now less : Supplied N) (x : Given N)
    → (now ≡ Known x → less ≡ Known x) → refer name l bs is_under now ≡ Known x → refer name m bs is_under less ≡ Known x
refer_less name l m [] true now less x f h = absurd (cc)
refer_less name l m [] false now less x f h = f h
refer_less name l m (b ∷ bs) is_under now less x f h = go (same_name b.name name) (refer_less name l m bs is_under now less x f) h
  where
    go : (t : Bool) → (refer name l bs is_under now ≡ Known x → refer name m bs is_under less ≡ Known x)
        → cond t (Known (Valued b.value)) (refer name l bs is_under now) ≡ Known x → cond t (Known (Valued b.value)) (refer name m bs is_under less) ≡ Known x
    go true k e = e
    go false k e = k e

pub referred_less : {N : Type 0} (s : Setting N) (below : ℕ) (past : Past N) (name : Expanded) (d e : ℕ) (l m : Place) (x : Given N)
    → e ≤ d → referred s (meaning s below) past name d l ≡ Known x → referred s (meaning s below) past name e m ≡ Known x
referred_less {N = N} s below past name d e l m x k h =
    refer_less name l m past.values (list_any (same_name name) past.under) (evaluated s (meaning s below) past name d l (element_named name s.globals))
    (evaluated s (meaning s below) past name e m (element_named name s.globals)) x (go (element_named name s.globals)) h
  where
    go : (element : Option N) → evaluated s (meaning s below) past name d l element ≡ Known x → evaluated s (meaning s below) past name e m element ≡ Known x
    go None q = q
    go (Some element) q =
        let inner = going_into name past in
        let c = global_call s.root element l in
        let on = held_known (meaning s below inner d c) x q in
        let nearer = more_room s below below inner d e c (omega (arith, k)) on in
        let G : Outcome N → Type 0 = λ o. GoesOn o.ending in
        ap held_by (elsewhere s below inner e element l m (subst G (sym nearer) on) ∙ nearer) ∙ q

-- with so many levels left it is what it is from its depth
pub referred_at : {N : Type 0} (s : Setting N) (below : ℕ) (past : Past N) (name : Expanded) (d left : ℕ) (l : Place)
    → left ≡ below - d → referred s (meaning s left) past name 0 l ≡ referred s (meaning s below) past name d l
referred_at {N = N} s below past name d left l e = ap (refer name l past.values (list_any (same_name name) past.under)) (go (element_named name s.globals))
  where
    go : (element : Option N) → evaluated s (meaning s left) past name 0 l element ≡ evaluated s (meaning s below) past name d l element
    go None = refl
    go (Some element) =
        let inner = going_into name past in
        let c = global_call s.root element l in
        ap held_by (ap (λ n. meaning s n inner 0 c) e ∙ sym (meaning_at s below inner d c))
