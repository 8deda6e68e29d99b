-- What a name has among the attributes of an element, and the others without it.
use Rattle.std.proofs.Common.{◌≡◌, ℕ, zero, suc, ◌+◌, ◌<◌, Bool, true, false, bytes_eq, List, [], ◌∷◌, ◌++◌, length, map, take, drop, get_or, Option, None, Some, refl, sym, ap, ◌∙◌, subst, if◌then◌else◌, arith}
use Rattle.std.specs.List.{position, position_from}
use Rattle.std.proofs.lemmas.Iterator.Adapters.{position_from-zero}
use Rattle.std.proofs.lemmas.Slice.Eq.{bytes_eq-Decides}
use Rattle.spec_compile.specs.Value as plain
use Rattle.spec_compile.specs.Value.{value_at}
use Rattle.xt_attributes.specs.View.{entry_in, value_in}
use Rattle.xt_attributes.specs.declared.entries.Entry.{Entry}

abbrev pub named : List ℕ → Entry → Bool
named name e = bytes_eq e.name name

none_or : (b : Bool) (i : ℕ) (more : Option ℕ) (value rest : Option plain.Value) → (more ≡ None → None ≡ rest) → (if b then Some i else more) ≡ None
    → None ≡ (if b then value else rest)
none_or true i more value rest ih h = absurd (cc)
none_or false i more value rest ih h = ih h

absent_from : (name : List ℕ) (i : ℕ) (es : List Entry) → position_from (named name) i es ≡ None → None ≡ value_at name (map entry_in es)
absent_from name i [] h = refl
absent_from name i (e ∷ es) h =
    none_or (bytes_eq e.name name) i (position_from (named name) (i + 1) es) (Some (value_in e.value)) (value_at name (map entry_in es)) (absent_from name (i + 1) es) h

pub absent : (name : List ℕ) (es : List Entry) → position (named name) es ≡ None → None ≡ value_at name (map entry_in es)
absent name es h = absent_from name 0 es (sym (position_from-zero (named name) es) ∙ h)

pub taken : (name : List ℕ) (es : List Entry) (i : ℕ) (d : Entry) → i < length es → named name (get_or es i d) ≡ true
    → ((k : ℕ) → k < i → named name (get_or es k d) ≡ false) → Some (value_in (get_or es i d).value) ≡ value_at name (map entry_in es)
taken name [] i d l h f = absurd (omega arith)
taken name (e ∷ es) zero d l h f = let n : bytes_eq e.name name ≡ true = h in rw n refl
taken name (e ∷ es) (suc i) d l h f =
    let n : bytes_eq e.name name ≡ false = f 0 (omega arith) in
    rw n (taken name es i d (omega (arith, l)) h (λ k lt. f (suc k) (omega (arith, lt))))

other_name : (first name other : List ℕ) → bytes_eq first name ≡ true → bytes_eq name other ≡ false → bytes_eq first other ≡ false
other_name first name other h f = subst (λ (n : List ℕ). bytes_eq n other ≡ false) (sym ((bytes_eq-Decides first name).0 h)) f

pub others : (name other : List ℕ) → bytes_eq name other ≡ false → (es : List Entry) (i : ℕ) (d : Entry) → i < length es → named name (get_or es i d) ≡ true
    → value_at other (map entry_in (take i es ++ drop (suc i) es)) ≡ value_at other (map entry_in es)
others name other f [] i d l h = absurd (omega arith)
others name other f (e ∷ es) zero d l h = rw (other_name e.name name other h f) refl
others name other f (e ∷ es) (suc i) d l h =
    ap (λ rest. if bytes_eq e.name other then Some (value_in e.value) else rest) (others name other f es i d (omega (arith, l)) h)
