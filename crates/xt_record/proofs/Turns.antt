-- The latest of a key in lists that stand behind each other.
use Rattle.std.proofs.Common.{◌≡◌, ℕ, zero, suc, ◌+◌, ◌-◌, ◌<◌, List, [], ◌∷◌, ◌++◌, take, drop, length, slice_get, Option, None, Some, refl, sym, ap, subst, ◌∙◌, length-append, arith}
use Rattle.std.specs.Prelude.{IfSome}
use Rattle.std.proofs.lemmas.List.{map-append}
use Rattle.std.proofs.Math.Logic.{∥∥₁_elim, ∥∥₁_map, ∥∥₁_prop}
use Rattle.std.specs.declared.rc.Rc.{Rc}
use Rattle.std.specs.declared.alloc.Global.{Global}
use Rattle.xt_record.specs.Chain.{keys_in, IsLatest}
use Rattle.xt_record.specs.Listed.{key_at, keys_of, records_in}
use Rattle.xt_record.specs.Pieced.{flat}
use Rattle.xt_record.specs.declared.entry.Entry.{Entry}
use Rattle.xt_record.specs.declared.key.Key.{Key}
use Rattle.xt_record.specs.declared.record.Record.{Record}
use Rattle.xt_record.proofs.Chaining.{none_some, within}
use Rattle.xt_record.proofs.Pieced.{IsPlaced, get_behind, get_first, map_length}

-- what stands in lists behind each other stands in one of them
from_either : {A P : Type 0} (xs ys : List A) (t : ℕ) (x : A) → slice_get (xs ++ ys) t ≡ Some x → (slice_get xs t ≡ Some x → P)
    → ((n : ℕ) → t ≡ length xs + n → slice_get ys n ≡ Some x → P) → P
from_either [] ys t x at f g = g t (omega arith) at
from_either (y ∷ xs) ys zero x at f g = f at
from_either (y ∷ xs) ys (suc t) x at f g = from_either xs ys t x at f (λ n e there. g n (omega (arith, e)) there)

module _ (xs ys : List Key) (key : Key) (turn : ℕ) where
  -- one was found in those behind
  pub latest_behind : (at : ℕ) → IsLatest ys key (turn - length xs) (Some at) → IsLatest (xs ++ ys) key turn (Some (length xs + at))
  latest_behind at h = record {
    below = let lt : length xs + at < turn = omega (arith, h.below) in lt;
    has = get_behind xs ys (length xs + at) at key refl h.has;
    last = λ t lt there. from_either xs ys t key there (λ here. let few = within xs t key here in omega (arith, few))
        (λ n e here. let le = h.last n (omega (arith, e, lt)) here in omega (arith, e, le));
  }

  -- none was
  pub latest_front : (found : Option ℕ) → IsLatest ys key (turn - length xs) None → IsLatest xs key turn found → IsLatest (xs ++ ys) key turn found
  latest_front found none h = record {
    below = h.below;
    has = has found h.has;
    last = λ t lt there. from_either xs ys t key there (λ here. h.last t lt here)
        (λ n e here. absurd (none.last n (omega (arith, e, lt)) here));
  }
    where
      has : (o : Option ℕ) → IfSome o (λ t. slice_get xs t ≡ Some key) → IfSome o (λ t. slice_get (xs ++ ys) t ≡ Some key)
      has None at = tt
      has (Some t) at = get_first xs ys t key at

-- no list has one
pub latest_none : (key : Key) (turn : ℕ) → IsLatest [] key turn None
latest_none key turn = record { below = tt; has = tt; last = λ t lt at. absurd (none_some at) }

-- the same of entries
module _ (xs ys es : List Entry) (key : Key) (turn count : ℕ) (are : es ≡ xs ++ ys) (many : count ≡ length xs) where
  keys_are : keys_of xs ++ keys_of ys ≡ keys_of es
  keys_are = sym (map-append key_at xs ys) ∙ ap (λ (zs : List Entry). keys_of zs) (sym are)

  from_is : turn - count ≡ turn - length (keys_of xs)
  from_is = omega (arith, many, map_length key_at xs)

  pub entries_behind : (at : ℕ) → IsLatest (keys_of ys) key (turn - count) (Some at) → IsLatest (keys_of es) key turn (Some (count + at))
  entries_behind at h =
      let place : length (keys_of xs) + at ≡ count + at = omega (arith, many, map_length key_at xs) in
      subst (λ (ks : List Key). IsLatest ks key turn (Some (count + at))) keys_are
      (subst (λ n. IsLatest (keys_of xs ++ keys_of ys) key turn (Some n)) place
      (latest_behind (keys_of xs) (keys_of ys) key turn at (subst (λ n. IsLatest (keys_of ys) key n (Some at)) from_is h)))

  pub entries_front : (o : Option ℕ) → IsLatest (keys_of ys) key (turn - count) None → IsLatest (keys_of xs) key turn o → IsLatest (keys_of es) key turn o
  entries_front o none h =
      subst (λ (ks : List Key). IsLatest ks key turn o) keys_are
      (latest_front (keys_of xs) (keys_of ys) key turn o (subst (λ n. IsLatest (keys_of ys) key n None) from_is none) h)

-- one goes along the pieces, from the last on
module _ (ps : List (List Entry)) (turns : List ℕ) (key : Key) (turn place start : ℕ) (p : List Entry) (at : IsPlaced ps 0 turns place p)
    (start_is : start ≡ length at.before) (none : IsLatest (keys_of (flat (drop (suc place) ps))) key (turn - length (flat (take (suc place) ps))) None) where
  behind : IsLatest (keys_of at.after) key ((turn - start) - length p) None
  behind =
      let many : turn - length (flat (take (suc place) ps)) ≡ (turn - start) - length p =
      omega (arith, ap (λ (xs : List Entry). length xs) at.up_to, length-append at.before p, start_is) in
      subst (λ n. IsLatest (keys_of at.after) key n None) many
      (subst (λ (xs : List Entry). IsLatest (keys_of xs) key (turn - length (flat (take (suc place) ps))) None) at.rest none)

  here : (o : Option ℕ) → IsLatest (keys_of p) key (turn - start) o → IsLatest (keys_of (p ++ at.after)) key (turn - start) o
  here o h = entries_front p at.after (p ++ at.after) key (turn - start) (length p) refl refl o behind h

  pub piece_some : (n : ℕ) → IsLatest (keys_of p) key (turn - start) (Some n) → IsLatest (keys_of (flat ps)) key turn (Some (start + n))
  piece_some n h = entries_behind at.before (p ++ at.after) (flat ps) key turn start at.parts start_is n (here (Some n) h)

  pub piece_none : IsLatest (keys_of p) key (turn - start) None
      → IsLatest (keys_of (flat (drop place ps))) key (turn - length (flat (take place ps))) None
  piece_none h =
      let many : turn - start ≡ turn - length (flat (take place ps)) = omega (arith, start_is, ap (λ (xs : List Entry). length xs) at.front) in
      subst (λ n. IsLatest (keys_of (flat (drop place ps))) key n None) many
      (subst (λ (xs : List Entry). IsLatest (keys_of xs) key (turn - start) None) (sym at.from) (here None h))

-- entries are found by the numbers of their records
pub keyed : (es : List Entry) → ∥ keys_of es ≡ keys_in (records_in es) ∥₁
keyed [] = ∣ refl ∣₁
keyed (e ∷ es) = ∥∥₁_elim e.keyed ∥∥₁_prop (λ same. ∥∥₁_map (keyed es) (λ rest. λ i. same i ∷ rest i))

pub latest_of : (es : List Entry) (rs : List (Rc Record Global)) (key : Key) (turn : ℕ) (found : Option ℕ) → rs ≡ records_in es
    → IsLatest (keys_of es) key turn found → ∥ IsLatest (keys_in rs) key turn found ∥₁
latest_of es rs key turn found are h = ∥∥₁_map (keyed es) (λ same.
    subst (λ (ks : List Key). IsLatest ks key turn found) (same ∙ ap (λ (xs : List (Rc Record Global)). keys_in xs) (sym are)) h)
