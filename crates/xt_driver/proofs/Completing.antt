-- That of all that comes to its end there is a record among those that this run keeps for the next, and that these are of what the run has.
use Rattle.std.proofs.Common.{◌≡◌, ◌⊎◌, inl, inr, ℕ, zero, suc, List, [], ◌∷◌, ◌++◌, map, Some, slice_get, refl, sym, ap, subst, ◌∙◌}
use Rattle.std.proofs.lemmas.List.{map-append}
use Rattle.std.specs.declared.alloc.Global.{Global as Allocator}
use Rattle.std.specs.declared.rc.Rc.{Rc}
use Rattle.spec_run.specs.Hold.{GoesOn}
use Rattle.spec_run.specs.Trail.{Kept}
use Rattle.spec_run.specs.Meaning.{Setting}
use Rattle.spec_reuse.specs.Among.{IsIn}
use Rattle.spec_reuse.specs.Instantiation.{Instantiation, own_of, instantiations}
use Rattle.spec_reuse.specs.Ledger.{AllFound, HasLike, IsFound}
use Rattle.spec_reuse.proofs.Again.{in_append}
use Rattle.spec_reuse.proofs.Within.{in_left}
use Rattle.spec_node.specs.declared.node_ref.NodeRef.{NodeRef}
use Rattle.xt_record.specs.Search.{next_of}
use Rattle.xt_record.specs.View.{kept_in, IsAt}
use Rattle.xt_record.specs.declared.record.Record.{Record}
use Rattle.xt_record.specs.declared.reuse.Reuse.{Reuse}
use Rattle.xt_record.proofs.Chaining.{none_some, some_is}
use Rattle.xt_driver.specs.Counted.{kept_at, kept_by, records_of, AreLikeRun, IsWithin, KeepsAll, KeepsOn, StaysLikeRun}

-- ---- Records and their places

at_in : (rs : List (Rc Record Allocator)) (turn : ℕ) (r : Rc Record Allocator) → slice_get rs turn ≡ Some r → IsIn (kept_at r) (map kept_at rs)
at_in [] turn r e = absurd (none_some e)
at_in (x ∷ rs) zero r e = inl (ap kept_at (sym (some_is e)))
at_in (x ∷ rs) (suc turn) r e = inr (at_in rs turn r e)

pub is_at : (rs : List (Rc Record Allocator)) (turn : ℕ) (r : Record) → IsAt rs turn r → IsIn (kept_in r) (map kept_at rs)
is_at rs turn r h =
    let P : Record → Type 0 = λ x. IsIn (kept_in x) (map kept_at rs) in
    subst P h.is (at_in rs turn h.handle h.here)

pub record IsSome (rs : List (Rc Record Allocator)) (k : Kept NodeRef) : Type 0 where
  pub turn : ℕ
  pub handle : Rc Record Allocator
  pub here : slice_get rs turn ≡ Some handle
  pub is : k ≡ kept_at handle

pub in_some : (rs : List (Rc Record Allocator)) (k : Kept NodeRef) → IsIn k (map kept_at rs) → IsSome rs k
in_some [] k h = absurd h
in_some (x ∷ rs) k (inl e) = record { turn = 0; handle = x; here = refl; is = e }
in_some (x ∷ rs) k (inr h) = let m = in_some rs k h in record { turn = suc m.turn; handle = m.handle; here = m.here; is = m.is }

-- with these behind those that were kept for the next run
pub kept_more : (before after : Reuse) (more : List Record) → next_of after ≡ next_of before ++ more → kept_by after ≡ kept_by before ++ map kept_in more
kept_more before after more e = ap (map kept_in) e ∙ map-append kept_in (next_of before) more

-- what was kept stays kept, and what is kept then is at hand
pub keeps_same : (before after : Reuse) → next_of after ≡ next_of before → KeepsOn before after
keeps_same before after e k h = let P : List Record → Type 0 = λ rs. IsIn k (map kept_in rs) in subst P (sym e) h

pub keeps_more : (before after : Reuse) (more : List Record) → next_of after ≡ next_of before ++ more → KeepsOn before after
keeps_more before after more e k h =
    let P : List (Kept NodeRef) → Type 0 = λ ks. IsIn k ks in
    subst P (sym (kept_more before after more e)) (in_left k (kept_by before) (map kept_in more) h)

pub within_same : (before after : Reuse) → records_of after ≡ records_of before → next_of after ≡ next_of before → IsWithin before → IsWithin after
within_same before after same e within k h =
    let P : List (Kept NodeRef) → Type 0 = λ ks. IsIn k ks in
    let Q : List Record → Type 0 = λ rs. IsIn k (map kept_in rs) in
    subst P (sym same) (within k (subst Q e h))

pub within_more : (before after : Reuse) (more : List Record) → ((k : Kept NodeRef) → IsIn k (records_of before) → IsIn k (records_of after))
    → ((k : Kept NodeRef) → IsIn k (map kept_in more) → IsIn k (records_of after)) → next_of after ≡ next_of before ++ more → IsWithin before
    → IsWithin after
within_more before after more on new e within k h =
    let P : List (Kept NodeRef) → Type 0 = λ ks. IsIn k ks in
    go (in_append k (kept_by before) (map kept_in more) (subst P (kept_more before after more e) h))
  where
    go : IsIn k (kept_by before) ⊎ IsIn k (map kept_in more) → IsIn k (records_of after)
    go (inl m) = on k (within k m)
    go (inr m) = new k m

-- ---- What is found

found_on : (s : Setting NodeRef) (i : Instantiation NodeRef) (before after : List (Kept NodeRef))
    → ((k : Kept NodeRef) → IsIn k before → IsIn k after) → IsFound s before i → IsFound s after i
found_on s i before after on m = (m.0, on m.0 m.1, m.2, m.3)

-- what is found among those that are kept for the next run is found
pub found_at_hand : (s : Setting NodeRef) (reuse : Reuse) (is : List (Instantiation NodeRef)) → IsWithin reuse → AllFound s (kept_by reuse) is
    → AllFound s (records_of reuse) is
found_at_hand s reuse is within all i h = found_on s i (kept_by reuse) (records_of reuse) within (all i h)

pub all_found_on : (s : Setting NodeRef) (is : List (Instantiation NodeRef)) (before after : Reuse) → KeepsOn before after
    → AllFound s (kept_by before) is → AllFound s (kept_by after) is
all_found_on s is before after on all i h = found_on s i (kept_by before) (kept_by after) on (all i h)

-- ---- What is kept of all

pub keeps_none : (s : Setting NodeRef) (reuse : Reuse) → KeepsAll s [] reuse
keeps_none s reuse = record { found = λ i h. absurd h }

pub keeps_found : (s : Setting NodeRef) (is : List (Instantiation NodeRef)) (reuse : Reuse) → AllFound s (kept_by reuse) is → KeepsAll s is reuse
keeps_found s is reuse all = record { found = λ i h ends. all i h }

pub keeps_of : (s : Setting NodeRef) (is js : List (Instantiation NodeRef)) (reuse : Reuse) → is ≡ js → KeepsAll s is reuse → KeepsAll s js reuse
keeps_of s is js reuse same h = let P : List (Instantiation NodeRef) → Type 0 = λ l. KeepsAll s l reuse in subst P same h

pub keeps_on : (s : Setting NodeRef) (is : List (Instantiation NodeRef)) (before after : Reuse) → KeepsOn before after → KeepsAll s is before
    → KeepsAll s is after
keeps_on s is before after on h = record { found = λ i m ends. found_on s i (kept_by before) (kept_by after) on (h.found i m ends) }

-- of one part, and then of the next
pub keeps_both : (s : Setting NodeRef) (is js : List (Instantiation NodeRef)) (before after : Reuse) → KeepsOn before after
    → KeepsAll s is before → KeepsAll s js after → KeepsAll s (is ++ js) after
keeps_both s is js before after on x y = record { found = λ i m ends. go i ends (in_append i is js m) }
  where
    go : (i : Instantiation NodeRef) → GoesOn (own_of s i).ending → IsIn i is ⊎ IsIn i js → IsFound s (kept_by after) i
    go i ends (inl m) = (keeps_on s is before after on x).found i m ends
    go i ends (inr m) = y.found i m ends

-- with one more that is found where it comes to its end
pub keeps_one : (s : Setting NodeRef) (i : Instantiation NodeRef) (reuse : Reuse) → (GoesOn (own_of s i).ending → IsFound s (kept_by reuse) i)
    → KeepsAll s (i ∷ []) reuse
keeps_one s i reuse found = record { found = λ j m ends. go j ends m }
  where
    go : (j : Instantiation NodeRef) → GoesOn (own_of s j).ending → (j ≡ i) ⊎ ⊥ → IsFound s (kept_by reuse) j
    go j ends (inl e) =
        let G : Instantiation NodeRef → Type 0 = λ x. GoesOn (own_of s x).ending in
        let F : Instantiation NodeRef → Type 0 = λ x. IsFound s (kept_by reuse) x in
        subst F (sym e) (found (subst G e ends))
    go j ends (inr e) = absurd e

-- ---- What is kept is of the run

-- where nothing is kept
pub likes_same : (s : Setting NodeRef) (before after : Reuse) → next_of after ≡ next_of before → StaysLikeRun s before after
likes_same s before after e h =
    let P : List Record → Type 0 = λ rs. AreLikeRun s (map kept_in rs) in
    subst P (sym e) h

-- with these behind them
pub likes_more : (s : Setting NodeRef) (before after : Reuse) (more : List Record) → next_of after ≡ next_of before ++ more
    → AreLikeRun s (map kept_in more) → StaysLikeRun s before after
likes_more s before after more e like h k m =
    let P : List (Kept NodeRef) → Type 0 = λ ks. IsIn k ks in
    go (in_append k (kept_by before) (map kept_in more) (subst P (kept_more before after more e) m))
  where
    go : IsIn k (kept_by before) ⊎ IsIn k (map kept_in more) → HasLike (instantiations s) k.call
    go (inl x) = h k x
    go (inr x) = like k x

-- and with one
pub likes_one : (s : Setting NodeRef) (before after : Reuse) (r : Record) → next_of after ≡ next_of before ++ r ∷ []
    → HasLike (instantiations s) (kept_in r).call → StaysLikeRun s before after
likes_one s before after r e like = likes_more s before after (r ∷ []) e go
  where
    go : (k : Kept NodeRef) → IsIn k (kept_in r ∷ []) → HasLike (instantiations s) k.call
    go k (inl same) = let P : Kept NodeRef → Type 0 = λ x. HasLike (instantiations s) x.call in subst P (sym same) like
    go k (inr none) = absurd none
