-- The scan of events for the first that may not follow, at a place.
use Rattle.std.proofs.Common.{◌≡◌, ℕ, suc, ◌<◌, ◌≤◌, false, cond, List, [], ◌∷◌, map, reverse, length, drop, get_or, drop-cons}
use Rattle.std.proofs.Common.{arith, Option, None, Some, refl, sym, ap, ◌∙◌}
use Rattle.std.proofs.lemmas.List.{at_drop_all, length-reverse, length-map}
use Rattle.spec_document.specs.declared.event.Event.{Event}
use Rattle.spec_document.specs.Balance.{open_behind, may_follow}
use Rattle.spec_document.proofs.Balanced.{scan, missing}
use Rattle.xt_build.specs.declared.read.Located.{Located}
use Rattle.xt_build.specs.View.{located_of}

pub scan_stops : (before : Option (Event (List ℕ))) (names : List (List ℕ)) (events : List Located) (i : ℕ) (item : Located) → i < length events
    → item ≡ get_or events i item
    → may_follow before names item.event ≡ false → scan before names (map located_of (drop i events)) ≡ Some item.line
scan_stops before names events i item l at refused =
    ap (λ es. scan before names (map located_of es)) (drop-cons events i item l ∙ ap (λ (e : Located). e ∷ drop (suc i) events) (sym at))
    ∙ ap (λ t. cond t (scan (Some item.event) (open_behind item.event names) (map located_of (drop (suc i) events))) (Some item.line)) refused

pub scan_ends : {X : Type 0} (name_of : X → List ℕ) (before : Option (Event (List ℕ))) (stack : List X) (events : List Located) (i : ℕ)
    → length events ≤ i
    → scan before (reverse (map name_of stack)) (map located_of (drop i events)) ≡ missing (reverse (map name_of stack))
scan_ends name_of before stack events i l = at_drop_all (λ es. scan before (reverse (map name_of stack)) (map located_of es)) events i l

pub none_missing : {X : Type 0} (name_of : X → List ℕ) (stack : List X) → length stack ≡ 0 → missing (reverse (map name_of stack)) ≡ None
none_missing name_of [] e = refl
none_missing name_of (x ∷ stack) e = absurd (omega arith)

pub some_missing : {X : Type 0} (name_of : X → List ℕ) (stack : List X) → (length stack ≡ 0 → ⊥)
    → missing (reverse (map name_of stack)) ≡ Some 0
some_missing name_of stack some = go (reverse (map name_of stack)) (λ e. some (sym (length-reverse (map name_of stack) ∙ length-map stack name_of) ∙ e))
  where
    go : (names : List (List ℕ)) → (length names ≡ 0 → ⊥) → missing names ≡ Some 0
    go [] some = absurd (some refl)
    go (name ∷ names) some = refl
