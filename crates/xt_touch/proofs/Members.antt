-- What is among numbers.
use Rattle.std.proofs.Common.{◌≡◌, ℕ, ◌+◌, ◌<◌, ◌≤◌, true, List, [], ◌∷◌, ◌++◌, length, get_or, drop, refl, sym, ap, ◌∙◌, append_assoc, append-nil}
use Rattle.std.specs.Prelude.{◌&&◌, ◌||◌, ◌==◌}
use Rattle.std.specs.List.{list_all}
use Rattle.std.proofs.lemmas.Bool.{and_parts}
use Rattle.std.proofs.lemmas.List.{at_drop_all, at_drop_more}
use Rattle.std.proofs.lemmas.List.Folds.{list_any-append}
use Rattle.spec_change.specs.Change.{is_among}
use Rattle.spec_node.specs.declared.node_ref.NodeId.{NodeId}
use Rattle.xt_edit.specs.Telling.{numbers_in}
use Rattle.xt_touch.specs.Sets.{AreSame}

pub among_append : (xs ys : List ℕ) (n : ℕ) → is_among (xs ++ ys) n ≡ (is_among xs n || is_among ys n)
among_append xs ys n = list_any-append (λ k. k == n) xs ys

-- more behind both
behind_both : (xs ys zs : List ℕ) → AreSame xs ys → AreSame (xs ++ zs) (ys ++ zs)
behind_both xs ys zs same n = among_append xs zs n ∙ ap (λ b. b || is_among zs n) (same n) ∙ sym (among_append ys zs n)

-- a turn of adding nodes, and the end of it
pub added_turn : (nodes : List NodeId) (i : ℕ) (d : NodeId) (was now all : List ℕ) → i < length nodes
    → AreSame now (was ++ (get_or nodes i d).number ∷ []) → AreSame (was ++ numbers_in (drop i nodes)) all → AreSame (now ++ numbers_in (drop (i + 1) nodes)) all
added_turn nodes i d was now all h added before n =
    let rest = numbers_in (drop (i + 1) nodes) in
    let here = (get_or nodes i d).number in
    behind_both now (was ++ here ∷ []) rest added n
    ∙ ap (λ ns. is_among ns n) (append_assoc was (here ∷ []) rest ∙ sym (at_drop_more (λ ns. was ++ numbers_in ns) nodes i d h))
    ∙ before n

pub all_added : (nodes : List NodeId) (i : ℕ) (now all : List ℕ) → length nodes ≤ i → AreSame (now ++ numbers_in (drop i nodes)) all → AreSame now all
all_added nodes i now all h before n =
    ap (λ ns. is_among ns n) (sym (append-nil now) ∙ sym (at_drop_all (λ ns. now ++ numbers_in ns) nodes i h)) ∙ before n

-- ---- Numbers that are all among others

abbrev pub All : (numbers ns : List ℕ) → Type 0
All numbers ns = list_all (is_among numbers) ns ≡ true

pub all_parts : (numbers xs ys : List ℕ) → All numbers (xs ++ ys) → All numbers xs × All numbers ys
all_parts numbers [] ys h = (refl, h)
all_parts numbers (x ∷ xs) ys h =
    let parts = and_parts (is_among numbers x) (list_all (is_among numbers) (xs ++ ys)) h in
    let more = all_parts numbers xs ys parts.1 in
    (ap (λ b. b && list_all (is_among numbers) xs) parts.0 ∙ more.0, more.1)
