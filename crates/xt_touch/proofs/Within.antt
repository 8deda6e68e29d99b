-- Which of some numbers lie within bounds.
use Rattle.std.proofs.Common.{◌≡◌, ◌⊎◌, ℕ, ◌+◌, ◌<◌, true, false, List, [], ◌∷◌, ◌++◌, length, get_or, take, inl, inr, refl, sym, ap, ◌∙◌, subst}
use Rattle.std.specs.Prelude.{◌==◌}
use Rattle.std.specs.List.{list_any}
use Rattle.std.proofs.lemmas.Bool.{eqb-true, false_from_ne_true, ne_eqb, or_cases, or_from, or_parts, both_ways}
use Rattle.std.proofs.lemmas.List.{map-append, take_more}
use Rattle.spec_change.specs.Change.{is_among}
use Rattle.spec_node.specs.declared.node_ref.NodeId.{NodeId}
use Rattle.xt_edit.specs.Telling.{numbers_in}
use Rattle.xt_touch.specs.Named.{LieOutside, LieWithin, is_within}
use Rattle.xt_touch.specs.declared.named.Bounds.{Bounds}
use Rattle.xt_touch.proofs.Members.{among_append}

-- ---- Lists of numbers within bounds

-- a turn of a loop that widens bounds
pub within_more : (nodes : List NodeId) (i : ℕ) (d : NodeId) (was now : Bounds) → i < length nodes
    → is_within now (get_or nodes i d).number ≡ true → ((n : ℕ) → is_within was n ≡ true → is_within now n ≡ true)
    → LieWithin (numbers_in (take i nodes)) was → LieWithin (numbers_in (take (i + 1) nodes)) now
within_more nodes i d was now lt here more before n among =
    let x = get_or nodes i d in
    let all : is_among (numbers_in (take i nodes) ++ x.number ∷ []) n ≡ true =
    ap (λ ns. is_among ns n) (sym (map-append (λ id. id.number) (take i nodes) (x ∷ [])) ∙ ap numbers_in (sym (take_more nodes i d lt))) ∙ among in
    by (or_cases _ _ (sym (among_append (numbers_in (take i nodes)) (x.number ∷ []) n) ∙ all))
  where
    by : (is_among (numbers_in (take i nodes)) n ≡ true) ⊎ (is_among ((get_or nodes i d).number ∷ []) n ≡ true) → is_within now n ≡ true
    by (inl e) = more n (before n e)
    by (inr e) = last (or_cases ((get_or nodes i d).number == n) false e)
      where
        last : (((get_or nodes i d).number == n) ≡ true) ⊎ (false ≡ true) → is_within now n ≡ true
        last (inl e) = subst (λ (k : ℕ). is_within now k ≡ true) (eqb-true (get_or nodes i d).number n e) here
        last (inr e) = absurd (cc)

pub both_within : (xs ys : List ℕ) (bounds : Bounds) → LieWithin xs bounds → LieWithin ys bounds → LieWithin (xs ++ ys) bounds
both_within xs ys bounds of_xs of_ys n among = by (or_cases _ _ (sym (among_append xs ys n) ∙ among))
  where
    by : (is_among xs n ≡ true) ⊎ (is_among ys n ≡ true) → is_within bounds n ≡ true
    by (inl e) = of_xs n e
    by (inr e) = of_ys n e

-- ---- Lists of numbers outside bounds

-- what lies within bounds that have no number in common with others lies outside those
pub apart : (numbers : List ℕ) (bounds others : Bounds) → LieWithin numbers bounds
    → ((n : ℕ) → is_within bounds n ≡ true → is_within others n ≡ false) → LieOutside numbers others
apart numbers bounds others within none n h =
    false_from_ne_true (is_among numbers n) (λ among. both_ways (is_within others n) (none n (within n among)) h)

-- where none of them is within
pub outside : (numbers : List ℕ) (bounds : Bounds) → list_any (is_within bounds) numbers ≡ false → LieOutside numbers bounds
outside [] bounds none n h = refl
outside (x ∷ xs) bounds none n h =
    let parts = or_parts (is_within bounds x) (list_any (is_within bounds) xs) none in
    or_from (x == n) (is_among xs n)
    (ne_eqb x n (λ e. both_ways (is_within bounds n) (ap (is_within bounds) (sym e) ∙ parts.0) h))
    (outside xs bounds parts.1 n h)

pub outside_alone : (number : ℕ) (bounds : Bounds) → is_within bounds number ≡ false → LieOutside (number ∷ []) bounds
outside_alone number bounds none = outside (number ∷ []) bounds (or_from (is_within bounds number) false none refl)
