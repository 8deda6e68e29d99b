-- The order of keys is one in which any two rows compare.
use Rattle.std.proofs.Common.{◌≡◌, refl, sym, ap, subst, ◌∙◌, Bool, true, false, true≢false, not, ◌&&◌, ◌||◌, nat_lt, ◌==◌, int_lt, cond, if◌then◌else◌, List, [], ◌∷◌, ℕ, Ordering, Less, Equal, Greater, nat_cmp, int_cmp, is_lt}
use Rattle.std.specs.Ordering.{ordering_then}
use Rattle.std.specs.Option.{option_cmp}
use Rattle.std.specs.Cmp.{IsStrictWeakOrder}
use Rattle.std.specs.Cmp.Lexicographic.{slice_cmp, options_total}
use Rattle.std.proofs.lemmas.Cmp.{nat_list_cmp_total, int_cmp_total}
use Rattle.std.proofs.lemmas.List.Sorted.{ranks_by, IsStrictWeakOrder-flip}
use Rattle.spec_expression.specs.Number.{Number, Whole, NaN, value_of}
use Rattle.spec_transform.specs.Sorted.{Criterion, KeyValue, AText, ANumber, text_before, number_before, key_before, before_by, keys_before, row_before}

-- an order of what is compared so
order_of : {X : Type 0} {f g : X → X → Bool} → ((x y : X) → f x y ≡ g x y) → IsStrictWeakOrder f → IsStrictWeakOrder g
order_of same o = subst IsStrictWeakOrder (λ i x y. same x y i) o

-- ---- Texts and numbers

by_tests : (a b : Bool) (o : Ordering) → is_lt (ordering_then (cond a Less (cond b Equal Greater)) o) ≡ (a || (b && is_lt o))
by_tests true b o = refl
by_tests false true o = refl
by_tests false false o = refl

text_less : (s t : List ℕ) → is_lt (slice_cmp nat_cmp s t) ≡ text_before s t
text_less [] [] = refl
text_less [] (d ∷ ds) = refl
text_less (c ∷ cs) [] = refl
text_less (c ∷ cs) (d ∷ ds) = by_tests (nat_lt c d) (c == d) (slice_cmp nat_cmp cs ds) ∙ ap (λ b. nat_lt c d || (c == d && b)) (text_less cs ds)

texts : IsStrictWeakOrder text_before
texts = order_of text_less (ranks_by nat_list_cmp_total (λ t. t))

by_two : (a b : Bool) → is_lt (cond a Less (cond b Greater Equal)) ≡ a
by_two true b = refl
by_two false true = refl
by_two false false = refl

number_less : (m n : Number) → is_lt (option_cmp int_cmp (value_of m) (value_of n)) ≡ number_before m n
number_less NaN NaN = refl
number_less NaN (Whole z) = refl
number_less (Whole z) NaN = refl
number_less (Whole y) (Whole z) = by_two (int_lt y z) (int_lt z y)

numbers : IsStrictWeakOrder number_before
numbers = order_of number_less (ranks_by (options_total int_cmp_total) value_of)

-- ---- Keys

one_way : (v w : KeyValue) → key_before v w ≡ true → key_before w v ≡ false
one_way (AText s) (AText t) p = texts.one_way s t p
one_way (AText s) (ANumber n) p = absurd (true≢false (sym p))
one_way (ANumber m) (AText t) p = refl
one_way (ANumber m) (ANumber n) p = numbers.one_way m n p

chain : (u v w : KeyValue) → key_before u v ≡ false → key_before v w ≡ false → key_before u w ≡ false
chain (AText s) (AText t) (AText r) p q = texts.chain s t r p q
chain (AText s) v (ANumber n) p q = refl
chain (AText s) (ANumber m) (AText t) p q = absurd (true≢false q)
chain (ANumber m) (AText t) w p q = absurd (true≢false p)
chain (ANumber m) (ANumber n) (AText t) p q = absurd (true≢false q)
chain (ANumber m) (ANumber n) (ANumber o) p q = numbers.chain m n o p q

keys : IsStrictWeakOrder key_before
keys = record { one_way = one_way; chain = chain }

-- turned or not
either_way : (b : Bool) → IsStrictWeakOrder (λ v w. if b then key_before w v else key_before v w)
either_way true = IsStrictWeakOrder-flip key_before keys
either_way false = keys

by : (c : Criterion) → IsStrictWeakOrder (before_by c)
by c = either_way c.descends

-- ---- Lists of keys, by the first and then by the others

first_one_way : (a b r s : Bool) → (a ≡ true → b ≡ false) → (r ≡ true → s ≡ false) → (a || (not b && r)) ≡ true → (b || (not a && s)) ≡ false
first_one_way true true r s f g p = absurd (true≢false (f refl))
first_one_way true false r s f g p = refl
first_one_way false true r s f g p = absurd (true≢false (sym p))
first_one_way false false r s f g p = g p

-- of u, v and w: whether the first key of u comes before that of v and the other way round, and the same of v and w, and of u and w
first_chain : (uv vu vw wv uw wu r s t : Bool) → (uv ≡ false → vw ≡ false → uw ≡ false) → (vw ≡ false → wu ≡ false → vu ≡ false)
    → (wu ≡ false → uv ≡ false → wv ≡ false) → (r ≡ false → s ≡ false → t ≡ false)
    → (uv || (not vu && r)) ≡ false → (vw || (not wv && s)) ≡ false → (uw || (not wu && t)) ≡ false
first_chain true vu vw wv uw wu r s t f g h k p q = absurd (true≢false p)
first_chain false vu true wv uw wu r s t f g h k p q = absurd (true≢false q)
first_chain false vu false wv true wu r s t f g h k p q = absurd (true≢false (f refl refl))
first_chain false vu false wv false true r s t f g h k p q = refl
first_chain false true false wv false false r s t f g h k p q = absurd (true≢false (g refl refl))
first_chain false false false true false false r s t f g h k p q = absurd (true≢false (h refl refl))
first_chain false false false false false false r s t f g h k p q = k p q

module _ (c : Criterion) (cs : List Criterion) (rest : IsStrictWeakOrder (keys_before cs)) where
  more_one_way : (vs ws : List KeyValue) → keys_before (c ∷ cs) vs ws ≡ true → keys_before (c ∷ cs) ws vs ≡ false
  more_one_way [] [] p = absurd (true≢false (sym p))
  more_one_way [] (w ∷ ws) p = refl
  more_one_way (v ∷ vs) [] p = absurd (true≢false (sym p))
  more_one_way (v ∷ vs) (w ∷ ws) p = first_one_way (before_by c v w) (before_by c w v) _ _ ((by c).one_way v w) (rest.one_way vs ws) p

  more_chain : (us vs ws : List KeyValue) → keys_before (c ∷ cs) us vs ≡ false → keys_before (c ∷ cs) vs ws ≡ false → keys_before (c ∷ cs) us ws ≡ false
  more_chain [] [] ws p q = q
  more_chain [] (v ∷ vs) ws p q = absurd (true≢false p)
  more_chain (u ∷ us) vs [] p q = refl
  more_chain (u ∷ us) [] (w ∷ ws) p q = absurd (true≢false q)
  more_chain (u ∷ us) (v ∷ vs) (w ∷ ws) p q =
      first_chain (before_by c u v) (before_by c v u) (before_by c v w) (before_by c w v) (before_by c u w) (before_by c w u) _ _ _
      ((by c).chain u v w) ((by c).chain v w u) ((by c).chain w u v) (rest.chain us vs ws) p q

all_keys : (cs : List Criterion) → IsStrictWeakOrder (keys_before cs)
all_keys [] = record { one_way = λ vs ws p. absurd (true≢false (sym p)); chain = λ us vs ws p q. refl }
all_keys (c ∷ cs) = record { one_way = more_one_way c cs (all_keys cs); chain = more_chain c cs (all_keys cs) }

pub rows : {N : Type 0} (cs : List Criterion) → IsStrictWeakOrder (row_before {N = N} cs)
rows cs = record { one_way = λ r s. (all_keys cs).one_way r.keys s.keys; chain = λ r s t. (all_keys cs).chain r.keys s.keys t.keys }
