-- What is less by the order of keys is what comes before by the definition.
use Rattle.std.proofs.Common.{◌≡◌, refl, sym, ap, subst, ◌∙◌, Bool, true, false, not, ◌&&◌, ◌||◌, nat_lt, ◌==◌, int_lt, cond, if◌then◌else◌, List, [], ◌∷◌, ℕ, Ordering, Less, Equal, Greater, nat_cmp, is_lt}
use Rattle.std.specs.Ordering.{ordering_reverse, ordering_then}
use Rattle.std.specs.Cmp.{IsStrictWeakOrder}
use Rattle.std.specs.Cmp.Lexicographic.{slice_cmp, options_total}
use Rattle.std.proofs.lemmas.Cmp.{nat_list_cmp_total, int_cmp_total}
use Rattle.spec_expression.specs.Number.{Number, Whole, NaN, value_of}
use Rattle.spec_transform.specs.Sorted.{Criterion, KeyValue, AText, ANumber, Row, text_before, number_before, key_before, before_by, keys_before}
use Rattle.spec_transform.proofs.KeyOrder.{rows}
use Rattle.xt_sort.specs.Order.{number_order, value_order, order_by, keys_order}

-- ---- The other way round

value_turns : (v w : KeyValue) → value_order v w ≡ ordering_reverse (value_order w v)
value_turns (AText s) (AText t) = nat_list_cmp_total.antisymm s t
value_turns (AText s) (ANumber n) = refl
value_turns (ANumber m) (AText t) = refl
value_turns (ANumber m) (ANumber n) = (options_total int_cmp_total).antisymm (value_of m) (value_of n)

by_turns : (c : Criterion) (v w : KeyValue) → ordering_reverse (order_by c v w) ≡ order_by c w v
by_turns c v w = by c.descends
  where
    by : (b : Bool) → ordering_reverse (if b then value_order w v else value_order v w) ≡ (if b then value_order v w else value_order w v)
    by true = sym (value_turns v w)
    by false = sym (value_turns w v)

-- ---- Texts and numbers

by_tests : (a b : Bool) (o : Ordering) → is_lt (ordering_then (cond a Less (cond b Equal Greater)) o) ≡ (a || (b && is_lt o))
by_tests true b o = refl
by_tests false true o = refl
by_tests false false o = refl

text_less : (s t : List ℕ) → is_lt (slice_cmp nat_cmp s t) ≡ text_before s t
text_less [] [] = refl
text_less [] (d ∷ ds) = refl
text_less (c ∷ cs) [] = refl
text_less (c ∷ cs) (d ∷ ds) = by_tests (nat_lt c d) (c == d) (slice_cmp nat_cmp cs ds) ∙ ap (λ b. nat_lt c d || (c == d && b)) (text_less cs ds)

by_two : (a b : Bool) → is_lt (cond a Less (cond b Greater Equal)) ≡ a
by_two true b = refl
by_two false true = refl
by_two false false = refl

number_less : (m n : Number) → is_lt (number_order m n) ≡ number_before m n
number_less NaN NaN = refl
number_less NaN (Whole z) = refl
number_less (Whole z) NaN = refl
number_less (Whole y) (Whole z) = by_two (int_lt y z) (int_lt z y)

-- ---- Keys

value_less : (v w : KeyValue) → is_lt (value_order v w) ≡ key_before v w
value_less (AText s) (AText t) = text_less s t
value_less (AText s) (ANumber n) = refl
value_less (ANumber m) (AText t) = refl
value_less (ANumber m) (ANumber n) = number_less m n

less_either : (b : Bool) (o p : Ordering) → is_lt (if b then o else p) ≡ (if b then is_lt o else is_lt p)
less_either true o p = refl
less_either false o p = refl

by_less : (c : Criterion) (v w : KeyValue) → is_lt (order_by c v w) ≡ before_by c v w
by_less c v w = less_either c.descends (value_order w v) (value_order v w) ∙ (λ i. if c.descends then value_less w v i else value_less v w i)

less_then : (o p : Ordering) → is_lt (ordering_then o p) ≡ (is_lt o || (not (is_lt (ordering_reverse o)) && is_lt p))
less_then Less p = refl
less_then Equal p = refl
less_then Greater p = refl

pub keys_less : (cs : List Criterion) (vs ws : List KeyValue) → is_lt (keys_order cs vs ws) ≡ keys_before cs vs ws
keys_less [] vs ws = refl
keys_less (c ∷ cs) [] [] = refl
keys_less (c ∷ cs) [] (w ∷ ws) = refl
keys_less (c ∷ cs) (v ∷ vs) [] = refl
keys_less (c ∷ cs) (v ∷ vs) (w ∷ ws) =
    let back : is_lt (ordering_reverse (order_by c v w)) ≡ before_by c w v = ap is_lt (by_turns c v w) ∙ by_less c w v in
    less_then (order_by c v w) (keys_order cs vs ws) ∙ (λ i. by_less c v w i || (not (back i) && keys_less cs vs ws i))

-- ---- Rows, and whatever stands for them

pub rows_order : {X N : Type 0} (cs : List Criterion) (row : X → Row N) → IsStrictWeakOrder (λ x y. is_lt (keys_order cs (row x).keys (row y).keys))
rows_order cs row = subst IsStrictWeakOrder (λ i x y. sym (keys_less cs (row x).keys (row y).keys) i) (record {
  one_way = λ x y. (rows cs).one_way (row x) (row y);
  chain = λ x y z. (rows cs).chain (row x) (row y) (row z);
})
