-- Rules in the order in which they count: what is put among them by its rank stands where the definition puts it.
use Rattle.std.proofs.Common.{◌≡◌, ℕ, ℤ, ◌+◌, ◌≤◌, Bool, true, false, cond, List, [], ◌∷◌, ◌++◌, length, map, refl, sym, ap, subst, ◌∙◌, append_assoc, arith}
use Rattle.std.specs.Prelude.{nat_lt, ◌==◌, ◌||◌, ◌&&◌, if◌then◌else◌}
use Rattle.std.specs.Ordering.{nat_cmp, int_cmp, ordering_then, ordering_reverse, match_ordering}
use Rattle.std.specs.BTreeMap.{insert_entry}
use Rattle.std.specs.declared.cmp.Ordering.{Ordering}
use Rattle.std.specs.declared.cmp.Ordering.TheVariants.{Less, Equal, Greater}
use Rattle.std.proofs.lemmas.List.{length-append}
use Rattle.std.proofs.lemmas.Cmp.{int_cmp_total}
use Rattle.std.proofs.lemmas.Bool.Decides.{nat_tests}
use Rattle.spec_stylesheet.specs.Sheet as sheet
use Rattle.spec_compile.specs.Sheet.{is_greater, put_rule, in_rank}
use Rattle.xt_syntax.specs.SheetView.{rule_of}
use Rattle.xt_syntax.specs.declared.rule.Rule.{Rule}
use Rattle.xt_rank.specs.Rank.{AreNumbered, AreRanked, IsRanked, Rank, ranked_rules}

abbrev pub rank_cmp : Rank → Rank → Ordering
rank_cmp a b = ordering_then (ordering_then (nat_cmp b.0.0 a.0.0) (int_cmp b.1.0 a.1.0)) (nat_cmp b.2.0 a.2.0)

abbrev by_both : Ordering → Bool → Bool
by_both Greater t = true
by_both Less t = false
by_both Equal t = t

both_is : (o : Ordering) (t : Bool) → by_both o t ≡ elim o [ Greater ↦ true | Less ↦ false | Equal ↦ t ]
both_is Less t = refl
both_is Equal t = refl
both_is Greater t = refl

-- the one before the other, where they are not the same
placed : {X : Type 0} (p q : Bool) (o : Ordering) (x y w : X)
    → match_ordering (ordering_then (ordering_then (cond p Less (cond q Equal Greater)) (ordering_reverse o)) Greater) x y w
    ≡ (if p || (q && by_both o false) then x else w)
placed true q o x y w = refl
placed false true Less x y w = refl
placed false true Equal x y w = refl
placed false true Greater x y w = refl
placed false false o x y w = refl

eq_turned : (a b : ℕ) → (a == b) ≡ (b == a)
eq_turned a b = grind (arith, nat_tests)

later_cmp : (a b : ℕ) → a + 1 ≤ b → nat_cmp b a ≡ Greater
later_cmp a b h =
    let less : nat_lt b a ≡ false = grind (arith, nat_tests) in
    let other : (b == a) ≡ false = grind (arith, nat_tests) in
    ap (λ t. cond t Less (cond (b == a) Equal Greater)) less ∙ ap (λ t. cond t Equal Greater) other

not_later : (a b : ℕ) → a + 1 ≤ b → nat_lt b a ≡ false
not_later a b h = grind (arith, nat_tests)

-- a rule and one behind it, by their numbers
apart : {X : Type 0} (p1 p2 : ℕ) (q1 q2 : ℤ) (n1 n2 : ℕ) → n1 + 1 ≤ n2 → (x y w : X)
    → match_ordering (ordering_then (ordering_then (nat_cmp p2 p1) (int_cmp q2 q1)) (nat_cmp n2 n1)) x y w
    ≡ (if nat_lt p2 p1 || ((p1 == p2) && by_both (int_cmp q1 q2) (nat_lt n2 n1)) then x else w)
apart p1 p2 q1 q2 n1 n2 h x y w =
    ap (λ (o : Ordering). match_ordering (ordering_then (ordering_then (nat_cmp p2 p1) (int_cmp q2 q1)) o) x y w) (later_cmp n1 n2 h)
    ∙ ap (λ (t : Bool). match_ordering (ordering_then (ordering_then (cond (nat_lt p2 p1) Less (cond t Equal Greater)) (int_cmp q2 q1)) Greater) x y w) (eq_turned p2 p1)
    ∙ ap (λ (o : Ordering). match_ordering (ordering_then (ordering_then (cond (nat_lt p2 p1) Less (cond (p1 == p2) Equal Greater)) o) Greater) x y w) (int_cmp_total.antisymm q2 q1)
    ∙ placed (nat_lt p2 p1) (p1 == p2) (int_cmp q1 q2) x y w
    ∙ ap (λ (t : Bool). if nat_lt p2 p1 || ((p1 == p2) && by_both (int_cmp q1 q2) t) then x else w) (sym (not_later n1 n2 h))

-- ---- What is put among rules behind it

-- a rank that is a rule's, against that of a rule behind it
against : {X : Type 0} (rank other : Rank) (rule behind : Rule) → IsRanked rule.order rank rule → IsRanked (rule.order + 1) other behind → (x y w : X)
    → match_ordering (rank_cmp rank other) x y w ≡ (if is_greater (rule_of rule) (rule_of behind) then x else w)
against rank other rule behind r s x y w =
    ap (λ (o : Ordering). match_ordering (ordering_then (ordering_then (nat_cmp other.0.0 rank.0.0) (int_cmp other.1.0 rank.1.0)) o) x y w)
    (λ i. nat_cmp (s.order i) (r.order i))
    ∙ ap (λ (o : Ordering). match_ordering (ordering_then (ordering_then (nat_cmp other.0.0 rank.0.0) o) (nat_cmp behind.order rule.order)) x y w)
    (λ i. int_cmp (s.priority i) (r.priority i))
    ∙ ap (λ (o : Ordering). match_ordering (ordering_then (ordering_then o (int_cmp behind.priority rule.priority)) (nat_cmp behind.order rule.order)) x y w)
    (λ i. nat_cmp (s.precedence i) (r.precedence i))
    ∙ apart rule.precedence behind.precedence rule.priority behind.priority rule.order behind.order s.behind x y w
    ∙ ap (λ (t : Bool). if nat_lt behind.precedence rule.precedence || ((rule.precedence == behind.precedence) && t) then x else w)
    (both_is (int_cmp rule.priority behind.priority) (nat_lt behind.order rule.order))

rules_if : (b : Bool) (xs ys : List (Rank × Rule)) → ranked_rules (if b then xs else ys) ≡ (if b then ranked_rules xs else ranked_rules ys)
rules_if true xs ys = refl
rules_if false xs ys = refl

pub inserted : (rank : Rank) (rule : Rule) (es : List (Rank × Rule)) → IsRanked rule.order rank rule → AreRanked (rule.order + 1) es
    → ranked_rules (insert_entry rank_cmp es rank rule) ≡ put_rule (rule_of rule) (ranked_rules es)
inserted rank rule [] r rs = refl
inserted rank rule (e ∷ es) r rs =
    ap ranked_rules (against rank e.0 rule e.1 r rs.0 ((rank, rule) ∷ e ∷ es) ((e.0, rule) ∷ es) (e ∷ insert_entry rank_cmp es rank rule))
    ∙ rules_if (is_greater (rule_of rule) (rule_of e.1)) ((rank, rule) ∷ e ∷ es) (e ∷ insert_entry rank_cmp es rank rule)
    ∙ ap (λ (more : List sheet.Rule). if is_greater (rule_of rule) (rule_of e.1) then rule_of rule ∷ ranked_rules (e ∷ es) else rule_of e.1 ∷ more)
    (inserted rank rule es r rs.1)

lower : (n : ℕ) (rank : Rank) (rule : Rule) → IsRanked (n + 1) rank rule → IsRanked n rank rule
lower n rank rule r = record { precedence = r.precedence; priority = r.priority; order = r.order; behind = omega (arith, r.behind) }

all_lower : (n : ℕ) (es : List (Rank × Rule)) → AreRanked (n + 1) es → AreRanked n es
all_lower n [] rs = tt
all_lower n (e ∷ es) rs = (lower n e.0 e.1 rs.0, all_lower n es rs.1)

ranked_if : (n : ℕ) (b : Bool) (xs ys : List (Rank × Rule)) → AreRanked n xs → AreRanked n ys → AreRanked n (if b then xs else ys)
ranked_if n true xs ys a b = a
ranked_if n false xs ys a b = b

pub inserted_ranked : (rank : Rank) (rule : Rule) (es : List (Rank × Rule)) → IsRanked rule.order rank rule → AreRanked (rule.order + 1) es
    → AreRanked rule.order (insert_entry rank_cmp es rank rule)
inserted_ranked rank rule [] r rs = (r, tt)
inserted_ranked rank rule (e ∷ es) r rs =
    subst (λ (xs : List (Rank × Rule)). AreRanked rule.order xs)
    (sym (against rank e.0 rule e.1 r rs.0 ((rank, rule) ∷ e ∷ es) ((e.0, rule) ∷ es) (e ∷ insert_entry rank_cmp es rank rule)))
    (ranked_if rule.order (is_greater (rule_of rule) (rule_of e.1)) ((rank, rule) ∷ e ∷ es) (e ∷ insert_entry rank_cmp es rank rule)
    (r, all_lower rule.order (e ∷ es) rs) (lower rule.order e.0 e.1 rs.0, inserted_ranked rank rule es r rs.1))

-- ---- Rules by their numbers

pub number_at : (n : ℕ) (xs : List Rule) (rule : Rule) (ys : List Rule) → AreNumbered n (map rule_of (xs ++ rule ∷ ys)) → rule.order ≡ n + length xs
number_at n [] rule ys h = omega (arith, h.0)
number_at n (x ∷ xs) rule ys h = let more = number_at (n + 1) xs rule ys h.1 in omega (arith, more)

-- the last of those that are left goes to the front of those behind
pub next_rule : (all whole rest later : List Rule) (rule : Rule) (old new : List (Rank × Rule)) → AreNumbered 0 (map rule_of all) → whole ++ later ≡ all
    → whole ≡ rest ++ rule ∷ [] → ranked_rules old ≡ in_rank (map rule_of later) → AreRanked (length whole) old
    → (AreRanked (rule.order + 1) old → ranked_rules new ≡ put_rule (rule_of rule) (ranked_rules old)) → (AreRanked (rule.order + 1) old → AreRanked rule.order new)
    → (behind : List Rule) × (rest ++ behind ≡ all) × (ranked_rules new ≡ in_rank (map rule_of behind)) × AreRanked (length rest) new
next_rule all whole rest later rule old new numbered is popped ranked behind put stays =
    let same : rest ++ rule ∷ later ≡ all = sym (append_assoc rest (rule ∷ []) later) ∙ ap (λ (rs : List Rule). rs ++ later) (sym popped) ∙ is in
    let at = number_at 0 rest rule later (subst (λ (rs : List Rule). AreNumbered 0 (map rule_of rs)) (sym same) numbered) in
    let order : rule.order ≡ length rest = omega (arith, at) in
    let long = ap length popped ∙ length-append rest (rule ∷ []) in
    let count : length whole ≡ rule.order + 1 = omega (arith, order, long) in
    let held = subst (λ (n : ℕ). AreRanked n old) count behind in
    (rule ∷ later, same, put held ∙ ap (put_rule (rule_of rule)) ranked, subst (λ (n : ℕ). AreRanked n new) order (stays held))
