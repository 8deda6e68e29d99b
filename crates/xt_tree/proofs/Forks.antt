-- A fork, opened.
use Rattle.std.proofs.Common.{◌≡◌, ℕ, ◌-◌, ◌/◌, ◌%◌, ◌==◌, true, false, cond, Option, None, Some, if◌then◌else◌, ◌∙◌, ◌≢◌, refl, sym, ap, arith, eq-eqb}
use Rattle.std.proofs.lemmas.Bool.{eqb-true}
use Rattle.std.specs.declared.rc.Rc.{Rc}
use Rattle.std.specs.declared.alloc.Global.{Global}
use Rattle.xt_tree.specs.declared.table.Fork.{Fork, out-Fork, fold_out-Fork}
use Rattle.xt_tree.specs.declared.table.Fork.TheFolds.{map-Fork, fold-roll-Fork}
use Rattle.xt_tree.specs.declared.table.Fork.TheViews.{roll-Fork}
use Rattle.xt_tree.specs.Lookup.{fork_lookup, link_lookup, fork_step}

-- what stands at a number in a fork
abbrev pub opened : Option ℕ → Option (Rc Fork Global) → Option (Rc Fork Global) → ℕ → Option ℕ
opened key odd even number =
    if number == 0 then key else (if number % 2 == 1 then link_lookup odd (number / 2) else link_lookup even (number / 2 - 1))

by_links : (key : Option ℕ) (odd even : Option (Rc Fork Global)) (number : ℕ)
    → fork_step (map-Fork Fork (ℕ → Option ℕ) fork_lookup (record { key = key; odd = odd; even = even })) number ≡ opened key odd even number
by_links key None None number = refl
by_links key None (Some e) number = refl
by_links key (Some o) None number = refl
by_links key (Some o) (Some e) number = refl

pub view-Fork : (f : Fork) (number : ℕ) → fork_lookup f number ≡ opened (out-Fork f).key (out-Fork f).odd (out-Fork f).even number
view-Fork f number = ap (λ g. g number) (fold_out-Fork (ℕ → Option ℕ) fork_step f) ∙ by_links (out-Fork f).key (out-Fork f).odd (out-Fork f).even number

-- forks whose parts have the same entries have the same
pub same-opened : (key : Option ℕ) (odd even o e : Option (Rc Fork Global)) → ((n : ℕ) → link_lookup o n ≡ link_lookup odd n) → ((n : ℕ) → link_lookup e n ≡ link_lookup even n)
    → (number : ℕ) → opened key o e number ≡ opened key odd even number
same-opened key odd even o e h k number = rw (h (number / 2), k (number / 2 - 1)) refl

pub made-Fork : (key : Option ℕ) (odd even : Option (Rc Fork Global)) (number : ℕ) → fork_lookup (roll-Fork (record { key = key; odd = odd; even = even })) number ≡ opened key odd even number
made-Fork key odd even number = ap (λ g. g number) (fold-roll-Fork (ℕ → Option ℕ) fork_step (record { key = key; odd = odd; even = even })) ∙ by_links key odd even number

true_false : true ≡ false → ⊥
true_false e = cc

same_test : (a b m n : ℕ) → (a ≡ b → m ≡ n) → (m ≡ n → a ≡ b) → (a == b) ≡ (m == n)
same_test a b m n h k =
    elim (a == b) as (λ x. (a == b) ≡ x → x ≡ (m == n)) [
      | true ↦ λ e. sym (eq-eqb m n (h (eqb-true a b e)))
      | false ↦ λ e. elim (m == n) as (λ y. (m == n) ≡ y → false ≡ y) [
        | true ↦ λ d. sym e ∙ eq-eqb a b (k (eqb-true m n d))
        | false ↦ λ d. refl
      ] refl
    ] refl

pub put-zero : (key number : ℕ) (own : Option ℕ) (odd even : Option (Rc Fork Global)) → number ≡ 0 → (other : ℕ)
    → opened (Some key) odd even other ≡ (if other == number then Some key else opened own odd even other)
put-zero key number own odd even h other =
    rw h (elim (other == 0) as (λ b. cond b (Some key) (cond (other % 2 == 1) (link_lookup odd (other / 2)) (link_lookup even (other / 2 - 1)))
    ≡ cond b (Some key) (cond b own (cond (other % 2 == 1) (link_lookup odd (other / 2)) (link_lookup even (other / 2 - 1))))) [ true ↦ refl | false ↦ refl ])

-- a test that is false where another number is meant
apart : (a b : ℕ) → (a ≡ b → ⊥) → (a == b) ≡ false
apart a b h = elim (a == b) as (λ x. (a == b) ≡ x → x ≡ false) [ true ↦ λ e. absurd (h (eqb-true a b e)) | false ↦ λ e. refl ] refl

pub put-odd : (key number : ℕ) (own : Option ℕ) (odd even o : Option (Rc Fork Global)) → number % 2 ≡ 1
    → ((m : ℕ) → link_lookup o m ≡ (if m == number / 2 then Some key else link_lookup odd m)) → (other : ℕ)
    → opened own o even other ≡ (if other == number then Some key else opened own odd even other)
put-odd key number own odd even o h below other =
    elim (other == 0) as (λ b. (other == 0) ≡ b → cond b own (cond (other % 2 == 1) (link_lookup o (other / 2)) (link_lookup even (other / 2 - 1)))
    ≡ cond (other == number) (Some key) (cond b own (cond (other % 2 == 1) (link_lookup odd (other / 2)) (link_lookup even (other / 2 - 1))))) [
      | true ↦ λ e. let z : other ≡ 0 = eqb-true other 0 e in rw (apart other number (λ d. omega arith)) refl
      | false ↦ λ _. elim (other % 2 == 1) as (λ b. (other % 2 == 1) ≡ b → cond b (link_lookup o (other / 2)) (link_lookup even (other / 2 - 1))
          ≡ cond (other == number) (Some key) (cond b (link_lookup odd (other / 2)) (link_lookup even (other / 2 - 1)))) [
            | true ↦ λ e. let is : other % 2 ≡ 1 = eqb-true (other % 2) 1 e in
                below (other / 2) ∙ ap (λ b. cond b (Some key) (link_lookup odd (other / 2))) (same_test (other / 2) (number / 2) other number (λ d. omega arith) (λ d. ap (λ n. n / 2) d))
            | false ↦ λ e. let not : other % 2 ≢ 1 = λ d. true_false (sym (eq-eqb (other % 2) 1 d) ∙ e) in rw (apart other number (λ d. not (ap (λ n. n % 2) d ∙ h))) refl
          ] refl
    ] refl

pub put-even : (key number : ℕ) (own : Option ℕ) (odd even o : Option (Rc Fork Global)) → number ≢ 0 → number % 2 ≢ 1
    → ((m : ℕ) → link_lookup o m ≡ (if m == number / 2 - 1 then Some key else link_lookup even m)) → (other : ℕ)
    → opened own odd o other ≡ (if other == number then Some key else opened own odd even other)
put-even key number own odd even o z h below other =
    elim (other == 0) as (λ b. (other == 0) ≡ b → cond b own (cond (other % 2 == 1) (link_lookup odd (other / 2)) (link_lookup o (other / 2 - 1)))
    ≡ cond (other == number) (Some key) (cond b own (cond (other % 2 == 1) (link_lookup odd (other / 2)) (link_lookup even (other / 2 - 1))))) [
      | true ↦ λ e. let is : other ≡ 0 = eqb-true other 0 e in rw (apart other number (λ d. z (sym d ∙ is))) refl
      | false ↦ λ f. let some : other ≢ 0 = λ d. true_false (sym (eq-eqb other 0 d) ∙ f) in
          elim (other % 2 == 1) as (λ b. (other % 2 == 1) ≡ b → cond b (link_lookup odd (other / 2)) (link_lookup o (other / 2 - 1))
          ≡ cond (other == number) (Some key) (cond b (link_lookup odd (other / 2)) (link_lookup even (other / 2 - 1)))) [
            | true ↦ λ e. let is : other % 2 ≡ 1 = eqb-true (other % 2) 1 e in rw (apart other number (λ d. h (ap (λ n. n % 2) (sym d) ∙ is))) refl
            | false ↦ λ e. let not : other % 2 ≢ 1 = λ d. true_false (sym (eq-eqb (other % 2) 1 d) ∙ e) in
                below (other / 2 - 1) ∙ ap (λ b. cond b (Some key) (link_lookup even (other / 2 - 1))) (same_test (other / 2 - 1) (number / 2 - 1) other number (λ d. omega arith) (λ d. ap (λ n. n / 2 - 1) d))
          ] refl
    ] refl
