-- The least of faults, in any order, and where one of them stands twice.
use Rattle.std.proofs.Common.{◌≡◌, ℕ, ◌<◌, ◌≤◌, Bool, true, false, cond, List, [], ◌∷◌, ◌++◌, ◌==◌, Option, Some, None, refl}
use Rattle.std.proofs.Common.{sym, ap, ◌∙◌, arith, inl, inr, eq-eqb, eqb-true, lt-ltb, ltb-false, ltb-true}
use Rattle.std.specs.Prelude.{◌⊎◌, ◌&&◌, ◌||◌, nat_lt}
use Rattle.spec_document.specs.Fault.{Fault, comes_first, lesser, least}

-- the one of two findings that is answered
abbrev pub merged : Option Fault → Option Fault → Option Fault
merged None other = other
merged (Some fault) other = Some (lesser fault other)

abbrev Before : Fault → Fault → Type 0
Before a b = (a.number < b.number) ⊎ ((a.number ≡ b.number) × (a.line < b.line))

-- what the test says
before_true : (n m k l : ℕ) → (nat_lt n m || ((n == m) && nat_lt k l)) ≡ true → (n < m) ⊎ ((n ≡ m) × (k < l))
before_true n m k l h =
    elim (nat_lt n m) as (λ b. nat_lt n m ≡ b → (b || ((n == m) && nat_lt k l)) ≡ true → (n < m) ⊎ ((n ≡ m) × (k < l))) [
      | true ↦ λ e _. inl (ltb-true n m e)
      | false ↦ λ _ h. elim (n == m) as (λ b. (n == m) ≡ b → (b && nat_lt k l) ≡ true → (n < m) ⊎ ((n ≡ m) × (k < l))) [
        | true ↦ λ e h. inr (eqb-true n m e, ltb-true k l h)
        | false ↦ λ _ h. absurd (cc)
      ] refl h
    ] refl h

before_is : (n m k l : ℕ) → (n < m) ⊎ ((n ≡ m) × (k < l)) → (nat_lt n m || ((n == m) && nat_lt k l)) ≡ true
before_is n m k l (inl h) = ap (λ b. b || ((n == m) && nat_lt k l)) (lt-ltb n m h)
before_is n m k l (inr h) =
    ap (λ b. nat_lt n m || (b && nat_lt k l)) (eq-eqb n m h.0) ∙ ap (λ b. nat_lt n m || b) (lt-ltb k l h.1) ∙ or_true (nat_lt n m)
  where
    or_true : (b : Bool) → (b || true) ≡ true
    or_true true = refl
    or_true false = refl

is_before : (a b : Fault) → comes_first a b ≡ true → Before a b
is_before a b h = before_true a.number b.number a.line b.line h

first_of : (a b : Fault) → Before a b → comes_first a b ≡ true
first_of a b h = before_is a.number b.number a.line b.line h

not_both : (b : Bool) → b ≡ true → b ≡ false → ⊥
not_both true h k = cc
not_both false h k = cc

before_trans : (a b c : Fault) → Before a b → Before b c → Before a c
before_trans a b c (inl h) (inl k) = inl (omega arith)
before_trans a b c (inl h) (inr k) = inl (let same : b.number ≡ c.number = k.0 in omega arith)
before_trans a b c (inr h) (inl k) = inl (let same : a.number ≡ b.number = h.0 in omega arith)
before_trans a b c (inr h) (inr k) = inr (h.0 ∙ k.0, omega (arith, h.1, k.1))

before_self : (a : Fault) → Before a a → ⊥
before_self a (inl h) = absurd (omega arith)
before_self a (inr h) = absurd (omega (arith, h.1))

-- two that neither comes before the other are one
line_same : (a b : Fault) → a.number ≡ b.number → (Before a b → ⊥) → (Before b a → ⊥) → a.line ≡ b.line
line_same a b n f g =
    let up : a.line ≤ b.line = not_less b.line a.line (λ h. g (inr (sym n, h))) in
    let down : b.line ≤ a.line = not_less a.line b.line (λ h. f (inr (n, h))) in
    omega arith
  where
    not_less : (k l : ℕ) → (k < l → ⊥) → l ≤ k
    not_less k l h =
        elim (nat_lt k l) as (λ b. nat_lt k l ≡ b → l ≤ k) [
          | true ↦ λ e. absurd (h (ltb-true k l e))
          | false ↦ λ e. ltb-false k l e
        ] refl

number_same : (a b : Fault) → (Before a b → ⊥) → (Before b a → ⊥) → a.number ≡ b.number
number_same a b f g =
    let up : a.number ≤ b.number = not_less b.number a.number (λ h. g (inl h)) in
    let down : b.number ≤ a.number = not_less a.number b.number (λ h. f (inl h)) in
    omega arith
  where
    not_less : (k l : ℕ) → (k < l → ⊥) → l ≤ k
    not_less k l h =
        elim (nat_lt k l) as (λ b. nat_lt k l ≡ b → l ≤ k) [
          | true ↦ λ e. absurd (h (ltb-true k l e))
          | false ↦ λ e. ltb-false k l e
        ] refl

both_same : (a b : Fault) → (Before a b → ⊥) → (Before b a → ⊥) → a ≡ b
both_same a b f g =
    let number = number_same a b f g in
    let line = line_same a b number f g in
    λ i. record { number = number i; line = line i }

abbrev low : Fault → Fault → Fault
low a b = cond (comes_first b a) b a

low-comm : (a b : Fault) → low a b ≡ low b a
low-comm a b =
    elim (comes_first b a) as (λ p. comes_first b a ≡ p → cond p b a ≡ cond (comes_first a b) a b) [
      | true ↦ λ e. elim (comes_first a b) as (λ q. comes_first a b ≡ q → b ≡ cond q a b) [
        | true ↦ λ d. absurd (before_self a (before_trans a b a (is_before a b d) (is_before b a e)))
        | false ↦ λ _. refl
      ] refl
      | false ↦ λ e. elim (comes_first a b) as (λ q. comes_first a b ≡ q → a ≡ cond q a b) [
        | true ↦ λ _. refl
        | false ↦ λ d. both_same a b (λ h. not_both (comes_first a b) (first_of a b h) d) (λ h. not_both (comes_first b a) (first_of b a h) e)
      ] refl
    ] refl

low-assoc : (a b c : Fault) → low (low a b) c ≡ low a (low b c)
low-assoc a b c =
    elim (comes_first b a) as (λ p. comes_first b a ≡ p → low (cond p b a) c ≡ low a (low b c)) [
      | true ↦ λ e. elim (comes_first c b) as (λ q. comes_first c b ≡ q → cond q c b ≡ low a (cond q c b)) [
        | true ↦ λ d. sym (ap (λ r. cond r c a) (first_of c a (before_trans c b a (is_before c b d) (is_before b a e))))
        | false ↦ λ _. sym (ap (λ r. cond r b a) e)
      ] refl
      | false ↦ λ e. elim (comes_first c b) as (λ q. comes_first c b ≡ q → low a c ≡ low a (cond q c b)) [
        | true ↦ λ _. refl
        | false ↦ λ d. elim (comes_first c a) as (λ r. comes_first c a ≡ r → cond r c a ≡ low a b) [
          | true ↦ λ f. absurd (not_both (comes_first c b) (later (is_before c a f) e) d)
          | false ↦ λ _. sym (ap (λ r. cond r b a) e)
        ] refl
      ] refl
    ] refl
  where
    -- c before a, and b not before a: c before b
    later : Before c a → comes_first b a ≡ false → comes_first c b ≡ true
    later h e =
        elim (comes_first a b) as (λ q. comes_first a b ≡ q → comes_first c b ≡ true) [
          | true ↦ λ k. first_of c b (before_trans c a b h (is_before a b k))
          | false ↦ λ k. ap (comes_first c)
              (sym (both_same a b (λ x. not_both (comes_first a b) (first_of a b x) k) (λ x. not_both (comes_first b a) (first_of b a x) e)))
              ∙ first_of c a h
        ] refl

pub merged-none : (a : Option Fault) → merged a None ≡ a
merged-none None = refl
merged-none (Some f) = refl

pub merged-comm : (a b : Option Fault) → merged a b ≡ merged b a
merged-comm None b = sym (merged-none b)
merged-comm (Some f) None = refl
merged-comm (Some f) (Some g) = ap Some (low-comm f g)

pub merged-assoc : (a b c : Option Fault) → merged (merged a b) c ≡ merged a (merged b c)
merged-assoc None b c = refl
merged-assoc (Some f) None c = refl
merged-assoc (Some f) (Some g) None = refl
merged-assoc (Some f) (Some g) (Some h) = ap Some (low-assoc f g h)

pub least-append : (xs ys : List Fault) → least (xs ++ ys) ≡ merged (least xs) (least ys)
least-append [] ys = refl
least-append (x ∷ xs) ys = ap (merged (Some x)) (least-append xs ys) ∙ sym (merged-assoc (Some x) (least xs) (least ys))

-- ---- A fault that stands among others

pub data Stands (fault : Fault) : List Fault → Type 0 where
  at_front : (faults : List Fault) → Stands fault (fault ∷ faults)
  behind : (other : Fault) (faults : List Fault) → Stands fault faults → Stands fault (other ∷ faults)

pub stands-first : (fault : Fault) (xs ys : List Fault) → Stands fault xs → Stands fault (xs ++ ys)
stands-first fault _ ys (at_front xs) = at_front (xs ++ ys)
stands-first fault _ ys (behind x xs h) = behind x (xs ++ ys) (stands-first fault xs ys h)

pub stands-second : (fault : Fault) (xs ys : List Fault) → Stands fault ys → Stands fault (xs ++ ys)
stands-second fault [] ys h = h
stands-second fault (x ∷ xs) ys h = behind x (xs ++ ys) (stands-second fault xs ys h)

low-self : (a : Fault) → low a a ≡ a
low-self a = elim (comes_first a a) as (λ b. cond b a a ≡ a) [ true ↦ refl | false ↦ refl ]

-- once more it changes nothing
pub merged-again : (fault : Fault) (faults : List Fault) → Stands fault faults → merged (least faults) (Some fault) ≡ least faults
merged-again fault _ (at_front faults) =
    merged-comm (least (fault ∷ faults)) (Some fault) ∙ sym (merged-assoc (Some fault) (Some fault) (least faults))
    ∙ ap (λ f. merged (Some f) (least faults)) (low-self fault)
merged-again fault _ (behind other faults h) =
    merged-assoc (Some other) (least faults) (Some fault) ∙ ap (merged (Some other)) (merged-again fault faults h)
