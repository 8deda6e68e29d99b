-- Digits in groups, one at a time.
use Rattle.std.proofs.Common.{◌≡◌, ℕ, suc, ◌+◌, ◌-◌, ◌<◌, ◌≤◌, Bool, true, false, cond, List, [], ◌∷◌, ◌++◌, length, get_or, drop, arith, sym, ap, ◌∙◌, append_assoc, append-nil}
use Rattle.spec_format.specs.Format as spec
use Rattle.std.proofs.lemmas.List.{drop_all}
use Rattle.xt_number_format.proofs.Loops.{rest_more}

-- what is written so far, with the groups of the digits that are left
pub record Grouping (grouping : spec.Grouping) (text : List ℕ) (behind : ℕ) (rest digits : List ℕ) : Type 0 where
  pub written : text ++ spec.grouped grouping rest ≡ spec.grouped grouping digits
  pub left : behind ≡ length rest

pub starts :
    (grouping : spec.Grouping) (text : List ℕ) (count : ℕ) (digits : List ℕ) → text ≡ [] → count ≡ length digits → Grouping grouping text count digits digits
starts grouping text count digits empty counted = record { written = ap (λ t. t ++ spec.grouped grouping digits) empty; left = counted }

-- what follows a digit, which is taken
taken :
    (grouping : spec.Grouping) (text : List ℕ) (behind n c : ℕ) (cs all : List ℕ) → (n < length cs) × (c ≡ get_or cs n c)
    → Grouping grouping text behind (drop n cs) all → behind ≡ suc (length (drop (n + 1) cs))
taken grouping text behind n c cs all turn so_far = so_far.left ∙ ap length (rest_more cs n c turn)

pub one_is_left :
    (grouping : spec.Grouping) (text : List ℕ) (behind n c : ℕ) (cs all : List ℕ) → (n < length cs) × (c ≡ get_or cs n c)
    → Grouping grouping text behind (drop n cs) all → 1 ≤ behind
one_is_left grouping text behind n c cs all turn so_far = omega (arith, taken grouping text behind n c cs all turn so_far)

pub digit_written :
    (grouping : spec.Grouping) (text new : List ℕ) (behind n c : ℕ) (cs all : List ℕ) → (n < length cs) × (c ≡ get_or cs n c)
    → new ≡ text ++ c ∷ cond (spec.ends_group grouping.size (behind - 1)) grouping.separator []
    → Grouping grouping text behind (drop n cs) all → Grouping grouping new (behind - 1) (drop (n + 1) cs) all
digit_written grouping text new behind n c cs all turn pushed so_far =
    let rest = drop (n + 1) cs in
    let left : behind - 1 ≡ length rest = omega (arith, taken grouping text behind n c cs all turn so_far) in
    let same = pushed ∙ ap (λ k. text ++ c ∷ cond (spec.ends_group grouping.size k) grouping.separator []) left in
    record {
      written = ap (λ t. t ++ spec.grouped grouping rest) same ∙ append_assoc text _ (spec.grouped grouping rest)
          ∙ ap (λ t. text ++ spec.grouped grouping t) (sym (rest_more cs n c turn)) ∙ so_far.written;
      left = left;
    }

pub all_written :
    (grouping : spec.Grouping) (text : List ℕ) (behind n : ℕ) (cs all : List ℕ) → n ≡ length cs
    → Grouping grouping text behind (drop n cs) all → text ≡ spec.grouped grouping all
all_written grouping text behind n cs all end so_far =
    sym (append-nil text) ∙ ap (λ t. text ++ spec.grouped grouping t) (sym (drop_all n cs (omega arith))) ∙ so_far.written

-- ---- one digit, by whether a group ends at it
pub parted :
    (grouping inside : spec.Grouping) (text more new piece : List ℕ) (behind c : ℕ) (ends : Bool) → inside ≡ grouping
    → ends ≡ spec.ends_group inside.size behind → ends ≡ true → more ≡ text ++ c ∷ [] → piece ≡ inside.separator → new ≡ more ++ piece
    → new ≡ text ++ c ∷ cond (spec.ends_group grouping.size behind) grouping.separator []
parted grouping inside text more new piece behind c ends view is here pushed part added =
    added ∙ ap (λ t. t ++ piece) pushed ∙ append_assoc text (c ∷ []) piece
    ∙ ap (λ t. text ++ c ∷ t)
    (part ∙ ap (λ b. cond b inside.separator []) (sym here ∙ is) ∙ ap (λ g. cond (spec.ends_group g.size behind) g.separator []) view)

pub unparted :
    (grouping inside : spec.Grouping) (text more : List ℕ) (behind c : ℕ) (ends : Bool) → inside ≡ grouping
    → ends ≡ spec.ends_group inside.size behind → ends ≡ false → more ≡ text ++ c ∷ []
    → more ≡ text ++ c ∷ cond (spec.ends_group grouping.size behind) grouping.separator []
unparted grouping inside text more behind c ends view is further pushed =
    pushed
    ∙ ap (λ t. text ++ c ∷ t)
    (ap (λ b. cond b inside.separator []) (sym further ∙ is) ∙ ap (λ g. cond (spec.ends_group g.size behind) g.separator []) view)
