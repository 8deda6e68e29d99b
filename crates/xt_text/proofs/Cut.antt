-- Texts cut at a character, as lists of characters.
use Rattle.std.proofs.Common.{◌≡◌, ℕ, Bool, true, false, ◌==◌, ◌||◌, List, [], ◌∷◌, ◌++◌, refl, sym, ap, ◌∙◌, take, drop}
use Rattle.std.proofs.Common.{take-append-drop}
use Rattle.std.specs.List.{list_any, before_first, after_first}
use Rattle.std.specs.Str.{chars, IsUtf8, NoCharPasses, NonePass}
use Rattle.std.specs.Option.{MatchOption}
use Rattle.std.proofs.Common.{Option, None, Some}
use Rattle.std.specs.Str.Pattern.{HasCharAt}
use Rattle.std.proofs.lemmas.Bool.{eq-eqb, and_parts, and_from}
use Rattle.std.proofs.lemmas.Str.{chars_from_encodes, encodes-chars, encodes-append, IsUtf8-drop, scalars-chars}
use Rattle.spec_document.proofs.First.{before_first-at, after_first-at}
use Rattle.std.proofs.lemmas.Str.Pattern.{IsSplitOnceResult}
use denote.Ref.{Bor}
use lib.Utf8.{encodes, encode, scalar, scalars}

abbrev pub is_mark : ℕ → ℕ → Bool
is_mark c = λ d. d == c

any_of_none : (p : ℕ → Bool) (cs : List ℕ) → NonePass p cs → list_any p cs ≡ false
any_of_none p [] n = refl
any_of_none p (c ∷ cs) n = rw n.0 (any_of_none p cs n.1)

or_true : (b : Bool) → (b || true) ≡ true
or_true true = refl
or_true false = refl

front_scalars : (cs ds : List ℕ) → scalars (cs ++ ds) ≡ true → scalars cs ≡ true
front_scalars [] ds h = refl
front_scalars (c ∷ cs) ds h =
    let parts = and_parts (scalar c) (scalars (cs ++ ds)) h in
    and_from (scalar c) (scalars cs) parts.0 (front_scalars cs ds parts.1)

any_at : (c : ℕ) (cs ds : List ℕ) → list_any (is_mark c) (cs ++ c ∷ ds) ≡ true
any_at c [] ds = rw (eq-eqb c c refl) refl
any_at c (x ∷ cs) ds = rw (any_at c cs ds) (or_true (x == c))

-- no mark
pub none_there : (c : ℕ) (bs : List ℕ) → IsUtf8 bs → NoCharPasses (is_mark c) bs → list_any (is_mark c) (chars bs) ≡ false
none_there c bs u n = ap (list_any (is_mark c)) (sym (chars_from_encodes n.0 bs u n.1)) ∙ any_of_none (is_mark c) n.0 n.2

-- the first mark, from byte i to byte j
pub record IsCut (c : ℕ) (bs : List ℕ) (i j : ℕ) : Type 0 where
  pub there : list_any (is_mark c) (chars bs) ≡ true
  pub front : chars (take i bs) ≡ before_first (is_mark c) (chars bs)
  pub back : chars (drop j bs) ≡ after_first (is_mark c) (chars bs)

pub cut_there : (c : ℕ) (bs : List ℕ) (i j : ℕ) → IsUtf8 bs → NoCharPasses (is_mark c) (take i bs) → HasCharAt c bs i j → IsCut c bs i j
cut_there c bs i j u n h =
    let ds = chars (drop j bs) in
    let last : encodes ds ≡ drop j bs = encodes-chars (drop j bs) (rw h.ends (IsUtf8-drop bs _ u h.after)) in
    let whole : encodes (n.0 ++ c ∷ ds) ≡ bs =
    encodes-append n.0 (c ∷ ds) ∙ ap (λ x. x ++ (encode c ++ encodes ds)) n.1 ∙ ap (λ x. take i bs ++ (encode c ++ x)) last
    ∙ ap (λ x. take i bs ++ x) (sym h.split) ∙ take-append-drop i bs in
    let shown : n.0 ++ c ∷ ds ≡ chars bs = chars_from_encodes (n.0 ++ c ∷ ds) bs u whole in
    let v : IsUtf8 (take i bs) = (n.0, (front_scalars n.0 (c ∷ ds) (ap scalars shown ∙ scalars-chars bs u), n.1)) in
    let none = any_of_none (is_mark c) n.0 n.2 in
    record {
      there = ap (list_any (is_mark c)) (sym shown) ∙ any_at c n.0 ds;
      front = sym (chars_from_encodes n.0 (take i bs) v n.1) ∙ sym (before_first-at (is_mark c) n.0 c ds none (eq-eqb c c refl))
          ∙ ap (before_first (is_mark c)) shown;
      back = sym (after_first-at (is_mark c) n.0 c ds none (eq-eqb c c refl)) ∙ ap (after_first (is_mark c)) shown;
    }

-- what `split_once` gives, in characters
pub in_characters : (c : ℕ) (bs : List ℕ) (r : Option (Bor (List ℕ) × Bor (List ℕ))) → IsUtf8 bs → IsSplitOnceResult c bs r
    → MatchOption r (list_any (is_mark c) (chars bs) ≡ false)
    (λ x. (list_any (is_mark c) (chars bs) ≡ true) × (chars x.0.now ≡ before_first (is_mark c) (chars bs))
    × (chars x.1.now ≡ after_first (is_mark c) (chars bs)))
in_characters c bs None u h = none_there c bs u h
in_characters c bs (Some x) u h =
    let is_cut = cut_there c bs h.0 h.1 u h.2.0 h.2.1 in
    (is_cut.there, ap chars h.3 ∙ is_cut.front, ap chars h.4 ∙ is_cut.back)
