-- Walks over the characters at the front of a text, and what they leave.
use Rattle.std.proofs.Common.{◌≡◌, ℕ, ◌<◌, ◌≤◌, ◌+◌, ◌-◌, Bool, true, false, cond, ◌==◌, inl, inr, List, []}
use Rattle.std.proofs.Common.{◌∷◌, ◌++◌, length, take, drop, Option, None, Some, refl, sym, ap, ◌∙◌, subst, append_assoc, arith}
use Rattle.std.specs.Prelude.{MatchOption}
use Rattle.std.specs.List.{prefix_len, take_while}
use Rattle.std.specs.Str.{chars, IsUtf8, IsCharBoundary, IsAscii}
use Rattle.std.proofs.Math.Numerals.{one-add}
use Rattle.std.proofs.Math.Seq.{take-append_seam, drop-append_seam}
use Rattle.std.proofs.lemmas.List.{length-append, length-drop, length-take}
use Rattle.std.proofs.lemmas.List.Sums.{prefix_len-le-length}
use Rattle.std.proofs.lemmas.List.Folds.{length-prefix_len}
use Rattle.std.proofs.lemmas.Str.{chars-append, chars-nil, IsCharBoundary-at_seam, IsUtf8-take, encodes-IsAscii, encodes-chars}
use Rattle.std.proofs.lemmas.Str.Ascii.{IsAscii-nil, IsAscii-cons}
use Rattle.std.proofs.lemmas.Bool.{cases_Bool}
use Rattle.std.proofs.lemmas.Bool.Decides.{nat_tests}
use lib.Utf8.{encodes}
use Rattle.spec_document.specs.Character.{is_name_start, is_name_part}
use Rattle.spec_expression.specs.Token.{is_digit, digits_at, name_at}
use Rattle.xp_parse.specs.Front.{IsBehind, IsFront, IsWord}

pub none_of : {X P : Type 0} (Q : X → Type 0) (o : Option X) → MatchOption o P Q → o ≡ None → P
none_of Q None h e = h
none_of Q (Some x) h e = absurd (cc)

pub empty_chars : (text : List ℕ) → text ≡ [] → chars text ≡ []
empty_chars text e = ap chars e ∙ chars-nil

equal : (a b : ℕ) → (a == b) ≡ true → a ≡ b
equal a b e = grind (arith, nat_tests)

pub unequal : (a b : ℕ) → (a ≡ b → ⊥) → (a == b) ≡ false
unequal a b n = elim (cases_Bool (a == b)) [ inl e ↦ absurd (n (equal a b e)) | inr e ↦ e ]

-- how far a walk has come
pub record Walk (is_part : ℕ → Bool) (text rest : List ℕ) : Type 0 where
  pub characters : drop (prefix_len is_part (chars text)) (chars text) ≡ drop (prefix_len is_part (chars rest)) (chars rest)
  pub front : List ℕ
  pub whole : text ≡ front ++ rest

pub walk_start : (p : ℕ → Bool) (text : List ℕ) → Walk p text text
walk_start p text = record { characters = refl; front = []; whole = refl }

passed : (p : ℕ → Bool) (c : ℕ) (cs : List ℕ) → p c ≡ true → drop (prefix_len p (c ∷ cs)) (c ∷ cs) ≡ drop (prefix_len p cs) cs
passed p c cs h = rw (h, one-add) refl

stopped : (p : ℕ → Bool) (c : ℕ) (cs : List ℕ) → p c ≡ false → drop (prefix_len p (c ∷ cs)) (c ∷ cs) ≡ c ∷ cs
stopped p c cs h = ap (λ (b : Bool). drop (cond b (1 + prefix_len p cs) 0) (c ∷ cs)) h

pub walk_on : (p : ℕ → Bool) (text rest behind : List ℕ) (c : ℕ) → Walk p text rest → IsBehind c behind rest → p c ≡ true → Walk p text behind
walk_on p text rest behind c w b h = record {
  characters = w.characters ∙ ap (λ (cs : List ℕ). drop (prefix_len p cs) cs) b.characters ∙ passed p c (chars behind) h;
  front = w.front ++ b.front;
  whole = w.whole ∙ ap (λ (r : List ℕ). w.front ++ r) b.whole ∙ sym (append_assoc w.front b.front behind);
}

pub walk_stop : (p : ℕ → Bool) (text rest behind : List ℕ) (c : ℕ) → Walk p text rest → IsBehind c behind rest → p c ≡ false → IsFront p text rest
walk_stop p text rest behind c w b h = record {
  characters = b.characters ∙ sym (w.characters ∙ ap (λ (cs : List ℕ). drop (prefix_len p cs) cs) b.characters ∙ stopped p c (chars behind) h);
  front = w.front;
  whole = w.whole;
}

pub walk_end : (p : ℕ → Bool) (text rest : List ℕ) → Walk p text rest → rest ≡ [] → IsFront p text rest
walk_end p text rest w e = record {
  characters =
      let none = ap chars e ∙ chars-nil in
      none ∙ sym (w.characters ∙ ap (λ (cs : List ℕ). drop (prefix_len p cs) cs) none);
  front = w.front;
  whole = w.whole;
}

-- where a text is split in front of a rest
pub seam : (p : ℕ → Bool) (text rest : List ℕ) → IsFront p text rest → IsUtf8 rest → IsCharBoundary text (length text - length rest)
seam p text rest f u =
    let n : length f.front ≡ length text - length rest = omega (arith, ap length f.whole, length-append f.front rest) in
    rw (← n) (IsCharBoundary-at_seam text f.front rest f.whole u)

-- what stands before the last part of a list
before_rest : (n : ℕ) (a l : List ℕ) → n ≤ length l → l ≡ a ++ drop n l → a ≡ take n l
before_rest n a l h e =
    let k : length a ≡ n = omega (arith, ap length e, length-append a (drop n l), length-drop n l) in
    sym (ap (take n) e ∙ ap (λ (m : ℕ). take m (a ++ drop n l)) (sym k) ∙ take-append_seam a (drop n l))

split_here : (p : ℕ → Bool) (text rest : List ℕ) (f : IsFront p text rest) → length text - length rest ≡ length f.front
split_here p text rest f = omega (arith, ap length f.whole, length-append f.front rest)

front_bytes : (p : ℕ → Bool) (text rest : List ℕ) (f : IsFront p text rest) → take (length text - length rest) text ≡ f.front
front_bytes p text rest f =
    ap (λ (n : ℕ). take n text) (split_here p text rest f) ∙ ap (take (length f.front)) f.whole ∙ take-append_seam f.front rest

rest_bytes : (p : ℕ → Bool) (text rest : List ℕ) (f : IsFront p text rest) → drop (length text - length rest) text ≡ rest
rest_bytes p text rest f =
    ap (λ (n : ℕ). drop n text) (split_here p text rest f) ∙ ap (drop (length f.front)) f.whole ∙ drop-append_seam f.front rest

pub rest_is : (p : ℕ → Bool) (text rest back : List ℕ) → IsFront p text rest → back ≡ drop (length text - length rest) text
    → chars back ≡ drop (length (take_while p (chars text))) (chars text)
rest_is p text rest back f e =
    ap chars (e ∙ rest_bytes p text rest f) ∙ f.characters ∙ ap (λ (n : ℕ). drop n (chars text)) (sym (length-prefix_len p (chars text)))

pub front_is : (p : ℕ → Bool) (text rest front : List ℕ) → IsFront p text rest → IsUtf8 text → IsUtf8 rest → front ≡ take (length text - length rest) text
    → chars front ≡ take_while p (chars text)
front_is p text rest front f u v e =
    let t = front_bytes p text rest f in
    let begun : IsUtf8 f.front = subst IsUtf8 t (IsUtf8-take text (length text - length rest) u (seam p text rest f v)) in
    let whole : chars text ≡ chars f.front ++ chars rest = ap chars f.whole ∙ chars-append f.front rest begun in
    ap chars (e ∙ t)
    ∙ before_rest (prefix_len p (chars text)) (chars f.front) (chars text) (prefix_len-le-length p (chars text))
    (whole ∙ ap (λ (r : List ℕ). chars f.front ++ r) f.characters)

digit_small : (c : ℕ) → is_digit c ≡ true → c < 128
digit_small c h = grind (arith, nat_tests)

ascii_step : (c n : ℕ) (cs : List ℕ) (b : Bool) → is_digit c ≡ b → IsAscii (take n cs) → IsAscii (take (cond b (1 + n) 0) (c ∷ cs))
ascii_step c n cs true e h = rw one-add (IsAscii-cons c (take n cs) (digit_small c e) h)
ascii_step c n cs false e h = IsAscii-nil

digits_ascii : (cs : List ℕ) → IsAscii (digits_at cs)
digits_ascii [] = IsAscii-nil
digits_ascii (c ∷ cs) = ascii_step c (prefix_len is_digit cs) cs (is_digit c) refl (digits_ascii cs)

-- digits are their bytes
pub digits_bytes : (bytes cs : List ℕ) → IsUtf8 bytes → chars bytes ≡ digits_at cs → bytes ≡ digits_at cs
digits_bytes bytes cs u e = sym (encodes-chars bytes u) ∙ ap encodes e ∙ encodes-IsAscii (digits_at cs) (digits_ascii cs)

pub digits_are : (text rest front : List ℕ) → IsFront is_digit text rest → IsUtf8 text → IsUtf8 rest → front ≡ take (length text - length rest) text
    → front ≡ digits_at (chars text)
digits_are text rest front f u v e =
    let i = length text - length rest in
    digits_bytes front (chars text) (subst IsUtf8 (sym e) (IsUtf8-take text i u (seam is_digit text rest f v))) (front_is is_digit text rest front f u v e)

-- names
name_part-start : (c : ℕ) → is_name_start c ≡ true → is_name_part c ≡ true
unfolding is_name_part
name_part-start c h = rw h refl

pub name_at-some : (c : ℕ) (cs : List ℕ) (b : Bool) → b ≡ is_name_start c → b ≡ true → 0 < length (name_at (c ∷ cs))
unfolding name_at
name_at-some c cs b g h = let i = sym g ∙ h in let p = name_part-start c i in rw (i, p) (omega (arith, length-take (1 + prefix_len is_name_part cs) (c ∷ cs)))

name_here : (c : ℕ) (cs text : List ℕ) → text ≡ c ∷ cs → is_name_start c ≡ true → name_at text ≡ take_while is_name_part text
unfolding name_at
name_here c cs text e h = rw (e, h) refl

pub no_name : (c : ℕ) (cs text : List ℕ) → text ≡ c ∷ cs → is_name_start c ≡ false → name_at text ≡ []
unfolding name_at
no_name c cs text e h = rw (e, h) refl

pub no_name-empty : (text : List ℕ) → text ≡ [] → name_at (chars text) ≡ []
unfolding name_at
no_name-empty text e = rw (e, chars-nil) refl

pub word_is : (text rest front back : List ℕ) (c : ℕ) (cs : List ℕ) → chars text ≡ c ∷ cs → is_name_start c ≡ true → IsFront is_name_part text rest
    → IsUtf8 text → IsUtf8 rest → front ≡ take (length text - length rest) text → back ≡ drop (length text - length rest) text → IsWord front back (chars text)
word_is text rest front back c cs t h f u v fe be =
    let n = front_is is_name_part text rest front f u v fe in
    let e = n ∙ sym (name_here c cs (chars text) t h) in
    record {
      characters = e;
      some = subst (λ (ns : List ℕ). 0 < length ns) (sym (e ∙ ap name_at t)) (name_at-some c cs (is_name_start c) refl h);
      behind = rest_is is_name_part text rest back f be ∙ ap (λ (ns : List ℕ). drop (length ns) (chars text)) (sym n);
    }
