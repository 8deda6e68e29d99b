-- How a text is cut at its braces.
use Rattle.std.proofs.Common.{◌≡◌, ℕ, zero, suc, ◌<◌, ◌≤◌, ◌+◌, ◌-◌, true, false, ◌==◌, List, []}
use Rattle.std.proofs.Common.{◌∷◌, ◌++◌, length, take, drop, Option, None, Some, refl, sym, ap, ◌∙◌, subst, append_assoc, arith}
use Rattle.std.specs.Prelude.{option_map}
use Rattle.std.specs.Str.{chars, IsUtf8, IsCharBoundary}
use Rattle.std.proofs.Math.Seq.{take-append_seam}
use Rattle.std.proofs.lemmas.List.{length-append, length-drop, drop-drop}
use Rattle.std.proofs.lemmas.Str.{chars-append, chars-nil, IsCharBoundary-at_seam, IsUtf8-take}
use Rattle.spec_expression.specs.Token.{begins}
use Rattle.spec_static.specs.TemplateGrammar.{Character, Enclosed, Stray, pieces, before_close}
use Rattle.xt_avt.specs.Front.{IsBehind}
use Rattle.xt_avt.specs.Cut.{IsClose, IsEnclosed, closes, quote_behind}
use Rattle.xt_avt.proofs.Fronts.{equal}

-- ---- the pieces by the first characters

pub doubled_open : (cs : List ℕ) → pieces zero (0x7B ∷ 0x7B ∷ cs) ≡ Character 0x7B ∷ pieces zero cs
unfolding pieces
doubled_open cs = refl

pub doubled_close : (cs : List ℕ) → pieces zero (0x7D ∷ 0x7D ∷ cs) ≡ Character 0x7D ∷ pieces zero cs
unfolding pieces
doubled_close cs = refl

pub lone_close : (cs : List ℕ) → begins 0x7D cs ≡ false → pieces zero (0x7D ∷ cs) ≡ Stray ∷ pieces zero cs
unfolding pieces
lone_close cs h = rw h refl

pub character_first : (c : ℕ) (cs : List ℕ) → (c == 0x7B) ≡ false → (c == 0x7D) ≡ false → pieces zero (c ∷ cs) ≡ Character c ∷ pieces zero cs
unfolding pieces
character_first c cs h g = rw (h, g) refl

pub unclosed : (cs : List ℕ) → begins 0x7B cs ≡ false → before_close None cs ≡ None → pieces zero (0x7B ∷ cs) ≡ Stray ∷ pieces zero (chars [])
unfolding pieces
unclosed cs h g = rw (h, g, chars-nil) refl

past : (n : ℕ) (cs : List ℕ) → pieces n cs ≡ pieces zero (drop n cs)
unfolding pieces
past zero cs = refl
past (suc n) [] = refl
past (suc n) (c ∷ cs) = past n cs

closed : (n : ℕ) (cs : List ℕ) → begins 0x7B cs ≡ false → before_close None cs ≡ Some n
    → pieces zero (0x7B ∷ cs) ≡ Enclosed (take n cs) ∷ pieces zero (drop (n + 1) cs)
unfolding pieces
closed n cs h g = rw (h, g) (ap (λ ps. Enclosed (take n cs) ∷ ps) (past (n + 1) cs))

-- ---- the way to the `}`

abbrev further : ℕ → Option ℕ → Option ℕ
further n o = option_map (λ k. n + k) o

further-zero : (o : Option ℕ) → o ≡ further 0 o
further-zero None = refl
further-zero (Some k) = ap Some (omega arith)

further-suc : (n : ℕ) (o : Option ℕ) → further n (option_map suc o) ≡ further (n + 1) o
further-suc n None = refl
further-suc n (Some k) = ap Some (omega arith)

goes_on : (quote : Option ℕ) (c : ℕ) (cs : List ℕ) → closes quote c ≡ false
    → before_close quote (c ∷ cs) ≡ option_map suc (before_close (quote_behind quote c) cs)
goes_on None c cs h = rw h refl
goes_on (Some quote) c cs h = refl

ends_here : (quote : Option ℕ) (c : ℕ) (cs : List ℕ) → closes quote c ≡ true → before_close quote (c ∷ cs) ≡ Some 0
ends_here None c cs h = rw h refl
ends_here (Some quote) c cs h = absurd (cc)

is_brace : (quote : Option ℕ) (c : ℕ) → closes quote c ≡ true → c ≡ 0x7D
is_brace None c h = equal c 0x7D h
is_brace (Some quote) c h = absurd (cc)

nowhere : (quote : Option ℕ) → before_close quote [] ≡ None
nowhere None = refl
nowhere (Some quote) = refl

-- how far the search has come
pub record Inside (quote : Option ℕ) (text rest : List ℕ) : Type 0 where
  pub count : ℕ
  pub before : before_close None (chars text) ≡ further count (before_close quote (chars rest))
  pub closing : chars rest ≡ drop count (chars text)
  pub front : List ℕ
  pub whole : text ≡ front ++ rest

pub inside_start : (text : List ℕ) → Inside None text text
inside_start text = record { count = 0; before = further-zero (before_close None (chars text)); closing = refl; front = []; whole = refl }

pub inside_on : {quote : Option ℕ} {text rest behind : List ℕ} {c : ℕ} → Inside quote text rest → IsBehind c behind rest → closes quote c ≡ false
    → Inside (quote_behind quote c) text behind
inside_on {quote = quote} {text = text} {rest = rest} {behind = behind} {c = c} w b h = record {
  count = w.count + 1;
  before =
      w.before ∙ ap (λ cs. further w.count (before_close quote cs)) b.characters
      ∙ ap (further w.count) (goes_on quote c (chars behind) h)
      ∙ further-suc w.count (before_close (quote_behind quote c) (chars behind));
  closing = sym (ap (drop 1) b.characters) ∙ ap (drop 1) w.closing ∙ drop-drop 1 w.count (chars text);
  front = w.front ++ b.front;
  whole = w.whole ∙ ap (λ (r : List ℕ). w.front ++ r) b.whole ∙ sym (append_assoc w.front b.front behind);
}

pub inside_stop : {quote : Option ℕ} {text rest behind : List ℕ} {c : ℕ} → Inside quote text rest → IsUtf8 rest → IsBehind c behind rest → closes quote c ≡ true
    → IsClose rest behind text
inside_stop {quote = quote} {text = text} {rest = rest} {behind = behind} {c = c} w u b h = record {
  count = w.count;
  before =
      w.before ∙ ap (λ cs. further w.count (before_close quote cs)) b.characters
      ∙ ap (further w.count) (ends_here quote c (chars behind) h)
      ∙ ap Some (omega arith);
  closing = w.closing;
  brace = b.characters ∙ ap (λ d. d ∷ chars behind) (is_brace quote c h);
  utf8 = u;
  front = w.front;
  whole = w.whole;
}

pub inside_end : {quote : Option ℕ} {text rest : List ℕ} → Inside quote text rest → chars rest ≡ [] → before_close None (chars text) ≡ None
inside_end {quote = quote} w e = w.before ∙ ap (λ cs. further w.count (before_close quote cs)) e ∙ ap (further w.count) (nowhere quote)

-- ---- the text split at the `}`

pub seam : (text close rest : List ℕ) → IsClose close rest text → IsCharBoundary text (length text - length close)
seam text close rest f =
    let n : length f.front ≡ length text - length close = omega (arith, ap length f.whole, length-append f.front close) in
    rw (← n) (IsCharBoundary-at_seam text f.front close f.whole f.utf8)

before_rest : (n : ℕ) (a l : List ℕ) → n ≤ length l → l ≡ a ++ drop n l → a ≡ take n l
before_rest n a l h e =
    let k : length a ≡ n = omega (arith, ap length e, length-append a (drop n l), length-drop n l) in
    sym (ap (take n) e ∙ ap (λ (m : ℕ). take m (a ++ drop n l)) (sym k) ∙ take-append_seam a (drop n l))

pub split_there : (text close rest inside : List ℕ) → IsUtf8 text → IsClose close rest text → inside ≡ take (length text - length close) text
    → IsEnclosed inside rest (chars text)
split_there text close rest inside u f is =
    let here : length text - length close ≡ length f.front = omega (arith, ap length f.whole, length-append f.front close) in
    let bytes : take (length text - length close) text ≡ f.front =
    ap (λ (n : ℕ). take n text) here ∙ ap (take (length f.front)) f.whole ∙ take-append_seam f.front close in
    let begun : IsUtf8 f.front = subst IsUtf8 bytes (IsUtf8-take text (length text - length close) u (seam text close rest f)) in
    let whole : chars text ≡ chars f.front ++ chars close = ap chars f.whole ∙ chars-append f.front close begun in
    let within : f.count ≤ length (chars text) =
    omega (arith, ap length f.closing, ap length f.brace, length-drop f.count (chars text)) in
    record {
      count = f.count;
      before = f.before;
      enclosed =
          ap chars (is ∙ bytes)
          ∙ before_rest f.count (chars f.front) (chars text) within (whole ∙ ap (λ (r : List ℕ). chars f.front ++ r) f.closing);
      behind = sym (ap (drop 1) f.brace) ∙ ap (drop 1) f.closing ∙ drop-drop 1 f.count (chars text);
    }

pub encloses : (inside rest cs : List ℕ) → IsEnclosed inside rest cs → begins 0x7B cs ≡ false
    → pieces zero (0x7B ∷ cs) ≡ Enclosed (chars inside) ∷ pieces zero (chars rest)
encloses inside rest cs e h =
    closed e.count cs h e.before ∙ ap (λ ds. Enclosed ds ∷ pieces zero (drop (e.count + 1) cs)) (sym e.enclosed)
    ∙ ap (λ ds. Enclosed (chars inside) ∷ pieces zero ds) (sym e.behind)

pub encloses_some : (inside rest cs : List ℕ) → IsEnclosed inside rest cs → length (chars rest) < 1 + length cs
encloses_some inside rest cs e = omega (arith, ap length e.behind, length-drop (e.count + 1) cs)
