-- The pieces that a text begins with, by what was read at its front.
use Rattle.std.proofs.Common.{◌≡◌, ℕ, suc, ◌<◌, ◌+◌, Bool, true, false, cond, ◌&&◌, ◌||◌, ◌==◌, not, ◌⊎◌, inl}
use Rattle.std.proofs.Common.{inr, List, [], ◌∷◌, length, drop, Option, None, Some, Bor, refl, sym, ap, ◌∙◌, subst, arith}
use Rattle.std.specs.Prelude.{MatchOption, option_map, nat_lt, if◌then◌else◌}
use Rattle.std.specs.List.{prefix_len, before_first, after_first, position_or_len, list_any, list_all}
use Rattle.std.specs.Result.{result_ok}
use Rattle.std.specs.Char.{is_ascii}
use Rattle.std.specs.Str.{chars, IsUtf8, IsAscii, bytes_eq}
use Rattle.std.proofs.lemmas.Str.{chars-IsAscii, encodes-IsAscii, encodes-chars}
use Rattle.std.proofs.lemmas.Str.Ascii.{IsAscii-nil, IsAscii-cons}
use Rattle.std.proofs.lemmas.Slice.Eq.{bytes_eq-Decides}
use lib.Utf8.{encodes}
use Rattle.std.proofs.Math.Numerals.{one-add}
use Rattle.std.proofs.lemmas.List.{drop-drop}
use Rattle.std.proofs.lemmas.List.Folds.{length-prefix_len}
use Rattle.std.proofs.lemmas.Bool.{cases_Bool, and_parts}
use Rattle.std.proofs.lemmas.Bool.Decides.{nat_tests}
use Rattle.spec_document.specs.Character.{is_name_start}
use Rattle.spec_document.proofs.First.{before_first-none}
use Rattle.spec_expression.specs.Number.{numeral}
use Rattle.spec_expression.specs.Token as plain
use Rattle.spec_expression.specs.Token.{Number, Name, AnyOf, Variable, Literal, piece, begins, is_empty, first, is_digit, digits_at}
use Rattle.spec_expression.specs.Token.{number_at, literal_at, name_at, local_at, variable_at, word_at, word, piece_at, sign_of_two, unprefixed, prefixed}
use Rattle.xp_parse.specs.declared.cut.Piece.{Piece}
use Rattle.xp_parse.specs.View.{token_of}
use Rattle.xp_parse.specs.Front.{IsWord, IsLocal, Begins, Cuts, marked}
use Rattle.xp_parse.proofs.Fronts.{no_name, name_at-some}

pub begins_by : (p : Piece) (o : Option plain.Piece) (token : plain.Token) (taken : ℕ) (text : List ℕ) → o ≡ piece token taken → token_of p.token ≡ token
    → chars p.rest.now ≡ drop taken text → Begins p o text
begins_by p o token taken text e t r = subst (λ (q : Option plain.Piece). Begins p q text) (sym e) (record { token = t; behind = r })

pub cuts_by : (p : Piece) (o : Option plain.Piece) (token : plain.Token) (taken : ℕ) (text : List ℕ) → o ≡ piece token taken → token_of p.token ≡ token
    → chars p.rest.now ≡ drop taken text → 0 < taken → Cuts (Some p) o text
cuts_by p o token taken text e t r s = subst (λ (q : Option plain.Piece). Cuts (Some p) q text) (sym e) (record { token = t; behind = r }, s)

pub cuts_none : (o : Option plain.Piece) (text : List ℕ) → o ≡ None → Cuts None o text
cuts_none o text e = subst (λ (q : Option plain.Piece). Cuts None q text) (sym e) tt

-- behind a front of n characters and one more
pub behind_mark : (n m c : ℕ) (cs ds : List ℕ) → drop n cs ≡ c ∷ ds → drop m ds ≡ drop (n + 1 + m) cs
behind_mark n m c cs ds e = ap (drop m) (ap (drop 1) (sym e) ∙ drop-drop 1 n cs) ∙ drop-drop m (n + 1) cs

-- ---- what takes something
abbrev pub TakesSome : Option plain.Piece → Type 0
TakesSome None = Unit {0}
TakesSome (Some p) = 0 < p.taken

pub cuts_some : (p : Piece) (o : Option plain.Piece) (text : List ℕ) → Begins p o text → TakesSome o → Cuts (Some p) o text
cuts_some p None text b s = absurd b
cuts_some p (Some q) text b s = (b, s)

-- ---- numbers
pub number_point : (cs ds : List ℕ) → drop (length (digits_at cs)) cs ≡ 0x2E ∷ ds
    → number_at cs ≡ piece (Number (result_ok (numeral (digits_at cs) (digits_at ds)))) (length (digits_at cs) + 1 + length (digits_at ds))
unfolding number_at
number_point cs ds e = rw e refl

pub number_whole : (cs : List ℕ) → begins 0x2E (drop (length (digits_at cs)) cs) ≡ false
    → number_at cs ≡ piece (Number (result_ok (numeral (digits_at cs) []))) (length (digits_at cs))
unfolding number_at
number_whole cs h = rw h refl

some_number : (b : Bool) (x y : plain.Token) (m k : ℕ) → (b ≡ true) ⊎ (0 < m) → TakesSome (if b then piece x (m + 1 + k) else piece y m)
some_number true x y m k h = omega arith
some_number false x y m k (inl e) = absurd (cc)
some_number false x y m k (inr s) = s

some_digits : (c : ℕ) (cs : List ℕ) → is_digit c ≡ true → 0 < length (digits_at (c ∷ cs))
some_digits c cs d =
    let n : 0 < prefix_len is_digit (c ∷ cs) = rw d (omega arith) in
    omega (arith, n, length-prefix_len is_digit (c ∷ cs))

point_first : (c : ℕ) (cs : List ℕ) → is_digit c ≡ false → (c == 0x2E) ≡ true → begins 0x2E (drop (length (digits_at (c ∷ cs))) (c ∷ cs)) ≡ true
point_first c cs d h = rw d h

pub number_some : (c : ℕ) (cs : List ℕ) → (is_digit c || ((c == 0x2E) && is_digit (first cs))) ≡ true → TakesSome (number_at (c ∷ cs))
unfolding number_at
number_some c cs h = some_number _ _ _ _ _ (elim (cases_Bool (is_digit c)) [
  | inl d ↦ inr (some_digits c cs d)
  | inr d ↦ inl (point_first c cs d (and_parts (c == 0x2E) (is_digit (first cs)) (rw d at h)).0)
])

-- ---- names
nonempty : (cs : List ℕ) → 0 < length cs → is_empty cs ≡ false
nonempty [] h = absurd (omega arith)
nonempty (c ∷ cs) h = refl

local_here : (cs ds : List ℕ) → cs ≡ 0x3A ∷ ds → local_at cs ≡ name_at ds
unfolding local_at
local_here cs ds e = rw e refl

pub no_local : (cs : List ℕ) → begins 0x3A cs ≡ false → local_at cs ≡ []
unfolding local_at
no_local cs h = rw h refl

pub local_is : (o : Option (Bor (List ℕ) × Bor (List ℕ))) (behind ds : List ℕ) → chars behind ≡ 0x3A ∷ ds
    → MatchOption o (name_at ds ≡ []) (λ name. IsWord name.0.now name.1.now ds)
    → MatchOption o (local_at (chars behind) ≡ []) (λ local. IsLocal local.0.now local.1.now behind)
local_is None behind ds e h = local_here (chars behind) ds e ∙ h
local_is (Some x) behind ds e h = record {
  characters = h.characters ∙ sym (local_here (chars behind) ds e);
  some = h.some;
  behind = h.behind ∙ sym (ap (drop (1 + length (chars x.0.now))) e ∙ ap (λ (n : ℕ). drop n (0x3A ∷ ds)) (one-add (length (chars x.0.now))));
}

pub variable_local : (text name behind local : List ℕ) → name ≡ name_at text → 0 < length name → behind ≡ drop (length name) text → local ≡ local_at behind
    → 0 < length local → variable_at text ≡ piece (Variable (prefixed name local)) (1 + length name + 1 + length local)
unfolding variable_at
variable_local text name behind local n s b l k = rw (← n, ← b, ← l, nonempty name s, nonempty local k) refl

pub variable_alone : (text name behind : List ℕ) → name ≡ name_at text → 0 < length name → behind ≡ drop (length name) text → local_at behind ≡ []
    → variable_at text ≡ piece (Variable (unprefixed name)) (1 + length name)
unfolding variable_at
variable_alone text name behind n s b l = rw (← n, ← b, l, nonempty name s) refl

pub no_variable : (text : List ℕ) → name_at text ≡ [] → variable_at text ≡ None
unfolding variable_at
no_variable text n = rw n refl

some_variable : (b d : Bool) (x y : plain.Token) (m k : ℕ) → TakesSome (if b then None else (if d then piece x (1 + m) else piece y (1 + m + 1 + k)))
some_variable true d x y m k = tt
some_variable false true x y m k = omega arith
some_variable false false x y m k = omega arith

pub variable_some : (text : List ℕ) → TakesSome (variable_at text)
unfolding variable_at
variable_some text = some_variable _ _ _ _ _ _

pub word_local : (b : Bool) (text name behind local : List ℕ) → name ≡ name_at text → behind ≡ drop (length name) text → local ≡ local_at behind
    → 0 < length local → word_at b text ≡ piece (Name (prefixed name local)) (length name + 1 + length local)
unfolding word_at
word_local b text name behind local n e l k = rw (← n, ← e, ← l, nonempty local k) refl

pub word_any : (b : Bool) (text name behind : List ℕ) → name ≡ name_at text → behind ≡ drop (length name) text → local_at behind ≡ []
    → (begins 0x3A behind && begins 0x2A (drop 1 behind)) ≡ true → word_at b text ≡ piece (AnyOf name) (length name + 2)
unfolding word_at
word_any b text name behind n e l k = rw (← n, ← e, l, k) refl

pub word_alone : (b : Bool) (text name behind : List ℕ) → name ≡ name_at text → behind ≡ drop (length name) text → local_at behind ≡ []
    → (begins 0x3A behind && begins 0x2A (drop 1 behind)) ≡ false → word_at b text ≡ piece (word b name) (length name)
unfolding word_at
word_alone b text name behind n e l k = rw (← n, ← e, l, k) refl

some_word : (b d : Bool) (x y z : plain.Token) (m k : ℕ) → 0 < m
    → TakesSome (if not b then piece x (m + 1 + k) else (if d then piece y (m + 2) else piece z m))
some_word true true x y z m k h = omega arith
some_word true false x y z m k h = h
some_word false d x y z m k h = omega arith

pub word_some : (b : Bool) (text : List ℕ) → 0 < length (name_at text) → TakesSome (word_at b text)
unfolding word_at
word_some b text h =
    let name = name_at text in
    let behind = drop (length name) text in
    let local = local_at behind in
    some_word (is_empty local) (begins 0x3A behind && begins 0x2A (drop 1 behind)) (Name (prefixed name local)) (AnyOf name) (word b name) (length name)
    (length local) h

-- behind a local part
pub past_local : (n m : ℕ) (text behind rest : List ℕ) → behind ≡ drop n text → rest ≡ drop (1 + m) behind → rest ≡ drop (n + 1 + m) text
past_local n m text behind rest b r =
    let sum : n + (1 + m) ≡ n + 1 + m = omega arith in
    r ∙ ap (drop (1 + m)) b ∙ drop-drop (1 + m) n text ∙ ap (λ (k : ℕ). drop k text) sum

pub behind_sign : (n c : ℕ) (text : List ℕ) → drop n text ≡ drop (1 + n) (c ∷ text)
behind_sign n c text = sym (ap (λ (k : ℕ). drop k (c ∷ text)) (one-add n))

-- ---- literals
found_step : (b : Bool) (n : ℕ) (cs : List ℕ) (any : Bool) → (b || any) ≡ true → (any ≡ true → n < length cs) → cond (not b) (1 + n) 0 < suc (length cs)
found_step true n cs any h f = omega arith
found_step false n cs any h f = omega (arith, f h)

found_within : (p : ℕ → Bool) (cs : List ℕ) → list_any p cs ≡ true → position_or_len p cs < length cs
found_within p [] h = absurd (cc)
found_within p (c ∷ cs) h = found_step (p c) (position_or_len p cs) cs (list_any p cs) h (found_within p cs)

lt_true : (a b : ℕ) → a < b → nat_lt a b ≡ true
lt_true a b h = grind (arith, nat_tests)

not_less : (a : ℕ) → nat_lt a a ≡ false
not_less a = grind (arith, nat_tests)

pub literal_some : (quote : ℕ) (cs : List ℕ) → list_any (λ c. c == quote) cs ≡ true
    → literal_at quote cs ≡ piece (Literal (before_first (λ c. c == quote) cs)) (length (before_first (λ c. c == quote) cs) + 2)
unfolding literal_at
literal_some quote cs h =
    let n = length-prefix_len (λ c. not (c == quote)) cs in
    let f = found_within (λ c. c == quote) cs h in
    rw (lt_true (length (before_first (λ c. c == quote) cs)) (length cs) (omega (arith, n, f))) refl

pub literal_none : (quote : ℕ) (cs : List ℕ) → list_any (λ c. c == quote) cs ≡ false → literal_at quote cs ≡ None
unfolding literal_at
literal_none quote cs h = rw (before_first-none (λ c. c == quote) cs h, not_less (length cs)) refl

pub behind_literal : (quote : ℕ) (cs : List ℕ) → after_first (λ c. c == quote) cs ≡ drop (length (before_first (λ c. c == quote) cs) + 2) (quote ∷ cs)
behind_literal quote cs =
    let n = length-prefix_len (λ c. not (c == quote)) cs in
    let k : length (before_first (λ c. c == quote) cs) + 2 ≡ suc (position_or_len (λ c. c == quote) cs + 1) = omega (arith, n) in
    sym (ap (λ (m : ℕ). drop m (quote ∷ cs)) k)

pub any_is : (o : Option (Bor (List ℕ))) (cs ds : List ℕ) → cs ≡ 0x3A ∷ ds → MatchOption o (begins 0x2A ds ≡ false) (λ rest. ds ≡ 0x2A ∷ chars rest.now)
    → MatchOption o ((begins 0x3A cs && begins 0x2A (drop 1 cs)) ≡ false)
    (λ rest. ((begins 0x3A cs && begins 0x2A (drop 1 cs)) ≡ true) × (chars rest.now ≡ drop 2 cs))
any_is None cs ds e h = rw e h
any_is (Some r) cs ds e h = (rw (e, h) refl, rw (e, h) refl)

pub no_any : (cs : List ℕ) → begins 0x3A cs ≡ false → (begins 0x3A cs && begins 0x2A (drop 1 cs)) ≡ false
no_any cs h = ap (λ (b : Bool). b && begins 0x2A (drop 1 cs)) h

pub past_variable : (n m : ℕ) (text behind rest : List ℕ) → behind ≡ drop n text → rest ≡ drop (1 + m) behind → rest ≡ drop (1 + n + 1 + m) (0x24 ∷ text)
past_variable n m text behind rest b r =
    let sum : 1 + (n + 1 + m) ≡ 1 + n + 1 + m = omega arith in
    past_local n m text behind rest b r ∙ behind_sign (n + 1 + m) 0x24 text ∙ ap (λ (k : ℕ). drop k (0x24 ∷ text)) sum

-- ---- words that are compared
differs : (name other : List ℕ) → IsUtf8 name → IsAscii other → (name ≡ other → ⊥) → bytes_eq (chars name) other ≡ false
differs name other u a n = elim (cases_Bool (bytes_eq (chars name) other)) [
  | inl e ↦
      let d = bytes_eq-Decides (chars name) other in
      absurd (n (sym (encodes-chars name u) ∙ ap encodes (d.0 e) ∙ encodes-IsAscii other a))
  | inr e ↦ e
]

ascii_small : (c : ℕ) → is_ascii c ≡ true → c < 128
ascii_small c h = grind (arith, nat_tests)

all_ascii : (cs : List ℕ) → list_all is_ascii cs ≡ true → IsAscii cs
all_ascii [] h = IsAscii-nil
all_ascii (c ∷ cs) h =
    let parts = and_parts (is_ascii c) (list_all is_ascii cs) h in
    IsAscii-cons c cs (ascii_small c parts.0) (all_ascii cs parts.1)

-- a text that is not an ASCII word has not its characters
pub is_not : (name other : List ℕ) → IsUtf8 name → list_all is_ascii other ≡ true → (name ≡ other → ⊥) → bytes_eq (chars name) other ≡ false
is_not name other u a n = differs name other u (all_ascii other a) n

pub is_word : (name other : List ℕ) → list_all is_ascii other ≡ true → name ≡ other → chars name ≡ other
is_word name other a e = ap chars e ∙ chars-IsAscii other (all_ascii other a)

-- ---- the piece at the front
piece_number : (b : Bool) (c : ℕ) (cs : List ℕ) → (is_digit c || ((c == 0x2E) && is_digit (first cs))) ≡ true → piece_at b c cs ≡ number_at (c ∷ cs)
unfolding piece_at
piece_number b c cs h = rw h refl

piece_word : (b : Bool) (c : ℕ) (cs : List ℕ) → (is_digit c || ((c == 0x2E) && is_digit (first cs))) ≡ false → is_name_start c ≡ true
    → piece_at b c cs ≡ word_at b (c ∷ cs)
unfolding piece_at
piece_word b c cs h s = rw (h, s) refl

piece_mark : (b : Bool) (c : ℕ) (cs : List ℕ) → (is_digit c || ((c == 0x2E) && is_digit (first cs))) ≡ false → is_name_start c ≡ false
    → piece_at b c cs ≡ marked b c cs
unfolding piece_at
piece_mark b c cs h s = rw (h, s) refl

pub number_cut : (p : Piece) (b : Bool) (c : ℕ) (cs text : List ℕ) → text ≡ c ∷ cs → (is_digit c || ((c == 0x2E) && is_digit (first cs))) ≡ true
    → Begins p (number_at text) text → Cuts (Some p) (piece_at b c cs) text
number_cut p b c cs text e h begun =
    let is = piece_number b c cs h ∙ ap number_at (sym e) in
    subst (λ (q : Option plain.Piece). Cuts (Some p) q text) (sym is)
    (cuts_some p (number_at text) text begun (subst (λ (t : List ℕ). TakesSome (number_at t)) (sym e) (number_some c cs h)))

starts : (c : ℕ) (cs text : List ℕ) → text ≡ c ∷ cs → 0 < length (name_at text) → is_name_start c ≡ true
starts c cs text e h = elim (cases_Bool (is_name_start c)) [
  | inl s ↦ s
  | inr s ↦ absurd (omega (arith, h, ap length (no_name c cs text e s)))
]

starts_not : (c : ℕ) (cs text : List ℕ) → text ≡ c ∷ cs → name_at text ≡ [] → is_name_start c ≡ false
starts_not c cs text e h = elim (cases_Bool (is_name_start c)) [
  | inl s ↦ absurd (omega (arith, name_at-some c cs (is_name_start c) refl s, ap length (ap name_at (sym e) ∙ h)))
  | inr s ↦ s
]

pub word_cut : (p : Piece) (b : Bool) (c : ℕ) (cs text name rest : List ℕ) → text ≡ c ∷ cs
    → (is_digit c || ((c == 0x2E) && is_digit (first cs))) ≡ false → IsWord name rest text
    → Begins p (word_at b text) text → Cuts (Some p) (piece_at b c cs) text
word_cut p b c cs text name rest e h w begun =
    let some = subst (λ (ns : List ℕ). 0 < length ns) w.characters w.some in
    let is = piece_word b c cs h (starts c cs text e some) ∙ ap (word_at b) (sym e) in
    subst (λ (q : Option plain.Piece). Cuts (Some p) q text) (sym is) (cuts_some p (word_at b text) text begun (word_some b text some))

pub mark_cut : (o : Option Piece) (b : Bool) (c : ℕ) (cs text : List ℕ) → text ≡ c ∷ cs
    → (is_digit c || ((c == 0x2E) && is_digit (first cs))) ≡ false → name_at text ≡ []
    → Cuts o (marked b c cs) (c ∷ cs) → Cuts o (piece_at b c cs) text
mark_cut o b c cs text e h n cut =
    subst (λ (q : Option plain.Piece). Cuts o q text) (sym (piece_mark b c cs h (starts_not c cs text e n)))
    (subst (λ (t : List ℕ). Cuts o (marked b c cs) t) (sym e) cut)

pub past_star : (n : ℕ) (text behind rest : List ℕ) → behind ≡ drop n text → rest ≡ drop 2 behind → rest ≡ drop (n + 2) text
past_star n text behind rest b r = r ∙ ap (drop 2) b ∙ drop-drop 2 n text

and_false : (b : Bool) → (b && false) ≡ false
and_false true = refl
and_false false = refl

sign_of_two-nul : (c : ℕ) → sign_of_two c 0 ≡ None
unfolding sign_of_two
sign_of_two-nul c = simp and_false

abbrev long : plain.Token → plain.Piece
long token = record { token = token; taken = 2 }

pub no_sign : (c : ℕ) (cs : List ℕ) → cs ≡ [] → option_map long (sign_of_two c (first cs)) ≡ None
no_sign c cs e =
    ap (λ (ds : List ℕ). option_map long (sign_of_two c (first ds))) e
    ∙ ap (λ (o : Option plain.Token). option_map long o) (sign_of_two-nul c)
