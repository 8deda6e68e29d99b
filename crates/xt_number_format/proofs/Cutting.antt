-- A text that is cut, with one character more at its end.
use Rattle.std.proofs.Common.{◌≡◌, ℕ, zero, suc, ◌-◌, ◌<◌, min, ◌==◌, Bool, true, false, cond, List, [], ◌∷◌, ◌++◌, length, get_or, set, ◌⊎◌, inl, inr, refl, ap, ◌∙◌, sym, arith}
use Rattle.std.proofs.lemmas.Bool.{cond-true, cond-false}
use Rattle.std.proofs.lemmas.Bool.Decides.{nat_tests}
use Rattle.spec_format.specs.declared.Part.{Part}
use Rattle.std.proofs.lemmas.List.{get_or_default}
use Rattle.std.specs.Prelude.{codes}
use Rattle.std.specs.List.{remove}
use Rattle.std.specs.Str.{chars}
use Rattle.spec_format.specs.Format.{Format, format_from, part_at, Cut, cut, is_alphanumeric, with_other, with_alphanumeric}

abbrev Parts : Type 0
Parts = List (Part (List ℕ))

-- a character in front, by whether it is a letter or digit
abbrev in_front : Bool → ℕ → Parts → List ℕ → Cut
in_front b d parts behind = cond b (record { parts = with_alphanumeric d parts; behind = behind }) (with_other d parts behind)

-- ---- another character at the end
other_step :
    (b : Bool) (d c : ℕ) (parts : Parts) (behind : List ℕ)
    → in_front b d parts (behind ++ c ∷ []) ≡ record { parts = (in_front b d parts behind).parts; behind = (in_front b d parts behind).behind ++ c ∷ [] }
other_step true d c parts behind = refl
other_step false d c [] behind = refl
other_step false d c (part ∷ parts) behind = refl

pub cut_other :
    (c : ℕ) → is_alphanumeric c ≡ false → (text : List ℕ)
    → cut (text ++ c ∷ []) ≡ record { parts = (cut text).parts; behind = (cut text).behind ++ c ∷ [] }
cut_other c other [] = cond-false (is_alphanumeric c) _ _ other
cut_other c other (d ∷ ds) =
    ap (λ whole. in_front (is_alphanumeric d) d whole.parts whole.behind) (cut_other c other ds)
    ∙ other_step (is_alphanumeric d) d c (cut ds).parts (cut ds).behind

-- ---- a letter or digit at the end: of the last token where nothing stands behind that, else a token of its own
abbrev pub alone : List ℕ → ℕ → Part (List ℕ)
alone before c = record { before = before; token = c ∷ [] }

abbrev pub longer : Part (List ℕ) → ℕ → Part (List ℕ)
longer part c = record { before = part.before; token = part.token ++ c ∷ [] }

abbrev pub with_last : ℕ → Parts → List ℕ → Parts
with_last c [] behind = alone behind c ∷ []
with_last c (part ∷ []) [] = longer part c ∷ []
with_last c (part ∷ []) (b ∷ behind) = part ∷ alone (b ∷ behind) c ∷ []
with_last c (part ∷ next ∷ parts) behind = part ∷ with_last c (next ∷ parts) behind

-- a letter or digit in front of more than one part, by what stands before the first
front_step :
    (d c : ℕ) (before token : List ℕ) (next : Part (List ℕ)) (parts : Parts) (behind : List ℕ)
    → with_alphanumeric d (record { before = before; token = token } ∷ with_last c (next ∷ parts) behind)
    ≡ with_last c (with_alphanumeric d (record { before = before; token = token } ∷ next ∷ parts)) behind
front_step d c [] token next parts behind = refl
front_step d c (b ∷ before) token next parts behind = refl

lone_step :
    (d c : ℕ) (before token behind : List ℕ)
    → with_alphanumeric d (with_last c (record { before = before; token = token } ∷ []) behind)
    ≡ with_last c (with_alphanumeric d (record { before = before; token = token } ∷ [])) behind
lone_step d c [] token [] = refl
lone_step d c [] token (b ∷ behind) = refl
lone_step d c (e ∷ before) token [] = refl
lone_step d c (e ∷ before) token (b ∷ behind) = refl

no_step : (d c : ℕ) (behind : List ℕ) → with_alphanumeric d (alone behind c ∷ []) ≡ with_last c (alone [] d ∷ []) behind
no_step d c [] = refl
no_step d c (b ∷ behind) = refl

letter_step :
    (b : Bool) (d c : ℕ) (parts : Parts) (behind : List ℕ)
    → in_front b d (with_last c parts behind) []
    ≡ record { parts = with_last c (in_front b d parts behind).parts (in_front b d parts behind).behind; behind = [] }
letter_step true d c [] behind = ap (λ ps. record { parts = ps; behind = [] }) (no_step d c behind)
letter_step true d c (part ∷ []) behind = ap (λ ps. record { parts = ps; behind = [] }) (lone_step d c part.before part.token behind)
letter_step true d c (part ∷ next ∷ parts) behind =
    ap (λ ps. record { parts = ps; behind = [] }) (front_step d c part.before part.token next parts behind)
letter_step false d c [] behind = refl
letter_step false d c (part ∷ []) [] = refl
letter_step false d c (part ∷ []) (b ∷ behind) = refl
letter_step false d c (part ∷ next ∷ parts) behind = refl

pub cut_alphanumeric :
    (c : ℕ) → is_alphanumeric c ≡ true → (text : List ℕ)
    → cut (text ++ c ∷ []) ≡ record { parts = with_last c (cut text).parts (cut text).behind; behind = [] }
cut_alphanumeric c letter [] = cond-true (is_alphanumeric c) _ _ letter
cut_alphanumeric c letter (d ∷ ds) =
    ap (λ whole. in_front (is_alphanumeric d) d whole.parts whole.behind) (cut_alphanumeric c letter ds)
    ∙ letter_step (is_alphanumeric d) d c (cut ds).parts (cut ds).behind

last_changed :
    (c : ℕ) (parts : Parts) (n : ℕ) (last : Part (List ℕ)) → length parts ≡ suc n → last ≡ get_or parts n last
    → with_last c parts [] ≡ set parts n (longer last c)
last_changed c [] n last many is = absurd (omega arith)
last_changed c (part ∷ []) zero last many is = ap (λ p. longer p c ∷ []) (sym is)
last_changed c (part ∷ []) (suc n) last many is = absurd (omega arith)
last_changed c (part ∷ next ∷ parts) zero last many is = absurd (omega arith)
last_changed c (part ∷ next ∷ parts) (suc n) last many is = ap (λ ps. part ∷ ps) (last_changed c (next ∷ parts) n last (omega arith) is)

one_more : (c : ℕ) (parts : Parts) (b : ℕ) (behind : List ℕ) → with_last c parts (b ∷ behind) ≡ parts ++ alone (b ∷ behind) c ∷ []
one_more c [] b behind = refl
one_more c (part ∷ []) b behind = refl
one_more c (part ∷ next ∷ parts) b behind = ap (λ ps. part ∷ ps) (one_more c (next ∷ parts) b behind)

-- ---- what the code does with a text that is cut
pub other_pushed :
    (c : ℕ) (parts : Parts) (behind new : List ℕ) (now : Cut) (text : List ℕ) → is_alphanumeric c ≡ false
    → record { parts = parts; behind = behind } ≡ now → new ≡ behind ++ c ∷ [] → now ≡ cut text
    → record { parts = parts; behind = new } ≡ cut (text ++ c ∷ [])
other_pushed c parts behind new now text other view pushed is =
    ap (λ b. record { parts = parts; behind = b }) pushed
    ∙ ap (λ whole. record { parts = whole.parts; behind = whole.behind ++ c ∷ [] }) (view ∙ is)
    ∙ sym (cut_other c other text)

abbrev with_alphanumeric_last : ℕ → Cut → Cut
with_alphanumeric_last c whole = record { parts = with_last c whole.parts whole.behind; behind = [] }

letter_is :
    (c : ℕ) (parts : Parts) (behind : List ℕ) (now : Cut) (text : List ℕ) → is_alphanumeric c ≡ true
    → record { parts = parts; behind = behind } ≡ now → now ≡ cut text
    → record { parts = with_last c parts behind; behind = [] } ≡ cut (text ++ c ∷ [])
letter_is c parts behind now text letter view is = ap (with_alphanumeric_last c) (view ∙ is) ∙ sym (cut_alphanumeric c letter text)

pub letter_joined :
    (c : ℕ) (parts : Parts) (behind new : List ℕ) (last : Part (List ℕ)) (n : ℕ) (now : Cut) (text : List ℕ) → is_alphanumeric c ≡ true
    → record { parts = parts; behind = behind } ≡ now → (length behind == 0) ≡ true → length parts ≡ n → (n == 0) ≡ false
    → last ≡ get_or parts (n - 1) last → new ≡ last.token ++ c ∷ [] → now ≡ cut text
    → record { parts = set parts (n - 1) (record { before = last.before; token = new }); behind = behind } ≡ cut (text ++ c ∷ [])
letter_joined c parts [] new last n now text letter view none many some at pushed is =
    ap (λ t. record { parts = set parts (n - 1) (record { before = last.before; token = t }); behind = [] }) pushed
    ∙ ap (λ ps. record { parts = ps; behind = [] }) (sym (last_changed c parts (n - 1) last (grind (arith, nat_tests)) at))
    ∙ letter_is c parts [] now text letter view is
letter_joined c parts (b ∷ behind) new last n now text letter view none many some at pushed is = absurd (grind (arith, nat_tests))

-- a letter or digit is a token of its own where something stands behind the last token, and where there is no token
pub letter_alone :
    (c : ℕ) (parts : Parts) (behind : List ℕ) (now : Cut) (text : List ℕ) → is_alphanumeric c ≡ true
    → record { parts = parts; behind = behind } ≡ now → ((length parts == 0) ≡ true) ⊎ ((length behind == 0) ≡ false) → now ≡ cut text
    → record { parts = parts ++ alone behind c ∷ []; behind = [] } ≡ cut (text ++ c ∷ [])
letter_alone c [] behind now text letter view apart is = letter_is c [] behind now text letter view is
letter_alone c (part ∷ parts) behind now text letter view (inl none) is = absurd (grind (arith, nat_tests))
letter_alone c (part ∷ parts) [] now text letter view (inr some) is = absurd (cc)
letter_alone c (part ∷ parts) (b ∷ behind) now text letter view (inr some) is =
    ap (λ ps. record { parts = ps; behind = [] }) (sym (one_more c (part ∷ parts) b behind))
    ∙ letter_is c (part ∷ parts) (b ∷ behind) now text letter view is

pub new_part :
    (c : ℕ) (parts new : Parts) (behind before token rest : List ℕ) (whole : Cut) → new ≡ parts ++ record { before = before; token = token } ∷ []
    → before ≡ behind → token ≡ c ∷ [] → rest ≡ [] → record { parts = parts ++ alone behind c ∷ []; behind = [] } ≡ whole
    → record { parts = new; behind = rest } ≡ whole
new_part c parts new behind before token rest whole pushed from made left is =
    ap (λ ps. record { parts = ps; behind = rest }) pushed
    ∙ (λ i. record { parts = parts ++ record { before = from i; token = made i } ∷ []; behind = left i })
    ∙ is

-- ---- the format of a text that is cut
pub without_token :
    (parts : Parts) (behind first suffix : List ℕ) (now : Cut) → record { parts = parts; behind = behind } ≡ now → (length parts == 0) ≡ true
    → first ≡ codes "1" → suffix ≡ [] → record { prefix = behind; first = first; others = parts; suffix = suffix } ≡ format_from now.parts now.behind
without_token [] behind first suffix now view none one nothing =
    (λ i. record { prefix = behind; first = one i; others = []; suffix = nothing i }) ∙ ap (λ whole. format_from whole.parts whole.behind) view
without_token (part ∷ parts) behind first suffix now view none one nothing = absurd (grind (arith, nat_tests))

pub with_token :
    (parts others : Parts) (behind : List ℕ) (first : Part (List ℕ)) (now : Cut) → record { parts = parts; behind = behind } ≡ now
    → (length parts == 0) ≡ false → first ≡ get_or parts 0 first → others ≡ remove parts 0
    → record { prefix = first.before; first = first.token; others = others; suffix = behind } ≡ format_from now.parts now.behind
with_token [] others behind first now view some at rest = absurd (cc)
with_token (part ∷ parts) others behind first now view some at rest =
    (λ i. record { prefix = (at i).before; first = (at i).token; others = rest i; suffix = behind })
    ∙ ap (λ whole. format_from whole.parts whole.behind) view

-- ---- the parts of a format
no_other : (others : Parts) (n : ℕ) (part : Part (List ℕ)) → (length others == 0) ≡ true → get_or others n part ≡ part
no_other [] n part none = refl
no_other (other ∷ others) n part none = absurd (grind (arith, nat_tests))

pub part_alone :
    (format now : Format) (place : ℕ) → format ≡ now → (length format.others == 0) ≡ true
    → part_at now place ≡ record { before = codes "."; token = format.first }
part_alone format now place view none = ap (λ f. part_at f place) (sym view) ∙ no_other format.others _ _ none

pub part_found :
    (format now : Format) (place n m : ℕ) (part : Part (List ℕ)) → format ≡ now → (n == 0) ≡ false → n ≡ length format.others → m ≡ min place (n - 1)
    → part ≡ get_or format.others m part → part_at now place ≡ part
part_found format now place n m part view some many least at =
    let above : 0 < n = grind (arith, nat_tests) in
    let same : min place (length format.others - 1) ≡ m = sym (least ∙ ap (λ k. min place (k - 1)) many) in
    ap (λ f. part_at f place) (sym view) ∙ ap (λ k. get_or format.others k (record { before = codes "."; token = format.first })) same
    ∙ get_or_default format.others m _ part (omega arith) ∙ sym at

pub dot : chars (codes ".") ≡ codes "."
unfolding chars
dot = refl

pub one : chars (codes "1") ≡ codes "1"
unfolding chars
one = refl
