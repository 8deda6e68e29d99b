-- Pieces of a text: the longest tokens at its front, and what is cut behind them.
use Rattle.std.proofs.Common.{◌≡◌, ℕ, zero, suc, ◌<◌, ◌-◌, Bool, true, false, List, []}
use Rattle.std.proofs.Common.{◌∷◌, ◌++◌, drop, Option, None, Some, refl, ap, sym, ◌∙◌, append_assoc, arith}
use Rattle.std.specs.Prelude.{option_map}
use Rattle.std.specs.Str.{chars}
use Rattle.spec_document.specs.Character.{is_space}
use Rattle.spec_expression.specs.Token.{Token, ends_operand, Piece, piece_at, cut}
use Rattle.xp_parse.specs.declared.cut.Piece as code
use Rattle.xp_parse.specs.View.{token_of}
use Rattle.xp_parse.specs.Front.{IsBehind, Cuts}
use Rattle.xp_parse.proofs.Fronts.{empty_chars}

-- the tokens behind those of a front
abbrev pub front_of : List Token → Option (List Token) → Option (List Token)
front_of front tokens = option_map (λ ts. front ++ ts) tokens

cut-taken : (n : ℕ) (b : Bool) (cs : List ℕ) → cut n b cs ≡ cut 0 b (drop n cs)
unfolding cut
cut-taken zero b cs = refl
cut-taken (suc n) b [] = refl
cut-taken (suc n) b (c ∷ cs) = cut-taken n b cs

-- what is cut where the first character is white space or not, and begins a piece or not
abbrev turn : Bool → Option Piece → Bool → List ℕ → Option (List Token)
turn space piece b cs = elim space [
  | true ↦ cut zero b cs
  | false ↦ elim piece [
    | None ↦ None
    | Some p ↦ option_map (λ tokens. p.token ∷ tokens) (cut (p.taken - 1) (ends_operand p.token) cs)
  ]
]

cut-turn : (b : Bool) (c : ℕ) (cs : List ℕ) → cut 0 b (c ∷ cs) ≡ turn (is_space c) (piece_at b c cs) b cs
unfolding cut
cut-turn b c cs = refl

pub cut-space : (b : Bool) (c : ℕ) (cs : List ℕ) → is_space c ≡ true → cut 0 b (c ∷ cs) ≡ cut 0 b cs
cut-space b c cs h = cut-turn b c cs ∙ ap (λ (s : Bool). turn s (piece_at b c cs) b cs) h

pub cut-none : (b : Bool) (c : ℕ) (cs : List ℕ) → is_space c ≡ false → piece_at b c cs ≡ None → cut 0 b (c ∷ cs) ≡ None
cut-none b c cs h p = cut-turn b c cs ∙ ap (λ (s : Bool). turn s (piece_at b c cs) b cs) h ∙ ap (λ (o : Option Piece). turn false o b cs) p

pub cut-piece : (b : Bool) (c : ℕ) (cs : List ℕ) (p : Piece) → is_space c ≡ false → piece_at b c cs ≡ Some p → 0 < p.taken
    → cut 0 b (c ∷ cs) ≡ front_of (p.token ∷ []) (cut 0 (ends_operand p.token) (drop p.taken (c ∷ cs)))
cut-piece b c cs p h e q =
    let k : p.taken ≡ suc (p.taken - 1) = omega arith in
    cut-turn b c cs ∙ ap (λ (s : Bool). turn s (piece_at b c cs) b cs) h ∙ ap (λ (o : Option Piece). turn false o b cs) e
    ∙ ap (λ (o : Option (List Token)). option_map (λ tokens. p.token ∷ tokens) o) (cut-taken (p.taken - 1) (ends_operand p.token) cs)
    ∙ ap (λ (n : ℕ). front_of (p.token ∷ []) (cut 0 (ends_operand p.token) (drop n (c ∷ cs)))) (sym k)

pub front_of-front_of : (front middle : List Token) (o : Option (List Token)) → front_of front (front_of middle o) ≡ front_of (front ++ middle) o
front_of-front_of front middle None = refl
front_of-front_of front middle (Some ts) = ap Some (sym (append_assoc front middle ts))

-- the same where a text's first character was read
pub turn-space : (b : Bool) (rest behind : List ℕ) (c : ℕ) → IsBehind c behind rest → is_space c ≡ true → cut 0 b (chars rest) ≡ cut 0 b (chars behind)
turn-space b rest behind c r h = ap (cut 0 b) r.characters ∙ cut-space b c (chars behind) h

pub turn-none : (b : Bool) (rest behind : List ℕ) (c : ℕ) → IsBehind c behind rest → is_space c ≡ false → Cuts None (piece_at b c (chars behind)) (chars rest)
    → cut 0 b (chars rest) ≡ None
turn-none b rest behind c r h k = ap (cut 0 b) r.characters ∙ cut-none b c (chars behind) h (none (piece_at b c (chars behind)) k)
  where
    none : (o : Option Piece) → Cuts None o (chars rest) → o ≡ None
    none None k = refl
    none (Some p) k = absurd k

pub turn-piece : (b : Bool) (rest behind : List ℕ) (c : ℕ) (p : code.Piece) → IsBehind c behind rest → is_space c ≡ false
    → Cuts (Some p) (piece_at b c (chars behind)) (chars rest)
    → cut 0 b (chars rest) ≡ front_of (token_of p.token ∷ []) (cut 0 (ends_operand (token_of p.token)) (chars p.rest.now))
turn-piece b rest behind c p r h k = go (piece_at b c (chars behind)) refl k
  where
    go : (o : Option Piece) → piece_at b c (chars behind) ≡ o → Cuts (Some p) o (chars rest)
        → cut 0 b (chars rest) ≡ front_of (token_of p.token ∷ []) (cut 0 (ends_operand (token_of p.token)) (chars p.rest.now))
    go None e k = absurd k
    go (Some q) e k =
        ap (cut 0 b) r.characters ∙ cut-piece b c (chars behind) q h e k.1
        ∙ ap (λ (t : Token). front_of (t ∷ []) (cut 0 (ends_operand t) (drop q.taken (c ∷ chars behind)))) (sym k.0.token)
        ∙ ap (λ (cs : List ℕ). front_of (token_of p.token ∷ []) (cut 0 (ends_operand (token_of p.token)) cs))
        (ap (drop q.taken) (sym r.characters) ∙ sym k.0.behind)

pub cut-end : (b : Bool) (rest : List ℕ) → rest ≡ [] → cut 0 b (chars rest) ≡ Some []
unfolding cut
cut-end b rest e = ap (cut 0 b) (empty_chars rest e)
