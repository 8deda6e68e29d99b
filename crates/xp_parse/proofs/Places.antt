-- The tokens at a place of the parser.
use Rattle.std.proofs.Common.{◌≡◌, ℕ, ◌+◌, List, ◌∷◌, ap, ◌∙◌, sym, subst, arith}
use Rattle.spec_expression.specs.Token.{Token}
use Rattle.xp_parse.specs.Reading.{Read, Nothing, left, IsNext}
use Rattle.xp_parse.specs.declared.read.Parser.{Parser}
use Rattle.xp_parse.proofs.Lists.{Continues}

-- at a place of the parser
pub at_read : {A : Type 0} {P : List Token → A → List Token → Type 0} {r : ℕ} {p : Parser} {at : ℕ} {t : Token} {x : A} {us : List Token} → IsNext p at t
    → Read P r (t ∷ left p (at + 1)) x us → Read P r (left p at) x us
at_read {P = P} {r = r} {x = x} {us = us} n h = subst (λ (ts : List Token). Read P r ts x us) (sym n.is) h

pub at_nothing : {A : Type 0} {P : List Token → A → List Token → Type 0} {r : ℕ} {p : Parser} {at : ℕ} {t : Token} → IsNext p at t
    → Nothing P r (t ∷ left p (at + 1)) → Nothing P r (left p at)
at_nothing {P = P} {r = r} n h = subst (λ (ts : List Token). Nothing P r ts) (sym n.is) h

pub at_continues : {X : Type 0} {P : List Token → List X → List Token → Type 0} {r : ℕ} {p : Parser} {at : ℕ} {t : Token} {from : List Token} {done : List X}
    → IsNext p at t → Continues P r from done (left p at) → Continues P r from done (t ∷ left p (at + 1))
at_continues {P = P} {r = r} {from = from} {done = done} n h = subst (λ (ts : List Token). Continues P r from done ts) n.is h

pub to_next : {A : Type 0} {P : List Token → A → List Token → Type 0} {r : ℕ} {p : Parser} {at : ℕ} {t : Token} {x : A} {ts : List Token} → IsNext p at t
    → Read P r ts x (left p at) → Read P r ts x (t ∷ left p (at + 1))
to_next {P = P} {r = r} {x = x} {ts = ts} n h = subst (λ (us : List Token). Read P r ts x us) n.is h

-- several tokens at a place
pub next_two : (p : Parser) (at : ℕ) (t u : Token) → IsNext p at t → IsNext p (at + 1) u → left p at ≡ t ∷ u ∷ left p (at + 2)
next_two p at t u m n =
    let e : at + 1 + 1 ≡ at + 2 = omega arith in
    m.is ∙ ap (λ (ts : List Token). t ∷ ts) (n.is ∙ ap (λ (k : ℕ). u ∷ left p k) e)

pub next_three : (p : Parser) (at : ℕ) (t u v : Token) → IsNext p at t → IsNext p (at + 1) u → IsNext p (at + 2) v → left p at ≡ t ∷ u ∷ v ∷ left p (at + 3)
next_three p at t u v m n o =
    let e : at + 2 + 1 ≡ at + 3 = omega arith in
    next_two p at t u m n ∙ ap (λ (ts : List Token). t ∷ u ∷ ts) (o.is ∙ ap (λ (k : ℕ). v ∷ left p k) e)

pub next_four : (p : Parser) (at : ℕ) (t u v w : Token) → IsNext p at t → IsNext p (at + 1) u → IsNext p (at + 2) v → IsNext p (at + 2 + 1) w
    → left p at ≡ t ∷ u ∷ v ∷ w ∷ left p (at + 4)
next_four p at t u v w m n o q =
    let e : at + 2 + 1 ≡ at + 3 = omega arith in
    let f : at + 2 + 1 + 1 ≡ at + 4 = omega arith in
    next_three p at t u v m n o ∙ ap (λ (ts : List Token). t ∷ u ∷ v ∷ ts) (ap (left p) (sym e) ∙ q.is ∙ ap (λ (k : ℕ). w ∷ left p k) f)
