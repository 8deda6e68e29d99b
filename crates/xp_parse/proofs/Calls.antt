-- What a call of the parser answers, of itself and at the exit of a `?`.
use Rattle.std.proofs.Common.{◌≡◌, ℕ, List, Result, Ok, Err, ◌∙◌, sym, subst}
use Rattle.spec_expression.specs.Token.{Token}
use Rattle.xp_parse.specs.Reading.{Read, Nothing, Returns}
use Rattle.xp_parse.specs.declared.fault.ParseFault.{ParseFault}
use Rattle.xp_parse.specs.declared.fault.ParseFault.TheVariants.{Memory, Refused}
use Rattle.spec_expression.specs.declared.ExpressionRefusal.TheVariants.{Syntax, Depth, Number as BadNumber, Prefix}
use Rattle.std.specs.Result.{IsErrAnd}

-- what a call answers
pub found : {X A : Type 0} {view : X → A} {P : List Token → A → List Token → Type 0} {r : ℕ} {ts us : List Token} {x : X} {y : A} → view x ≡ y
    → Read P r ts y us → Returns view P r ts us (Ok x)
found {P = P} {r = r} {ts = ts} {us = us} e h = record { answer = subst (λ (y : _). Read P r ts y us) (sym e) h }

pub refused : {X A : Type 0} {view : X → A} {P : List Token → A → List Token → Type 0} {r : ℕ} {ts us : List Token} → Nothing P r ts
    → Returns view P r ts us (Err (Refused Syntax))
refused h = record { answer = h }

-- what a call answers at the exit of a `?`
exits_at : {X Y A B : Type 0} {view : X → A} {sight : Y → B} {P : List Token → A → List Token → Type 0} {Q : List Token → B → List Token
    → Type 0} {r q : ℕ} {ts us ss ws : List Token} (e : ParseFault)
    → Returns view P r ts us (Err e) → (Nothing P r ts → Nothing Q q ss) → Returns sight Q q ss ws (Err e)
exits_at Memory h f = record { answer = tt }
exits_at (Refused Syntax) h f = record { answer = f h.answer }
exits_at (Refused Depth) h f = absurd h.answer
exits_at (Refused BadNumber) h f = absurd h.answer
exits_at (Refused Prefix) h f = absurd h.answer

pub exits : {X Y A B : Type 0} {view : X → A} {sight : Y → B} {P : List Token → A → List Token → Type 0} {Q : List Token → B → List Token
    → Type 0} {r q : ℕ} {ts us ss ws : List Token} {e : ParseFault}
    (result : Result Y ParseFault) → IsErrAnd result (λ d. d ≡ e) → Returns view P r ts us (Err e) → (Nothing P r ts → Nothing Q q ss)
    → Returns sight Q q ss ws result
exits {sight = sight} {Q = Q} {q = q} {ss = ss} {ws = ws} (Err d) h k f = subst (λ (b : ParseFault). Returns sight Q q ss ws (Err b)) (sym h) (exits_at _ k f)
exits (Ok x) h k f = absurd h

pub exits_refused : {Y B : Type 0} {sight : Y → B} {Q : List Token → B → List Token
    → Type 0} {q : ℕ} {ss ws : List Token} {e : ParseFault} (result : Result Y ParseFault)
    → IsErrAnd result (λ d. d ≡ e) → e ≡ Refused Syntax → Nothing Q q ss → Returns sight Q q ss ws result
exits_refused {sight = sight} {Q = Q} {q = q} {ss = ss} {ws = ws} (Err d) h i n =
    subst (λ (b : ParseFault). Returns sight Q q ss ws (Err b)) (sym (h ∙ i)) (record { answer = n })
exits_refused (Ok x) h i n = absurd h
