-- The productions of filters and of primary expressions.
use Rattle.std.proofs.Common.{◌≡◌, ℕ, ◌<◌, Option, List, ◌∷◌, None, refl, ap, ◌∙◌, sym, subst, arith}
use Rattle.std.specs.Prelude.{unwrap_or}
use Rattle.spec_document.specs.Name.{QName}
use Rattle.spec_document.specs.Scope.{Scope}
use Rattle.spec_expression.specs.declared.Level.TheVariants.{OrExpr}
use Rattle.spec_expression.specs.Token.{Token, Open, Close, Name, Variable, Literal, Number}
use Rattle.spec_expression.specs.Syntax.{Expr, number, literal, variable, call, exprs, filtered}
use Rattle.spec_expression.specs.Grammar as g
use Rattle.spec_expression.specs.Grammar.{type_of, expanded, Reads, ReadsFilter, ReadsPrimary, ReadsArguments, ReadsPredicates}
use Rattle.spec_expression.proofs.Rank.{head_rank}
use Rattle.spec_expression.proofs.Ranks.{predicates_stop}
use Rattle.xp_parse.specs.Reading.{Read, Nothing, IsNotNext}

-- filters
filter_only : {s : Scope} {ts us vs ws : List Token} {e y : Expr} {ps : List Expr} → Read (ReadsPrimary s) 11 ts e us → Read (ReadsPredicates s) 10 us ps vs
    → ReadsFilter s ts y ws → head_rank ws < 10 → (filtered e ps ≡ y) × (vs ≡ ws)
filter_only {s = s} {ps = ps} r x (g.filter {vs = ws} {e = f} {ps = qs} p z) h =
    let i = r.only _ _ p (predicates_stop z h) in
    let j = x.only qs ws (subst (λ (ts : List Token). ReadsPredicates s ts qs ws) (sym i.1) z) h in
    (ap (λ (q : Expr). filtered q ps) i.0 ∙ ap (λ (q : List Expr). filtered f q) j.0, j.1)

pub filter_read : {s : Scope} {ts us vs : List Token} {e : Expr} {ps : List Expr} → Read (ReadsPrimary s) 11 ts e us → Read (ReadsPredicates s) 10 us ps vs
    → Read (ReadsFilter s) 10 ts (filtered e ps) vs
filter_read r x = record { reads = g.filter r.reads x.reads; only = λ y ws p h. filter_only r x p h }

filter_none : {s : Scope} {ts ws : List Token} {y : Expr} → Nothing (ReadsPrimary s) 11 ts → ReadsFilter s ts y ws → head_rank ws < 10 → ⊥
filter_none n (g.filter p z) h = n.none _ _ p (predicates_stop z h)

pub filter_fail : {s : Scope} {ts : List Token} → Nothing (ReadsPrimary s) 11 ts → Nothing (ReadsFilter s) 10 ts
filter_fail n = record { none = λ y ws p h. filter_none n p h }

filter_none_later : {s : Scope} {ts us ws : List Token} {e y : Expr} → Read (ReadsPrimary s) 11 ts e us → Nothing (ReadsPredicates s) 10 us
    → ReadsFilter s ts y ws → head_rank ws < 10 → ⊥
filter_none_later {s = s} r n (g.filter {vs = ws} {ps = qs} p z) h =
    let i = r.only _ _ p (predicates_stop z h) in
    n.none qs ws (subst (λ (ts : List Token). ReadsPredicates s ts qs ws) (sym i.1) z) h

pub filter_fail_later : {s : Scope} {ts us : List Token} {e : Expr} → Read (ReadsPrimary s) 11 ts e us → Nothing (ReadsPredicates s) 10 us
    → Nothing (ReadsFilter s) 10 ts
filter_fail_later r n = record { none = λ y ws p h. filter_none_later r n p h }

-- primary expressions
variable_only : {s : Scope} {ts ws : List Token} {q : QName} {y : Expr} → ReadsPrimary s (Variable q ∷ ts) y ws → (variable (expanded s q) ≡ y) × (ts ≡ ws)
variable_only g.of_variable = (refl, refl)

pub variable_read : {s : Scope} {ts : List Token} {q : QName} → Read (ReadsPrimary s) 11 (Variable q ∷ ts) (variable (expanded s q)) ts
variable_read = record { reads = g.of_variable; only = λ y ws p h. variable_only p }

literal_only : {s : Scope} {ts ws : List Token} {t : List ℕ} {y : Expr} → ReadsPrimary s (Literal t ∷ ts) y ws → (literal t ≡ y) × (ts ≡ ws)
literal_only g.of_literal = (refl, refl)

pub literal_read : {s : Scope} {ts : List Token} {t : List ℕ} → Read (ReadsPrimary s) 11 (Literal t ∷ ts) (literal t) ts
literal_read = record { reads = g.of_literal; only = λ y ws p h. literal_only p }

number_only : {s : Scope} {ts ws : List Token} {n : Option ℕ} {y : Expr} → ReadsPrimary s (Number n ∷ ts) y ws → (number (unwrap_or n 0) ≡ y) × (ts ≡ ws)
number_only g.of_number = (refl, refl)

pub number_read : {s : Scope} {ts : List Token} {n : Option ℕ} → Read (ReadsPrimary s) 11 (Number n ∷ ts) (number (unwrap_or n 0)) ts
number_read = record { reads = g.of_number; only = λ y ws p h. number_only p }

group_only : {s : Scope} {ts us ws : List Token} {e y : Expr} → Read (Reads s OrExpr) 1 ts e (Close ∷ us) → ReadsPrimary s (Open ∷ ts) y ws
    → (e ≡ y) × (us ≡ ws)
group_only r (g.group p) = let i = r.only _ _ p (omega arith) in (i.0, let e = i.1 in cc)

pub group_read : {s : Scope} {ts us : List Token} {e : Expr} → Read (Reads s OrExpr) 1 ts e (Close ∷ us) → Read (ReadsPrimary s) 11 (Open ∷ ts) e us
group_read r = record { reads = g.group r.reads; only = λ y ws p h. group_only r p }

group_none : {s : Scope} {ts ws : List Token} {y : Expr} → Nothing (Reads s OrExpr) 1 ts → ReadsPrimary s (Open ∷ ts) y ws → ⊥
group_none n (g.group p) = n.none _ _ p (omega arith)

pub group_fail : {s : Scope} {ts : List Token} → Nothing (Reads s OrExpr) 1 ts → Nothing (ReadsPrimary s) 11 (Open ∷ ts)
group_fail n = record { none = λ y ws p h. group_none n p }

group_not_closed : {s : Scope} {ts us ws : List Token} {e y : Expr} → Read (Reads s OrExpr) 1 ts e us → IsNotNext us Close → ReadsPrimary s (Open ∷ ts) y ws → ⊥
group_not_closed r x (g.group p) = x.different _ (r.only _ _ p (omega arith)).1

pub group_unclosed : {s : Scope} {ts us : List Token} {e : Expr} → Read (Reads s OrExpr) 1 ts e us → IsNotNext us Close
    → Nothing (ReadsPrimary s) 11 (Open ∷ ts)
group_unclosed r x = record { none = λ y ws p h. group_not_closed r x p }

call_only : {s : Scope} {ts us ws : List Token} {q : QName} {es : List Expr} {y : Expr} → Read (ReadsArguments s) 13 ts es us
    → ReadsPrimary s (Name q ∷ Open ∷ ts) y ws → head_rank ws < 13 → (call (expanded s q) (exprs es) ≡ y) × (us ≡ ws)
call_only {s = s} {q = q} r (g.of_call e p) h = let i = r.only _ _ p h in (ap (λ (x : List Expr). call (expanded s q) (exprs x)) i.0, i.1)

pub call_read : {s : Scope} {ts us : List Token} {q : QName} {es : List Expr} → type_of q ≡ None → Read (ReadsArguments s) 13 ts es us
    → Read (ReadsPrimary s) 11 (Name q ∷ Open ∷ ts) (call (expanded s q) (exprs es)) us
call_read e r = record { reads = g.of_call e r.reads; only = λ y ws p h. call_only r p (omega arith) }

call_none : {s : Scope} {ts ws : List Token} {q : QName} {y : Expr} → Nothing (ReadsArguments s) 13 ts → ReadsPrimary s (Name q ∷ Open ∷ ts) y ws
    → head_rank ws < 13 → ⊥
call_none n (g.of_call e p) h = n.none _ _ p h

pub call_fail : {s : Scope} {ts : List Token} {q : QName} → Nothing (ReadsArguments s) 13 ts → Nothing (ReadsPrimary s) 11 (Name q ∷ Open ∷ ts)
call_fail n = record { none = λ y ws p h. call_none n p (omega arith) }
