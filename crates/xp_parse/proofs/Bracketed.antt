-- The lists of expressions in brackets: arguments and predicates.
use Rattle.std.proofs.Common.{◌≡◌, ◌<◌, List, [], ◌∷◌, ◌++◌, refl, ap, ◌∙◌, sym, subst, arith}
use Rattle.spec_document.specs.Scope.{Scope}
use Rattle.spec_expression.specs.declared.Level.TheVariants.{OrExpr}
use Rattle.spec_expression.specs.Token.{Token, Close, OpenSquare, CloseSquare, Comma}
use Rattle.spec_expression.specs.Syntax.{Expr}
use Rattle.spec_expression.specs.Grammar as g
use Rattle.spec_expression.specs.Grammar.{Reads, ReadsArguments, ReadsMore, ReadsPredicates}
use Rattle.spec_expression.proofs.Rank.{head_rank}
use Rattle.spec_expression.proofs.Ranks.{begin_expression, more_stop}
use Rattle.xp_parse.specs.Reading.{Read, Nothing, IsNotNext}
use Rattle.xp_parse.proofs.Lists.{Continues, more, ended}

-- arguments
no_argument_only : {s : Scope} {ts ws : List Token} {ys : List Expr} → ReadsArguments s (Close ∷ ts) ys ws → ([] ≡ ys) × (ts ≡ ws)
no_argument_only g.no_argument = (refl, refl)
no_argument_only (g.argument p x) = absurd (omega (arith, begin_expression p))

pub no_argument_read : {s : Scope} {ts : List Token} → Read (ReadsArguments s) 13 (Close ∷ ts) [] ts
no_argument_read = record { reads = g.no_argument; only = λ y ws p h. no_argument_only p }

arguments_only : {s : Scope} {ts us vs ws : List Token} {e : Expr} {es ys : List Expr} → IsNotNext ts Close → Read (Reads s OrExpr) 1 ts e us
    → Read (ReadsMore s) 13 us es vs → ReadsArguments s ts ys ws → head_rank ws < 13 → (e ∷ es ≡ ys) × (vs ≡ ws)
arguments_only c r x g.no_argument h = absurd (c.different _ refl)
arguments_only {s = s} {es = es} c r x (g.argument {vs = ws} {e = f} {es = fs} p z) h =
    let i = r.only _ _ p (more_stop z) in
    let j = x.only fs ws (subst (λ (ts : List Token). ReadsMore s ts fs ws) (sym i.1) z) h in
    (ap (λ (q : Expr). q ∷ es) i.0 ∙ ap (λ (q : List Expr). f ∷ q) j.0, j.1)

pub arguments_read : {s : Scope} {ts us vs : List Token} {e : Expr} {es : List Expr} → IsNotNext ts Close → Read (Reads s OrExpr) 1 ts e us
    → Read (ReadsMore s) 13 us es vs → Read (ReadsArguments s) 13 ts (e ∷ es) vs
arguments_read c r x = record { reads = g.argument r.reads x.reads; only = λ y ws p h. arguments_only c r x p h }

arguments_none : {s : Scope} {ts ws : List Token} {ys : List Expr} → IsNotNext ts Close → Nothing (Reads s OrExpr) 1 ts → ReadsArguments s ts ys ws → ⊥
arguments_none c n g.no_argument = c.different _ refl
arguments_none c n (g.argument p z) = n.none _ _ p (more_stop z)

pub arguments_fail : {s : Scope} {ts : List Token} → IsNotNext ts Close → Nothing (Reads s OrExpr) 1 ts → Nothing (ReadsArguments s) 13 ts
arguments_fail c n = record { none = λ y ws p h. arguments_none c n p }

arguments_none_later : {s : Scope} {ts us ws : List Token} {e : Expr} {ys : List Expr} → IsNotNext ts Close → Read (Reads s OrExpr) 1 ts e us
    → Nothing (ReadsMore s) 13 us → ReadsArguments s ts ys ws → head_rank ws < 13 → ⊥
arguments_none_later c r n g.no_argument h = c.different _ refl
arguments_none_later {s = s} c r n (g.argument {vs = ws} {es = fs} p z) h =
    let i = r.only _ _ p (more_stop z) in
    n.none fs ws (subst (λ (ts : List Token). ReadsMore s ts fs ws) (sym i.1) z) h

pub arguments_fail_later : {s : Scope} {ts us : List Token} {e : Expr} → IsNotNext ts Close → Read (Reads s OrExpr) 1 ts e us → Nothing (ReadsMore s) 13 us
    → Nothing (ReadsArguments s) 13 ts
arguments_fail_later c r n = record { none = λ y ws p h. arguments_none_later c r n p h }

argument_back : {s : Scope} {ts us vs : List Token} {e : Expr} {xs : List Expr} → Read (Reads s OrExpr) 1 ts e us → ReadsMore s (Comma ∷ ts) xs vs
    → (ys : List Expr) × (xs ≡ (e ∷ []) ++ ys) × ReadsMore s us ys vs
argument_back {s = s} {vs = vs} r (g.one_more {es = es} p x) =
    let d = r.only _ _ p (more_stop x) in
    (es, ap (λ (q : Expr). q ∷ es) (sym d.0), subst (λ (zs : List Token). ReadsMore s zs es vs) (sym d.1) x)

pub argument_more : {s : Scope} {from ts us : List Token} {done : List Expr} {e : Expr} → Read (Reads s OrExpr) 1 ts e us
    → Continues (ReadsMore s) 13 from done (Comma ∷ ts) → Continues (ReadsMore s) 13 from (done ++ e ∷ []) us
argument_more {s = s} {from = from} {ts = ts} {us = us} {done = done} r k =
    more (ReadsMore s) 13 from (Comma ∷ ts) us done _ k (λ xs vs p. g.one_more r.reads p) (λ xs vs p q. argument_back r p)

argument_none : {s : Scope} {ts vs : List Token} {ys : List Expr} → Nothing (Reads s OrExpr) 1 ts → ReadsMore s (Comma ∷ ts) ys vs → ⊥
argument_none n (g.one_more p x) = n.none _ _ p (more_stop x)

pub argument_fail : {s : Scope} {ts : List Token} → Nothing (Reads s OrExpr) 1 ts → Nothing (ReadsMore s) 13 (Comma ∷ ts)
argument_fail n = record { none = λ y vs p h. argument_none n p }

closing_only : {s : Scope} {ts vs : List Token} {ys : List Expr} → ReadsMore s (Close ∷ ts) ys vs → (ys ≡ []) × (vs ≡ ts)
closing_only g.no_more = (refl, refl)

pub arguments_end : {s : Scope} {from ts : List Token} {done : List Expr} → Continues (ReadsMore s) 13 from done (Close ∷ ts)
    → Read (ReadsMore s) 13 from done ts
arguments_end {s = s} {from = from} {ts = ts} {done = done} k = ended (ReadsMore s) 13 from (Close ∷ ts) ts done k g.no_more (λ ys vs p. closing_only p)

arguments_open : {s : Scope} {ts vs : List Token} {ys : List Expr} → IsNotNext ts Comma → IsNotNext ts Close → ReadsMore s ts ys vs → ⊥
arguments_open c d g.no_more = d.different _ refl
arguments_open c d (g.one_more p x) = c.different _ refl

pub arguments_unclosed : {s : Scope} {ts : List Token} → IsNotNext ts Comma → IsNotNext ts Close → Nothing (ReadsMore s) 13 ts
arguments_unclosed c d = record { none = λ y vs p h. arguments_open c d p }

-- predicates
predicate_back : {s : Scope} {ts us vs : List Token} {e : Expr} {xs : List Expr} → Read (Reads s OrExpr) 1 ts e (CloseSquare ∷ us)
    → ReadsPredicates s (OpenSquare ∷ ts) xs vs → head_rank vs < 10
    → (ys : List Expr) × (xs ≡ (e ∷ []) ++ ys) × ReadsPredicates s us ys vs
predicate_back r g.no_predicate h = absurd (omega arith)
predicate_back {s = s} {us = us} {vs = vs} r (g.predicate {us = ws} {es = es} p x) h =
    let d = r.only _ _ p (omega arith) in
    let t : us ≡ ws = let i = d.1 in cc in
    (es, ap (λ (q : Expr). q ∷ es) (sym d.0), subst (λ (zs : List Token). ReadsPredicates s zs es vs) (sym t) x)

pub predicate_more : {s : Scope} {from ts us : List Token} {done : List Expr} {e : Expr} → Read (Reads s OrExpr) 1 ts e (CloseSquare ∷ us)
    → Continues (ReadsPredicates s) 10 from done (OpenSquare ∷ ts)
    → Continues (ReadsPredicates s) 10 from (done ++ e ∷ []) us
predicate_more {s = s} {from = from} {ts = ts} {us = us} {done = done} r k =
    more (ReadsPredicates s) 10 from (OpenSquare ∷ ts) us done _ k (λ xs vs p. g.predicate r.reads p) (λ xs vs p q. predicate_back r p q)

predicate_none : {s : Scope} {ts vs : List Token} {ys : List Expr} → Nothing (Reads s OrExpr) 1 ts → ReadsPredicates s (OpenSquare ∷ ts) ys vs
    → head_rank vs < 10 → ⊥
predicate_none n g.no_predicate h = omega arith
predicate_none n (g.predicate p x) h = n.none _ _ p (omega arith)

pub predicate_fail : {s : Scope} {ts : List Token} → Nothing (Reads s OrExpr) 1 ts → Nothing (ReadsPredicates s) 10 (OpenSquare ∷ ts)
predicate_fail n = record { none = λ y vs p h. predicate_none n p h }

predicate_open : {s : Scope} {ts us vs : List Token} {e : Expr} {ys : List Expr} → Read (Reads s OrExpr) 1 ts e us → IsNotNext us CloseSquare
    → ReadsPredicates s (OpenSquare ∷ ts) ys vs → head_rank vs < 10 → ⊥
predicate_open r c g.no_predicate h = omega arith
predicate_open r c (g.predicate p x) h = c.different _ (r.only _ _ p (omega arith)).1

pub predicate_unclosed : {s : Scope} {ts us : List Token} {e : Expr} → Read (Reads s OrExpr) 1 ts e us → IsNotNext us CloseSquare
    → Nothing (ReadsPredicates s) 10 (OpenSquare ∷ ts)
predicate_unclosed r c = record { none = λ y vs p h. predicate_open r c p h }

predicates_over : {s : Scope} {ts vs : List Token} {ys : List Expr} → IsNotNext ts OpenSquare → ReadsPredicates s ts ys vs → (ys ≡ []) × (vs ≡ ts)
predicates_over c g.no_predicate = (refl, refl)
predicates_over c (g.predicate p x) = absurd (c.different _ refl)

pub predicates_end : {s : Scope} {from ts : List Token} {done : List Expr} → IsNotNext ts OpenSquare → Continues (ReadsPredicates s) 10 from done ts
    → Read (ReadsPredicates s) 10 from done ts
predicates_end {s = s} {from = from} {ts = ts} {done = done} c k =
    ended (ReadsPredicates s) 10 from ts ts done k g.no_predicate (λ ys vs p. predicates_over c p)
