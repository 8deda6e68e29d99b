-- How tightly tokens and levels bind: what may follow a part of an expression binds less than the part.
use Rattle.std.proofs.Common.{◌≡◌, ℕ, ◌<◌, ◌≤◌, ◌+◌, List, refl, ap, arith}
use Rattle.spec_document.specs.Scope.{Scope}
use Rattle.spec_expression.specs.declared.Level.{Level}
use Rattle.spec_expression.specs.declared.Level.TheVariants.{UnionExpr, PathExpr}
use Rattle.spec_expression.specs.Token.{Token}
use Rattle.spec_expression.specs.Syntax.{Test, Expr, Link, Step}
use Rattle.spec_expression.proofs.Rank.{rank, head_rank}
use Rattle.spec_expression.specs.Grammar as g
use Rattle.spec_expression.specs.Grammar.{level_of, type_of, Chain, or, and, equality, relational, additive, multiplicative, union, Signs, Reads, ReadsPath, ReadsFilter, ReadsPrimary, ReadsLinks, ReadsArguments, ReadsMore, ReadsPredicates, ReadsRelative, ReadsSteps, ReadsStep, ReadsTest}

pub chain_rank : {l a : Level} → Chain l a → rank a ≡ rank l + 1
chain_rank or = refl
chain_rank and = refl
chain_rank equality = refl
chain_rank relational = refl
chain_rank additive = refl
chain_rank multiplicative = refl
chain_rank union = refl

pub chain_operand : {l a b : Level} → Chain l a → Chain l b → a ≡ b
chain_operand or or = refl
chain_operand and and = refl
chain_operand equality equality = refl
chain_operand relational relational = refl
chain_operand additive additive = refl
chain_operand multiplicative multiplicative = refl
chain_operand union union = refl

-- what the parts begin with
pub begin_test : {scope : Scope} {ts us : List Token} {t : Test} → ReadsTest scope ts t us → head_rank ts ≡ 12
begin_test g.any_name = refl
begin_test g.in_namespace = refl
begin_test g.named = refl
begin_test (g.of_type h) = refl
begin_test (g.instruction h) = refl

pub begin_step : {scope : Scope} {ts us : List Token} {s : Step} → ReadsStep scope ts s us → head_rank ts ≡ 12
begin_step g.itself = refl
begin_step g.parent = refl
begin_step (g.on_axis h t ps) = refl
begin_step (g.on_attributes t ps) = refl
begin_step (g.on_children t ps) = begin_test t

pub begin_relative : {scope : Scope} {ts us : List Token} {ss : List Step} → ReadsRelative scope ts ss us → head_rank ts ≡ 12
begin_relative (g.steps s ss) = begin_step s

pub begin_primary : {scope : Scope} {ts us : List Token} {e : Expr} → ReadsPrimary scope ts e us → head_rank ts ≡ 12
begin_primary g.of_variable = refl
begin_primary (g.group h) = refl
begin_primary g.of_literal = refl
begin_primary g.of_number = refl
begin_primary (g.of_call h es) = refl

pub begin_filter : {scope : Scope} {ts us : List Token} {e : Expr} → ReadsFilter scope ts e us → head_rank ts ≡ 12
begin_filter (g.filter h ps) = begin_primary h

pub begin_path : {scope : Scope} {ts us : List Token} {e : Expr} → ReadsPath scope ts e us → 9 ≤ head_rank ts
begin_path g.at_root = omega arith
begin_path (g.from_root h) = omega arith
begin_path (g.below_root h) = omega arith
begin_path (g.relative h) = omega (arith, begin_relative h)
begin_path (g.from_filter h ss) = omega (arith, begin_filter h)

pub begin_operand : {scope : Scope} {ts us : List Token} {e : Expr} → Reads scope PathExpr ts e us → 9 ≤ head_rank ts
begin_operand (g.joined c r ls) = elim c [ ]
begin_operand (g.path h) = begin_path h

pub begin_union : {scope : Scope} {ts us : List Token} {e : Expr} → Reads scope UnionExpr ts e us → 9 ≤ head_rank ts
begin_union (g.joined union r ls) = begin_operand r

-- what stands behind the first part where more of it may come
pub links_stop : {scope : Scope} {l a : Level} {us vs : List Token} {ls : List Link} → Chain l a → ReadsLinks scope l a us ls vs → head_rank vs < rank l → head_rank us < rank a
links_stop c g.no_link h = omega (arith, chain_rank c)
links_stop c (g.further e r ls) h = omega (arith, chain_rank c, ap rank e)

pub predicates_stop : {scope : Scope} {us vs : List Token} {ps : List Expr} → ReadsPredicates scope us ps vs → head_rank vs < 10 → head_rank us < 11
predicates_stop g.no_predicate h = omega arith
predicates_stop (g.predicate r ps) h = omega arith

pub steps_stop : {scope : Scope} {us vs : List Token} {ss : List Step} → ReadsSteps scope us ss vs → head_rank vs < 9 → head_rank us < 10
steps_stop g.no_step h = omega arith
steps_stop (g.child r) h = omega arith
steps_stop (g.descendant r) h = omega arith

pub more_stop : {scope : Scope} {us vs : List Token} {es : List Expr} → ReadsMore scope us es vs → head_rank us < 1
more_stop g.no_more = omega arith
more_stop (g.one_more r es) = omega arith

signs_begin : {ts us : List Token} {n : ℕ} → Signs ts n us → 9 ≤ head_rank us → 0 < head_rank ts
signs_begin g.no_sign h = omega arith
signs_begin (g.sign s) h = omega arith

-- an expression begins with no token that closes a part
pub begin_expression : {scope : Scope} {l : Level} {ts us : List Token} {e : Expr} → Reads scope l ts e us → 0 < head_rank ts
begin_expression (g.joined c r ls) = begin_expression r
begin_expression (g.unary n r) = signs_begin n (begin_union r)
begin_expression (g.path r) = omega (arith, begin_path r)
