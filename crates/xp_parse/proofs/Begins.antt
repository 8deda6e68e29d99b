-- What steps, primary expressions and filters begin with.
use Rattle.std.proofs.Common.{◌≡◌, ℕ, ◌<◌, true, false, not, Option, List, ◌∷◌, refl, ap, ◌∙◌, arith}
use Rattle.std.specs.Prelude.{is_some}
use Rattle.spec_document.specs.Name.{QName}
use Rattle.spec_document.specs.Scope.{Scope}
use Rattle.spec_expression.specs.declared.NodeType.{NodeType}
use Rattle.spec_expression.specs.Token.{Token, Open, Dot, DotDot, At, Star, AnyOf, Name}
use Rattle.spec_expression.specs.Syntax.{Test, Expr, Step}
use Rattle.spec_expression.specs.Grammar as g
use Rattle.spec_expression.specs.Grammar.{ReadsFilter, ReadsPrimary, ReadsRelative, ReadsStep, ReadsTest}
use Rattle.spec_expression.proofs.Rank.{head_rank}
use Rattle.spec_expression.proofs.Ranks.{predicates_stop, steps_stop}
use Rattle.xp_parse.specs.Reading.{Begins, left, begins_step, begins_primary}
use Rattle.xp_parse.specs.View.{name_of}
use Rattle.xp_parse.specs.declared.read.Parser.{Parser}
use Rattle.xp_parse.specs.declared.read.Head.{Head}
use Rattle.xp_parse.specs.declared.read.Head.TheVariants as heads
use Rattle.xp_parse.proofs.Places.{next_two}

-- what parts begin with
test_begins : {s : Scope} {ts us : List Token} {t : Test} → ReadsTest s ts t us → begins_step ts ≡ true
test_begins g.any_name = refl
test_begins g.in_namespace = refl
test_begins g.named = refl
test_begins (g.of_type h) = refl
test_begins (g.instruction h) = refl

step_begins : {s : Scope} {ts us : List Token} {x : Step} → ReadsStep s ts x us → begins_step ts ≡ true
step_begins g.itself = refl
step_begins g.parent = refl
step_begins (g.on_axis h t ps) = refl
step_begins (g.on_attributes t ps) = refl
step_begins (g.on_children t ps) = test_begins t

pub relative_begins : {s : Scope} {ts us : List Token} {ss : List Step} → ReadsRelative s ts ss us → begins_step ts ≡ true
relative_begins (g.steps x ss) = step_begins x

pub begins_rank : (ts : List Token) → begins_step ts ≡ true → head_rank ts ≡ 12
begins_rank (Dot ∷ ts) h = refl
begins_rank (DotDot ∷ ts) h = refl
begins_rank (At ∷ ts) h = refl
begins_rank (Star ∷ ts) h = refl
begins_rank (AnyOf p ∷ ts) h = refl
begins_rank (Name q ∷ ts) h = refl
begins_rank _ h = cc

pub primary_begins : {s : Scope} {ts us : List Token} {e : Expr} → ReadsPrimary s ts e us → begins_primary ts ≡ true
primary_begins g.of_variable = refl
primary_begins (g.group h) = refl
primary_begins g.of_literal = refl
primary_begins g.of_number = refl
primary_begins (g.of_call h es) = ap (λ (o : Option NodeType). not (is_some o)) h

pub filter_begins : {s : Scope} {ts us : List Token} {e : Expr} → ReadsFilter s ts e us → begins_primary ts ≡ true
filter_begins (g.filter h ps) = primary_begins h

name_no_primary : (q : QName) (ts : List Token) → head_rank ts < 11 → begins_primary (Name q ∷ ts) ≡ false
name_no_primary q (Open ∷ ts) h = absurd (omega arith)
name_no_primary q _ h = refl

test_no_primary : {s : Scope} {ts us : List Token} {t : Test} → ReadsTest s ts t us → head_rank us < 11 → begins_primary ts ≡ false
test_no_primary g.any_name h = refl
test_no_primary g.in_namespace h = refl
test_no_primary (g.named {ts = ts} {q = q}) h = name_no_primary q ts h
test_no_primary (g.of_type e) h = ap (λ (o : Option NodeType). not (is_some o)) e
test_no_primary (g.instruction e) h = ap (λ (o : Option NodeType). not (is_some o)) e

step_no_primary : {s : Scope} {ts us : List Token} {x : Step} → ReadsStep s ts x us → head_rank us < 10 → begins_primary ts ≡ false
step_no_primary g.itself h = refl
step_no_primary g.parent h = refl
step_no_primary (g.on_axis e t ps) h = refl
step_no_primary (g.on_attributes t ps) h = refl
step_no_primary (g.on_children t ps) h = test_no_primary t (predicates_stop ps h)

pub relative_no_primary : {s : Scope} {ts us : List Token} {ss : List Step} → ReadsRelative s ts ss us → head_rank us < 9 → begins_primary ts ≡ false
relative_no_primary (g.steps x ss) h = step_no_primary x (steps_stop ss h)

-- how a primary expression begins
pub head_begins : (p : Parser) (at : ℕ) (h : Head) → Begins p at h → begins_primary (left p at) ≡ true
head_begins p at (heads.Variable name) b = ap begins_primary b.is
head_begins p at heads.Group b = ap begins_primary b.is
head_begins p at (heads.Literal content) b = ap begins_primary b.is
head_begins p at (heads.Number value) b = ap begins_primary b.is
head_begins p at (heads.Call name) b = ap begins_primary (next_two p at (Name (name_of name)) Open b.0 b.1) ∙ ap (λ (o : Option NodeType). not (is_some o)) b.2
