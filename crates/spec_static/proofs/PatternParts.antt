-- The parts of patterns: steps of patterns as steps of expressions, what parts begin with, and what may follow them.
use Rattle.std.proofs.Common.{◌≡◌, ℕ, ◌<◌, true, List, ◌∷◌, Option, None, Some, false, refl, ap, ◌∙◌, arith}
use Rattle.std.specs.Prelude.{codes, bytes_eq}
use Rattle.std.proofs.lemmas.Slice.Eq.{bytes_eq-Decides}
use Rattle.spec_document.specs.Name.{QName, Expanded}
use Rattle.spec_document.specs.Scope.{Scope}
use Rattle.spec_expression.specs.declared.NodeType.{NodeType}
use Rattle.spec_expression.specs.Token.{Token, Open, Name}
use Rattle.spec_expression.specs.Syntax.{Test, Step}
use Rattle.spec_expression.specs.Grammar as g
use Rattle.spec_expression.specs.Grammar.{type_of, type_named, ReadsTest, ReadsStep}
use Rattle.spec_expression.proofs.Rank.{head_rank}
use Rattle.spec_expression.proofs.Ranks.{begin_step, predicates_stop}
use Rattle.spec_stylesheet.specs.declared.pattern.Separator.{Separator}
use Rattle.spec_stylesheet.specs.declared.pattern.Start.{Start}
use Rattle.spec_stylesheet.specs.Pattern.{PatternStep, Alternative}
use Rattle.spec_static.specs.PatternGrammar as p
use Rattle.spec_static.specs.PatternGrammar.{is_word, is_pattern_axis, ReadsStepPattern, ReadsFurtherSteps, ReadsRelativePattern, ReadsHead, ReadsOthers}

-- a step of a pattern is a step of the child or the attribute axis
pub as_step : {s : Scope} {ts us : List Token} {x : Step} → ReadsStepPattern s ts x us → ReadsStep s ts x us
as_step (p.on_axis e a t ps) = g.on_axis e t ps
as_step (p.on_attributes t ps) = g.on_attributes t ps
as_step (p.on_children t ps) = g.on_children t ps

pub step_axis : {s : Scope} {ts us : List Token} {x : Step} → ReadsStepPattern s ts x us → is_pattern_axis x.axis ≡ true
step_axis (p.on_axis e a t ps) = a
step_axis (p.on_attributes t ps) = refl
step_axis (p.on_children t ps) = refl

pub as_step_pattern : {s : Scope} {ts us : List Token} {x : Step} → ReadsStep s ts x us → is_pattern_axis x.axis ≡ true → ReadsStepPattern s ts x us
as_step_pattern g.itself a = cc
as_step_pattern g.parent a = cc
as_step_pattern (g.on_axis e t ps) a = p.on_axis e a t ps
as_step_pattern (g.on_attributes t ps) a = p.on_attributes t ps
as_step_pattern (g.on_children t ps) a = p.on_children t ps

-- what may follow the first part where more of it may come
pub further_stop : {s : Scope} {us vs : List Token} {ss : List PatternStep} → ReadsFurtherSteps s us ss vs → head_rank vs < 9 → head_rank us < 10
further_stop p.no_further h = omega arith
further_stop (p.child r ss) h = omega arith
further_stop (p.descendant r ss) h = omega arith

pub others_stop : {s : Scope} {us vs : List Token} {others : List Alternative} → ReadsOthers s us others vs → head_rank vs < 8 → head_rank us < 9
others_stop p.no_other h = omega arith
others_stop (p.other r others) h = omega arith

pub begin_relative : {s : Scope} {before : Separator} {ts us : List Token} {ss : List PatternStep} → ReadsRelativePattern s before ts ss us → head_rank ts ≡ 12
begin_relative (p.steps r ss) = begin_step (as_step r)

pub begin_head : {s : Scope} {ts us : List Token} {start : Start (List ℕ) Expanded} → ReadsHead s ts start us → head_rank ts ≡ 12
begin_head (p.of_id e) = refl
begin_head (p.of_key e) = refl

-- `id` and `key` are no node types, so no step begins with one of them and `(`
by_word : (word local : List ℕ) (prefix : Option (List ℕ)) → (elim prefix [ None ↦ bytes_eq local word | Some p ↦ false ]) ≡ true → type_named word ≡ None
    → (elim prefix as (λ _. Option NodeType) [ None ↦ type_named local | Some p ↦ None ]) ≡ None
by_word word local None h e = ap type_named ((bytes_eq-Decides local word).0 h) ∙ e
by_word word local (Some prefix) h e = refl

pub id_is_no_type : (q : QName) → is_word (codes "id") q ≡ true → type_of q ≡ None
unfolding type_named
id_is_no_type q h = by_word (codes "id") q.local q.prefix h refl

pub key_is_no_type : (q : QName) → is_word (codes "key") q ≡ true → type_of q ≡ None
unfolding type_named
key_is_no_type q h = by_word (codes "key") q.local q.prefix h refl

call_is_no_test : {s : Scope} {q : QName} {ts us : List Token} {t : Test} → type_of q ≡ None → ReadsTest s (Name q ∷ Open ∷ ts) t us → head_rank us < 11 → ⊥
call_is_no_test e g.named h = omega arith
call_is_no_test e (g.of_type f) h = cc
call_is_no_test e (g.instruction f) h = cc

call_is_no_step : {s : Scope} {q : QName} {ts us : List Token} {x : Step} → type_of q ≡ None → ReadsStepPattern s (Name q ∷ Open ∷ ts) x us → head_rank us < 10 → ⊥
call_is_no_step e (p.on_children t ps) h = call_is_no_test e t (predicates_stop ps h)

pub call_is_no_path : {s : Scope} {before : Separator} {q : QName} {ts us : List Token} {ss : List PatternStep} → type_of q ≡ None
    → ReadsRelativePattern s before (Name q ∷ Open ∷ ts) ss us → head_rank us < 9 → ⊥
call_is_no_path e (p.steps r ss) h = call_is_no_step e r (further_stop ss h)

pub head_is_no_path : {s : Scope} {before : Separator} {ts us vs : List Token} {ss : List PatternStep} {start : Start (List ℕ) Expanded}
    → ReadsRelativePattern s before ts ss us → head_rank us < 9 → ReadsHead s ts start vs → ⊥
head_is_no_path r h (p.of_id {q = q} e) = call_is_no_path (id_is_no_type q e) r h
head_is_no_path r h (p.of_key {q = q} e) = call_is_no_path (key_is_no_type q e) r h
