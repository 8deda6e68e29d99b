-- Variables that are referred to one after another.
use Rattle.std.proofs.Common.{◌≡◌, List, [], ◌∷◌, ◌++◌, map, refl, sym, ap, ◌∙◌}
use Rattle.std.specs.List.{flat_map}
use Rattle.spec_document.specs.Name.{Expanded}
use Rattle.spec_expression.specs.Syntax as plain
use Rattle.spec_expression.specs.Syntax.{exprs, links, steps}
use Rattle.spec_meaning.specs.Context.{Context}
use Rattle.spec_meaning.specs.Meaning.{meaning}
use Rattle.spec_meaning.specs.Program.{then}
use Rattle.spec_transform.specs.Numbering.{names_in, names_in_all, names_in_links, names_in_steps, names_in_alternative, referred_to}
use Rattle.xt_syntax.specs.declared.expr.Expr.{Expr}
use Rattle.xt_syntax.specs.declared.expr.Link.{Link}
use Rattle.xt_syntax.specs.declared.expr.Step.{Step}
use Rattle.xt_syntax.specs.declared.pattern.Alternative.{Alternative}
use Rattle.xt_syntax.specs.declared.pattern.PatternStep.{PatternStep}
use Rattle.xt_syntax.specs.PartView.{alternative_of, pattern_step_of}
use Rattle.xt_syntax.specs.View.{expr_of, link_of, step_of}
use Rattle.xt_match.proofs.Together.{then_then}
use Rattle.xt_number.proofs.Views.{operand-of, predicates-of}

-- first those, and then the others
pub both : {N : Type 0} (names others : List Expanded) (c : Context N) → referred_to (names ++ others) c ≡ (then) (referred_to names c) (λ done. referred_to others c)
unfolding then
both [] others c = refl
both (name ∷ names) others c =
    ap (λ more. (then) (meaning (plain.variable name) c) more) (λ i v. both names others c i)
    ∙ sym (then_then (meaning (plain.variable name) c) (λ v. referred_to names c) (λ done. referred_to others c))

-- ---- Turns of the loops
pub turn_of_all : {N : Type 0} (c : Context N) (e : Expr) (es : List Expr)
    → referred_to (names_in_all (exprs (map expr_of (e ∷ es)))) c
    ≡ (then) (referred_to (names_in (expr_of e)) c) (λ done. referred_to (names_in_all (exprs (map expr_of es))) c)
turn_of_all c e es = both (names_in (expr_of e)) (names_in_all (exprs (map expr_of es))) c

pub turn_of_links : {N : Type 0} (c : Context N) (l : Link) (ls : List Link)
    → referred_to (names_in_links (links (map link_of (l ∷ ls)))) c
    ≡ (then) (referred_to (names_in (expr_of l.operand)) c) (λ done. referred_to (names_in_links (links (map link_of ls))) c)
turn_of_links c l ls =
    ap (λ e. referred_to (names_in e ++ names_in_links (links (map link_of ls))) c) (operand-of l)
    ∙ both (names_in (expr_of l.operand)) (names_in_links (links (map link_of ls))) c

pub turn_of_steps : {N : Type 0} (c : Context N) (s : Step) (ss : List Step)
    → referred_to (names_in_steps (steps (map step_of (s ∷ ss)))) c
    ≡ (then) (referred_to (names_in_all (exprs (map expr_of s.predicates.items))) c) (λ done. referred_to (names_in_steps (steps (map step_of ss))) c)
turn_of_steps c s ss =
    ap (λ ps. referred_to (names_in_all ps ++ names_in_steps (steps (map step_of ss))) c) (predicates-of s)
    ∙ both (names_in_all (exprs (map expr_of s.predicates.items))) (names_in_steps (steps (map step_of ss))) c

-- in the steps of an alternative
abbrev pub names_in_pattern_steps : List PatternStep → List Expanded
names_in_pattern_steps ss = flat_map (λ s. names_in_all s.step.predicates) (map pattern_step_of ss)

pub turn_of_pattern_steps : {N : Type 0} (c : Context N) (s : PatternStep) (ss : List PatternStep)
    → referred_to (names_in_pattern_steps (s ∷ ss)) c
    ≡ (then) (referred_to (names_in_all (exprs (map expr_of s.step.predicates.items))) c) (λ done. referred_to (names_in_pattern_steps ss) c)
turn_of_pattern_steps c s ss =
    ap (λ ps. referred_to (names_in_all ps ++ names_in_pattern_steps ss) c) (predicates-of s.step)
    ∙ both (names_in_all (exprs (map expr_of s.step.predicates.items))) (names_in_pattern_steps ss) c

pub turn_of_alternatives : {N : Type 0} (c : Context N) (a : Alternative) (alternatives : List Alternative)
    → referred_to (flat_map names_in_alternative (map alternative_of (a ∷ alternatives))) c
    ≡ (then) (referred_to (names_in_pattern_steps a.steps.items) c) (λ done. referred_to (flat_map names_in_alternative (map alternative_of alternatives)) c)
turn_of_alternatives c a alternatives = both (names_in_pattern_steps a.steps.items) (flat_map names_in_alternative (map alternative_of alternatives)) c
