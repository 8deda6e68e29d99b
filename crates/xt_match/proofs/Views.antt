-- Steps of patterns, and lists of predicates and of steps, seen as those of the definitions.
use Rattle.std.proofs.Common.{◌≡◌, ℕ, ◌==◌, Bool, true, false, List, [], ◌∷◌, ◌++◌, map, length, reverse, refl, ap, sym, ◌∙◌, rules, arith}
use Rattle.std.specs.Prelude.{if◌then◌else◌}
use Rattle.std.proofs.lemmas.Bool.{false≢true}
use Rattle.std.proofs.lemmas.List.{map-append, reverse-append}
use Rattle.spec_document.specs.declared.axis.Axis.TheVariants as axis
use Rattle.spec_expression.specs.declared.NodeType.TheVariants as type
use Rattle.spec_expression.specs.Syntax as plain
use Rattle.spec_expression.specs.Syntax.{exprs, OfType}
use Rattle.spec_meaning.specs.Question.{Answer, nodes_in}
use Rattle.spec_meaning.specs.Question as question
use Rattle.spec_meaning.specs.Program.{Program, Give, Ask}
use Rattle.spec_meaning.specs.Context.{Context}
use Rattle.spec_transform.specs.Match.{passes, passes_predicates, passes_step, keep_alone, holds_of_one, is_given_below}
use Rattle.spec_transform.specs.Position.{read_no_position}
use Rattle.xt_syntax.specs.declared.expr.Expr.{Expr, the_lemmas}
use Rattle.xt_syntax.specs.declared.expr.Step.{Step}
use Rattle.xt_syntax.specs.declared.pattern.PatternStep.{PatternStep}
use Rattle.xt_syntax.specs.View.{expr_of, step_of, test_of}
use Rattle.xt_syntax.specs.PartView.{pattern_step_of}

pub view-Step : (s : Step) → step_of s ≡ record { axis = s.axis; test = test_of s.test; predicates = exprs (map expr_of s.predicates.items) }
view-Step s = search (rules, the_lemmas)

predicates_are : (s : Step) → (step_of s).predicates ≡ exprs (map expr_of s.predicates.items)
predicates_are s = ap (λ (t : plain.Step). t.predicates) (view-Step s)

-- where no predicate of a step reads a position, they are asked of the node alone
pub asked_alone : {N : Type 0} (same : N → N → Bool) (c : Context N) (s : Step) (n : N) → read_no_position (exprs (map expr_of s.predicates.items)) ≡ true
    → passes_predicates same c (step_of s) n ≡ keep_alone c n (exprs (map expr_of s.predicates.items))
asked_alone {N = N} same c s n h =
    ap (λ b. if b then keep_alone c n (step_of s).predicates else among) (ap read_no_position (predicates_are s) ∙ h) ∙ ap (keep_alone c n) (predicates_are s)
  where
    among : Program N Bool
    among = Ask (question.Step n axis.Parent (OfType type.Node)) (λ a. holds_of_one (is_given_below same c (step_of s) n) (nodes_in a))

-- where one does, its parent is asked for
pub asked_among : {N : Type 0} (same : N → N → Bool) (c : Context N) (s : Step) (n : N) → read_no_position (exprs (map expr_of s.predicates.items)) ≡ false
    → passes_predicates same c (step_of s) n
    ≡ Ask (question.Step n axis.Parent (OfType type.Node)) (λ a. holds_of_one (is_given_below same c (step_of s) n) (nodes_in a))
asked_among same c s n h =
    ap (λ b. if b then keep_alone c n (step_of s).predicates else Ask (question.Step n axis.Parent (OfType type.Node)) (λ a. holds_of_one (is_given_below same c (step_of s) n) (nodes_in a)))
    (ap read_no_position (predicates_are s) ∙ h)

-- the node test of a step
pub passes_so : {N : Type 0} (same : N → N → Bool) (c : Context N) (s : Step) (n : N) (a : Answer N) {b : Bool} → b ≡ passes s.axis (test_of s.test) a
    → passes_step same c (step_of s) n a ≡ (if b then passes_predicates same c (step_of s) n else Give false)
passes_so same c s n a h =
    ap (λ d. if d then passes_predicates same c (step_of s) n else Give false) (ap (λ (t : plain.Step). passes t.axis t.test a) (view-Step s) ∙ sym h)

-- the last of some steps is the first to be asked
pub last_first : (steps before : List PatternStep) (last : PatternStep) → steps ≡ before ++ last ∷ []
    → reverse (map pattern_step_of steps) ≡ pattern_step_of last ∷ reverse (map pattern_step_of before)
last_first steps before last e =
    ap (λ l. reverse (map pattern_step_of l)) e
    ∙ ap reverse (map-append pattern_step_of before (last ∷ []))
    ∙ reverse-append (map pattern_step_of before) (pattern_step_of last ∷ [])

pub none_left : (steps : List PatternStep) → length steps ≡ 0 → reverse (map pattern_step_of steps) ≡ []
none_left [] h = refl
none_left (s ∷ steps) h = absurd (omega (arith, h))

pub no_exprs_left : (es : List Expr) → length es ≡ 0 → exprs (map expr_of es) ≡ plain.no_exprs
no_exprs_left [] h = refl
no_exprs_left (e ∷ es) h = absurd (omega (arith, h))

pub last_expr : (es before : List Expr) (last : Expr) → es ≡ before ++ last ∷ [] → exprs (map expr_of before ++ expr_of last ∷ []) ≡ exprs (map expr_of es)
last_expr es before last e = ap exprs (sym (ap (map expr_of) e ∙ map-append expr_of before (last ∷ [])))
