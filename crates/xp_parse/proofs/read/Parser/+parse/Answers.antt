use Rattle.std.proofs.Common.{◌≡◌, ◌∙◌, ◌+◌, List, [], ◌∷◌, ◌++◌, map, None, refl, ap, sym, subst, append_assoc, add-one, arith}
use Rattle.std.specs.Str.{chars}
use Rattle.std.proofs.lemmas.List.{map-append}
use Rattle.spec_document.specs.Name.{Expanded}
use Rattle.spec_expression.specs.declared.Operator.TheVariants.{Subtract}
use Rattle.spec_expression.specs.declared.Level.{Level}
use Rattle.spec_expression.specs.declared.Level.TheVariants.{AndExpr, EqualityExpr, RelationalExpr, AdditiveExpr, MultiplicativeExpr, UnaryExpr, PathExpr}
use Rattle.spec_expression.proofs.Rank.{rank}
use Rattle.spec_expression.proofs.Ranks.{chain_rank}
use Rattle.spec_expression.specs.Token.{Token, Open, Close, OpenSquare, CloseSquare, Comma, Slash}
use Rattle.spec_expression.specs.Token.{SlashSlash, Dot, DotDot, Binary, Name, Variable, Literal, Number}
use Rattle.spec_expression.specs.Syntax as tree
use Rattle.spec_expression.specs.Grammar.{Chain, or, and, equality, relational, additive, multiplicative}
use Rattle.spec_expression.specs.Grammar.{union, Signs, no_sign, no_link, type_of, expanded, ReadsPrimary}
use Rattle.xt_syntax.specs.View.{expr_of, step_of}
use Rattle.xp_parse.specs.View.{name_of}
use Rattle.xp_parse.specs.declared.read.Head.{Head}
use Rattle.xp_parse.specs.Reading.{left, Begins, Read, Nothing, IsNext}
use Rattle.xp_parse.proofs.Views.{view-Number, view-Literal, view-Variable, view-Call, view-Root, view-Here, view-Link, view-Step}
use Rattle.xp_parse.proofs.Lists.{begin, ended, failed, grow_none, grow, behind_nothing_read, behind_nothing_fail, behind_read, behind_fail}
use Rattle.xp_parse.proofs.Operators.{link_more, link_fail, links_end, chain_read, chain_fail, chain_fail_later}
use Rattle.xp_parse.proofs.Operators.{sign_more, unary_read, unary_fail, path_read, path_fail, rank_le}
use Rattle.xp_parse.proofs.Places.{at_read, at_nothing, at_continues, to_next, next_two}
use Rattle.xp_parse.proofs.Begins.{head_begins}
use Rattle.xp_parse.proofs.Paths.{root_alone, root_read, root_fail, below_root_read, below_root_fail}
use Rattle.xp_parse.proofs.Paths.{relative_read, relative_fail, from_filter_read, from_filter_fail, from_filter_fail_later}
use Rattle.xp_parse.proofs.Primaries.{filter_read, filter_fail, filter_fail_later, variable_read, literal_read}
use Rattle.xp_parse.proofs.Primaries.{number_read, group_read, group_fail, group_unclosed, call_read, call_fail}
use Rattle.xp_parse.proofs.Bracketed.{no_argument_read, arguments_read, arguments_fail, arguments_fail_later, arguments_end, arguments_unclosed}
use Rattle.xp_parse.proofs.Bracketed.{argument_more, argument_fail, predicate_more, predicate_fail, predicate_unclosed, predicates_end}
use Rattle.xp_parse.proofs.Steps.{child_more, child_fail, descendant_more, descendant_fail, steps_end, steps_fail}
use Rattle.xp_parse.proofs.Steps.{relative_from, dot_read, dots_read, step_read, step_fail, step_fail_later, axis_fail}
use Rattle.xp_parse.proofs.Calls.{exits, exits_refused, found, refused}
use Rattle.xp_parse.proofs.read.Parser.+parse.Goals as goal

pub arguments-returns-then-next_is-clause-answer : goal.arguments-returns-then-next_is-clause-answer
arguments-returns-then-next_is-clause-answer t c =
    let n : IsNext c.args.self.now c.args.at.now Close = c.if-next_is.ensures in
    found (ap (map expr_of) c.new-arguments.ensures.items) (at_read n no_argument_read)

pub arguments-returns-in_err-first-clause-answer : goal.arguments-returns-in_err-first-clause-answer
arguments-returns-in_err-first-clause-answer t c = exits _ c.from_residual.ensures.1 c.in_err-first.ensures.answer (λ f. arguments_fail c.if-next_is.ensures f)

pub arguments-loop-at-init : goal.arguments-loop-at-init
arguments-loop-at-init t c = record { so_far = grow_none _ _ _ _; later = c.in_ok-first.ensures.progress; within = c.in_ok-first.ensures.within }

pub arguments-returns-in_err-argument-clause-answer : goal.arguments-returns-in_err-argument-clause-answer
arguments-returns-in_err-argument-clause-answer t c =
    let n : IsNext c.args.self.now c.loop-at.at Comma = c.loop-at-test.ensures in
    let g = c.loop-at.invariant.so_far in
    exits _ c.from_residual-in_err-argument.ensures.1 c.in_err-argument.ensures.answer
    (λ f. arguments_fail_later c.if-next_is.ensures c.in_ok-first.ensures.answer.answer (failed _ _ _ _ _ g.so_far (at_nothing n (argument_fail f))))

pub arguments-loop-at-preserved : goal.arguments-loop-at-preserved
arguments-loop-at-preserved t c =
    let n : IsNext c.args.self.now c.loop-at.at Comma = c.loop-at-test.ensures in
    let g = c.loop-at.invariant.so_far in
    record {
      so_far = rw (c.in_ok-push-2.ensures.items, map-append) (grow _ g (argument_more c.in_ok-argument.ensures.answer.answer (at_continues n g.so_far)));
      later = omega (arith, c.loop-at.invariant.later, c.in_ok-argument.ensures.progress);
      within = c.in_ok-argument.ensures.within;
    }

pub arguments-returns-then-not-next_is-clause-answer : goal.arguments-returns-then-not-next_is-clause-answer
arguments-returns-then-not-next_is-clause-answer t c =
    let g = c.loop-at.invariant.so_far in
    refused (arguments_fail_later c.if-next_is.ensures c.in_ok-first.ensures.answer.answer
    (failed _ _ _ _ _ g.so_far (arguments_unclosed c.loop-at-test.ensures c.if-not-next_is.ensures)))

pub arguments-returns-clause-answer : goal.arguments-returns-clause-answer
arguments-returns-clause-answer t c =
    let n : IsNext c.args.self.now c.loop-at.at Close = c.if-not-next_is.ensures in
    let g = c.loop-at.invariant.so_far in
    let front : map expr_of c.push.new.self.items ≡ expr_of c.in_ok-first.first ∷ [] = rw (c.in_ok-push.ensures.items, c.new-arguments.ensures.items) refl in
    found (g.whole ∙ ap (λ (l : List tree.Expr). l ++ g.rest) front)
    (arguments_read c.if-next_is.ensures c.in_ok-first.ensures.answer.answer (arguments_end (at_continues n g.so_far)))

pub filter-returns-in_err-base-clause-answer : goal.filter-returns-in_err-base-clause-answer
filter-returns-in_err-base-clause-answer t c = exits _ c.from_residual.ensures.1 c.in_err-base.ensures.answer (λ n. filter_fail n)

pub filter-returns-in_err-predicates-clause-answer : goal.filter-returns-in_err-predicates-clause-answer
filter-returns-in_err-predicates-clause-answer t c =
    exits _ c.from_residual-in_err-predicates.ensures.1 c.in_err-predicates.ensures.answer (λ n. filter_fail_later c.in_ok-base.ensures.answer.answer n)

pub filter-returns-clause-answer : goal.filter-returns-clause-answer
filter-returns-clause-answer t c = found c.in_ok-filtered.ensures (filter_read c.in_ok-base.ensures.answer.answer c.in_ok-predicates.ensures.answer.answer)

pub path-returns-then-not-begins_step-clause-answer : goal.path-returns-then-not-begins_step-clause-answer
path-returns-then-not-begins_step-clause-answer t c =
    let n : IsNext c.args.self.now c.args.at.now Slash = c.if-next_is.ensures in
    found view-Root (path_read (at_read n (root_alone (sym c.begins_step.ensures ∙ c.if-not-begins_step.true))))

pub path-returns-in_err-steps-clause-answer : goal.path-returns-in_err-steps-clause-answer
path-returns-in_err-steps-clause-answer t c =
    let n : IsNext c.args.self.now c.args.at.now Slash =
    c.if-next_is.ensures in exits _ c.from_residual.ensures.1 (rw c.new.ensures.items at c.in_err-steps.ensures.answer)
    (λ f. path_fail (at_nothing n (root_fail (sym c.begins_step.ensures ∙ c.if-not-begins_step.false) (behind_nothing_fail f))))

pub path-returns-then-next_is-clause-answer : goal.path-returns-then-next_is-clause-answer
path-returns-then-next_is-clause-answer t c =
    let n : IsNext c.args.self.now c.args.at.now Slash = c.if-next_is.ensures in
    found (c.in_ok-stepped.ensures ∙ ap (λ (e : tree.Expr). tree.stepped e (map step_of c.in_ok-steps.steps.items)) view-Root)
    (path_read (at_read n (root_read (sym c.begins_step.ensures ∙ c.if-not-begins_step.false)
    (behind_nothing_read (rw c.new.ensures.items at c.in_ok-steps.ensures.answer.answer)))))

pub path-returns-in_err-steps-2-clause-answer : goal.path-returns-in_err-steps-2-clause-answer
path-returns-in_err-steps-2-clause-answer t c =
    let n : IsNext c.args.self.now c.args.at.now SlashSlash = c.if-next_is-2.ensures in
    exits _ c.from_residual-in_err-steps-2.ensures.1
    (rw (c.in_ok-push.ensures.items, c.new-descendants.ensures.items, c.node_on.ensures) at c.in_err-steps-2.ensures.answer)
    (λ f. path_fail (at_nothing n (below_root_fail f)))

pub path-returns-then-next_is-2-clause-answer : goal.path-returns-then-next_is-2-clause-answer
path-returns-then-next_is-2-clause-answer t c =
    let n : IsNext c.args.self.now c.args.at.now SlashSlash = c.if-next_is-2.ensures in
    found (c.in_ok-stepped-2.ensures ∙ ap (λ (e : tree.Expr). tree.stepped e (map step_of c.in_ok-steps-2.steps.items)) view-Root)
    (path_read (at_read n (below_root_read
    (rw (c.in_ok-push.ensures.items, c.new-descendants.ensures.items, c.node_on.ensures) at c.in_ok-steps-2.ensures.answer.answer))))

pub path-returns-in_err-base-in-Some-clause-answer : goal.path-returns-in_err-base-in-Some-clause-answer
path-returns-in_err-base-in-Some-clause-answer t c =
    exits _ c.from_residual-in_err-base-in-Some.ensures.1 c.in_err-base-in-Some.ensures.answer
    (λ f. path_fail (from_filter_fail (head_begins c.args.self.now c.args.at.now c.in-Some.head c.in-Some.ensures) f))

pub path-returns-in_err-steps-in-Some-clause-answer : goal.path-returns-in_err-steps-in-Some-clause-answer
path-returns-in_err-steps-in-Some-clause-answer t c =
    exits _ c.from_residual-in_err-steps-in-Some.ensures.1 (rw c.new-in-Some.ensures.items at c.in_err-steps-in-Some.ensures.answer)
    (λ f. path_fail (from_filter_fail_later (head_begins c.args.self.now c.args.at.now c.in-Some.head c.in-Some.ensures)
    c.in_ok-base-in-Some.ensures.answer.answer (behind_nothing_fail f)))

pub path-returns-in_err-steps-in-None-clause-answer : goal.path-returns-in_err-steps-in-None-clause-answer
path-returns-in_err-steps-in-None-clause-answer t c =
    exits _ c.from_residual-in_err-steps-in-None.ensures.1 (rw c.new-in-None.ensures.items at c.in_err-steps-in-None.ensures.answer)
    (λ f. path_fail (relative_fail c.if-next_is.ensures c.if-next_is-2.ensures c.in-None.ensures (behind_nothing_fail f)))

pub path-returns-in_ok-stepped-in-Some-clause-answer : goal.path-returns-in_ok-stepped-in-Some-clause-answer
path-returns-in_ok-stepped-in-Some-clause-answer t c =
    found c.in_ok-stepped-in-Some.ensures
    (path_read (from_filter_read (head_begins c.args.self.now c.args.at.now c.in-Some.head c.in-Some.ensures) c.in_ok-base-in-Some.ensures.answer.answer
    (behind_nothing_read (rw c.new-in-Some.ensures.items at c.in_ok-steps-in-Some.ensures.answer.answer))))

pub path-returns-in_ok-stepped-in-None-clause-answer : goal.path-returns-in_ok-stepped-in-None-clause-answer
path-returns-in_ok-stepped-in-None-clause-answer t c =
    found (c.in_ok-stepped-in-None.ensures ∙ ap (λ (e : tree.Expr). tree.stepped e (map step_of c.in_ok-steps-in-None.steps.items)) view-Here)
    (path_read (relative_read c.in-None.ensures (behind_nothing_read (rw c.new-in-None.ensures.items at c.in_ok-steps-in-None.ensures.answer.answer))))

pub predicates-loop-at-init : goal.predicates-loop-at-init
predicates-loop-at-init t c = record { so_far = rw c.new-predicates.ensures.items (begin _ _ _); later = omega arith; within = c.requires }

pub predicates-returns-in_err-predicate-clause-answer : goal.predicates-returns-in_err-predicate-clause-answer
predicates-returns-in_err-predicate-clause-answer t c =
    let n : IsNext c.args.self.now c.loop-at.at OpenSquare = c.loop-at-test.ensures in
    exits _ c.from_residual.ensures.1 c.in_err-predicate.ensures.answer (λ f. failed _ _ _ _ _ c.loop-at.invariant.so_far (at_nothing n (predicate_fail f)))

pub predicates-returns-then-not-next_is-clause-answer : goal.predicates-returns-then-not-next_is-clause-answer
predicates-returns-then-not-next_is-clause-answer t c =
    let n : IsNext c.args.self.now c.loop-at.at OpenSquare = c.loop-at-test.ensures in
    refused (failed _ _ _ _ _ c.loop-at.invariant.so_far (at_nothing n (predicate_unclosed c.in_ok-predicate.ensures.answer.answer c.if-not-next_is.ensures)))

pub predicates-loop-at-preserved : goal.predicates-loop-at-preserved
predicates-loop-at-preserved t c =
    let n : IsNext c.args.self.now c.loop-at.at OpenSquare = c.loop-at-test.ensures in
    let m : IsNext c.args.self.now c.expression.new.at CloseSquare = c.if-not-next_is.ensures in
    record {
      so_far = rw (c.in_ok-push.ensures.items, map-append)
          (predicate_more (to_next m c.in_ok-predicate.ensures.answer.answer) (at_continues n c.loop-at.invariant.so_far));
      later = omega (arith, c.loop-at.invariant.later, c.in_ok-predicate.ensures.progress);
      within = omega (arith, m.within);
    }

pub predicates-returns-clause-answer : goal.predicates-returns-clause-answer
predicates-returns-clause-answer t c = found refl (predicates_end c.loop-at-test.ensures c.loop-at.invariant.so_far)

pub primary-returns-then-not-next_is-clause-answer : goal.primary-returns-then-not-next_is-clause-answer
primary-returns-then-not-next_is-clause-answer t c =
    let n : IsNext c.args.self.now c.args.at.now Open = subst (λ (h : Head). Begins c.args.self.now c.args.at.now h) c.in-Group.is c.requires in
    refused (at_nothing n (group_unclosed c.in_ok-inner-in-Group.ensures.answer.answer c.if-not-next_is.ensures))

pub primary-returns-in_err-arguments-in-Call-clause-answer : goal.primary-returns-in_err-arguments-in-Call-clause-answer
primary-returns-in_err-arguments-in-Call-clause-answer t c =
    let q = name_of c.in-Call.name in
    let b : IsNext c.args.self.now c.args.at.now (Name q) × IsNext c.args.self.now (c.args.at.now + 1) Open × (type_of q ≡ None) =
    subst (λ (h : Head). Begins c.args.self.now c.args.at.now h) c.in-Call.is c.requires in
    let e = sym (next_two c.args.self.now c.args.at.now (Name q) Open b.0 b.1) in
    exits _ c.from_residual-in_err-arguments-in-Call.ensures.1 c.in_err-arguments-in-Call.ensures.answer
    (λ f. subst (λ (ts : List Token). Nothing (ReadsPrimary c.args.self.now.scope.now) 11 ts) e (call_fail f))

pub primary-returns-in_ok-variable-in-Variable-clause-answer : goal.primary-returns-in_ok-variable-in-Variable-clause-answer
primary-returns-in_ok-variable-in-Variable-clause-answer t c =
    let n : IsNext c.args.self.now c.args.at.now (Variable (name_of c.in-Variable.name)) =
    subst (λ (h : Head). Begins c.args.self.now c.args.at.now h) c.in-Variable.is c.requires in
    found (view-Variable _ ∙ ap tree.variable c.in_ok-variable-in-Variable.ensures) (at_read n variable_read)

pub primary-returns-in_ok-text-in-Literal-clause-answer : goal.primary-returns-in_ok-text-in-Literal-clause-answer
primary-returns-in_ok-text-in-Literal-clause-answer t c =
    let n : IsNext c.args.self.now c.args.at.now (Literal (chars c.in-Literal.content.now)) =
    subst (λ (h : Head). Begins c.args.self.now c.args.at.now h) c.in-Literal.is c.requires in
    found (view-Literal _ ∙ ap tree.literal c.in_ok-text-in-Literal.ensures) (at_read n literal_read)

pub primary-returns-in-Number-clause-answer : goal.primary-returns-in-Number-clause-answer
primary-returns-in-Number-clause-answer t c =
    let n : IsNext c.args.self.now c.args.at.now (Number c.in-Number.value) =
    subst (λ (h : Head). Begins c.args.self.now c.args.at.now h) c.in-Number.is c.requires in
    found (view-Number _ ∙ ap tree.number c.unwrap_or.ensures) (at_read n number_read)

pub primary-returns-else-not-next_is-clause-answer : goal.primary-returns-else-not-next_is-clause-answer
primary-returns-else-not-next_is-clause-answer t c =
    let n : IsNext c.args.self.now c.args.at.now Open = subst (λ (h : Head). Begins c.args.self.now c.args.at.now h) c.in-Group.is c.requires in
    let m : IsNext c.args.self.now c.expression.new.at Close = c.if-not-next_is.ensures in
    found refl (at_read n (group_read (to_next m c.in_ok-inner-in-Group.ensures.answer.answer)))

pub primary-returns-in_ok-arguments-in-Call-clause-answer : goal.primary-returns-in_ok-arguments-in-Call-clause-answer
primary-returns-in_ok-arguments-in-Call-clause-answer t c =
    let q = name_of c.in-Call.name in
    let b : IsNext c.args.self.now c.args.at.now (Name q) × IsNext c.args.self.now (c.args.at.now + 1) Open × (type_of q ≡ None) =
    subst (λ (h : Head). Begins c.args.self.now c.args.at.now h) c.in-Call.is c.requires in
    let e = sym (next_two c.args.self.now c.args.at.now (Name q) Open b.0 b.1) in
    found (view-Call _ _ ∙ ap (λ (k : Expanded). tree.call k (tree.exprs (map expr_of c.in_ok-arguments-in-Call.arguments.items)))
    c.in_ok-function-in-Call.ensures)
    (subst (λ (ts : List Token). Read (ReadsPrimary c.args.self.now.scope.now) 11 ts
    (tree.call (expanded c.args.self.now.scope.now q) (tree.exprs (map expr_of c.in_ok-arguments-in-Call.arguments.items)))
    (left c.args.self.now c.arguments.new.at)) e (call_read b.2 c.in_ok-arguments-in-Call.ensures.answer.answer))

pub relative-returns-in_err-step-clause-answer : goal.relative-returns-in_err-step-clause-answer
relative-returns-in_err-step-clause-answer t c = exits _ c.from_residual.ensures.1 c.in_err-step.ensures.answer (λ n. behind_fail _ (steps_fail n))

pub relative-returns-clause-answer : goal.relative-returns-clause-answer
relative-returns-clause-answer t c =
    relative_from c.steps.result c.in_ok-step.ensures.answer.answer (rw (c.in_ok-push.ensures.items, map-append) at c.steps.ensures.answer)

pub step-returns-then-next_is-clause-answer : goal.step-returns-then-next_is-clause-answer
step-returns-then-next_is-clause-answer t c =
    let n : IsNext c.args.self.now c.args.at.now Dot = c.if-next_is.ensures in found c.node_on.ensures (at_read n dot_read)

pub step-returns-then-next_is-2-clause-answer : goal.step-returns-then-next_is-2-clause-answer
step-returns-then-next_is-2-clause-answer t c =
    let n : IsNext c.args.self.now c.args.at.now DotDot = c.if-next_is-2.ensures in found c.node_on-then-next_is-2.ensures (at_read n dots_read)

pub step-returns-in_err-axis-clause-answer : goal.step-returns-in_err-axis-clause-answer
step-returns-in_err-axis-clause-answer t c =
    exits_refused _ c.from_residual.ensures.1 (let e = c.in_err-axis.ensures.err.0 in cc) (axis_fail c.in_err-axis.ensures.err.1)

pub step-returns-in_err-test-clause-answer : goal.step-returns-in_err-test-clause-answer
step-returns-in_err-test-clause-answer t c =
    exits _ c.from_residual-in_err-test.ensures.1 c.in_err-test.ensures.answer (λ n. step_fail c.in_ok-axis.ensures.ok n)

pub step-returns-in_err-predicates-clause-answer : goal.step-returns-in_err-predicates-clause-answer
step-returns-in_err-predicates-clause-answer t c =
    exits _ c.from_residual-in_err-predicates.ensures.1 c.in_err-predicates.ensures.answer
    (λ n. step_fail_later c.in_ok-axis.ensures.ok c.in_ok-test.ensures.answer.answer n)

pub step-returns-clause-answer : goal.step-returns-clause-answer
step-returns-clause-answer t c =
    found (view-Step _ _ _) (step_read c.in_ok-axis.ensures.ok c.in_ok-test.ensures.answer.answer c.in_ok-predicates.ensures.answer.answer)

pub steps-loop-at-init : goal.steps-loop-at-init
steps-loop-at-init t c = record { so_far = grow_none _ _ _ _; later = omega arith; within = c.requires }

pub steps-returns-in_err-step-clause-answer : goal.steps-returns-in_err-step-clause-answer
steps-returns-in_err-step-clause-answer t c =
    let n : IsNext c.args.self.now c.loop-at.at Slash = c.if-next_is.ensures in
    let g = c.loop-at.invariant.so_far in
    exits _ c.from_residual.ensures.1 c.in_err-step.ensures.answer (λ f. behind_fail _ (failed _ _ _ _ _ g.so_far (at_nothing n (child_fail f))))

pub steps-loop-at-preserved-in-Continue-branch-2 : goal.steps-loop-at-preserved-in-Continue-branch-2
steps-loop-at-preserved-in-Continue-branch-2 t c =
    let n : IsNext c.args.self.now c.loop-at.at Slash = c.if-next_is.ensures in
    let g = c.loop-at.invariant.so_far in
    record {
      so_far = rw (c.in_ok-push.ensures.items, map-append) (grow _ g (child_more c.in_ok-step.ensures.answer.answer (at_continues n g.so_far)));
      later = omega (arith, c.loop-at.invariant.later, c.in_ok-step.ensures.progress);
      within = c.in_ok-step.ensures.within;
    }

pub steps-returns-in_err-step-2-clause-answer : goal.steps-returns-in_err-step-2-clause-answer
steps-returns-in_err-step-2-clause-answer t c =
    let n : IsNext c.args.self.now c.loop-at.at SlashSlash = c.if-next_is-2.ensures in
    let g = c.loop-at.invariant.so_far in
    exits _ c.from_residual-in_err-step-2.ensures.1 c.in_err-step-2.ensures.answer
    (λ f. behind_fail _ (failed _ _ _ _ _ g.so_far (at_nothing n (descendant_fail f))))

pub steps-loop-at-preserved : goal.steps-loop-at-preserved
steps-loop-at-preserved t c =
    let n : IsNext c.args.self.now c.loop-at.at SlashSlash = c.if-next_is-2.ensures in
    let g = c.loop-at.invariant.so_far in
    record {
      so_far = rw (c.in_ok-push-3.ensures.items, c.in_ok-push-2.ensures.items, append_assoc, map-append, c.node_on.ensures)
          (grow _ g (descendant_more c.in_ok-step-2.ensures.answer.answer (at_continues n g.so_far)));
      later = omega (arith, c.loop-at.invariant.later, c.in_ok-step-2.ensures.progress);
      within = c.in_ok-step-2.ensures.within;
    }

pub steps-returns-else-next_is-2-clause-answer : goal.steps-returns-else-next_is-2-clause-answer
steps-returns-else-next_is-2-clause-answer t c =
    let g = c.loop-at.invariant.so_far in
    found g.whole (behind_read _ (steps_end c.if-next_is.ensures c.if-next_is-2.ensures g.so_far))

pub unary-loop-at-init : goal.unary-loop-at-init
unary-loop-at-init t c = record { so_far = no_sign; sum = omega arith }

pub unary-loop-at-preserved : goal.unary-loop-at-preserved
unary-loop-at-preserved t c =
    let n : IsNext c.args.self.now c.loop-at.at (Binary Subtract) = c.loop-at-test.ensures in
    record {
      so_far = rw add-one (sign_more
          (subst (λ (ts : List Token). Signs (left c.args.self.now c.args.at.now) c.loop-at.signs ts) n.is c.loop-at.invariant.so_far));
      sum = omega (arith, c.loop-at.invariant.sum);
    }

pub unary-returns-in_err-operand-clause-answer : goal.unary-returns-in_err-operand-clause-answer
unary-returns-in_err-operand-clause-answer t c =
    exits _ c.from_residual.ensures.1 c.in_err-operand.ensures.answer (λ n. unary_fail c.loop-at.invariant.so_far c.loop-at-test.ensures n)

pub unary-returns-clause-answer : goal.unary-returns-clause-answer
unary-returns-clause-answer t c =
    found c.in_ok-negated.ensures (unary_read c.loop-at.invariant.so_far c.loop-at-test.ensures c.in_ok-operand.ensures.answer.answer)

pub chain-returns-in_err-first-clause-answer : goal.chain-returns-in_err-first-clause-answer
chain-returns-in_err-first-clause-answer t c = exits _ c.from_residual.ensures.1 c.in_err-first.ensures.answer (λ n. chain_fail c.requires n)

pub chain-returns-in_err-links-clause-answer : goal.chain-returns-in_err-links-clause-answer
chain-returns-in_err-links-clause-answer t c =
    exits _ c.from_residual-in_err-links.ensures.1 c.in_err-links.ensures.answer (λ n. chain_fail_later c.requires c.in_ok-first.ensures.answer.answer n)

pub chain-returns-clause-answer : goal.chain-returns-clause-answer
chain-returns-clause-answer t c = found c.in_ok-chained.ensures (chain_read c.requires c.in_ok-first.ensures.answer.answer c.in_ok-links.ensures.answer.answer)

pub links-loop-operator-init : goal.links-loop-operator-init
links-loop-operator-init t c = record { so_far = rw c.new-links.ensures.items (begin _ _ _); later = omega arith; within = c.requires.within }

pub links-returns-in_err-operand-clause-answer : goal.links-returns-in_err-operand-clause-answer
links-returns-in_err-operand-clause-answer t c =
    let n : IsNext c.args.self.now c.loop-operator.at (Binary c.in-Some.operator) = c.in-Some.ensures.next in
    exits _ c.from_residual.ensures.1 c.in_err-operand.ensures.answer
    (λ f. failed _ _ _ _ _ c.loop-operator.invariant.so_far (at_nothing n (link_fail c.requires.chain c.in-Some.ensures.level f)))

pub links-loop-operator-preserved : goal.links-loop-operator-preserved
links-loop-operator-preserved t c =
    let n : IsNext c.args.self.now c.loop-operator.at (Binary c.in-Some.operator) = c.in-Some.ensures.next in
    record {
      so_far = rw (c.in_ok-push.ensures.items, map-append, view-Link)
          (link_more c.requires.chain c.in-Some.ensures.level c.in_ok-operand.ensures.answer.answer (at_continues n c.loop-operator.invariant.so_far));
      later = omega (arith, c.loop-operator.invariant.later, c.in_ok-operand.ensures.progress);
      within = c.in_ok-operand.ensures.within;
    }

pub links-returns-clause-answer : goal.links-returns-clause-answer
links-returns-clause-answer t c = found refl (ended _ _ _ _ _ _ c.loop-operator.invariant.so_far no_link (λ ys vs p. links_end c.in_default.ensures.next p))

pub primary-returns-in_err-inner-in-Group-clause-answer : goal.primary-returns-in_err-inner-in-Group-clause-answer
primary-returns-in_err-inner-in-Group-clause-answer t c =
    let n : IsNext c.args.self.now c.args.at.now Open = subst (λ (h : Head). Begins c.args.self.now c.args.at.now h) c.in-Group.is c.requires in
    exits _ c.from_residual-in_err-inner-in-Group.ensures.1 c.in_err-inner-in-Group.ensures.answer (λ f. at_nothing n (group_fail f))

pub arguments-expression-requires : goal.arguments-expression-requires
arguments-expression-requires t c = (omega arith, tt)

pub arguments-expression-requires-in-loop-at : goal.arguments-expression-requires-in-loop-at
arguments-expression-requires-in-loop-at t c = (
  let n : IsNext c.args.self.now c.loop-at.at Comma = c.loop-at-test.ensures in omega
      (arith, n.within, c.loop-at.invariant.later, c.loop-at.invariant.within),
  tt,
)

pub arguments-loop-at-smaller : goal.arguments-loop-at-smaller
arguments-loop-at-smaller t c =
    let n : IsNext c.args.self.now c.loop-at.at Comma = c.loop-at-test.ensures in omega (arith, n.within, c.in_ok-argument.ensures.progress)

pub arguments-returns-clause-progress : goal.arguments-returns-clause-progress
arguments-returns-clause-progress t c = omega arith

pub links-loop-operator-smaller : goal.links-loop-operator-smaller
links-loop-operator-smaller t c =
    let n : IsNext c.args.self.now c.loop-operator.at (Binary c.in-Some.operator) =
    c.in-Some.ensures.next in omega (arith, n.within, c.in_ok-operand.ensures.progress)

pub expression-chain-requires : goal.expression-chain-requires
expression-chain-requires t c = (omega (arith, ap rank c.in-OrExpr.is), subst (λ (l : Level). Chain l AndExpr) (sym c.in-OrExpr.is) or)

pub expression-chain-requires-in-AndExpr : goal.expression-chain-requires-in-AndExpr
expression-chain-requires-in-AndExpr t c = (omega (arith, ap rank c.in-AndExpr.is), subst (λ (l : Level). Chain l EqualityExpr) (sym c.in-AndExpr.is) and)

pub expression-chain-requires-in-EqualityExpr : goal.expression-chain-requires-in-EqualityExpr
expression-chain-requires-in-EqualityExpr t c =
    (omega (arith, ap rank c.in-EqualityExpr.is), subst (λ (l : Level). Chain l RelationalExpr) (sym c.in-EqualityExpr.is) equality)

pub expression-chain-requires-in-RelationalExpr : goal.expression-chain-requires-in-RelationalExpr
expression-chain-requires-in-RelationalExpr t c =
    (omega (arith, ap rank c.in-RelationalExpr.is), subst (λ (l : Level). Chain l AdditiveExpr) (sym c.in-RelationalExpr.is) relational)

pub expression-chain-requires-in-AdditiveExpr : goal.expression-chain-requires-in-AdditiveExpr
expression-chain-requires-in-AdditiveExpr t c =
    (omega (arith, ap rank c.in-AdditiveExpr.is), subst (λ (l : Level). Chain l MultiplicativeExpr) (sym c.in-AdditiveExpr.is) additive)

pub expression-chain-requires-in-MultiplicativeExpr : goal.expression-chain-requires-in-MultiplicativeExpr
expression-chain-requires-in-MultiplicativeExpr t c =
    (omega (arith, ap rank c.in-MultiplicativeExpr.is), subst (λ (l : Level). Chain l UnaryExpr) (sym c.in-MultiplicativeExpr.is) multiplicative)

pub expression-unary-requires : goal.expression-unary-requires
expression-unary-requires t c = (omega (arith, ap rank c.in-UnaryExpr.is), tt)

pub expression-chain-requires-in-UnionExpr : goal.expression-chain-requires-in-UnionExpr
expression-chain-requires-in-UnionExpr t c = (omega (arith, ap rank c.in-UnionExpr.is), subst (λ (l : Level). Chain l PathExpr) (sym c.in-UnionExpr.is) union)

pub expression-path-requires : goal.expression-path-requires
expression-path-requires t c = (omega (arith, ap rank c.in-PathExpr.is), tt)

pub filter-primary-requires : goal.filter-primary-requires
filter-primary-requires t c = (omega arith, c.requires)

pub filter-predicates-requires : goal.filter-predicates-requires
filter-predicates-requires t c = (omega (arith, c.in_ok-base.ensures.progress, c.in_ok-base.ensures.within), c.in_ok-base.ensures.within)

pub path-relative-requires : goal.path-relative-requires
path-relative-requires t c = (let n : IsNext c.args.self.now c.args.at.now Slash = c.if-next_is.ensures in omega (arith, n.within), tt)

pub path-relative-requires-then-next_is-2 : goal.path-relative-requires-then-next_is-2
path-relative-requires-then-next_is-2 t c = (let n : IsNext c.args.self.now c.args.at.now SlashSlash = c.if-next_is-2.ensures in omega (arith, n.within), tt)

pub path-filter-requires : goal.path-filter-requires
path-filter-requires t c = (omega arith, c.in-Some.ensures)

pub path-steps-requires : goal.path-steps-requires
path-steps-requires t c = (omega (arith, c.in_ok-base-in-Some.ensures.progress, c.in_ok-base-in-Some.ensures.within), c.in_ok-base-in-Some.ensures.within)

pub path-relative-requires-in-None : goal.path-relative-requires-in-None
path-relative-requires-in-None t c = (omega arith, tt)

pub predicates-expression-requires : goal.predicates-expression-requires
predicates-expression-requires t c = (
  let n : IsNext c.args.self.now c.loop-at.at OpenSquare = c.loop-at-test.ensures in omega
      (arith, n.within, c.loop-at.invariant.later, c.loop-at.invariant.within),
  tt,
)

pub predicates-loop-at-smaller : goal.predicates-loop-at-smaller
predicates-loop-at-smaller t c =
    let n : IsNext c.args.self.now c.loop-at.at OpenSquare = c.loop-at-test.ensures in omega (arith, n.within, c.in_ok-predicate.ensures.progress)

pub predicates-returns-clause-progress : goal.predicates-returns-clause-progress
predicates-returns-clause-progress t c = omega arith

pub predicates-returns-clause-within : goal.predicates-returns-clause-within
predicates-returns-clause-within t c = omega arith

pub primary-expression-requires : goal.primary-expression-requires
primary-expression-requires t c = (
  let n : IsNext c.args.self.now c.args.at.now Open = subst (λ (h : Head). Begins c.args.self.now c.args.at.now h) c.in-Group.is c.requires in omega
      (arith, n.within),
  tt,
)

pub primary-arguments-requires : goal.primary-arguments-requires
primary-arguments-requires t c = (
  let b : IsNext c.args.self.now c.args.at.now (Name (name_of c.in-Call.name)) × IsNext c.args.self.now (c.args.at.now + 1) Open
      × (type_of (name_of c.in-Call.name) ≡ None) =
      subst (λ (h : Head). Begins c.args.self.now c.args.at.now h) c.in-Call.is c.requires in omega (arith, b.0.within),
  tt,
)

pub relative-step-requires : goal.relative-step-requires
relative-step-requires t c = (omega arith, tt)

pub relative-steps-requires : goal.relative-steps-requires
relative-steps-requires t c = (omega (arith, c.in_ok-step.ensures.progress, c.in_ok-step.ensures.within), c.in_ok-step.ensures.within)

pub step-predicates-requires : goal.step-predicates-requires
step-predicates-requires t c = (
  omega (arith, c.in_ok-axis.ensures.progress, c.in_ok-test.ensures.progress, c.in_ok-test.ensures.within),
  c.in_ok-test.ensures.within,
)

pub steps-step-requires : goal.steps-step-requires
steps-step-requires t c = (
  let n : IsNext c.args.self.now c.loop-at.at Slash = c.if-next_is.ensures in omega
      (arith, n.within, c.loop-at.invariant.later, c.loop-at.invariant.within),
  tt,
)

pub steps-loop-at-smaller-in-Continue-branch-2 : goal.steps-loop-at-smaller-in-Continue-branch-2
steps-loop-at-smaller-in-Continue-branch-2 t c =
    let n : IsNext c.args.self.now c.loop-at.at Slash = c.if-next_is.ensures in omega (arith, n.within, c.in_ok-step.ensures.progress)

pub steps-step-requires-then-next_is-2 : goal.steps-step-requires-then-next_is-2
steps-step-requires-then-next_is-2 t c = (
  let n : IsNext c.args.self.now c.loop-at.at SlashSlash = c.if-next_is-2.ensures in omega
      (arith, n.within, c.loop-at.invariant.later, c.loop-at.invariant.within),
  tt,
)

pub steps-loop-at-smaller : goal.steps-loop-at-smaller
steps-loop-at-smaller t c = let n : IsNext c.args.self.now c.loop-at.at SlashSlash =
    c.if-next_is-2.ensures in omega (arith, n.within, c.in_ok-step-2.ensures.progress)

pub steps-returns-else-next_is-2-clause-progress : goal.steps-returns-else-next_is-2-clause-progress
steps-returns-else-next_is-2-clause-progress t c = omega arith

pub steps-returns-else-next_is-2-clause-within : goal.steps-returns-else-next_is-2-clause-within
steps-returns-else-next_is-2-clause-within t c = omega arith

pub unary-overflow_add-signs : goal.unary-overflow_add-signs
unary-overflow_add-signs t c = let n : IsNext c.args.self.now c.loop-at.at (Binary Subtract) =
    c.loop-at-test.ensures in omega (arith, n.within, c.loop-at.invariant.sum)

pub unary-loop-at-smaller : goal.unary-loop-at-smaller
unary-loop-at-smaller t c = let n : IsNext c.args.self.now c.loop-at.at (Binary Subtract) = c.loop-at-test.ensures in omega (arith, n.within)

pub unary-expression-requires : goal.unary-expression-requires
unary-expression-requires t c = (omega arith, tt)

pub unary-returns-clause-progress : goal.unary-returns-clause-progress
unary-returns-clause-progress t c = omega (arith, c.loop-at.invariant.sum, c.in_ok-operand.ensures.progress)

pub chain-expression-requires : goal.chain-expression-requires
chain-expression-requires t c = (omega (arith, chain_rank c.requires, rank_le c.args.tighter), tt)

pub links-expression-requires : goal.links-expression-requires
links-expression-requires t c = (
  let n : IsNext c.args.self.now c.loop-operator.at (Binary c.in-Some.operator) = c.in-Some.ensures.next in omega
      (arith, n.within, c.loop-operator.invariant.later),
  tt,
)
