use Rattle.std.proofs.Common.{List, map, refl, ap, sym, subst, ◌∙◌}
use Rattle.spec_expression.specs.Token.{Token, Slash, SlashSlash, Name, Open}
use Rattle.spec_stylesheet.specs.declared.pattern.Start.TheVariants.{Root}
use Rattle.xt_pattern.specs.Reading.{IsHead}
use Rattle.spec_static.specs.PatternGrammar.{ReadsAlternative, ReadsHead}
use Rattle.xt_syntax.specs.PartView.{pattern_step_of}
use Rattle.xp_parse.specs.Reading.{Nothing, IsNext}
use Rattle.xp_parse.proofs.Places.{at_read, at_nothing, next_two}
use Rattle.xp_parse.proofs.Lists.{behind_nothing_read, behind_nothing_fail}
use Rattle.xp_parse.proofs.Calls.{exits, found}
use Rattle.xt_pattern.proofs.Heads.{word_is_no_type}
use Rattle.xt_pattern.proofs.Alternatives.{from_start, root_alone, root_read, root_fail, below_read, below_fail, head_read, head_fail, head_fail_later, anywhere_read, anywhere_fail}
use Rattle.xt_pattern.proofs.descent.alternative.Goals as goal

pub returns-then-not-begins_step-clause-answer : goal.returns-then-not-begins_step-clause-answer
returns-then-not-begins_step-clause-answer c =
    let n : IsNext c.args.parser.now c.args.at.now Slash = c.if-next_is.ensures in
    found (ap (λ (xs : List _). from_start Root (map pattern_step_of xs)) c.new.ensures.items)
    (at_read n (root_alone (sym c.begins_step.ensures ∙ c.if-not-begins_step.true)))

pub returns-in_err-steps-clause-answer : goal.returns-in_err-steps-clause-answer
returns-in_err-steps-clause-answer c =
    let n : IsNext c.args.parser.now c.args.at.now Slash = c.if-next_is.ensures in
    exits _ c.from_residual.ensures.1 c.in_err-steps.ensures.answer
    (λ f. at_nothing n (root_fail (sym c.begins_step.ensures ∙ c.if-not-begins_step.false) f))

pub returns-then-next_is-clause-answer : goal.returns-then-next_is-clause-answer
returns-then-next_is-clause-answer c =
    let n : IsNext c.args.parser.now c.args.at.now Slash = c.if-next_is.ensures in
    found refl (at_read n (root_read (sym c.begins_step.ensures ∙ c.if-not-begins_step.false) c.in_ok-steps.ensures.answer.answer))

pub returns-in_err-steps-2-clause-answer : goal.returns-in_err-steps-2-clause-answer
returns-in_err-steps-2-clause-answer c =
    let n : IsNext c.args.parser.now c.args.at.now SlashSlash = c.if-next_is-2.ensures in
    exits _ c.from_residual-in_err-steps-2.ensures.1 c.in_err-steps-2.ensures.answer (λ f. at_nothing n (below_fail f))

pub returns-then-next_is-2-clause-answer : goal.returns-then-next_is-2-clause-answer
returns-then-next_is-2-clause-answer c =
    let n : IsNext c.args.parser.now c.args.at.now SlashSlash = c.if-next_is-2.ensures in
    found refl (at_read n (below_read c.in_ok-steps-2.ensures.answer.answer))

pub returns-in_err-start-in-Some-clause-answer : goal.returns-in_err-start-in-Some-clause-answer
returns-in_err-start-in-Some-clause-answer c =
    let p = c.args.parser.now in
    let h : IsHead p c.args.at.now c.in-Some.word = c.in-Some.ensures in
    let e = next_two p c.args.at.now (Name h.name) Open h.is h.opened in
    let s = p.scope.now in
    exits _ c.from_residual-in_err-start-in-Some.ensures.1 c.in_err-start-in-Some.ensures.answer
    (λ f. subst (λ (ts : List Token). Nothing (ReadsAlternative s) 9 ts) (sym e)
    (head_fail (word_is_no_type h.name c.in-Some.word h.known) (subst (λ (ts : List Token). Nothing (ReadsHead s) 10 ts) e f)))

pub returns-in_err-steps-in-Some-clause-answer : goal.returns-in_err-steps-in-Some-clause-answer
returns-in_err-steps-in-Some-clause-answer c =
    exits _ c.from_residual-in_err-steps-in-Some.ensures.1 (rw c.new-in-Some.ensures.items at c.in_err-steps-in-Some.ensures.answer)
    (λ f. head_fail_later c.in_ok-start-in-Some.ensures.answer.answer (behind_nothing_fail f))

pub returns-in_err-steps-in-None-clause-answer : goal.returns-in_err-steps-in-None-clause-answer
returns-in_err-steps-in-None-clause-answer c =
    exits _ c.from_residual-in_err-steps-in-None.ensures.1 c.in_err-steps-in-None.ensures.answer
    (λ f. anywhere_fail c.if-next_is.ensures c.if-next_is-2.ensures c.in-None.ensures f)

pub returns-in_ok-steps-in-Some-clause-answer : goal.returns-in_ok-steps-in-Some-clause-answer
returns-in_ok-steps-in-Some-clause-answer c =
    found refl (head_read c.in_ok-start-in-Some.ensures.answer.answer
    (behind_nothing_read (rw c.new-in-Some.ensures.items at c.in_ok-steps-in-Some.ensures.answer.answer)))

pub returns-in_ok-steps-in-None-clause-answer : goal.returns-in_ok-steps-in-None-clause-answer
returns-in_ok-steps-in-None-clause-answer c = found refl (anywhere_read c.in-None.ensures c.in_ok-steps-in-None.ensures.answer.answer)
