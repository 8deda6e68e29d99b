use Rattle.std.proofs.Common.{[], length, drop, map, ap, sym, ◌∙◌, arith}
use Rattle.std.proofs.lemmas.List.{length-map, length-drop, at_drop_all}
use Rattle.xp_parse.specs.View.{token_of}
use Rattle.xt_pattern.proofs.Texts.{all_tokens}
use Rattle.xt_pattern.proofs.text.tree.Goals as goal

pub returns-then-at-tokens : goal.returns-then-at-tokens
returns-then-at-tokens c = (
  sym c.is_deep.ensures ∙ c.if-is_deep.false,
  λ p r.
      let q = (c.in_ok-alternatives.ensures.answer.answer.only p.alternatives [] r (omega arith)).1 in
      let rest = drop c.alternatives.new.at c.args.tokens.now in
      omega (arith, c.if-at-tokens.true, ap length q, length-map rest token_of, length-drop c.alternatives.new.at c.args.tokens.now),
)

pub returns-then-has_bad_number : goal.returns-then-has_bad_number
returns-then-has_bad_number c = (
  record { alternatives = _ },
  all_tokens (sym c.is_deep.ensures ∙ c.if-is_deep.false) (at_drop_all (map token_of) c.args.tokens.now c.alternatives.new.at c.if-at-tokens.false)
      c.in_ok-alternatives.ensures.answer.answer.reads,
  sym c.has_bad_number.ensures ∙ c.if-has_bad_number.true,
)

pub returns-then-has_undeclared : goal.returns-then-has_undeclared
returns-then-has_undeclared c = (
  record { alternatives = _ },
  all_tokens (sym c.is_deep.ensures ∙ c.if-is_deep.false) (at_drop_all (map token_of) c.args.tokens.now c.alternatives.new.at c.if-at-tokens.false)
      c.in_ok-alternatives.ensures.answer.answer.reads,
  sym c.has_bad_number.ensures ∙ c.if-has_bad_number.false,
  sym c.has_undeclared.ensures ∙ c.if-has_undeclared.true,
)
