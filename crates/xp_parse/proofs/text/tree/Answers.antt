use Rattle.std.proofs.Common.{[], length, drop, ap, sym, ◌∙◌, arith}
use Rattle.std.proofs.lemmas.List.{length-map, length-drop}
use Rattle.xp_parse.specs.View.{token_of}
use Rattle.xp_parse.proofs.text.tree.Goals as goal

pub returns-then-at-tokens : goal.returns-then-at-tokens
returns-then-at-tokens c = (
  sym c.is_deep.ensures ∙ c.if-is_deep.false,
  λ e p.
      let q = (c.in_ok-expr.ensures.answer.answer.only e [] p (omega arith)).1 in
      let rest = drop c.expression.new.at c.args.tokens.now in
      omega (arith, c.if-at-tokens.true, ap length q, length-map rest token_of, length-drop c.expression.new.at c.args.tokens.now),
)
