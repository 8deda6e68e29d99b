use Rattle.std.proofs.Common.{◌≡◌, ◌++◌, ◌∷◌, [], map, drop}
use Rattle.spec_expression.specs.Syntax.{exprs}
use Rattle.spec_meaning.specs.Supplies.{at_hand}
use Rattle.spec_transform.specs.Match.{keep}
use Rattle.spec_node.specs.Naming.{same_ref}
use Rattle.xt_syntax.specs.View.{expr_of}
use Rattle.xt_questions.specs.declared.context.Focus.{Focus}
use Rattle.xt_questions.specs.View.{context_of, supplies_of}
use Rattle.xt_questions.specs.Runs.{Continues}
use Rattle.xt_match.proofs.predicate.keep_at_last.Given as goal

abbrev pub invariant-loop-predicate : goal.invariant-loop-predicate
invariant-loop-predicate g l =
    let state = g.W.World.state in
    record {
      same : (f : Focus) →
          Continues (at_hand (supplies_of l.supplies) l.context.depth) l.context.depth
          (keep same_ref (context_of f l.context) l.node (exprs (map expr_of (drop l.predicate-index l.before) ++ expr_of l.last ∷ [])) l.rest.items) (state l.world)
          (keep same_ref (context_of f l.context) l.node (exprs (map expr_of l.before ++ expr_of l.last ∷ [])) l.fn.nodes.items) (state l.fn.world);
      name : g.W.World.name l.world ≡ g.W.World.name l.fn.world;
    }
