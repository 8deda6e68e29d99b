use Rattle.std.proofs.Common.{◌≡◌, drop, reverse, []}
use Rattle.spec_meaning.specs.Supplies.{at_hand}
use Rattle.spec_transform.specs.Numbering.{is_counted, of_all}
use Rattle.spec_node.specs.Naming.{same_ref}
use Rattle.xt_questions.specs.declared.context.Focus.{Focus}
use Rattle.xt_questions.specs.View.{context_of, supplies_of}
use Rattle.xt_questions.specs.Runs.{Continues}
use Rattle.xt_number.specs.View.{counted_of}
use Rattle.xt_number.proofs.levels.of_all.Given as goal

abbrev pub invariant-loop-node : goal.invariant-loop-node
invariant-loop-node g l =
    let state = g.W.World.state in
    record {
      same : (f : Focus) →
          Continues (at_hand (supplies_of l.supplies) l.context.depth) l.context.depth
          (of_all (is_counted same_ref (context_of f l.context) (counted_of l.counted)) (reverse l.numbers.items) (drop l.node-index l.nodes)) (state l.world)
          (of_all (is_counted same_ref (context_of f l.context) (counted_of l.counted)) [] l.nodes) (state l.fn.world);
      name : g.W.World.name l.world ≡ g.W.World.name l.fn.world;
    }
