use Rattle.std.proofs.Common.{◌≡◌, List, length, drop}
use Rattle.spec_meaning.specs.Supplies.{at_hand}
use Rattle.spec_transform.specs.Key.{Entry}
use Rattle.spec_node.specs.declared.node_ref.NodeRef.{NodeRef}
use Rattle.xt_questions.specs.View.{supplies_of}
use Rattle.xt_keys.specs.View.{all_texts, key_at, texts_in}
use Rattle.xt_keys.proofs.Programs.{Filled, left_of_key}
use Rattle.xt_keys.proofs.filling.fill.Given as goal

abbrev pub invariant-loop-i : goal.invariant-loop-i
invariant-loop-i g l =
    let state = g.W.World.state in
    let key = key_at l.site l.key in
    record {
      each : length l.found.items ≡ length l.nodes;
      filled : (first : List (Entry NodeRef)) → texts_in l.fn.found ≡ all_texts l.nodes first →
          Filled (at_hand (supplies_of l.supplies) 0) (left_of_key l.nodes key (drop l.i l.nodes)) l.nodes (texts_in l.found) (state l.world)
          (left_of_key l.nodes key l.nodes first) (state l.fn.world);
      name : g.W.World.name l.world ≡ g.W.World.name l.fn.world;
    }
