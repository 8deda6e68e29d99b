use Rattle.std.proofs.Common.{◌≤◌, ◌-◌}
use Rattle.spec_meaning.specs.Question.{Question, Answer}
use Rattle.spec_node.specs.declared.node_ref.NodeRef.{NodeRef}
use Rattle.xt_engine.specs.View.{call_of}
use Rattle.xt_record.specs.Search.{kept_place, most}
use Rattle.xt_record.proofs.Passing.{PassedFrom}
use Rattle.xt_record.proofs.reuse.Reuse.find_kept.Given as goal

abbrev pub invariant-loop-turn : goal.invariant-loop-turn
invariant-loop-turn l = record {
  before : l.end ≤ most - l.from;
  passed : (ask : Question NodeRef → Answer NodeRef) → PassedFrom ask (call_of l.call) l.below kept_place l.self.kept.records.items l.from l.end;
}

abbrev pub decreases-loop-turn : goal.decreases-loop-turn
decreases-loop-turn l = l.end
