use Rattle.std.proofs.Common.{◌≡◌, drop, map}
use Rattle.spec_meaning.specs.Question.{Question}
use Rattle.spec_node.specs.declared.node_ref.NodeRef.{NodeRef}
use Rattle.spec_touch.specs.Marks.{any_asks}
use Rattle.xt_touch.specs.Named.{Covers}
use Rattle.xt_touch.specs.View.{marked_by}
use Rattle.xt_touch.proofs.since.Since.spares_all.Given as goal

abbrev pub invariant-loop-marks : goal.invariant-loop-marks
invariant-loop-marks l =
    (question : Question NodeRef) → Covers l.named question
    → any_asks (map (λ marks. marked_by marks.value) (drop l.marks-index l.self.changes.items)) question
    ≡ any_asks (map (λ marks. marked_by marks.value) l.self.changes.items) question
