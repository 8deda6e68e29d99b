use Rattle.std.proofs.Common.{◌≡◌, true, false, subst}
use Rattle.spec_meaning.specs.Question.{Question}
use Rattle.spec_node.specs.declared.node_ref.NodeRef.{NodeRef}
use Rattle.spec_touch.specs.Marks.{any_marks}
use Rattle.xt_touch.specs.Named.{Covers}
use Rattle.xt_touch.specs.View.{since_of}
use Rattle.xt_record.specs.declared.tree.Summary.{Summary}
use Rattle.xt_record.proofs.reuse.Reuse.marks_none.Goals as goal

pub returns : goal.returns
returns c =
    let Unmarked : Summary → Type 0 = λ w. c.marks_none.result ≡ true → (question : Question NodeRef) → Covers w.named question
    → any_marks (since_of c.args.self.now.spared.now.since.now) question ≡ false in
    subst Unmarked c.deref.ensures c.marks_none.ensures
