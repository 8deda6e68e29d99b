use Rattle.std.proofs.Common.{◌≡◌, true, subst}
use Rattle.spec_meaning.specs.Question.{Question}
use Rattle.spec_node.specs.declared.node_ref.NodeRef.{NodeRef}
use Rattle.xt_touch.specs.Named.{Covers}
use Rattle.xt_spared.specs.View.{IsSparedBy}
use Rattle.xt_record.specs.declared.tree.Summary.{Summary}
use Rattle.xt_record.proofs.reuse.Reuse.spares_all.Goals as goal

pub returns : goal.returns
returns c =
    let Spares : Summary → Type 0 = λ w. c.spares_all.result ≡ true → (question : Question NodeRef) → Covers w.named question
    → IsSparedBy c.args.self.now.spared.now question in
    subst Spares c.deref.ensures c.spares_all.ensures
