use Rattle.std.proofs.Common.{◌≡◌, arith, sym, ap, ◌∙◌, subst}
use Rattle.spec_meaning.specs.Question.{Question}
use Rattle.spec_node.specs.declared.node_ref.NodeRef.{NodeRef}
use Rattle.xt_questions.specs.View.{question_of}
use Rattle.xt_own.proofs.Reading.{next_known}
use Rattle.xt_own.proofs.asked.is_among.Goals as goal

pub returns-then-is_same : goal.returns-then-is_same
returns-then-is_same c = λ told other was h.
    let at = next_known other was c.args.questions.now c.loop-known.known-index c.known-item.result (omega arith) (c.loop-known.invariant other was h) in
    subst (λ (q : Question NodeRef). other q ≡ was q) (ap question_of (sym c.known-item.is) ∙ c.is_same.ensures c.if-is_same.true) at.0

pub loop-known-preserved : goal.loop-known-preserved
loop-known-preserved c = λ other was h.
    (next_known other was c.args.questions.now c.loop-known.known-index c.known-item.result (omega arith) (c.loop-known.invariant other was h)).1
