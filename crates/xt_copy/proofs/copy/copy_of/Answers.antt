use Rattle.std.proofs.Common.{sym, ap, ◌∙◌}
use Rattle.spec_meaning.specs.Question.{Copied}
use Rattle.spec_meaning.specs.Stream.{holes}
use Rattle.xt_tree.specs.StreamView.{stream_of}
use Rattle.xt_tree.specs.View.{item_of}
use Rattle.xt_copy.proofs.Answers.{told, whole_copy}
use Rattle.xt_copy.proofs.copy.copy_of.Goals as goal

pub new-requires-2 : goal.new-requires-2
new-requires-2 c =
    ap (λ i. holes (stream_of i)) c.in_ok-shared.ensures.ok
    ∙ whole_copy (item_of c.args.document.now c.args.node.now) (stream_of c.in_ok-items.items) c.in_ok-items.ensures

pub returns-clause-told : goal.returns-clause-told
returns-clause-told c =
    told c.args.document.now c.distinct_numbers.ensures c.args.node.now (stream_of c.in_ok-items.items) c.in_ok-items.ensures
    ∙ ap (λ s. Copied s) (sym (c.new-2.ensures ∙ ap (λ i. stream_of i) c.in_ok-shared.ensures.ok))
