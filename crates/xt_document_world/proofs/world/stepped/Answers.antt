use Rattle.std.proofs.Common.{sym, ap, ◌∙◌}
use Rattle.spec_document.specs.Order.{entries_of}
use Rattle.spec_meaning.specs.Question.{SomeNodes}
use Rattle.spec_meaning.specs.Step.{stepped}
use Rattle.spec_node.specs.Naming.{ref_of, same_ref}
use Rattle.xt_syntax.specs.View.{test_of}
use Rattle.xt_document_world.proofs.Told.{told_any, told_none}
use Rattle.xt_document_world.proofs.world.stepped.Goals as goal

pub returns-then-not-branch : goal.returns-then-not-branch
returns-then-not-branch c =
    let d = c.args.document.now in
    let nodes = stepped ref_of same_ref (entries_of d) c.args.axis (test_of c.args.test.now) c.args.node.now in
    sym (told_none d c.distinct_numbers.ensures c.args.node.now (λ e. SomeNodes nodes) (sym c.in_ok-has.ensures ∙ c.if-not-branch.true))

pub returns : goal.returns
returns c =
    let d = c.args.document.now in
    let nodes = stepped ref_of same_ref (entries_of d) c.args.axis (test_of c.args.test.now) c.args.node.now in
    ap SomeNodes c.in_ok-nodes.ensures
    ∙ sym (told_any d c.distinct_numbers.ensures c.args.node.now (SomeNodes nodes) (sym c.in_ok-has.ensures ∙ c.if-not-branch.false))
