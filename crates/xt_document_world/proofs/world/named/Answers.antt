use Rattle.std.proofs.Common.{sym, ◌∙◌}
use Rattle.spec_document.specs.Place.{kind_of, expanded_name, written_name}
use Rattle.spec_meaning.specs.Question.{Named}
use Rattle.xt_document_world.proofs.Told.{told_names, told_none}
use Rattle.xt_document_world.proofs.world.named.Goals as goal

pub returns-then-not-branch : goal.returns-then-not-branch
returns-then-not-branch c =
    sym (told_none c.args.document.now c.distinct_numbers.ensures c.args.node.now
    (λ e. Named (kind_of e.item) (expanded_name e.item) (written_name e.item)) (sym c.in_ok-has.ensures ∙ c.if-not-branch.true))

pub returns : goal.returns
returns c =
    sym (told_names c.args.document.now c.distinct_numbers.ensures c.args.node.now c.kind-kind.result c.in_ok-name.name c.in_ok-written.written
    c.kind-kind.ensures c.in_ok-name.ensures c.in_ok-written.ensures)
