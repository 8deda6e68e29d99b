use Rattle.std.proofs.Common.{sym, ◌∙◌}
use Rattle.spec_document.specs.Place.{string_value}
use Rattle.spec_meaning.specs.Question.{SomeText}
use Rattle.xt_document_world.proofs.Told.{told, told_none}
use Rattle.xt_document_world.proofs.world.text.Goals as goal

pub returns-then-not-branch : goal.returns-then-not-branch
returns-then-not-branch c =
    sym (told_none c.args.document.now c.distinct_numbers.ensures c.args.node.now (λ e. SomeText (string_value e.item))
    (sym c.in_ok-has.ensures ∙ c.if-not-branch.true))

pub returns : goal.returns
returns c =
    sym (told c.args.document.now c.distinct_numbers.ensures c.args.node.now string_value SomeText c.in_ok-text.text c.in_ok-text.ensures)
