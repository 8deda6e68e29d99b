use Rattle.std.proofs.Common.{sym, ◌∙◌}
use Rattle.spec_meaning.specs.Question.{Copied}
use Rattle.spec_run.specs.Copy.{copy_of}
use Rattle.xt_document_world.proofs.Told.{told_none}
use Rattle.xt_world.proofs.world.copied.Goals as goal

pub returns-then-not-branch : goal.returns-then-not-branch
returns-then-not-branch c =
    sym (told_none c.args.document.now c.distinct_numbers.ensures c.args.node.now (λ e. Copied (copy_of e.item))
    (sym c.in_ok-has.ensures ∙ c.if-not-branch.true))
