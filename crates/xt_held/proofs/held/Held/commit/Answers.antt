use Rattle.std.proofs.Common.{ap, ◌∙◌}
use Rattle.xt_held.specs.View.{is_edited_by}
use Rattle.xt_held.proofs.Batches.{unedited_compiled}
use Rattle.xt_held.proofs.held.Held.commit.Goals as goal

pub commit_as_before-requires-clause-compiled : goal.commit_as_before-requires-clause-compiled
commit_as_before-requires-clause-compiled c = unedited_compiled c.args.self.now c.in-Some.batch c.in-Some.is c.requires c.if-batch.false

pub commit_as_before-requires-clause-unedited : goal.commit_as_before-requires-clause-unedited
commit_as_before-requires-clause-unedited c = ap is_edited_by c.in-Some.is ∙ c.if-batch.false

pub commit_with_modules-requires-clause-edited : goal.commit_with_modules-requires-clause-edited
commit_with_modules-requires-clause-edited c = ap is_edited_by c.in-Some.is ∙ c.if-batch.true
