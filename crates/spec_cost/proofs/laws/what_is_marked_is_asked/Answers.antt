use Rattle.spec_cost.proofs.Least.{marked_is_asked}
use Rattle.spec_cost.proofs.laws.what_is_marked_is_asked.Goals as goal

pub returns : goal.returns
returns c = λ s before after marks left ran asked kept question answer cost ends free among asks alone marked.
    marked_is_asked s before after marks left ran asked kept question answer cost ends free among asks alone marked
