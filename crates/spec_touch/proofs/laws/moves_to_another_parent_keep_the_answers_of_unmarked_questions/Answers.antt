use Rattle.spec_edit.proofs.Numbers.{once-distinct, below-from}
use Rattle.spec_touch.proofs.Moving.{seen-kept}
use Rattle.spec_touch.proofs.laws.moves_to_another_parent_keep_the_answers_of_unmarked_questions.Goals as goal

pub returns : goal.returns
returns c sheet first path other document new e normal distinct low from to is_from is_to apart left entered told parameters called question u v =
    seen-kept first document new normal (once-distinct _ distinct) (below-from first _ low) path other e from to is_from is_to apart
    sheet.space_rules.rules left entered told sheet parameters called question u v
