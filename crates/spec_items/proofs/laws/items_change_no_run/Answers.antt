use Rattle.std.specs.Prelude.{◌≡◌, true}
use Rattle.spec_items.proofs.Levels.{run_of_same}
use Rattle.spec_items.proofs.laws.items_change_no_run.Goals as goal

pub returns : goal.returns
returns c = λ setting other is_old lifts old. run_of_same setting other (λ element. is_old element ≡ true) lifts old
