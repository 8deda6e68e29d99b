use Rattle.std.proofs.Common.{◌≡◌, true}
use Rattle.spec_reuse.proofs.Alike.{runs_enter_alike}
use Rattle.spec_reuse.proofs.laws.names_do_not_matter_to_what_is_entered.Goals as goal

pub returns : goal.returns
returns c = λ is_named s t alike. runs_enter_alike (λ n m. is_named n m ≡ true) s t alike
