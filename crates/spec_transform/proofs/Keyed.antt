-- A refusal of a key does not depend on the value that is asked for.
use Rattle.std.proofs.Common.{◌≡◌, ℕ, Bool, List}
use Rattle.spec_meaning.specs.Question.{Refusal, Refused}
use Rattle.spec_meaning.specs.Program.{Said, Gives, Refuses, Lacks}
use Rattle.spec_transform.specs.Key.{Entry, keyed}

pub refused_for_all : {N : Type 0} (same : N → N → Bool) (nodes : List N) (text other : List ℕ) (said : Said (List (Entry N))) (why : Refusal)
    → keyed same nodes text said ≡ Refused why → keyed same nodes other said ≡ Refused why
refused_for_all same nodes text other (Gives entries) why e = absurd (cc)
refused_for_all same nodes text other (Refuses reason) why e = e
refused_for_all same nodes text other (Lacks wanted) why e = absurd (cc)
