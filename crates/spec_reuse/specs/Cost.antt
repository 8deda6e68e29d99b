-- What a change may be told to have cost. What is counted is named, so that a number is the length of a list of instantiations of the new run.
use Rattle.std.specs.Prelude.{◌≡◌, List, [], ◌∷◌}
use Rattle.spec_run.specs.Plan.{Target}
use Rattle.spec_run.specs.Hold.{GoesOn}
use Rattle.spec_run.specs.Trail.{Kept}
use Rattle.spec_run.specs.Meaning.{Setting}
use Rattle.spec_reuse.specs.Among.{IsIn, AreSomeOf}
use Rattle.spec_reuse.specs.Instantiation.{Instantiation, own_of, instantiations}
use Rattle.spec_reuse.specs.Serving.{Serves}

abbrev pub IsServed : {N : Type 0} → Setting N → List (Kept N) → Instantiation N → Type 0
IsServed {N = N} s records i = (k : Kept N) × IsIn k records × Serves s i k

-- Of one call, at whatever levels, and both come to their end
pub record Repeats {N : Type 0} (s : Setting N) (i j : Instantiation N) : Type 0 where
  pub target : i.call.target ≡ j.call.target
  pub node : i.call.node ≡ j.call.node
  pub parameters : i.call.parameters ≡ j.call.parameters
  pub position : i.call.position ≡ j.call.position
  pub size : i.call.size ≡ j.call.size
  pub ruling : i.call.ruling ≡ j.call.ruling
  pub one_ends : GoesOn (own_of s i).ending
  pub other_ends : GoesOn (own_of s j).ending

-- none is of one call with a later one of the list, where both come to their end
abbrev pub NoneRepeats : {N : Type 0} → Setting N → List (Instantiation N) → Type 0
NoneRepeats s [] = Unit {0}
NoneRepeats {N = N} s (i ∷ is) = ((j : Instantiation N) → IsIn j is → ¬ (Repeats s i j)) × NoneRepeats s is

-- These may be said to have been entered, where these are the records of the last finished run, and `IsMade` says which units and nodes the change
-- makes: instantiations of the run that no record serves, of one call that came to its end one; and for each unit and node that is made one
pub record AreEntered {N : Type 0} (s : Setting N) (records : List (Kept N)) (IsMade : Target N → N → Type 0)
    (list : List (Instantiation N)) : Type 0 where
  pub of_run : AreSomeOf list (instantiations s)
  pub unserved : (i : Instantiation N) → IsIn i list → ¬ (IsServed s records i)
  pub once : NoneRepeats s list
  pub made : (i : Instantiation N) → IsIn i (instantiations s) → IsMade i.call.target i.call.node
      → (j : Instantiation N) × IsIn j list × (j.call.target ≡ i.call.target) × (j.call.node ≡ i.call.node)
