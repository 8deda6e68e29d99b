-- What a tree that says all comes to, and that all of it is found.
use Rattle.std.proofs.Common.{◌≡◌, ◌⊎◌, inl, inr, ℕ, zero, suc, List, [], ◌∷◌, ◌++◌, refl, sym, ap, subst}
use Rattle.spec_meaning.specs.Related.{Each, none, more}
use Rattle.spec_run.specs.Hold.{GoesOn}
use Rattle.spec_run.specs.Direct.{Ending}
use Rattle.spec_run.specs.Trail.{Kept, IsTrue}
use Rattle.spec_run.specs.Meaning.{Setting}
use Rattle.spec_reuse.specs.Among.{IsIn}
use Rattle.spec_reuse.specs.Instantiation.{Instantiation, own_of, kept_of, meaning_of, entered, instantiations}
use Rattle.spec_reuse.specs.Serving.{taken_for, Serves}
use Rattle.spec_reuse.specs.Cost.{Repeats}
use Rattle.spec_reuse.specs.Ledger.{AllFound, IsFound}
use Rattle.spec_reuse.specs.Record as tree
use Rattle.spec_reuse.specs.Record.{Runs, records_in, outcome_of, IsRecordOf}
use Rattle.spec_reuse.proofs.Again.{serves_again}
use Rattle.spec_reuse.proofs.Comes.{run_comes}
use Rattle.spec_reuse.proofs.Entering.{runs_are_entered}
use Rattle.spec_trees.specs.Tree.{Says, IsAtHand, AreAtHand}

pub said_meant : {N : Type 0} (s : Setting N) (i : Instantiation N) (k : Kept N) (runs : Runs N) → Says s i k runs
    → meaning_of s i ≡ outcome_of k runs
said_meant s i k runs h = run_comes s i k runs h.is_run

-- a record of an instantiation of the run serves it
served : {N : Type 0} (s : Setting N) (i : Instantiation N) (k : Kept N) → IsIn i (instantiations s) → IsRecordOf s i k → GoesOn k.ending
    → IsTrue s.same k → Serves s i k
served {N = N} s i k of_run is ends lasting =
    let goes : GoesOn (own_of s i).ending = subst (λ (x : Kept N). GoesOn x.ending) is.same ends in
    let again : Repeats s i i = record {
      target = refl;
      node = refl;
      parameters = refl;
      position = refl;
      size = refl;
      ruling = refl;
      one_ends = goes;
      other_ends = goes;
    } in
    let serves : Serves s i (taken_for i.call k) = subst (λ (x : Kept N). Serves s i x) (sym is.same) (serves_again s i i of_run of_run again) in
    record {
      fits = record { lasting = lasting; of_call = is.of_call; levels = serves.fits.levels };
      reads = serves.reads;
    }

found_each : {N : Type 0} (s : Setting N) (hand : List (Kept N)) (is : List (Instantiation N)) (ks : List (Kept N))
    → ((j : Instantiation N) → IsIn j is → IsIn j (instantiations s)) → Each (IsRecordOf s) is ks → AreAtHand s hand ks → AllFound s hand is
found_each s hand [] [] of_run none h j within = absurd within
found_each s hand [] (k ∷ ks) of_run x h j within = absurd within
found_each s hand (i ∷ is) [] of_run x h j within = elim x [ ]
found_each {N = N} s hand (i ∷ is) (k ∷ ks) of_run (more r rs) h j (inl e) =
    let there : IsFound s hand i = (k, h.0.among, served s i k (of_run i (inl refl)) r h.0.ends h.0.lasting, h.0.asks) in
    subst (λ (x : Instantiation N). IsFound s hand x) (sym e) there
found_each s hand (i ∷ is) (k ∷ ks) of_run (more r rs) h j (inr within) =
    found_each s hand is ks (λ x at. of_run x (inr at)) rs h.1 j within

pub said_found : {N : Type 0} (s : Setting N) (i : Instantiation N) (k : Kept N) (runs : Runs N) (hand : List (Kept N)) → Says s i k runs
    → ((j : Instantiation N) → IsIn j (entered s (suc i.below) i.past zero i.call) → IsIn j (instantiations s))
    → AreAtHand s hand (records_in (tree.ran k runs tree.none)) → AllFound s hand (entered s (suc i.below) i.past zero i.call)
said_found s i k runs hand h of_run at =
    found_each s hand (entered s (suc i.below) i.past zero i.call) (records_in (tree.ran k runs tree.none)) of_run
    (runs_are_entered s i k runs h.is_run h.stays) at
