-- Records that keep a run are found wherever those of the run itself would be.
use Rattle.std.proofs.Common.{◌≡◌, ◌≤◌, Bool, List, [], ◌∷◌, sym, ap, subst, ◌∙◌, inl, inr}
use Rattle.spec_document.specs.Name.{Expanded}
use Rattle.spec_meaning.specs.Context.{Bound}
use Rattle.spec_run.specs.Hold.{GoesOn}
use Rattle.spec_run.specs.Going.{Event}
use Rattle.spec_run.specs.Trail.{Kept, IsTrue}
use Rattle.spec_run.specs.Meaning.{Setting}
use Rattle.spec_reuse.specs.Among.{IsIn}
use Rattle.spec_reuse.specs.Instantiation.{Instantiation, given_to, meant_below, own_of, kept_of}
use Rattle.spec_reuse.specs.Serving.{PassAlike, ReadsHold, Serves, declared_in}
use Rattle.spec_reuse.specs.Ledger.{AsksHold, IsFound}
use Rattle.spec_reuse.specs.Record.{IsRecordOf}
use Rattle.spec_reuse.proofs.Served.{served_record}

pass_on : {N : Type 0} (names : List Expanded) (one other more : List (Bound N)) → PassAlike names one other → PassAlike names other more
    → PassAlike names one more
pass_on [] one other more h k = tt
pass_on (name ∷ names) one other more h k = (h.0 ∙ k.0, pass_on names one other more h.1 k.1)

-- a record that serves the one serves the other, where what is kept of the one does
serves_too : {N : Type 0} (s t : Setting N) (i j : Instantiation N) (k : Kept N) → s.same ≡ t.same → Serves s i k → IsRecordOf s i k
    → Serves t j (kept_of s i) → Serves t j k
serves_too {N = N} s t i j k same serves is other =
    let kept = is.same in
    let trace : k.trace ≡ (kept_of s i).trace = ap (λ (x : Kept N). x.trace) kept in
    let fits = other.fits in
    let called = fits.of_call in
    record {
      fits = record {
        lasting = subst (λ (told : N → N → Bool). IsTrue told k) same serves.fits.lasting;
        of_call = record {
          target = is.of_call.target ∙ called.target;
          node = is.of_call.node ∙ called.node;
          parameters = pass_on (declared_in k.trace) k.call.parameters i.call.parameters j.call.parameters is.of_call.parameters
              (subst (λ (es : List (Event N)). PassAlike (declared_in es) i.call.parameters j.call.parameters) (sym trace) called.parameters);
        };
        levels = subst (λ height. height ≤ j.below) (sym (ap (λ (x : Kept N). x.height) kept)) fits.levels;
      };
      reads = subst (λ (es : List (Event N)). ReadsHold t.ask (given_to t j) (meant_below t j) [] es) (sym trace) other.reads;
    }

found_too : {N : Type 0} (s t : Setting N) (i j : Instantiation N) (records : List (Kept N)) → s.same ≡ t.same → GoesOn (own_of s i).ending
    → IsFound s records i → Serves t j (kept_of s i) → AsksHold t.ask (kept_of s i).trace → IsFound t records j
found_too {N = N} s t i j records same ends found serves asks =
    let is = served_record s i found.0 found.2 ends in
    let trace : found.0.trace ≡ (kept_of s i).trace = ap (λ (x : Kept N). x.trace) is.same in (
      found.0,
      found.1,
      serves_too s t i j found.0 same found.2 is serves,
      subst (λ (es : List (Event N)). AsksHold t.ask es) (sym trace) asks,
    )

only_one : {A : Type 0} {x y : A} → IsIn x (y ∷ []) → x ≡ y
only_one (inl e) = e
only_one (inr none) = absurd none

pub enough : {N : Type 0} (s t : Setting N) (i j : Instantiation N) (records : List (Kept N)) → s.same ≡ t.same → GoesOn (own_of s i).ending
    → IsFound s records i → IsFound t (kept_of s i ∷ []) j → IsFound t records j
enough {N = N} s t i j records same ends found other =
    let is : other.0 ≡ kept_of s i = only_one other.1 in
    found_too s t i j records same ends found (subst (λ (k : Kept N). Serves t j k) is other.2)
    (subst (λ (k : Kept N). AsksHold t.ask k.trace) is other.3)
