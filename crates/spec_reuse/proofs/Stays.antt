-- What is the run of an instantiation stays that, where it holds.
use Rattle.std.proofs.Common.{◌≡◌, ℕ, ◌≤◌, List, [], ◌∷◌, ◌++◌, Bool, true, false, cond, ap, subst, ◌∙◌, arith}
use Rattle.std.specs.Prelude.{Option, None, Some}
use Rattle.std.specs.List.{list_any}
use Rattle.spec_document.specs.Name.{Expanded, same_name}
use Rattle.spec_stylesheet.specs.Place.{Place}
use Rattle.spec_meaning.specs.Stream.{Stream, filled}
use Rattle.spec_meaning.specs.Value.{Value}
use Rattle.spec_meaning.specs.Program.{Wanted, Position, Size, Rule, Global, Valued}
use Rattle.spec_meaning.specs.Context.{Bound, binding_of}
use Rattle.spec_run.specs.Direct.{Supplied, Known}
use Rattle.spec_run.specs.Going.{Event, Asked, Saw, Entered, Held}
use Rattle.spec_run.specs.Trail.{Kept, IsTrue}
use Rattle.spec_run.specs.Meaning.{Setting, refer, evaluated, element_named, meaning}
use Rattle.spec_reuse.specs.Instantiation.{Instantiation, inside, given_to}
use Rattle.spec_reuse.specs.Serving.{IsOf, Fits}
use Rattle.spec_reuse.specs.Record.{Runs, none, ran, streams_in, AreRunsAlong, IsRunOf, IsPast, StayAlong}

pub refer_past : {N : Type 0} (name : Expanded) (place : Place) (bs : List (Bound N)) (is_under : Bool) (now : Supplied N) (v : Value N)
    → binding_of name bs ≡ Some v → refer name place bs is_under now ≡ Known (Valued v)
refer_past name place [] is_under now v e = absurd (cc)
refer_past {N = N} name place (b ∷ bs) is_under now v e = go (same_name b.name name) e (λ i. refer_past name place bs is_under now v i)
  where
    value_known : Option (Value N) → Supplied N → Supplied N
    value_known None x = x
    value_known (Some w) x = Known (Valued w)

    go : (x : Bool) → cond x (Some b.value) (binding_of name bs) ≡ Some v
        → (binding_of name bs ≡ Some v → refer name place bs is_under now ≡ Known (Valued v))
        → cond x (Known (Valued b.value)) (refer name place bs is_under now) ≡ Known (Valued v)
    go true i f = ap (λ o. value_known o (Known (Valued b.value))) i
    go false i f = f i

given_past : {N : Type 0} (s : Setting N) (i : Instantiation N) (wanted : Wanted) (depth : ℕ) (place : Place) (x : Supplied N) → IsPast i wanted x
    → given_to s i wanted depth place ≡ x
given_past s i Position depth place x g = g
given_past s i Size depth place x g = g
given_past s i Rule depth place x g = g
given_past s i (Global name) depth place x g =
    refer_past name place i.past.values (list_any (same_name name) i.past.under)
    (evaluated s (meaning s i.below) i.past name depth place (element_named name s.globals)) g.0 g.1 ∙ g.2

-- the call of another instantiation is of the same unit, node and declared parameters
of_inside : {N : Type 0} (s t : Setting N) (i j : Instantiation N) (k : Kept N) → s.same ≡ t.same → Fits s i k → IsOf j.call k
    → k.height ≤ j.below → Fits t j k
of_inside s t i j k e f of l = record { lasting = subst (λ same. IsTrue same k) e f.lasting; of_call = of; levels = l }

pub stays_along : {N : Type 0} (s t : Setting N) (i j : Instantiation N) (es : List (Event N)) (streams : List Stream) (runs : Runs N)
    → s.same ≡ t.same → AreRunsAlong s i es streams runs → StayAlong t j es runs → AreRunsAlong t j es streams runs
stays_along s t i j [] streams none e a h = tt
stays_along s t i j [] streams (ran kept inner rest) e a h = absurd a
stays_along s t i j (Asked question answer ∷ es) streams runs e a h = (h.0, stays_along s t i j es streams runs e a.1 h.1)
stays_along s t i j (Saw wanted depth place x ∷ es) streams runs e a h =
    (given_past t j wanted depth place x h.0, stays_along s t i j es streams runs e a.1 h.1)
stays_along s t i j (Held first contents ∷ es) streams runs e a h = (a.0, stays_along s t i j es streams runs e a.1 h)
stays_along s t i j (Entered call depth ∷ es) streams none e a h = absurd a
stays_along s t i j (Entered call depth ∷ es) streams (ran kept inner rest) e a h =
    let levels = h.0 in
    let of = a.1.of_call in (
      omega (arith, levels),
      of_inside s t (inside i depth call) (inside j depth call) kept e a.1 (record
          { target = of.target; node = of.node; parameters = of.parameters }) (omega (arith, levels)),
      stays_along s t (inside i depth call) (inside j depth call) kept.trace [] inner e a.2 h.1,
      stays_along s t i j es (streams ++ filled kept.content (streams_in inner) ∷ []) rest e a.3 h.2,
    )

pub run_stays : {N : Type 0} (s t : Setting N) (i j : Instantiation N) (kept : Kept N) (below : Runs N) → s.same ≡ t.same → IsRunOf s i kept below
    → IsOf j.call kept → kept.height ≤ j.below → StayAlong t j kept.trace below → IsRunOf t j kept below
run_stays s t i j kept below e r of l h =
    record { fits = of_inside s t i j kept e r.fits of l; entered = stays_along s t i j kept.trace [] below e r.entered h }
