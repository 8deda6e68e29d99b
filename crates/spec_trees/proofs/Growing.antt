-- How trees grow from the end of what was done.
use Rattle.std.proofs.Common.{◌≡◌, ℕ, suc, ◌+◌, ◌≤◌, Bool, List, [], ◌∷◌, ◌++◌, sym, subst, arith}
use Rattle.spec_meaning.specs.Stream.{Stream, filled}
use Rattle.spec_meaning.specs.Question.{Question, Answer}
use Rattle.spec_run.specs.Plan.{Call}
use Rattle.spec_run.specs.Going.{Event, Asked, Entered}
use Rattle.spec_run.specs.Trail.{Kept, IsTrue}
use Rattle.spec_run.specs.Meaning.{Setting}
use Rattle.spec_reuse.specs.Instantiation.{Instantiation, inside}
use Rattle.spec_reuse.specs.Serving.{IsOf, Fits}
use Rattle.spec_reuse.specs.Ledger.{AsksHold}
use Rattle.spec_reuse.specs.Record.{Runs, none, ran, records_in, streams_in, IsRunOf}
use Rattle.spec_trees.specs.Tree.{AllAsksHold, Says, SaysAlong, SaysAll}

-- ---- Lists

pub all_before : {N : Type 0} (ask : Question N → Answer N) (xs ys : List (Kept N)) → AllAsksHold ask (xs ++ ys) → AllAsksHold ask xs
all_before ask [] ys h = tt
all_before ask (x ∷ xs) ys h = (h.0, all_before ask xs ys h.1)

pub all_behind : {N : Type 0} (ask : Question N → Answer N) (xs ys : List (Kept N)) → AllAsksHold ask (xs ++ ys) → AllAsksHold ask ys
all_behind ask [] ys h = h
all_behind ask (x ∷ xs) ys h = all_behind ask xs ys h.1

pub all_both : {N : Type 0} (ask : Question N → Answer N) (xs ys : List (Kept N)) → AllAsksHold ask xs → AllAsksHold ask ys → AllAsksHold ask (xs ++ ys)
all_both ask [] ys h k = k
all_both ask (x ∷ xs) ys h k = (h.0, all_both ask xs ys h.1 k)

-- ---- Steps

module _ {N : Type 0} (same : N → N → Bool) where
  pub grown_end : (levels : ℕ) → SaysAlong same [] none levels
  grown_end levels s i streams e le asks all = (tt, tt)

  pub grown_asked : (question : Question N) (answer : Answer N) (es : List (Event N)) (runs : Runs N) (levels : ℕ) → SaysAlong same es runs levels
      → SaysAlong same (Asked question answer ∷ es) runs levels
  grown_asked question answer es runs levels h s i streams e le asks all =
      let rest = h s i streams e le asks.1 all in
      ((asks.0, rest.0), (asks.0, rest.1))

  pub grown_entered : (call : Call N) (depth : ℕ) (es : List (Event N)) (k : Kept N) (below rest : Runs N) (least levels : ℕ)
      → SaysAll same k below least → IsOf call k → suc (depth + least) ≤ levels → SaysAlong same es rest levels
      → SaysAlong same (Entered call depth ∷ es) (ran k below rest) levels
  grown_entered call depth es k below rest least levels tree of room h s i streams e le asks all =
      let inner = inside i depth call in
      let behind = all_behind s.ask (records_in below) (k ∷ records_in rest) all in
      let own : AllAsksHold s.ask (records_in below ++ k ∷ []) =
      all_both s.ask (records_in below) (k ∷ []) (all_before s.ask (records_in below) (k ∷ records_in rest) all) (behind.0, tt) in
      let said = tree.says s inner e (record { target = of.target; node = of.node; parameters = of.parameters }) (omega (arith, room, le)) own in
      let others = h s i (streams ++ filled k.content (streams_in below) ∷ []) e le asks behind.1 in (
        (omega (arith, room, le), said.is_run.fits, said.is_run.entered, others.0),
        (omega (arith, room, le, tree.height), said.stays, others.1),
      )

  pub grown_levels : (es : List (Event N)) (runs : Runs N) (levels more : ℕ) → levels ≤ more → SaysAlong same es runs levels
      → SaysAlong same es runs more
  grown_levels es runs levels more fewer h s i streams e le asks all = h s i streams e (omega (arith, fewer, le)) asks all

  pub grown_whole : (k : Kept N) (runs : Runs N) (levels : ℕ) → IsTrue same k → k.height ≤ levels → SaysAlong same k.trace runs levels
      → SaysAll same k runs levels
  grown_whole k runs levels lasting height h = record {
    height = height;
    says = λ s i e of le all.
        let own = all_behind s.ask (records_in runs) (k ∷ []) all in
        let along = h s i [] e le own.0 (all_before s.ask (records_in runs) (k ∷ []) all) in
        record {
          is_run = record {
            fits = record { lasting = subst (λ (f : N → N → Bool). IsTrue f k) (sym e) lasting; of_call = of; levels = omega (arith, height, le) };
            entered = along.0;
          };
          stays = along.1;
        };
  }
