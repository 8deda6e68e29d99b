-- The steps that a run takes by itself are taken with other levels below its own too, where there is room for its height.
use Rattle.std.proofs.Common.{ℕ, ◌≤◌, Option, arith}
use Rattle.std.proofs.lemmas.Bool.{le-ltb}
use Rattle.spec_meaning.specs.Question.{Question, Answer}
use Rattle.spec_meaning.specs.Program.{Wanted, Given}
use Rattle.spec_run.specs.Plan.{Plan, End, Yield, Stop, Inquire, Use, Put, Begin, Wrap, Take, Deep, Enter}
use Rattle.spec_run.specs.Going.{Going}
use Rattle.spec_run.specs.Passes.{Passes, stays, asks, uses, puts, begins, wraps, takes, goes_deep, is_too_deep}
use Rattle.spec_run.proofs.Trails.{higher_left}

-- it is not at a refusal
abbrev pub GoesFrom : {N : Type 0} → Plan N → Type 0
GoesFrom End = Unit {0}
GoesFrom (Yield value) = Unit {0}
GoesFrom (Stop why) = ⊥
GoesFrom (Inquire question next) = Unit {0}
GoesFrom (Use wanted depth place next) = Unit {0}
GoesFrom (Put items next) = Unit {0}
GoesFrom (Begin next) = Unit {0}
GoesFrom (Wrap how next) = Unit {0}
GoesFrom (Take next) = Unit {0}
GoesFrom (Deep depth place next) = Unit {0}
GoesFrom (Enter call depth next) = Unit {0}

pub went_from : {N : Type 0} {ask : Question N → Answer N} {hand : ℕ → Wanted → Option (Given N)} {room : ℕ} {p : Plan N} {g : Going N} {q : Plan N} {h : Going N} → Passes ask hand room p g q h → GoesFrom q → GoesFrom p
went_from stays k = k
went_from (asks s) k = tt
went_from (uses e s) k = tt
went_from (puts s) k = tt
went_from (begins s) k = tt
went_from (wraps s) k = tt
went_from (takes s) k = tt
went_from (goes_deep e s) k = tt
went_from (is_too_deep e) k = tt

pub passes_height : {N : Type 0} {ask : Question N → Answer N} {hand : ℕ → Wanted → Option (Given N)} {room : ℕ} {p : Plan N} {g : Going N} {q : Plan N} {h : Going N} → Passes ask hand room p g q h → g.height ≤ h.height
passes_height stays = omega arith
passes_height (asks s) = passes_height s
passes_height (uses e s) = passes_height s
passes_height (puts s) = passes_height s
passes_height (begins s) = passes_height s
passes_height (wraps s) = passes_height s
passes_height (takes s) = passes_height s
passes_height (goes_deep {depth = d} {g = g} e s) = let i = passes_height s in let j = higher_left g.height d in omega (arith, i, j.0)
passes_height (is_too_deep e) = omega arith

pub passes_there : {N : Type 0} {ask : Question N → Answer N} {hand : ℕ → Wanted → Option (Given N)} {room : ℕ} {p : Plan N} {g : Going N} {q : Plan N} {h : Going N} (other : ℕ)
    → Passes ask hand room p g q h → GoesFrom q → h.height ≤ other → Passes ask hand other p g q h
passes_there other stays k l = stays
passes_there other (asks s) k l = asks (passes_there other s k l)
passes_there other (uses e s) k l = uses e (passes_there other s k l)
passes_there other (puts s) k l = puts (passes_there other s k l)
passes_there other (begins s) k l = begins (passes_there other s k l)
passes_there other (wraps s) k l = wraps (passes_there other s k l)
passes_there other (takes s) k l = takes (passes_there other s k l)
passes_there other (goes_deep {depth = d} {g = g} e s) k l =
    let i = passes_height s in
    let j = higher_left g.height d in
    goes_deep (le-ltb other d (omega (arith, i, j.1, l))) (passes_there other s k l)
passes_there other (is_too_deep e) k l = absurd k
