-- What an instantiation read holds in another world, with what it enters there: then it does the same there.
use Rattle.std.specs.Prelude.{◌≡◌, ℕ, List, [], ◌∷◌, ◌++◌, drop}
use Rattle.spec_stylesheet.specs.Place.{Place}
use Rattle.spec_meaning.specs.Stream.{Stream}
use Rattle.spec_meaning.specs.Question.{Question, Answer}
use Rattle.spec_meaning.specs.Program.{Wanted}
use Rattle.spec_run.specs.Plan.{Call}
use Rattle.spec_run.specs.Direct.{Supplied, Ending, Finished, Gave, Halted, Outcome}
use Rattle.spec_run.specs.Going.{Event, Asked, Saw, Entered, Held, Going}

abbrev pub GoesOn : {N : Type 0} → Ending N → Type 0
GoesOn Finished = Unit {0}
GoesOn (Gave value) = Unit {0}
GoesOn (Halted why) = ⊥

-- each question has that answer, the run gives what it gave, what is entered goes on, after the streams of those before it, and the streams
-- that were held are as they were
abbrev pub Hold : {N : Type 0} → (Question N → Answer N) → (Wanted → ℕ → Place → Supplied N) → (ℕ → Call N → Outcome N) → List Stream → List (Event N) → Type 0
Hold ask supply nested streams [] = Unit {0}
Hold ask supply nested streams (Asked question answer ∷ es) = (ask question ≡ answer) × Hold ask supply nested streams es
Hold ask supply nested streams (Saw wanted depth place supplied ∷ es) = (supply wanted depth place ≡ supplied) × Hold ask supply nested streams es
Hold ask supply nested streams (Entered call depth ∷ es) =
    GoesOn (nested depth call).ending × Hold ask supply nested (streams ++ (nested depth call).content ∷ []) es
Hold ask supply nested streams (Held first contents ∷ es) = (drop first streams ≡ contents) × Hold ask supply nested streams es

-- the streams of what is entered
abbrev pub came : {N : Type 0} → (ℕ → Call N → Outcome N) → List (Event N) → List Stream
came nested [] = []
came nested (Entered call depth ∷ es) = (nested depth call).content ∷ came nested es
came nested (Asked question answer ∷ es) = came nested es
came nested (Saw wanted depth place supplied ∷ es) = came nested es
came nested (Held first contents ∷ es) = came nested es

-- a run that has these streams in place of its own
abbrev pub over : {N : Type 0} → List Stream → Going N → Going N
over streams g = record { top = g.top; outer = g.outer; trace = g.trace; height = g.height; streams = streams }
