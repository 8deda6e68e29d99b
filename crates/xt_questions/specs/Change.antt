-- Reads that are asked again.
use Rattle.std.specs.Prelude.{◌≡◌, ℕ, ◌+◌, List, [], ◌∷◌, take, drop, Option, Some, None}
use Rattle.spec_meaning.specs.Question.{Question, Answer}
use Rattle.spec_meaning.specs.Program.{Read, Asked, Saw}

-- the question has its answer still; what was seen of the run is not asked of a world
abbrev pub Stands : {N : Type 0} → (Question N → Answer N) → Read N → Type 0
Stands truth (Asked question answer) = truth question ≡ answer
Stands truth (Saw wanted depth given) = Unit {0}

abbrev pub AllStand : {N : Type 0} → (Question N → Answer N) → List (Read N) → Type 0
AllStand truth [] = Unit {0}
AllStand truth (read ∷ reads) = Stands truth read × AllStand truth reads

-- it has another answer now
abbrev pub Changes : {N : Type 0} → (Question N → Answer N) → Read N → Type 0
Changes truth read = Stands truth read → ⊥

abbrev pub FirstChanges : {N : Type 0} → (Question N → Answer N) → List (Read N) → Type 0
FirstChanges truth [] = ⊥
FirstChanges truth (read ∷ reads) = Changes truth read

-- none: all stand; else all before it stand, and it does not
abbrev pub IsFirstChange : {N : Type 0} → (Question N → Answer N) → List (Read N) → Option ℕ → Type 0
IsFirstChange truth reads None = AllStand truth reads
IsFirstChange truth reads (Some i) = AllStand truth (take i reads) × FirstChanges truth (drop i reads)

-- how many of the reads are asked
abbrev pub asked_by : {N : Type 0} → Read N → ℕ
asked_by (Asked question answer) = 1
asked_by (Saw wanted depth given) = 0

abbrev pub asked_in : {N : Type 0} → List (Read N) → ℕ
asked_in [] = 0
asked_in (read ∷ reads) = asked_by read + asked_in reads

-- how many of them up to the first that has another answer
abbrev pub asked_until : {N : Type 0} → List (Read N) → Option ℕ → ℕ
asked_until reads None = asked_in reads
asked_until reads (Some i) = asked_in (take (i + 1) reads)
