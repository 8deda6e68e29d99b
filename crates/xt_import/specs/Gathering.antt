-- Gathering modules and putting their stylesheets in order with a list of what is still to be done; and how much that is.
use Rattle.std.specs.Prelude.{◌≡◌, ◌+◌, ◌-◌, ◌≤◌, ◌<◌, ℕ, zero, suc, Bool, true, List, [], ◌∷◌, ◌++◌, length, map, Option, None, Some, Vec}
use Rattle.std.specs.declared.alloc.Global.{Global}
use Rattle.spec_document.specs.Forest.{Plain}
use Rattle.spec_structure.specs.Modules as spec
use Rattle.spec_structure.specs.Modules.{Modules, TopLevel, Own, Imports, Includes, Gathers, IsOrdered, top_levels_of}
use Rattle.xt_import.specs.declared.gather.Target.{Target}
use Rattle.xt_import.specs.declared.gather.Pending.{Pending}
use Rattle.xt_import.specs.declared.gather.Pending.TheVariants as pending
use Rattle.xt_import.specs.declared.precedence.Part.{Part}
use Rattle.xt_import.specs.declared.precedence.Task.{Task}
use Rattle.xt_import.specs.declared.precedence.Task.TheVariants as task
use Rattle.xt_import.specs.Parts.{part_in}

abbrev pub targets_in : List Target → List (List ℕ)
targets_in targets = map (λ t. t.name) targets

abbrev pub parts_in : List Part → List spec.Part
parts_in parts = map part_in parts

-- what an element at the top of a module leaves to be done, where the modules that it names may have so many on the way down
abbrev pub pending_by : List ℕ → ℕ → TopLevel → Pending
pending_by name depth (Own path) = pending.Own (record { module_name = name; path = path })
pending_by name depth (Imports href) = pending.Imports (record { name = href; depth = depth })
pending_by name depth (Includes href) = pending.Includes (record { name = href; depth = depth })

abbrev pub pendings_by : List ℕ → ℕ → List TopLevel → List Pending
pendings_by name depth levels = map (pending_by name depth) levels

abbrev pub orders_of : List Target → List Task
orders_of targets = map (λ t. task.Order t) targets

-- ---- Gathering: with these imports and parts so far, what is still to be done comes to those

pub data Comes (modules : Modules) : List (List ℕ) → List spec.Part → List Pending → List (List ℕ) → List spec.Part → Type 0 where
  all_done : {names : List (List ℕ)} {parts : List spec.Part} → Comes modules names parts [] names parts
  next_own : {names to : List (List ℕ)} {parts all : List spec.Part} {more : List Pending} {p : Part}
      → Comes modules names (parts ++ part_in p ∷ []) more to all → Comes modules names parts (pending.Own p ∷ more) to all
  next_imports : {names to : List (List ℕ)} {parts all : List spec.Part} {more : List Pending} {t : Target}
      → Comes modules (names ++ t.name ∷ []) parts more to all → Comes modules names parts (pending.Imports t ∷ more) to all
  next_includes : {names to its : List (List ℕ)} {parts all own : List spec.Part} {more : List Pending} {t : Target}
      → Gathers modules t.name its own → Comes modules (names ++ its) (parts ++ own) more to all
      → Comes modules names parts (pending.Includes t ∷ more) to all

-- ---- The walk: after these stylesheets, what is still to be done comes to those

pub data Walks (modules : Modules) : List spec.Stylesheet → List Task → List spec.Stylesheet → Type 0 where
  at_end : {sheets : List spec.Stylesheet} → Walks modules sheets [] sheets
  next_ordered : {sheets its to : List spec.Stylesheet} {more : List Task} {t : Target}
      → IsOrdered modules t.name its → Walks modules (sheets ++ its) more to → Walks modules sheets (task.Order t ∷ more) to
  next_closed : {sheets to : List spec.Stylesheet} {more : List Task} {parts : Vec Part Global} {start : ℕ}
      → Walks modules (sheets ++ record { parts = parts_in parts.items; imported = length sheets - start } ∷ []) more to
      → Walks modules sheets (task.Close parts start ∷ more) to

-- ---- How much is to be done

abbrev pub level_cost : (List ℕ → ℕ) → TopLevel → ℕ
level_cost cost (Own path) = 1
level_cost cost (Imports href) = 1 + cost href
level_cost cost (Includes href) = 1 + cost href

abbrev pub levels_cost : (List ℕ → ℕ) → List TopLevel → ℕ
levels_cost cost [] = 0
levels_cost cost (t ∷ ts) = level_cost cost t + levels_cost cost ts

abbrev pub cost_by : (List ℕ → ℕ) → Option Plain → ℕ
cost_by cost None = 0
cost_by cost (Some tree) = levels_cost cost (top_levels_of 1 tree)

-- at a module with so many on the way down, itself among them
abbrev pub cost : Modules → ℕ → List ℕ → ℕ
cost modules zero name = 2
cost modules (suc depth) name = 2 + cost_by (cost modules depth) (modules name)

abbrev pub pending_cost : Modules → Pending → ℕ
pending_cost modules (pending.Own p) = 1
pending_cost modules (pending.Imports t) = 1 + cost modules t.depth t.name
pending_cost modules (pending.Includes t) = 1 + cost modules t.depth t.name

abbrev pub pendings_cost : Modules → List Pending → ℕ
pendings_cost modules [] = 0
pendings_cost modules (p ∷ ps) = pending_cost modules p + pendings_cost modules ps

abbrev pub targets_cost : Modules → List Target → ℕ
targets_cost modules [] = 0
targets_cost modules (t ∷ ts) = cost modules t.depth t.name + targets_cost modules ts

abbrev pub task_cost : Modules → Task → ℕ
task_cost modules (task.Order t) = cost modules t.depth t.name
task_cost modules (task.Close parts start) = 1

abbrev pub tasks_cost : Modules → List Task → ℕ
tasks_cost modules [] = 0
tasks_cost modules (t ∷ ts) = task_cost modules t + tasks_cost modules ts

-- ---- That all modules are held, and none is deeper than the walk goes

abbrev pub LevelFits : (List ℕ → Type 0) → TopLevel → Type 0
LevelFits Fits (Own path) = Unit {0}
LevelFits Fits (Imports href) = Fits href
LevelFits Fits (Includes href) = Fits href

abbrev pub LevelsFit : (List ℕ → Type 0) → List TopLevel → Type 0
LevelsFit Fits [] = Unit {0}
LevelsFit Fits (t ∷ ts) = LevelFits Fits t × LevelsFit Fits ts

abbrev pub FitsBy : (List ℕ → Type 0) → Option Plain → Type 0
FitsBy Fits None = ⊥
FitsBy Fits (Some tree) = LevelsFit Fits (top_levels_of 1 tree)

abbrev pub Fits : Modules → ℕ → List ℕ → Type 0
Fits modules zero name = ⊥
Fits modules (suc depth) name = FitsBy (Fits modules depth) (modules name)

abbrev pub PendingFits : Modules → Pending → Type 0
PendingFits modules (pending.Own p) = Unit {0}
PendingFits modules (pending.Imports t) = Fits modules t.depth t.name
PendingFits modules (pending.Includes t) = Fits modules t.depth t.name

abbrev pub PendingsFit : Modules → List Pending → Type 0
PendingsFit modules [] = Unit {0}
PendingsFit modules (p ∷ ps) = PendingFits modules p × PendingsFit modules ps

abbrev pub TargetsFit : Modules → List Target → Type 0
TargetsFit modules [] = Unit {0}
TargetsFit modules (t ∷ ts) = Fits modules t.depth t.name × TargetsFit modules ts

abbrev pub TaskFits : Modules → Task → Type 0
TaskFits modules (task.Order t) = Fits modules t.depth t.name
TaskFits modules (task.Close parts start) = Unit {0}

abbrev pub TasksFit : Modules → List Task → Type 0
TasksFit modules [] = Unit {0}
TasksFit modules (t ∷ ts) = TaskFits modules t × TasksFit modules ts

-- ---- What calls do

-- a module is entered: what it says comes in front of what was to be done
pub record IsEntered (modules : Modules) (target : Target) (held : Bool) (before after : List Pending) : Type 0 where
  pub comes : held ≡ true → {names to : List (List ℕ)} {parts all : List spec.Part} → Comes modules names parts after to all
      → Comes modules names parts (pending.Includes target ∷ before) to all
  pub less : held ≡ true → pendings_cost modules after + 2 ≤ cost modules target.depth target.name + pendings_cost modules before
  pub fits : Fits modules target.depth target.name → (held ≡ true) × (PendingsFit modules before → PendingsFit modules after)

-- what is to be done first is done
pub record IsDone (modules : Modules) (held : Bool) (imports now : List Target) (parts own : List Part) (before after : List Pending) : Type 0 where
  pub comes : held ≡ true → {to : List (List ℕ)} {all : List spec.Part} → Comes modules (targets_in now) (parts_in own) after to all
      → Comes modules (targets_in imports) (parts_in parts) before to all
  pub less : held ≡ true → targets_cost modules now + pendings_cost modules after < targets_cost modules imports + pendings_cost modules before
  pub smaller : held ≡ true → pendings_cost modules after < pendings_cost modules before
  pub fits : PendingsFit modules before → (held ≡ true) × PendingsFit modules after × (TargetsFit modules imports → TargetsFit modules now)

-- a module with those that it includes
pub record IsGathered (modules : Modules) (target : Target) (imports : List Target) (parts : List Part) : Type 0 where
  pub gathers : Gathers modules target.name (targets_in imports) (parts_in parts)
  pub less : targets_cost modules imports + 2 ≤ cost modules target.depth target.name
  pub fits : Fits modules target.depth target.name → TargetsFit modules imports

-- the first task is done
pub record IsTaken (modules : Modules) (held : Bool) (sheets now : List spec.Stylesheet) (before after : List Task) : Type 0 where
  pub walks : held ≡ true → {to : List spec.Stylesheet} → Walks modules now after to → Walks modules sheets before to
  pub less : held ≡ true → tasks_cost modules after < tasks_cost modules before
  pub fits : TasksFit modules before → (held ≡ true) × TasksFit modules after

-- ---- Where the loops are

pub record IsUnderway (modules : Modules) (target : Target) (imports : List Target) (parts : List Part) (left : List Pending) : Type 0 where
  pub comes : {to : List (List ℕ)} {all : List spec.Part} → Comes modules (targets_in imports) (parts_in parts) left to all
      → Comes modules [] [] (pending.Includes target ∷ []) to all
  pub less : targets_cost modules imports + pendings_cost modules left + 2 ≤ cost modules target.depth target.name
  pub fits : Fits modules target.depth target.name → PendingsFit modules left × TargetsFit modules imports

pub record IsOnTheWay (modules : Modules) (main : List ℕ) (depth : ℕ) (sheets : List spec.Stylesheet) (left : List Task) : Type 0 where
  pub walks : {to : List spec.Stylesheet} → Walks modules sheets left to → IsOrdered modules main to
  pub fits : Fits modules depth main → TasksFit modules left
