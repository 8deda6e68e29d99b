-- The commands that are left.
use Rattle.std.specs.Prelude.{◌≤◌, ◌*◌, List, [], ◌∷◌, ◌++◌, ⊤}
use Rattle.spec_session.specs.Command.{Command}
use Rattle.spec_session.specs.Generated.{generated, changes, source_command, first_place, show_command}
use Rattle.xt_demo.specs.View.{IsWithin, place_of}
use Rattle.xt_demo.specs.declared.generator.Next.{Next}
use Rattle.xt_demo.specs.declared.generator.Next.TheVariants.{Module, Source, Changes, Nothing}

abbrev pub commands_left : Next → List Command
commands_left (Module size) = generated size
commands_left (Source size) = source_command (20 * size) size ∷ (changes (10 * size) (first_place size) ++ show_command ∷ [])
commands_left (Changes place) = changes place.left (place_of place) ++ show_command ∷ []
commands_left Nothing = []

abbrev pub IsReady : Next → Type 0
IsReady (Module size) = (1 ≤ size) × (size ≤ 1000)
IsReady (Source size) = (1 ≤ size) × (size ≤ 1000)
IsReady (Changes place) = IsWithin place
IsReady Nothing = ⊤
