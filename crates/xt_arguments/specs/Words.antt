-- The command line of the program as clap has it, and what words ask by clap's meaning of it.
use Rattle.std.specs.Prelude.{true, List, [], ◌∷◌, Option, None, Some, bytes_eq, codes, if◌then◌else◌}
use Rattle.clap.specs.Walk.{Row, Rule, Text, first_of}
use Rattle.clap.specs.Simple.{App, Shape, new_app, new_rule, new_shape, on_top, subcommand_of, with_subcommand}
use Rattle.clap.specs.Kinds.{Kinds}
use Rattle.clap.specs.Faults.{fault_of}
use Rattle.spec_session.specs.declared.kinds.Asked.{Asked}
use Rattle.spec_session.specs.declared.kinds.Asked.TheVariants.{Session, Demonstration, Nothing}
use Rattle.spec_session.specs.Asked.{is_size}
use Rattle.spec_session.specs.Request.{number_from}

-- two subcommands, of which one has one argument. There is no help and no version
abbrev pub session_shape : Shape
session_shape = new_shape (codes "session")

abbrev pub size_rule : Rule
size_rule = record (new_rule (codes "N")) { required = true }

abbrev pub demonstration_shape : Shape
demonstration_shape = record (new_shape (codes "demo")) { rules = size_rule ∷ [] }

abbrev pub without_help : Shape → Shape
without_help shape = record shape { disable_help_flag = true; disable_version_flag = true; disable_help_subcommand = true; subcommand_required = true }

abbrev pub app : App
app = with_subcommand (with_subcommand (on_top without_help (new_app (codes "xt"))) session_shape) demonstration_shape

-- what matches ask
abbrev pub asked_with : Option Text → Asked
asked_with None = Nothing
asked_with (Some word) = if is_size word then Demonstration (number_from 0 word) else Nothing

abbrev pub size_in : List Row → Asked
size_in rows = asked_with (first_of (codes "N") rows)

abbrev pub asked_by_name : Text → List Row → Asked
asked_by_name name rows = if bytes_eq name (codes "session") then Session else (if bytes_eq name (codes "demo") then size_in rows else Nothing)

abbrev pub asked_in : Option (Text × List Row) → Asked
asked_in None = Nothing
asked_in (Some (name, rows)) = asked_by_name name rows

-- clap refuses words where it finds a fault in them, and else matches them
abbrev pub where_none : Kinds → Asked → Asked
where_none [] asked = asked
where_none (fault ∷ more) asked = Nothing

abbrev pub asked_by_clap : List Text → Asked
asked_by_clap words = where_none (fault_of app words) (asked_in (subcommand_of app words))
