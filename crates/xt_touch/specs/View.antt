-- What the types of this crate stand for.
use Rattle.std.specs.Prelude.{ℕ, Bool, true, false, List, [], ◌∷◌, ◌++◌, length, map, nat_lt, if◌then◌else◌}
use Rattle.std.specs.List.{list_all, list_any}
use Rattle.spec_move.specs.Changed.{MoveChange, in_order, between}
use Rattle.spec_touch.specs.Marks as spec
use Rattle.xt_edit.specs.MoveTelling.{move_change_in}
use Rattle.xt_edit.specs.Telling.{change_in, numbers_in}
use Rattle.xt_touch.specs.declared.marks.Cause.{Cause}
use Rattle.xt_touch.specs.declared.marks.Cause.TheVariants as cause
use Rattle.xt_touch.specs.declared.marks.Marks.{Marks}
use Rattle.xt_touch.specs.declared.moved.MoveMarks.{MoveMarks}
use Rattle.xt_touch.specs.declared.moved.MoveMarks.TheVariants as moves
use Rattle.xt_touch.specs.declared.since.Since.{Since}
use Rattle.xt_touch.specs.declared.world_change.WorldChange.{WorldChange}
use Rattle.xt_touch.specs.declared.world_change.WorldChange.TheVariants as code

abbrev pub world_change_of : WorldChange → spec.WorldChange
world_change_of (code.SourceEdited change asking loose) = spec.SourceEdited (change_in change) asking (numbers_in loose.items)
world_change_of (code.SourceMoved change asking) = spec.SourceMoved (move_change_in change) asking
world_change_of (code.ModulesChanged units asking) = spec.ModulesChanged units asking
world_change_of (code.ParameterGiven name) = spec.ParameterGiven name
world_change_of code.Anything = spec.Anything

abbrev pub moved_by : MoveMarks → MoveChange
moved_by (moves.InOrder change) = in_order change
moved_by (moves.Between left entered) = between left entered

abbrev pub caused_by : Cause → spec.WorldChange
caused_by (cause.Edit change asking loose) = spec.SourceEdited change asking loose
caused_by (cause.Move marks asking) = spec.SourceMoved (moved_by marks) asking
caused_by (cause.Modules units asking) = spec.ModulesChanged units asking
caused_by (cause.Parameter name) = spec.ParameterGiven name
caused_by cause.Anything = spec.Anything

-- the change whose marks these are
abbrev pub marked_by : Marks → spec.WorldChange
marked_by marks = caused_by marks.cause

-- ---- Changes one after the other

abbrev pub since_of : Since → List spec.WorldChange
since_of since = map (λ marks. marked_by marks.value) since.changes.items

-- as many are remembered
abbrev pub most_remembered : ℕ
most_remembered = 256

-- one more; where there are too many, anything may be another
abbrev pub remembered : List spec.WorldChange → spec.WorldChange → List spec.WorldChange
remembered changes change = if nat_lt (length changes) most_remembered then changes ++ change ∷ [] else spec.Anything ∷ []

-- what leaves the stylesheet as it was
abbrev pub keeps_sheet : spec.WorldChange → Bool
keeps_sheet (spec.SourceEdited change asking loose) = true
keeps_sheet (spec.SourceMoved change asking) = true
keeps_sheet (spec.ModulesChanged units asking) = false
keeps_sheet (spec.ParameterGiven name) = true
keeps_sheet spec.Anything = false

abbrev pub keep_sheet : List spec.WorldChange → Bool
keep_sheet changes = list_all keeps_sheet changes

abbrev pub is_move : spec.WorldChange → Bool
is_move (spec.SourceEdited change asking loose) = false
is_move (spec.SourceMoved change asking) = true
is_move (spec.ModulesChanged units asking) = false
is_move (spec.ParameterGiven name) = false
is_move spec.Anything = false

abbrev pub some_move : List spec.WorldChange → Bool
some_move changes = list_any is_move changes
