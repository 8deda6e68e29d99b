-- The numbers that stand in replies for the codes.
use Rattle.std.specs.Prelude.{ℕ}
use Rattle.xt_base.specs.declared.codes.EditCode.{EditCode}
use Rattle.xt_base.specs.declared.codes.EditCode.TheVariants as edit

-- `no N`
abbrev pub edit_number : EditCode → ℕ
edit_number edit.Memory = 1
edit_number edit.NotUtf8 = 2
edit_number edit.UnknownCommand = 3
edit_number edit.BadArguments = 4
edit_number edit.NoDocument = 5
edit_number edit.NoPlace = 6
edit_number edit.WrongKind = 7
edit_number edit.BadLine = 8
edit_number edit.Unbalanced = 9
edit_number edit.BadName = 10
edit_number edit.TooDeep = 11
edit_number edit.TooManyNodes = 12
edit_number edit.DoubleAttribute = 14
edit_number edit.MoveBelowItself = 15
edit_number edit.BatchOpen = 16
edit_number edit.NoBatch = 17
edit_number edit.SharedInBatch = 18
edit_number edit.NothingToUndo = 19
edit_number edit.NothingToRedo = 20
