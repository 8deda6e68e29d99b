use Rattle.std.proofs.Common.{◌≡◌, ◌++◌, drop}
use Rattle.std.specs.Option.{option_map}
use Rattle.xt_tree.specs.View.{forest_of}
use Rattle.xt_edit.specs.MoveTelling.{number_in}
use Rattle.xt_edit.specs.Reordered.{gone_from}
use Rattle.xt_edit.specs.Telling.{numbers_in}
use Rattle.xt_edit.proofs.reordered.push_gone.Given as goal

-- what is there, with what is gone of the siblings that are left, is all
abbrev pub invariant-loop-sibling : goal.invariant-loop-sibling
invariant-loop-sibling l =
    numbers_in l.list.items ++ gone_from (option_map number_in l.staying) (numbers_in l.kept) (forest_of (drop l.sibling-index l.siblings))
    ≡ numbers_in l.fn.list.items ++ gone_from (option_map number_in l.staying) (numbers_in l.fn.kept) (forest_of l.siblings)
