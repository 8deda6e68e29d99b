use Rattle.std.proofs.Common.{◌≡◌, ◌++◌, drop}
use Rattle.spec_items.specs.Lifted.{path_text}
use Rattle.xt_lift.proofs.item_name.path_text.Given as goal

-- what is written, and what is to be written of the rest, are all
abbrev pub invariant-loop-position : goal.invariant-loop-position
invariant-loop-position l = l.text ++ path_text (drop l.position-index l.position-items) ≡ path_text l.position-items
