use Rattle.std.proofs.Common.{◌≡◌, ℕ, List, map, take}
use Rattle.xt_questions.specs.Runs.{items}
use Rattle.xt_keys.specs.View.{having, nodes_found}
use Rattle.xt_keys.proofs.groups.grouped.Given as goal

abbrev pub invariant-loop-i : goal.invariant-loop-i
invariant-loop-i l = (text : List ℕ) → nodes_found text l.index ≡ having text (take l.i l.nodes) (take l.i (map items l.found))
