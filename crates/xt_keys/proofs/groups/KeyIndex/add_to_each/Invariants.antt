use Rattle.std.proofs.Common.{◌≡◌, ℕ, List, drop}
use Rattle.xt_keys.specs.View.{nodes_found, with_each}
use Rattle.xt_keys.proofs.groups.KeyIndex.add_to_each.Given as goal

abbrev pub invariant-loop-text : goal.invariant-loop-text
invariant-loop-text l =
    (sought : List ℕ) → with_each sought l.node (drop l.text-index l.texts) (nodes_found sought l.self) ≡ with_each sought l.node l.texts (nodes_found sought l.fn.self)
