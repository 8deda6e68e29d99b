use Rattle.std.proofs.Common.{◌≡◌, List, ◌++◌, length}
use Rattle.xt_syntax.specs.declared.sheet.Alias.{Alias}
use Rattle.xt_compile.proofs.Lasting.{Keeps}
use Rattle.xt_compile.proofs.aliases.last_aliases.Given as goal

abbrev pub invariant-loop-alias : goal.invariant-loop-alias
invariant-loop-alias l = (later : List Alias) × (l.left.items ++ later ≡ l.fn.aliases.items) × Keeps l.last.items later

abbrev pub decreases-loop-alias : goal.decreases-loop-alias
decreases-loop-alias l = length l.left.items
