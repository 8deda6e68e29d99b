use Rattle.std.proofs.Common.{◌≡◌, ◌++◌, drop, map}
use Rattle.std.specs.List.{filter}
use Rattle.spec_compile.specs.Content.{is_copied}
use Rattle.xt_content.specs.View.{around_in}
use Rattle.xt_names.specs.View.{entries_of, entry_of}
use Rattle.xt_content.proofs.literal.copied.Given as goal

abbrev pub invariant-loop-namespace : goal.invariant-loop-namespace
invariant-loop-namespace l =
    map entry_of l.list.items ++ filter (is_copied (around_in l.fn.around)) (entries_of (drop l.namespace-index l.namespaces))
    ≡ filter (is_copied (around_in l.fn.around)) (entries_of l.namespaces)
