use Rattle.std.proofs.Common.{length}
use Rattle.xt_names.specs.SearchTree.{link_entries}
use Rattle.xt_names.proofs.search_tree.+put.Given as goal

abbrev pub decreases-put : goal.decreases-put
decreases-put l = length (link_entries l.link.now)
