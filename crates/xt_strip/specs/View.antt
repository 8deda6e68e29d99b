-- What the types of the program stand for.
use Rattle.std.specs.Prelude.{ℕ}
use Rattle.spec_document.specs.Forest as spec
use Rattle.spec_edit.specs.Splice.{content_replaced, replaced}
use Rattle.spec_seen.specs.Seen as seen
use Rattle.xt_strip.specs.declared.along.Change.{Change}
use Rattle.xt_strip.specs.declared.along.Change.TheVariants as change
use Rattle.xt_strip.specs.declared.walk.Around.{Around}
use Rattle.xt_strip.specs.declared.walk.Sight.{Sight}
use Rattle.xt_strip.specs.declared.walk.Sight.TheVariants as sight
use Rattle.xt_tree.specs.View.{Tree, forest_of, tree_of}

abbrev pub around_of : Around → seen.Around
around_of a = record { scope = a.scope; preserves = a.preserves; strips = a.strips }

-- what is seen of a node, before what is seen of its siblings
abbrev pub before : Sight → Tree → spec.Forest ℕ → spec.Forest ℕ
before sight.Whole node siblings = spec.Node node.number node.content node.children siblings
before sight.Nothing node siblings = siblings
before (sight.With nodes) node siblings = spec.Node node.number node.content nodes siblings

-- siblings that are changed so
abbrev pub changed : Change → spec.Forest ℕ → spec.Forest ℕ
changed (change.Others from to others) siblings = replaced from to (forest_of others.now) siblings
changed (change.Content position node) siblings = content_replaced position (tree_of node.now.value).content siblings
