-- All nodes for which the template of a content is entered.
use Rattle.std.proofs.Common.{◌≡◌, ℕ, List, length, Option, None, Some, refl}
use Rattle.spec_stylesheet.specs.Place.{Place}
use Rattle.spec_meaning.specs.Context.{Bound}
use Rattle.spec_run.specs.Plan.{Plan}
use Rattle.spec_run.specs.Content.{items_entered}
use Rattle.spec_node.specs.declared.node_ref.NodeRef.{NodeRef}
use Rattle.xt_frames.specs.View.{items_by}

-- none of them is entered yet
pub all_items : (by : Place) (element : Option NodeRef) (parameters : List (Bound NodeRef)) (depth : ℕ) (ns : List NodeRef) (after : Plan NodeRef)
    → items_by by element parameters (length ns) depth 0 ns after ≡ items_entered by element parameters depth ns after
all_items by None parameters depth ns after = refl
all_items by (Some element) parameters depth ns after = refl
