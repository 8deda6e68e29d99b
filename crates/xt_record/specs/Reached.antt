-- How far a tree has grown from the end of what its call did.
--     IsReached   where these events are behind it
--     Reaches     one event further
use Rattle.std.specs.Prelude.{◌≡◌, ℕ, suc, ◌++◌, [], ◌∷◌, List, map, length, reverse}
use Rattle.spec_run.specs.Going.{Event, Asked, Saw, Entered, Held}
use Rattle.spec_reuse.specs.Record.{Runs, records_in, streams_in}
use Rattle.spec_trees.specs.Tree.{SaysAlong}
use Rattle.spec_node.specs.declared.node_ref.NodeRef.{NodeRef}
use Rattle.spec_node.specs.Naming.{same_ref}
use Rattle.xt_tree.specs.StreamView.{streams_of}
use Rattle.xt_record.specs.View.{kept_in}
use Rattle.xt_record.specs.Grown.{AllNamed, AsksNamed}
use Rattle.xt_record.specs.declared.reach.Reach.{Reach}
use Rattle.xt_record.specs.declared.record.Record.{Record}

-- how many calls were entered
abbrev pub entered_in : List (Event NodeRef) → ℕ
entered_in [] = 0
entered_in (Asked question answer ∷ es) = entered_in es
entered_in (Saw wanted depth place supplied ∷ es) = entered_in es
entered_in (Entered call depth ∷ es) = suc (entered_in es)
entered_in (Held first contents ∷ es) = entered_in es

-- the records from its end on are those of what was entered along these events, and it says of them what they say
pub record IsReached (vs : List Record) (es : List (Event NodeRef)) (reach : Reach) : Type 0 where
  pub front : List Record
  pub tail : List Record
  pub parts : vs ≡ front ++ tail
  pub ends : length front ≡ reach.end
  pub runs : Runs NodeRef
  pub records : records_in runs ≡ map kept_in tail
  pub content : streams_in runs ≡ reverse (streams_of reach.parts.items)
  pub own : AsksNamed reach.named es
  pub named : AllNamed reach.named tail
  pub says : SaysAlong same_ref es runs reach.levels

abbrev pub Reaches : List Record → Event NodeRef → (before after : Reach) → Type 0
Reaches vs e before after = (es : List (Event NodeRef)) → IsReached vs es before → IsReached vs (e ∷ es) after
