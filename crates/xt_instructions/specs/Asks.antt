-- What comes of the keys of nodes that are asked one after another (XSLT 1.0, section 10).
use Rattle.std.specs.Prelude.{ℕ, Option, None, Some, slice_get, Vec}
use Rattle.std.specs.Global.{Global}
use Rattle.spec_stylesheet.specs.Place.{Place}
use Rattle.spec_stylesheet.specs.Instruction as made
use Rattle.spec_meaning.specs.Stream.{filled}
use Rattle.spec_meaning.specs.Question.{Question, Answer}
use Rattle.spec_meaning.specs.Program.{Supply}
use Rattle.spec_run.specs.Plan.{Plan, nowhere}
use Rattle.spec_run.specs.Going as plain
use Rattle.spec_run.specs.Going.{closed}
use Rattle.spec_run.specs.Passes.{Passes}
use Rattle.spec_node.specs.declared.node_ref.NodeRef.{NodeRef}
use Rattle.xt_engine.specs.View.{refused_of}
use Rattle.xt_engine.specs.Advances.{Stops, Misses}
use Rattle.xt_progress.specs.View.{going_of}
use Rattle.xt_sort.specs.declared.row.Criterion.{Criterion}
use Rattle.xt_sort.specs.declared.row.KeyValue.{KeyValue}
use Rattle.xt_sort.specs.declared.row.Row.{Row}
use Rattle.xt_frames.specs.declared.frame.Sorting.{Sorting}
use Rattle.xt_frames.specs.declared.frame.Frame.TheVariants as frames
use Rattle.xt_frames.specs.declared.run.Run.{Run}
use Rattle.xt_frames.specs.declared.run.Came.{Came}
use Rattle.xt_frames.specs.declared.run.Came.TheVariants as came
use Rattle.xt_frames.specs.View.{keys_in, left_frame}
use Rattle.xt_frames.specs.Left.{hand, IsStill}

-- where a key stands
abbrev pub place_if : Option made.SortKey → Place
place_if None = nowhere
place_if (Some key) = key.site.place

abbrev pub place_at : Sorting → ℕ → Place
place_at s number = place_if (slice_get (keys_in s) number)

-- the same with other criteria, or with other rows and keys
abbrev pub with_criteria : Sorting → Vec Criterion Global → Sorting
with_criteria s criteria = record { keys = s.keys; here = s.here; criteria = criteria; rows = s.rows; values = s.values; nodes = s.nodes; to = s.to }

abbrev pub with_rows : Sorting → Vec Row Global → Vec KeyValue Global → Sorting
with_rows s rows values = record { keys = s.keys; here = s.here; criteria = s.criteria; rows = rows; values = values; nodes = s.nodes; to = s.to }

-- What was left has passed to what is left; where a global is lacking, it is what is left that lacks it, at this place
abbrev pub AsksSo : {X : Type 0} → (Question NodeRef → Answer NodeRef) → (ℕ → Supply NodeRef) → ℕ → (was left : Plan NodeRef) → ℕ → Place → (old new : plain.Going NodeRef) → Came X → Type 0
AsksSo ask hand room was left depth place old new (came.Is _) = Passes ask hand room was old left new
AsksSo ask hand room was left depth place old new (came.Halts why) = Stops ask hand room was old (refused_of why) (filled (closed new) new.streams)
AsksSo ask hand room was left depth place old new (came.Lacks name) = Passes ask hand room was old left new × Misses ask hand room left new name depth place

-- from these nodes that are sorted to those, where the key of this number is the next
pub record Asks {X : Type 0} (ask : Question NodeRef → Answer NodeRef) (old new : Run) (s t : Sorting) (number : ℕ) (result : Came X) : Type 0 where
  pub so : (after : Plan NodeRef) → AsksSo ask (hand old) old.room (left_frame (frames.Sorting s) after) (left_frame (frames.Sorting t) after) t.here.depth (place_at t number) (going_of old.going) (going_of new.going) result
  pub still : IsStill old new

-- what holds where all was asked, and where a global is lacking
abbrev pub Ends : {X : Type 0} → (all lacks : Type 0) → Came X → Type 0
Ends all lacks (came.Is _) = all
Ends all lacks (came.Halts why) = Unit {0}
Ends all lacks (came.Lacks name) = lacks
