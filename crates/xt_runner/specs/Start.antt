-- How instantiations begin.
use Rattle.std.specs.Prelude.{◌≡◌, ◌≤◌, ℕ, List, length, Option, None, Some}
use Rattle.spec_stylesheet.specs.Sheet.{Declared}
use Rattle.spec_meaning.specs.Value as value
use Rattle.spec_run.specs.Plan.{Plan, Yield}
use Rattle.xt_syntax.specs.SheetView.{declared_of}
use Rattle.spec_node.specs.declared.node_ref.NodeRef.{NodeRef}
use Rattle.xt_frames.specs.declared.standing.Standing.{Standing}
use Rattle.xt_frames.specs.declared.run.Run.{Run}
use Rattle.xt_frames.specs.Left.{left_in}

-- this is left, in one frame at most, and nothing is done
pub record Begun (p : Plan NodeRef) (old new : Run) : Type 0 where
  pub left : left_in new ≡ p
  pub few : length new.frames.items ≤ 1
  pub going : new.going ≡ old.going
  pub room : new.room ≡ old.room
  pub supplies : new.supplies ≡ old.supplies

-- what stands here
abbrev pub declared_in : Standing → Declared
declared_in s = declared_of s.unit.value.unit.value.declared

-- a text that is given is the value
abbrev pub unless_text : Option (List ℕ) → Plan NodeRef → Plan NodeRef
unless_text None own = own
unless_text (Some text) own = Yield (value.Text text)
