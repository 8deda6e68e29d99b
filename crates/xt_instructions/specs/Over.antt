-- A frame on top, or what is the same where it has nothing left.
use Rattle.std.specs.Prelude.{◌≡◌, ℕ, ◌≤◌, ◌+◌, suc, length}
use Rattle.spec_run.specs.Plan.{Plan, Wrap}
use Rattle.spec_run.specs.Going.{begun}
use Rattle.spec_node.specs.declared.node_ref.NodeRef.{NodeRef}
use Rattle.xt_engine.specs.declared.wrapping.Wrapping.{Wrapping}
use Rattle.xt_engine.specs.View.{wrapping_of}
use Rattle.xt_progress.specs.View.{going_of}
use Rattle.xt_frames.specs.declared.frame.Body.{Body}
use Rattle.xt_frames.specs.declared.frame.Frame.{Frame}
use Rattle.xt_frames.specs.declared.run.Run.{Run}
use Rattle.xt_frames.specs.View.{left_frame, after_body}
use Rattle.xt_frames.specs.Left.{left_in}

pub record IsOver (f : Frame) (old new : Run) : Type 0 where
  pub left : left_in new ≡ left_frame f (left_in old)
  pub frames : length new.frames.items ≤ suc (length old.frames.items)
  pub going : new.going ≡ old.going
  pub room : new.room ≡ old.room
  pub supplies : new.supplies ≡ old.supplies

-- this comes before what was left, in so many frames at most
pub record Precedes (first : Plan NodeRef → Plan NodeRef) (most : ℕ) (old new : Run) : Type 0 where
  pub left : left_in new ≡ first (left_in old)
  pub frames : length new.frames.items ≤ most + length old.frames.items
  pub going : new.going ≡ old.going
  pub room : new.room ≡ old.room
  pub supplies : new.supplies ≡ old.supplies

-- a sink is begun that ends so before the rest of this body
pub record HasBegun (end : Wrapping) (b : Body) (old new : Run) : Type 0 where
  pub left : left_in new ≡ Wrap (wrapping_of end) (after_body b (left_in old))
  pub frames : length new.frames.items ≤ 2 + length old.frames.items
  pub going : going_of new.going ≡ begun (going_of old.going)
  pub room : new.room ≡ old.room
  pub supplies : new.supplies ≡ old.supplies
