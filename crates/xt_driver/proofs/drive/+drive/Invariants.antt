use Rattle.std.proofs.Common.{◌≡◌, ◌+◌, ◌*◌, ◌-◌, ◌^◌}
use Rattle.xt_tree.specs.StreamView.{streams_of}
use Rattle.xt_engine.specs.View.{call_of}
use Rattle.xt_engine.specs.Advances.{gift_of}
use Rattle.xt_record.specs.View.{kept_in}
use Rattle.xt_record.specs.Sure.{IsSure}
use Rattle.xt_driver.specs.View.{setting_of, past_of}
use Rattle.xt_driver.specs.Remembered.{Keeps}
use Rattle.xt_driver.specs.Referring.{entries_of}
use Rattle.xt_driver.specs.Stands.{level_of, Stands, work_left}
use Rattle.xt_driver.proofs.Onward.{Onward}
use Rattle.xt_driver.specs.Followed.{instance_of, IsFollowed}
use Rattle.xt_driver.specs.Counted.{hand_of, CountedAlong, OfRun}
use Rattle.xt_driver.proofs.Along.{rest_from, done_to}
use Rattle.xt_driver.proofs.Trying.{Tried}
use Rattle.xt_driver.proofs.Running.{Running}
use Rattle.xt_engine.specs.Progress.{received}
use Rattle.xt_driver.proofs.drive.+drive.Given as goal

abbrev pub decreases-means : goal.decreases-means
decreases-means g l = 1 + 8 * l.levels

abbrev pub decreases-means_anew : goal.decreases-means_anew
decreases-means_anew g l = 8 * l.levels

abbrev pub decreases-refer : goal.decreases-refer
decreases-refer g l = 2 + 8 * l.levels

abbrev pub decreases-need : goal.decreases-need
decreases-need g l = 3 + 8 * l.levels

abbrev pub decreases-follow : goal.decreases-follow
decreases-follow g l = 4 + 8 * l.below

abbrev pub decreases-go_on : goal.decreases-go_on
decreases-go_on g l = 3 + 8 * l.below

abbrev pub decreases-run_call : goal.decreases-run_call
decreases-run_call g l = 4 + 8 * l.below

abbrev pub decreases-serve : goal.decreases-serve
decreases-serve g l = 5 + 8 * l.below

-- the candidates so far did not serve
abbrev pub invariant-serve-loop-found : goal.invariant-serve-loop-found
invariant-serve-loop-found g l =
    let truth = (g.W.World.state l.fn.world).truth in
    record {
      keeps : Keeps (setting_of truth l.globals) (past_of l.globals) (entries_of l.fn.memo) (entries_of l.memo);
      tried : OfRun (setting_of truth l.globals) (instance_of (call_of l.call) l.below (past_of l.globals)) (hand_of l.fn.reuse l.fn.memo)
          (Tried (setting_of truth l.globals) (instance_of (call_of l.call) l.below (past_of l.globals)) (hand_of l.fn.reuse l.fn.memo) (hand_of l.reuse l.memo) l.from);
      sure : IsSure truth l.reuse;
      truth : (g.W.World.state l.world).truth ≡ truth;
      name : g.W.World.name l.world ≡ g.W.World.name l.fn.world;
      last : l.reuse.last ≡ l.fn.reuse.last;
      spared : l.reuse.spared ≡ l.fn.reuse.spared;
    }

abbrev pub decreases-serve-loop-found : goal.decreases-serve-loop-found
decreases-serve-loop-found g l = 2 ^ 64 - l.from

-- it was gone along the record so far
abbrev pub invariant-follow-loop-event : goal.invariant-follow-loop-event
invariant-follow-loop-event g l =
    let truth = (g.W.World.state l.fn.world).truth in
    let way = l.way.value in
    record {
      followed : IsFollowed (setting_of truth l.globals) (instance_of (call_of l.call) l.below (past_of l.globals)) (entries_of l.fn.memo) (entries_of l.memo) way.spare (kept_in l.kept) (streams_of way.parts.items)
          (rest_from l.events l.event-index);
      counted : OfRun (setting_of truth l.globals) (instance_of (call_of l.call) l.below (past_of l.globals)) (hand_of l.fn.reuse l.fn.memo)
          (CountedAlong (setting_of truth l.globals) (instance_of (call_of l.call) l.below (past_of l.globals)) (kept_in l.kept) (done_to l.events l.event-index)
          (rest_from l.events l.event-index) (streams_of way.parts.items) (hand_of l.fn.reuse l.fn.memo) (hand_of l.reuse l.memo));
      sure : IsSure truth l.reuse;
      truth : (g.W.World.state l.world).truth ≡ truth;
      name : g.W.World.name l.world ≡ g.W.World.name l.fn.world;
      last : l.reuse.last ≡ l.fn.reuse.last;
      spared : l.reuse.spared ≡ l.fn.reuse.spared;
    }

abbrev pub invariant-run_call-loop-standing : goal.invariant-run_call-loop-standing
invariant-run_call-loop-standing g l =
    let truth = (g.W.World.state l.fn.world).truth in
    let s = l.standing.value in
    record {
      stands : Stands (level_of truth l.globals l.below (call_of l.call)) (g.E.Engine.progress s.run.value) (gift_of s.given) (streams_of s.parts.items);
      onward : Onward (level_of truth l.globals l.below (call_of l.call)) (entries_of l.fn.memo) (entries_of l.memo) s.spare (g.E.Engine.progress s.run.value) (gift_of s.given);
      running : OfRun (setting_of truth l.globals) (instance_of (call_of l.call) l.below (past_of l.globals)) (hand_of l.fn.reuse l.fn.memo)
          (Running (level_of truth l.globals l.below (call_of l.call)) l.lost (g.E.Engine.progress s.run.value).left
          (received (g.E.Engine.progress s.run.value).waits (g.E.Engine.progress s.run.value).going (g.E.Engine.progress s.run.value).supplies (gift_of s.given))
          (hand_of l.fn.reuse l.fn.memo) (hand_of l.reuse l.memo));
      sure : IsSure truth l.reuse;
      truth : (g.W.World.state l.world).truth ≡ truth;
      name : g.W.World.name l.world ≡ g.W.World.name l.fn.world;
      last : l.reuse.last ≡ l.fn.reuse.last;
      spared : l.reuse.spared ≡ l.fn.reuse.spared;
    }

abbrev pub decreases-run_call-loop-standing : goal.decreases-run_call-loop-standing
decreases-run_call-loop-standing g l =
    let s = l.standing.value in
    work_left (level_of (g.W.World.state l.fn.world).truth l.globals l.below (call_of l.call)) (g.E.Engine.progress s.run.value) (gift_of s.given)
