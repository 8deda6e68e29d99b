use Rattle.std.proofs.Common.{◌≡◌, ◌≤◌, ◌∙◌, ◌-◌, ◌+◌, ◌<◌, ◌∷◌, ◌++◌, [], ℕ, List, Option, Some, None, Result, suc, map, refl, sym, ap, subst, Ok, Err, length, arith}
use Rattle.std.specs.Prelude.{Box, IfOk, IfNone, OnOk, is_some}
use Rattle.std.specs.declared.alloc.Global.{Global as Allocator}
use Rattle.std.specs.declared.rc.Rc.{Rc}
use Rattle.std.proofs.lemmas.List.{length-map}
use Rattle.spec_meaning.specs.Stream.{Stream, filled, holes}
use Rattle.spec_run.specs.Cut.{cut}
use Rattle.spec_run.specs.Direct.{Outcome}
use Rattle.spec_run.specs.Going.{Event}
use Rattle.spec_run.specs.Meaning.{Setting, meaning}
use Rattle.xt_syntax.specs.PartView.{place_of}
use Rattle.spec_node.specs.declared.node_ref.NodeRef.{NodeRef}
use Rattle.xt_tree.specs.StreamView.{streams_of}
use Rattle.xt_tree.specs.declared.items.Items.{Items}
use Rattle.xt_result.specs.Silent.{all_messages}
use Rattle.xt_engine.specs.declared.event.Ran.{Ran}
use Rattle.xt_engine.specs.View.{call_of, event_of}
use Rattle.xt_engine.specs.declared.turn.Turn.TheVariants.{Done}
use Rattle.xt_engine.specs.Progress.{Gift, received}
use Rattle.xt_engine.specs.Advances.{Advances, gift_of, ran_of}
use Rattle.xt_record.specs.declared.record.Record.{Record}
use Rattle.xt_record.specs.View.{kept_in, AsksHold, MayServe}
use Rattle.xt_driver.specs.declared.globals.Evaluation.{Evaluation}
use Rattle.xt_driver.specs.declared.drive.Served.{Served}
use Rattle.xt_driver.specs.declared.came.Outcome.{Outcome as Came}
use Rattle.xt_driver.specs.View.{setting_of, past_of, outcome_of, IsStreamed}
use Rattle.xt_driver.specs.Remembered.{Keeps, Lasts}
use Rattle.xt_driver.specs.Referring.{entry_of, entries_of, Refers, Settles}
use Rattle.xt_driver.specs.Stands.{level_of, Stands}
use Rattle.xt_driver.specs.Steps.{Enters, Needs}
use Rattle.xt_driver.specs.Along.{IsNext}
use Rattle.xt_driver.specs.Lost.{IsServed, IsOfReference}
use Rattle.xt_driver.specs.Counted.{hand_of, CountedAlong, CountsFollowed, CountsOver, CountsServed, IsAnswer, IsKeptToo, IsUnserved, IsMadeOf, CountedRun, OfRun}
use Rattle.xt_driver.specs.declared.follow.Gone.TheVariants as gone
use Rattle.xt_record.specs.Search.{PassedOver, Stands as IsThere}
use Rattle.xt_record.specs.Sure.{IsSure}
use Rattle.spec_reuse.specs.Serving.{Fits}
use Rattle.spec_reuse.specs.Instantiation.{entered, for_reference}
use Rattle.xt_text.specs.declared.memory.Memory.{Memory}
use Rattle.xt_driver.specs.Followed.{instance_of, IsFollowed, cut_with, EndsWith}
use Rattle.xt_driver.proofs.NoHoles.{meaning_whole}
use Rattle.xt_driver.proofs.Remembering.{keeps_all}
use Rattle.xt_driver.proofs.Following.{lasts_done}
use Rattle.xt_driver.proofs.Standing.{stands_entered, stands_referred, stands_done, stands_begun, stands_fault, stepped, meant_from, gives_from, if_ok, on_ok}
use Rattle.xt_driver.proofs.Referring.{refers_given, refers_evaluated, aside_of, evaluates_as}
use Rattle.xt_driver.proofs.Onward.{Onward, onward_begun, onward_entered, onward_referred, on_any, evaluation_ready, evaluation_all, remembers_there, lasts_fault}
use Rattle.xt_driver.proofs.Serving.{followed_begun}
use Rattle.xt_driver.proofs.Along.{rest_from, rest_all, rest_none, done_to, done_next, next_event, along_turn, along_even, along_ended, along_short, gone_holds, gone_entered, gone_referred, gone_on, gone_refused, left_entered, left_referred, lost_on, lost_there, keeps_there, served_there, served_as, served_not}
use Rattle.xt_driver.proofs.Regaining.{some_of, same_of, none_of, lost_refusal, regained_settles}
use Rattle.xt_driver.proofs.Keeping.{done_kept}
use Rattle.xt_driver.proofs.Tallying.{means_none, means_served, run_counted, served_ready, need_known, need_other}
use Rattle.xt_driver.proofs.Places.{few_of}
use Rattle.xt_driver.proofs.Trying.{Tried, tried_begun, tried_all, tried_next, tried_still, front_judged, answered, unserved, kept_none}
use Rattle.xt_driver.proofs.Telling.{along_begun, along_whole, along_to, along_done, along_with, gone_as, counts_held, counts_other, counts_entered, counts_referred}
use Rattle.xt_driver.proofs.Running.{Running, over_from, for_from, running_begun, running_entered, running_referred, running_done, running_failed, done_same, failed_same}
use Rattle.xt_driver.proofs.Finding.{looked_given, counts_evaluated, evaluated_idle}
use Rattle.xt_driver.proofs.Coming.{Ask, sure_there, of_streamed, of_taken, of_takes, of_reference, as_served, on_is, on_all, of_evaluates}
use Rattle.xt_record.specs.Grown.{values_of}
use Rattle.xt_record.proofs.Ok.{if_both}
use Rattle.xt_driver.proofs.Said.{counts_from, counts_said, lasts_said, means_said, outcome_said, said_in, unsaid_in}
use Rattle.xt_driver.proofs.drive.+drive.Goals as goal

pub run_call-loop-standing-smaller-in-Continue-branch-3 : goal.run_call-loop-standing-smaller-in-Continue-branch-3
run_call-loop-standing-smaller-in-Continue-branch-3 g t c =
    let truth = (g.W.World.state c.args.world.now).truth in
    let prog = g.E.Engine.progress in
    let globals = c.args.globals.now in
    let past = past_of globals in
    let below = c.args.below in
    let l = level_of truth globals below (call_of c.args.call.now) in
    let inv = c.loop-standing.invariant in
    let old = c.deref_mut.result.now in
    let new = c.advance.new.standing in
    let gift = gift_of old.given in
    let ss = streams_of new.parts.items in
    let stands : Stands l (prog old.run.value) gift ss = rw (c.advance.ensures.parts, c.deref_mut.ensures.value) inv.stands in
    let steps = stepped gift (prog old.run.value) (prog new.run.value) l.call below inv.truth c.in-Enter.is c.in_ok-inner.ensures.steps in
    let inner = c.in-Enter.inner.value in
    let left = c.in-Enter.left in
    let e : Enters truth gift (prog old.run.value) (prog new.run.value) l.call below inner left = steps in
    let resumed = c.advance.ensures.truth ∙ inv.truth in
    let entered = ap call_of c.deref.ensures ∙ e.call in
    let same = meant_from (λ a. setting_of a globals) past below e.depth left (call_of c.deref.result.now) _ resumed e.levels entered in
    let came = if_ok c.means-came.result c.means-came.ensures.meaning (λ x h. h ∙ same) in
    let next = c.take_stream.new.standing in
    let at = c.deref_mut-in-Enter.ensures.value in
    let streamed : IsStreamed next.given c.means-came.result ss (streams_of next.parts.items) = rw (sym at) c.in_ok-take_stream-in-Enter.ensures.streamed in
    let onto = stands_entered l (prog old.run.value) (prog new.run.value) gift ss (streams_of next.parts.items) e.wanted e.depth c.means-came.result next.given stands e.advances came streamed in
    rw (c.take_stream.ensures.run, at, sym c.deref_mut.ensures.value) onto.less

pub run_call-loop-standing-preserved-in-Continue-branch-3 : goal.run_call-loop-standing-preserved-in-Continue-branch-3
run_call-loop-standing-preserved-in-Continue-branch-3 g t c =
    let truth = (g.W.World.state c.args.world.now).truth in
    let prog = g.E.Engine.progress in
    let globals = c.args.globals.now in
    let past = past_of globals in
    let below = c.args.below in
    let l = level_of truth globals below (call_of c.args.call.now) in
    let inv = c.loop-standing.invariant in
    let old = c.deref_mut.result.now in
    let new = c.advance.new.standing in
    let gift = gift_of old.given in
    let ss = streams_of new.parts.items in
    let stands : Stands l (prog old.run.value) gift ss = rw (c.advance.ensures.parts, c.deref_mut.ensures.value) inv.stands in
    let steps = stepped gift (prog old.run.value) (prog new.run.value) l.call below inv.truth c.in-Enter.is c.in_ok-inner.ensures.steps in
    let inner = c.in-Enter.inner.value in
    let left = c.in-Enter.left in
    let e : Enters truth gift (prog old.run.value) (prog new.run.value) l.call below inner left = steps in
    let resumed = c.advance.ensures.truth ∙ inv.truth in
    let entered = ap call_of c.deref.ensures ∙ e.call in
    let same = meant_from (λ a. setting_of a globals) past below e.depth left (call_of c.deref.result.now) _ resumed e.levels entered in
    let came = if_ok c.means-came.result c.means-came.ensures.meaning (λ x h. h ∙ same) in
    let next = c.take_stream.new.standing in
    let at = c.deref_mut-in-Enter.ensures.value in
    let streamed : IsStreamed next.given c.means-came.result ss (streams_of next.parts.items) = rw (sym at) c.in_ok-take_stream-in-Enter.ensures.streamed in
    let onto = stands_entered l (prog old.run.value) (prog new.run.value) gift ss (streams_of next.parts.items) e.wanted e.depth c.means-came.result next.given stands e.advances came streamed in
    let on : Stands l (prog next.run.value) (gift_of next.given) (streams_of next.parts.items) = rw (c.take_stream.ensures.run, at) onto.stands in
    let first = entries_of c.args.memo.now in
    let held = entries_of c.loop-standing.memo in
    let more = entries_of c.means-came.new.memo in
    let before : Onward l first held new.spare (prog old.run.value) gift = rw (c.advance.ensures.spare, c.deref_mut.ensures.value) inv.onward in
    let fewer : next.spare ≤ new.spare = rw (sym at) c.take_stream.ensures.spare in
    let onward = onward_entered (λ a. setting_of a globals) past below l.call first held more new.spare next.spare (prog old.run.value) (prog new.run.value) gift e.wanted e.depth left (call_of c.deref.result.now) c.means-came.result next.given ss
    (streams_of next.parts.items) resumed before e.advances e.levels entered c.means-came.ensures.keeps c.means-came.ensures.lasts streamed fewer c.take_stream.ensures.inner in
    let onward_next : Onward l first more next.spare (prog next.run.value) (gift_of next.given) = rw (c.take_stream.ensures.run, at) onward in
    record {
      stands = on;
      onward = onward_next;
      running = λ h ready.
          let X : Running l c.args.lost.now (prog old.run.value).left (received (prog old.run.value).waits (prog old.run.value).going (prog old.run.value).supplies gift)
          (hand_of c.args.reuse.now c.args.memo.now) (hand_of c.loop-standing.reuse c.loop-standing.memo) = rw c.deref_mut.ensures.value (inv.running h ready) in
          let over = over_from (λ a. setting_of a globals) past below e.depth left (call_of c.deref.result.now) _ c.means-came.result
          (hand_of c.loop-standing.reuse c.loop-standing.memo) (hand_of c.means-came.new.reuse c.means-came.new.memo) resumed e.levels entered c.means-came.ensures.counts in
          let on_so = running_entered l c.args.lost.now (hand_of c.args.reuse.now c.args.memo.now) (hand_of c.loop-standing.reuse c.loop-standing.memo)
          (hand_of c.means-came.new.reuse c.means-came.new.memo) (prog old.run.value) (prog new.run.value) gift ss (streams_of next.parts.items) e.wanted e.depth
          c.means-came.result next.given stands e.advances came streamed over X in
          let Y : Running l c.args.lost.now (prog next.run.value).left (received (prog next.run.value).waits (prog next.run.value).going (prog next.run.value).supplies (gift_of next.given))
          (hand_of c.args.reuse.now c.args.memo.now) (hand_of c.means-came.new.reuse c.means-came.new.memo) = rw (c.take_stream.ensures.run, at) on_so in
          Y;
      sure = sure_there resumed (of_streamed next.given ss (streams_of next.parts.items) c.means-came.result streamed c.means-came.ensures.sure);
      truth = c.means-came.ensures.truth ∙ resumed;
      name = c.means-came.ensures.name ∙ c.advance.ensures.name ∙ inv.name;
      last = c.means-came.ensures.last ∙ inv.last;
      spared = c.means-came.ensures.spared ∙ inv.spared;
    }

pub run_call-loop-standing-smaller : goal.run_call-loop-standing-smaller
run_call-loop-standing-smaller g t c =
    let truth = (g.W.World.state c.args.world.now).truth in
    let prog = g.E.Engine.progress in
    let globals = c.args.globals.now in
    let past = past_of globals in
    let below = c.args.below in
    let l = level_of truth globals below (call_of c.args.call.now) in
    let inv = c.loop-standing.invariant in
    let old = c.deref_mut.result.now in
    let new = c.advance.new.standing in
    let gift = gift_of old.given in
    let ss = streams_of new.parts.items in
    let stands : Stands l (prog old.run.value) gift ss = rw (c.advance.ensures.parts, c.deref_mut.ensures.value) inv.stands in
    let steps = stepped gift (prog old.run.value) (prog new.run.value) l.call below inv.truth c.in-Refer.is c.in_ok-inner.ensures.steps in
    let needed = c.in-Refer.needed.value in
    let left = c.in-Refer.left in
    let e : Needs truth gift (prog old.run.value) (prog new.run.value) below needed left = steps in
    let resumed = c.advance.ensures.truth ∙ inv.truth in
    let settles = if_ok c.need-came.result c.need-came.ensures.settles (λ x h. let H : Settles (setting_of (g.W.World.state c.advance.new.world).truth globals) past (entries_of c.need-came.new.memo) needed.name left (place_of needed.place) x.value = rw (sym c.deref-in-Refer.ensures) h in H) in
    let gives = if_ok c.need-came.result settles (λ x h. gives_from (λ a. setting_of a globals) past below e.depth left needed.name (place_of needed.place) x.value.entered resumed e.levels h.gives) in
    let next = c.take_global.new.standing in
    let at = c.deref_mut-in-Refer.ensures.value in
    let onto = stands_referred l (prog old.run.value) (prog new.run.value) gift ss needed e.depth c.need-came.result next.given stands e.advances gives c.in_ok-take_global-in-Refer.ensures.taken in
    rw (c.take_global.ensures.run, at, sym c.deref_mut.ensures.value) onto.less

pub run_call-loop-standing-preserved : goal.run_call-loop-standing-preserved
run_call-loop-standing-preserved g t c =
    let truth = (g.W.World.state c.args.world.now).truth in
    let prog = g.E.Engine.progress in
    let globals = c.args.globals.now in
    let past = past_of globals in
    let below = c.args.below in
    let l = level_of truth globals below (call_of c.args.call.now) in
    let inv = c.loop-standing.invariant in
    let old = c.deref_mut.result.now in
    let new = c.advance.new.standing in
    let gift = gift_of old.given in
    let ss = streams_of new.parts.items in
    let stands : Stands l (prog old.run.value) gift ss = rw (c.advance.ensures.parts, c.deref_mut.ensures.value) inv.stands in
    let steps = stepped gift (prog old.run.value) (prog new.run.value) l.call below inv.truth c.in-Refer.is c.in_ok-inner.ensures.steps in
    let needed = c.in-Refer.needed.value in
    let left = c.in-Refer.left in
    let e : Needs truth gift (prog old.run.value) (prog new.run.value) below needed left = steps in
    let resumed = c.advance.ensures.truth ∙ inv.truth in
    let settles = if_ok c.need-came.result c.need-came.ensures.settles (λ x h. let H : Settles (setting_of (g.W.World.state c.advance.new.world).truth globals) past (entries_of c.need-came.new.memo) needed.name left (place_of needed.place) x.value = rw (sym c.deref-in-Refer.ensures) h in H) in
    let gives = if_ok c.need-came.result settles (λ x h. gives_from (λ a. setting_of a globals) past below e.depth left needed.name (place_of needed.place) x.value.entered resumed e.levels h.gives) in
    let next = c.take_global.new.standing in
    let at = c.deref_mut-in-Refer.ensures.value in
    let onto = stands_referred l (prog old.run.value) (prog new.run.value) gift ss needed e.depth c.need-came.result next.given stands e.advances gives c.in_ok-take_global-in-Refer.ensures.taken in
    let on : Stands l (prog next.run.value) (gift_of next.given) (streams_of next.parts.items) = rw (c.take_global.ensures.run, c.take_global.ensures.parts, at) onto.stands in
    let first = entries_of c.args.memo.now in
    let held = entries_of c.loop-standing.memo in
    let more = entries_of c.need-came.new.memo in
    let before : Onward l first held new.spare (prog old.run.value) gift = rw (c.advance.ensures.spare, c.deref_mut.ensures.value) inv.onward in
    let fewer : next.spare ≤ new.spare = rw (sym at) c.take_global.ensures.spare in
    let onward = onward_referred (λ a. setting_of a globals) past below l.call first held more new.spare next.spare (prog old.run.value) (prog new.run.value) gift needed e.depth left c.need-came.result next.given resumed before e.advances e.levels
    c.need-came.ensures.keeps settles c.in_ok-take_global-in-Refer.ensures.taken fewer (on_any c.need-came.result c.in_ok-take_global-in-Refer.ensures.inner) in
    let onward_next : Onward l first more next.spare (prog next.run.value) (gift_of next.given) = rw (c.take_global.ensures.run, at) onward in
    record {
      stands = on;
      onward = onward_next;
      running = λ h ready.
          let X : Running l c.args.lost.now (prog old.run.value).left (received (prog old.run.value).waits (prog old.run.value).going (prog old.run.value).supplies gift)
          (hand_of c.args.reuse.now c.args.memo.now) (hand_of c.loop-standing.reuse c.loop-standing.memo) = rw c.deref_mut.ensures.value (inv.running h ready) in
          let over = for_from (λ a. setting_of a globals) past c.args.lost.now left c.deref-in-Refer.result.now needed c.need-came.result
          (hand_of c.loop-standing.reuse c.loop-standing.memo) (hand_of c.need-came.new.reuse c.need-came.new.memo) resumed c.deref-in-Refer.ensures c.need-came.ensures.counts in
          let on_so = running_referred l c.args.lost.now (hand_of c.args.reuse.now c.args.memo.now) (hand_of c.loop-standing.reuse c.loop-standing.memo)
          (hand_of c.need-came.new.reuse c.need-came.new.memo) (prog old.run.value) (prog new.run.value) gift ss needed e.depth left c.need-came.result next.given
          stands e.advances e.levels c.requires.lost gives c.in_ok-take_global-in-Refer.ensures.taken over X in
          let Y : Running l c.args.lost.now (prog next.run.value).left (received (prog next.run.value).waits (prog next.run.value).going (prog next.run.value).supplies (gift_of next.given))
          (hand_of c.args.reuse.now c.args.memo.now) (hand_of c.need-came.new.reuse c.need-came.new.memo) = rw (c.take_global.ensures.run, at) on_so in
          Y;
      sure = sure_there resumed (of_taken next.given c.need-came.result c.in_ok-take_global-in-Refer.ensures.taken c.need-came.ensures.sure);
      truth = c.need-came.ensures.truth ∙ resumed;
      name = c.need-came.ensures.name ∙ c.advance.ensures.name ∙ inv.name;
      last = c.need-came.ensures.last ∙ inv.last;
      spared = c.need-came.ensures.spared ∙ inv.spared;
    }

pub run_call-advance-requires : goal.run_call-advance-requires
run_call-advance-requires g t c = record { sure = sure_there (sym c.loop-standing.invariant.truth) c.loop-standing.invariant.sure }

pub run_call-done-requires : goal.run_call-done-requires
run_call-done-requires g t c =
    let truth = (g.W.World.state c.args.world.now).truth in
    let prog = g.E.Engine.progress in
    let globals = c.args.globals.now in
    let past = past_of globals in
    let below = c.args.below in
    let l = level_of truth globals below (call_of c.args.call.now) in
    let inv = c.loop-standing.invariant in
    let old = c.deref_mut.result.now in
    let new = c.advance.new.standing in
    let gift = gift_of old.given in
    let ss = streams_of new.parts.items in
    let stands : Stands l (prog old.run.value) gift ss = rw (c.advance.ensures.parts, c.deref_mut.ensures.value) inv.stands in
    let ran = c.in-Done.ran.value in
    let adv : Advances truth gift (prog old.run.value) (prog new.run.value) (Ok (Done ran)) = stepped gift (prog old.run.value) (prog new.run.value) l.call below inv.truth c.in-Done.is c.in_ok-inner.ensures.steps in
    let is = stands_done l (prog old.run.value) (prog new.run.value) gift ss ran stands adv in
    let parts : c.as_slice.result.now ≡ new.parts.items = rw (sym c.deref-in-Done-2.ensures) c.as_slice.ensures.value in
    record {
      fit = ap (λ (r : Ran). holes (ran_of r).content) c.deref-in-Done.ensures ∙ is.even ∙ length-map new.parts.items _ ∙ ap length (sym parts);
      silent = λ so. ap (λ (xs : List (Rc Items Allocator)). all_messages (streams_of xs)) parts ∙ new.silent (rw (sym c.deref-in-Done-4.ensures) so);
    }

pub run_call-returns-in-Done-clause-made : goal.run_call-returns-in-Done-clause-made
run_call-returns-in-Done-clause-made g t c =
    let truth = (g.W.World.state c.args.world.now).truth in
    let prog = g.E.Engine.progress in
    let globals = c.args.globals.now in
    let past = past_of globals in
    let below = c.args.below in
    let l = level_of truth globals below (call_of c.args.call.now) in
    let inv = c.loop-standing.invariant in
    let old = c.deref_mut.result.now in
    let new = c.advance.new.standing in
    let gift = gift_of old.given in
    let ss = streams_of new.parts.items in
    let stands : Stands l (prog old.run.value) gift ss = rw (c.advance.ensures.parts, c.deref_mut.ensures.value) inv.stands in
    let ran = c.in-Done.ran.value in
    let adv : Advances truth gift (prog old.run.value) (prog new.run.value) (Ok (Done ran)) = stepped gift (prog old.run.value) (prog new.run.value) l.call below inv.truth c.in-Done.is c.in_ok-inner.ensures.steps in
    (done_kept l (prog old.run.value) (prog new.run.value) gift ss ran stands adv).lasting

pub run_call-returns-in-Done-clause-meaning : goal.run_call-returns-in-Done-clause-meaning
run_call-returns-in-Done-clause-meaning g t c =
    let truth = (g.W.World.state c.args.world.now).truth in
    let prog = g.E.Engine.progress in
    let globals = c.args.globals.now in
    let past = past_of globals in
    let below = c.args.below in
    let l = level_of truth globals below (call_of c.args.call.now) in
    let inv = c.loop-standing.invariant in
    let old = c.deref_mut.result.now in
    let new = c.advance.new.standing in
    let gift = gift_of old.given in
    let ss = streams_of new.parts.items in
    let stands : Stands l (prog old.run.value) gift ss = rw (c.advance.ensures.parts, c.deref_mut.ensures.value) inv.stands in
    let ran = c.in-Done.ran.value in
    let adv : Advances truth gift (prog old.run.value) (prog new.run.value) (Ok (Done ran)) = stepped gift (prog old.run.value) (prog new.run.value) l.call below inv.truth c.in-Done.is c.in_ok-inner.ensures.steps in
    let is = stands_done l (prog old.run.value) (prog new.run.value) gift ss ran stands adv in
    let parts : c.as_slice.result.now ≡ new.parts.items = rw (sym c.deref-in-Done-2.ensures) c.as_slice.ensures.value in
    let x = c.in_ok-outcome-in-Done.outcome.value in
    let made = c.in_ok-outcome-in-Done.ensures.outcome
    ∙ ap (λ (r : Ran). record { content = filled (ran_of r).content (streams_of c.as_slice.result.now); ending = (ran_of r).ending }) c.deref-in-Done.ensures
    ∙ ap (λ xs. record { content = filled (ran_of ran).content (streams_of xs); ending = (ran_of ran).ending }) parts in
    made ∙ sym is.means

pub run_call-returns-in-Done-clause-lasts : goal.run_call-returns-in-Done-clause-lasts
run_call-returns-in-Done-clause-lasts g t c =
    let truth = (g.W.World.state c.args.world.now).truth in
    let prog = g.E.Engine.progress in
    let globals = c.args.globals.now in
    let past = past_of globals in
    let below = c.args.below in
    let l = level_of truth globals below (call_of c.args.call.now) in
    let inv = c.loop-standing.invariant in
    let old = c.deref_mut.result.now in
    let new = c.advance.new.standing in
    let gift = gift_of old.given in
    let ss = streams_of new.parts.items in
    let stands : Stands l (prog old.run.value) gift ss = rw (c.advance.ensures.parts, c.deref_mut.ensures.value) inv.stands in
    let ran = c.in-Done.ran.value in
    let adv : Advances truth gift (prog old.run.value) (prog new.run.value) (Ok (Done ran)) = stepped gift (prog old.run.value) (prog new.run.value) l.call below inv.truth c.in-Done.is c.in_ok-inner.ensures.steps in
    let is = stands_done l (prog old.run.value) (prog new.run.value) gift ss ran stands adv in
    let parts : c.as_slice.result.now ≡ new.parts.items = rw (sym c.deref-in-Done-2.ensures) c.as_slice.ensures.value in
    let x = c.in_ok-outcome-in-Done.outcome.value in
    let made = c.in_ok-outcome-in-Done.ensures.outcome
    ∙ ap (λ (r : Ran). record { content = filled (ran_of r).content (streams_of c.as_slice.result.now); ending = (ran_of r).ending }) c.deref-in-Done.ensures
    ∙ ap (λ xs. record { content = filled (ran_of ran).content (streams_of xs); ending = (ran_of ran).ending }) parts in
    let before : Onward l (entries_of c.args.memo.now) (entries_of c.loop-standing.memo) new.spare (prog old.run.value) gift = rw (c.advance.ensures.spare, c.deref_mut.ensures.value) inv.onward in
    let low : x.spare ≤ new.spare = rw (sym c.deref-in-Done-3.ensures) c.in_ok-outcome-in-Done.ensures.spare in
    let high : x.spare ≤ below - ran.height = rw (sym c.deref-in-Done.ensures) c.in_ok-outcome-in-Done.ensures.height in
    lasts_done l (entries_of c.loop-standing.memo) new.spare x.spare (prog old.run.value) (prog new.run.value) gift ss ran (outcome_of x) stands before.elsewhere adv low high made

pub run_call-returns-in-Done-clause-asks : goal.run_call-returns-in-Done-clause-asks
run_call-returns-in-Done-clause-asks g t c =
    let truth = (g.W.World.state c.args.world.now).truth in
    let prog = g.E.Engine.progress in
    let globals = c.args.globals.now in
    let past = past_of globals in
    let below = c.args.below in
    let l = level_of truth globals below (call_of c.args.call.now) in
    let inv = c.loop-standing.invariant in
    let old = c.deref_mut.result.now in
    let new = c.advance.new.standing in
    let gift = gift_of old.given in
    let ss = streams_of new.parts.items in
    let stands : Stands l (prog old.run.value) gift ss = rw (c.advance.ensures.parts, c.deref_mut.ensures.value) inv.stands in
    let ran = c.in-Done.ran.value in
    let adv : Advances truth gift (prog old.run.value) (prog new.run.value) (Ok (Done ran)) = stepped gift (prog old.run.value) (prog new.run.value) l.call below inv.truth c.in-Done.is c.in_ok-inner.ensures.steps in
    (done_kept l (prog old.run.value) (prog new.run.value) gift ss ran stands adv).asks

pub run_call-returns-in-Failed-clause-meaning : goal.run_call-returns-in-Failed-clause-meaning
run_call-returns-in-Failed-clause-meaning g t c =
    let truth = (g.W.World.state c.args.world.now).truth in
    let prog = g.E.Engine.progress in
    let globals = c.args.globals.now in
    let past = past_of globals in
    let below = c.args.below in
    let l = level_of truth globals below (call_of c.args.call.now) in
    let inv = c.loop-standing.invariant in
    let old = c.deref_mut.result.now in
    let new = c.advance.new.standing in
    let gift = gift_of old.given in
    let ss = streams_of new.parts.items in
    let stands : Stands l (prog old.run.value) gift ss = rw (c.advance.ensures.parts, c.deref_mut.ensures.value) inv.stands in
    let fault = c.in-Failed.fault.value in
    let adv : Advances truth gift (prog old.run.value) (prog new.run.value) (Err fault) = stepped gift (prog old.run.value) (prog new.run.value) l.call below inv.truth c.in-Failed.is c.in_ok-inner.ensures.steps in
    stands_fault l (prog old.run.value) (prog new.run.value) gift ss fault c.in_ok-outcome-in-Failed.outcome.value stands adv c.in_ok-outcome-in-Failed.ensures

pub run_call-means-came-requires : goal.run_call-means-came-requires
run_call-means-came-requires g t c =
    let truth = (g.W.World.state c.args.world.now).truth in
    let prog = g.E.Engine.progress in
    let globals = c.args.globals.now in
    let past = past_of globals in
    let below = c.args.below in
    let l = level_of truth globals below (call_of c.args.call.now) in
    let inv = c.loop-standing.invariant in
    let old = c.deref_mut.result.now in
    let new = c.advance.new.standing in
    let gift = gift_of old.given in
    let e : Enters truth gift (prog old.run.value) (prog new.run.value) l.call below c.in-Enter.inner.value c.in-Enter.left
    = stepped gift (prog old.run.value) (prog new.run.value) l.call below inv.truth c.in-Enter.is c.in_ok-inner.ensures.steps in
    let room = e.levels in
    let resumed = c.advance.ensures.truth ∙ inv.truth in
    let at : Ask → Setting NodeRef = λ a. setting_of a globals in
    let remembers = remembers_there at past (entries_of c.loop-standing.memo) resumed inv.onward.keeps.remembers in
    λ κs lives. (omega (arith, room), (lives.0, (lives.1.0, (lives.1.1, (remembers, sure_there (sym resumed) inv.sure)))))

pub run_call-need-came-requires : goal.run_call-need-came-requires
run_call-need-came-requires g t c =
    let truth = (g.W.World.state c.args.world.now).truth in
    let prog = g.E.Engine.progress in
    let globals = c.args.globals.now in
    let past = past_of globals in
    let below = c.args.below in
    let l = level_of truth globals below (call_of c.args.call.now) in
    let inv = c.loop-standing.invariant in
    let old = c.deref_mut.result.now in
    let new = c.advance.new.standing in
    let gift = gift_of old.given in
    let e : Needs truth gift (prog old.run.value) (prog new.run.value) below c.in-Refer.needed.value c.in-Refer.left
    = stepped gift (prog old.run.value) (prog new.run.value) l.call below inv.truth c.in-Refer.is c.in_ok-inner.ensures.steps in
    let room = e.levels in
    let resumed = c.advance.ensures.truth ∙ inv.truth in
    let at : Ask → Setting NodeRef = λ a. setting_of a globals in
    let remembers = remembers_there at past (entries_of c.loop-standing.memo) resumed inv.onward.keeps.remembers in
    λ κs lives. (omega (arith, room), (lives.0, (lives.1.0, (lives.1.1, (remembers, (sure_there (sym resumed) inv.sure, lost_there at past c.args.lost.now resumed c.requires.lost))))))

pub follow-loop-event-init : goal.follow-loop-event-init
follow-loop-event-init g t c =
    let truth = (g.W.World.state c.args.world.now).truth in
    let globals = c.args.globals.now in
    let s = setting_of truth globals in
    let past = past_of globals in
    let i = instance_of (call_of c.args.call.now) c.args.below past in
    let first = entries_of c.args.memo.now in
    let k = kept_in c.args.kept.now in
    let way = c.in_ok-way.way.value in
    let ss = streams_of way.parts.items in
    let P : List (Event NodeRef) → Type 0 = λ es. IsFollowed s i first first way.spare k ss es in
    let begun = followed_begun s i first way.spare k c.requires.remembers c.requires.serves.asks c.a_record_lasts.ensures (ap streams_of c.in_ok-way.ensures) in
    let C : List (Event NodeRef) → Type 0 = λ es. CountedAlong s i k [] es ss (hand_of c.args.reuse.now c.args.memo.now) (hand_of c.args.reuse.now c.args.memo.now) in
    let fits : Fits s i k = record { lasting = c.a_record_lasts.ensures; of_call = c.requires.serves.of_call; levels = c.requires.serves.levels } in
    record {
      followed = subst P (rest_all c.as_slice-events.result.now c.as_slice-events.ensures.value) begun;
      counted = λ h ready. subst C (rest_all c.as_slice-events.result.now c.as_slice-events.ensures.value)
          (along_begun s i k ss (hand_of c.args.reuse.now c.args.memo.now) h fits c.requires.serves.asks (ap streams_of c.in_ok-way.ensures) ready);
      sure = c.requires.sure;
      truth = refl;
      name = refl;
      last = refl;
      spared = refl;
    }

pub follow-go_on-requires : goal.follow-go_on-requires
follow-go_on-requires g t c =
    let globals = c.args.globals.now in
    let inv = c.loop-event.invariant in
    let remembers = remembers_there (λ a. setting_of a globals) (past_of globals) (entries_of c.loop-event.memo) inv.truth inv.followed.keeps.remembers in
    λ κs lives. (omega arith, (lives.0, (lives.1.0, (lives.1.1, (remembers, sure_there (sym inv.truth) inv.sure)))))

pub follow-loop-event-preserved : goal.follow-loop-event-preserved
follow-loop-event-preserved g t c =
    let truth = (g.W.World.state c.args.world.now).truth in
    let globals = c.args.globals.now in
    let s = setting_of truth globals in
    let past = past_of globals in
    let i = instance_of (call_of c.args.call.now) c.args.below past in
    let first = entries_of c.args.memo.now in
    let k = kept_in c.args.kept.now in
    let inv = c.loop-event.invariant in
    let n = c.loop-event.event-index in
    let events = c.as_slice-events.result.now in
    let way = c.loop-event.way.value in
    let ss = streams_of way.parts.items in
    let held = entries_of c.loop-event.memo in
    let e = c.event-item.result in
    let more = entries_of c.go_on.new.memo in
    let old = c.deref_mut.result.now in
    let next = c.go_on.new.way in
    let turned = along_turn s i first held way.spare k ss events n e (omega arith) c.event-item.is inv.followed in
    let before : IsFollowed s i first held old.spare k (streams_of old.parts.items) (event_of e ∷ rest_from events (n + 1)) = rw c.deref_mut.ensures.value turned in
    record {
      followed = gone_on (λ a. setting_of a globals) i first held more old next (event_of e) k (rest_from events (n + 1)) c.in_ok-go_on.field-0 inv.truth c.in_ok-go_on.ensures.goes c.in-On.is before;
      counted = λ h ready.
          let now = hand_of c.loop-event.reuse c.loop-event.memo in
          let later = hand_of c.go_on.new.reuse c.go_on.new.memo in
          let turn = along_to s i k (done_to events n) (rest_from events n) (event_of e ∷ rest_from events (n + 1)) ss (hand_of c.args.reuse.now c.args.memo.now) now
          (next_event events n e (omega arith) c.event-item.is) (inv.counted h ready) in
          let on = gone_as (λ a. setting_of a globals) i (event_of e) (streams_of old.parts.items) (streams_of next.parts.items) now later c.in_ok-go_on.field-0 gone.On
          inv.truth c.in_ok-go_on.ensures.counts c.in-On.is in
          along_done s i k (done_to events n ++ event_of e ∷ []) (done_to events (n + 1)) (rest_from events (n + 1)) (streams_of next.parts.items)
          (hand_of c.args.reuse.now c.args.memo.now) later (done_next events n e (omega arith) c.event-item.is)
          (on (hand_of c.args.reuse.now c.args.memo.now) k (done_to events n) (rest_from events (n + 1))
          (along_with s i k (done_to events n) (event_of e ∷ rest_from events (n + 1)) old way (hand_of c.args.reuse.now c.args.memo.now) now c.deref_mut.ensures.value turn));
      sure = sure_there inv.truth c.in_ok-go_on.ensures.sure;
      truth = c.go_on.ensures.truth ∙ inv.truth;
      name = c.go_on.ensures.name ∙ inv.name;
      last = c.go_on.ensures.last ∙ inv.last;
      spared = c.go_on.ensures.spared ∙ inv.spared;
    }

pub follow-returns-in-Not-clause-keeps : goal.follow-returns-in-Not-clause-keeps
follow-returns-in-Not-clause-keeps g t c =
    let truth = (g.W.World.state c.args.world.now).truth in
    let globals = c.args.globals.now in
    let s = setting_of truth globals in
    let past = past_of globals in
    let i = instance_of (call_of c.args.call.now) c.args.below past in
    let first = entries_of c.args.memo.now in
    let k = kept_in c.args.kept.now in
    let inv = c.loop-event.invariant in
    let n = c.loop-event.event-index in
    let events = c.as_slice-events.result.now in
    let way = c.loop-event.way.value in
    let ss = streams_of way.parts.items in
    let held = entries_of c.loop-event.memo in
    keeps_there (λ a. setting_of a globals) past first held (entries_of c.go_on.new.memo) inv.truth inv.followed.keeps c.in_ok-go_on.ensures.keeps

pub follow-returns-in-Not-clause-served : goal.follow-returns-in-Not-clause-served
follow-returns-in-Not-clause-served g t c =
    let truth = (g.W.World.state c.args.world.now).truth in
    let globals = c.args.globals.now in
    let s = setting_of truth globals in
    let past = past_of globals in
    let i = instance_of (call_of c.args.call.now) c.args.below past in
    let first = entries_of c.args.memo.now in
    let k = kept_in c.args.kept.now in
    let inv = c.loop-event.invariant in
    let n = c.loop-event.event-index in
    let events = c.as_slice-events.result.now in
    let way = c.loop-event.way.value in
    let ss = streams_of way.parts.items in
    let held = entries_of c.loop-event.memo in
    lost_on (λ a. setting_of a globals) i held (entries_of c.go_on.new.memo) c.deref_mut.result.now c.go_on.new.way (event_of c.event-item.result) c.in_ok-go_on.field-0 c.in-Not.lost inv.truth c.in_ok-go_on.ensures.goes c.in-Not.is

pub follow-returns-in-Not-clause-sure : goal.follow-returns-in-Not-clause-sure
follow-returns-in-Not-clause-sure g t c =
    let truth = (g.W.World.state c.args.world.now).truth in
    let globals = c.args.globals.now in
    let s = setting_of truth globals in
    let past = past_of globals in
    let i = instance_of (call_of c.args.call.now) c.args.below past in
    let first = entries_of c.args.memo.now in
    let k = kept_in c.args.kept.now in
    let inv = c.loop-event.invariant in
    let n = c.loop-event.event-index in
    let events = c.as_slice-events.result.now in
    let way = c.loop-event.way.value in
    let ss = streams_of way.parts.items in
    let held = entries_of c.loop-event.memo in
    sure_there inv.truth c.in_ok-go_on.ensures.sure

pub follow-cut_short-requires : goal.follow-cut_short-requires
follow-cut_short-requires g t c =
    let truth = (g.W.World.state c.args.world.now).truth in
    let globals = c.args.globals.now in
    let s = setting_of truth globals in
    let past = past_of globals in
    let i = instance_of (call_of c.args.call.now) c.args.below past in
    let first = entries_of c.args.memo.now in
    let k = kept_in c.args.kept.now in
    let inv = c.loop-event.invariant in
    let n = c.loop-event.event-index in
    let events = c.as_slice-events.result.now in
    let way = c.loop-event.way.value in
    let ss = streams_of way.parts.items in
    let held = entries_of c.loop-event.memo in
    let e = c.event-item.result in
    let more = entries_of c.go_on.new.memo in
    let old = c.deref_mut.result.now in
    let next = c.go_on.new.way in
    let turned = along_turn s i first held way.spare k ss events n e (omega arith) c.event-item.is inv.followed in
    let before : IsFollowed s i first held old.spare k (streams_of old.parts.items) (event_of e ∷ rest_from events (n + 1)) = rw c.deref_mut.ensures.value turned in
    let last = c.in-Refused.last in
    let ends : EndsWith s i k (streams_of next.parts.items) (outcome_of last.value).ending
    = gone_refused (λ a. setting_of a globals) i first held more old next (event_of e) k (rest_from events (n + 1)) c.in_ok-go_on.field-0 last inv.truth c.in_ok-go_on.ensures.goes c.in-Refused.is before in
    let parts : c.as_slice.result.now ≡ next.parts.items = rw (sym c.deref.ensures) c.as_slice.ensures.value in
    let many : length (streams_of next.parts.items) ≡ length c.as_slice.result.now = length-map next.parts.items _ ∙ ap length (sym parts) in
    let some = ends.some in
    let fit = ends.fit in
    record { some = omega (arith, some, many); fit = omega (arith, fit, many) }

pub follow-returns-in-Refused-clause-keeps : goal.follow-returns-in-Refused-clause-keeps
follow-returns-in-Refused-clause-keeps g t c =
    let truth = (g.W.World.state c.args.world.now).truth in
    let globals = c.args.globals.now in
    let s = setting_of truth globals in
    let past = past_of globals in
    let i = instance_of (call_of c.args.call.now) c.args.below past in
    let first = entries_of c.args.memo.now in
    let k = kept_in c.args.kept.now in
    let inv = c.loop-event.invariant in
    let n = c.loop-event.event-index in
    let events = c.as_slice-events.result.now in
    let way = c.loop-event.way.value in
    let ss = streams_of way.parts.items in
    let held = entries_of c.loop-event.memo in
    keeps_there (λ a. setting_of a globals) past first held (entries_of c.go_on.new.memo) inv.truth inv.followed.keeps c.in_ok-go_on.ensures.keeps

pub follow-returns-in-Refused-clause-served : goal.follow-returns-in-Refused-clause-served
follow-returns-in-Refused-clause-served g t c =
    let truth = (g.W.World.state c.args.world.now).truth in
    let globals = c.args.globals.now in
    let s = setting_of truth globals in
    let past = past_of globals in
    let i = instance_of (call_of c.args.call.now) c.args.below past in
    let first = entries_of c.args.memo.now in
    let k = kept_in c.args.kept.now in
    let inv = c.loop-event.invariant in
    let n = c.loop-event.event-index in
    let events = c.as_slice-events.result.now in
    let way = c.loop-event.way.value in
    let ss = streams_of way.parts.items in
    let held = entries_of c.loop-event.memo in
    let e = c.event-item.result in
    let more = entries_of c.go_on.new.memo in
    let old = c.deref_mut.result.now in
    let next = c.go_on.new.way in
    let turned = along_turn s i first held way.spare k ss events n e (omega arith) c.event-item.is inv.followed in
    let before : IsFollowed s i first held old.spare k (streams_of old.parts.items) (event_of e ∷ rest_from events (n + 1)) = rw c.deref_mut.ensures.value turned in
    let last = c.in-Refused.last in
    let ends : EndsWith s i k (streams_of next.parts.items) (outcome_of last.value).ending
    = gone_refused (λ a. setting_of a globals) i first held more old next (event_of e) k (rest_from events (n + 1)) c.in_ok-go_on.field-0 last inv.truth c.in_ok-go_on.ensures.goes c.in-Refused.is before in
    let parts : c.as_slice.result.now ≡ next.parts.items = rw (sym c.deref.ensures) c.as_slice.ensures.value in
    let many : length (streams_of next.parts.items) ≡ length c.as_slice.result.now = length-map next.parts.items _ ∙ ap length (sym parts) in
    let o = c.in_ok-short-in-Refused.short in
    let made : outcome_of o.value ≡ cut_with k (streams_of next.parts.items) (outcome_of last.value).ending
    = c.in_ok-short-in-Refused.ensures ∙ ap (λ m. record { content = filled (cut (m - 1) k.content) (streams_of c.as_slice.result.now); ending = (outcome_of last.value).ending }) (sym many)
    ∙ ap (λ xs. record { content = filled (cut (length (streams_of next.parts.items) - 1) k.content) (streams_of xs); ending = (outcome_of last.value).ending }) parts in
    along_short s i (entries_of c.go_on.new.memo) k (streams_of next.parts.items) (outcome_of last.value).ending o ends c.a_record_lasts.ensures c.requires.serves.of_call c.requires.serves.levels made

pub follow-returns-in-Refused-clause-sure : goal.follow-returns-in-Refused-clause-sure
follow-returns-in-Refused-clause-sure g t c =
    sure_there c.loop-event.invariant.truth c.in_ok-go_on.ensures.sure

pub follow-done-requires : goal.follow-done-requires
follow-done-requires g t c =
    let truth = (g.W.World.state c.args.world.now).truth in
    let globals = c.args.globals.now in
    let s = setting_of truth globals in
    let past = past_of globals in
    let i = instance_of (call_of c.args.call.now) c.args.below past in
    let first = entries_of c.args.memo.now in
    let k = kept_in c.args.kept.now in
    let inv = c.loop-event.invariant in
    let n = c.loop-event.event-index in
    let events = c.as_slice-events.result.now in
    let way = c.loop-event.way.value in
    let ss = streams_of way.parts.items in
    let held = entries_of c.loop-event.memo in
    let none = rest_none events n (omega arith) in
    let parts : c.as_slice-2.result.now ≡ way.parts.items = rw (sym c.deref-2.ensures) c.as_slice-2.ensures.value in
    record {
      fit = along_even s i first held way.spare k ss (rest_from events n) inv.followed none ∙ length-map way.parts.items _ ∙ ap length (sym parts);
      silent = λ so. ap (λ (xs : List (Rc Items Allocator)). all_messages (streams_of xs)) parts ∙ way.silent (rw (sym c.deref-4.ensures) so);
    }

pub follow-returns-clause-served : goal.follow-returns-clause-served
follow-returns-clause-served g t c =
    let truth = (g.W.World.state c.args.world.now).truth in
    let globals = c.args.globals.now in
    let s = setting_of truth globals in
    let past = past_of globals in
    let i = instance_of (call_of c.args.call.now) c.args.below past in
    let first = entries_of c.args.memo.now in
    let k = kept_in c.args.kept.now in
    let inv = c.loop-event.invariant in
    let n = c.loop-event.event-index in
    let events = c.as_slice-events.result.now in
    let way = c.loop-event.way.value in
    let ss = streams_of way.parts.items in
    let held = entries_of c.loop-event.memo in
    let none = rest_none events n (omega arith) in
    let parts : c.as_slice-2.result.now ≡ way.parts.items = rw (sym c.deref-2.ensures) c.as_slice-2.ensures.value in
    let o = c.in_ok-outcome.outcome in
    let low : o.value.spare ≤ way.spare = rw (sym c.deref-3.ensures) c.in_ok-outcome.ensures.spare in
    let made = c.in_ok-outcome.ensures.outcome ∙ ap (λ xs. record { content = filled k.content (streams_of xs); ending = k.ending }) parts in
    along_ended s i first held way.spare k ss (rest_from events n) o inv.followed none c.a_record_lasts.ensures c.requires.serves.of_call c.requires.serves.levels low c.in_ok-outcome.ensures.height made

pub follow-returns-clause-keeps : goal.follow-returns-clause-keeps
follow-returns-clause-keeps g t c =
    let inv = c.loop-event.invariant in
    let n = c.loop-event.event-index in
    let events = c.as_slice-events.result.now in
    let way = c.loop-event.way.value in
    let ss = streams_of way.parts.items in
    let held = entries_of c.loop-event.memo in
    inv.followed.keeps

pub go_on-returns-in-Holds-clause-goes : goal.go_on-returns-in-Holds-clause-goes
go_on-returns-in-Holds-clause-goes g t c =
    let truth = (g.W.World.state c.args.world.now).truth in
    let globals = c.args.globals.now in
    let s = setting_of truth globals in
    let i = instance_of (call_of c.args.call.now) c.args.below (past_of globals) in
    let all = entries_of c.args.memo.now in
    let way = c.args.way.now in
    let e = event_of c.args.event.now in
    let x = c.in_ok-next_done.field-0 in
    let n : IsNext x i.call i.below (streams_of way.parts.items) e = rw (sym c.as_slice.ensures.value) c.in_ok-next_done.ensures in
    gone_holds s i all way e x n c.in-Holds.is

pub go_on-means-came-requires : goal.go_on-means-came-requires
go_on-means-came-requires g t c =
    let ss = streams_of c.args.way.now.parts.items in
    let call = call_of c.args.call.now in
    let below = c.args.below in
    let e = event_of c.args.event.now in
    let x = c.in_ok-next_done.field-0 in
    let n : IsNext x call below ss e = rw (sym c.as_slice.ensures.value) c.in_ok-next_done.ensures in
    let low = left_entered x c.in-Enter.inner c.in-Enter.left call below ss e n c.in-Enter.is in
    λ κs lives. (omega (arith, low), (lives.0, (lives.1.0, (lives.1.1, (c.requires.remembers, c.requires.sure)))))

pub go_on-returns-in-Enter-clause-keeps : goal.go_on-returns-in-Enter-clause-keeps
go_on-returns-in-Enter-clause-keeps g t c =
    on_ok c.take_entered.result c.take_entered.ensures (λ l h. of_takes l _ _ c.means-came.result h c.means-came.ensures.keeps)

pub go_on-returns-in-Enter-clause-goes : goal.go_on-returns-in-Enter-clause-goes
go_on-returns-in-Enter-clause-goes g t c =
    let truth = (g.W.World.state c.args.world.now).truth in
    let globals = c.args.globals.now in
    let s = setting_of truth globals in
    let i = instance_of (call_of c.args.call.now) c.args.below (past_of globals) in
    let all = entries_of c.args.memo.now in
    let way = c.args.way.now in
    let e = event_of c.args.event.now in
    let x = c.in_ok-next_done.field-0 in
    let n : IsNext x i.call i.below (streams_of way.parts.items) e = rw (sym c.as_slice.ensures.value) c.in_ok-next_done.ensures in
    if_ok c.take_entered.result c.take_entered.ensures (λ l h.
    gone_entered s i all (entries_of c.means-came.new.memo) way c.take_entered.new.way e x c.in-Enter.inner c.deref.result.now c.in-Enter.left c.means-came.result l c.deref.ensures n c.in-Enter.is
    c.means-came.ensures.keeps c.means-came.ensures.lasts c.means-came.ensures.meaning h)

pub go_on-returns-in-Enter-clause-sure : goal.go_on-returns-in-Enter-clause-sure
go_on-returns-in-Enter-clause-sure g t c =
    on_ok c.take_entered.result c.take_entered.ensures (λ l h. of_takes l _ _ c.means-came.result h c.means-came.ensures.sure)

pub go_on-refer-came-requires : goal.go_on-refer-came-requires
go_on-refer-came-requires g t c =
    let ss = streams_of c.args.way.now.parts.items in
    let call = call_of c.args.call.now in
    let below = c.args.below in
    let e = event_of c.args.event.now in
    let x = c.in_ok-next_done.field-0 in
    let n : IsNext x call below ss e = rw (sym c.as_slice.ensures.value) c.in_ok-next_done.ensures in
    let low = left_referred x c.in-Refer.needed c.in-Refer.left call below ss e n c.in-Refer.is in
    λ κs lives. (omega (arith, low), (lives.0, (lives.1.0, (lives.1.1, (c.requires.remembers, c.requires.sure)))))

pub go_on-returns-in-Refer-clause-keeps : goal.go_on-returns-in-Refer-clause-keeps
go_on-returns-in-Refer-clause-keeps g t c =
    on_ok c.take_reference.result c.take_reference.ensures (λ l h. of_reference l _ _ _ _ _ c.refer-came.result h c.refer-came.ensures.keeps)

pub go_on-returns-in-Refer-clause-goes : goal.go_on-returns-in-Refer-clause-goes
go_on-returns-in-Refer-clause-goes g t c =
    let truth = (g.W.World.state c.args.world.now).truth in
    let globals = c.args.globals.now in
    let s = setting_of truth globals in
    let i = instance_of (call_of c.args.call.now) c.args.below (past_of globals) in
    let all = entries_of c.args.memo.now in
    let way = c.args.way.now in
    let e = event_of c.args.event.now in
    let x = c.in_ok-next_done.field-0 in
    let n : IsNext x i.call i.below (streams_of way.parts.items) e = rw (sym c.as_slice.ensures.value) c.in_ok-next_done.ensures in
    if_ok c.take_reference.result c.take_reference.ensures (λ l h.
    gone_referred s i all (entries_of c.refer-came.new.memo) way c.take_reference.new.way e x c.in-Refer.needed c.deref-in-Refer.result.now c.in-Refer.left c.refer-came.result l c.deref-in-Refer.ensures n c.in-Refer.is
    c.refer-came.ensures.keeps c.refer-came.ensures.settles h)

pub go_on-returns-in-Refer-clause-sure : goal.go_on-returns-in-Refer-clause-sure
go_on-returns-in-Refer-clause-sure g t c =
    on_ok c.take_reference.result c.take_reference.ensures (λ l h. of_reference l _ _ _ _ _ c.refer-came.result h c.refer-came.ensures.sure)

pub serve-loop-found-init : goal.serve-loop-found-init
serve-loop-found-init g t c =
    let s = setting_of (g.W.World.state c.args.world.now).truth c.args.globals.now in
    let i = instance_of (call_of c.args.call.now) c.args.below (past_of c.args.globals.now) in
    record {
      keeps = keeps_all c.requires.remembers;
      tried = λ h ready. tried_begun s i (hand_of c.args.reuse.now c.args.memo.now) (few_of s.ask c.args.reuse.now c.requires.sure) ready;
      sure = c.requires.sure;
      truth = refl;
      name = refl;
      last = refl;
      spared = refl;
    }

pub serve-find-requires : goal.serve-find-requires
serve-find-requires g t c =
    let inv = c.loop-found.invariant in
    record { sure = sure_there (sym inv.truth) inv.sure }

pub serve-returns-in-None-clause-sure : goal.serve-returns-in-None-clause-sure
serve-returns-in-None-clause-sure g t c =
    let inv = c.loop-found.invariant in
    sure_there inv.truth c.in_ok-find.ensures.sure

pub serve-returns-in-None-clause-keeps : goal.serve-returns-in-None-clause-keeps
serve-returns-in-None-clause-keeps g t c =
    let inv = c.loop-found.invariant in
    inv.keeps

pub serve-follow-served-requires : goal.serve-follow-served-requires
serve-follow-served-requires g t c =
    let globals = c.args.globals.now in
    let inv = c.loop-found.invariant in
    let found = c.in-Some.found in
    let call = call_of c.args.call.now in
    let there = (g.W.World.state c.loop-found.world).truth in
    let here = c.find.ensures.truth ∙ inv.truth in
    let may : MayServe there call c.args.below (kept_in found.record.value) = some_of (λ f. MayServe there call c.args.below (kept_in f.record.value)) c.in_ok-find.field-0 found c.in-Some.is c.in_ok-find.ensures.serves in
    let P : Ask → Type 0 = λ a. MayServe a call c.args.below (kept_in found.record.value) in
    let Q : Record → Type 0 = λ r. MayServe (g.W.World.state c.find.new.world).truth call c.args.below (kept_in r) in
    let serves = subst Q (sym c.deref.ensures) (subst P (sym c.find.ensures.truth) may) in
    let remembers = remembers_there (λ a. setting_of a globals) (past_of globals) (entries_of c.loop-found.memo) here inv.keeps.remembers in
    λ κs lives. (omega arith, (lives.0, (lives.1.0, (lives.1.1, (remembers, (sure_there (sym c.find.ensures.truth) c.in_ok-find.ensures.sure, serves))))))

pub serve-loop-found-smaller : goal.serve-loop-found-smaller
serve-loop-found-smaller g t c =
    let from = c.loop-found.from in
    let later = some_of (λ f. from < f.next) c.in_ok-find.field-0 c.in-Some.found c.in-Some.is c.in_ok-find.ensures.next in
    let same = c.next_turn-from.ensures.same in
    let fits = c.next_turn-from.ensures.fits in
    omega (arith, later, same, fits)

pub serve-loop-found-preserved : goal.serve-loop-found-preserved
serve-loop-found-preserved g t c =
    let truth = (g.W.World.state c.args.world.now).truth in
    let globals = c.args.globals.now in
    let past = past_of globals in
    let inv = c.loop-found.invariant in
    let first = entries_of c.args.memo.now in
    let held = entries_of c.loop-found.memo in
    let found = c.in-Some.found in
    let there = (g.W.World.state c.loop-found.world).truth in
    let here = c.find.ensures.truth ∙ inv.truth in
    let may : MayServe there (call_of c.args.call.now) c.args.below (kept_in found.record.value)
    = some_of (λ f. MayServe there (call_of c.args.call.now) c.args.below (kept_in f.record.value)) c.in_ok-find.field-0 found c.in-Some.is c.in_ok-find.ensures.serves in
    record {
      keeps = keeps_there (λ a. setting_of a globals) past first held (entries_of c.follow-served.new.memo) here inv.keeps (on_is c.follow-served.result c.in_ok-tried-in-Some.ensures.came c.follow-served.ensures.keeps);
      tried =
          let s = setting_of truth globals in
          let i = instance_of (call_of c.args.call.now) c.args.below (past_of globals) in
          let begun = hand_of c.args.reuse.now c.args.memo.now in
          let now = hand_of c.loop-found.reuse c.loop-found.memo in
          let from = c.loop-found.from in
          let P : Ask → Type 0 = λ a. PassedOver a i.call i.below c.loop-found.reuse from (Some found) in
          let passed = subst P inv.truth (same_of (λ o. PassedOver there i.call i.below c.loop-found.reuse from o) c.in_ok-find.field-0 found c.in-Some.is c.in_ok-find.ensures.complete) in
          let stands = some_of (λ f. IsThere c.loop-found.reuse f.next f.record.value) c.in_ok-find.field-0 found c.in-Some.is c.in_ok-find.ensures.stands in
          let mid = hand_of c.find.new.self c.loop-found.memo in
          let later = hand_of c.follow-served.new.reuse c.follow-served.new.memo in
          let k = kept_in found.record.value in
          let Q : Record → Type 0 = λ r. IfOk c.follow-served.result (λ v. OfRun (setting_of (g.W.World.state c.find.new.world).truth globals) i mid
          (CountsFollowed v (setting_of (g.W.World.state c.find.new.world).truth globals) i (kept_in r) mid later)) in
          let R : Ask → Type 0 = λ a. IfOk c.follow-served.result (λ v. OfRun (setting_of a globals) i mid (CountsFollowed v (setting_of a globals) i k mid later)) in
          let followed = subst R here (subst Q c.deref.ensures c.follow-served.ensures.counts) in
          let tells = c.in_ok-tried-in-Some.ensures in
          let none = none_of (λ o. IfNone o (IsUnserved c.follow-served.result)) c.in_ok-tried-in-Some.field-0 c.in-None-2.is tells.unserved in
          λ h ready.
          let t = inv.tried h ready in
          let ready_now = (front_judged s i begun now c.find.new.self from c.find.ensures.judges t).ready in
          let lost_so = unserved (λ v. OfRun s i mid (CountsFollowed v s i k mid later)) c.follow-served.result none followed h ready_now in
          let next = tried_next s i begun now later c.find.new.self from found (few_of truth c.loop-found.reuse inv.sure) c.find.ensures.judges passed stands
          h t lost_so in
          let still = tried_still s i begun later c.tried.new.reuse found.next next tells.last
          (kept_none c.follow-served.result later.reuse c.tried.new.reuse found none tells.kept) tells.steps in
          let F : ℕ → Type 0 = λ n. Tried s i begun (hand_of c.tried.new.reuse c.follow-served.new.memo) n in
          subst F (sym c.next_turn-from.ensures.same) still;
      sure = sure_there inv.truth (c.in_ok-tried-in-Some.ensures.sure there (sure_there c.find.ensures.truth (on_is c.follow-served.result c.in_ok-tried-in-Some.ensures.came c.follow-served.ensures.sure)) may.asks);
      truth = c.follow-served.ensures.truth ∙ here;
      name = c.follow-served.ensures.name ∙ c.find.ensures.name ∙ inv.name;
      last = c.in_ok-tried-in-Some.ensures.last ∙ c.follow-served.ensures.last ∙ c.find.ensures.judges.last ∙ inv.last;
      spared = c.in_ok-tried-in-Some.ensures.spared ∙ c.follow-served.ensures.spared ∙ c.find.ensures.judges.spared ∙ inv.spared;
    }

pub serve-returns-in-Some-2-clause-keeps : goal.serve-returns-in-Some-2-clause-keeps
serve-returns-in-Some-2-clause-keeps g t c =
    let truth = (g.W.World.state c.args.world.now).truth in
    let globals = c.args.globals.now in
    let past = past_of globals in
    let inv = c.loop-found.invariant in
    let first = entries_of c.args.memo.now in
    let held = entries_of c.loop-found.memo in
    let found = c.in-Some.found in
    let there = (g.W.World.state c.loop-found.world).truth in
    let here = c.find.ensures.truth ∙ inv.truth in
    let may : MayServe there (call_of c.args.call.now) c.args.below (kept_in found.record.value)
    = some_of (λ f. MayServe there (call_of c.args.call.now) c.args.below (kept_in f.record.value)) c.in_ok-find.field-0 found c.in-Some.is c.in_ok-find.ensures.serves in
    keeps_there (λ a. setting_of a globals) past first held (entries_of c.follow-served.new.memo) here inv.keeps (on_is c.follow-served.result c.in_ok-tried-in-Some.ensures.came c.follow-served.ensures.keeps)

pub serve-returns-in-Some-2-clause-served : goal.serve-returns-in-Some-2-clause-served
serve-returns-in-Some-2-clause-served g t c =
    let truth = (g.W.World.state c.args.world.now).truth in
    let globals = c.args.globals.now in
    let past = past_of globals in
    let inv = c.loop-found.invariant in
    let first = entries_of c.args.memo.now in
    let held = entries_of c.loop-found.memo in
    let found = c.in-Some.found in
    let there = (g.W.World.state c.loop-found.world).truth in
    let here = c.find.ensures.truth ∙ inv.truth in
    let may : MayServe there (call_of c.args.call.now) c.args.below (kept_in found.record.value)
    = some_of (λ f. MayServe there (call_of c.args.call.now) c.args.below (kept_in f.record.value)) c.in_ok-find.field-0 found c.in-Some.is c.in_ok-find.ensures.serves in
    let is = some_of (λ v. c.follow-served.result ≡ Ok v) c.in_ok-tried-in-Some.field-0 c.in-Some-2.served c.in-Some-2.is c.in_ok-tried-in-Some.ensures.served in
    let v = c.in-Some-2.served in
    let new = entries_of c.follow-served.new.memo in
    let call = call_of c.args.call.now in
    let P : Served → Type 0 = λ x. IsServed x (setting_of (g.W.World.state c.find.new.world).truth globals) past (suc c.args.below) new call in
    served_there (λ a. setting_of a globals) past v (suc c.args.below) new call here (as_served P v c.follow-served.result is c.follow-served.ensures.served)

pub serve-returns-in-Some-2-clause-sure : goal.serve-returns-in-Some-2-clause-sure
serve-returns-in-Some-2-clause-sure g t c =
    let truth = (g.W.World.state c.args.world.now).truth in
    let globals = c.args.globals.now in
    let past = past_of globals in
    let inv = c.loop-found.invariant in
    let first = entries_of c.args.memo.now in
    let held = entries_of c.loop-found.memo in
    let found = c.in-Some.found in
    let there = (g.W.World.state c.loop-found.world).truth in
    let here = c.find.ensures.truth ∙ inv.truth in
    let may : MayServe there (call_of c.args.call.now) c.args.below (kept_in found.record.value)
    = some_of (λ f. MayServe there (call_of c.args.call.now) c.args.below (kept_in f.record.value)) c.in_ok-find.field-0 found c.in-Some.is c.in_ok-find.ensures.serves in
    sure_there inv.truth (c.in_ok-tried-in-Some.ensures.sure there (sure_there c.find.ensures.truth (on_is c.follow-served.result c.in_ok-tried-in-Some.ensures.came c.follow-served.ensures.sure)) may.asks)

pub means_anew-returns-in-As-clause-lasts : goal.means_anew-returns-in-As-clause-lasts
means_anew-returns-in-As-clause-lasts g t c =
    let truth = (g.W.World.state c.args.world.now).truth in
    let globals = c.args.globals.now in
    let s = setting_of truth globals in
    let past = past_of globals in
    let call = call_of c.args.call.now in
    let v = c.in_ok-outcome.field-0 in
    let mid = entries_of c.serve.new.memo in
    let room : suc (c.args.levels - 1) ≡ c.args.levels = omega arith in
    (served_as s past v (suc (c.args.levels - 1)) c.args.levels mid call c.in-As.outcome c.in_ok-outcome.ensures.served c.in-As.is room).1

pub means_anew-returns-in-As-clause-meaning : goal.means_anew-returns-in-As-clause-meaning
means_anew-returns-in-As-clause-meaning g t c =
    let truth = (g.W.World.state c.args.world.now).truth in
    let globals = c.args.globals.now in
    let s = setting_of truth globals in
    let past = past_of globals in
    let call = call_of c.args.call.now in
    let v = c.in_ok-outcome.field-0 in
    let mid = entries_of c.serve.new.memo in
    let room : suc (c.args.levels - 1) ≡ c.args.levels = omega arith in
    (served_as s past v (suc (c.args.levels - 1)) c.args.levels mid call c.in-As.outcome c.in_ok-outcome.ensures.served c.in-As.is room).0

pub means_anew-run_call-requires : goal.means_anew-run_call-requires
means_anew-run_call-requires g t c =
    let truth = (g.W.World.state c.args.world.now).truth in
    let globals = c.args.globals.now in
    let past = past_of globals in
    let mid = entries_of c.serve.new.memo in
    let at : Ask → Setting NodeRef = λ a. setting_of a globals in
    let there = c.serve.ensures.truth in
    let room : suc (c.args.levels - 1) ≡ c.args.levels = omega arith in
    let remembers = remembers_there at past mid there c.in_ok-outcome.ensures.keeps.remembers in
    let lost = served_not (setting_of truth globals) past c.in_ok-outcome.field-0 (suc (c.args.levels - 1)) mid (call_of c.args.call.now) c.in-Not.lost c.in_ok-outcome.ensures.served c.in-Not.is in
    λ κs lives. (
      omega (arith, room),
      (
        lives.0,
        (
          lives.1.0,
          (
            lives.1.1,
            (
              remembers,
              (
                sure_there (sym there) c.in_ok-outcome.ensures.sure,
                (
                  lost_there at past c.in-Not.lost there lost,
                  (c.in_ok-standing-in-Not.ensures.started, (c.in_ok-standing-in-Not.ensures.given, c.in_ok-standing-in-Not.ensures.parts)),
                ),
              ),
            ),
          ),
        ),
      ),
    )

pub means_anew-returns-in_ok-ended-in-Not-clause-keeps : goal.means_anew-returns-in_ok-ended-in-Not-clause-keeps
means_anew-returns-in_ok-ended-in-Not-clause-keeps g t c =
    let globals = c.args.globals.now in
    on_any c.keep_ended.result (keeps_there (λ a. setting_of a globals) (past_of globals) (entries_of c.args.memo.now) (entries_of c.serve.new.memo) (entries_of c.run_call.new.memo) c.serve.ensures.truth c.in_ok-outcome.ensures.keeps c.in_ok-ended-in-Not.ensures.keeps)

pub means_anew-returns-in_ok-ended-in-Not-clause-lasts : goal.means_anew-returns-in_ok-ended-in-Not-clause-lasts
means_anew-returns-in_ok-ended-in-Not-clause-lasts g t c =
    let truth = (g.W.World.state c.args.world.now).truth in
    let globals = c.args.globals.now in
    let past = past_of globals in
    let call = call_of c.args.call.now in
    let room : suc (c.args.levels - 1) ≡ c.args.levels = omega arith in
    let e = c.in_ok-ended-in-Not.ended in
    let new = entries_of c.run_call.new.memo in
    let P : Ask → Type 0 = λ a. Lasts (setting_of a globals) past (suc (c.args.levels - 1) - e.outcome.value.spare) new call (outcome_of e.outcome.value) in
    let Q : ℕ → Type 0 = λ n. Lasts (setting_of truth globals) past (n - e.outcome.value.spare) new call (outcome_of e.outcome.value) in
    let R : Box Came Allocator → Type 0 = λ o. Lasts (setting_of truth globals) past (c.args.levels - o.value.spare) new call (outcome_of o.value) in
    let lasts = subst Q room (subst P c.serve.ensures.truth c.in_ok-ended-in-Not.ensures.lasts) in
    if_ok c.keep_ended.result c.keep_ended.ensures.outcome (λ o h. subst R (sym h) lasts)

pub means_anew-returns-in_ok-ended-in-Not-clause-meaning : goal.means_anew-returns-in_ok-ended-in-Not-clause-meaning
means_anew-returns-in_ok-ended-in-Not-clause-meaning g t c =
    let truth = (g.W.World.state c.args.world.now).truth in
    let globals = c.args.globals.now in
    let past = past_of globals in
    let call = call_of c.args.call.now in
    let room : suc (c.args.levels - 1) ≡ c.args.levels = omega arith in
    let e = c.in_ok-ended-in-Not.ended in
    let meant = c.in_ok-ended-in-Not.ensures.meaning ∙ ap (λ a. meaning (setting_of a globals) (suc (c.args.levels - 1)) past 0 call) c.serve.ensures.truth
    ∙ ap (λ n. meaning (setting_of truth globals) n past 0 call) room in
    if_ok c.keep_ended.result c.keep_ended.ensures.outcome (λ o h. ap (λ (x : Box Came Allocator). outcome_of x.value) h ∙ meant)

pub means_anew-returns-in_ok-ended-in-Not-clause-sure : goal.means_anew-returns-in_ok-ended-in-Not-clause-sure
means_anew-returns-in_ok-ended-in-Not-clause-sure g t c =
    on_all c.keep_ended.result c.keep_ended.ensures.sure (λ keeps. sure_there c.serve.ensures.truth (keeps (g.W.World.state c.serve.new.world).truth c.in_ok-ended-in-Not.ensures.sure c.in_ok-ended-in-Not.ensures.asks))

pub need-returns-in-Some-clause-keeps : goal.need-returns-in-Some-clause-keeps
need-returns-in-Some-clause-keeps g t c =
    keeps_all c.requires.remembers

pub need-returns-in-Some-clause-settles : goal.need-returns-in-Some-clause-settles
need-returns-in-Some-clause-settles g t c =
    let truth = (g.W.World.state c.args.world.now).truth in
    let globals = c.args.globals.now in
    let s = setting_of truth globals in
    let past = past_of globals in
    let lost = c.args.lost.now in
    let r = c.in-Some.referred in
    let is = some_of (λ x. IsOfReference lost c.args.needed.now c.args.levels x.value) c.in_ok-referred.field-0 r c.in-Some.is c.in_ok-referred.ensures.again in
    regained_settles s past lost c.args.needed.now c.args.levels (entries_of c.args.memo.now) r.value c.requires.lost is

pub refer-evaluated-requires : goal.refer-evaluated-requires
refer-evaluated-requires g t c =
    let s = setting_of (g.W.World.state c.args.world.now).truth c.args.globals.now in
    if_ok c.means-came.result c.means-came.ensures.meaning (λ x h. ap (λ (o : Outcome NodeRef). holes o.content) h ∙ meaning_whole s c.args.levels _ 0 _)

pub refer-returns-in-Given-clause-keeps : goal.refer-returns-in-Given-clause-keeps
refer-returns-in-Given-clause-keeps g t c =
    let truth = (g.W.World.state c.args.world.now).truth in
    let globals = c.args.globals.now in
    let name = c.args.needed.now.name in
    let levels = c.args.levels in
    let old = entries_of c.args.memo.now in
    let new = entries_of c.look_up.new.memo in
    let refers : Refers c.in_ok-given.field-0 globals name levels old new = c.in_ok-given.ensures.refers in
    (refers_given c.in_ok-given.field-0 c.in-Given.given globals name levels old new truth refers c.in-Given.is c.requires.remembers).0

pub refer-returns-in-Given-clause-settles : goal.refer-returns-in-Given-clause-settles
refer-returns-in-Given-clause-settles g t c =
    let truth = (g.W.World.state c.args.world.now).truth in
    let globals = c.args.globals.now in
    let name = c.args.needed.now.name in
    let levels = c.args.levels in
    let old = entries_of c.args.memo.now in
    let new = entries_of c.look_up.new.memo in
    let refers : Refers c.in_ok-given.field-0 globals name levels old new = c.in_ok-given.ensures.refers in
    (refers_given c.in_ok-given.field-0 c.in-Given.given globals name levels old new truth refers c.in-Given.is c.requires.remembers).1 (place_of c.args.needed.now.place)

pub refer-means-came-requires : goal.refer-means-came-requires
refer-means-came-requires g t c =
    let truth = (g.W.World.state c.args.world.now).truth in
    let globals = c.args.globals.now in
    let name = c.args.needed.now.name in
    let levels = c.args.levels in
    let old = entries_of c.args.memo.now in
    let s = setting_of truth globals in
    let past = past_of globals in
    let refers : Refers c.in_ok-given.field-0 globals name levels old (entries_of c.look_up.new.memo) = c.in_ok-given.ensures.refers in
    let anew = refers_evaluated c.in_ok-given.field-0 c.in-Evaluated.element globals name levels old (entries_of c.look_up.new.memo) truth refers c.in-Evaluated.is c.requires.remembers in
    let evaluation = c.in_ok-evaluation-in-Evaluated in
    let under = c.as_slice.ensures.value ∙ ap (λ (e : Evaluation). e.under_way.items) c.deref.ensures ∙ evaluation.ensures.under_way in
    let ready = evaluation_ready s past name c.as_slice.result.now under (aside_of anew.1 evaluation.ensures.aside) c.requires.remembers in
    λ κs lives. (omega arith, (lives.0, (lives.1.0, (lives.1.1, (ready, c.requires.sure)))))

pub refer-returns-in_ok-evaluation-in-Evaluated-clause-keeps : goal.refer-returns-in_ok-evaluation-in-Evaluated-clause-keeps
refer-returns-in_ok-evaluation-in-Evaluated-clause-keeps g t c =
    let truth = (g.W.World.state c.args.world.now).truth in
    let globals = c.args.globals.now in
    let name = c.args.needed.now.name in
    let place = place_of c.args.needed.now.place in
    let levels = c.args.levels in
    let old = entries_of c.args.memo.now in
    let s = setting_of truth globals in
    let past = past_of globals in
    let refers : Refers c.in_ok-given.field-0 globals name levels old (entries_of c.look_up.new.memo) = c.in_ok-given.ensures.refers in
    let node = c.in-Evaluated.element in
    let anew = refers_evaluated c.in_ok-given.field-0 node globals name levels old (entries_of c.look_up.new.memo) truth refers c.in-Evaluated.is c.requires.remembers in
    let evaluation = c.in_ok-evaluation-in-Evaluated in
    let under = c.as_slice.ensures.value ∙ ap (λ (e : Evaluation). e.under_way.items) c.deref.ensures ∙ evaluation.ensures.under_way in
    let call = ap (λ (e : Evaluation). call_of e.call) c.deref-in-Evaluated.ensures ∙ evaluation.ensures.call in
    let aside = map entry_of evaluation.evaluation.value.aside.items in
    let mid = entries_of c.evaluation_of.new.memo in
    let new = entries_of c.means-came.new.memo in
    let last = entries_of c.evaluated.new.memo in
    let evaluates = evaluates_as c.means-came.result c.evaluated.result levels aside new last evaluation.ensures.name evaluation.ensures.element c.evaluated.ensures in
    let all = evaluation_all s past name c.as_slice.result.now node place levels (call_of c.deref-in-Evaluated.result.now.call) aside old mid new last c.means-came.result c.evaluated.result under call anew.0
    (aside_of anew.1 evaluation.ensures.aside) c.requires.remembers c.means-came.ensures.keeps c.means-came.ensures.lasts c.means-came.ensures.meaning evaluates in
    on_ok c.evaluated.result all (λ x h. h.keeps)

pub refer-returns-in_ok-evaluation-in-Evaluated-clause-settles : goal.refer-returns-in_ok-evaluation-in-Evaluated-clause-settles
refer-returns-in_ok-evaluation-in-Evaluated-clause-settles g t c =
    let truth = (g.W.World.state c.args.world.now).truth in
    let globals = c.args.globals.now in
    let name = c.args.needed.now.name in
    let place = place_of c.args.needed.now.place in
    let levels = c.args.levels in
    let old = entries_of c.args.memo.now in
    let s = setting_of truth globals in
    let past = past_of globals in
    let refers : Refers c.in_ok-given.field-0 globals name levels old (entries_of c.look_up.new.memo) = c.in_ok-given.ensures.refers in
    let node = c.in-Evaluated.element in
    let anew = refers_evaluated c.in_ok-given.field-0 node globals name levels old (entries_of c.look_up.new.memo) truth refers c.in-Evaluated.is c.requires.remembers in
    let evaluation = c.in_ok-evaluation-in-Evaluated in
    let under = c.as_slice.ensures.value ∙ ap (λ (e : Evaluation). e.under_way.items) c.deref.ensures ∙ evaluation.ensures.under_way in
    let call = ap (λ (e : Evaluation). call_of e.call) c.deref-in-Evaluated.ensures ∙ evaluation.ensures.call in
    let aside = map entry_of evaluation.evaluation.value.aside.items in
    let mid = entries_of c.evaluation_of.new.memo in
    let new = entries_of c.means-came.new.memo in
    let last = entries_of c.evaluated.new.memo in
    let evaluates = evaluates_as c.means-came.result c.evaluated.result levels aside new last evaluation.ensures.name evaluation.ensures.element c.evaluated.ensures in
    let all = evaluation_all s past name c.as_slice.result.now node place levels (call_of c.deref-in-Evaluated.result.now.call) aside old mid new last c.means-came.result c.evaluated.result under call anew.0
    (aside_of anew.1 evaluation.ensures.aside) c.requires.remembers c.means-came.ensures.keeps c.means-came.ensures.lasts c.means-came.ensures.meaning evaluates in
    if_ok c.evaluated.result all (λ x h. h.settles)

pub refer-returns-in_ok-evaluation-in-Evaluated-clause-sure : goal.refer-returns-in_ok-evaluation-in-Evaluated-clause-sure
refer-returns-in_ok-evaluation-in-Evaluated-clause-sure g t c =
    on_ok c.evaluated.result c.evaluated.ensures (λ r h. of_evaluates r.value c.means-came.result _ _ _ _ _ _ h c.means-came.ensures.sure)

pub run_call-loop-standing-init : goal.run_call-loop-standing-init
run_call-loop-standing-init g t c =
    let truth = (g.W.World.state c.args.world.now).truth in
    let l = level_of truth c.args.globals.now c.args.below (call_of c.args.call.now) in
    let all = entries_of c.args.memo.now in
    let begun = c.args.standing.value in
    let p = g.E.Engine.progress begun.run.value in
    let P : Option (Gift NodeRef) → Type 0 = λ x. Stands l p x [] in
    let Q : List Stream → Type 0 = λ ss. Stands l p (gift_of begun.given) ss in
    record {
      stands = subst Q (sym (ap streams_of c.requires.parts)) (subst P (sym (ap gift_of c.requires.given)) (stands_begun l p refl c.requires.started));
      onward = onward_begun l all begun.spare p (gift_of begun.given) refl c.requires.remembers c.requires.started (ap gift_of c.requires.given);
      running = λ h ready. running_begun l c.args.lost.now p (gift_of begun.given) (hand_of c.args.reuse.now c.args.memo.now) c.count_run.new.self
          c.requires.started (ap gift_of c.requires.given) h ready c.count_run.ensures.last c.count_run.ensures.kept
          c.count_run.ensures.next c.count_run.ensures.ran;
      sure = c.count_run.ensures.sure truth c.requires.sure;
      truth = refl;
      name = refl;
      last = c.count_run.ensures.last;
      spared = c.count_run.ensures.spared;
    }

pub run_call-returns-in-Failed-clause-lasts : goal.run_call-returns-in-Failed-clause-lasts
run_call-returns-in-Failed-clause-lasts g t c =
    let l = level_of (g.W.World.state c.args.world.now).truth c.args.globals.now c.args.below (call_of c.args.call.now) in
    let o = c.in_ok-outcome-in-Failed.outcome.value in
    lasts_fault l.setting l.past (suc c.args.below - o.spare) (entries_of c.loop-standing.memo) l.call c.in-Failed.fault.value o c.in_ok-outcome-in-Failed.ensures

pub follow-returns-in-Not-clause-counts : goal.follow-returns-in-Not-clause-counts
follow-returns-in-Not-clause-counts g t c =
    let truth = (g.W.World.state c.args.world.now).truth in
    let globals = c.args.globals.now in
    let s = setting_of truth globals in
    let i = instance_of (call_of c.args.call.now) c.args.below (past_of globals) in
    let k = kept_in c.args.kept.now in
    let inv = c.loop-event.invariant in
    let n = c.loop-event.event-index in
    let events = c.as_slice-events.result.now in
    let way = c.loop-event.way.value in
    let ss = streams_of way.parts.items in
    let first = hand_of c.args.reuse.now c.args.memo.now in
    let now = hand_of c.loop-event.reuse c.loop-event.memo in
    let e = c.event-item.result in
    let old = c.deref_mut.result.now in
    let next = c.go_on.new.way in
    let later = hand_of c.go_on.new.reuse c.go_on.new.memo in
    λ h ready.
    let turn = along_to s i k (done_to events n) (rest_from events n) (event_of e ∷ rest_from events (n + 1)) ss first now
    (next_event events n e (omega arith) c.event-item.is) (inv.counted h ready) in
    let on = gone_as (λ a. setting_of a globals) i (event_of e) (streams_of old.parts.items) (streams_of next.parts.items) now later c.in_ok-go_on.field-0 (gone.Not c.in-Not.lost)
    inv.truth c.in_ok-go_on.ensures.counts c.in-Not.is in
    on first k (done_to events n) (rest_from events (n + 1))
    (along_with s i k (done_to events n) (event_of e ∷ rest_from events (n + 1)) old way first now c.deref_mut.ensures.value turn)

pub follow-returns-in-Refused-clause-counts : goal.follow-returns-in-Refused-clause-counts
follow-returns-in-Refused-clause-counts g t c =
    let truth = (g.W.World.state c.args.world.now).truth in
    let globals = c.args.globals.now in
    let s = setting_of truth globals in
    let i = instance_of (call_of c.args.call.now) c.args.below (past_of globals) in
    let k = kept_in c.args.kept.now in
    let inv = c.loop-event.invariant in
    let n = c.loop-event.event-index in
    let events = c.as_slice-events.result.now in
    let way = c.loop-event.way.value in
    let ss = streams_of way.parts.items in
    let first = hand_of c.args.reuse.now c.args.memo.now in
    let now = hand_of c.loop-event.reuse c.loop-event.memo in
    let e = c.event-item.result in
    let old = c.deref_mut.result.now in
    let next = c.go_on.new.way in
    let later = hand_of c.go_on.new.reuse c.go_on.new.memo in
    λ h ready.
    let turn = along_to s i k (done_to events n) (rest_from events n) (event_of e ∷ rest_from events (n + 1)) ss first now
    (next_event events n e (omega arith) c.event-item.is) (inv.counted h ready) in
    let on = gone_as (λ a. setting_of a globals) i (event_of e) (streams_of old.parts.items) (streams_of next.parts.items) now later c.in_ok-go_on.field-0 (gone.Refused c.in-Refused.last)
    inv.truth c.in_ok-go_on.ensures.counts c.in-Refused.is in
    on first k (done_to events n) (rest_from events (n + 1))
    (along_with s i k (done_to events n) (event_of e ∷ rest_from events (n + 1)) old way first now c.deref_mut.ensures.value turn)

pub follow-returns-clause-counts : goal.follow-returns-clause-counts
follow-returns-clause-counts g t c =
    let truth = (g.W.World.state c.args.world.now).truth in
    let globals = c.args.globals.now in
    let s = setting_of truth globals in
    let i = instance_of (call_of c.args.call.now) c.args.below (past_of globals) in
    let k = kept_in c.args.kept.now in
    let inv = c.loop-event.invariant in
    let n = c.loop-event.event-index in
    let events = c.as_slice-events.result.now in
    let way = c.loop-event.way.value in
    let ss = streams_of way.parts.items in
    let first = hand_of c.args.reuse.now c.args.memo.now in
    let now = hand_of c.loop-event.reuse c.loop-event.memo in
    λ h ready. along_whole s i k (done_to events n) (rest_from events n) ss first now (rest_none events n (omega arith)) (inv.counted h ready)

pub go_on-returns-in-Holds-clause-counts : goal.go_on-returns-in-Holds-clause-counts
go_on-returns-in-Holds-clause-counts g t c =
    let truth = (g.W.World.state c.args.world.now).truth in
    let globals = c.args.globals.now in
    let s = setting_of truth globals in
    let i = instance_of (call_of c.args.call.now) c.args.below (past_of globals) in
    let way = c.args.way.now in
    let e = event_of c.args.event.now in
    let x = c.in_ok-next_done.field-0 in
    let n : IsNext x i.call i.below (streams_of way.parts.items) e = rw (sym c.as_slice.ensures.value) c.in_ok-next_done.ensures in
    let now = hand_of c.args.reuse.now c.args.memo.now in
    counts_held s i e (streams_of way.parts.items) now x n c.in-Holds.is

pub go_on-returns-in-Differs-clause-counts : goal.go_on-returns-in-Differs-clause-counts
go_on-returns-in-Differs-clause-counts g t c =
    let truth = (g.W.World.state c.args.world.now).truth in
    let globals = c.args.globals.now in
    let s = setting_of truth globals in
    let i = instance_of (call_of c.args.call.now) c.args.below (past_of globals) in
    let way = c.args.way.now in
    let e = event_of c.args.event.now in
    let x = c.in_ok-next_done.field-0 in
    let n : IsNext x i.call i.below (streams_of way.parts.items) e = rw (sym c.as_slice.ensures.value) c.in_ok-next_done.ensures in
    let now = hand_of c.args.reuse.now c.args.memo.now in
    counts_other s i e (streams_of way.parts.items) now x n c.in-Differs.is

pub go_on-returns-in-Enter-clause-counts : goal.go_on-returns-in-Enter-clause-counts
go_on-returns-in-Enter-clause-counts g t c =
    let truth = (g.W.World.state c.args.world.now).truth in
    let globals = c.args.globals.now in
    let s = setting_of truth globals in
    let i = instance_of (call_of c.args.call.now) c.args.below (past_of globals) in
    let way = c.args.way.now in
    let e = event_of c.args.event.now in
    let x = c.in_ok-next_done.field-0 in
    let n : IsNext x i.call i.below (streams_of way.parts.items) e = rw (sym c.as_slice.ensures.value) c.in_ok-next_done.ensures in
    let now = hand_of c.args.reuse.now c.args.memo.now in
    if_ok c.take_entered.result c.take_entered.ensures (λ l h.
    counts_entered s i e way c.take_entered.new.way now (hand_of c.means-came.new.reuse c.means-came.new.memo) x c.in-Enter.inner c.deref.result.now
    c.in-Enter.left c.means-came.result l c.deref.ensures n c.in-Enter.is c.means-came.ensures.counts c.means-came.ensures.meaning h)

pub go_on-returns-in-Refer-clause-counts : goal.go_on-returns-in-Refer-clause-counts
go_on-returns-in-Refer-clause-counts g t c =
    let truth = (g.W.World.state c.args.world.now).truth in
    let globals = c.args.globals.now in
    let s = setting_of truth globals in
    let i = instance_of (call_of c.args.call.now) c.args.below (past_of globals) in
    let way = c.args.way.now in
    let e = event_of c.args.event.now in
    let x = c.in_ok-next_done.field-0 in
    let n : IsNext x i.call i.below (streams_of way.parts.items) e = rw (sym c.as_slice.ensures.value) c.in_ok-next_done.ensures in
    let now = hand_of c.args.reuse.now c.args.memo.now in
    if_ok c.take_reference.result c.take_reference.ensures (λ l h.
    counts_referred s i e way c.take_reference.new.way now (hand_of c.refer-came.new.reuse c.refer-came.new.memo) x c.in-Refer.needed c.deref-in-Refer.result.now
    c.in-Refer.left c.refer-came.result l c.deref-in-Refer.ensures n c.in-Refer.is c.refer-came.ensures.counts c.refer-came.ensures.idle
    (if_ok c.refer-came.result c.refer-came.ensures.settles (λ r m. m.gives)) h)

pub serve-returns-in-None-clause-counts : goal.serve-returns-in-None-clause-counts
serve-returns-in-None-clause-counts g t c =
    let truth = (g.W.World.state c.args.world.now).truth in
    let globals = c.args.globals.now in
    let s = setting_of truth globals in
    let i = instance_of (call_of c.args.call.now) c.args.below (past_of globals) in
    let inv = c.loop-found.invariant in
    let there = (g.W.World.state c.loop-found.world).truth in
    let first = hand_of c.args.reuse.now c.args.memo.now in
    let now = hand_of c.loop-found.reuse c.loop-found.memo in
    let from = c.loop-found.from in
    let P : Ask → Type 0 = λ a. PassedOver a i.call i.below c.loop-found.reuse from None in
    let passed = subst P inv.truth (none_of (λ o. PassedOver there i.call i.below c.loop-found.reuse from o) c.in_ok-find.field-0 c.in-None.is c.in_ok-find.ensures.complete) in
    λ h ready.
    let t = inv.tried h ready in
    (front_judged s i first now c.find.new.self from c.find.ensures.judges t, tried_all s i first now from passed t)

pub serve-returns-in-Some-2-clause-counts : goal.serve-returns-in-Some-2-clause-counts
serve-returns-in-Some-2-clause-counts g t c =
    let truth = (g.W.World.state c.args.world.now).truth in
    let globals = c.args.globals.now in
    let s = setting_of truth globals in
    let i = instance_of (call_of c.args.call.now) c.args.below (past_of globals) in
    let inv = c.loop-found.invariant in
    let there = (g.W.World.state c.loop-found.world).truth in
    let first = hand_of c.args.reuse.now c.args.memo.now in
    let now = hand_of c.loop-found.reuse c.loop-found.memo in
    let from = c.loop-found.from in
    let found = c.in-Some.found in
    let here = c.find.ensures.truth ∙ inv.truth in
    let P : Ask → Type 0 = λ a. PassedOver a i.call i.below c.loop-found.reuse from (Some found) in
    let passed = subst P inv.truth (same_of (λ o. PassedOver there i.call i.below c.loop-found.reuse from o) c.in_ok-find.field-0 found c.in-Some.is c.in_ok-find.ensures.complete) in
    let stands = some_of (λ f. IsThere c.loop-found.reuse f.next f.record.value) c.in_ok-find.field-0 found c.in-Some.is c.in_ok-find.ensures.stands in
    let mid = hand_of c.find.new.self c.loop-found.memo in
    let later = hand_of c.follow-served.new.reuse c.follow-served.new.memo in
    let k = kept_in found.record.value in
    let Q : Record → Type 0 = λ r. IfOk c.follow-served.result (λ v. OfRun (setting_of (g.W.World.state c.find.new.world).truth globals) i mid
    (CountsFollowed v (setting_of (g.W.World.state c.find.new.world).truth globals) i (kept_in r) mid later)) in
    let R : Ask → Type 0 = λ a. IfOk c.follow-served.result (λ v. OfRun (setting_of a globals) i mid (CountsFollowed v (setting_of a globals) i k mid later)) in
    let followed = subst R here (subst Q c.deref.ensures c.follow-served.ensures.counts) in
    let v = c.in-Some-2.served in
    let tells = c.in_ok-tried-in-Some.ensures in
    let is = some_of (λ x. c.follow-served.result ≡ Ok x) c.in_ok-tried-in-Some.field-0 v c.in-Some-2.is tells.served in
    let answer = some_of IsAnswer c.in_ok-tried-in-Some.field-0 v c.in-Some-2.is tells.answer in
    let may : MayServe there i.call i.below k = some_of (λ f. MayServe there i.call i.below (kept_in f.record.value)) c.in_ok-find.field-0 found c.in-Some.is c.in_ok-find.ensures.serves in
    let A : Ask → Type 0 = λ a. AsksHold a k.trace in
    let asks = subst A inv.truth may.asks in
    let K : Result Served Memory → Type 0 = λ r. IsKeptToo r later.reuse c.tried.new.reuse found in
    λ h ready.
    let t = inv.tried h ready in
    let ready_now = (front_judged s i first now c.find.new.self from c.find.ensures.judges t).ready in
    let went = as_served (λ x. OfRun s i mid (CountsFollowed x s i k mid later)) v c.follow-served.result is followed h ready_now in
    answered s i first now later c.find.new.self c.tried.new.reuse from found v c.find.ensures.judges stands h t went asks answer (subst K is tells.kept) tells.last tells.steps

pub means_anew-returns-in-As-clause-counts : goal.means_anew-returns-in-As-clause-counts
means_anew-returns-in-As-clause-counts g t c =
    let truth = (g.W.World.state c.args.world.now).truth in
    let globals = c.args.globals.now in
    let s = setting_of truth globals in
    let past = past_of globals in
    let i = instance_of (call_of c.args.call.now) (c.args.levels - 1) past in
    let first = hand_of c.args.reuse.now c.args.memo.now in
    let later = hand_of c.serve.new.reuse c.serve.new.memo in
    let room : suc (c.args.levels - 1) ≡ c.args.levels = omega arith in
    let P : Served → Type 0 = λ v. OfRun s i first (CountsServed v s i first later) in
    means_served s i c.args.levels first later room (subst P c.in-As.is c.in_ok-outcome.ensures.counts)

pub means_anew-returns-in_ok-ended-in-Not-clause-counts : goal.means_anew-returns-in_ok-ended-in-Not-clause-counts
means_anew-returns-in_ok-ended-in-Not-clause-counts g t c =
    let truth = (g.W.World.state c.args.world.now).truth in
    let globals = c.args.globals.now in
    let s = setting_of truth globals in
    let past = past_of globals in
    let i = instance_of (call_of c.args.call.now) (c.args.levels - 1) past in
    let first = hand_of c.args.reuse.now c.args.memo.now in
    let mid = hand_of c.serve.new.reuse c.serve.new.memo in
    let later = hand_of c.run_call.new.reuse c.run_call.new.memo in
    let last = hand_of c.keep_ended.new.reuse c.run_call.new.memo in
    let room : suc (c.args.levels - 1) ≡ c.args.levels = omega arith in
    let P : Served → Type 0 = λ v. OfRun s i first (CountsServed v s i first mid) in
    let served_so = subst P c.in-Not.is c.in_ok-outcome.ensures.counts in
    let ended = c.in_ok-ended-in-Not.ended in
    let R : Ask → Type 0 = λ a. OfRun (setting_of a globals) i mid (CountedRun (setting_of a globals) i c.in-Not.lost mid later) in
    let M : Ask → Type 0 = λ a. IsMadeOf (setting_of a globals) i ended.ran in
    let runs = subst R c.serve.ensures.truth c.in_ok-ended-in-Not.ensures.counts in
    let made = subst M c.serve.ensures.truth c.in_ok-ended-in-Not.ensures.made_of in
    on_all c.keep_ended.result c.keep_ended.ensures.kept (λ kept.
    means_served s i c.args.levels first last room (λ h ready.
    let x = served_so h ready in
    run_counted s i c.in-Not.lost first mid later c.keep_ended.new.reuse ended.ran h x (runs h (served_ready s i c.in-Not.lost first mid x)) made kept
    c.keep_ended.ensures.last c.keep_ended.ensures.steps))

pub need-returns-in-Some-clause-counts : goal.need-returns-in-Some-clause-counts
need-returns-in-Some-clause-counts g t c =
    let truth = (g.W.World.state c.args.world.now).truth in
    let globals = c.args.globals.now in
    let s = setting_of truth globals in
    let past = past_of globals in
    let now = hand_of c.args.reuse.now c.args.memo.now in
    let name = c.args.needed.now.name in
    let place = place_of c.args.needed.now.place in
    let l = c.args.lost.now in
    let known = sym (c.in_ok-referred.ensures.lost (lost_refusal s past l c.requires.lost)) ∙ ap is_some c.in-Some.is in
    need_known s past l name c.args.levels place now known

pub need-returns-in-None-clause-counts : goal.need-returns-in-None-clause-counts
need-returns-in-None-clause-counts g t c =
    let truth = (g.W.World.state c.args.world.now).truth in
    let globals = c.args.globals.now in
    let s = setting_of truth globals in
    let past = past_of globals in
    let now = hand_of c.args.reuse.now c.args.memo.now in
    let name = c.args.needed.now.name in
    let place = place_of c.args.needed.now.place in
    let l = c.args.lost.now in
    let known = sym (c.in_ok-referred.ensures.lost (lost_refusal s past l c.requires.lost)) ∙ ap is_some c.in-None.is in
    on_all c.refer.result c.refer.ensures.counts (λ over. need_other s past l name c.args.levels place now (hand_of c.refer.new.reuse c.refer.new.memo) known over)

pub refer-returns-in-Given-clause-counts : goal.refer-returns-in-Given-clause-counts
refer-returns-in-Given-clause-counts g t c =
    let truth = (g.W.World.state c.args.world.now).truth in
    let globals = c.args.globals.now in
    let s = setting_of truth globals in
    let past = past_of globals in
    let name = c.args.needed.now.name in
    let place = place_of c.args.needed.now.place in
    let levels = c.args.levels in
    let old = entries_of c.args.memo.now in
    let looked = looked_given c.in_ok-given.field-0 c.in-Given.given globals name levels old (entries_of c.look_up.new.memo) c.in_ok-given.ensures.counts c.in-Given.is in
    (looked truth c.args.reuse.now place c.requires.remembers).0

pub refer-returns-in-Given-clause-idle : goal.refer-returns-in-Given-clause-idle
refer-returns-in-Given-clause-idle g t c =
    let truth = (g.W.World.state c.args.world.now).truth in
    let globals = c.args.globals.now in
    let s = setting_of truth globals in
    let past = past_of globals in
    let name = c.args.needed.now.name in
    let place = place_of c.args.needed.now.place in
    let levels = c.args.levels in
    let old = entries_of c.args.memo.now in
    let looked = looked_given c.in_ok-given.field-0 c.in-Given.given globals name levels old (entries_of c.look_up.new.memo) c.in_ok-given.ensures.counts c.in-Given.is in
    (looked truth c.args.reuse.now place c.requires.remembers).1

pub refer-returns-in_ok-evaluation-in-Evaluated-clause-counts : goal.refer-returns-in_ok-evaluation-in-Evaluated-clause-counts
refer-returns-in_ok-evaluation-in-Evaluated-clause-counts g t c =
    let truth = (g.W.World.state c.args.world.now).truth in
    let globals = c.args.globals.now in
    let s = setting_of truth globals in
    let past = past_of globals in
    let name = c.args.needed.now.name in
    let place = place_of c.args.needed.now.place in
    let levels = c.args.levels in
    let old = entries_of c.args.memo.now in
    let refers : Refers c.in_ok-given.field-0 globals name levels old (entries_of c.look_up.new.memo) = c.in_ok-given.ensures.refers in
    let node = c.in-Evaluated.element in
    let anew = refers_evaluated c.in_ok-given.field-0 node globals name levels old (entries_of c.look_up.new.memo) truth refers c.in-Evaluated.is c.requires.remembers in
    let evaluation = c.in_ok-evaluation-in-Evaluated in
    let under = c.as_slice.ensures.value ∙ ap (λ (e : Evaluation). e.under_way.items) c.deref.ensures ∙ evaluation.ensures.under_way in
    let call = ap (λ (e : Evaluation). call_of e.call) c.deref-in-Evaluated.ensures ∙ evaluation.ensures.call in
    let aside = map entry_of evaluation.evaluation.value.aside.items in
    let new = entries_of c.means-came.new.memo in
    let last = entries_of c.evaluated.new.memo in
    let evaluates = evaluates_as c.means-came.result c.evaluated.result levels aside new last evaluation.ensures.name evaluation.ensures.element c.evaluated.ensures in
    counts_evaluated s past name c.as_slice.result.now node place levels (call_of c.deref-in-Evaluated.result.now.call) aside old (entries_of c.evaluation_of.new.memo) new last
    c.args.reuse.now c.means-came.new.reuse c.means-came.result c.evaluated.result under call anew.0 (aside_of anew.1 evaluation.ensures.aside)
    c.means-came.ensures.counts c.means-came.ensures.meaning evaluates

pub refer-returns-in_ok-evaluation-in-Evaluated-clause-idle : goal.refer-returns-in_ok-evaluation-in-Evaluated-clause-idle
refer-returns-in_ok-evaluation-in-Evaluated-clause-idle g t c =
    let truth = (g.W.World.state c.args.world.now).truth in
    let globals = c.args.globals.now in
    let s = setting_of truth globals in
    let past = past_of globals in
    let name = c.args.needed.now.name in
    let place = place_of c.args.needed.now.place in
    let levels = c.args.levels in
    let old = entries_of c.args.memo.now in
    let refers : Refers c.in_ok-given.field-0 globals name levels old (entries_of c.look_up.new.memo) = c.in_ok-given.ensures.refers in
    let node = c.in-Evaluated.element in
    let anew = refers_evaluated c.in_ok-given.field-0 node globals name levels old (entries_of c.look_up.new.memo) truth refers c.in-Evaluated.is c.requires.remembers in
    let evaluation = c.in_ok-evaluation-in-Evaluated in
    let under = c.as_slice.ensures.value ∙ ap (λ (e : Evaluation). e.under_way.items) c.deref.ensures ∙ evaluation.ensures.under_way in
    let call = ap (λ (e : Evaluation). call_of e.call) c.deref-in-Evaluated.ensures ∙ evaluation.ensures.call in
    let aside = map entry_of evaluation.evaluation.value.aside.items in
    let new = entries_of c.means-came.new.memo in
    let last = entries_of c.evaluated.new.memo in
    let evaluates = evaluates_as c.means-came.result c.evaluated.result levels aside new last evaluation.ensures.name evaluation.ensures.element c.evaluated.ensures in
    evaluated_idle c.means-came.result c.evaluated.result name node levels aside new last (for_reference s (entered s levels) past name 0 place) evaluates

pub run_call-returns-in-Done-clause-counts : goal.run_call-returns-in-Done-clause-counts
run_call-returns-in-Done-clause-counts g t c =
    let truth = (g.W.World.state c.args.world.now).truth in
    let prog = g.E.Engine.progress in
    let globals = c.args.globals.now in
    let past = past_of globals in
    let below = c.args.below in
    let l = level_of truth globals below (call_of c.args.call.now) in
    let inv = c.loop-standing.invariant in
    let old = c.deref_mut.result.now in
    let new = c.advance.new.standing in
    let gift = gift_of old.given in
    let ss = streams_of new.parts.items in
    let stands : Stands l (prog old.run.value) gift ss = rw (c.advance.ensures.parts, c.deref_mut.ensures.value) inv.stands in
    let ran = c.in-Done.ran.value in
    let adv : Advances truth gift (prog old.run.value) (prog new.run.value) (Ok (Done ran)) = stepped gift (prog old.run.value) (prog new.run.value) l.call below inv.truth c.in-Done.is c.in_ok-inner.ensures.steps in
    λ h ready.
    let X : Running l c.args.lost.now (prog old.run.value).left (received (prog old.run.value).waits (prog old.run.value).going (prog old.run.value).supplies gift)
    (hand_of c.args.reuse.now c.args.memo.now) (hand_of c.loop-standing.reuse c.loop-standing.memo) = rw c.deref_mut.ensures.value (inv.running h ready) in
    running_done l c.args.lost.now (hand_of c.args.reuse.now c.args.memo.now) (hand_of c.loop-standing.reuse c.loop-standing.memo) (prog old.run.value) (prog new.run.value) gift ss ran stands adv X

pub run_call-returns-in-Done-clause-made_of : goal.run_call-returns-in-Done-clause-made_of
run_call-returns-in-Done-clause-made_of g t c =
    let truth = (g.W.World.state c.args.world.now).truth in
    let prog = g.E.Engine.progress in
    let globals = c.args.globals.now in
    let past = past_of globals in
    let below = c.args.below in
    let l = level_of truth globals below (call_of c.args.call.now) in
    let inv = c.loop-standing.invariant in
    let old = c.deref_mut.result.now in
    let new = c.advance.new.standing in
    let gift = gift_of old.given in
    let ss = streams_of new.parts.items in
    let stands : Stands l (prog old.run.value) gift ss = rw (c.advance.ensures.parts, c.deref_mut.ensures.value) inv.stands in
    let ran = c.in-Done.ran.value in
    let adv : Advances truth gift (prog old.run.value) (prog new.run.value) (Ok (Done ran)) = stepped gift (prog old.run.value) (prog new.run.value) l.call below inv.truth c.in-Done.is c.in_ok-inner.ensures.steps in
    done_same l (prog old.run.value) (prog new.run.value) gift ss ran stands adv

pub run_call-returns-in-Failed-clause-counts : goal.run_call-returns-in-Failed-clause-counts
run_call-returns-in-Failed-clause-counts g t c =
    let truth = (g.W.World.state c.args.world.now).truth in
    let prog = g.E.Engine.progress in
    let globals = c.args.globals.now in
    let past = past_of globals in
    let below = c.args.below in
    let l = level_of truth globals below (call_of c.args.call.now) in
    let inv = c.loop-standing.invariant in
    let old = c.deref_mut.result.now in
    let new = c.advance.new.standing in
    let gift = gift_of old.given in
    let ss = streams_of new.parts.items in
    let stands : Stands l (prog old.run.value) gift ss = rw (c.advance.ensures.parts, c.deref_mut.ensures.value) inv.stands in
    let fault = c.in-Failed.fault.value in
    let adv : Advances truth gift (prog old.run.value) (prog new.run.value) (Err fault) = stepped gift (prog old.run.value) (prog new.run.value) l.call below inv.truth c.in-Failed.is c.in_ok-inner.ensures.steps in
    λ h ready.
    let X : Running l c.args.lost.now (prog old.run.value).left (received (prog old.run.value).waits (prog old.run.value).going (prog old.run.value).supplies gift)
    (hand_of c.args.reuse.now c.args.memo.now) (hand_of c.loop-standing.reuse c.loop-standing.memo) = rw c.deref_mut.ensures.value (inv.running h ready) in
    running_failed l c.args.lost.now (hand_of c.args.reuse.now c.args.memo.now) (hand_of c.loop-standing.reuse c.loop-standing.memo) (prog old.run.value) (prog new.run.value) gift ss fault c.in_ok-outcome-in-Failed.outcome.value stands adv c.in_ok-outcome-in-Failed.ensures X

pub run_call-returns-in-Failed-clause-made_of : goal.run_call-returns-in-Failed-clause-made_of
run_call-returns-in-Failed-clause-made_of g t c =
    let truth = (g.W.World.state c.args.world.now).truth in
    let prog = g.E.Engine.progress in
    let globals = c.args.globals.now in
    let past = past_of globals in
    let below = c.args.below in
    let l = level_of truth globals below (call_of c.args.call.now) in
    let inv = c.loop-standing.invariant in
    let old = c.deref_mut.result.now in
    let new = c.advance.new.standing in
    let gift = gift_of old.given in
    let ss = streams_of new.parts.items in
    let stands : Stands l (prog old.run.value) gift ss = rw (c.advance.ensures.parts, c.deref_mut.ensures.value) inv.stands in
    let fault = c.in-Failed.fault.value in
    let adv : Advances truth gift (prog old.run.value) (prog new.run.value) (Err fault) = stepped gift (prog old.run.value) (prog new.run.value) l.call below inv.truth c.in-Failed.is c.in_ok-inner.ensures.steps in
    failed_same l (prog old.run.value) (prog new.run.value) gift ss fault c.in_ok-outcome-in-Failed.outcome.value stands adv c.in_ok-outcome-in-Failed.ensures

pub means_anew-returns-then-levels-eq0-clause-counts : goal.means_anew-returns-then-levels-eq0-clause-counts
means_anew-returns-then-levels-eq0-clause-counts g t c =
    let globals = c.args.globals.now in
    on_any c.too_deep.result (means_none (setting_of (g.W.World.state c.args.world.now).truth globals) (past_of globals) (call_of c.args.call.now) c.args.levels
    (hand_of c.args.reuse.now c.args.memo.now) (omega arith))

-- ---- A tree says it by itself

pub means-returns-in-Some-clause-lasts : goal.means-returns-in-Some-clause-lasts
means-returns-in-Some-clause-lasts g t c =
    let truth = (g.W.World.state c.args.world.now).truth in
    let globals = c.args.globals.now in
    let s = setting_of truth globals in
    let past = past_of globals in
    let call = call_of c.args.call.now in
    let x = c.in-Some.said in
    let last = values_of c.args.reuse.now.last.now.records.items in
    let said = (said_in truth c.args.reuse.now c.said.new.self call c.args.levels c.in_ok-said.field-0 x c.in-Some.is c.in_ok-said.ensures.said).said in
    if_ok c.whole_again.result (if_both _ _ c.whole_again.result c.whole_again.ensures.outcome c.whole_again.ensures.spare) (λ o both.
    let spare = both.1 in
    let low = said.room in
    lasts_said s last call c.args.levels x.whole.value x.record.value refl said past (entries_of c.args.memo.now) (c.args.levels - o.value.spare)
    (outcome_of o.value) (omega (arith, spare, low))
    (outcome_said s last call c.args.levels x.whole.value x.record.value refl said (outcome_of o.value) both.0))

pub means-returns-in-Some-clause-meaning : goal.means-returns-in-Some-clause-meaning
means-returns-in-Some-clause-meaning g t c =
    let truth = (g.W.World.state c.args.world.now).truth in
    let globals = c.args.globals.now in
    let s = setting_of truth globals in
    let past = past_of globals in
    let call = call_of c.args.call.now in
    let x = c.in-Some.said in
    let last = values_of c.args.reuse.now.last.now.records.items in
    let said = (said_in truth c.args.reuse.now c.said.new.self call c.args.levels c.in_ok-said.field-0 x c.in-Some.is c.in_ok-said.ensures.said).said in
    if_ok c.whole_again.result c.whole_again.ensures.outcome (λ o is.
    means_said s last call c.args.levels x.whole.value x.record.value refl said past (outcome_of o.value)
    (outcome_said s last call c.args.levels x.whole.value x.record.value refl said (outcome_of o.value) is))

pub means-returns-in-Some-clause-counts : goal.means-returns-in-Some-clause-counts
means-returns-in-Some-clause-counts g t c =
    let truth = (g.W.World.state c.args.world.now).truth in
    let globals = c.args.globals.now in
    let s = setting_of truth globals in
    let call = call_of c.args.call.now in
    let x = c.in-Some.said in
    let last = values_of c.args.reuse.now.last.now.records.items in
    let taken = said_in truth c.args.reuse.now c.said.new.self call c.args.levels c.in_ok-said.field-0 x c.in-Some.is c.in_ok-said.ensures.said in
    on_any c.whole_again.result (counts_said s last call c.args.levels x.whole.value x.record.value refl taken.said c.args.reuse.now c.said.new.self refl
    c.said.ensures.looks taken.next (past_of globals) (entries_of c.args.memo.now))

pub means-means_anew-requires : goal.means-means_anew-requires
means-means_anew-requires g t c =
    let globals = c.args.globals.now in
    let remembers = remembers_there (λ a. setting_of a globals) (past_of globals) (entries_of c.args.memo.now) c.said.ensures.truth c.requires.remembers in
    λ κs lives. (omega arith, (lives.0, (lives.1.0, (lives.1.1, (remembers, sure_there (sym c.said.ensures.truth) c.in_ok-said.ensures.sure)))))

pub means-returns-in-None-clause-keeps : goal.means-returns-in-None-clause-keeps
means-returns-in-None-clause-keeps g t c =
    let globals = c.args.globals.now in
    let T : Ask → Type 0 = λ a. OnOk c.means_anew.result (Keeps (setting_of a globals) (past_of globals) (entries_of c.args.memo.now) (entries_of c.means_anew.new.memo)) in
    subst T c.said.ensures.truth c.means_anew.ensures.keeps

pub means-returns-in-None-clause-lasts : goal.means-returns-in-None-clause-lasts
means-returns-in-None-clause-lasts g t c =
    let globals = c.args.globals.now in
    let T : Ask → Type 0 = λ a. IfOk c.means_anew.result (λ o. Lasts (setting_of a globals) (past_of globals) (c.args.levels - o.value.spare)
    (entries_of c.means_anew.new.memo) (call_of c.args.call.now) (outcome_of o.value)) in
    subst T c.said.ensures.truth c.means_anew.ensures.lasts

pub means-returns-in-None-clause-meaning : goal.means-returns-in-None-clause-meaning
means-returns-in-None-clause-meaning g t c =
    let globals = c.args.globals.now in
    let T : Ask → Type 0 = λ a. IfOk c.means_anew.result (λ o. outcome_of o.value ≡ meaning (setting_of a globals) c.args.levels (past_of globals) 0
    (call_of c.args.call.now)) in
    subst T c.said.ensures.truth c.means_anew.ensures.meaning

pub means-returns-in-None-clause-counts : goal.means-returns-in-None-clause-counts
means-returns-in-None-clause-counts g t c =
    let truth = (g.W.World.state c.args.world.now).truth in
    let globals = c.args.globals.now in
    let s = setting_of truth globals in
    let past = past_of globals in
    let call = call_of c.args.call.now in
    let none = unsaid_in c.args.reuse.now c.said.new.self c.in_ok-said.field-0 c.in-None.is c.in_ok-said.ensures.unsaid in
    let T : Ask → Type 0 = λ a. OnOk c.means_anew.result (CountsOver (setting_of a globals) past.values (entered (setting_of a globals) c.args.levels past 0 call)
    (hand_of c.said.new.self c.args.memo.now) (hand_of c.means_anew.new.reuse c.means_anew.new.memo)) in
    on_all c.means_anew.result (subst T c.said.ensures.truth c.means_anew.ensures.counts) (λ over.
    counts_from s past.values (entered s c.args.levels past 0 call) c.args.reuse.now c.said.new.self (entries_of c.args.memo.now)
    (hand_of c.means_anew.new.reuse c.means_anew.new.memo) c.said.ensures.looks none over)

pub means-returns-in-None-clause-sure : goal.means-returns-in-None-clause-sure
means-returns-in-None-clause-sure g t c =
    let T : Ask → Type 0 = λ a. OnOk c.means_anew.result (IsSure a c.means_anew.new.reuse) in
    subst T c.said.ensures.truth c.means_anew.ensures.sure
