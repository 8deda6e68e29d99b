-- What an engine made of a call that came to its end goes along the plan of the call, and its questions have their answers.
use Rattle.std.proofs.Common.{◌≡◌, List, [], Option, Some, None, Ok, sym, ap, subst, ◌∙◌, arith}
use Rattle.spec_meaning.specs.Stream.{Stream}
use Rattle.spec_run.specs.Going.{Event, at_start, Owned, owned, own}
use Rattle.spec_run.specs.Hold.{GoesOn}
use Rattle.spec_run.specs.Passes.{Passes}
use Rattle.spec_run.specs.Trail.{Trail, IsTrue}
use Rattle.spec_run.specs.Content.{plan_of}
use Rattle.spec_run.proofs.Trails.{own_went, trail_trace}
use Rattle.spec_node.specs.declared.node_ref.NodeRef.{NodeRef}
use Rattle.spec_meaning.specs.Supplies.{at_hand}
use Rattle.xt_tree.specs.declared.value.Value.{Value}
use Rattle.xt_engine.specs.declared.event.Ran.{Ran}
use Rattle.xt_engine.specs.declared.turn.Turn.TheVariants.{Done}
use Rattle.xt_engine.specs.Progress.{Progress, Gift, Start, Goes, Halts, received}
use Rattle.xt_engine.specs.Advances.{Advances, AdvancesSo, Made, ending_of, ran_of, ends}
use Rattle.xt_record.specs.Kept.{kept_with}
use Rattle.xt_record.specs.View.{AsksHold}
use Rattle.xt_driver.specs.Stands.{Level, supply_of, nested_of, StandsSo, Stands}
use Rattle.xt_driver.proofs.Owns.{own_passes}
use Rattle.xt_driver.proofs.Standing.{own_ends, in_room}
use Rattle.xt_driver.proofs.Serving.{holds_asked}

abbrev all_of : Level → Owned NodeRef
all_of l = own l.setting.ask (supply_of l) (nested_of l) l.below (plan_of l.setting.same l.call) at_start

-- what came to its end
on_end : (v : Option Value) → GoesOn (ending_of v)
on_end None = tt
on_end (Some v) = tt

pub record IsKept (l : Level) (ran : Ran) : Type 0 where
  pub lasting : IsTrue l.setting.same (kept_with l.call (ran_of ran))
  pub asks : AsksHold l.setting.ask (ran_of ran).trace

pub done_kept : (l : Level) (p q : Progress) (gift : Option (Gift NodeRef)) (ss : List Stream) (ran : Ran) → Stands l p gift ss
    → Advances l.setting.ask gift p q (Ok (Done ran)) → IsKept l ran
done_kept l p q gift ss ran h a = go (received p.waits p.going p.supplies gift) h.so a.so
  where
    go : (st : Start NodeRef) → StandsSo l p.left ss st → AdvancesSo l.setting.ask p st q (Ok (Done ran)) → IsKept l ran
    go (Halts why g) so adv = absurd adv
    go (Goes g s) so adv =
        let e = (ran_of ran).ending in
        let last = adv.last in
        let here : Passes l.setting.ask (at_hand s) l.below p.left g (ends e) last = in_room h.room adv.passes in
        let ended : all_of l ≡ owned last e = sym so.0 ∙ own_passes l.setting.ask (supply_of l) (nested_of l) l.below so.1 here ∙ own_ends l e last in
        let W : Owned NodeRef → Type 0 = λ y. GoesOn y.ending in
        let went = own_went l.setting.ask (supply_of l) (nested_of l) l.below (plan_of l.setting.same l.call) at_start (subst W (sym ended) (on_end ran.value)) (omega arith) in
        let T : Owned NodeRef → Type 0 = λ y. Trail (plan_of l.setting.same l.call) at_start went.events y.going y.ending in
        let trail = subst T ended went.trail in
        let trace : went.events ≡ (ran_of ran).trace = sym (trail_trace trail) ∙ ap (λ (m : Made NodeRef). m.trace) adv.same in
        let E : List (Event NodeRef) → Type 0 = λ es. Trail (plan_of l.setting.same l.call) at_start es last e in
        let A : List (Event NodeRef) → Type 0 = λ es. AsksHold l.setting.ask es in
        record {
          lasting = record { last = last; trail = subst E trace trail; is = ap (kept_with l.call) (sym adv.same) };
          asks = subst A trace (holds_asked l.setting.ask (supply_of l) (nested_of l) [] went.events went.hold);
        }
