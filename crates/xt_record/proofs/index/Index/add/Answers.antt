use Rattle.std.proofs.Common.{◌≡◌, ◌∙◌, ◌++◌, ◌∷◌, [], List, ℕ, if◌then◌else◌, length, unwrap_or, ap, sym, arith}
use Rattle.std.specs.declared.rc.Rc.{Rc}
use Rattle.std.specs.declared.alloc.Global.{Global}
use Rattle.xt_record.specs.Chain.{key_in}
use Rattle.xt_record.specs.declared.record.Record.{Record}
use Rattle.xt_record.proofs.Chaining.{added, as_it_was, both_more}
use Rattle.xt_record.proofs.index.Index.add.Goals as goal

pub invariant_of-self-in-Break-branch-3 : goal.invariant_of-self-in-Break-branch-3
invariant_of-self-in-Break-branch-3 c =
    let self = c.args.self.now in
    let records = c.reserve.new.self.items in
    let before = c.reserve-2.new.self.items in
    let same : records ≡ self.records.items = c.reserve.ensures.items in
    let beside : before ≡ self.before.items = c.reserve-2.ensures.items in
    record {
      paired = ap (λ (x : List ℕ). length x) beside ∙ self.paired ∙ ap (λ (x : List (Rc Record Global)). length x) (sym same);
      chained = as_it_was self.records.items records self.latest c.insert.new.self self.before.items before same c.in_err-before.ensures.err beside self.chained;
    }

pub invariant_of-self-2 : goal.invariant_of-self-2
invariant_of-self-2 c =
    let self = c.args.self.now in
    let rs = self.records.items in
    let bs = self.before.items in
    let kept = c.args.kept in
    let records = c.push-2.new.self.items in
    let before = c.push.new.self.items in
    let b = c.unwrap_or.result in
    let has_room = c.push-2.ensures.succeeds (omega (arith, c.in_ok-reserve.ensures.ok)) in
    let room_beside = c.push.ensures.succeeds (omega (arith, c.in_ok-reserve-2.ensures.ok)) in
    let more : records ≡ rs ++ kept ∷ [] =
    c.push-2.ensures.items ∙ (λ i. if has_room i then (c.reserve.ensures.items i ++ kept ∷ []) else c.reserve.ensures.items i) in
    let more_beside : before ≡ bs ++ b ∷ [] =
    c.push.ensures.items ∙ (λ i. if room_beside i then (c.reserve-2.ensures.items i ++ b ∷ []) else c.reserve-2.ensures.items i) in
    let count = c.len-turn.ensures ∙ c.reserve.new.self.ok.0 ∙ ap (λ (x : List (Rc Record Global)). length x) c.reserve.ensures.items in
    let k = c.in_ok-before.ensures in
    record {
      paired = both_more rs records kept bs before b self.paired more more_beside;
      chained = added rs records kept self.latest c.insert.new.self bs before c.key_of-key.result c.len-turn.result b self.paired
          (c.key_of-key.ensures ∙ ap key_in c.deref.ensures) count
          (c.unwrap_or.ensures ∙ ap (λ o. unwrap_or o c.len-turn.result) k.old) k.updates.0 more more_beside self.chained;
    }
