use Rattle.std.proofs.Common.{◌≡◌, ◌+◌, ◌++◌, ◌∷◌, [], ◌∙◌, List, if◌then◌else◌, ap, arith}
use Rattle.xt_record.specs.Pieced.{flat}
use Rattle.xt_record.specs.declared.entry.Entry.{Entry}
use Rattle.xt_record.proofs.Pieced.{flat_more, pieced_more}
use Rattle.xt_record.proofs.pieces.Pieces.push.Goals as goal

pub invariant_of-self-2 : goal.invariant_of-self-2
invariant_of-self-2 c =
    let s = c.self.inside in
    let p = c.args.piece in
    let list = c.push-2.new.self.items in
    let turns = c.push.new.self.items in
    let has_room = c.push-2.ensures.succeeds (omega (arith, c.in_ok-reserve.ensures.ok)) in
    let turn_room = c.push.ensures.succeeds (omega (arith, c.in_ok-reserve-2.ensures.ok)) in
    let more : list ≡ s.list.items ++ p ∷ [] =
    c.push-2.ensures.items ∙ (λ i. if has_room i then (c.reserve.ensures.items i ++ p ∷ []) else c.reserve.ensures.items i) in
    let more_turns : turns ≡ s.starts.items ++ s.count ∷ [] =
    c.push.ensures.items ∙ (λ i. if turn_room i then (c.reserve-2.ensures.items i ++ s.count ∷ []) else c.reserve-2.ensures.items i) in
    pieced_more s.list.items list s.starts.items turns s.count (s.count + c.count-count.result) p more more_turns (omega (arith, c.count-count.ensures))
    (omega arith) c.self.invariant

pub returns : goal.returns
returns c =
    let s = c.self.inside in
    let p = c.args.piece in
    let list = c.push-2.new.self.items in
    let has_room = c.push-2.ensures.succeeds (omega (arith, c.in_ok-reserve.ensures.ok)) in
    let more : list ≡ s.list.items ++ p ∷ [] =
    c.push-2.ensures.items ∙ (λ i. if has_room i then (c.reserve.ensures.items i ++ p ∷ []) else c.reserve.ensures.items i) in
    ap (λ (ps : List (List Entry)). flat ps) more ∙ flat_more s.list.items p ∙ ap (λ (es : List Entry). es ++ p) c.self.view_is
