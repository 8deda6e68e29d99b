use Rattle.std.proofs.Common.{◌≡◌, ◌+◌, ◌++◌, [], ◌∷◌, length, get_or, drop, map, refl, arith}
use Rattle.spec_transform.specs.Sorted as sorts
use Rattle.spec_transform.specs.Sorted.{criterion_meant}
use Rattle.spec_run.specs.Plan.{Plan}
use Rattle.spec_run.specs.Content.{asked, criteria_asked}
use Rattle.xt_syntax.specs.PartView.{sort_key_of}
use Rattle.spec_node.specs.declared.node_ref.NodeRef.{NodeRef}
use Rattle.xt_sort.specs.View.{criterion_of}
use Rattle.xt_frames.specs.View.{here_of, keys_in}
use Rattle.xt_instructions.specs.Asks.{with_criteria}
use Rattle.xt_instructions.proofs.Rows.{after_criteria, criterion_next, criterion_more, key_place}
use Rattle.xt_instructions.proofs.Askings.{key_is, key_halts, key_lacks}
use Rattle.xt_instructions.proofs.sorting.ask_criterion.Goals as goal

pub returns-in_ok-push-in-Is-clause-asks : goal.returns-in_ok-push-in-Is-clause-asks
returns-in_ok-push-in-Is-clause-asks g c =
    let truth = (g.W.World.state c.args.world.now).truth in
    let r = c.args.run.now in
    let s = c.args.sorting.now in
    let i = length s.criteria.items in
    let h = here_of s.here in
    let x = c.index-key.result.now in
    let n : c.len.result ≡ i = omega (arith, c.len.ensures, s.criteria.ok.0) in
    let is_x : x ≡ get_or s.keys.value.items i x = rw (c.deref.ensures, n) at c.index-key.ensures in
    let k : Plan NodeRef → sorts.Criterion → Plan NodeRef = λ after v. criteria_asked (drop (i + 1) (keys_in s)) h (map criterion_of s.criteria.items ++ v ∷ []) (after_criteria s after) in
    let p : Plan NodeRef → Plan NodeRef = λ after. asked (sort_key_of x).site h (criterion_meant (sort_key_of x)) (k after) in
    let found = λ (after : Plan NodeRef). rw c.in-Is.is at c.in_ok-found.ensures.found (k after) in
    key_is truth r c.criterion.new.run s (with_criteria s c.push.new.self) _ (tt {0}) p (λ after. k after (criterion_of c.in-Is.found))
    (λ after. criterion_next s x after c.requires is_x) (λ after. criterion_more s c.push.new.self c.in-Is.found after c.in_ok-push-in-Is.ensures.items) (λ after. (found after).so) c.criterion.ensures.still

pub returns-in-Halts-clause-asks : goal.returns-in-Halts-clause-asks
returns-in-Halts-clause-asks g c =
    let truth = (g.W.World.state c.args.world.now).truth in
    let r = c.args.run.now in
    let s = c.args.sorting.now in
    let i = length s.criteria.items in
    let h = here_of s.here in
    let x = c.index-key.result.now in
    let n : c.len.result ≡ i = omega (arith, c.len.ensures, s.criteria.ok.0) in
    let is_x : x ≡ get_or s.keys.value.items i x = rw (c.deref.ensures, n) at c.index-key.ensures in
    let k : Plan NodeRef → sorts.Criterion → Plan NodeRef = λ after v. criteria_asked (drop (i + 1) (keys_in s)) h (map criterion_of s.criteria.items ++ v ∷ []) (after_criteria s after) in
    let p : Plan NodeRef → Plan NodeRef = λ after. asked (sort_key_of x).site h (criterion_meant (sort_key_of x)) (k after) in
    let found = λ (after : Plan NodeRef). rw c.in-Halts.is at c.in_ok-found.ensures.found (k after) in
    key_halts truth r c.criterion.new.run s _ c.in-Halts.why p (λ after. criterion_next s x after c.requires is_x) (λ after. (found after).so) c.criterion.ensures.still

pub returns-in-Lacks-clause-asks : goal.returns-in-Lacks-clause-asks
returns-in-Lacks-clause-asks g c =
    let truth = (g.W.World.state c.args.world.now).truth in
    let r = c.args.run.now in
    let s = c.args.sorting.now in
    let i = length s.criteria.items in
    let h = here_of s.here in
    let x = c.index-key.result.now in
    let n : c.len.result ≡ i = omega (arith, c.len.ensures, s.criteria.ok.0) in
    let is_x : x ≡ get_or s.keys.value.items i x = rw (c.deref.ensures, n) at c.index-key.ensures in
    let k : Plan NodeRef → sorts.Criterion → Plan NodeRef = λ after v. criteria_asked (drop (i + 1) (keys_in s)) h (map criterion_of s.criteria.items ++ v ∷ []) (after_criteria s after) in
    let p : Plan NodeRef → Plan NodeRef = λ after. asked (sort_key_of x).site h (criterion_meant (sort_key_of x)) (k after) in
    let found = λ (after : Plan NodeRef). rw c.in-Lacks.is at c.in_ok-found.ensures.found (k after) in
    key_lacks truth r c.criterion.new.run s i c.in-Lacks.name s.here.depth (sort_key_of x).site.place p (λ after. criterion_next s x after c.requires is_x) (λ after. (found after).so) refl (key_place s i x c.requires is_x) c.criterion.ensures.still
