use Rattle.std.proofs.Common.{◌≡◌, ◌+◌, ◌++◌, [], ◌∷◌, length, get_or, drop, map, sym, ap, ◌∙◌, arith}
use Rattle.spec_transform.specs.Sorted as sorts
use Rattle.spec_transform.specs.Sorted.{key_meant}
use Rattle.spec_run.specs.Plan.{Plan}
use Rattle.spec_run.specs.Content.{asked, Here, keys_asked}
use Rattle.xt_syntax.specs.PartView.{sort_key_of}
use Rattle.spec_node.specs.declared.node_ref.NodeRef.{NodeRef}
use Rattle.xt_sort.specs.View.{criterion_of, key_of}
use Rattle.xt_frames.specs.declared.frame.Frame.TheVariants as frames
use Rattle.xt_frames.specs.View.{here_of, keys_in, left_frame}
use Rattle.xt_instructions.specs.Asks.{with_rows}
use Rattle.xt_instructions.proofs.Rows.{IsNext, next_at, after_keys, key_next, key_more, key_place}
use Rattle.xt_instructions.proofs.Askings.{key_is, key_halts, key_lacks}
use Rattle.xt_instructions.proofs.sorting.ask_key.Goals as goal

pub returns-in_ok-push-in-Is-clause-asks : goal.returns-in_ok-push-in-Is-clause-asks
returns-in_ok-push-in-Is-clause-asks g c =
    let truth = (g.W.World.state c.args.world.now).truth in
    let r = c.args.run.now in
    let s = c.args.sorting.now in
    let i = length s.values.items in
    let here = c.args.here.now in
    let node = here.focus.node in
    let e : IsNext s node = record { criteria = c.requires.criteria; row = c.requires.row; is = c.requires.node } in
    let x = c.index-key.result.now in
    let d = c.index-criterion.result.now in
    let n : c.len-number.result ≡ i = omega (arith, c.len-number.ensures, s.values.ok.0) in
    let is_x : x ≡ get_or s.keys.value.items i x = rw (c.deref.ensures, n) at c.index-key.ensures in
    let is_d : d ≡ get_or s.criteria.items i d = rw n at c.index-criterion.ensures in
    let k : Plan NodeRef → sorts.KeyValue → Plan NodeRef =
    λ after v. keys_asked (drop (i + 1) (keys_in s)) (drop (i + 1) (map criterion_of s.criteria.items)) (next_at s node) (map key_of s.values.items ++ v ∷ []) (after_keys s node after) in
    let p : Plan NodeRef → Plan NodeRef = λ after. asked (sort_key_of x).site (here_of here) (key_meant (sort_key_of x) (criterion_of d)) (k after) in
    let first : (after : Plan NodeRef) → left_frame (frames.Sorting s) after ≡ p after =
    λ after. key_next s node x d after e c.requires.key is_x is_d ∙ ap (λ h. asked (sort_key_of x).site h (key_meant (sort_key_of x) (criterion_of d)) (k after)) (sym c.requires.here) in
    let found = λ (after : Plan NodeRef). rw c.in-Is.is at c.in_ok-found.ensures.found (k after) in
    key_is truth r c.key_value.new.run s (with_rows s s.rows c.push.new.self) _ (tt {0}) p (λ after. k after (key_of c.in-Is.found))
    first (λ after. key_more s node c.push.new.self c.in-Is.found after e c.in_ok-push-in-Is.ensures.items) (λ after. (found after).so) c.key_value.ensures.still

pub returns-in-Halts-clause-asks : goal.returns-in-Halts-clause-asks
returns-in-Halts-clause-asks g c =
    let truth = (g.W.World.state c.args.world.now).truth in
    let r = c.args.run.now in
    let s = c.args.sorting.now in
    let i = length s.values.items in
    let here = c.args.here.now in
    let node = here.focus.node in
    let e : IsNext s node = record { criteria = c.requires.criteria; row = c.requires.row; is = c.requires.node } in
    let x = c.index-key.result.now in
    let d = c.index-criterion.result.now in
    let n : c.len-number.result ≡ i = omega (arith, c.len-number.ensures, s.values.ok.0) in
    let is_x : x ≡ get_or s.keys.value.items i x = rw (c.deref.ensures, n) at c.index-key.ensures in
    let is_d : d ≡ get_or s.criteria.items i d = rw n at c.index-criterion.ensures in
    let k : Plan NodeRef → sorts.KeyValue → Plan NodeRef =
    λ after v. keys_asked (drop (i + 1) (keys_in s)) (drop (i + 1) (map criterion_of s.criteria.items)) (next_at s node) (map key_of s.values.items ++ v ∷ []) (after_keys s node after) in
    let p : Plan NodeRef → Plan NodeRef = λ after. asked (sort_key_of x).site (here_of here) (key_meant (sort_key_of x) (criterion_of d)) (k after) in
    let first : (after : Plan NodeRef) → left_frame (frames.Sorting s) after ≡ p after =
    λ after. key_next s node x d after e c.requires.key is_x is_d ∙ ap (λ h. asked (sort_key_of x).site h (key_meant (sort_key_of x) (criterion_of d)) (k after)) (sym c.requires.here) in
    let found = λ (after : Plan NodeRef). rw c.in-Halts.is at c.in_ok-found.ensures.found (k after) in
    key_halts truth r c.key_value.new.run s _ c.in-Halts.why p first (λ after. (found after).so) c.key_value.ensures.still

pub returns-in-Lacks-clause-asks : goal.returns-in-Lacks-clause-asks
returns-in-Lacks-clause-asks g c =
    let truth = (g.W.World.state c.args.world.now).truth in
    let r = c.args.run.now in
    let s = c.args.sorting.now in
    let i = length s.values.items in
    let here = c.args.here.now in
    let node = here.focus.node in
    let e : IsNext s node = record { criteria = c.requires.criteria; row = c.requires.row; is = c.requires.node } in
    let x = c.index-key.result.now in
    let d = c.index-criterion.result.now in
    let n : c.len-number.result ≡ i = omega (arith, c.len-number.ensures, s.values.ok.0) in
    let is_x : x ≡ get_or s.keys.value.items i x = rw (c.deref.ensures, n) at c.index-key.ensures in
    let is_d : d ≡ get_or s.criteria.items i d = rw n at c.index-criterion.ensures in
    let k : Plan NodeRef → sorts.KeyValue → Plan NodeRef =
    λ after v. keys_asked (drop (i + 1) (keys_in s)) (drop (i + 1) (map criterion_of s.criteria.items)) (next_at s node) (map key_of s.values.items ++ v ∷ []) (after_keys s node after) in
    let p : Plan NodeRef → Plan NodeRef = λ after. asked (sort_key_of x).site (here_of here) (key_meant (sort_key_of x) (criterion_of d)) (k after) in
    let first : (after : Plan NodeRef) → left_frame (frames.Sorting s) after ≡ p after =
    λ after. key_next s node x d after e c.requires.key is_x is_d ∙ ap (λ h. asked (sort_key_of x).site h (key_meant (sort_key_of x) (criterion_of d)) (k after)) (sym c.requires.here) in
    let found = λ (after : Plan NodeRef). rw c.in-Lacks.is at c.in_ok-found.ensures.found (k after) in
    key_lacks truth r c.key_value.new.run s i c.in-Lacks.name here.depth (sort_key_of x).site.place p first (λ after. (found after).so) (ap (λ (h : Here NodeRef). h.depth) c.requires.here) (key_place s i x c.requires.key is_x) c.key_value.ensures.still
