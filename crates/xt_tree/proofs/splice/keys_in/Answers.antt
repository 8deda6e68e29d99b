use Rattle.std.proofs.Common.{◌+◌, ◌*◌, ◌<◌, ◌≤◌, ap, ◌∙◌, arith}
use Rattle.spec_document.specs.Forest.{size}
use Rattle.xt_tree.specs.Keys.{entry_or, key_by, last_key}
use Rattle.xt_tree.specs.View.{forest_of}
use Rattle.xt_tree.proofs.Parted.{lower}
use Rattle.xt_tree.proofs.splice.keys_in.Goals as goal
use Rattle.xt_tree.proofs.splice.keys_in.Goals.{In_ok-own}

-- the new keys stand in the room
stands : (c : In_ok-own) → (c.args.room.low ≤ c.spread_in-place.result.start)
    × (c.spread_in-place.result.start + c.spread_in-place.result.step * size (forest_of c.args.new.now) < c.args.room.high)
stands c =
    let s = c.spread_in-place.ensures (omega (arith, c.if-place-eq0.false)) in
    let product = ap (λ n. c.spread_in-place.result.step * n) c.count.ensures in
    (s.0, omega (arith, s.1, product))

pub spread_in-place-requires-clause-some : goal.spread_in-place-requires-clause-some
spread_in-place-requires-clause-some c = c.requires.room.some

pub give_keys-requires-clause-room : goal.give_keys-requires-clause-room
give_keys-requires-clause-room c = let s = stands (goal.at.give_keys-requires-clause-room c).In_ok-own in omega (arith, s.1, c.requires.room.limit)

pub give_keys-requires-clause-apart : goal.give_keys-requires-clause-apart
give_keys-requires-clause-apart c = c.requires.room.apart

pub returns : goal.returns
returns c =
    let own = key_by c.give_keys.new.keys in
    let new = forest_of c.args.new.now in
    let e = c.in_ok-give_keys.ensures in
    let s = stands (goal.at.returns c).In_ok-own in
    let last : last_key own c.spread_in-place.result.start new < c.args.room.high = omega (arith, s.1, e.end, e.last) in
    let room = c.requires.room in
    let fits = lower own c.args.room.low c.spread_in-place.result.start c.args.room.high new room.some s.0 e.rises last in
    room.keyed own (λ n h. e.others n h ∙ ap (λ o. entry_or o n) (c.in_ok-own.ensures n)) fits.0 fits.1
