use Rattle.std.proofs.Common.{◌+◌, Some, drop, get_or, sym, ap, ◌∙◌, arith}
use Rattle.std.proofs.lemmas.List.{at_drop_more, at_drop_all}
use Rattle.spec_edit.specs.Splice.{first_siblings, later_siblings}
use Rattle.xt_tree.specs.Keys.{key_by, last_key}
use Rattle.xt_tree.specs.Room.{between, first_key, room_of}
use Rattle.xt_tree.specs.View.{forest_of, tree_of}
use Rattle.xt_tree.proofs.Indices.{room_below-none, room_below-some}
use Rattle.xt_tree.proofs.Site.{children-is}
use Rattle.xt_tree.proofs.Views.{view-Node}
use Rattle.xt_tree.proofs.room.room_at.Goals as goal

pub returns-in-None : goal.returns-in-None
returns-in-None c =
    let key = key_by c.args.keys.now in
    let ps = c.args.path.now in
    let f = forest_of c.down.current.now in
    let rest = drop (c.down.position-index + 1) ps in
    let at = sym (at_drop_more (λ rest. room_of key c.args.from c.args.to rest c.down.low f c.down.high) ps c.down.position-index 0 (omega arith))
    ∙ c.down.invariant in
    sym (room_below-none key (room_of key c.args.from c.args.to rest) (get_or ps c.down.position-index 0) c.down.high f (sym c.in-None.ensures)) ∙ at

pub down-preserved : goal.down-preserved
down-preserved c =
    let key = key_by c.args.keys.now in
    let ps = c.args.path.now in
    let f = forest_of c.down.current.now in
    let p = get_or ps c.down.position-index 0 in
    let rest = drop (c.down.position-index + 1) ps in
    let room = room_of key c.args.from c.args.to rest in
    let at = sym (at_drop_more (λ rest. room_of key c.args.from c.args.to rest c.down.low f c.down.high) ps c.down.position-index 0 (omega arith))
    ∙ c.down.invariant in
    let node = c.in-Some.node.now in
    let down = room_below-some key room p c.down.high f (tree_of node) (sym c.in-Some.ensures) in
    let high = first_key key c.down.high (later_siblings p f) in
    ap (λ h. room c.key_of-low.result (forest_of c.as_slice-current.result.now) h) c.first_from-high.ensures
    ∙ ap (λ l. room l (forest_of c.as_slice-current.result.now) high) (c.key_of-low.ensures ∙ sym (ap (λ t. key t.number) (view-Node node)))
    ∙ ap (λ f. room (key (tree_of node).number) f high) (sym (children-is node c.as_slice-current.result.now c.as_slice-current.ensures.value))
    ∙ sym down ∙ at

pub returns : goal.returns
returns c =
    let key = key_by c.args.keys.now in
    let f = forest_of c.down.current.now in
    let at = sym (at_drop_all (λ rest. room_of key c.args.from c.args.to rest c.down.low f c.down.high) c.args.path.now c.down.position-index (omega arith))
    ∙ c.down.invariant in
    ap (λ low. Some (between low c.first_from.result)) c.last_before.ensures
    ∙ ap (λ high. Some (between (last_key key c.down.low (first_siblings c.args.from f)) high)) c.first_from.ensures ∙ at
