use Rattle.std.proofs.Common.{ℕ, ◌≡◌, ◌+◌, ◌≤◌, Some, ap, ◌∙◌, sym, subst}
use Rattle.std.specs.Result.{IfOk}
use Rattle.spec_document.specs.Forest.{Document, Forest, height}
use Rattle.spec_document.specs.NodeFaults.{greatest_depth}
use Rattle.spec_edit.specs.Depth.{ElementsFit}
use Rattle.spec_edit.specs.Splice.{children_changed, replaced}
use Rattle.xt_tree.specs.Keys.{key_by, key_limit}
use Rattle.xt_tree.specs.Kept.{kept_at}
use Rattle.xt_tree.specs.Numbers.{IsDocument, IsNumbered}
use Rattle.xt_tree.specs.Room.{IsRoom, between, room_of}
use Rattle.xt_tree.specs.View.{forest_of}
use Rattle.xt_tree.proofs.Apart.{are_few}
use Rattle.xt_tree.proofs.ByNumber.{no_nodes}
use Rattle.xt_tree.proofs.Parted.{names_stay, nothing_changed, room_is}
use Rattle.xt_tree.proofs.doc.Doc.spliced.Goals as goal
use Rattle.xt_tree.proofs.doc.Doc.spliced.Goals.{After-as_slice}

pub returns-in-None : goal.returns-in-None
returns-in-None c =
    let change = children_changed (replaced c.args.from c.args.to c.args.nodes) c.args.parent.now in
    let f = forest_of c.as_slice-siblings.result.now in
    let document = c.args.self.now in
    let none : change f ≡ f =
    nothing_changed (key_by c.self.inside.keys) c.args.from c.args.to c.args.nodes c.args.parent.now 0 f key_limit (sym c.in-None.ensures) in
    let is : f ≡ document.nodes = ap forest_of c.as_slice-siblings.ensures.value ∙ ap (λ d. d.nodes) c.self.view_is in
    let unchanged : document.nodes ≡ change document.nodes = sym is ∙ sym none ∙ ap change is in
    subst (λ g. IfOk c.copy.result (λ doc. doc ≡ record { root = document.root; nodes = g })) unchanged c.copy.ensures

-- what stands below the root
placed : (c : After-as_slice) → forest_of c.as_slice.result.now
    ≡ children_changed (replaced c.args.from c.args.to (forest_of c.list-new.result.now)) c.args.parent.now (forest_of c.self.inside.children.items)
placed c =
    ap forest_of c.as_slice.ensures.value ∙ c.in_ok-children-in-Some.ensures
    ∙ ap (λ xs. children_changed (replaced c.args.from c.args.to (forest_of c.list-new.result.now)) c.args.parent.now (forest_of xs))
    c.as_slice-siblings.ensures.value

whole : (c : After-as_slice) → forest_of c.as_slice.result.now
    ≡ children_changed (replaced c.args.from c.args.to c.args.nodes) c.args.parent.now c.args.self.now.nodes
whole c =
    placed c
    ∙ ap (λ new. children_changed (replaced c.args.from c.args.to new) c.args.parent.now (forest_of c.self.inside.children.items)) c.list-new.ensures
    ∙ ap (λ d. children_changed (replaced c.args.from c.args.to c.args.nodes) c.args.parent.now d.nodes) c.self.view_is

numbers : (c : After-as_slice) → IsNumbered (record { root = c.self.inside.root.number; nodes = forest_of c.as_slice.result.now })
numbers c =
    let made : Forest ℕ → Document ℕ = λ f. record { root = c.self.inside.root.number; nodes = f } in
    let change = children_changed (replaced c.args.from c.args.to c.args.nodes) c.args.parent.now in
    let rooted : ℕ → Document ℕ = λ n. record { root = n; nodes = change c.args.self.now.nodes } in
    subst (λ f. IsNumbered (made f)) (sym (whole c)) (subst (λ n. IsNumbered (rooted n)) (sym (ap (λ d. d.root) c.self.view_is)) c.requires.numbers)

there : (c : After-as_slice)
    → room_of (key_by c.self.inside.keys) c.args.from c.args.to c.args.parent.now 0 (forest_of c.self.inside.children.items) key_limit
    ≡ Some (between c.in-Some.room.low c.in-Some.room.high)
there c =
    ap (λ xs. room_of (key_by c.self.inside.keys) c.args.from c.args.to c.args.parent.now 0 (forest_of xs) key_limit) (sym c.as_slice-siblings.ensures.value)
    ∙ sym c.in-Some.ensures

room : (c : After-as_slice) → IsRoom (key_by c.self.inside.keys) c.in-Some.room.low c.in-Some.room.high
    (forest_of c.list-new.result.now) (forest_of c.as_slice.result.now)
room c =
    let i = c.self.inside in
    room_is (key_by i.keys) (kept_at i.names.value) i.root.number c.args.from c.args.to (forest_of c.list-new.result.now) c.args.parent.now
    (forest_of i.children.items) (forest_of c.as_slice.result.now) (between c.in-Some.room.low c.in-Some.room.high)
    c.self.invariant.sound (numbers c) (placed c) c.requires.order (there c)

pub keys_in-requires-clause-room : goal.keys_in-requires-clause-room
keys_in-requires-clause-room c = room (goal.at.keys_in-requires-clause-room c).After-as_slice

pub keys_in-requires-clause-apart : goal.keys_in-requires-clause-apart
keys_in-requires-clause-apart c =
    let at = (goal.at.keys_in-requires-clause-apart c).After-as_slice in
    (are_few c.self.inside.root.number (forest_of c.as_slice.result.now) (numbers at)).apart

pub keys_in-requires-clause-few : goal.keys_in-requires-clause-few
keys_in-requires-clause-few c =
    let at = (goal.at.keys_in-requires-clause-few c).After-as_slice in
    (are_few c.self.inside.root.number (forest_of c.as_slice.result.now) (numbers at)).size

pub invariant_of-result : goal.invariant_of-result
invariant_of-result c =
    let at = (goal.at.invariant_of-result c).After-as_slice in
    let i = c.self.inside in
    let own = key_by c.in_ok-keys-in-Some.keys in
    let kept = kept_at c.in_ok-names-in-Some.names.value in
    let made = forest_of c.as_slice.result.now in
    let keyed = c.in_ok-keys-in-Some.ensures in
    let whole = subst (λ xs. IsDocument own kept (record { root = i.root.number; nodes = forest_of xs })) c.as_slice.ensures.value
    (record {
      numbers = numbers at;
      depth = subst (λ f. height f ≤ greatest_depth + 1) (sym (whole at)) c.requires.depth;
      fits = subst (λ f. ElementsFit 1 f) (sym (whole at)) c.requires.fits;
      rises = keyed.rises;
      limit = keyed.limit;
      names = names_stay (key_by i.keys) (kept_at i.names.value) kept i.root.number c.args.from c.args.to (forest_of c.list-new.result.now)
          c.args.parent.now (forest_of i.children.items) made (between c.in-Some.room.low c.in-Some.room.high) c.self.invariant.sound (placed at) c.requires.order
          (there at) c.in_ok-names-in-Some.ensures;
    }) in
    record { sound = whole; found = no_nodes c.in_ok-by_number-in-Some.by_number.value _ (ap (λ n. n.is_whole) c.in_ok-by_number-in-Some.ensures.ok ∙ c.none-unknown.ensures) }

pub returns : goal.returns
returns c =
    let at = (goal.at.returns c).After-as_slice in
    let made = sym (ap forest_of c.as_slice.ensures.value) ∙ whole at in
    ap (λ f. record { root = c.self.inside.root.number; nodes = f }) made
    ∙ ap (λ d. record {
      root = d.root;
      nodes = children_changed (replaced c.args.from c.args.to c.args.nodes) c.args.parent.now c.args.self.now.nodes;
    }) c.self.view_is
