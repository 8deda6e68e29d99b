use Rattle.std.proofs.Common.{rules, ℕ, ◌≡◌, ◌+◌, ◌*◌, ◌<◌, ◌==◌, false, ◌∷◌, drop, sym, ap, subst, ◌∙◌, arith}
use Rattle.std.proofs.lemmas.List.{at_drop_more}
use Rattle.xt_tree.specs.declared.node.Node.{the_lemmas, out-Node}
use Rattle.spec_document.specs.Forest.{size}
use Rattle.xt_tree.specs.Keys.{AreApart, Rises, has_number, key_by, key_limit, last_key}
use Rattle.xt_tree.specs.View.{forest_of, tree_of}
use Rattle.xt_tree.proofs.Views.{view-Node}
use Rattle.xt_tree.proofs.Site.{children-is}
use Rattle.xt_tree.proofs.Given.{Progress, IsNext, more, entered, not_entered}
use Rattle.xt_tree.proofs.keys.+give_keys.Goals as goal
use Rattle.xt_tree.proofs.keys.+give_keys.Goals.{After-as_slice}

-- what is known before the next sibling
ahead : (t : ℕ) (c : After-as_slice t)
    → Progress (key_by c.args.keys.now) (key_by c.loop-sibling.keys) c.args.last.now c.loop-sibling.last c.args.step (forest_of c.args.siblings.now)
    (forest_of (c.sibling-item.result ∷ drop (c.loop-sibling.sibling-index + 1) c.args.siblings.now))
ahead t c =
    let xs = c.args.siblings.now in
    let at = at_drop_more (λ rest. rest) xs c.loop-sibling.sibling-index c.sibling-item.result (omega arith) in
    let here = rw (← c.sibling-item.is) at at in
    subst (λ rest. Progress (key_by c.args.keys.now) (key_by c.loop-sibling.keys) c.args.last.now c.loop-sibling.last c.args.step (forest_of xs)
    (forest_of rest)) here c.loop-sibling.invariant

inside : (t : ℕ) (c : After-as_slice t) → (tree_of c.sibling-item.result.value).children ≡ forest_of c.as_slice.result.now
inside t c =
    ap (λ n. (tree_of n).children) (sym c.deref-in-loop-sibling.ensures)
    ∙ children-is c.deref-in-loop-sibling.result.now c.as_slice.result.now c.as_slice.ensures.value

room : (t : ℕ) (c : After-as_slice t) → c.loop-sibling.last + c.args.step + c.args.step * size (forest_of c.as_slice.result.now) < key_limit
room t c =
    let old = size (tree_of c.sibling-item.result.value).children in
    let rest = size (forest_of (drop (c.loop-sibling.sibling-index + 1) c.args.siblings.now)) in
    let total : c.loop-sibling.last + c.args.step * (1 + old + rest) ≡ c.args.last.now + c.args.step * size (forest_of c.args.siblings.now)
    = (ahead t c).total in
    let less : c.loop-sibling.last + c.args.step + c.args.step * old < key_limit = omega (arith, total, c.requires.room) in
    subst (λ f. c.loop-sibling.last + c.args.step + c.args.step * size f < key_limit) (inside t c) less

pub give_keys-requires : goal.give_keys-requires
give_keys-requires t c =
    let at = (goal.at.give_keys-requires t c).After-as_slice in
    (search (rules, the_lemmas), (room t at, (c.requires.step, subst AreApart (inside t at) (ahead t at).left.3)))

pub loop-sibling-preserved : goal.loop-sibling-preserved
loop-sibling-preserved t c =
    let at = (goal.at.loop-sibling-preserved t c).After-as_slice in
    let x = tree_of c.sibling-item.result.value in
    let last = c.loop-sibling.last in
    let step = c.args.step in
    let p = ahead t at in
    let old = inside t at in
    let e = c.in_ok-give_keys.ensures in
    let before = key_by c.loop-sibling.keys in
    let key = key_by c.give_keys.new.keys in
    let own = (out-Node c.deref.result.now).id.number in
    let number : own ≡ x.number = sym (ap (λ t. t.number) (view-Node c.deref.result.now)) ∙ ap (λ n. (tree_of n).number) c.deref.ensures in
    let others : (n : ℕ) → has_number n x.children ≡ false → key n ≡ key_by c.in_ok-keys.field-0 n =
    λ n h. e.others n (ap (has_number n) (sym old) ∙ h) in
    let next : IsNext before key last c.give_keys.new.last step x.number x.children =
    record {
      ends = e.last ∙ ap (λ f. last + step + step * size f) (sym old);
      rises = subst (Rises key (last + step)) (sym old) e.rises;
      final = ap (last_key key (last + step)) old ∙ e.end;
      own = others x.number p.left.0 ∙ ap (key_by c.in_ok-keys.field-0) (sym number)
          ∙ entered c.loop-sibling.keys c.in_ok-keys.field-0 own (last + step) c.in_ok-keys.ensures;
      others = λ n h k. others n k
          ∙ not_entered c.loop-sibling.keys c.in_ok-keys.field-0 own (last + step) c.in_ok-keys.ensures n (ap (λ m. m == n) number ∙ h);
    } in
    more (key_by c.args.keys.now) before key c.args.last.now last c.give_keys.new.last step x.number x.content (forest_of c.args.siblings.now)
    x.children (forest_of (drop (c.loop-sibling.sibling-index + 1) c.args.siblings.now)) c.requires.step p next
