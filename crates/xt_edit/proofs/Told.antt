-- The change that an edit makes, where the way leads to its node.
use Rattle.std.proofs.Common.{◌≡◌, arith, ℕ, ◌==◌, Bool, true, false, List, ◌∷◌, Option, None, Some, Result, Ok, Err, refl, sym, ap, ◌∙◌}
use Rattle.std.specs.Prelude.{IfOk, ◌&&◌}
use Rattle.std.specs.Option.{option_map}
use Rattle.std.specs.declared.rc.Rc.{Rc}
use Rattle.std.specs.declared.alloc.Global.{Global}
use Rattle.spec_document.specs.Forest.{Document, labels}
use Rattle.spec_document.specs.Place.{node_at, root_of}
use Rattle.spec_edit.specs.Edit.{Edit}
use Rattle.spec_change.specs.Change as spec
use Rattle.spec_change.specs.Change.{IsEdit, changed_path, changes_attributes, passed, sibling_labels}
use Rattle.spec_edit.proofs.Around.{some_same}
use Rattle.spec_change.proofs.Branches.{Parted, branches}
use Rattle.spec_edit.proofs.Numbers.{occurs, once-from, below-from}
use Rattle.spec_change.proofs.Gone.{Told, told}
use Rattle.xt_edit.specs.declared.change.Change.{Change}
use Rattle.xt_edit.specs.Telling.{WayTo, change_in, change_among, way_at}
use Rattle.xt_edit.proofs.Between.{nodes_between}
use Rattle.xt_text.specs.declared.memory.Memory.{Memory}
use Rattle.xt_tree.specs.declared.node.Node.{Node}
use Rattle.xt_tree.specs.Numbers.{IsNumbered, are_distinct}
use Rattle.xt_tree.specs.View.{forest_of}

and_first : (a b : Bool) → (a && b) ≡ true → a ≡ true
and_first true b h = refl
and_first false b h = absurd (cc)

module _ (edit : Edit) (old new : Document ℕ) (q : IsEdit edit old new) (numbers : IsNumbered old) where
  pub telling : Told q.first edit old q.edited
  telling =
      let all = old.root ∷ labels old.nodes in
      let once = once-from are_distinct (λ n ns. refl) all (and_first (are_distinct all) _ numbers) in
      told q.first edit old q.edited q.edited_is once (below-from q.first all q.below)

  pub no_path : None ≡ changed_path edit → ⊥
  no_path e = let some = e ∙ telling.path_is in cc

  same_path : (path : List ℕ) → Some path ≡ changed_path edit → path ≡ telling.path
  same_path path e = some_same path telling.path (e ∙ telling.path_is)

  way-is : (path : List ℕ) → Some path ≡ changed_path edit → way_at old path
      ≡ Some (record { node = telling.changed.was.label; above = passed telling.path (root_of old); children = telling.changed.was.children })
  way-is path e =
      ap (way_at old) (same_path path e)
      ∙ ap (option_map (λ node. record { node = node.label; above = passed telling.path (root_of old); children = node.children })) telling.changed.was_at

  pub no_way : (path : List ℕ) → Some path ≡ changed_path edit → None ≡ way_at old path → ⊥
  no_way path e none = let some = none ∙ way-is path e in cc

  after-is : (path : List ℕ) → Some path ≡ changed_path edit → option_map (λ node. node.children) (node_at new path) ≡ Some telling.changed.now.children
  after-is path e =
      (λ i. option_map (λ node. node.children) (node_at (q.new_is i) (same_path path e i)))
      ∙ ap (option_map (λ node. node.children)) telling.changed.now_at

  pub no_children : (path : List ℕ) → Some path ≡ changed_path edit → None ≡ option_map (λ node. node.children) (node_at new path) → ⊥
  no_children path e none = let some = none ∙ after-is path e in cc

  pub change_is : (path : List ℕ) → Some path ≡ changed_path edit
      → (node : ℕ) (above : List ℕ) (xs ys : List (Rc Node Global))
      → Some (record { node = node; above = above; children = forest_of xs }) ≡ way_at old path
      → Some (forest_of ys) ≡ option_map (λ node. node.children) (node_at new path)
      → spec.change_of edit old new ≡ Some (change_among (changes_attributes edit) node above xs ys)
  change_is path e node above xs ys way after =
      let t = telling in
      let p = t.changed.parted in
      let here : WayTo = record { node = node; above = above; children = forest_of xs } in
      let there : WayTo = record { node = t.changed.was.label; above = passed t.path (root_of old); children = t.changed.was.children } in
      let same : here ≡ there = some_same here there (way ∙ way-is path e) in
      let children : forest_of xs ≡ t.changed.was.children = ap (λ w. w.children) same in
      let now : forest_of ys ≡ t.changed.now.children = some_same (forest_of ys) t.changed.now.children (after ∙ after-is path e) in
      let parted : Parted q.first (branches (forest_of xs)) (branches (forest_of ys)) = record {
        front = p.front;
        gone = p.gone;
        brought = p.brought;
        behind = p.behind;
        old_is = ap branches children ∙ p.old_is;
        new_is = ap branches now ∙ p.new_is;
        fresh = p.fresh;
      } in
      let b = nodes_between q.first xs ys parted
      (λ n. (let most = t.once n in let is = ap (λ f. occurs (λ m. m == n) (labels f)) children in omega arith))
      (λ n h. (ap (λ f. occurs (λ m. m == n) (labels f)) children ∙ t.low n h)) in
      ap (spec.change_of edit old) q.new_is ∙ t.change_is
      ∙ (λ i. Some (record {
        of_attributes = changes_attributes edit;
        node = (sym same i).node;
        above = (sym same i).above;
        before = sibling_labels (sym children i);
        after = sibling_labels (sym now i);
        gone = sym b.gone_are i;
        brought = sym b.brought_are i;
      }))

pub finished : (r : Result Change Memory) (o : Option spec.Change) (a : spec.Change) → IfOk r (λ c. change_in c ≡ a) → o ≡ Some a
    → IfOk r (λ c. o ≡ Some (change_in c))
finished (Ok c) o a is e = e ∙ ap (λ x. Some x) (sym is)
finished (Err m) o a is e = tt
