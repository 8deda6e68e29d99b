-- Which xml:space is in force on the way to a node, and when two scopes are the same.
use Rattle.std.proofs.Common.{◌≡◌, ℕ, Bool, true, false, List, [], ◌∷◌, Option, None, Some, refl, sym, ap, ◌∙◌}
use Rattle.std.specs.Prelude.{Decides, bytes_eq, ◌&&◌}
use Rattle.std.specs.FinMap.{entries, same_entries_map}
use Rattle.std.specs.Option.{option_map, option_and_then, ForSome}
use Rattle.std.proofs.lemmas.Bool.{and_parts}
use Rattle.std.proofs.lemmas.Slice.Eq.{bytes_eq-Decides}
use Rattle.spec_document.specs.Forest.{Content, Document, Forest}
use Rattle.spec_document.specs.Place.{Found, node_at, node_from, root_of}
use Rattle.spec_document.specs.Scope.{Scope}
use Rattle.spec_move.specs.Move.{preserves, preserves_inside, same_entries, same_scope}
use Rattle.xt_tree.specs.View.{Tree, tree_at}
use Rattle.xt_tree.proofs.Ways.{found_tree, child_at-tree_at}

-- ---- xml:space

-- along the rest of a way, by whether white space is preserved so far
abbrev pub walk : List ℕ → (kept : Bool) → Forest ℕ → Option Bool
walk [] kept children = Some kept
walk (position ∷ positions) kept children =
    option_and_then (λ tree. walk positions (preserves_inside kept tree.content) tree.children) (tree_at children position)

step : (ps : List ℕ) (above : List Content)
    → ((next : Found ℕ) → walk ps (preserves next.above) next.children ≡ option_map (λ n. preserves n.above) (node_from ps next)) → (o : Option Tree)
    → option_and_then (λ tree. walk ps (preserves_inside (preserves above) tree.content) tree.children) o
    ≡ option_map (λ n. preserves n.above) (option_and_then (node_from ps) (option_map (found_tree above) o))
step ps above go None = refl
step ps above go (Some tree) = go (found_tree above tree)

walk-from : (ps : List ℕ) (from : Found ℕ) → walk ps (preserves from.above) from.children ≡ option_map (λ n. preserves n.above) (node_from ps from)
walk-from [] from = refl
walk-from (p ∷ ps) from =
    step ps from.above (walk-from ps) (tree_at from.children p)
    ∙ ap (λ o. option_map (λ n. preserves n.above) (option_and_then (node_from ps) o)) (sym (child_at-tree_at from.above from.children p))

pub walk-at : (document : Document ℕ) (path : List ℕ) → walk path false document.nodes ≡ option_map (λ n. preserves n.above) (node_at document path)
walk-at document path = walk-from path (root_of document)

some_is : {A : Type 0} (x y : A) → Some x ≡ Some y → x ≡ y
some_is x y e = ap (λ o. elim o [ Some z ↦ z | None ↦ x ]) e

-- what is found at the end of a way is so of the node that it leads to
pub walked : (kept : Bool) (o : Option (Found ℕ)) → Some kept ≡ option_map (λ n. preserves n.above) o → ForSome o (λ n. kept ≡ preserves n.above)
walked kept None e x h = absurd (cc)
walked kept (Some n) e x h =
    some_is kept (preserves n.above) e ∙ ap (λ (m : Found ℕ). preserves m.above) (ap (λ o. elim o [ Some z ↦ z | None ↦ n ]) h)

-- where it leads to none, nothing is said
pub nowhere : (kept : Bool) (o : Option (Found ℕ)) → None ≡ option_map (λ n. preserves n.above) o → ForSome o (λ n. kept ≡ preserves n.above)
nowhere kept None e x h = absurd (cc)
nowhere kept (Some n) e x h = absurd (cc)

-- ---- Scopes

both : (a b : Bool) → a ≡ true → b ≡ true → (a && b) ≡ true
both true b h k = k
both false b h k = absurd (cc)

entries-same : (es : List (List ℕ × List ℕ)) → same_entries es es ≡ true
entries-same [] = refl
entries-same (e ∷ es) =
    both (bytes_eq e.0 e.0 && bytes_eq e.1 e.1) (same_entries es es)
    (both (bytes_eq e.0 e.0) (bytes_eq e.1 e.1) ((bytes_eq-Decides e.0 e.0).1 refl) ((bytes_eq-Decides e.1 e.1).1 refl)) (entries-same es)

same-entries : (es fs : List (List ℕ × List ℕ)) → same_entries es fs ≡ true → es ≡ fs
same-entries [] [] h = refl
same-entries [] (f ∷ fs) h = absurd (cc)
same-entries (e ∷ es) [] h = absurd (cc)
same-entries (e ∷ es) (f ∷ fs) h =
    let outer = and_parts (bytes_eq e.0 f.0 && bytes_eq e.1 f.1) (same_entries es fs) h in
    let inner = and_parts (bytes_eq e.0 f.0) (bytes_eq e.1 f.1) outer.0 in
    let prefix = (bytes_eq-Decides e.0 f.0).0 inner.0 in
    let uri = (bytes_eq-Decides e.1 f.1).0 inner.1 in
    let rest = same-entries es fs outer.1 in
    λ i. (prefix i, uri i) ∷ rest i

same-maps : (one other : Scope) → one ≡ other → same_scope one other ≡ true
same-maps one other e = ap (λ fs. same_entries (entries one) fs) (sym (ap (λ (s : Scope). entries s) e)) ∙ entries-same (entries one)

by_same : (one other : Scope) (r s : Bool) → (r ≡ true → one ≡ other) → (one ≡ other → r ≡ true) → same_scope one other ≡ s → r ≡ s
by_same one other true true f g e = refl
by_same one other true false f g e = absurd (let is = sym (same-maps one other (f refl)) ∙ e in cc)
by_same one other false true f g e = absurd (let is = g (same_entries_map one other (same-entries (entries one) (entries other) e)) in cc)
by_same one other false false f g e = refl

pub same_scope-is : (one other : Scope) (r : Bool) → Decides r (one ≡ other) → r ≡ same_scope one other
same_scope-is one other r d = by_same one other r (same_scope one other) d.0 d.1 refl
