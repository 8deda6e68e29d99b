-- The way to a node, step by step.
use Rattle.std.proofs.Common.{◌≡◌, ℕ, List, [], ◌∷◌, ◌++◌, Option, None, Some, refl, sym, ap, ◌∙◌, append_assoc, append-nil}
use Rattle.std.specs.Option.{option_map, option_and_then}
use Rattle.spec_document.specs.Forest.{Content, Document, Forest}
use Rattle.spec_document.specs.Place.{Found, node_from, root_of}
use Rattle.spec_change.specs.Change.{passed, passed_below}
use Rattle.xt_edit.specs.Telling.{WayTo, way_at}
use Rattle.xt_tree.specs.View.{Tree, tree_at}
use Rattle.xt_tree.proofs.Ways.{found_tree, child_at-tree_at}

-- from a node of this number below these
abbrev pub walk : List ℕ → (node : ℕ) → (above : List ℕ) → Forest ℕ → Option WayTo
walk [] node above children = Some (record { node = node; above = above; children = children })
walk (position ∷ positions) node above children =
    option_and_then (λ tree. walk positions tree.number (above ++ node ∷ []) tree.children) (tree_at children position)

abbrev way_by : (above : List ℕ) → Found ℕ → WayTo
way_by above node = record { node = node.label; above = above; children = node.children }

-- what a child makes of it
abbrev way_below : List ℕ → (above : List ℕ) → ℕ → Option (Found ℕ) → Option WayTo
way_below ps above label child = option_map (way_by (above ++ (label ∷ passed_below (passed ps) child))) (option_and_then (node_from ps) child)

step : (ps above : List ℕ) (contents : List Content) (label : ℕ)
    → ((next : Found ℕ) → walk ps next.label (above ++ label ∷ []) next.children
    ≡ option_map (way_by ((above ++ label ∷ []) ++ passed ps next)) (node_from ps next))
    → (o : Option Tree)
    → option_and_then (λ tree. walk ps tree.number (above ++ label ∷ []) tree.children) o
    ≡ way_below ps above label (option_map (found_tree contents) o)
step ps above contents label go None = refl
step ps above contents label go (Some tree) =
    let next = found_tree contents tree in
    go next ∙ ap (λ ns. option_map (way_by ns) (node_from ps next)) (append_assoc above (label ∷ []) (passed ps next))

pub walk-from : (ps above : List ℕ) (from : Found ℕ)
    → walk ps from.label above from.children ≡ option_map (way_by (above ++ passed ps from)) (node_from ps from)
walk-from [] above from = ap (λ ns. Some (way_by ns from)) (sym (append-nil above))
walk-from (p ∷ ps) above from =
    step ps above from.above from.label (λ next. walk-from ps (above ++ from.label ∷ []) next) (tree_at from.children p)
    ∙ ap (way_below ps above from.label) (sym (child_at-tree_at from.above from.children p))

pub walk-at : (document : Document ℕ) (path : List ℕ) → walk path document.root [] document.nodes ≡ way_at document path
walk-at document path = walk-from path [] (root_of document)
