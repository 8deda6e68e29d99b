-- Siblings of which one is made anew.
use Rattle.std.specs.Prelude.{ℕ, ◌≡◌, ◌-◌, ◌==◌, ◌++◌, List, [], ◌∷◌, length, take, Option, None, Some, if◌then◌else◌}
use Rattle.std.specs.declared.rc.Rc.{Rc}
use Rattle.std.specs.declared.alloc.Global.{Global}
use Rattle.spec_document.specs.Forest as spec
use Rattle.spec_edit.specs.Splice.{met}
use Rattle.xt_tree.specs.declared.node.Node.{Node}
use Rattle.xt_tree.specs.View.{Tree, forest, forest_of}

-- the sibling at this position, from 1, replaced by this tree
abbrev pub with_tree : ℕ → Tree → spec.Forest ℕ → spec.Forest ℕ
with_tree position tree spec.Empty = spec.Empty
with_tree position tree (spec.Node label content children siblings) =
    if position == 1 then spec.Node tree.number tree.content tree.children siblings
    else spec.Node label content children (with_tree (position - 1) tree siblings)

-- the text that two nodes make together, where both are texts
abbrev pub joined_texts : spec.Content → spec.Content → Option spec.Content
joined_texts (spec.Text text) (spec.Text more) = Some (spec.Text (text ++ more))
joined_texts _ _ = None

-- siblings with one more behind them: the last and this one are one, or nothing meets
abbrev pub MeetsAs : List (Rc Node Global) → Tree → Option (Rc Node Global) → Type 0
MeetsAs siblings next None = met (forest_of siblings) (forest (next ∷ [])) ≡ spec.followed (forest_of siblings) (forest (next ∷ []))
MeetsAs siblings next (Some joined) =
    met (forest_of siblings) (forest (next ∷ [])) ≡ spec.followed (forest_of (take (length siblings - 1) siblings)) (forest_of (joined ∷ []))
