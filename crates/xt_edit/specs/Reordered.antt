-- Which children are gone, where those that stay may have another order.
use Rattle.std.specs.Prelude.{ℕ, ◌≡◌, ◌==◌, Bool, true, false, not, nat_lt, List, [], ◌∷◌, ◌++◌, length, Option, None, Some, if◌then◌else◌}
use Rattle.std.specs.List.{filter}
use Rattle.spec_document.specs.Forest.{Forest, Empty, Node, labels}
use Rattle.spec_change.specs.Change.{sibling_labels, without}

-- the numbers but that of the node that moved
abbrev pub others_than : (moved : ℕ) → List ℕ → List ℕ
others_than moved numbers = filter (λ n. not (n == moved)) numbers

-- those behind the first, where that is this one
abbrev pub past_next : List ℕ → ℕ → Option (List ℕ)
past_next [] number = None
past_next (next ∷ numbers) number = if next == number then Some numbers else None

abbrev pub is_staying : Option ℕ → ℕ → Bool
is_staying None number = false
is_staying (Some moved) number = moved == number

-- those of a node and of all below it, unless it stays
abbrev pub numbers_unless : (stays : Bool) → ℕ → (below : List ℕ) → List ℕ
numbers_unless true number below = []
numbers_unless false number below = number ∷ below

abbrev pub gone_by : Option (List ℕ) → (kept own : List ℕ) → (List ℕ → List ℕ) → List ℕ
gone_by (Some rest) kept own more = more rest
gone_by None kept own more = own ++ more kept

-- of these siblings those that are gone, with all below them: they are neither the one that moved, where it is still there, nor the next of the
-- others that are kept
abbrev pub gone_from : (staying : Option ℕ) → (kept : List ℕ) → Forest ℕ → List ℕ
gone_from staying kept Empty = []
gone_from staying kept (Node label content children siblings) =
    gone_by (past_next kept label) kept (numbers_unless (is_staying staying label) label (labels children)) (λ rest. gone_from staying rest siblings)

abbrev pub staying_by : (moved : ℕ) → (kept after : List ℕ) → Option ℕ
staying_by moved kept after = if nat_lt (length kept) (length after) then Some moved else None

-- of children those that are gone where the others have these numbers after it
abbrev pub gone_among : (moved : ℕ) → (after : List ℕ) → Forest ℕ → List ℕ
gone_among moved after children = let kept = others_than moved after in gone_from (staying_by moved kept after) kept children

-- so are the children told, once the one of this number stands elsewhere
pub record IsReordered (moved : ℕ) (old new : Forest ℕ) : Type 0 where
  pub gone : gone_among moved (sibling_labels new) old ≡ without (labels new) (labels old)
  pub brought : without (labels old) (labels new) ≡ []
