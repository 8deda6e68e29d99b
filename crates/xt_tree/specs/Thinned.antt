-- What is left of a forest from which nodes are taken out.
use Rattle.std.specs.Prelude.{ℕ}
use Rattle.spec_document.specs.Forest.{Content, Forest, Empty, Node}

-- the second is the first without some nodes and all below them: all else has its number, its content and its order
pub data LosesNodes : Forest ℕ → Forest ℕ → Type 0 where
  at_end : LosesNodes Empty Empty
  loses : {label : ℕ} {content : Content} {children siblings rest : Forest ℕ} → LosesNodes siblings rest
      → LosesNodes (Node label content children siblings) rest
  keeps : {label : ℕ} {content : Content} {children siblings below rest : Forest ℕ} → LosesNodes children below → LosesNodes siblings rest
      → LosesNodes (Node label content children siblings) (Node label content below rest)
