-- Attribute value templates (XSLT 1.0, section 7.6.2).
use Rattle.std.specs.Prelude.{ℕ, List}
use Rattle.spec_expression.specs.Syntax.{Expr}

-- a text outside the braces, or an expression between them
pub data AvtPart : Type 0 where
  Text : (text : List ℕ) → AvtPart
  Value : (value : Expr) → AvtPart

-- the parts, whose strings are joined
pub record Avt : Type 0 where
  pub parts : List AvtPart
