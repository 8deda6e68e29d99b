-- Patterns (XSLT 1.0, section 5.2).
use Rattle.std.specs.Prelude.{ℕ, List}
use Rattle.spec_document.specs.Name.{Expanded}
use Rattle.spec_expression.specs.Syntax.{Step}
use Rattle.spec_stylesheet.specs.declared.pattern.Separator.{Separator}
use Rattle.spec_stylesheet.specs.declared.pattern.Start.{Start}

-- a step with what stands before it
pub record PatternStep : Type 0 where
  pub separator : Separator
  pub step : Step

-- where an alternative starts, and the steps from there
pub record Alternative : Type 0 where
  pub start : Start (List ℕ) Expanded
  pub steps : List PatternStep

-- the alternatives, which `|` parts
pub record Pattern : Type 0 where
  pub alternatives : List Alternative
