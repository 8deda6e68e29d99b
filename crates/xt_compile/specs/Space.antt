-- Rules of white space.
use Rattle.std.specs.Prelude.{ℕ, Bool}
use Rattle.spec_expression.specs.Syntax as tree
use Rattle.spec_stylesheet.specs.Sheet.{SpaceRule}
use Rattle.spec_static.specs.PatternGrammar.{test_priority}

abbrev pub space_rule : ℕ → Bool → tree.Test → SpaceRule
space_rule precedence strips test = record { test = test; precedence = precedence; priority = test_priority test; strips = strips }
