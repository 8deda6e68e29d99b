-- What is written of a result from the left: the lines that stand, and what is still to come.
use Rattle.std.specs.Prelude.{ℕ, List, [], ◌∷◌, ◌++◌, map}
use Rattle.spec_document.specs.declared.event.Event.TheVariants.{Start, Data}
use Rattle.spec_document.specs.Pyx.{Line, line_of}
use Rattle.spec_document.specs.Scope.{Scope}
use Rattle.spec_document.specs.Forest.{Written, attribute_event, lines_of}
use Rattle.spec_result.specs.Recovery.{Standing, text_before}
use Rattle.spec_result.specs.Shape.{tree_of}

-- the lines that stand, then those of a text that has no line yet and of what stands behind it, in the scope there
abbrev pub all_lines : List Line → List ℕ → Scope → Standing → List Line
all_lines lines text scope behind = lines ++ lines_of (tree_of scope (text_before text behind))

-- the line of a text, and none of an empty one
abbrev pub text_line : List ℕ → List Line
text_line [] = []
text_line (c ∷ cs) = line_of (Data (c ∷ cs)) ∷ []

-- the lines of attributes, and of a start with them
abbrev pub attribute_lines : List Written → List Line
attribute_lines attributes = map (λ a. line_of (attribute_event a)) attributes

abbrev pub start_lines : (name : List ℕ) → List Written → List Line
start_lines name attributes = line_of (Start name) ∷ attribute_lines attributes
