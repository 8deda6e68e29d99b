-- Worked examples of the definitions. Each line is a fact whose two sides the check computes.
use Rattle.std.specs.Prelude.{◌≡◌, refl, [], ◌∷◌, codes}
use Rattle.spec_lines.specs.Lines.{lines_within}

-- a CR before an LF is no part of a line; an empty line is one; the last line may lack its LF
pub lines_end_with_newlines : lines_within 100 (codes "a\r\n\nb") ≡ codes "a" ∷ [] ∷ codes "b" ∷ []
lines_end_with_newlines = refl

-- the last line without LF keeps its CR
pub last_line_keeps_return : lines_within 100 (codes "a\r") ≡ codes "a\r" ∷ []
last_line_keeps_return = refl

-- a line that is not whole within the limit is none
pub lines_within_a_limit : lines_within 3 (codes "a\nbc\n") ≡ codes "a" ∷ []
lines_within_a_limit = refl
