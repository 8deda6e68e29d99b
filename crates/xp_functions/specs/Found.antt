-- What is answered for a call that names no function, and what the tables of names stand for.
use Rattle.std.specs.Prelude.{ℕ, List, map, Option, None, Some, Result, Ok, Err}
use Rattle.std.specs.Borrow.{Bor}
use Rattle.std.specs.Str.{chars}
use Rattle.spec_expression.specs.declared.code.StaticCode.{StaticCode}
use Rattle.spec_expression.specs.declared.code.StaticCode.TheVariants as code
use Rattle.spec_meaning.specs.declared.function.Function.{Function}
use Rattle.spec_meaning.specs.Function as functions
use Rattle.xp_functions.specs.declared.table.Row.{Row}

abbrev pub found_or_refused : Option Function → Result Function StaticCode
found_or_refused None = Err code.BadFunction
found_or_refused (Some function) = Ok function

abbrev pub row_of : Row → functions.Row
row_of r = record { name = chars r.name.now; function = r.function; least = r.least; greatest = r.greatest }

abbrev pub words_of : List (Bor (List ℕ)) → List (List ℕ)
words_of words = map (λ word. chars word.now) words
