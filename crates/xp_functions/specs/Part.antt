-- What is asked of the first of some nodes, and what of the answer is told.
use Rattle.std.specs.Prelude.{ℕ, List}
use Rattle.spec_meaning.specs.Question.{Question, Answer, Name, Place, local_in, uri_in, written_in, text_in}
use Rattle.xp_functions.specs.declared.nodes.Part.{Part}
use Rattle.xp_functions.specs.declared.nodes.Part.TheVariants as part

abbrev pub asked_by : {N : Type 0} → Part → N → Question N
asked_by part.Local = Name
asked_by part.Uri = Name
asked_by part.Written = Name
asked_by part.Place = Place

abbrev pub told_by : {N : Type 0} → Part → Answer N → List ℕ
told_by part.Local = local_in
told_by part.Uri = uri_in
told_by part.Written = written_in
told_by part.Place = text_in
