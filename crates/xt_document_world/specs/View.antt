-- What is true of a document's tree, and the parts of the texts that tell places.
use Rattle.std.specs.Prelude.{ℕ, List, [], ◌∷◌, ◌++◌, codes, decimal}
use Rattle.spec_document.specs.Forest.{Document}
use Rattle.spec_document.specs.Order.{entries_of}
use Rattle.spec_meaning.specs.Question.{Question, Answer}
use Rattle.spec_meaning.specs.Truth.{answer_by}
use Rattle.spec_node.specs.Naming.{ref_of, same_ref}
use Rattle.spec_node.specs.declared.node_ref.NodeRef.{NodeRef}
use Rattle.spec_node.specs.declared.node_ref.Part.{Part}
use Rattle.spec_node.specs.declared.node_ref.Part.TheVariants as part

abbrev pub truth_of : Document ℕ → Question NodeRef → Answer NodeRef
truth_of document = answer_by ref_of same_ref (entries_of document)

-- positions, each behind a `c`
abbrev pub later_text : List ℕ → List ℕ
later_text [] = []
later_text (p ∷ ps) = codes "c" ++ decimal p ++ later_text ps

abbrev pub part_text : Part → List ℕ
part_text part.Itself = []
part_text (part.Attribute number) = codes "a" ++ decimal number
part_text (part.Namespace number) = codes "s" ++ decimal number
