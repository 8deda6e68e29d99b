-- The true answers of a document whose nodes are named by their numbers, and which of these names a place has.
use Rattle.std.specs.Prelude.{ℕ}
use Rattle.spec_document.specs.Forest.{Document}
use Rattle.spec_document.specs.Place.{Place}
use Rattle.spec_document.specs.Order.{entries_of}
use Rattle.spec_meaning.specs.Question.{Question, Answer}
use Rattle.spec_meaning.specs.Truth.{answer_by}
use Rattle.spec_meaning.specs.Naming.{Names, unlabelled}
use Rattle.spec_node.specs.declared.node_ref.NodeRef.{NodeRef}
use Rattle.spec_node.specs.Naming.{ref_of, same_ref}

abbrev pub truth_at_numbers : Document ℕ → Question NodeRef → Answer NodeRef
truth_at_numbers document = answer_by ref_of same_ref (entries_of document)

-- the place and the name are of one node
abbrev pub NameOne : Document ℕ → Place → NodeRef → Type 0
NameOne document = Names (λ e. e.place) ref_of (entries_of (unlabelled document)) (entries_of document)
