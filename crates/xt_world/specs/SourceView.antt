-- What a source answers with the keys of a stylesheet, by the keys that it holds.
use Rattle.std.specs.Prelude.{◌≡◌, ℕ, List, [], Option, None, Some}
use Rattle.spec_document.specs.Name.{Expanded}
use Rattle.spec_document.specs.Forest.{Document}
use Rattle.spec_meaning.specs.Question.{Question, Answer}
use Rattle.spec_meaning.specs.Question as question
use Rattle.spec_node.specs.declared.node_ref.NodeRef.{NodeRef}
use Rattle.xt_match.specs.Context.{units_in}
use Rattle.xt_document_world.specs.View.{truth_of}
use Rattle.xt_world.specs.KeyView.{answer_found, found_for, keyed_in}
use Rattle.xt_world.specs.declared.found.Found.{Found}
use Rattle.xt_world.specs.declared.found.FoundKeys.{FoundKeys}
use Rattle.xt_world.specs.declared.source.Source.{Source}
use Rattle.xt_world.specs.declared.stylesheet.Stylesheet.{Stylesheet}

-- by what was found, or else this
abbrev pub answer_or : Answer NodeRef → List ℕ → Option Found → Answer NodeRef
answer_or other text None = other
answer_or other text (Some found) = answer_found found text

abbrev pub keyed_by : Stylesheet → Document ℕ → List FoundKeys → Expanded → List ℕ → Answer NodeRef
keyed_by s document keys name text = answer_or (keyed_in (units_in s.units.items) document name text) text (found_for keys name)

-- by these keys each value is answered as without them
abbrev pub AreFound : Stylesheet → Document ℕ → List FoundKeys → Type 0
AreFound s document keys = (name : Expanded) (text : List ℕ) → keyed_by s document keys name text ≡ keyed_by s document [] name text

abbrev pub source_in : Stylesheet → Document ℕ → List FoundKeys → Question NodeRef → Answer NodeRef
source_in s document keys (question.Key name text) = keyed_by s document keys name text
source_in s document keys q = truth_of document q

abbrev pub source_of : Source → Question NodeRef → Answer NodeRef
source_of source = source_in source.stylesheet.now source.document.now source.keys.items
