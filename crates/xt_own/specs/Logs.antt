-- What was read for the values of a node in the keys of a name.
use Rattle.std.specs.Prelude.{◌≡◌, ℕ, List, Result, Ok, Err, Vec, map}
use Rattle.std.specs.Global.{Global}
use Rattle.spec_document.specs.Forest.{Document}
use Rattle.spec_document.specs.Name.{Expanded}
use Rattle.spec_meaning.specs.Program as program
use Rattle.spec_meaning.specs.Program.{reads_of}
use Rattle.spec_transform.specs.Key.{no_globals}
use Rattle.spec_node.specs.declared.node_ref.NodeRef.{NodeRef}
use Rattle.xt_match.specs.Context.{units_in}
use Rattle.xt_questions.specs.View.{read_of}
use Rattle.xt_questions.specs.declared.fault.EvalFault.{EvalFault}
use Rattle.xt_questions.specs.declared.read.Read.{Read}
use Rattle.xt_document_world.specs.View.{truth_of}
use Rattle.xt_world.specs.declared.stylesheet.Stylesheet.{Stylesheet}
use Rattle.xt_own.specs.Keys.{HasTexts, texts_of}

abbrev pub reads_for : Stylesheet → Document ℕ → Expanded → NodeRef → List (program.Read NodeRef)
reads_for s document name node = reads_of (truth_of document) no_globals 0 (texts_of (units_in s.units.items) name node)

-- where these values were found, they are the node's, and this was read for them
pub record IsReadFor (s : Stylesheet) (document : Document ℕ) (name : Expanded) (node : NodeRef) (texts : List (List ℕ)) (reads : List Read) : Type 0 where
  pub has : HasTexts s document name node texts
  pub read : map read_of reads ≡ reads_for s document name node

abbrev pub IsLog : Stylesheet → Document ℕ → Expanded → NodeRef → Result (Vec (List ℕ) Global) EvalFault → List Read → Type 0
IsLog s document name node (Ok texts) reads = IsReadFor s document name node texts.items reads
IsLog s document name node (Err fault) reads = Unit {0}
