-- What a stylesheet that can be run answers.
use Rattle.std.specs.Prelude.{◌≡◌, ℕ, List, map}
use Rattle.spec_document.specs.Forest.{Document}
use Rattle.spec_stylesheet.specs.Place.{Place}
use Rattle.spec_stylesheet.specs.Sheet.{Sheet}
use Rattle.spec_meaning.specs.Question.{Question}
use Rattle.spec_run.specs.Documents.{Parameters}
use Rattle.spec_run.specs.World.{globals_of}
use Rattle.spec_node.specs.declared.node_ref.NodeRef.{NodeRef}
use Rattle.xt_syntax.specs.SheetView.{rules_of}
use Rattle.xt_engine.specs.View.{named_of}
use Rattle.xt_world.specs.Numbered.{AreAsGiven, IsNaming, element_called, truth_by_numbers}
use Rattle.xt_world.specs.View.{truth_in}
use Rattle.xt_world.specs.declared.stylesheet.Stylesheet.{Stylesheet}

-- In the world of any source, with any parameters, it answers as this stylesheet does, and it has the globals and the template rules of
-- that. Which numbers its elements are called by does not matter to a run, as long as they tell its units apart (`same_run`).
pub record AnswersAs (held : Stylesheet) (sheet : Sheet) : Type 0 where
  pub numbers : Place → ℕ
  pub naming : IsNaming numbers sheet.units
  pub truth : (parameters : Parameters) (document : Document ℕ) (q : Question NodeRef)
      → truth_in held parameters document q ≡ truth_by_numbers numbers sheet parameters document q
  pub globals : map named_of held.globals.items ≡ globals_of (element_called numbers) sheet.units
  pub rules : rules_of held.rules ≡ sheet.rules

-- It does, and where these numbers are given, unit by unit, by numbers of places that tell the units apart, its elements are called by those
pub record AnswersGiven (given : List ℕ) (held : Stylesheet) (sheet : Sheet) : Type 0 where
  pub is : AnswersAs held sheet
  pub served : AreAsGiven given is.numbers sheet.units
