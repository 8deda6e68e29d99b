-- What choices are made of once more: the answers of the source, and the rules.
use Rattle.std.specs.Prelude.{ℕ, List, [], Option}
use Rattle.spec_document.specs.Forest.{Document}
use Rattle.spec_document.specs.Name.{Expanded}
use Rattle.spec_meaning.specs.Question.{Candidates}
use Rattle.spec_meaning.specs.Program.{Program}
use Rattle.spec_node.specs.declared.node_ref.NodeRef.{NodeRef}
use Rattle.spec_node.specs.Naming.{same_ref}
use Rattle.spec_stylesheet.specs.Sheet.{Rule}
use Rattle.spec_transform.specs.Choice.{chosen, context_for}
use Rattle.xt_syntax.specs.SheetView.{rules_of}
use Rattle.xt_match.specs.Context.{units_in}
use Rattle.xt_spared.specs.View.{Ask}
use Rattle.xt_world.specs.SourceView.{source_in, source_of}
use Rattle.xt_world.specs.declared.stylesheet.Stylesheet.{Stylesheet}
use Rattle.xt_own.specs.declared.choosing.Choosing.{Choosing}

pub record Asking : Type 0 where
  pub source : Ask
  pub rules : List Rule

abbrev pub asked_of : Choosing → Asking
asked_of c = record { source = source_of c.world.world.world; rules = (rules_of c.table.rules.now).rules }

-- before any keys are found
abbrev pub asked_in : Stylesheet → Document ℕ → Asking
asked_in s document = record { source = source_in s document []; rules = (rules_of s.rules).rules }

-- which of these rules is chosen
abbrev pub choice_among : List Rule → Stylesheet → NodeRef → Option Expanded → Candidates → Program NodeRef (Option ℕ)
choice_among rules s node mode candidates = chosen same_ref (context_for (units_in s.units.items) node) node mode candidates rules
