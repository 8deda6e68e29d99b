-- What a world answers, by what it holds.
use Rattle.spec_meaning.specs.Question.{Question, Answer}
use Rattle.spec_node.specs.declared.node_ref.NodeRef.{NodeRef}
use Rattle.xt_syntax.specs.SheetView.{rules_of}
use Rattle.xt_world.specs.ParameterView.{parameters_of}
use Rattle.xt_world.specs.SourceView.{source_of}
use Rattle.xt_world.specs.View.{truth_with}
use Rattle.xt_world.specs.declared.world.SheetWorld.{SheetWorld}

abbrev pub truth_at : SheetWorld → Question NodeRef → Answer NodeRef
truth_at w = truth_with (source_of w.source) (rules_of w.table.rules.now).rules w.stylesheet.now (parameters_of w.parameters.now) w.document.now
