-- Where the pattern of a rule stands, as the program has it.
use Rattle.std.specs.Prelude.{◌≡◌, List, None, map}
use Rattle.std.specs.declared.rc.Rc.{Rc}
use Rattle.std.specs.Global.{Global}
use Rattle.spec_stylesheet.specs.Sheet as sheet
use Rattle.spec_transform.specs.Choice.{context_for}
use Rattle.spec_node.specs.declared.node_ref.NodeRef.{NodeRef}
use Rattle.xt_syntax.specs.SheetView.{unit_of}
use Rattle.xt_questions.specs.declared.answer.ResolvedUnit.{ResolvedUnit}
use Rattle.xt_questions.specs.declared.context.Context.{Context}
use Rattle.xt_questions.specs.declared.context.Focus.{Focus}
use Rattle.xt_questions.specs.View.{context_of}

-- the units of a stylesheet, whatever they are resolved to
abbrev pub unit_in : Rc ResolvedUnit Global → sheet.Unit
unit_in resolved = unit_of resolved.value.unit.value

abbrev pub units_in : List (Rc ResolvedUnit Global) → List sheet.Unit
units_in units = map unit_in units

-- at the node, whose position is not known
abbrev pub at : NodeRef → Focus
at node = record { node = node; position = None; size = None }

pub record IsContextOf (units : List sheet.Unit) (rule : sheet.Rule) (node : NodeRef) (c : Context) : Type 0 where
  pub same : context_of (at node) c ≡ context_for units node rule
  pub depth : c.depth ≡ 0
