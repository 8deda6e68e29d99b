use Rattle.xt_questions.specs.View.{bindings_of}
use Rattle.xt_instructions.proofs.imports.call_of_choice.Goals as goal

pub returns : goal.returns
returns c = λ i. record {
  target = c.in-Ok-target_of_rule.ensures i;
  node = c.args.focus.node;
  parameters = bindings_of c.args.parameters;
  position = c.args.focus.position;
  size = c.args.focus.size;
  ruling = c.in-Ok-ruling_of_rule.ensures i;
  by = c.in-Ok.ensures i;
}
