use Rattle.std.proofs.Common.{◌≡◌, map, drop}
use Rattle.spec_run.specs.Content.{template_called}
use Rattle.xt_questions.specs.View.{template_of}
use Rattle.xt_instructions.proofs.control.template_called.Given as goal

-- none of those before
abbrev pub invariant-loop-template : goal.invariant-loop-template
invariant-loop-template l = template_called l.name (map template_of (drop l.template-index l.templates)) ≡ template_called l.name (map template_of l.templates)
