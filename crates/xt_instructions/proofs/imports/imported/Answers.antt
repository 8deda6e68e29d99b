use Rattle.xt_frames.proofs.Whole.{view-Empty}
use Rattle.xt_frames.proofs.Lefts.{if_ok}
use Rattle.xt_instructions.proofs.imports.imported.Goals as goal

pub returns-clause-call : goal.returns-clause-call
returns-clause-call g c = rw (c.in_ok-chosen.ensures.rule, view-Empty) at c.call_of_choice.ensures

pub returns-clause-going : goal.returns-clause-going
returns-clause-going g c = if_ok c.call_of_choice.result c.call_of_choice.ensures (λ call h. c.in_ok-chosen.ensures.going)
