use Rattle.spec_transform.specs.Sorted.{second_of}
use Rattle.xt_questions.proofs.Steps.{runs_then, runs_stop, exits}
use Rattle.xt_avt.proofs.Joining.{runs_as}
use Rattle.xt_sort.proofs.Words.{text_chars, number_chars}
use Rattle.xt_sort.proofs.asking.is_number.Goals as goal

pub returns-in_err-word-clause-runs : goal.returns-in_err-word-clause-runs
returns-in_err-word-clause-runs g c = exits _ c.from_residual.ensures.1 (runs_stop _ c.in_err-word.ensures.runs)

pub returns-clause-runs : goal.returns-clause-runs
returns-clause-runs g c =
    runs_then _ c.in_ok-word.ensures.runs (runs_as (λ i. second_of (text_chars i) (number_chars i) c.in_ok-word.word) (c.second_of.ensures _ _ _))
