use Rattle.spec_format.proofs.Runs.{are_runs}
use Rattle.spec_format.proofs.laws.a_format_is_cut_into_its_runs.Goals as goal

pub returns : goal.returns
returns c = record {
  whole = λ text. (are_runs text).all;
  tokens = λ text. (are_runs text).tokens;
  between = λ text. (are_runs text).between;
  behind = λ text. (are_runs text).behind;
  apart = λ text. (are_runs text).apart;
}
