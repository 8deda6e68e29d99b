use Rattle.std.proofs.lemmas.Bool.{not-true}
use Rattle.xt_touch.proofs.Unmarked.{unmarked_by_parameter}
use Rattle.xt_touch.proofs.marks.spares_parameters.Goals as goal

pub returns : goal.returns
returns c = λ none name question h. unmarked_by_parameter name c.args.named.now (not-true _ none) question h
