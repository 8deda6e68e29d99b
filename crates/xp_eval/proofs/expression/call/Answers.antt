use Rattle.std.proofs.Common.{◌≡◌, length, Option, None, Some, refl, ap, ◌∙◌, arith}
use Rattle.std.specs.Result.{result_ok}
use Rattle.std.proofs.lemmas.List.{length-map}
use Rattle.spec_meaning.specs.Function.{function_of}
use Rattle.spec_meaning.specs.declared.function.Function.{Function}
use Rattle.xt_tree.specs.ValueView.{value_of}
use Rattle.xp_functions.specs.Found.{found_or_refused}
use Rattle.xp_eval.specs.View.{values_in}
use Rattle.xp_eval.proofs.expression.call.Goals as goal

found_is : (o : Option Function) → result_ok (found_or_refused o) ≡ o
found_is None = refl
found_is (Some f) = refl

pub returns-clause-runs : goal.returns-clause-runs
returns-clause-runs g c =
    let count : c.len.result ≡ length (values_in c.args.arguments) = omega (arith, c.args.arguments.ok.0, length-map c.args.arguments.items value_of) in
    let function = c.ok-function.ensures.value ∙ ap result_ok c.find.ensures ∙ found_is _ ∙ ap (function_of c.args.name.now) count in
    rw function at c.apply.ensures.runs
