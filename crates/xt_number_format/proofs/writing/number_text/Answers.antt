use Rattle.std.proofs.Common.{w64, FitsSigned, ◌∙◌, rules}
use Rattle.std.proofs.lemmas.Int.{to_z-of_z}
use Rattle.std.proofs.lemmas.Result.{IfOk-weaker}
use Rattle.xt_number_format.proofs.Written.{positive_text, other_text, nan_text}
use Rattle.xt_number_format.proofs.writing.number_text.Goals as goal
use Rattle.xt_number_format.proofs.writing.number_text.Goals.{in_default-via-in-Some+else-value-gt0, in_default-via-in_default}

pub returns-in-Some : goal.returns-in-Some
returns-in-Some c =
    let fits : FitsSigned w64 c.in-Some.value = search rules in
    IfOk-weaker c.counted_text.result _ _
    (λ t is. is ∙ positive_text c.args.grouping.now c.args.token.now c.args.number c.in-Some.value _ c.unsigned_abs.result c.in-Some.ensures.value
    (to_z-of_z w64 c.in-Some.value fits) c.if-value-gt0.true c.unsigned_abs.ensures.value)
    c.counted_text.ensures

pub returns-in_default : goal.returns-in_default
returns-in_default c =
    IfOk-weaker c.text.result _ _
    (λ t is. is ∙ elim c.in_default.branch [
      | in_default-via-in-Some+else-value-gt0 w ↦
          let fits : FitsSigned w64 w.in-Some.value = search rules in
          other_text c.args.grouping.now c.args.token.now c.args.number w.in-Some.value _ w.in-Some.ensures.value
          (to_z-of_z w64 w.in-Some.value fits) w.if-value-gt0.false
      | in_default-via-in_default w ↦ nan_text c.args.grouping.now c.args.token.now c.args.number w.in_default.ensures.value
    ])
    c.text.ensures
