use Rattle.std.proofs.Common.{◌+◌, ◌-◌, ◌/◌, ◌%◌, ◌++◌, ◌∷◌, [], ◌<◌, arith, append-nil, append_assoc, sym, ap, ◌∙◌}
use Rattle.std.proofs.lemmas.Result.{on_ok_weaker}
use Rattle.spec_format.specs.Format as spec
use Rattle.xt_number_format.proofs.Lettered.{letters_step, no_letters}
use Rattle.xt_number_format.proofs.letters.+push_letters.Goals as goal

pub returns-then-number-eq0 : goal.returns-then-number-eq0
returns-then-number-eq0 t c =
    sym (append-nil c.args.text.now) ∙ ap (λ ls. c.args.text.now ++ ls) (sym (no_letters c.args.number c.if-number-eq0.true))

pub returns : goal.returns
returns t c =
    let before = spec.letters ((c.args.number - 1) / 26) in
    let some : 0 < c.args.number = omega arith in
    on_ok_weaker c.push.result
    (λ pushed. pushed ∙ ap (λ ls. ls ++ c.from.result ∷ []) c.in_ok-push_letters.ensures
    ∙ ap (λ letter. (c.args.text.now ++ before) ++ letter ∷ []) c.from.ensures
    ∙ append_assoc c.args.text.now before ((0x41 + (c.args.number - 1) % 26) ∷ [])
    ∙ ap (λ ls. c.args.text.now ++ ls) (sym (letters_step c.args.number some)))
    c.push.ensures.ok
