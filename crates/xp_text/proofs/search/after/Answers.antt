use Rattle.std.proofs.Common.{◌≡◌, ◌≤◌, length, arith, ap, sym, ◌∙◌}
use Rattle.std.specs.Str.{chars}
use Rattle.std.proofs.lemmas.Result.{IfOk-weaker}
use Rattle.spec_expression.specs.Strings.{text_after}
use Rattle.xp_text.proofs.Finding.{nothing_after, found}
use Rattle.xp_text.proofs.search.after.Goals as goal

pub returns-in-Some : goal.returns-in-Some
returns-in-Some c =
    let h = c.in-Some.ensures.cases in
    let s = c.args.text.now in
    let n = c.args.part.now in
    let inside : h.1 ≤ length s = omega (arith, h.7) in
    IfOk-weaker c.from_str.result (λ t. t ≡ chars c.in-Some.back.now) (λ t. t ≡ text_after (chars s) (chars n))
    (λ t e. e ∙ ap chars h.4 ∙ sym (found s n c.utf8.text c.utf8.part h.0 h.1 h.2 h.5 inside).after)
    c.from_str.ensures

pub returns-in-None : goal.returns-in-None
returns-in-None c =
    c.new.ensures ∙ sym (nothing_after c.args.text.now c.args.part.now c.utf8.text c.utf8.part c.in-None.ensures.cases)
