use Rattle.std.proofs.Common.{◌≡◌, ◌≤◌, length, arith, ap, sym, ◌∙◌}
use Rattle.std.specs.Str.{chars}
use Rattle.std.proofs.lemmas.Result.{IfOk-weaker}
use Rattle.spec_expression.specs.Strings.{text_before}
use Rattle.xp_text.proofs.Finding.{nothing_before, found}
use Rattle.xp_text.proofs.search.before.Goals as goal

pub returns-in-Some : goal.returns-in-Some
returns-in-Some c =
    let h = c.in-Some.ensures.cases in
    let s = c.args.text.now in
    let n = c.args.part.now in
    let inside : h.1 ≤ length s = omega (arith, h.7) in
    IfOk-weaker c.from_str.result (λ t. t ≡ chars c.in-Some.front.now) (λ t. t ≡ text_before (chars s) (chars n))
    (λ t e. e ∙ ap chars h.3 ∙ sym (found s n c.utf8.text c.utf8.part h.0 h.1 h.2 h.5 inside).before)
    c.from_str.ensures

pub returns-in-None : goal.returns-in-None
returns-in-None c =
    c.new.ensures ∙ sym (nothing_before c.args.text.now c.args.part.now c.utf8.text c.utf8.part c.in-None.ensures.cases)
