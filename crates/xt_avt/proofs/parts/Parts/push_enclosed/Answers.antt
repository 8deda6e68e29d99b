use Rattle.std.proofs.Common.{Ok, Err, subst, sym, ap, ◌∙◌}
use Rattle.std.proofs.lemmas.Result.{on_ok_weaker}
use Rattle.std.specs.Str.{chars}
use Rattle.spec_static.specs.declared.refusal.TemplateRefusal.TheVariants.{AnExpression}
use Rattle.spec_static.specs.TemplateGrammar.{refused}
use Rattle.xt_syntax.specs.View.{expr_of}
use Rattle.xp_parse.specs.Parsed.{Parsed}
use Rattle.xt_avt.specs.Reading.{all_with}
use Rattle.xt_avt.proofs.Gathering.{comes_value}
use Rattle.xt_avt.proofs.parts.Parts.push_enclosed.Goals as goal

pub returns-in-Ok : goal.returns-in-Ok
returns-in-Ok c =
    let parsed = subst (λ r. Parsed c.args.scope.now (chars c.args.text.now) r) c.in-Ok.is c.parse.ensures in
    on_ok_weaker c.push_value.result (λ h. comes_value (chars c.args.text.now) (Ok (expr_of c.in-Ok.value)) parsed h) c.push_value.ensures

pub returns-in-Err-Refused : goal.returns-in-Err-Refused
returns-in-Err-Refused c =
    let parsed =
    subst (λ r. Parsed c.args.scope.now (chars c.args.text.now) r) (c.in-Err-Refused.is ∙ ap (λ e. Err e) c.in-Err-Refused.field-0-is) c.parse.ensures in
    comes_value {old = c.args.self.now} {new = c.refuse.new.self} (chars c.args.text.now) (Err c.in-Err-Refused.why) parsed
    (λ r. ap (λ why. all_with c.args.self.now (refused (AnExpression why) r)) (sym c.in-Err-Refused.why-is) ∙ c.refuse.ensures r)
