use Rattle.std.proofs.Common.{◌≡◌, ◌++◌, ℕ, List, ap, ◌∙◌, subst}
use Rattle.std.specs.Prelude.{OnOk}
use Rattle.std.specs.Str.{chars}
use Rattle.std.proofs.lemmas.Str.{chars-IsAscii}
use Rattle.spec_expression.specs.Code.{code_text}
use Rattle.spec_expression.proofs.CodeTexts.{code_ascii}
use Rattle.xt_wire.proofs.write.push_code.Goals as goal

pub returns : goal.returns
returns c =
    let written : chars c.as_str.result.now ≡ code_text c.args.code =
    ap chars (c.as_str.ensures.value ∙ c.in_ok-code.ensures.ok) ∙ chars-IsAscii (code_text c.args.code) (code_ascii c.args.code) in
    subst (λ (text : List ℕ). OnOk c.push_str.result (c.push_str.new.self ≡ c.args.text.now ++ text)) written c.push_str.ensures.ok
