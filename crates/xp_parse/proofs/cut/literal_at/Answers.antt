use Rattle.std.proofs.Common.{◌+◌, ◌==◌, ◌∷◌, length, ap, ◌∙◌, arith}
use Rattle.std.specs.List.{before_first}
use Rattle.std.specs.Str.{chars}
use Rattle.spec_expression.specs.Token.{Literal}
use Rattle.xp_parse.proofs.Cuts.{cuts_by, cuts_none, literal_some, literal_none, behind_literal}
use Rattle.xp_parse.proofs.cut.literal_at.Goals as goal

pub returns-in-Some : goal.returns-in-Some
returns-in-Some c =
    let q = c.args.quote in
    let cs = chars c.args.behind.now in
    let parts = c.in-Some.ensures {u = tt} in
    cuts_by _ _ _ (length (before_first (λ d. d == q) cs) + 2) (q ∷ cs) (literal_some q cs parts.0) (ap Literal parts.1)
    (parts.2 ∙ behind_literal q cs) (omega arith)

pub returns-in-None : goal.returns-in-None
returns-in-None c = cuts_none _ _ (literal_none c.args.quote (chars c.args.behind.now) (c.in-None.ensures {u = tt}))
