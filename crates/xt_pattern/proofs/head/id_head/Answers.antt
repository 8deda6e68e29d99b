use Rattle.std.proofs.Common.{◌≡◌, ℕ, List, ◌∷◌, ap, sym, subst, ◌∙◌}
use Rattle.std.specs.Str.{chars}
use Rattle.spec_expression.specs.Token.{Token, Name, Open, Close, Literal}
use Rattle.spec_stylesheet.specs.declared.pattern.Start.TheVariants.{Id}
use Rattle.spec_static.specs.PatternGrammar.{ReadsHead}
use Rattle.xp_parse.specs.Reading.{left, Read}
use Rattle.xp_parse.proofs.Places.{next_two}
use Rattle.xp_parse.proofs.Calls.{found}
use Rattle.xt_pattern.proofs.Heads.{id_read}
use Rattle.xt_pattern.proofs.head.id_head.Goals as goal

pub returns-clause-answer : goal.returns-clause-answer
returns-clause-answer c =
    let p = c.args.parser.now in
    let at = c.args.at.now in
    let q = c.requires.name in
    let text = chars c.in_ok-id.id.now in
    let e : left p at ≡ Name q ∷ Open ∷ Literal text ∷ Close ∷ left p c.past.new.at =
    next_two p at (Name q) Open c.requires.is c.requires.opened
    ∙ ap (λ (ts : List Token). Name q ∷ Open ∷ ts) (c.in_ok-id.ensures.ok ∙ ap (λ (ts : List Token). Literal text ∷ ts) c.in_ok-past.ensures.ok) in
    found (ap (λ (x : List ℕ). Id x) c.in_ok-id-2.ensures)
    (subst (λ (ts : List Token). Read (ReadsHead p.scope.now) 10 ts (Id text) (left p c.past.new.at)) (sym e) (id_read c.requires.known))
