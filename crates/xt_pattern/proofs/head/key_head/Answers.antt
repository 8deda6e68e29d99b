use Rattle.std.proofs.Common.{◌≡◌, ℕ, List, ◌∷◌, Option, ap, sym, subst, ◌∙◌}
use Rattle.std.specs.Str.{chars}
use Rattle.spec_document.specs.Name.{Expanded}
use Rattle.spec_expression.specs.Token.{Token, Name, Open, Close, Comma, Literal}
use Rattle.spec_stylesheet.specs.declared.pattern.Start.TheVariants.{Key}
use Rattle.spec_static.specs.PatternGrammar.{ReadsHead, key_name}
use Rattle.xp_parse.specs.Reading.{left, Read, Nothing}
use Rattle.xp_parse.proofs.Places.{next_two}
use Rattle.xp_parse.proofs.Calls.{found, exits_refused}
use Rattle.xt_pattern.proofs.Heads.{key_read, key_fail}
use Rattle.xt_pattern.proofs.head.key_head.Goals as goal

pub returns-in_err-past-2-clause-answer : goal.returns-in_err-past-2-clause-answer
returns-in_err-past-2-clause-answer c =
    let p = c.args.parser.now in
    let at = c.args.at.now in
    let q = c.requires.name in
    let name = chars c.in_ok-name.name.now in
    let value = chars c.in_ok-value.value.now in
    let e : left p at ≡ Name q ∷ Open ∷ Literal name ∷ Comma ∷ Literal value ∷ left p c.literal-2.new.at =
    next_two p at (Name q) Open c.requires.is c.requires.opened
    ∙ ap (λ (ts : List Token). Name q ∷ Open ∷ ts) (c.in_ok-name.ensures.ok
    ∙ ap (λ (ts : List Token). Literal name ∷ ts) (c.in_ok-past.ensures.ok ∙ ap (λ (ts : List Token). Comma ∷ ts) c.in_ok-value.ensures.ok)) in
    exits_refused _ c.from_residual-in_err-past-2.ensures.1 (let f = c.in_err-past-2.ensures.err.0 in cc)
    (subst (λ (ts : List Token). Nothing (ReadsHead p.scope.now) 10 ts) (sym e) (key_fail c.in_err-past-2.ensures.err.1))

pub returns-clause-answer : goal.returns-clause-answer
returns-clause-answer c =
    let p = c.args.parser.now in
    let at = c.args.at.now in
    let q = c.requires.name in
    let name = chars c.in_ok-name.name.now in
    let value = chars c.in_ok-value.value.now in
    let e : left p at ≡ Name q ∷ Open ∷ Literal name ∷ Comma ∷ Literal value ∷ Close ∷ left p c.past-2.new.at =
    next_two p at (Name q) Open c.requires.is c.requires.opened
    ∙ ap (λ (ts : List Token). Name q ∷ Open ∷ ts) (c.in_ok-name.ensures.ok
    ∙ ap (λ (ts : List Token). Literal name ∷ ts) (c.in_ok-past.ensures.ok
    ∙ ap (λ (ts : List Token). Comma ∷ ts) (c.in_ok-value.ensures.ok ∙ ap (λ (ts : List Token). Literal value ∷ ts) c.in_ok-past-2.ensures.ok))) in
    found (ap (λ (x : Option Expanded). Key x c.in_ok-value-2.value) c.in_ok-name-2.ensures
    ∙ ap (λ (x : List ℕ). Key (key_name p.scope.now name) x) c.in_ok-value-2.ensures)
    (subst (λ (ts : List Token). Read (ReadsHead p.scope.now) 10 ts (Key (key_name p.scope.now name) value) (left p c.past-2.new.at)) (sym e)
    (key_read c.requires.known))
