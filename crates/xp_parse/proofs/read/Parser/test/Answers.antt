use Rattle.std.proofs.Common.{◌≡◌, ℕ, ◌+◌, List, Some, refl, ap, sym, subst, ◌∙◌}
use Rattle.std.specs.Str.{chars}
use Rattle.spec_document.specs.Name.{Expanded}
use Rattle.spec_expression.specs.Token.{Name, Star, AnyOf, Open}
use Rattle.spec_expression.specs.Syntax.{InNamespace, Named}
use Rattle.spec_expression.specs.Grammar.{uri_of, expanded}
use Rattle.xp_parse.specs.View.{name_of}
use Rattle.xp_parse.specs.Reading.{left, BeginsTest, IsNext, IsNotNext}
use Rattle.xp_parse.specs.declared.read.TestHead.{TestHead}
use Rattle.xp_parse.proofs.Places.{at_read}
use Rattle.xp_parse.proofs.NodeTests.{any_read, in_namespace_read, named_read, named_read_alone, test_fail}
use Rattle.xp_parse.proofs.Calls.{found, refused}
use Rattle.xp_parse.proofs.read.Parser.test.Goals as goal
use Rattle.xp_parse.proofs.read.Parser.test.Goals.{in_default-via-in-Some+else-next_is, in_default-via-in_default}

pub returns-in-Some-Star-clause-answer : goal.returns-in-Some-Star-clause-answer
returns-in-Some-Star-clause-answer c =
    let n : IsNext c.args.self.now c.args.at.now Star =
    subst (λ (h : TestHead). BeginsTest c.args.self.now c.args.at.now h) c.in-Some-Star.field-0-is c.in-Some-Star.ensures in
    found refl (at_read n any_read)

pub returns-in_ok-uri-in-Some-AnyOf-clause-answer : goal.returns-in_ok-uri-in-Some-AnyOf-clause-answer
returns-in_ok-uri-in-Some-AnyOf-clause-answer c =
    let p = c.args.self.now in
    let x = chars c.in-Some-AnyOf.prefix.now in
    let n : IsNext p c.args.at.now (AnyOf x) =
    subst (λ (h : TestHead). BeginsTest c.args.self.now c.args.at.now h) c.in-Some-AnyOf.field-0-is c.in-Some-AnyOf.ensures in
    let e : c.in_ok-uri-in-Some-AnyOf.uri ≡ uri_of p.scope.now (Some x) = c.in_ok-uri-in-Some-AnyOf.ensures in
    found (ap (λ (y : List ℕ). InNamespace y) e) (at_read n in_namespace_read)

pub returns-in_ok-name-in_default-clause-answer : goal.returns-in_ok-name-in_default-clause-answer
returns-in_ok-name-in_default-clause-answer c =
    let p = c.args.self.now in
    let q = name_of c.in-Some-Name.name in
    let n : IsNext p c.args.at.now (Name q) =
    subst (λ (h : TestHead). BeginsTest c.args.self.now c.args.at.now h) c.in-Some-Name.field-0-is c.in-Some-Name.ensures in
    let e : c.in_ok-name-in_default.name ≡ expanded p.scope.now q = c.in_ok-name-in_default.ensures in
    found (ap (λ (y : Expanded). Named y) e) (elim c.in_default.branch [
      | in_default-via-in-Some+else-next_is w ↦ let o : IsNotNext (left p (c.args.at.now + 1)) Open = w.if-next_is.ensures in at_read n (named_read_alone o)
      | in_default-via-in_default w ↦ at_read n (named_read (sym c.type_of.ensures ∙ w.in_default.is))
    ])

pub returns-in-None-clause-answer : goal.returns-in-None-clause-answer
returns-in-None-clause-answer c = refused (test_fail c.in-None.ensures)
