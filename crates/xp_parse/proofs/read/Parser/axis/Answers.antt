use Rattle.std.proofs.Common.{◌≡◌, ◌+◌, List, Some, sym, subst}
use Rattle.spec_document.specs.declared.axis.Axis.TheVariants.{Attribute}
use Rattle.spec_expression.specs.Token.{Token, Name, At, ColonColon}
use Rattle.spec_expression.specs.Grammar.{axis_of}
use Rattle.xp_parse.specs.View.{name_of}
use Rattle.xp_parse.specs.Reading.{left, IsNext, IsNotNext, ReadsAxis, named, attribute, absent}
use Rattle.xp_parse.proofs.Places.{next_two}
use Rattle.xp_parse.proofs.read.Parser.axis.Goals as goal

pub returns-then-next_is-clause-ok : goal.returns-then-next_is-clause-ok
returns-then-next_is-clause-ok c =
    let n : IsNext c.args.self.now c.args.at.now At = c.if-next_is.ensures in
    subst (λ (ts : List Token). ReadsAxis ts Attribute (left c.args.self.now (c.args.at.now + 1))) (sym n.is) attribute

pub returns-in-Some-axis_of-clause-ok : goal.returns-in-Some-axis_of-clause-ok
returns-in-Some-axis_of-clause-ok c =
    let q = name_of c.in-Some.name in
    let n : IsNext c.args.self.now c.args.at.now (Name q) × IsNext c.args.self.now (c.args.at.now + 1) ColonColon = c.in-Some.ensures in
    let a : Some c.in-Some-axis_of.axis ≡ axis_of q = c.in-Some-axis_of.ensures in
    subst (λ (ts : List Token). ReadsAxis ts c.in-Some-axis_of.axis (left c.args.self.now (c.args.at.now + 2)))
    (sym (next_two c.args.self.now c.args.at.now (Name q) ColonColon n.0 n.1)) (named (sym a))

pub returns-in-None-clause-ok : goal.returns-in-None-clause-ok
returns-in-None-clause-ok c =
    let n : IsNotNext (left c.args.self.now c.args.at.now) At = c.if-next_is.ensures in
    absent c.requires.dot c.requires.dots n c.in-None.ensures
