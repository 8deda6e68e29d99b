use Rattle.std.proofs.Common.{◌≡◌, ℕ, ◌+◌, List, Some, refl, ap, sym, subst, ◌∙◌}
use Rattle.std.specs.Str.{chars}
use Rattle.spec_expression.specs.declared.NodeType.{NodeType}
use Rattle.spec_expression.specs.declared.NodeType.TheVariants.{ProcessingInstruction}
use Rattle.spec_expression.specs.Token.{Token, Name, Open, Close, Literal}
use Rattle.spec_expression.specs.Syntax.{OfType, Instruction}
use Rattle.spec_expression.specs.Grammar.{ReadsTest}
use Rattle.xp_parse.specs.Reading.{left, Read, IsNext}
use Rattle.xp_parse.proofs.Places.{next_three, next_four}
use Rattle.xp_parse.proofs.NodeTests.{of_type_read, instruction_read}
use Rattle.xp_parse.proofs.Calls.{found}
use Rattle.xp_parse.proofs.read.Parser.type_test.Goals as goal

pub returns-then-next_is-clause-answer : goal.returns-then-next_is-clause-answer
returns-then-next_is-clause-answer c =
    let p = c.args.self.now in
    let at = c.args.at.now in
    let n : IsNext p (at + 2) Close = c.if-next_is.ensures in
    found refl (subst (λ (ts : List Token). Read (ReadsTest p.scope.now) 11 ts (OfType c.args.node_type) (left p (at + 3)))
    (sym (next_three p at (Name c.requires.name) Open Close c.requires.is c.requires.opened n)) (of_type_read c.requires.known))

pub returns-in_ok-target-in-Some-clause-answer : goal.returns-in_ok-target-in-Some-clause-answer
returns-in_ok-target-in-Some-clause-answer c =
    let p = c.args.self.now in
    let at = c.args.at.now in
    let x = chars c.in-Some.target.now in
    let n : IsNext p (at + 2) (Literal x) × IsNext p (at + 2 + 1) Close = c.in-Some.ensures in
    let e : c.in_ok-target-in-Some.target ≡ x = c.in_ok-target-in-Some.ensures in
    let t : c.args.node_type ≡ ProcessingInstruction = c.in-ProcessingInstruction.is in
    let r = subst (λ (ts : List Token). Read (ReadsTest p.scope.now) 11 ts (Instruction x) (left p (at + 4)))
    (sym (next_four p at (Name c.requires.name) Open (Literal x) Close c.requires.is c.requires.opened n.0 n.1))
    (instruction_read (c.requires.known ∙ ap (λ (k : NodeType). Some k) t)) in
    found (ap (λ (y : List ℕ). Instruction y) e) r
