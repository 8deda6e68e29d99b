use Rattle.std.proofs.Common.{◌≡◌, ◌∙◌, arith, add-one, subst, sym}
use Rattle.spec_document.specs.Name.{Expanded}
use Rattle.spec_meaning.specs.Context as context
use Rattle.xt_questions.specs.View.{bindings_of}
use Rattle.xt_record.proofs.Parameters.{name_in, pass_at, pass_more}
use Rattle.xt_record.proofs.matching.pass_alike.Goals as goal

pub loop-binding-preserved : goal.loop-binding-preserved
loop-binding-preserved c =
    let one = bindings_of c.args.parameters.now in
    let other = bindings_of c.args.others.now in
    let Passes : Expanded → Type 0 = λ name. context.binding_of name one ≡ context.binding_of name other in
    let alike = subst Passes (name_in c.binding-item.result) (c.in_ok-passes_alike.ensures.0 c.if-not-branch.false) in
    rw add-one (pass_more one other c.args.declared.now c.loop-binding.binding-index c.binding-item.result (omega arith) c.binding-item.is alike
    c.loop-binding.invariant)

pub returns-then-not-branch : goal.returns-then-not-branch
returns-then-not-branch c = (
  λ is. absurd (cc),
  λ all.
      let one = bindings_of c.args.parameters.now in
      let other = bindings_of c.args.others.now in
      let Passes : Expanded → Type 0 = λ name. context.binding_of name one ≡ context.binding_of name other in
      let alike = pass_at one other c.args.declared.now c.loop-binding.binding-index c.binding-item.result (omega arith) c.binding-item.is all in
      sym c.if-not-branch.true ∙ c.in_ok-passes_alike.ensures.1 (subst Passes (sym (name_in c.binding-item.result)) alike),
)
