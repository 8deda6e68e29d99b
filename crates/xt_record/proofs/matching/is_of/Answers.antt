use Rattle.std.proofs.Common.{subst, sym, ◌∙◌, List}
use Rattle.spec_document.specs.Name.{Expanded}
use Rattle.spec_reuse.specs.Serving.{PassAlike}
use Rattle.xt_questions.specs.View.{bindings_of}
use Rattle.xt_record.proofs.Ok.{if_ok}
use Rattle.xt_record.proofs.matching.is_of.Goals as goal

pub returns-then-not-same_target : goal.returns-then-not-same_target
returns-then-not-same_target c = (λ is. absurd (cc), λ of. sym c.if-not-same_target.true ∙ c.same_target.ensures.1 of.target)

pub returns-then-not-same_node : goal.returns-then-not-same_node
returns-then-not-same_node c = (λ is. absurd (cc), λ of. sym c.if-not-same_node.true ∙ c.same_node.ensures.1 of.node)

pub returns : goal.returns
returns c =
    let r = c.args.kept.now in
    let call = c.args.call.now in
    let Passes : List Expanded → Type 0 = λ names. PassAlike names (bindings_of r.call.parameters) (bindings_of call.parameters) in
    let declared = c.declared_of-names.ensures in
    if_ok c.pass_alike.result c.pass_alike.ensures (λ b alike. (
      λ is. record {
        target = c.same_target.ensures.0 c.if-not-same_target.false;
        node = c.same_node.ensures.0 c.if-not-same_node.false;
        parameters = subst Passes declared (alike.0 is);
      },
      λ of. alike.1 (subst Passes (sym declared) of.parameters),
    ))
