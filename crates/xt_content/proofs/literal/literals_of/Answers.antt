use Rattle.std.proofs.Common.{◌+◌, ◌∙◌, List, drop, map, sym, ap, subst, arith}
use Rattle.spec_compile.specs.Content.{literal_attributes, literal_by}
use Rattle.spec_compile.specs.Reading.{Reads}
use Rattle.spec_structure.specs.Inside.{expanded_of}
use Rattle.xt_syntax.specs.PartView.{literal_attribute_of}
use Rattle.xt_attributes.specs.Gathering.{gathered_in, seen}
use Rattle.xt_content.specs.Attribute.{literal_if}
use Rattle.xt_content.proofs.Attributes.{begins, ends, last, next, seen-seen, turn}
use Rattle.xt_tree.specs.View.{written_of}
use Rattle.xt_tree.specs.declared.node.Written.{Written}
use Rattle.xt_content.proofs.literal.literals_of.Goals as goal

pub loop-attribute-init : goal.loop-attribute-init
loop-attribute-init c = begins _ _ (ap (seen (λ ls. map literal_attribute_of ls)) c.new-literals.ensures)

pub loop-attribute-preserved : goal.loop-attribute-preserved
loop-attribute-preserved c =
    let so_far = seen (λ ls. map literal_attribute_of ls) (gathered_in c.loop-attribute.literals) in
    let left = λ (others : List Written). literal_attributes c.args.scope.now (map written_of others) in
    turn (literal_by c.args.scope.now (written_of c.attribute-item.result) (expanded_of c.args.scope.now (written_of c.attribute-item.result)))
    (left (drop (c.loop-attribute.attribute-index + 1) c.args.attributes.now)) (left c.args.attributes.now) so_far (seen literal_if c.in_ok-literal.literal) _
    c.in_ok-literal.ensures.so c.in_ok-push_if.ensures
    (next so_far left c.args.attributes.now c.loop-attribute.attribute-index c.attribute-item.result (omega arith) c.attribute-item.is c.loop-attribute.invariant)

pub returns : goal.returns
returns c =
    let so_far = seen (λ ls. map literal_attribute_of ls) (gathered_in c.loop-attribute.literals) in
    let left = λ (others : List Written). literal_attributes c.args.scope.now (map written_of others) in
    record {
      so =
          subst (λ b. Reads (left c.args.attributes.now) b)
          (sym (seen-seen (λ list. list.items) (λ ls. map literal_attribute_of ls) c.finish.result ∙ ap (seen (λ ls. map literal_attribute_of ls)) c.finish.ensures))
          (ends so_far (last so_far left c.args.attributes.now c.loop-attribute.attribute-index (omega arith) c.loop-attribute.invariant));
    }
