use Rattle.std.proofs.Common.{◌+◌, ◌++◌, ◌∙◌, sym, ap, arith, map, drop}
use Rattle.std.proofs.lemmas.List.{at_drop_more, map-append}
use Rattle.xt_tree.specs.View.{written_of}
use Rattle.spec_document.specs.declared.event.Event.TheVariants.{Attribute}
use Rattle.spec_document.specs.Forest.{Written}
use Rattle.xt_build.specs.Front.{attributes_first}
use Rattle.xt_build.specs.View.{located_of}
use Rattle.xt_build.proofs.Fronts.{attributes-taken}
use Rattle.xt_build.proofs.piece.leading_attributes.Goals as goal

pub loop-located-preserved : goal.loop-located-preserved
loop-located-preserved c =
    let xs = c.args.events.now in
    let i = c.loop-located.located-index in
    let item = c.located-item.result in
    let old = c.loop-located.attributes.items in
    let old_lines = c.loop-located.lines.items in
    let behind = map located_of (drop (i + 1) xs) in
    let at = sym (at_drop_more (λ rest. map written_of old ++ map (λ a. a.1) (attributes_first (map located_of rest))) xs i item (omega arith))
    ∙ c.loop-located.invariant.attributes in
    let at_lines = sym (at_drop_more (λ rest. old_lines ++ map (λ a. a.0) (attributes_first (map located_of rest))) xs i item (omega arith))
    ∙ c.loop-located.invariant.lines in
    let a = (c.in_ok-push-in-Attribute.ensures {u = tt}).items in
    let b = (c.in_ok-push-in-Attribute-2.ensures {u = tt}).items in
    let w : Written = record { name = c.in_ok-name-in-Attribute.name; value = c.in_ok-value-in-Attribute.value } in
    let is = c.in-Attribute.is ∙ (λ j. Attribute (sym c.in_ok-name-in-Attribute.ensures j) (sym c.in_ok-value-in-Attribute.ensures j)) in
    record {
      attributes = attributes-taken (λ a. a.1) (map written_of old) _ item.line item.event w behind _ is (rw (← c.located-item.is) at at)
          (ap (map written_of) a ∙ map-append written_of old _);
      lines = attributes-taken (λ a. a.0) old_lines _ item.line item.event w behind _ is (rw (← c.located-item.is) at at_lines) b;
    }
