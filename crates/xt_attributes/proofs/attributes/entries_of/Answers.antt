use Rattle.std.proofs.Common.{◌+◌, ◌∙◌, List, drop, map, sym, ap, subst, arith}
use Rattle.std.specs.Str.{chars}
use Rattle.spec_compile.specs.Reading.{Reads}
use Rattle.spec_compile.specs.Value as plain
use Rattle.spec_structure.specs.Inside.{expanded_of}
use Rattle.xt_attributes.specs.Gathering.{gathered_in, seen}
use Rattle.xt_attributes.specs.View.{barred_by, entry_in, listed}
use Rattle.xt_attributes.proofs.Rest.{begins, ends, last, next, seen-seen, turn}
use Rattle.xt_structure.specs.View.{row_of}
use Rattle.xt_tree.specs.View.{written_of}
use Rattle.xt_tree.specs.declared.node.Written.{Written}
use Rattle.xt_attributes.proofs.attributes.entries_of.Goals as goal

pub loop-attribute-init : goal.loop-attribute-init
loop-attribute-init c = begins _ _ (ap (seen (λ es. map entry_in es)) c.new-entries.ensures)

pub loop-attribute-preserved : goal.loop-attribute-preserved
loop-attribute-preserved c =
    let so_far = seen (λ es. map entry_in es) (gathered_in c.loop-attribute.entries) in
    let left = λ (others : List Written). plain.entries_of (barred_by c.args.element) c.args.scope.now (chars c.args.uri.now) (map row_of c.args.rows.now) (map written_of others) in
    turn (plain.entry_of (barred_by c.args.element) c.args.scope.now (chars c.args.uri.now) (map row_of c.args.rows.now) c.attribute-item.result.value
    (expanded_of c.args.scope.now (written_of c.attribute-item.result)))
    (left (drop (c.loop-attribute.attribute-index + 1) c.args.attributes.now)) (left c.args.attributes.now) so_far (seen listed c.in_ok-entry.entry) _
    c.in_ok-entry.ensures.so c.in_ok-push_if.ensures
    (next so_far left c.args.attributes.now c.loop-attribute.attribute-index c.attribute-item.result (omega arith) c.attribute-item.is c.loop-attribute.invariant)

pub returns : goal.returns
returns c =
    let so_far = seen (λ es. map entry_in es) (gathered_in c.loop-attribute.entries) in
    let left = λ (others : List Written). plain.entries_of (barred_by c.args.element) c.args.scope.now (chars c.args.uri.now) (map row_of c.args.rows.now) (map written_of others) in
    record {
      so =
          subst (λ b. Reads (left c.args.attributes.now) b)
          (sym (seen-seen (λ list. list.items) (λ es. map entry_in es) c.finish.result ∙ ap (seen (λ es. map entry_in es)) c.finish.ensures))
          (ends so_far (last so_far left c.args.attributes.now c.loop-attribute.attribute-index (omega arith) c.loop-attribute.invariant));
    }
