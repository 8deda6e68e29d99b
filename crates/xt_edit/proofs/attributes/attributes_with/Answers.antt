use Rattle.std.proofs.Common.{[], ◌∷◌, ◌++◌, map, sym, ap, ◌∙◌, arith, append-nil}
use Rattle.std.proofs.lemmas.List.{at_drop_all}
use Rattle.spec_edit.specs.Edit.{set_in}
use Rattle.xt_tree.specs.View.{written_of}
use Rattle.xt_edit.proofs.Named.{in_place, put_last}
use Rattle.xt_edit.proofs.attributes.attributes_with.Goals as goal
use Rattle.xt_edit.proofs.attributes.attributes_with.Goals.{then-not-has_attribute+in_ok-add_last, else-not-has_attribute}

pub returns : goal.returns
returns c =
    let name = c.args.name.now in
    let value = c.args.value.now in
    let attributes = c.args.attributes.now in
    let list = map written_of c.loop-attribute.list.items in
    let set = set_in name value in
    let none = at_drop_all (λ rest. list ++ map set (map written_of rest)) attributes c.loop-attribute.attribute-index (omega arith) in
    let all = sym (none ∙ append-nil list) ∙ c.loop-attribute.invariant in
    elim c.if-not-has_attribute.branch [
      | then-not-has_attribute+in_ok-add_last w ↦
          ap (λ l. map written_of l.items) w.list-is
          ∙ w.in_ok-add_last.ensures
          ∙ ap (λ front. front ++ record { name = name; value = value } ∷ []) all
          ∙ put_last name value (map written_of attributes) (sym c.has_attribute.ensures ∙ w.if-not-has_attribute.true)
      | else-not-has_attribute w ↦
          ap (λ l. map written_of l.items) w.list-is ∙ all
          ∙ in_place name value (map written_of attributes) (sym c.has_attribute.ensures ∙ w.if-not-has_attribute.false)
    ]
