use Rattle.std.proofs.Common.{◌≡◌, ◌==◌, true, false, ◌∙◌, sym, ap, is_some}
use Rattle.std.specs.Option.{option_and_then}
use Rattle.spec_document.specs.Place.{at_number, attributes_in, attributes_of}
use Rattle.xt_tree.specs.View.{tree_of, written_of}
use Rattle.xt_tree.proofs.Ways.{root_there, nothing_there, tree_there, some_mapped}
use Rattle.xt_tree.proofs.doc.Doc.has_attribute.Goals as goal

pub returns-then-eq : goal.returns-then-eq
returns-then-eq c =
    let d = c.args.self.now in
    let number = c.args.id.number in
    let same : (d.root == number) ≡ true = ap (λ e. e.root == number) (sym c.self.view_is) ∙ sym c.eq.ensures ∙ c.if-eq.true in
    sym (ap (λ o. is_some (option_and_then (λ x. at_number c.args.number (attributes_of x)) o)) (root_there d number same))

pub returns-in-None : goal.returns-in-None
returns-in-None c =
    let d = c.args.self.now in
    let number = c.args.id.number in
    let apart : (d.root == number) ≡ false = ap (λ e. e.root == number) (sym c.self.view_is) ∙ sym c.eq.ensures ∙ c.if-eq.false in
    sym (ap (λ o. is_some (option_and_then (λ x. at_number c.args.number (attributes_of x)) o))
    (nothing_there d number apart (sym c.in-None.ensures)))

pub returns-in-Some : goal.returns-in-Some
returns-in-Some c =
    let d = c.args.self.now in
    let number = c.args.id.number in
    let apart : (d.root == number) ≡ false = ap (λ e. e.root == number) (sym c.self.view_is) ∙ sym c.eq.ensures ∙ c.if-eq.false in
    c.is_some.ensures ∙ sym (some_mapped (λ a. written_of a.now) c.attribute.result) ∙ ap is_some c.attribute.ensures
    ∙ sym (ap is_some (tree_there (λ o. at_number c.args.number (attributes_in o)) d number (tree_of c.in-Some.node.now) apart
    (sym c.in-Some.ensures)))
