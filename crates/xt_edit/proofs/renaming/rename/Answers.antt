use Rattle.std.proofs.Common.{◌≡◌, map, sym, ap, ◌∙◌}
use Rattle.std.proofs.lemmas.Result.{err_from_is_err_and}
use Rattle.spec_document.specs.Forest.{Element, Instruction}
use Rattle.spec_edit.specs.Edit.{Rename, renamed}
use Rattle.xt_tree.specs.View.{content_of, written_of, tree_of}
use Rattle.xt_edit.specs.Site.{spot_in}
use Rattle.xt_edit.proofs.Elements.{edits-so, element_renamed-is, instruction_renamed-is}
use Rattle.xt_edit.proofs.Stays.{stays, stays-below}
use Rattle.xt_edit.proofs.renaming.rename.Goals as goal

pub returns-in_err-site-clause-edit : goal.returns-in_err-site-clause-edit
returns-in_err-site-clause-edit c =
    let p = err_from_is_err_and c.from_residual.result c.from_residual.ensures.1 in
    rw (p.1, p.2) (c.in_err-site.ensures c.args.first.number (λ spot. renamed (λ nodes. nodes) c.args.first.number spot c.args.document.now c.args.name.now))

pub renew-requires-clause-permits : goal.renew-requires-clause-permits
renew-requires-clause-permits c new e =
    let node = c.in_ok-site.site.node.now in
    let own = c.in-Element.name in
    let attributes = map written_of c.in-Element.attributes.items in
    let was : (tree_of node).content ≡ Element own attributes = sym c.content.ensures ∙ ap content_of c.in-Element.is in
    let list : map written_of c.in_ok-attributes_copied-in-Element.field-0.items ≡ attributes =
    c.in_ok-attributes_copied-in-Element.ensures ∙ ap (map written_of) c.as_slice.ensures.value in
    let is = element_renamed-is c.args.first.number c.args.document.now c.args.path.now (spot_in c.in_ok-site.site.spot) node c.in_ok-site.ensures
    own c.args.name.now attributes _ was (λ i. Element (c.in_ok-copy-in-Element.ensures i) (list i)) in
    stays c.args.first.number (Rename c.args.path.now c.args.name.now) c.args.document.now c.requires c.stand.ensures new (is ∙ e)

pub returns-in_ok-attributes_copied-in-Element-clause-edit : goal.returns-in_ok-attributes_copied-in-Element-clause-edit
returns-in_ok-attributes_copied-in-Element-clause-edit c =
    let node = c.in_ok-site.site.node.now in
    let own = c.in-Element.name in
    let attributes = map written_of c.in-Element.attributes.items in
    let was : (tree_of node).content ≡ Element own attributes = sym c.content.ensures ∙ ap content_of c.in-Element.is in
    let list : map written_of c.in_ok-attributes_copied-in-Element.field-0.items ≡ attributes =
    c.in_ok-attributes_copied-in-Element.ensures ∙ ap (map written_of) c.as_slice.ensures.value in
    let is = element_renamed-is c.args.first.number c.args.document.now c.args.path.now (spot_in c.in_ok-site.site.spot) node c.in_ok-site.ensures
    own c.args.name.now attributes _ was (λ i. Element (c.in_ok-copy-in-Element.ensures i) (list i)) in
    edits-so c.args.document.now c.args.first.number c.renew.result _ _ is c.renew.ensures

pub returns-in_ok-attributes_copied-in-Element-clause-below : goal.returns-in_ok-attributes_copied-in-Element-clause-below
returns-in_ok-attributes_copied-in-Element-clause-below c =
    stays-below c.args.first.number (Rename c.args.path.now c.args.name.now) c.args.document.now c.renew.result c.requires
    (returns-in_ok-attributes_copied-in-Element-clause-edit c)

pub renew-requires-in-Instruction-clause-permits : goal.renew-requires-in-Instruction-clause-permits
renew-requires-in-Instruction-clause-permits c new e =
    let node = c.in_ok-site.site.node.now in
    let was : (tree_of node).content ≡ Instruction c.in-Instruction.target c.in-Instruction.text =
    sym c.content.ensures ∙ ap content_of c.in-Instruction.is in
    let is = instruction_renamed-is c.args.first.number c.args.document.now c.args.path.now (spot_in c.in_ok-site.site.spot) node c.in_ok-site.ensures
    c.in-Instruction.target c.args.name.now c.in-Instruction.text _ was
    (λ i. Instruction (c.in_ok-copy-in-Instruction.ensures i) (c.in_ok-copy-in-Instruction-2.ensures i)) in
    stays c.args.first.number (Rename c.args.path.now c.args.name.now) c.args.document.now c.requires c.stand.ensures new (is ∙ e)

pub returns-in_ok-copy-in-Instruction-2-clause-edit : goal.returns-in_ok-copy-in-Instruction-2-clause-edit
returns-in_ok-copy-in-Instruction-2-clause-edit c =
    let node = c.in_ok-site.site.node.now in
    let was : (tree_of node).content ≡ Instruction c.in-Instruction.target c.in-Instruction.text =
    sym c.content.ensures ∙ ap content_of c.in-Instruction.is in
    let is = instruction_renamed-is c.args.first.number c.args.document.now c.args.path.now (spot_in c.in_ok-site.site.spot) node c.in_ok-site.ensures
    c.in-Instruction.target c.args.name.now c.in-Instruction.text _ was
    (λ i. Instruction (c.in_ok-copy-in-Instruction.ensures i) (c.in_ok-copy-in-Instruction-2.ensures i)) in
    edits-so c.args.document.now c.args.first.number c.renew-in-Instruction.result _ _ is c.renew-in-Instruction.ensures

pub returns-in_ok-copy-in-Instruction-2-clause-below : goal.returns-in_ok-copy-in-Instruction-2-clause-below
returns-in_ok-copy-in-Instruction-2-clause-below c =
    stays-below c.args.first.number (Rename c.args.path.now c.args.name.now) c.args.document.now c.renew-in-Instruction.result c.requires
    (returns-in_ok-copy-in-Instruction-2-clause-edit c)
