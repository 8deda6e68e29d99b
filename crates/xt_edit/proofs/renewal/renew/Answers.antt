use Rattle.std.proofs.Common.{◌+◌, ◌-◌, sym, ap, ◌∙◌, subst, arith}
use Rattle.spec_document.specs.Forest.{size}
use Rattle.xt_tree.specs.View.{content_of}
use Rattle.xt_edit.specs.Finding.{at_no_line}
use Rattle.xt_edit.specs.Site.{found_there, spot_in}
use Rattle.xt_edit.specs.Standing.{Stands}
use Rattle.xt_edit.proofs.Sites.{position-from}
use Rattle.xt_edit.proofs.Renewed.{anew_there, renewed-is, room-below, made-there, nodes-there}
use Rattle.xt_edit.proofs.renewal.renew.Goals as goal

pub overflow_sub-index : goal.overflow_sub-index
overflow_sub-index c = position-from c.args.document.now (spot_in c.args.site.spot) c.args.site.node.now c.requires.there

pub overflow_add-first : goal.overflow_add-first
overflow_add-first c =
    let there = found_there c.args.document.now (spot_in c.args.site.spot) c.args.site.node.now in
    let enough = room-below c.args.first.number there (content_of c.args.content) (ap at_no_line (sym c.in-None.is) ∙ c.in_ok-code.ensures) in
    omega (arith, enough)

pub number_after-number-requires : goal.number_after-number-requires
number_after-number-requires c =
    let there = found_there c.args.document.now (spot_in c.args.site.spot) c.args.site.node.now in
    let enough = room-below c.args.first.number there (content_of c.args.content) (ap at_no_line (sym c.in-None.is) ∙ c.in_ok-code.ensures) in
    let same = ap size c.children.ensures.forest in
    omega (arith, enough, same)

pub renewed-requires : goal.renewed-requires
renewed-requires c =
    let there = found_there c.args.document.now (spot_in c.args.site.spot) c.args.site.node.now in
    let enough = room-below c.args.first.number there (content_of c.args.content) (ap at_no_line (sym c.in-None.is) ∙ c.in_ok-code.ensures) in
    let same = ap size c.children-in-None.ensures.forest in
    omega (arith, enough, same)

pub spliced-requires : goal.spliced-requires
spliced-requires c =
    let document = c.args.document.now in
    let spot = spot_in c.args.site.spot in
    let there = found_there document spot c.args.site.node.now in
    let first = c.args.first.number in
    let content = content_of c.args.content in
    let from = position-from document spot c.args.site.node.now c.requires.there in
    let same = nodes-there first document spot there content _ c.in_ok-nodes-in-None.nodes (spot.position - 1 + 1) (omega (arith, from))
    c.children-in-None.ensures.forest c.in_ok-nodes-in-None.ensures in
    let stands = subst (λ nodes. Stands (record { root = document.root; nodes = nodes })) (sym same)
    (c.requires.permits (anew_there first document spot there content)
    (renewed-is first document spot there content (ap at_no_line (sym c.in-None.is) ∙ c.in_ok-code.ensures))) in
    record { order = omega arith; numbers = stands.numbers; depth = stands.depth; fits = stands.fits }

pub returns-in_ok-document-in-None : goal.returns-in_ok-document-in-None
returns-in_ok-document-in-None c =
    let document = c.args.document.now in
    let spot = spot_in c.args.site.spot in
    let there = found_there document spot c.args.site.node.now in
    let first = c.args.first.number in
    let content = content_of c.args.content in
    let from = position-from document spot c.args.site.node.now c.requires.there in
    let same = nodes-there first document spot there content _ c.in_ok-nodes-in-None.nodes (spot.position - 1 + 1) (omega (arith, from))
    c.children-in-None.ensures.forest c.in_ok-nodes-in-None.ensures in
    let below = ap size c.children.ensures.forest in
    let made = made-there first document spot there content in
    let number = c.number_after-number.ensures in (
      anew_there first document spot there content,
      renewed-is first document spot there content (ap at_no_line (sym c.in-None.is) ∙ c.in_ok-code.ensures),
      c.in_ok-document-in-None.ensures ∙ ap (λ nodes. record { root = document.root; nodes = nodes }) same,
      omega (arith, below, made, number),
    )
