use Rattle.std.proofs.Common.{◌≡◌, ◌≤◌, ◌+◌, ◌-◌, sym, ap, ◌∙◌, arith}
use Rattle.spec_edit.specs.Splice.{sibling_count, spot_of}
use Rattle.xt_edit.specs.View.{edit_of}
use Rattle.xt_edit.proofs.Sites.{spot_of-last}
use Rattle.xt_tree.specs.View.{forest_of}
use Rattle.xt_strip.proofs.Places.{edit_spliced}
use Rattle.xt_strip.proofs.Siblings.{count_length}
use Rattle.xt_strip.proofs.place.place_of.Goals as goal

pub returns-clause-spliced : goal.returns-clause-spliced
returns-clause-spliced c new is =
    let path = c.in_ok-position.path.now in
    let position = c.in_ok-position.position.now in
    let index = position - 1 in
    let end = index + c.gone_by.result in
    let xs = c.in_ok-siblings.siblings.now in
    let many = count_length xs in
    let first : position ≡ index + 1 = omega (arith, c.if-position-eq0.false) in
    let within : end ≤ sibling_count (forest_of xs) = omega (arith, many, c.if-end-siblings.false) in
    edit_spliced (edit_of c.args.edit.now) c.args.document.now new path position index end (index - c.text_before.result) (end + c.text_at.result)
    (forest_of xs) is
    (ap spot_of (sym c.path_of.ensures ∙ sym c.positions.ensures ∙ c.in_ok-position.ensures.cases.0) ∙ spot_of-last path position)
    first (ap (λ n. index + n) c.gone_by.ensures.is) c.in_ok-siblings.ensures within
    (ap (λ n. index - n) c.text_before.ensures.is) (ap (λ n. end + n) c.text_at.ensures.is)

pub returns-clause-spot : goal.returns-clause-spot
returns-clause-spot c =
    ap spot_of (sym c.path_of.ensures ∙ sym c.positions.ensures ∙ c.in_ok-position.ensures.cases.0)
    ∙ spot_of-last c.in_ok-position.path.now c.in_ok-position.position.now
