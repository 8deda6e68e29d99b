use Rattle.std.proofs.Common.{ℕ, ◌≡◌, ◌+◌, ◌-◌, sym, ap, subst, ◌∙◌, arith}
use Rattle.std.specs.Prelude.{IfOk}
use Rattle.spec_document.specs.Forest.{Document}
use Rattle.xt_edit.specs.Changed.{with_children}
use Rattle.xt_edit.specs.Seam.{put_in}
use Rattle.xt_edit.specs.Site.{spot_in}
use Rattle.xt_edit.specs.Standing.{Stands}
use Rattle.xt_edit.proofs.Carried.{place-from, position-least, unmoved-is, within-is}
use Rattle.xt_edit.proofs.Sites.{position-from}
use Rattle.xt_edit.proofs.Stays.{out_stays}
use Rattle.xt_edit.proofs.carrying.put_within.Goals as goal

pub overflow_sub-position : goal.overflow_sub-position
overflow_sub-position c =
    (position-least c.args.document.now (spot_in c.args.site.spot) c.args.site.node.now c.args.position c.requires.there c.requires.within).0

pub overflow_sub-index : goal.overflow_sub-index
overflow_sub-index c = position-from c.args.document.now (spot_in c.args.site.spot) c.args.site.node.now c.requires.there

pub put_between-requires-clause-stands : goal.put_between-requires-clause-stands
put_between-requires-clause-stands c =
    let site = c.args.site in
    let index = site.spot.position - 1 in
    let some = position-from c.args.document.now (spot_in site.spot) site.node.now c.requires.there in
    let is = ap (λ f. with_children (put_in index (index + 1) f) site.spot.parent.now c.args.document.now) c.requires.node
    ∙ unmoved-is c.args.document.now site c.args.position some (omega arith) in
    subst Stands (sym is) c.requires.after

pub returns-then-position-own : goal.returns-then-position-own
returns-then-position-own c =
    let site = c.args.site in
    let index = site.spot.position - 1 in
    let some = position-from c.args.document.now (spot_in site.spot) site.node.now c.requires.there in
    let is = ap (λ f. with_children (put_in index (index + 1) f) site.spot.parent.now c.args.document.now) c.requires.node
    ∙ unmoved-is c.args.document.now site c.args.position some (omega arith) in
    subst (λ (d : Document ℕ). IfOk c.put_between.result (λ new. new ≡ d)) is c.put_between.ensures

pub take_out-requires-clause-stands : goal.take_out-requires-clause-stands
take_out-requires-clause-stands c =
    out_stays c.args.document.now (spot_in c.args.site.spot) c.args.site.node.now c.requires.before c.requires.there

pub overflow_sub-index-2 : goal.overflow_sub-index-2
overflow_sub-index-2 c =
    let some = place-from c.args.document.now c.args.site c.args.position c.fewer_by-fewer.result c.in_ok-left.left c.requires.there c.requires.within
    c.requires.apart (λ same. absurd (omega arith)) c.in_ok-left.ensures c.fewer_by-fewer.ensures in
    omega (arith, some, c.position_without.ensures)

pub put_between-moved-requires-clause-stands : goal.put_between-moved-requires-clause-stands
put_between-moved-requires-clause-stands c =
    let site = c.args.site in
    let is = (λ i. let index = c.position_without.ensures i - 1 in
    with_children (put_in index index (c.requires.node i)) site.spot.parent.now c.in_ok-left.left)
    ∙ within-is c.args.document.now site c.args.position c.fewer_by-fewer.result c.in_ok-left.left c.requires.there c.requires.within
    c.requires.apart (λ same. absurd (omega arith)) c.in_ok-left.ensures c.fewer_by-fewer.ensures in
    subst Stands (sym is) c.requires.after

pub returns : goal.returns
returns c =
    let site = c.args.site in
    let is = (λ i. let index = c.position_without.ensures i - 1 in
    with_children (put_in index index (c.requires.node i)) site.spot.parent.now c.in_ok-left.left)
    ∙ within-is c.args.document.now site c.args.position c.fewer_by-fewer.result c.in_ok-left.left c.requires.there c.requires.within
    c.requires.apart (λ same. absurd (omega arith)) c.in_ok-left.ensures c.fewer_by-fewer.ensures in
    subst (λ (d : Document ℕ). IfOk c.put_between-moved.result (λ new. new ≡ d)) is c.put_between-moved.ensures
