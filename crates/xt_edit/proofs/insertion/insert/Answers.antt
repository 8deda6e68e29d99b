use Rattle.std.proofs.Common.{◌-◌, sym, ap, ◌∙◌, subst}
use Rattle.std.specs.Prelude.{Ok}
use Rattle.spec_edit.specs.Edit.{Insert}
use Rattle.spec_edit.specs.Splice.{children_changed}
use Rattle.xt_edit.specs.Seam.{put_in}
use Rattle.xt_edit.specs.Site.{spot_in}
use Rattle.xt_edit.specs.Standing.{Stands}
use Rattle.xt_edit.proofs.Inserting.{inserted-is, with_nodes}
use Rattle.xt_edit.proofs.Stays.{stays, stays-below}
use Rattle.xt_edit.proofs.insertion.insert.Goals as goal

pub put_between-requires-clause-stands : goal.put_between-requires-clause-stands
put_between-requires-clause-stands c =
    let document = c.args.document.now in
    let spot = spot_in c.in-Some.spot in
    let parent = c.in_ok-parent-in-Some.ensures in
    let index = spot.position - 1 in
    subst (λ nodes. Stands (record { root = document.root; nodes = children_changed (put_in index index nodes) spot.above document.nodes }))
    (sym c.list-list.ensures)
    (stays c.args.first.number (Insert c.args.path.now c.args.body.now) document c.requires c.stand.ensures _
    (inserted-is c.args.first.number document c.args.path.now spot c.args.body.now c.in_ok-parent-in-Some.parent c.in_ok-built-in-Some.built.nodes
    c.in-Some.ensures parent (c.in_ok-built-in-Some.ensures parent.outer parent.at).0))

pub returns-in_ok-document-in-Some-clause-edit : goal.returns-in_ok-document-in-Some-clause-edit
returns-in_ok-document-in-Some-clause-edit c =
    let document = c.args.document.now in
    let spot = spot_in c.in-Some.spot in
    let parent = c.in_ok-parent-in-Some.ensures in
    let index = spot.position - 1 in
    let built = c.in_ok-built-in-Some.ensures parent.outer parent.at in (
      with_nodes document spot c.in_ok-built-in-Some.built.nodes,
      inserted-is c.args.first.number document c.args.path.now spot c.args.body.now c.in_ok-parent-in-Some.parent c.in_ok-built-in-Some.built.nodes
          c.in-Some.ensures parent built.0,
      c.in_ok-document-in-Some.ensures
          ∙ ap (λ nodes. record { root = document.root; nodes = children_changed (put_in index index nodes) spot.above document.nodes }) c.list-list.ensures,
      built.1,
    )

pub returns-in_ok-document-in-Some-clause-below : goal.returns-in_ok-document-in-Some-clause-below
returns-in_ok-document-in-Some-clause-below c =
    stays-below c.args.first.number (Insert c.args.path.now c.args.body.now) c.args.document.now
    (Ok (record { document = c.in_ok-document-in-Some.document; next = c.in_ok-built-in-Some.built.next })) c.requires
    (returns-in_ok-document-in-Some-clause-edit c)
