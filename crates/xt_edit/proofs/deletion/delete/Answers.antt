use Rattle.std.proofs.Common.{sym, arith}
use Rattle.std.specs.Prelude.{Ok}
use Rattle.std.proofs.lemmas.Result.{err_from_is_err_and}
use Rattle.spec_edit.specs.Edit.{Delete, deletes}
use Rattle.xt_edit.specs.Site.{spot_in}
use Rattle.xt_edit.proofs.Deleted.{deleted-is, without}
use Rattle.xt_edit.proofs.Stays.{stays, stays-below}
use Rattle.xt_edit.proofs.deletion.delete.Goals as goal

pub returns-in_err-site-clause-edit : goal.returns-in_err-site-clause-edit
returns-in_err-site-clause-edit c =
    let p = err_from_is_err_and c.from_residual.result c.from_residual.ensures.1 in
    rw (p.1, p.2) (c.in_err-site.ensures c.args.first.number (λ spot. deletes spot c.args.document.now))

pub take_out-requires-clause-stands : goal.take_out-requires-clause-stands
take_out-requires-clause-stands c =
    stays c.args.first.number (Delete c.args.path.now) c.args.document.now c.requires c.stand.ensures _
    (deleted-is c.args.first.number c.args.document.now c.args.path.now (spot_in c.in_ok-site.site.spot) c.in_ok-site.site.node.now c.in_ok-site.ensures
    (sym c.if-is_document_element.ensures))

pub returns-clause-edit : goal.returns-clause-edit
returns-clause-edit c = (
  without c.args.document.now (spot_in c.in_ok-site.site.spot),
  deleted-is c.args.first.number c.args.document.now c.args.path.now (spot_in c.in_ok-site.site.spot) c.in_ok-site.site.node.now c.in_ok-site.ensures
      (sym c.if-is_document_element.ensures),
  c.in_ok-document.ensures,
  omega arith,
)

pub returns-clause-below : goal.returns-clause-below
returns-clause-below c =
    stays-below c.args.first.number (Delete c.args.path.now) c.args.document.now (Ok (record { document = c.in_ok-document.document; next = c.args.first }))
    c.requires (returns-clause-edit c)
