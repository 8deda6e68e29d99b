use Rattle.std.proofs.Common.{ℕ, ◌≡◌, sym, subst}
use Rattle.std.specs.Prelude.{IfOk}
use Rattle.spec_document.specs.Forest.{Document}
use Rattle.xt_tree.specs.View.{forest_of}
use Rattle.xt_edit.specs.Site.{spot_in}
use Rattle.xt_edit.specs.Standing.{Stands}
use Rattle.xt_edit.proofs.Carried.{carried-is}
use Rattle.xt_edit.proofs.Stays.{out_stays}
use Rattle.xt_edit.proofs.carrying.carry.Goals as goal

pub take_out-requires-clause-stands : goal.take_out-requires-clause-stands
take_out-requires-clause-stands c =
    let site = c.args.ends.site in out_stays c.args.document.now (spot_in site.spot) site.node.now c.requires.before c.requires.stand.from

pub put_there-carried-requires-clause-stands : goal.put_there-carried-requires-clause-stands
put_there-carried-requires-clause-stands c =
    let is = carried-is c.args.document.now c.args.ends (forest_of c.args.nodes.now) c.fewer_by-fewer.result c.in_ok-left.left c.requires.stand.from
    c.in_ok-left.ensures c.fewer_by-fewer.ensures in
    subst Stands (sym is) c.requires.after

pub returns : goal.returns
returns c =
    let is = carried-is c.args.document.now c.args.ends (forest_of c.args.nodes.now) c.fewer_by-fewer.result c.in_ok-left.left c.requires.stand.from
    c.in_ok-left.ensures c.fewer_by-fewer.ensures in
    subst (λ (d : Document ℕ). IfOk c.put_there-carried.result (λ new. new ≡ d)) is c.put_there-carried.ensures
