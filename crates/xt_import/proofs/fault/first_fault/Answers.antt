use Rattle.std.proofs.Common.{Option, None, subst, arith}
use Rattle.spec_expression.specs.declared.code.StaticCode.{StaticCode}
use Rattle.spec_structure.specs.Modules.{HasCode}
use Rattle.xt_import.specs.View.{modules_in}
use Rattle.xt_import.proofs.Standing.{at_end, goes_on, stands_among, stops}
use Rattle.xt_structure.specs.View.{link_in}
use Rattle.xt_import.proofs.fault.first_fault.Goals as goal

pub returns-in-Some : goal.returns-in-Some
returns-in-Some c there back =
    let modules = modules_in c.args.modules.now.entries in
    let among = stands_among c.args.links.now c.loop-link.link-index c.link-item.result (omega arith) c.link-item.is in
    let code =
    subst (λ (o : Option StaticCode). HasCode modules c.args.name.now (link_in c.link-item.result) o) c.in-Some.is
    (c.in_ok-link_code.ensures there (back (link_in c.link-item.result) among)) in
    c.loop-link.invariant there back _
    (stops modules c.args.name.now c.args.links.now c.loop-link.link-index c.link-item.result c.in-Some.code c.in_ok-path-in-Some.path (omega arith) c.link-item.is code
    c.in_ok-path-in-Some.ensures)

pub loop-link-preserved : goal.loop-link-preserved
loop-link-preserved c there back fault rest =
    let modules = modules_in c.args.modules.now.entries in
    let among = stands_among c.args.links.now c.loop-link.link-index c.link-item.result (omega arith) c.link-item.is in
    let code =
    subst (λ (o : Option StaticCode). HasCode modules c.args.name.now (link_in c.link-item.result) o) c.in-None.is
    (c.in_ok-link_code.ensures there (back (link_in c.link-item.result) among)) in
    c.loop-link.invariant there back fault
    (goes_on modules c.args.name.now c.args.links.now c.loop-link.link-index c.link-item.result fault (omega arith) c.link-item.is code rest)

pub returns : goal.returns
returns c there back =
    c.loop-link.invariant there back None
    (at_end (modules_in c.args.modules.now.entries) c.args.name.now c.args.links.now c.loop-link.link-index (omega arith))
