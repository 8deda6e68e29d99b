use Rattle.std.proofs.Common.{refl, ◌∙◌}
use Rattle.spec_run.specs.Passes.{stays}
use Rattle.xt_runner.proofs.Onwards.{Come, steps_in, come_went, onward_want, onward_needs, onward_done, onward_gave, onward_halt}
use Rattle.xt_runner.proofs.go.go.Goals as goal

pub loop-call-init : goal.loop-call-init
loop-call-init g c = record { passes = stays; room = refl; supplies = refl; truth = refl; name = refl }

pub loop-call-preserved : goal.loop-call-preserved
loop-call-preserved g c =
    let inv = c.loop-call.invariant in
    let come : Come (g.W.World.state c.args.world.now).truth c.args.run.now c.loop-call.run = record { passes = inv.passes; room = inv.room; supplies = inv.supplies } in
    let went = come_went come (steps_in inv.truth c.in-Went.is c.in_ok-step.ensures.does) in
    record { passes = went.passes; room = went.room; supplies = went.supplies; truth = c.step.ensures.truth ∙ inv.truth; name = c.step.ensures.name ∙ inv.name }

pub returns-in-Want-clause-onward : goal.returns-in-Want-clause-onward
returns-in-Want-clause-onward g c =
    let inv = c.loop-call.invariant in
    let come : Come (g.W.World.state c.args.world.now).truth c.args.run.now c.loop-call.run = record { passes = inv.passes; room = inv.room; supplies = inv.supplies } in
    onward_want c.in-Want.call c.in-Want.depth c.want.new.waiting c.in_ok-want-in-Want.field-0 come (steps_in inv.truth c.in-Want.is c.in_ok-step.ensures.does) c.in_ok-want-in-Want.ensures.wants c.in_ok-want-in-Want.ensures.waits

pub returns-in-Needs-clause-onward : goal.returns-in-Needs-clause-onward
returns-in-Needs-clause-onward g c =
    let inv = c.loop-call.invariant in
    let come : Come (g.W.World.state c.args.world.now).truth c.args.run.now c.loop-call.run = record { passes = inv.passes; room = inv.room; supplies = inv.supplies } in
    onward_needs c.in-Needs.name c.in-Needs.depth c.in-Needs.place c.need.new.waiting c.in_ok-need-in-Needs.field-0 come (steps_in inv.truth c.in-Needs.is c.in_ok-step.ensures.does) c.in_ok-need-in-Needs.ensures.wants c.in_ok-need-in-Needs.ensures.waits

pub returns-in-Done-clause-onward : goal.returns-in-Done-clause-onward
returns-in-Done-clause-onward g c =
    let inv = c.loop-call.invariant in
    let come : Come (g.W.World.state c.args.world.now).truth c.args.run.now c.loop-call.run = record { passes = inv.passes; room = inv.room; supplies = inv.supplies } in
    onward_done _ c.in_ok-finish-in-Done.field-0 come (steps_in inv.truth c.in-Done.is c.in_ok-step.ensures.does) c.in_ok-finish-in-Done.ensures

pub returns-in-Halt-clause-onward : goal.returns-in-Halt-clause-onward
returns-in-Halt-clause-onward g c =
    let inv = c.loop-call.invariant in
    let come : Come (g.W.World.state c.args.world.now).truth c.args.run.now c.loop-call.run = record { passes = inv.passes; room = inv.room; supplies = inv.supplies } in
    onward_halt _ c.in-Halt.why c.halt.result come (steps_in inv.truth c.in-Halt.is c.in_ok-step.ensures.does) c.halt.ensures

pub returns-in-Gave-clause-onward : goal.returns-in-Gave-clause-onward
returns-in-Gave-clause-onward g c =
    let inv = c.loop-call.invariant in
    let come : Come (g.W.World.state c.args.world.now).truth c.args.run.now c.loop-call.run = record { passes = inv.passes; room = inv.room; supplies = inv.supplies } in
    onward_gave _ c.in_ok-finish-in-Gave.field-0 c.in-Gave.value come (steps_in inv.truth c.in-Gave.is c.in_ok-step.ensures.does) c.in_ok-finish-in-Gave.ensures
