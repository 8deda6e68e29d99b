use Rattle.std.proofs.Common.{refl, rules, ◌≡◌, []}
use Rattle.xt_frames.specs.declared.run.Run.{Run}
use Rattle.xt_frames.proofs.Lefts.{if_ok}
use Rattle.xt_frames.proofs.Frames.{from_popped}
use Rattle.xt_runner.proofs.Onwards.{steps_none}
use Rattle.xt_runner.proofs.step.step.Goals as goal

pub returns-in-None-clause-does : goal.returns-in-None-clause-does
returns-in-None-clause-does g c =
    let r = c.args.run.now in
    let new : Run = record { room = r.room; supplies = r.supplies; waiting = r.waiting; frames = c.pop.new.self; going = r.going; did = r.did } in
    let none : r.frames.items ≡ [] = search rules in
    steps_none (g.W.World.state c.args.world.now).truth r new none refl refl refl

pub returns-in-Some-clause-does : goal.returns-in-Some-clause-does
returns-in-Some-clause-does g c =
    let truth = (g.W.World.state c.args.world.now).truth in
    let r = c.args.run.now in
    let mid : Run = record { room = r.room; supplies = r.supplies; waiting = r.waiting; frames = c.pop.new.self; going = r.going; did = r.did } in
    if_ok c.go_on.result c.go_on.ensures.does (λ next h.
    from_popped truth r mid c.go_on.new.run c.in-Some.frame next c.in-Some.ensures.items refl refl refl h)
