use Rattle.std.proofs.Common.{refl, ap, ◌∙◌}
use Rattle.spec_meaning.specs.Question.{text_in}
use Rattle.spec_run.specs.Going.{put}
use Rattle.xt_progress.specs.View.{going_of}
use Rattle.xt_frames.specs.declared.run.Run.{Run}
use Rattle.xt_frames.proofs.Whole.{view-Text}
use Rattle.xt_runner.proofs.Starts.{text_does}
use Rattle.xt_runner.proofs.start.put_text.Goals as goal

pub returns-clause-does : goal.returns-clause-does
returns-clause-does g c =
    let truth = (g.W.World.state c.args.world.now).truth in
    let r = c.args.run.now in
    let mid : Run = record { room = r.room; supplies = r.supplies; waiting = r.waiting; frames = r.frames; going = c.ask.new.self; did = r.did } in
    let new : Run = record { room = r.room; supplies = r.supplies; waiting = r.waiting; frames = r.frames; going = c.put.new.self; did = r.did } in
    text_does truth c.args.node c.into_text-text.result r mid new c.requires refl refl refl c.in_ok-answer.ensures.noted (c.into_text-text.ensures ∙ ap text_in c.in_ok-answer.ensures.answer)
    (c.in_ok-put.ensures ∙ ap (λ s. put s (going_of c.ask.new.self)) (view-Text c.into_text-text.result))
