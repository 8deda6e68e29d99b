use Rattle.std.proofs.Common.{refl, sym, ap, ◌∙◌, arith}
use Rattle.spec_document.specs.declared.kind.Kind.TheVariants as kind
use Rattle.spec_run.specs.Plan.{End}
use Rattle.spec_run.specs.Content.{kind_in}
use Rattle.xt_frames.specs.declared.run.Run.{Run}
use Rattle.xt_frames.specs.declared.run.Next.TheVariants.{Went}
use Rattle.xt_frames.proofs.Lefts.{if_ok}
use Rattle.xt_runner.proofs.Starts.{built_in_does, nothing_does, comes_in}
use Rattle.xt_runner.proofs.start.begin_built_in.Goals as goal

pub returns-in-Root-clause-does : goal.returns-in-Root-clause-does
returns-in-Root-clause-does g c =
    let truth = (g.W.World.state c.args.world.now).truth in
    let r = c.args.run.now in
    let mid : Run = record { room = r.room; supplies = r.supplies; waiting = r.waiting; frames = r.frames; going = c.ask.new.self; did = r.did } in
    let low = c.leave_nothing.new.run in
    if_ok c.apply_to_children.result c.apply_to_children.ensures.does (λ next h.
    built_in_does truth c.args.mode c.args.node kind.Root r mid low c.apply_to_children.new.run next (sym c.in-Root.is ∙ c.kind_in-kind.ensures ∙ ap kind_in c.in_ok-answer.ensures.answer) c.in_ok-answer.ensures.noted refl refl c.leave_nothing.ensures.begun (comes_in c.ask.ensures.truth h))

pub returns-in-Element-clause-does : goal.returns-in-Element-clause-does
returns-in-Element-clause-does g c =
    let truth = (g.W.World.state c.args.world.now).truth in
    let r = c.args.run.now in
    let mid : Run = record { room = r.room; supplies = r.supplies; waiting = r.waiting; frames = r.frames; going = c.ask.new.self; did = r.did } in
    let low = c.leave_nothing.new.run in
    if_ok c.apply_to_children-in-Element.result c.apply_to_children-in-Element.ensures.does (λ next h.
    built_in_does truth c.args.mode c.args.node kind.Element r mid low c.apply_to_children-in-Element.new.run next (sym c.in-Element.is ∙ c.kind_in-kind.ensures ∙ ap kind_in c.in_ok-answer.ensures.answer) c.in_ok-answer.ensures.noted refl refl c.leave_nothing.ensures.begun (comes_in c.ask.ensures.truth h))

pub returns-in-Attribute-clause-does : goal.returns-in-Attribute-clause-does
returns-in-Attribute-clause-does g c =
    let truth = (g.W.World.state c.args.world.now).truth in
    let r = c.args.run.now in
    let mid : Run = record { room = r.room; supplies = r.supplies; waiting = r.waiting; frames = r.frames; going = c.ask.new.self; did = r.did } in
    let low = c.leave_nothing.new.run in
    if_ok c.put_text.result c.put_text.ensures.does (λ next h.
    built_in_does truth c.args.mode c.args.node kind.Attribute r mid low c.put_text.new.run next (sym c.in-Attribute.is ∙ c.kind_in-kind.ensures ∙ ap kind_in c.in_ok-answer.ensures.answer) c.in_ok-answer.ensures.noted refl refl c.leave_nothing.ensures.begun (comes_in c.ask.ensures.truth h))

pub returns-in-Text-clause-does : goal.returns-in-Text-clause-does
returns-in-Text-clause-does g c =
    let truth = (g.W.World.state c.args.world.now).truth in
    let r = c.args.run.now in
    let mid : Run = record { room = r.room; supplies = r.supplies; waiting = r.waiting; frames = r.frames; going = c.ask.new.self; did = r.did } in
    let low = c.leave_nothing.new.run in
    if_ok c.put_text-in-Text.result c.put_text-in-Text.ensures.does (λ next h.
    built_in_does truth c.args.mode c.args.node kind.Text r mid low c.put_text-in-Text.new.run next (sym c.in-Text.is ∙ c.kind_in-kind.ensures ∙ ap kind_in c.in_ok-answer.ensures.answer) c.in_ok-answer.ensures.noted refl refl c.leave_nothing.ensures.begun (comes_in c.ask.ensures.truth h))

pub returns-in-Namespace-clause-does : goal.returns-in-Namespace-clause-does
returns-in-Namespace-clause-does g c =
    let truth = (g.W.World.state c.args.world.now).truth in
    let r = c.args.run.now in
    let mid : Run = record { room = r.room; supplies = r.supplies; waiting = r.waiting; frames = r.frames; going = c.ask.new.self; did = r.did } in
    let low = c.leave_nothing.new.run in
    built_in_does truth c.args.mode c.args.node kind.Namespace r mid low low Went (sym c.in-Namespace.is ∙ c.kind_in-kind.ensures ∙ ap kind_in c.in_ok-answer.ensures.answer) c.in_ok-answer.ensures.noted refl refl c.leave_nothing.ensures.begun (nothing_does truth End 1 low (omega arith) refl c.leave_nothing.ensures.none)

pub returns-in-Comment-clause-does : goal.returns-in-Comment-clause-does
returns-in-Comment-clause-does g c =
    let truth = (g.W.World.state c.args.world.now).truth in
    let r = c.args.run.now in
    let mid : Run = record { room = r.room; supplies = r.supplies; waiting = r.waiting; frames = r.frames; going = c.ask.new.self; did = r.did } in
    let low = c.leave_nothing.new.run in
    built_in_does truth c.args.mode c.args.node kind.Comment r mid low low Went (sym c.in-Comment.is ∙ c.kind_in-kind.ensures ∙ ap kind_in c.in_ok-answer.ensures.answer) c.in_ok-answer.ensures.noted refl refl c.leave_nothing.ensures.begun (nothing_does truth End 1 low (omega arith) refl c.leave_nothing.ensures.none)

pub returns-in-Instruction-clause-does : goal.returns-in-Instruction-clause-does
returns-in-Instruction-clause-does g c =
    let truth = (g.W.World.state c.args.world.now).truth in
    let r = c.args.run.now in
    let mid : Run = record { room = r.room; supplies = r.supplies; waiting = r.waiting; frames = r.frames; going = c.ask.new.self; did = r.did } in
    let low = c.leave_nothing.new.run in
    built_in_does truth c.args.mode c.args.node kind.Instruction r mid low low Went (sym c.in-Instruction.is ∙ c.kind_in-kind.ensures ∙ ap kind_in c.in_ok-answer.ensures.answer) c.in_ok-answer.ensures.noted refl refl c.leave_nothing.ensures.begun (nothing_does truth End 1 low (omega arith) refl c.leave_nothing.ensures.none)
