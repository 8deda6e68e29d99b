use Rattle.std.proofs.Common.{refl, sym, ap, ◌∙◌}
use Rattle.spec_document.specs.Name.{Expanded}
use Rattle.spec_meaning.specs.Question.{Answer, External}
use Rattle.spec_run.specs.Plan.{Plan, Inquire}
use Rattle.spec_run.specs.Content.{held, unless_given}
use Rattle.xt_syntax.specs.SheetView.{global_of}
use Rattle.spec_node.specs.declared.node_ref.NodeRef.{NodeRef}
use Rattle.xt_tree.specs.declared.value.Value.TheVariants as values
use Rattle.xt_frames.specs.declared.run.Run.{Run}
use Rattle.xt_frames.specs.declared.run.Next.TheVariants.{Gave}
use Rattle.xt_frames.specs.View.{here_of, global_left}
use Rattle.xt_frames.proofs.Lefts.{if_ok}
use Rattle.xt_runner.specs.Start.{unless_text}
use Rattle.xt_runner.proofs.Starts.{asks_first, gave}
use Rattle.xt_runner.proofs.Passed.{does_as, name_is}
use Rattle.xt_runner.proofs.start.begin_parameter.Goals as goal

pub returns-in-Some-clause-does : goal.returns-in-Some-clause-does
returns-in-Some-clause-does g c =
    let truth = (g.W.World.state c.args.world.now).truth in
    let r = c.args.run.now in
    let mid : Run = record { room = r.room; supplies = r.supplies; waiting = r.waiting; frames = r.frames; going = c.ask.new.self; did = r.did } in
    let own = held (global_of c.args.global.now).binding (here_of c.args.here) in
    let later : Answer NodeRef → Plan NodeRef = λ a. unless_given a own in
    let named = c.in_ok-name.ensures ∙ c.local.ensures ∙ ap (λ (n : Expanded). n.local) (name_is c.args.global.now.binding) in
    let is = ap later (sym c.in_ok-answer.ensures.answer) ∙ c.text_given.ensures own ∙ ap (λ t. unless_text t own) c.in-Some.is in
    does_as (ap (λ n. Inquire (External n) later) named)
    (asks_first truth (External c.in_ok-name.name) later 3 r mid mid (Gave (values.Text c.in-Some.text)) c.in_ok-answer.ensures.noted refl refl
    (gave truth _ 3 mid (values.Text c.in-Some.text) is))

pub returns-in-None-clause-does : goal.returns-in-None-clause-does
returns-in-None-clause-does g c =
    let truth = (g.W.World.state c.args.world.now).truth in
    let r = c.args.run.now in
    let mid : Run = record { room = r.room; supplies = r.supplies; waiting = r.waiting; frames = r.frames; going = c.ask.new.self; did = r.did } in
    let own = held (global_of c.args.global.now).binding (here_of c.args.here) in
    let later : Answer NodeRef → Plan NodeRef = λ a. unless_given a own in
    let named = c.in_ok-name.ensures ∙ c.local.ensures ∙ ap (λ (n : Expanded). n.local) (name_is c.args.global.now.binding) in
    let is = ap later (sym c.in_ok-answer.ensures.answer) ∙ c.text_given.ensures own ∙ ap (λ t. unless_text t own) c.in-None.is in
    let stands = ap (λ d. global_left d (here_of c.args.here)) c.requires.stands in
    if_ok c.begin_own.result c.begin_own.ensures (λ next h.
    does_as (ap (λ n. Inquire (External n) later) named)
    (asks_first truth (External c.in_ok-name.name) later 3 r mid c.begin_own.new.run next c.in_ok-answer.ensures.noted refl refl (does_as (stands ∙ sym is) (h truth))))
