use Rattle.std.proofs.Common.{refl, sym, subst}
use Rattle.spec_meaning.specs.Question.{Name, Text, local_in, text_in}
use Rattle.spec_run.specs.Plan.{Inquire}
use Rattle.spec_run.specs.Passes.{Passes, stays}
use Rattle.xt_names.specs.View.{Entry}
use Rattle.xt_questions.specs.View.{answer_of}
use Rattle.xt_progress.specs.View.{going_of}
use Rattle.xt_instructions.proofs.Asked.{asked_more}
use Rattle.xt_instructions.proofs.namespaces.read_namespace.Goals as goal

pub returns-clause-passes : goal.returns-clause-passes
returns-clause-passes g c hand room k =
    let truth = (g.W.World.state c.args.world.now).truth in
    let n = c.args.node in
    let one = asked_more {q = Name n} {next = λ name. Inquire (Text n) (λ uri. k (local_in name, text_in uri))} refl c.in_ok-called.ensures.answer c.in_ok-called.ensures.noted stays in
    let two = asked_more {q = Text n} {next = λ uri. k (local_in (answer_of c.in_ok-called.called), text_in uri)} c.ask.ensures.truth c.in_ok-told.ensures.answer c.in_ok-told.ensures.noted one in
    let P : Entry → Type 0 = λ e. Passes truth hand room (Inquire (Name n) (λ name. Inquire (Text n) (λ uri. k (local_in name, text_in uri)))) (going_of c.args.going.now) (k e) (going_of c.ask-2.new.self) in
    subst P (λ i. (sym c.in_ok-prefix.ensures i, sym c.into_text.ensures i)) two
