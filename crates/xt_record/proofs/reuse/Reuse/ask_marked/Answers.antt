use Rattle.std.proofs.Common.{◌<◌, Bor, List, Option, ap, arith, is_some, map, subst, ◌∙◌}
use Rattle.std.specs.Prelude.{IfSome}
use Rattle.xt_engine.specs.View.{event_of}
use Rattle.xt_engine.specs.declared.event.Event.{Event}
use Rattle.xt_record.specs.Asked.{NoneMarked, marked_in}
use Rattle.xt_record.specs.declared.record.Record.{Record}
use Rattle.xt_record.proofs.LastUnit.{found_none}
use Rattle.xt_questions.specs.declared.question.Question.{Question}
use Rattle.xt_touch.specs.View.{since_of}
use Rattle.xt_record.proofs.reuse.Reuse.ask_marked.Goals as goal

pub returns-in-None-clause-quiet : goal.returns-in-None-clause-quiet
returns-in-None-clause-quiet g c = λ none.
    let changes = since_of c.args.self.now.spared.now.since.now in
    let None : List Event → Type 0 = λ es. NoneMarked changes (map event_of es) in
    let NoneIn : Record → Type 0 = λ r. None r.ran.events.items in
    subst NoneIn c.deref.ensures (subst None c.as_slice.ensures.value
    (found_none c.first_marked.result (ap is_some c.in-None.is) c.first_marked.ensures.none))

pub returns-in_ok-answer-in-Some-clause-sure : goal.returns-in_ok-answer-in-Some-clause-sure
returns-in_ok-answer-in-Some-clause-sure g c =
    let sure = c.requires.sure in
    let changes = since_of c.args.self.now.spared.now.since.now in
    let Marked : Option (Bor Question) → Type 0
    = λ o. IfSome o (λ question. 0 < marked_in changes (map event_of c.as_slice.result.now)) in
    let marked = subst Marked c.in-Some.is c.first_marked.ensures.marked in
    let same = ap (λ es. marked_in changes (map event_of es)) c.as_slice.ensures.value ∙ ap (λ r. marked_in changes (map event_of r.ran.events.items)) c.deref.ensures in
    record {
      kept = sure.kept;
      judged = sure.judged;
      spared = sure.spared;
      counted = omega (arith, c.requires.left, same, marked);
      next = sure.next;
      grown = sure.grown;
      trees = sure.trees;
      ordered = sure.ordered;
    }
