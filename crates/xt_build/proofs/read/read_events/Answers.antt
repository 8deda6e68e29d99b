use Rattle.std.proofs.Common.{◌≡◌, ◌<◌, ◌+◌, ◌++◌, ℕ, List, length, map, sym, ◌∙◌, ap, append-nil}
use Rattle.std.proofs.lemmas.List.{map-append}
use Rattle.xt_build.specs.declared.read.Located.{Located}
use Rattle.xt_build.specs.declared.read.ReadLine.{ReadLine}
use Rattle.xt_build.specs.declared.read.ReadLine.TheVariants as read
use Rattle.xt_build.specs.View.{located_of, found_of}
use Rattle.xt_build.proofs.Reading.{read_as, line_fault, line_event, past_line, past_fault, fault_not_utf8, fault_bad, no_fault, no_fault-empty}
use Rattle.xt_build.proofs.Reading.{no_event-empty, one_event}
use Rattle.xt_build.proofs.read.read_events.Goals as goal
use Rattle.xt_build.proofs.read.read_events.Goals.{in-Empty, in-Event+in_ok-push-in-Event, in-NotUtf8, in-Bad}

pub loop-i-preserved : goal.loop-i-preserved
loop-i-preserved c =
    let l : c.loop-i.i < length c.args.body.now = c.loop-i-test.true in
    let n : ℕ = c.loop-i.i + 1 in
    let line : List ℕ = c.index-body-i.result in
    let before : List Located = c.loop-i.events.items in
    let known = λ (reading : ReadLine) (is : c.in_ok-read_line.field-0 ≡ reading). read_as c.as_bytes.result.now line c.in_ok-read_line.field-0 reading
    c.as_bytes.ensures is c.in_ok-read_line.ensures in
    elim c.match-branch-2.branch [
      | in-Empty w ↦
          let is = known read.Empty w.in-Empty.is in
          past_line _ _ before _ _ _ line l c.index-body-i.is c.loop-i.invariant (ap (line_fault n) is ∙ no_fault-empty n) w.found-is
          (ap (λ (events : _). map located_of events.items) w.events-is
          ∙ sym (ap (λ es. map located_of before ++ es) (ap (line_event n) is ∙ no_event-empty n) ∙ append-nil (map located_of before)))
      | in-Event+in_ok-push-in-Event w ↦
          let is = known (read.Event w.in-Event.event) w.in-Event.is in
          past_line _ _ before _ _ _ line l c.index-body-i.is c.loop-i.invariant (no_fault n line w.in-Event.event is.0 is.1) w.found-is
          (ap (λ (events : _). map located_of events.items) w.events-is ∙ ap (map located_of) w.in_ok-push-in-Event.ensures.items
          ∙ map-append located_of before _
          ∙ ap (λ es. map located_of before ++ es) (sym (one_event n line w.in-Event.event is.1)))
      | in-NotUtf8 w ↦
          let is = known read.NotUtf8 w.in-NotUtf8.is in
          past_fault _ _ before _ _ _ line _ l c.index-body-i.is c.loop-i.invariant (fault_not_utf8 n line is)
          (ap found_of w.found-is ∙ w.keep_least.ensures)
      | in-Bad w ↦
          let is = known read.Bad w.in-Bad.is in
          past_fault _ _ before _ _ _ line _ l c.index-body-i.is c.loop-i.invariant (fault_bad n line is.0 is.1)
          (ap found_of w.found-is ∙ w.keep_least-in-Bad.ensures)
    ]
