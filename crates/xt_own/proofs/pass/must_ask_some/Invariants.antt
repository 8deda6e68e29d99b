use Rattle.std.proofs.Common.{◌≡◌, drop}
use Rattle.std.specs.List.{list_any}
use Rattle.spec_touch.specs.Marks.{any_asks}
use Rattle.xt_touch.specs.View.{since_of}
use Rattle.xt_spared.specs.View.{questions_of}
use Rattle.xt_own.proofs.pass.must_ask_some.Given as goal

abbrev pub invariant-loop-question : goal.invariant-loop-question
invariant-loop-question l = record {
  left : list_any (any_asks (since_of l.since)) (questions_of (drop l.question-index l.questions)) ≡ list_any (any_asks (since_of l.since)) (questions_of l.questions);
}
