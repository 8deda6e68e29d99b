use Rattle.std.proofs.Common.{Some}
use Rattle.xt_touch.specs.View.{since_of}
use Rattle.xt_world.specs.ParameterView.{parameters_of}
use Rattle.xt_held.specs.RunView.{last_known}
use Rattle.xt_held.proofs.Left.{kept_stays}
use Rattle.spec_cost.specs.Marking.{and_marks}
use Rattle.xt_held.specs.Marked.{known_in, source_marks}
use Rattle.xt_held.proofs.held.Held.outcome_with_source.Goals as goal

pub outcome_after-requires : goal.outcome_after-requires
outcome_after-requires c =
    let held = c.args.self.now in
    let what = last_known held.compiled held.last.before in
    let given = parameters_of held.parameters in
    let known = c.requires.known.last in
    record {
      spared = kept_stays what what given given held.source (Some c.args.document.now) (since_of held.last.since) (since_of c.in_ok-since.since) c.in_ok-since.ensures.spared
          held.last.kept known.answers known.answers known.spared;
      answers = known.answers;
      faultless = c.requires.faultless;
    }

pub returns-clause-asks : goal.returns-clause-asks
returns-clause-asks c = λ told is.
    let held = c.args.self.now in
    c.outcome_after.ensures.asks (and_marks told (source_marks (known_in held) c.args.origin held.source c.args.document.now))
    (c.in_ok-since.ensures.told told is)
