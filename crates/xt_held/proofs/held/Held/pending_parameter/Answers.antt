use Rattle.std.proofs.Common.{◌≡◌, ap, string_bytes, ◌∙◌}
use Rattle.std.specs.Str.{chars}
use Rattle.xt_touch.specs.View.{since_of}
use Rattle.xt_world.specs.ParameterView.{parameters_of, with_value}
use Rattle.xt_held.specs.RunView.{last_known}
use Rattle.xt_held.proofs.Giving.{kept_so, pending_so}
use Rattle.xt_held.proofs.Left.{kept_stays}
use Rattle.xt_held.proofs.held.Held.pending_parameter.Goals as goal

pub returns-clause-ok : goal.returns-clause-ok
returns-clause-ok c =
    let held = c.args.self.now in
    let what = last_known held.compiled held.last.before in
    let given = parameters_of held.parameters in
    let known = c.requires.current.serves in
    let name : chars (string_bytes c.in_ok-key.key) ≡ c.args.name.now = ap chars c.in_ok-key.ensures.ok ∙ c.as_str.ensures.characters in
    pending_so held c.reserve.new.self c.args.name.now c.args.value.now c.in_ok-key.key c.in_ok-kept.kept c.in-Ok.ensures.same name c.in_ok-kept.ensures
    c.requires.is_open c.in_ok-since.since c.requires.current
    (record {
      spared = kept_stays what what given (with_value c.args.name.now c.args.value.now given) held.source held.source (since_of held.last.since)
          (since_of c.in_ok-since.since) (c.in_ok-since.ensures.spared what given c.args.value.now held.source) held.last.kept known.answers known.answers known.spared;
      answers = known.answers;
      faultless = known.faultless;
    }) c.in-Ok.ensures.room

pub returns-clause-kept : goal.returns-clause-kept
returns-clause-kept c = kept_so c.args.self.now c.reserve.new.self c.in-Ok.ensures.same

pub returns-clause-tells : goal.returns-clause-tells
returns-clause-tells c = record { tells = λ told is. c.in_ok-since.ensures.told c.args.self.now.last.kept.records told is }
