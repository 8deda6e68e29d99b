use Rattle.std.proofs.Common.{◌≡◌, drop}
use Rattle.spec_touch.specs.Plain.{is_mode_among}
use Rattle.xt_touch.proofs.modes.is_among.Given as goal

abbrev pub invariant-loop-other : goal.invariant-loop-other
invariant-loop-other l = is_mode_among (drop l.other-index l.modes) l.mode ≡ is_mode_among l.modes l.mode
