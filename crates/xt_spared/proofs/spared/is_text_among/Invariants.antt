use Rattle.std.proofs.Common.{◌≡◌, drop}
use Rattle.xt_spared.specs.View.{is_text_among}
use Rattle.xt_spared.proofs.spared.is_text_among.Given as goal

abbrev pub invariant-loop-other : goal.invariant-loop-other
invariant-loop-other l = is_text_among l.text (drop l.other-index l.texts) ≡ is_text_among l.text l.texts
