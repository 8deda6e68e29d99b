use Rattle.std.proofs.Common.{arith}
use Rattle.xt_avt.proofs.Fronts.{unequal}
use Rattle.xt_avt.proofs.Cutting.{character_first}
use Rattle.xt_avt.proofs.braces.begun.Goals as goal

pub returns : goal.returns
returns c = record {
  pieces = character_first c.args.first _ (unequal _ _ c.if-first-eq123.false) (unequal _ _ c.if-first-eq125.false);
  shorter = omega arith;
}
