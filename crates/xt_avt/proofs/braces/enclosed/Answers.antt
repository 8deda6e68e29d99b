use Rattle.std.proofs.Common.{ap, length, arith}
use Rattle.std.specs.Str.{chars}
use Rattle.std.proofs.lemmas.Str.{chars-nil}
use Rattle.xt_avt.proofs.Cutting.{encloses, encloses_some, unclosed}
use Rattle.xt_avt.proofs.braces.enclosed.Goals as goal

pub returns-in-Some : goal.returns-in-Some
returns-in-Some c h =
    let parts = c.in-Some.ensures {u = tt} in
    record {
      pieces = encloses c.in-Some.inside.now c.in-Some.rest.now (chars c.args.text.now) parts h;
      shorter = omega (arith, encloses_some c.in-Some.inside.now c.in-Some.rest.now (chars c.args.text.now) parts);
    }

pub returns-in-None : goal.returns-in-None
returns-in-None c h = record {
  pieces = unclosed (chars c.args.text.now) h (c.in-None.ensures {u = tt});
  shorter = omega (arith, ap length chars-nil);
}
