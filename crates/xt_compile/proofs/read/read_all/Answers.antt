use Rattle.std.proofs.Common.{map, ap, sym, ◌∙◌}
use Rattle.std.proofs.lemmas.List.{map-append, nil_from_length}
use Rattle.xt_compile.proofs.Reading.{at_next, ends, exits_all, goes_on, stops}
use Rattle.xt_compile.specs.View.{said_in}
use Rattle.xt_compile.proofs.read.read_all.Goals as goal

pub loop-listed-preserved : goal.loop-listed-preserved
loop-listed-preserved c =
    goes_on (at_next (c.in-Some.ensures {u = tt}).steps.0 c.loop-listed.invariant) (c.in_ok-read.ensures {u = tt})
    (ap (map said_in) (c.in_ok-push.ensures {u = tt}).items ∙ map-append said_in c.loop-listed.said.items _)

pub returns-in_err-read : goal.returns-in_err-read
returns-in_err-read c = exits_all _ c.from_residual.ensures.1 (stops (at_next (c.in-Some.ensures {u = tt}).steps.0 c.loop-listed.invariant) c.in_err-read.ensures)

pub returns : goal.returns
returns c = record { so = ends (nil_from_length _ (sym c.loop-listed.listed-iterator.rest.ok.0 ∙ (c.in-None.ensures {u = tt}).steps.0)) c.loop-listed.invariant }
