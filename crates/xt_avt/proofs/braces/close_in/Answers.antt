use Rattle.std.proofs.Common.{sym, ◌∙◌}
use Rattle.xt_avt.proofs.Fronts.{none_of, empty_chars}
use Rattle.xt_avt.proofs.Cutting.{inside_on, inside_end}
use Rattle.xt_avt.proofs.braces.close_in.Goals as goal

pub loop-first-preserved : goal.loop-first-preserved
loop-first-preserved c =
    let b = c.in-Some.ensures {u = tt} in
    let on = inside_on c.loop-first.invariant.1 b (sym c.is_close.ensures ∙ c.if-is_close.false) in
    (b.utf8, rw c.quote_past-quote.ensures on)

pub returns-in-None : goal.returns-in-None
returns-in-None c = inside_end c.loop-first.invariant.1 (empty_chars c.loop-first.rest.now (none_of _ c.first_of.result c.first_of.ensures c.in-None.is))
