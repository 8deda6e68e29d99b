use Rattle.std.proofs.Common.{List, subst}
use Rattle.xt_scoping.specs.View.{ranked_in}
use Rattle.xt_scoping.specs.declared.violation.Ranked.{Ranked}
use Rattle.xt_compile.proofs.Declaring.{Adds, Goes, goes_on}
use Rattle.xt_compile.proofs.declared.declared_by.Goals as goal

pub loop-ranked-preserved : goal.loop-ranked-preserved
loop-ranked-preserved c =
    let e = c.in-Ok.ensures {u = tt} in
    let adds : Adds c.loop-ranked.declared c.declare.new.declared (ranked_in c.in-Some.ranked)
    = record { units = e.units; rules = e.rules; space_rules = e.space_rules; method = e.method; aliases = e.aliases } in
    goes_on c.loop-ranked.declared c.declare.new.declared c.in-Some.ranked c.next.new.self.rest.items c.args.ranked.items adds
    (subst (λ (left : List Ranked). Goes c.loop-ranked.declared left c.args.ranked.items) (c.in-Some.ensures {u = tt}).steps.0 c.loop-ranked.invariant)
