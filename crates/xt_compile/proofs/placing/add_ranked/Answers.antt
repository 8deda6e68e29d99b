use Rattle.std.proofs.Common.{List, ◌++◌, map, ap, sym, refl, ◌∙◌}
use Rattle.spec_compile.specs.Sheet as spec
use Rattle.xt_scoping.specs.View.{ranked_in}
use Rattle.xt_scoping.specs.declared.violation.Ranked.{Ranked}
use Rattle.xt_top_level.specs.View.{top_levels_in}
use Rattle.xt_top_level.specs.declared.top_level.TopLevel.{TopLevel}
use Rattle.xt_compile.proofs.Putting.{one_ranked}
use Rattle.xt_compile.proofs.placing.add_ranked.Goals as goal

pub loop-top_level-preserved : goal.loop-top_level-preserved
loop-top_level-preserved c =
    let precedence = c.args.precedence in
    let imported = c.args.imported in
    let left = c.next.new.self.rest.items in
    ap (λ (rs : List Ranked). map ranked_in rs ++ map (spec.ranked precedence imported) (top_levels_in left)) (c.in_ok-push.ensures {u = tt}).items
    ∙ one_ranked precedence imported c.loop-top_level.ranked.items c.in-Some.top_level left _ refl
    ∙ ap (λ (ts : List TopLevel). map ranked_in c.loop-top_level.ranked.items ++ map (spec.ranked precedence imported) (top_levels_in ts)) (sym (c.in-Some.ensures {u = tt}).steps.0)
    ∙ c.loop-top_level.invariant
