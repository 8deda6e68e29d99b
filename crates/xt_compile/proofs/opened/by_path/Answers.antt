use Rattle.std.proofs.Common.{List, [], ◌∷◌, ◌++◌, ap, sym, subst, append_assoc, ◌∙◌}
use Rattle.std.proofs.lemmas.List.{map-append}
use Rattle.spec_compile.specs.Unit as unit
use Rattle.xt_top_level.specs.View.{top_level_in, top_levels_in}
use Rattle.xt_top_level.specs.declared.top_level.TopLevel.{TopLevel}
use Rattle.xt_compile.specs.Opened.{IsOpened}
use Rattle.xt_compile.proofs.opened.by_path.Goals as goal

pub loop-top_level-preserved : goal.loop-top_level-preserved
loop-top_level-preserved c =
    let i = c.loop-top_level.invariant in
    let t = c.in-Some.top_level in
    let left = c.next.new.self.rest.items in (
      i.0 ++ t ∷ [],
      append_assoc i.0 (t ∷ []) left ∙ ap (λ (ts : List TopLevel). i.0 ++ ts) (sym (c.in-Some.ensures {u = tt}).steps.0) ∙ i.1,
      subst (λ (ts : List unit.TopLevel). IsOpened ts c.add.new.opened.entries) (sym (map-append top_level_in i.0 (t ∷ [])))
          ((c.in-Ok.ensures {u = tt}) (top_levels_in i.0) i.2),
    )
