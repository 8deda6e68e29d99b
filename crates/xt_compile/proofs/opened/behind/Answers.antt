use Rattle.std.proofs.Common.{◌++◌, ap, sym, ◌∙◌}
use Rattle.std.proofs.lemmas.List.{map-append}
use Rattle.xt_top_level.specs.View.{top_level_in, top_levels_in}
use Rattle.xt_compile.specs.Opened.{kept_of}
use Rattle.xt_compile.proofs.opened.behind.Goals as goal

pub returns-in_ok-append-in-Some : goal.returns-in_ok-append-in-Some
returns-in_ok-append-in-Some c =
    ap top_levels_in (c.in_ok-append-in-Some.ensures {u = tt}).items ∙ map-append top_level_in c.in-Some.taken.items c.args.last.items
    ∙ ap (λ o. kept_of o ++ top_levels_in c.args.last.items) (sym c.in-Some.is)
