use Rattle.std.proofs.Common.{List, map, sym, subst}
use Rattle.spec_stylesheet.specs.Sheet as sheet
use Rattle.xt_scoping.specs.View.{ranked_in}
use Rattle.xt_rank.specs.Rank.{AreNumbered}
use Rattle.xt_compile.proofs.Declaring.{numbered}
use Rattle.xt_compile.proofs.declared.sheet_of.Goals as goal

pub in_rank-requires : goal.in_rank-requires
in_rank-requires c =
    subst (λ (rs : List sheet.Rule). AreNumbered 0 rs) (sym (c.in_ok-declared.ensures {u = tt}).rules) (numbered 0 0 (map ranked_in c.args.ranked.items))
