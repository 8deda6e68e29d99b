use Rattle.std.proofs.Common.{List, ap, subst, ◌∙◌}
use Rattle.std.specs.List.{filter}
use Rattle.std.specs.Str.{chars}
use Rattle.spec_compile.specs.Unit as unit
use Rattle.spec_compile.specs.Sheet.{is_at}
use Rattle.xt_top_level.specs.View.{top_levels_in}
use Rattle.xt_compile.specs.Opened.{IsLeft}
use Rattle.xt_compile.proofs.Opening.{opened_more}
use Rattle.xt_compile.proofs.Places.{all_found, all_left, still_left}
use Rattle.xt_compile.proofs.Stocked.{put_found}
use Rattle.xt_compile.proofs.placing.part_anew.Goals as goal

pub returns-clause-found : goal.returns-clause-found
returns-clause-found c said says placing =
    let path = c.args.part.now.path in
    let all = top_levels_in c.in_ok-top_levels.top_levels.items in
    c.or_none-found.ensures ∙ all_found path all c.in_ok-opened.opened.entries c.in-Ok.taken c.in-Ok.ensures.taken c.in_ok-opened.ensures
    ∙ ap (filter (is_at path)) (c.in_ok-top_levels.ensures.taken said says placing.stock)

pub returns-clause-stays : goal.returns-clause-stays
returns-clause-stays c said says placing =
    let path = c.args.part.now.path in
    let name = c.args.part.now.module_name in
    let es = c.args.placing.now.opened.entries in
    let new = c.insert.new.self.entries in
    let rest = c.take_at.new.opened in
    let all = top_levels_in c.in_ok-top_levels.top_levels.items in
    let left = still_left path all c.in_ok-opened.opened.entries rest.entries c.in-Ok.ensures.rest (all_left all c.in_ok-opened.opened.entries c.in_ok-opened.ensures) in
    let put = put_found es new c.in_ok-name.name name rest (ap chars c.in_ok-name.ensures.ok ∙ c.as_str.ensures.characters) (c.in_ok-insert.ensures {u = tt}).entries in
    record {
      stock = c.in_ok-top_levels.ensures.stays said placing.stock;
      opened = opened_more name said es new rest put
          (subst (λ (ts : List unit.TopLevel). IsLeft ts rest.entries) (c.in_ok-top_levels.ensures.taken said says placing.stock) left) placing.opened;
    }
