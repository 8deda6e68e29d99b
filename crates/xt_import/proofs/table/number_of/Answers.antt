use Rattle.std.proofs.Common.{◌∙◌, ap, map, sym}
use Rattle.xt_import.specs.Table.{number_by}
use Rattle.xt_import.proofs.Rows.{place_by_characters}
use Rattle.xt_import.proofs.table.number_of.Goals as goal

pub returns-in-None : goal.returns-in-None
returns-in-None c =
    ap (number_by c.args.numbers.now)
    (sym c.in-None.is ∙ c.get_index_of.ensures.index ∙ place_by_characters c.args.name.now c.utf8.name (map (λ e. e.0) c.args.table.now.entries))

pub returns-in-Some : goal.returns-in-Some
returns-in-Some c =
    c.number_at.ensures
    ∙ ap (number_by c.args.numbers.now)
    (sym c.in-Some.is ∙ c.get_index_of.ensures.index ∙ place_by_characters c.args.name.now c.utf8.name (map (λ e. e.0) c.args.table.now.entries))
