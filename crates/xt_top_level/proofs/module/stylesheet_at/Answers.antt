use Rattle.std.proofs.Common.{map}
use Rattle.xt_content.specs.View.{around_in}
use Rattle.xt_structure.specs.View.{in_force}
use Rattle.xt_tree.specs.View.{forest_of, written_of}
use Rattle.xt_top_level.proofs.Elements.{at_stylesheet}
use Rattle.xt_top_level.proofs.Steps.{answers_as, answers_stop, answers_then, exits}
use Rattle.xt_top_level.proofs.module.stylesheet_at.Goals as goal

pub returns-in_err-_entries : goal.returns-in_err-_entries
returns-in_err-_entries c =
    exits _ c.from_residual-in_err-_entries.ensures.1
    (answers_as (at_stylesheet c.args.name.now c.args.position (in_force c.args.inside) c.args.element (map written_of c.args.attributes.now) (forest_of c.args.children.now) c.in_ok-path.path
    (around_in c.in_ok-around.around) c.in_ok-path.ensures c.in_ok-around.ensures) (answers_stop _ c.in_err-_entries.ensures))

pub returns : goal.returns
returns c =
    answers_as (at_stylesheet c.args.name.now c.args.position (in_force c.args.inside) c.args.element (map written_of c.args.attributes.now) (forest_of c.args.children.now) c.in_ok-path.path
    (around_in c.in_ok-around.around) c.in_ok-path.ensures c.in_ok-around.ensures) (answers_then _ c.in_ok-_entries.ensures c.top_levels_among.ensures)
