use Rattle.std.proofs.Common.{map, Some, sym, ◌∙◌}
use Rattle.xt_content.specs.View.{around_in}
use Rattle.xt_tree.specs.View.{forest_of, written_of}
use Rattle.xt_top_level.proofs.Elements.{at_xslt}
use Rattle.xt_top_level.proofs.Steps.{answers_as}
use Rattle.xt_top_level.proofs.element.element_at.Goals as goal

pub returns : goal.returns
returns c =
    answers_as (at_xslt (around_in c.args.outer.now) (around_in c.in_ok-around.around) c.args.path.now c.in_ok-here-in-Some.here c.args.position c.args.name.now (map written_of c.args.attributes.now)
    (forest_of c.args.children.now) (Some c.in-Some.element) c.in_ok-around.ensures c.in_ok-here-in-Some.ensures (sym c.in-Some.is ∙ c.xslt_element.ensures)) c.declared_at.ensures
