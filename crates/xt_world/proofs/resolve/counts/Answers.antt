use Rattle.std.proofs.Common.{Option, None, ap, sym, ◌∙◌}
use Rattle.spec_document.specs.Name.{Expanded}
use Rattle.spec_stylesheet.specs.Sheet as sheet
use Rattle.spec_stylesheet.specs.Place.{Place}
use Rattle.spec_run.specs.World as definition
use Rattle.xt_syntax.specs.SheetView.{declared_of, unit_of}
use Rattle.xt_world.specs.Turned.{units_of}
use Rattle.xt_world.proofs.resolve.counts.Goals as goal

pub returns-in-Global : goal.returns-in-Global
returns-in-Global c =
    let us = units_of c.args.index.now.numbers in
    let unit = unit_of c.args.unit.now in
    let last = c.last_global-last.ensures ∙ ap (λ (name : Expanded). definition.last_element (definition.is_global name) None us) c.name_of.ensures in
    let is = ap (λ (d : sheet.Declared). definition.counts us (record unit { declared = d })) (ap declared_of c.in-Global.is) in
    c.is_last.ensures ∙ ap (λ (o : Option Place). definition.is_element unit.site.place o) last ∙ sym is
