use Rattle.std.proofs.Common.{ℕ, List, ap, subst, ◌∙◌}
use Rattle.std.specs.declared.rc.Rc.{Rc}
use Rattle.std.specs.Global.{Global}
use Rattle.std.proofs.lemmas.List.{length-map}
use Rattle.spec_stylesheet.specs.Sheet as sheet
use Rattle.xt_syntax.specs.SheetView.{unit_of}
use Rattle.xt_syntax.specs.declared.unit.Unit.{Unit}
use Rattle.xt_world.specs.PartsView.{AreParts}
use Rattle.xt_world.specs.Turned.{at_number, numbers_in}
use Rattle.xt_world.specs.Units.{plain_aliases, plain_units}
use Rattle.xt_world.specs.declared.stylesheet.Parts.{Parts}
use Rattle.xt_world.proofs.stylesheet.indexed.Goals as goal

pub returns : goal.returns
returns c =
    let parts : Parts = record {
      units = c.in_ok-units.units;
      elements = c.in_ok-elements.elements;
      turns = c.in_ok-turns.turns;
      globals = c.in_ok-globals.globals;
    } in
    let as_many = length-map c.in_ok-index.index.numbers.units.now (λ (u : Rc Unit Global). unit_of u.value) in
    subst (λ (us : List sheet.Unit). AreParts c.args.given.now (plain_aliases c.args.aliases.now) us parts) (ap plain_units c.in_ok-index.ensures.units)
    (record {
      numbers = numbers_in c.in_ok-index.index.numbers;
      naming = c.in_ok-index.ensures.naming;
      served = c.in_ok-index.ensures.given;
      units = c.in_ok-units.ensures;
      elements = c.in_ok-elements.ensures;
      turns = λ number. ap (λ (n : ℕ). at_number n c.in_ok-turns.turns.entries number) as_many ∙ c.in_ok-turns.ensures number;
      globals = c.in_ok-globals.ensures;
    })
