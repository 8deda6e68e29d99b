use Rattle.std.proofs.Common.{List, [], ◌∷◌, ◌++◌, map, reverse, ap, ◌∙◌, append-nil}
use Rattle.spec_run.specs.Meaning.{NamedGlobal}
use Rattle.spec_node.specs.declared.node_ref.NodeRef.{NodeRef}
use Rattle.xt_engine.specs.View.{named_of}
use Rattle.xt_engine.specs.declared.global.NamedGlobal as engine
use Rattle.xt_syntax.specs.SheetView.{unit_of}
use Rattle.xt_syntax.specs.declared.unit.Unit.{Unit}
use Rattle.xt_world.specs.Turned.{numbers_in, units_of}
use Rattle.xt_world.specs.Units.{global_before, globals_among, plain_units}
use Rattle.xt_world.proofs.Globals.{all_left, none_named, parted}
use Rattle.xt_world.proofs.stylesheet.globals.Goals as goal

pub loop-unit-init : goal.loop-unit-init
loop-unit-init c = (
  [],
  append-nil (units_of c.args.numbers.now),
  none_named _ c.new-later.ensures.empty,
  ap (λ (gs : List engine.NamedGlobal). map named_of (reverse gs)) c.new-list.ensures.items,
)

pub loop-unit-preserved : goal.loop-unit-preserved
loop-unit-preserved c =
    let i = c.loop-unit.invariant in
    let before = c.in-Some.before.now in
    let u = unit_of c.deref.result.now in
    let us = units_of c.args.numbers.now in
    let numbers = numbers_in c.args.numbers.now in (
      u ∷ i.0,
      ap (λ (v : Unit). plain_units before ++ unit_of v ∷ i.0) c.deref.ensures
          ∙ parted us c.loop-unit.left.now before i.0 c.in-Some.unit.now c.in-Some.ensures.cases.0 i.1,
      c.in_ok-add_global.ensures.later i.0 i.2,
      c.in_ok-add_global.ensures.list i.0 i.2 ∙ ap (λ (gs : List (NamedGlobal NodeRef)). global_before numbers u i.0 ++ gs) i.3,
    )

pub returns : goal.returns
returns c =
    let i = c.loop-unit.invariant in
    let us = units_of c.args.numbers.now in
    ap (map named_of) c.reverse.ensures.items ∙ i.3
    ∙ ap (globals_among (numbers_in c.args.numbers.now)) (all_left us c.loop-unit.left.now i.0 c.in_default.ensures.cases i.1)
