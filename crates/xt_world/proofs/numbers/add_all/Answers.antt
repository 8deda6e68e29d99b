use Rattle.std.proofs.Common.{arith, get_or, refl, subst, sym, take, ap, ◌∙◌}
use Rattle.xt_syntax.specs.PartView.{place_of}
use Rattle.xt_syntax.specs.SheetView.{unit_of}
use Rattle.xt_syntax.specs.declared.unit.Unit.{Unit}
use Rattle.xt_world.specs.Units.{plain_units}
use Rattle.xt_world.proofs.Given.{Gets, given_at, had_none, next_number}
use Rattle.xt_world.proofs.numbers.add_all.Goals as goal

pub returns-then-not-branch-clause-all : goal.returns-then-not-branch-clause-all
returns-then-not-branch-clause-all c meant are empty =
    let units = c.args.units.now in
    let turn = c.loop-turn.turn in
    let number = get_or c.args.given.now turn 0 in
    let is = given_at meant units c.args.given.now turn c.index-units-turn.result number 0 (omega arith) c.index-units-turn.is refl are
    ∙ ap (λ (u : Unit). meant (unit_of u).site.place) (sym c.deref.ensures) in
    sym c.if-not-branch.true ∙ c.in_ok-add.ensures.same
    ∙ had_none meant (plain_units (take turn units)) (place_of c.deref.result.now.site.place) number c.loop-turn.places.entries is
    (c.loop-turn.invariant meant are empty)

pub returns-then-not-branch-clause-numbers : goal.returns-then-not-branch-clause-numbers
returns-then-not-branch-clause-numbers c meant are empty =
    let units = c.args.units.now in
    let turn = c.loop-turn.turn in
    let number = get_or c.args.given.now turn 0 in
    let is = given_at meant units c.args.given.now turn c.index-units-turn.result number 0 (omega arith) c.index-units-turn.is refl are
    ∙ ap (λ (u : Unit). meant (unit_of u).site.place) (sym c.deref.ensures) in
    let other = sym c.if-not-branch.true ∙ c.in_ok-add.ensures.same
    ∙ had_none meant (plain_units (take turn units)) (place_of c.deref.result.now.site.place) number c.loop-turn.places.entries is
    (c.loop-turn.invariant meant are empty) in
    absurd (cc)

pub loop-turn-preserved : goal.loop-turn-preserved
loop-turn-preserved c meant are empty =
    let units = c.args.units.now in
    let turn = c.loop-turn.turn in
    let number = get_or c.args.given.now turn 0 in
    let is = given_at meant units c.args.given.now turn c.index-units-turn.result number 0 (omega arith) c.index-units-turn.is refl are in
    next_number meant units turn c.index-units-turn.result number c.loop-turn.places.entries c.add.new.places.entries (omega arith)
    c.index-units-turn.is is (c.loop-turn.invariant meant are empty)
    (subst (λ (u : Unit). Gets (unit_of u).site.place number c.loop-turn.places.entries c.add.new.places.entries) c.deref.ensures
    c.in_ok-add.ensures.added)
