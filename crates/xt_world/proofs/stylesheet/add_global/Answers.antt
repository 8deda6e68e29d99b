use Rattle.std.proofs.Common.{◌≡◌, List, ◌∷◌, ◌++◌, map, not, reverse, ap, sym, ◌∙◌}
use Rattle.std.proofs.lemmas.Result.{on_ok_weaker}
use Rattle.spec_run.specs.Meaning.{NamedGlobal}
use Rattle.xt_syntax.specs.SheetView.{declared_of, global_of, unit_of}
use Rattle.xt_engine.specs.View.{named_of}
use Rattle.spec_node.specs.declared.node_ref.NodeRef.{NodeRef}
use Rattle.xt_world.specs.Numbered.{element_called}
use Rattle.xt_world.specs.Turned.{numbers_in}
use Rattle.xt_world.proofs.Globals.{hidden, is_later, last, one_named}
use Rattle.xt_world.proofs.stylesheet.add_global.Goals as goal

pub returns-then-not-is_last-clause-later : goal.returns-then-not-is_last-clause-later
returns-then-not-is_last-clause-later c rest named =
    one_named c.args.later.now.keys c.insert.new.self.keys (record { name = c.name_of-name.result }) (unit_of c.args.unit.now) rest
    (global_of c.in-Global.global) (ap declared_of c.in-Global.is) c.name_of-name.ensures c.in_ok-is_last-in-Global.ensures.updates.0 named

pub returns-else-not-is_last-clause-later : goal.returns-else-not-is_last-clause-later
returns-else-not-is_last-clause-later c =
    on_ok_weaker c.add_named.result (λ added rest named.
    one_named c.args.later.now.keys c.insert.new.self.keys (record { name = c.name_of-name.result }) (unit_of c.args.unit.now) rest
    (global_of c.in-Global.global) (ap declared_of c.in-Global.is) c.name_of-name.ensures c.in_ok-is_last-in-Global.ensures.updates.0 named) c.add_named.ensures

pub returns-then-not-is_last-clause-list : goal.returns-then-not-is_last-clause-list
returns-then-not-is_last-clause-list c rest named =
    let before = map named_of (reverse c.args.list.now.items) in
    let g = global_of c.in-Global.global in
    let there = is_later c.args.later.now.keys (record { name = c.name_of-name.result }) rest g c.in_ok-is_last-in-Global.is_last c.name_of-name.ensures named
    c.in_ok-is_last-in-Global.ensures.added ∙ ap not c.if-not-is_last.true in
    sym (ap (λ (gs : List (NamedGlobal NodeRef)). gs ++ before)
    (hidden (numbers_in c.args.numbers.now) (unit_of c.args.unit.now) rest g (ap declared_of c.in-Global.is) there))

pub returns-else-not-is_last-clause-list : goal.returns-else-not-is_last-clause-list
returns-else-not-is_last-clause-list c =
    let numbers = numbers_in c.args.numbers.now in
    let unit = unit_of c.args.unit.now in
    let before = map named_of (reverse c.args.list.now.items) in
    let g = global_of c.in-Global.global in
    let named_so : record { name = c.name_of-name.result.now; element = c.element_called-element.result } ∷ before
    ≡ record { name = g.binding.name; element = element_called numbers unit.site.place } ∷ before
    = λ i. record { name = c.name_of-name.ensures i; element = c.element_called-element.ensures i } ∷ before in
    on_ok_weaker c.add_named.result (λ added rest named.
    let gone = is_later c.args.later.now.keys (record { name = c.name_of-name.result }) rest g c.in_ok-is_last-in-Global.is_last c.name_of-name.ensures named
    c.in_ok-is_last-in-Global.ensures.added ∙ ap not c.if-not-is_last.false in
    added ∙ named_so ∙ ap (λ (gs : List (NamedGlobal NodeRef)). gs ++ before) (sym (last numbers unit rest g (ap declared_of c.in-Global.is) gone)))
    c.add_named.ensures
