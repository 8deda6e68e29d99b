use Rattle.std.proofs.Common.{List, map, subst}
use Rattle.xt_engine.specs.View.{named_of}
use Rattle.xt_driver.specs.declared.memo.Remembered.{Remembered}
use Rattle.xt_driver.specs.View.{setting_of, past_of}
use Rattle.xt_driver.specs.Referring.{entry_of, entries_of}
use Rattle.xt_driver.specs.Turning.{RecallsTurn}
use Rattle.xt_driver.specs.Counted.{hand_of, IsOfTurn}
use Rattle.xt_driver.proofs.Turning.{turned_at_once, remembers_forgot}
use Rattle.xt_driver.proofs.Regaining.{some_of}
use Rattle.xt_driver.proofs.Coming.{on_all}
use Rattle.xt_driver.proofs.Wholes.{turn_recalled, turn_forgot}
use Rattle.xt_driver.proofs.whole.turn.Goals as goal

pub returns-in-Some-clause-turns : goal.returns-in-Some-clause-turns
returns-in-Some-clause-turns g c =
    let globals = c.args.globals.now in
    let s = setting_of (g.W.World.state c.args.world.now).truth globals in
    let P : List Remembered → Type 0 = λ es. RecallsTurn c.in_ok-known.known (named_of c.args.global.now) c.args.levels (map entry_of es) in
    turned_at_once c.in-Some.turned c.in_ok-known.known (named_of c.args.global.now) c.args.levels (entries_of c.args.memo.now) s (past_of globals) (subst P c.as_slice.ensures.value c.in_ok-known.ensures.recalls) c.in-Some.is c.requires.remembers

pub evaluated_at_turn-requires-clause-remembers : goal.evaluated_at_turn-requires-clause-remembers
evaluated_at_turn-requires-clause-remembers g c =
    let globals = c.args.globals.now in
    let s = setting_of (g.W.World.state c.args.world.now).truth globals in
    remembers_forgot s (past_of globals) c.args.global.now.name c.forget.ensures c.requires.remembers

pub returns-in-Some-clause-counts : goal.returns-in-Some-clause-counts
returns-in-Some-clause-counts g c =
    let globals = c.args.globals.now in
    let s = setting_of (g.W.World.state c.args.world.now).truth globals in
    let past = past_of globals in
    let n = named_of c.args.global.now in
    let levels = c.args.levels in
    let old = entries_of c.args.memo.now in
    let t = c.in-Some.turned in
    let P : List Remembered → Type 0 = λ es. RecallsTurn c.in_ok-known.known n levels (map entry_of es) in
    let turns = turned_at_once t c.in_ok-known.known n levels old s past (subst P c.as_slice.ensures.value c.in_ok-known.ensures.recalls) c.in-Some.is c.requires.remembers in
    let Q : List Remembered → Type 0 = λ es. IsOfTurn t n.element (map entry_of es) in
    let from = some_of (λ x. IsOfTurn x n.element (map entry_of c.as_slice.result.now)) c.in_ok-known.known t c.in-Some.is c.in_ok-known.ensures.found in
    turn_recalled s past n levels t old c.args.reuse.now (subst Q c.as_slice.ensures.value from) turns.turned.held

pub returns-in-None-clause-counts : goal.returns-in-None-clause-counts
returns-in-None-clause-counts g c =
    let globals = c.args.globals.now in
    let s = setting_of (g.W.World.state c.args.world.now).truth globals in
    on_all c.evaluated_at_turn.result c.evaluated_at_turn.ensures.counts (λ over.
    turn_forgot s (past_of globals) (named_of c.args.global.now) c.args.levels c.args.global.now.name (entries_of c.args.memo.now) (entries_of c.forget.new.memo)
    c.args.reuse.now (hand_of c.evaluated_at_turn.new.reuse c.evaluated_at_turn.new.memo) c.forget.ensures over)
