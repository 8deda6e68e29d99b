use Rattle.std.proofs.Common.{◌≡◌, [], map, drop}
use Rattle.spec_run.specs.Meaning.{at_turn, run, root_call}
use Rattle.xt_engine.specs.View.{named_of}
use Rattle.xt_record.specs.Sure.{IsSure}
use Rattle.spec_reuse.specs.Instantiation.{entered_by_run}
use Rattle.spec_reuse.specs.Ledger.{AreOfRun}
use Rattle.xt_driver.specs.Counted.{hand_of, IsWithin}
use Rattle.xt_driver.proofs.Wholes.{CountedTurns}
use Rattle.xt_driver.specs.View.{held_of, setting_in}
use Rattle.xt_driver.specs.Remembered.{Remembers}
use Rattle.xt_driver.specs.Referring.{entries_of}
use Rattle.xt_driver.proofs.whole.run_in.Given as goal

abbrev pub invariant-loop-global : goal.invariant-loop-global
invariant-loop-global g l =
    let truth = (g.W.World.state l.fn.world).truth in
    let s = setting_in truth l.root l.named in
    record {
      same : run s l.levels (map named_of (drop l.global-index l.named)) (map held_of l.values.items) l.told.items (root_call s) ≡ run s l.levels s.globals [] [] (root_call s);
      remembers : Remembers s (at_turn (map held_of l.values.items)) (entries_of l.memo);
      turns : IsWithin l.fn.reuse → AreOfRun s (entered_by_run s l.levels s.globals [] (root_call s))
          → CountedTurns s l.levels (map named_of (drop l.global-index l.named)) (map held_of l.values.items) (root_call s)
          (entered_by_run s l.levels s.globals [] (root_call s)) (record { reuse = l.fn.reuse; entries = [] }) (hand_of l.reuse l.memo);
      sure : IsSure truth l.reuse;
      truth : (g.W.World.state l.world).truth ≡ truth;
      name : g.W.World.name l.world ≡ g.W.World.name l.fn.world;
      last : l.reuse.last ≡ l.fn.reuse.last;
      spared : l.reuse.spared ≡ l.fn.reuse.spared;
    }
