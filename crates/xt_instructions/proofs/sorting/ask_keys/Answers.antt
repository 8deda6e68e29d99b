use Rattle.std.proofs.Common.{refl, ap, ◌∙◌}
use Rattle.xt_frames.specs.declared.frame.Sorting.{Sorting}
use Rattle.xt_instructions.specs.Asks.{with_rows}
use Rattle.xt_instructions.proofs.Askings.{nothing_asked, asks_in, asks_then}
use Rattle.xt_instructions.proofs.sorting.ask_keys.Goals as goal

pub loop-alloc-init : goal.loop-alloc-init
loop-alloc-init g c = record { asks = nothing_asked _ _ _ _ (tt {0}); only = refl; truth = refl; name = refl }

pub loop-alloc-preserved : goal.loop-alloc-preserved
loop-alloc-preserved g c =
    let inv = c.loop-alloc.invariant in
    record {
      asks = asks_then inv.asks (asks_in inv.truth (rw c.in-Is.is at c.in_ok-ask_key.ensures.asks));
      only = c.in_ok-ask_key.ensures.only ∙ ap (λ (t : Sorting). with_rows t t.rows c.ask_key.new.sorting.values) inv.only;
      truth = c.ask_key.ensures.truth ∙ inv.truth;
      name = c.ask_key.ensures.name ∙ inv.name;
    }

pub returns-in-Halts-clause-asks : goal.returns-in-Halts-clause-asks
returns-in-Halts-clause-asks g c = let inv = c.loop-alloc.invariant in asks_then inv.asks (asks_in inv.truth (rw c.in-Halts.is at c.in_ok-ask_key.ensures.asks))

pub returns-in-Lacks-clause-asks : goal.returns-in-Lacks-clause-asks
returns-in-Lacks-clause-asks g c = let inv = c.loop-alloc.invariant in asks_then inv.asks (asks_in inv.truth (rw c.in-Lacks.is at c.in_ok-ask_key.ensures.asks))
