use Rattle.std.proofs.Common.{◌≡◌, ℕ}
use Rattle.spec_document.specs.Forest.{Document}
use Rattle.spec_run.specs.Documents.{Parameters}
use Rattle.xt_spared.specs.View.{owns_of}
use Rattle.xt_world.specs.View.{truth_in}
use Rattle.xt_own.specs.Asking.{asked_in, asked_of}
use Rattle.xt_own.specs.View.{AllDecide}
use Rattle.xt_own.proofs.moved.add_from.Given as goal

abbrev pub invariant-loop-turn : goal.invariant-loop-turn
invariant-loop-turn l = record {
  same : asked_of l.choosing ≡ asked_of l.fn.choosing;
  decided : (parameters : Parameters) (document : Document ℕ) → asked_of l.fn.choosing ≡ asked_in l.stylesheet document
      → AllDecide l.stylesheet (truth_in l.stylesheet parameters document) (owns_of l.fn.choices)
      → AllDecide l.stylesheet (truth_in l.stylesheet parameters document) (owns_of l.choices);
}
