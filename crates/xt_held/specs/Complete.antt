-- What a run keeps for the next one.
--     Completes     what a run in a setting came to, and which records it kept
--     KeepsFor      what is left of it, whether it was refused or not
--     KeepsWhere    the same where modules are run, and else nothing
use Rattle.std.specs.Prelude.{ℕ, ◌≡◌, Option, None, Some}
use Rattle.spec_document.specs.Forest.{Document}
use Rattle.spec_run.specs.Documents.{Parameters}
use Rattle.spec_run.specs.Meaning.{Setting, run_of}
use Rattle.spec_run.specs.Plan.{Refused as Refusal}
use Rattle.spec_cost.specs.Paying.{KeepsRun}
use Rattle.spec_node.specs.declared.node_ref.NodeRef.{NodeRef}
use Rattle.xt_record.specs.declared.pool.Pool.{Pool}
use Rattle.xt_driver.specs.View.{whole_of}
use Rattle.xt_driver.specs.declared.whole.Whole.{Whole}
use Rattle.xt_held.specs.Cost.{kept_among, setting_seen}
use Rattle.xt_held.specs.declared.last_run.Kept.{Kept}
use Rattle.xt_held.specs.declared.stylesheet.Compiled.{Compiled}
use Rattle.xt_held.specs.declared.stylesheet.Compiled.TheVariants.{Stylesheet, Refused}

-- this is what the run in the setting comes to; of each of its instantiations that comes to its end one of these records would be taken, and each is of
-- the unit and the node of one
pub record Completes (s : Setting NodeRef) (whole : Whole) (records : Pool) : Type 0 where
  pub is : whole_of whole ≡ run_of s
  pub keeps : KeepsRun s (kept_among records)

-- nothing of a run that is refused, and the records of any other
abbrev pub KeepsFor : Option Refusal → Setting NodeRef → Option Kept → Type 0
KeepsFor None s None = ⊥
KeepsFor None s (Some kept) = KeepsRun s (kept_among kept.records)
KeepsFor (Some why) s None = Unit {0}
KeepsFor (Some why) s (Some kept) = ⊥

-- of a run of modules that are this, with these parameters and this source; where there is none, nothing is kept
abbrev pub KeepsWhere : Option Compiled → Parameters → Option (Document ℕ) → Option Kept → Type 0
KeepsWhere None parameters source kept = kept ≡ None
KeepsWhere (Some (Refused why)) parameters source kept = kept ≡ None
KeepsWhere (Some (Stylesheet held rules method)) parameters None kept = kept ≡ None
KeepsWhere (Some (Stylesheet held rules method)) parameters (Some source) kept =
    KeepsFor (run_of (setting_seen held rules parameters source)).refusal (setting_seen held rules parameters source) kept
