-- What a run of what modules are has cost.
--     setting_on      what a run of a stylesheet is in, on a source of which all is seen
--     setting_seen    the same where rules for white space let the source be seen
--     Costs           what a run in a setting has cost
--     CostsRun        what it has cost where modules are run, and else nothing
use Rattle.std.specs.Prelude.{ℕ, ◌≡◌, List, length, map, min, Option, None, Some}
use Rattle.spec_document.specs.Forest.{Document}
use Rattle.spec_seen.specs.Seen.{seen}
use Rattle.spec_run.specs.Documents.{Parameters}
use Rattle.spec_run.specs.Meaning.{Setting}
use Rattle.spec_run.specs.Trail.{Kept}
use Rattle.spec_reuse.specs.Instantiation.{Instantiation}
use Rattle.spec_reuse.specs.Ledger.{AreCounted}
use Rattle.spec_node.specs.declared.node_ref.NodeRef.{NodeRef}
use Rattle.spec_cost.specs.Paying.{IsUnrecorded}
use Rattle.xt_syntax.specs.SheetView.{space_rules_of}
use Rattle.xt_syntax.specs.declared.space_rules.SpaceRules.{SpaceRules}
use Rattle.xt_world.specs.Numbered.{ref_to}
use Rattle.xt_world.specs.View.{truth_in}
use Rattle.xt_world.specs.declared.stylesheet.Stylesheet as world
use Rattle.xt_record.specs.declared.pool.Pool.{Pool}
use Rattle.xt_driver.specs.Counted.{kept_at, most_counted}
use Rattle.xt_driver.specs.View.{setting_in}
use Rattle.xt_held.specs.OutcomeView.{no_counts}
use Rattle.xt_held.specs.declared.counts.Counts.{Counts}
use Rattle.xt_held.specs.declared.stylesheet.Compiled.{Compiled}
use Rattle.xt_held.specs.declared.stylesheet.Compiled.TheVariants.{Stylesheet, Refused}

-- ---- What a run is in

-- the world of the stylesheet with these parameters and this source, its root, and the globals of the stylesheet
abbrev pub setting_on : world.Stylesheet → Parameters → Document ℕ → Setting NodeRef
setting_on held parameters source = setting_in (truth_in held parameters source) (ref_to source.root) held.globals.items

abbrev pub setting_seen : world.Stylesheet → SpaceRules → Parameters → Document ℕ → Setting NodeRef
setting_seen held rules parameters source = setting_on held parameters (seen (space_rules_of rules).rules source)

-- ---- What it has cost

-- what a run kept of each instantiation
abbrev pub kept_among : Pool → List (Kept NodeRef)
kept_among records = map kept_at records.records.items

-- What a run in this setting has cost, where these are the records that it was given. So many of its instantiations are counted: none of which one of the
-- records is found, each call once, and one of each unit and node that no record is of
pub record Costs (s : Setting NodeRef) (records : Pool) (counts : Counts) : Type 0 where
  pub list : List (Instantiation NodeRef)
  pub counted : AreCounted s (kept_among records) (IsUnrecorded (kept_among records)) list
  pub ran : counts.ran ≡ min (length list) most_counted

-- modules that are this, with these parameters and this source, have cost so much where they are run, and nothing where they are not
abbrev pub CostsRun : Option Compiled → Parameters → Option (Document ℕ) → Pool → Counts → Type 0
CostsRun None parameters source records counts = counts ≡ no_counts
CostsRun (Some (Refused why)) parameters source records counts = counts ≡ no_counts
CostsRun (Some (Stylesheet held rules method)) parameters None records counts = counts ≡ no_counts
CostsRun (Some (Stylesheet held rules method)) parameters (Some source) records counts =
    Costs (setting_seen held rules parameters source) records counts
