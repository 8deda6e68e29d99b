-- What outcomes stand for, and what goes with them.
use Rattle.std.specs.Prelude.{ℕ, ◌≡◌, Bool, true, false, List, [], Option, None, Some}
use Rattle.std.specs.Option.{is_some, option_map}
use Rattle.spec_document.specs.Forest.{Plain, Document}
use Rattle.spec_expression.specs.declared.code.Code.{Code}
use Rattle.spec_expression.specs.declared.code.Code.TheVariants.{Static, Dynamic}
use Rattle.spec_run.specs.Outcome as spec
use Rattle.xt_syntax.specs.PartView.{place_of}
use Rattle.xt_import.specs.View.{plain_of}
use Rattle.spec_touch.specs.Marks.{WorldChange}
use Rattle.xt_held.specs.declared.counts.Counts.{Counts}
use Rattle.xt_held.specs.declared.last_run.Kept.{Kept}
use Rattle.xt_held.specs.declared.outcome.Came.{Came}
use Rattle.xt_held.specs.declared.outcome.Outcome.{Outcome}
use Rattle.xt_held.specs.declared.outcome.Outcome.TheVariants as outcomes
use denote.Ref.{Bor}

-- the tree of a document that may be there
abbrev pub plain_in : Option (Bor (Document ℕ)) → Option Plain
plain_in document = option_map (λ d. plain_of d.now) document

abbrev pub outcome_of : Outcome → spec.Outcome
outcome_of (outcomes.Done result method messages) = spec.Done result method messages.items
outcome_of (outcomes.Refused code place messages) = spec.Failed (record { code = code; place = place_of place }) messages.items

-- ---- What a run leaves to the next, and what it took

-- what it takes to run nothing
abbrev pub no_counts : Counts
no_counts = record { ran = 0; asked = 0; did = 0 }

abbrev pub is_done : spec.Outcome → Bool
is_done (spec.Done result method messages) = true
is_done (spec.Failed why messages) = false

-- where there is no stylesheet, or no source, nothing is run
abbrev pub IsFreeAt : Code → Counts → Type 0
IsFreeAt (Static code) counts = counts ≡ no_counts
IsFreeAt (Dynamic code) counts = Unit {0}

abbrev pub IsFreeFor : spec.Outcome → Counts → Type 0
IsFreeFor (spec.Done result method messages) counts = Unit {0}
IsFreeFor (spec.Failed why messages) counts = IsFreeAt why.code counts

-- what the run kept is there where it ended with a result, and only there; and what was not run took nothing
pub record Fits (came : Came) : Type 0 where
  pub kept : is_some came.kept ≡ is_done (outcome_of came.outcome)
  pub counts : IsFreeFor (outcome_of came.outcome) came.counts

-- what changed since the last run that ended with a result: nothing after such a run
abbrev pub since_after : (kept : Option Kept) → List WorldChange → List WorldChange
since_after None changes = changes
since_after (Some kept) changes = []
