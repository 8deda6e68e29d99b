-- What was refused on the way along a record that does not serve, and what is said of a call that was served or not.
use Rattle.std.specs.Prelude.{◌≡◌, ℕ, ◌-◌, List, Bool, true, false, ◌&&◌, nat_eq}
use Rattle.spec_document.specs.Name.{Expanded, same_name}
use Rattle.spec_stylesheet.specs.Place.{Place}
use Rattle.spec_run.specs.Plan.{Call}
use Rattle.spec_run.specs.Meaning.{Setting, Past, referred, meaning}
use Rattle.spec_run.specs.World.{same_element}
use Rattle.spec_node.specs.declared.node_ref.NodeRef.{NodeRef}
use Rattle.xt_syntax.specs.PartView.{place_of}
use Rattle.xt_engine.specs.View.{refused_of}
use Rattle.xt_engine.specs.declared.turn.Entered.{Entered}
use Rattle.xt_engine.specs.declared.turn.Entered.TheVariants as entered
use Rattle.xt_driver.specs.declared.drive.Served.{Served}
use Rattle.xt_driver.specs.declared.drive.Served.TheVariants as served
use Rattle.xt_driver.specs.declared.level.Needed.{Needed}
use Rattle.xt_driver.specs.declared.lost.LostReference.{LostReference}
use Rattle.xt_driver.specs.declared.lost.Lost.{Lost}
use Rattle.xt_driver.specs.declared.lost.Lost.TheVariants as lost
use Rattle.xt_driver.specs.declared.memo.Referred.{Referred}
use Rattle.xt_driver.specs.View.{outcome_of, Gives}
use Rattle.xt_driver.specs.Remembered.{Entry, Lasts}
use Rattle.xt_driver.specs.Along.{refuses}

-- ---- What was refused

-- it came to what it means, which is a refusal
abbrev pub IsLost : Setting NodeRef → Past NodeRef → Lost → Type 0
IsLost s past lost.Nothing = Unit {0}
IsLost s past (lost.Reference l) =
    Gives l.value.referred.value.entered (place_of l.value.needed.value.place) (referred s (meaning s l.value.levels) past l.value.needed.value.name 0 (place_of l.value.needed.value.place))
    × (refuses l.value.referred.value.entered ≡ true)

abbrev pub IsRefusal : Lost → Type 0
IsRefusal lost.Nothing = Unit {0}
IsRefusal (lost.Reference l) = refuses l.value.referred.value.entered ≡ true

-- whether a reference is to the global that was lost, from the same element and with as many levels left
abbrev pub is_to : LostReference → Expanded → ℕ → Place → Bool
is_to l name levels place = nat_eq l.levels levels && same_name l.needed.value.name name && same_element (place_of l.needed.value.place) place

abbrev pub is_lost : Lost → Expanded → ℕ → Place → Bool
is_lost lost.Nothing name levels place = false
is_lost (lost.Reference l) name levels place = is_to l.value name levels place

-- ---- What comes of it again

-- the same refusal
abbrev pub IsGivenAgain : (before again : Entered) → Type 0
IsGivenAgain (entered.Refused why content) (entered.Refused because other) = refused_of because ≡ refused_of why
IsGivenAgain _ _ = ⊥

-- to a reference to this global, with so many levels left
pub record IsNeededAgain (l : LostReference) (needed : Needed) (levels : ℕ) (r : Referred) : Type 0 where
  pub name : l.needed.value.name ≡ needed.name
  pub place : place_of l.needed.value.place ≡ place_of needed.place
  pub levels_are : l.levels ≡ levels
  pub again : IsGivenAgain l.referred.value.entered r.entered

abbrev pub IsOfReference : Lost → Needed → ℕ → Referred → Type 0
IsOfReference lost.Nothing needed levels r = ⊥
IsOfReference (lost.Reference l) needed levels r = IsNeededAgain l.value needed levels r

-- ---- Whether a call is served

-- where it is served it comes to what it means, here and wherever what is remembered holds, with the levels to spare left out; where it is not, what
-- was lost on the way is what it means
abbrev pub IsServed : Served → Setting NodeRef → Past NodeRef → (levels : ℕ) → List (Entry NodeRef) → Call NodeRef → Type 0
IsServed (served.As o) s past levels all c = (outcome_of o.value ≡ meaning s levels past 0 c) × Lasts s past (levels - o.value.spare) all c (outcome_of o.value)
IsServed (served.Not l) s past levels all c = IsLost s past l
