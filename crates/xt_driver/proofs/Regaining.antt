-- What was lost on the way along a record, where it is met again.
use Rattle.std.proofs.Common.{◌≡◌, ℕ, ◌-◌, List, Option, Some, None, sym, ap, subst, ◌∙◌}
use Rattle.std.specs.Prelude.{IfSome}
use Rattle.spec_document.specs.Name.{Expanded}
use Rattle.spec_stylesheet.specs.Place.{Place}
use Rattle.spec_run.specs.Direct.{Supplied, Failed}
use Rattle.spec_run.specs.Meaning.{Setting, Past, referred, meaning}
use Rattle.spec_node.specs.declared.node_ref.NodeRef.{NodeRef}
use Rattle.xt_syntax.specs.PartView.{place_of}
use Rattle.xt_engine.specs.declared.turn.Entered.{Entered}
use Rattle.xt_engine.specs.declared.turn.Entered.TheVariants as entered
use Rattle.xt_driver.specs.declared.level.Needed.{Needed}
use Rattle.xt_driver.specs.declared.lost.Lost.{Lost}
use Rattle.xt_driver.specs.declared.lost.Lost.TheVariants as lost
use Rattle.xt_driver.specs.declared.memo.Referred.{Referred}
use Rattle.xt_driver.specs.View.{GivesSo}
use Rattle.xt_driver.specs.Remembered.{Entry}
use Rattle.xt_driver.specs.Referring.{HoldsAs, Settles}
use Rattle.xt_driver.specs.Lost.{IsLost, IsRefusal, IsGivenAgain, IsOfReference}

given_again : (before again : Entered) (place : Place) (x : Supplied NodeRef) → GivesSo before place x → IsGivenAgain before again → GivesSo again place x
given_again (entered.Refused why t) (entered.Refused because u) place x h is = h ∙ ap (λ w. Failed w) (sym is)
given_again (entered.Refused why t) (entered.Value v) place x h is = absurd is
given_again (entered.Refused why t) (entered.Stream u) place x h is = absurd is
given_again (entered.Refused why t) entered.UnderWay place x h is = absurd is
given_again (entered.Value v) again place x h is = absurd is
given_again (entered.Stream t) again place x h is = absurd is
given_again entered.UnderWay again place x h is = absurd is

holds_again : (s : Setting NodeRef) (past : Past NodeRef) (all : List (Entry NodeRef)) (before again : Entered) (name : Expanded) (levels : ℕ)
    → IsGivenAgain before again → HoldsAs s past.values all name levels again
holds_again s past all before (entered.Refused because u) name levels is = tt
holds_again s past all before (entered.Stream u) name levels is = tt
holds_again s past all before entered.UnderWay name levels is = tt
holds_again s past all (entered.Refused why t) (entered.Value v) name levels is = absurd is
holds_again s past all (entered.Value w) (entered.Value v) name levels is = absurd is
holds_again s past all (entered.Stream t) (entered.Value v) name levels is = absurd is
holds_again s past all entered.UnderWay (entered.Value v) name levels is = absurd is

pub regained_settles : (s : Setting NodeRef) (past : Past NodeRef) (l : Lost) (needed : Needed) (levels : ℕ) (all : List (Entry NodeRef)) (r : Referred)
    → IsLost s past l → IsOfReference l needed levels r → Settles s past all needed.name levels (place_of needed.place) r
regained_settles s past lost.Nothing needed levels all r h is = absurd is
regained_settles s past (lost.Reference l) needed levels all r h is =
    let old = l.value.needed.value in
    let same : referred s (meaning s l.value.levels) past old.name 0 (place_of old.place) ≡ referred s (meaning s levels) past needed.name 0 (place_of needed.place)
    = ap (λ n. referred s (meaning s n) past old.name 0 (place_of old.place)) is.levels_are
    ∙ ap (λ n. referred s (meaning s levels) past n 0 (place_of old.place)) is.name
    ∙ ap (referred s (meaning s levels) past needed.name 0) is.place in
    let P : Supplied NodeRef → Type 0 = λ x. GivesSo r.entered (place_of old.place) x in
    let Q : Place → Type 0 = λ p. GivesSo r.entered p (referred s (meaning s levels) past needed.name 0 (place_of needed.place)) in
    record {
      gives = record { so = subst Q is.place (subst P same (given_again l.value.referred.value.entered r.entered (place_of old.place) _ h.0.so is.again)) };
      holds = holds_again s past all l.value.referred.value.entered r.entered needed.name (levels - r.spare) is.again;
    }

pub some_of : {T : Type 0} (P : T → Type 0) (r : Option T) (x : T) → r ≡ Some x → IfSome r P → P x
some_of {T = T} P r x e h = let Q : Option T → Type 0 = λ o. IfSome o P in subst Q e h

pub same_of : {T : Type 0} (P : Option T → Type 0) (r : Option T) (x : T) → r ≡ Some x → P r → P (Some x)
same_of P r x e h = subst P e h

pub none_of : {T : Type 0} (P : Option T → Type 0) (r : Option T) → r ≡ None → P r → P None
none_of P r e h = subst P e h

-- what is lost was refused
pub lost_refusal : (s : Setting NodeRef) (past : Past NodeRef) (l : Lost) → IsLost s past l → IsRefusal l
lost_refusal s past lost.Nothing h = tt
lost_refusal s past (lost.Reference l) h = h.1
