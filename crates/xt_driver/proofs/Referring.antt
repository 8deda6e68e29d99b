-- What references to globals give, and what is remembered of them.
use Rattle.std.proofs.Common.{◌≡◌, ℕ, zero, suc, ◌-◌, ◌<◌, ◌≤◌, List, [], ◌∷◌, ◌++◌, length, map, get_or, Option, Some, None, Result, Ok, Bool, true, false, refl, sym, ap, subst, ◌∙◌, arith}
use Rattle.std.specs.Prelude.{◌&&◌, ◌||◌, nat_le, IfOk, Box, if◌then◌else◌}
use Rattle.std.specs.declared.alloc.Global.{Global as Allocator}
use Rattle.std.specs.List.{list_any}
use Rattle.std.proofs.lemmas.Bool.Decides.{nat_tests}
use Rattle.spec_document.specs.Name.{Expanded, same_name}
use Rattle.spec_stylesheet.specs.Place.{Place}
use Rattle.spec_meaning.specs.Stream.{Stream}
use Rattle.spec_meaning.specs.Value as value
use Rattle.spec_meaning.specs.Question.{Question, Answer}
use Rattle.spec_meaning.specs.Program.{Valued}
use Rattle.spec_meaning.specs.Context.{Bound}
use Rattle.spec_run.specs.Direct.{Supplied, Known}
use Rattle.spec_run.specs.Meaning.{Setting, Past, going_into, global_call, held_by, element_named, evaluated, needs_itself, referred, meaning}
use Rattle.spec_node.specs.declared.node_ref.NodeRef.{NodeRef}
use Rattle.xt_tree.specs.declared.value.Value as code
use Rattle.xt_tree.specs.ValueView.{value_of}
use Rattle.xt_engine.specs.declared.turn.Entered.{Entered}
use Rattle.xt_engine.specs.declared.turn.Entered.TheVariants as entered
use Rattle.xt_text.specs.declared.memory.Memory.{Memory as NoMemory}
use Rattle.xt_driver.specs.declared.globals.Globals.{Globals}
use Rattle.xt_driver.specs.declared.globals.Reference.{Reference}
use Rattle.xt_driver.specs.declared.globals.Reference.TheVariants as references
use Rattle.xt_driver.specs.declared.memo.Referred.{Referred}
use Rattle.xt_driver.specs.declared.memo.Remembered.{Remembered}
use Rattle.xt_driver.specs.declared.came.Outcome.{Outcome as Came}
use Rattle.xt_driver.specs.declared.outcome.Held.{Held}
use Rattle.xt_driver.specs.View.{outcome_of, setting_of, past_of, supplied_of, Gives, GivesSo}
use Rattle.xt_driver.specs.Remembered.{Entry, first_named, IsIfThere, Fits, Holds, AllHold, Remembers, Keeps, Lasts, GivesAlways, IsAnew, Unnamed, IsAside, all_aside, none_aside}
use Rattle.xt_driver.specs.Referring.{entry_of, has_name, no_global, HoldsAs, Settles, IsValue, IsRecalled, RecallsSo, Recalls, IsGivenAt, IsGivenAs, RefersSo, Refers, entry_with, remembered_as, IsEvaluated, Evaluates}
use Rattle.xt_driver.proofs.Given.{equal_names}
use Rattle.xt_driver.proofs.Remembering.{More, fits_left, fits_right, fits_both, suits_here, hold_more, hold_both, keeps_all, given_first, refer_first, gives_past, gives_held, referred_here, holds_anew, keeps_evaluated}

abbrev Ask : Type 0
Ask = Question NodeRef → Answer NodeRef

pub both : (a b : Bool) → (a && b) ≡ true → (a ≡ true) × (b ≡ true)
both true b e = (refl, e)
both false b e = absurd (cc)

-- ---- What is remembered

-- a value that is always given is given here
settles_value : (s : Setting NodeRef) (past : Past NodeRef) (all : List (Entry NodeRef)) (name : Expanded) (levels : ℕ) (place : Place) (r : Referred) (e : Entry NodeRef)
    → Fits all past → GivesAlways s past.values all e.name e.levels e.value → e.name ≡ name → e.levels ≤ levels → IsRecalled r e levels → Settles s past all name levels place r
settles_value s past all name levels place r e fits given named low is = let both = go r.entered is.value in record { gives = record { so = both.0 }; holds = both.1 }
  where
    go : (x : Entered) → IsValue x e → GivesSo x place (referred s (meaning s levels) past name 0 place) × HoldsAs s past.values all name (levels - r.spare) x
    go (entered.Stream t) v = absurd v
    go (entered.Refused why t) v = absurd v
    go entered.UnderWay v = absurd v
    go (entered.Value x) v =
        let spare = is.spare in
        let there : GivesAlways s past.values all name (levels - r.spare) (value_of x)
        = λ n other at l suits. ap (λ m. referred s (meaning s n) other m 0 at) (sym named) ∙ given n other at (omega (arith, l, spare, low)) suits ∙ ap (λ y. Known (Valued y)) (sym v) in
        (there levels past place (omega arith) (suits_here fits), there)

pub hold_at : (s : Setting NodeRef) (values : List (Bound NodeRef)) (all : List (Entry NodeRef)) (es : List Remembered) (i : ℕ) (d : Remembered)
    → i < length es → AllHold s values all (map entry_of es) → Holds s values all (entry_of (get_or es i d))
hold_at s values all [] i d l h = absurd (omega (arith, l))
hold_at s values all (e ∷ es) zero d l h = h.0
hold_at s values all (e ∷ es) (suc i) d l h = hold_at s values all es i d (omega (arith, l)) h.1

fit_at : (es : List Remembered) (i : ℕ) (d : Remembered) → i < length es → More (entry_of (get_or es i d) ∷ []) (map entry_of es)
fit_at [] i d l past h = absurd (omega (arith, l))
fit_at (e ∷ es) zero d l past h = (h.0, tt)
fit_at (e ∷ es) (suc i) d l past h = fit_at es i d (omega (arith, l)) past h.1

pub recalls_entry : (es : List Remembered) (i : ℕ) (d e : Remembered) (name : Expanded) (levels : ℕ) (r : Box Referred Allocator)
    → i < length es → e ≡ get_or es i d → (nat_le e.levels levels && same_name e.name name) ≡ true → IsRecalled r.value (entry_of e) levels → Recalls (Some r) name levels (map entry_of es)
recalls_entry es i d e name levels r l is known recalled = record {
  so = λ s past h place.
      let found = both (nat_le e.levels levels) (same_name e.name name) known in
      let first = found.0 in
      let low : e.levels ≤ levels = grind (arith, nat_tests) in
      let all = map entry_of es in
      let P : Remembered → Type 0 = λ x. Holds s past.values all (entry_of x) in
      let Q : Remembered → Type 0 = λ x. More (entry_of x ∷ []) all in
      let given = gives_held s past.values all (entry_of e) (subst Q (sym is) (fit_at es i d l)) (subst P (sym is) (hold_at s past.values all es i d l h.hold)) in
      settles_value s past all name levels place r.value (entry_of e) h.fits given (equal_names e.name name found.1) low recalled;
}

-- ---- What is looked up

pub refers_past : (ref : Reference) (globals : Globals) (name : Expanded) (levels : ℕ) (m : List (Entry NodeRef)) (v : code.Value)
    → first_named name (past_of globals).values ≡ Some (value_of v) → IsGivenAt ref (entered.Value v) levels → Refers ref globals name levels m m
refers_past (references.Evaluated n) globals name levels m v found is = absurd is
refers_past (references.Given r) globals name levels m v found is = record {
  so = λ ask h.
      let s = setting_of ask globals in
      let past = past_of globals in
      let G : (place : Place) → Entered → Type 0 = λ place x. GivesSo x place (referred s (meaning s levels) past name 0 place) in
      let H : Entered → Type 0 = λ x. HoldsAs s past.values m name (levels - r.value.spare) x in
      let there = gives_past s past.values m name (levels - r.value.spare) (value_of v) found in
      (keeps_all h, λ place. record { gives = record { so = subst (G place) (sym is.0) (gives_past s past.values m name levels (value_of v) found levels past place (omega arith) (suits_here h.fits)) }; holds = subst H (sym is.0) there });
}

pub refers_under_way : (ref : Reference) (globals : Globals) (name : Expanded) (levels : ℕ) (m : List (Entry NodeRef))
    → first_named name (past_of globals).values ≡ None → list_any (same_name name) (past_of globals).under ≡ true → IsGivenAt ref entered.UnderWay levels → Refers ref globals name levels m m
refers_under_way (references.Evaluated n) globals name levels m found under is = absurd is
refers_under_way (references.Given r) globals name levels m found under is = record {
  so = λ ask h.
      let s = setting_of ask globals in
      let past = past_of globals in
      let G : (place : Place) → Entered → Type 0 = λ place x. GivesSo x place (referred s (meaning s levels) past name 0 place) in
      let H : Entered → Type 0 = λ x. HoldsAs s past.values m name (levels - r.value.spare) x in
      let now : Place → Supplied NodeRef = λ place. evaluated s (meaning s levels) past name 0 place (element_named name s.globals) in (
        keeps_all h,
        λ place. record {
          gives = record {
            so = subst (G place) (sym is.0) (refer_first name place past.values (list_any (same_name name) past.under) (now place)
                ∙ ap (λ b. given_first (first_named name past.values) (if b then needs_itself place else now place)) under ∙ ap (λ o. given_first o (needs_itself place)) found);
          };
          holds = subst H (sym is.0) tt;
        },
      );
}

pub refers_recalled : (globals : Globals) (name : Expanded) (levels : ℕ) (m : List (Entry NodeRef)) (r : Box Referred Allocator) (found : Option (Box Referred Allocator))
    → Recalls found name levels m → found ≡ Some r → Refers (references.Given r) globals name levels m m
refers_recalled globals name levels m r found h is = record {
  so = λ ask k.
      let P : Option (Box Referred Allocator) → Type 0 = λ x. RecallsSo x (setting_of ask globals) (past_of globals) m name levels in
      (keeps_all k, subst P is (h.so (setting_of ask globals) (past_of globals) k));
}

pub refers_anew : (globals : Globals) (name : Expanded) (levels : ℕ) (m : List (Entry NodeRef)) (node : NodeRef)
    → first_named name (past_of globals).values ≡ None → list_any (same_name name) (past_of globals).under ≡ false → ((ask : Ask) → element_named name (setting_of ask globals).globals ≡ Some node)
    → Refers (references.Evaluated node) globals name levels m m
refers_anew globals name levels m node found apart is = record { so = λ ask h. (record { element_is = is ask; not_past = found; apart = apart }, refl) }

-- a global that there is not
pub refers_none : (ref : Reference) (globals : Globals) (name : Expanded) (levels : ℕ) (m n : List (Entry NodeRef))
    → first_named name (past_of globals).values ≡ None → list_any (same_name name) (past_of globals).under ≡ false → ((ask : Ask) → element_named name (setting_of ask globals).globals ≡ None)
    → IsGivenAs ref (no_global name) levels → n ≡ m ++ no_global name ∷ [] → Refers ref globals name levels m n
refers_none (references.Evaluated node) globals name levels m n found apart is given same = absurd given
refers_none (references.Given r) globals name levels m n found apart is given same = record {
  so = λ ask h.
      let s = setting_of ask globals in
      let past = past_of globals in
      let e = no_global name in
      let end = m ++ e ∷ [] in
      let holds : Holds s past.values end e = record { element_is = is ask; at = refl } in
      let more : More m end = λ other a. fits_left m (e ∷ []) other a in
      let one : More (e ∷ []) end = λ other a. fits_right m (e ∷ []) other a in
      let there : IsIfThere (first_named name past.values) (value.Text []) = let P : Option (value.Value NodeRef) → Type 0 = λ o. IsIfThere o (value.Text []) in subst P (sym found) tt in
      let fits = fits_both m (e ∷ []) past h.fits ((apart, there), tt) in
      let P : List (Entry NodeRef) → Type 0 = λ x. Keeps s past m x × ((place : Place) → Settles s past x name levels place r.value) in
      subst P (sym same) (
        record {
          remembers = record { hold = hold_both s past.values end m (e ∷ []) (hold_more s past.values m end m more h.hold) (holds, tt); fits = fits };
          more = more;
        },
        λ place. settles_value s past end name levels place r.value e fits (gives_held s past.values end e one holds) refl (omega arith) given,
      );
}

-- ---- What is set aside

pub aside_all : {name : Expanded} {aside old new : List (Entry NodeRef)} → aside ≡ old → new ≡ [] → IsAside name aside old new
aside_all {name = name} {aside = aside} {old = old} {new = new} e f =
    let P : List (Entry NodeRef) → Type 0 = λ x. IsAside name x old new in
    let Q : List (Entry NodeRef) → Type 0 = λ x. IsAside name old old x in
    subst P (sym e) (subst Q (sym f) all_aside)

not_named : (es : List Remembered) (name : Expanded) → list_any (has_name name) es ≡ false → Unnamed name (map entry_of es)
not_named [] name h = tt
not_named (e ∷ es) name h = go (same_name e.name name) h (not_named es name)
  where
    go : (b : Bool) → (b || list_any (has_name name) es) ≡ false → (list_any (has_name name) es ≡ false → Unnamed name (map entry_of es)) → (b ≡ false) × Unnamed name (map entry_of es)
    go true h f = absurd (cc)
    go false h f = (refl, f h)

pub aside_none : {name : Expanded} {aside new : List (Entry NodeRef)} (es : List Remembered) → aside ≡ [] → new ≡ map entry_of es → list_any (has_name name) es ≡ false → IsAside name aside (map entry_of es) new
aside_none {name = name} {aside = aside} {new = new} es e f h =
    let P : List (Entry NodeRef) → Type 0 = λ x. IsAside name x (map entry_of es) new in
    let Q : List (Entry NodeRef) → Type 0 = λ x. IsAside name [] (map entry_of es) x in
    subst P (sym e) (subst Q (sym f) (none_aside (not_named es name h)))

-- ---- What comes of an evaluation

pub evaluates_made : (came : Result (Box Came Allocator) NoMemory) (o : Box Came Allocator) (r : Referred) (x : Entered) (spare : ℕ) (h : Held) (content : Stream) (name : Expanded) (element : NodeRef) (levels needed : ℕ) (aside old mid new : List (Entry NodeRef))
    → came ≡ Ok o → r ≡ record { entered = x; spare = spare } → spare ≡ o.value.spare → needed ≡ levels - spare → content ≡ (outcome_of o.value).content → ((place : Place) → Gives x place (supplied_of h)) → supplied_of h ≡ held_by (outcome_of o.value)
    → mid ≡ old ++ aside → new ≡ mid ++ remembered_as name element needed content x → Evaluates r came name element levels aside old new
evaluates_made came o r x spare h content name element levels needed aside old mid new is made fewer low same gives holds put remembered =
    let P : Result (Box Came Allocator) NoMemory → Type 0 = λ y. Evaluates r y name element levels aside old new in
    let Q : Referred → Type 0 = λ y. IsEvaluated y o.value name element levels aside old new in
    let G : Place → Supplied NodeRef → Type 0 = λ place y. Gives x place y in
    let entries = ap (λ n. remembered_as name element n content x) (low ∙ ap (λ n. levels - n) fewer) ∙ ap (λ t. remembered_as name element (levels - o.value.spare) t x) same in
    subst P (sym is) (subst Q (sym made) (record {
      gives = λ place. subst (G place) holds (gives place);
      remembered = remembered ∙ ap (λ ys. ys ++ remembered_as name element needed content x) put ∙ ap (λ ys. (old ++ aside) ++ ys) entries;
      spare = fewer;
    }))

-- it is given, and remembered where it is a value
pub record Evaluated (s : Setting NodeRef) (past : Past NodeRef) (old new : List (Entry NodeRef)) (name : Expanded) (levels : ℕ) (place : Place) (r : Referred) : Type 0 where
  pub keeps : Keeps s past old new
  pub settles : Settles s past new name levels place r

pub evaluation_done : (s : Setting NodeRef) (past : Past NodeRef) (name : Expanded) (node : NodeRef) (place : Place) (levels : ℕ) (aside old mid new last : List (Entry NodeRef)) (o : Came) (r : Referred)
    → IsAnew s past name node → IsAside name aside old mid → Remembers s past old → Keeps s (going_into name past) mid new
    → Lasts s (going_into name past) (levels - o.spare) new (global_call s.root node place) (outcome_of o)
    → outcome_of o ≡ meaning s levels (going_into name past) 0 (global_call s.root node place)
    → IsEvaluated r o name node levels aside new last → Evaluated s past old last name levels place r
evaluation_done s past name node place levels aside old mid new last o r anew is h k lasts means done =
    let L : List (Entry NodeRef) → Type 0 = λ x. Evaluated s past old x name levels place r in
    subst L (sym done.remembered) (go r.entered refl)
  where
    comes_to : Supplied NodeRef
    comes_to = held_by (outcome_of o)

    kept : Entered → List (Entry NodeRef)
    kept x = remembered_as name node (levels - o.spare) (outcome_of o).content x

    given : Gives r.entered place (referred s (meaning s levels) past name 0 place)
    given = let P : Supplied NodeRef → Type 0 = λ x. Gives r.entered place x in
        subst P (ap held_by means ∙ sym (referred_here s levels past name node place anew)) (done.gives place)

    nothing : (x : Entered) → r.entered ≡ x → kept x ≡ [] → HoldsAs s past.values ((new ++ aside) ++ []) name (levels - r.spare) x
        → Evaluated s past old ((new ++ aside) ++ kept r.entered) name levels place r
    nothing x e none holds =
        let E : List (Entry NodeRef) → Type 0 = λ y. Evaluated s past old ((new ++ aside) ++ y) name levels place r in
        let H : Entered → Type 0 = λ y. HoldsAs s past.values ((new ++ aside) ++ []) name (levels - r.spare) y in
        subst E (sym (ap kept e ∙ none)) (record {
          keeps = keeps_evaluated s past name aside old mid new [] is h k tt tt;
          settles = record { gives = given; holds = subst H (sym e) holds };
        })

    go : (x : Entered) → r.entered ≡ x → Evaluated s past old ((new ++ aside) ++ kept r.entered) name levels place r
    go (entered.Stream t) e = nothing (entered.Stream t) e refl tt
    go (entered.Refused why t) e = nothing (entered.Refused why t) e refl tt
    go entered.UnderWay e = nothing entered.UnderWay e refl tt
    go (entered.Value v) e =
        let entry = entry_with name node (levels - o.spare) (outcome_of o).content (value_of v) in
        let end = (new ++ aside) ++ entry ∷ [] in
        let E : List (Entry NodeRef) → Type 0 = λ y. Evaluated s past old ((new ++ aside) ++ y) name levels place r in
        let H : Entered → Type 0 = λ y. HoldsAs s past.values end name (levels - r.spare) y in
        let D : Entered → Type 0 = λ y. GivesSo y place comes_to in
        let known : comes_to ≡ Known (Valued (value_of v)) = subst D e (done.gives place).so in
        let new_more : More new end = λ other a. fits_left new aside other (fits_left (new ++ aside) (entry ∷ []) other a) in
        let last_more : More (entry ∷ []) end = λ other a. fits_right (new ++ aside) (entry ∷ []) other a in
        let holds = holds_anew s past new end name node (levels - o.spare) (value_of v) place (outcome_of o) anew.element_is new_more k.remembers.fits lasts known in
        let there : IsIfThere (first_named name past.values) (value_of v) = let P : Option (value.Value NodeRef) → Type 0 = λ x. IsIfThere x (value_of v) in subst P (sym anew.not_past) tt in
        let N : ℕ → Type 0 = λ n. GivesAlways s past.values end name (levels - n) (value_of v) in
        subst E (sym (ap kept e)) (record {
          keeps = keeps_evaluated s past name aside old mid new (entry ∷ []) is h k (holds, tt) ((anew.apart, there), tt);
          settles = record { gives = given; holds = subst H (sym e) (subst N (sym done.spare) (gives_held s past.values end entry last_more holds)) };
        })

-- ---- What was looked up

pub refers_given : (r : Reference) (e : Box Referred Allocator) (globals : Globals) (name : Expanded) (levels : ℕ) (old new : List (Entry NodeRef)) (ask : Ask)
    → Refers r globals name levels old new → r ≡ references.Given e → Remembers (setting_of ask globals) (past_of globals) old
    → Keeps (setting_of ask globals) (past_of globals) old new × ((place : Place) → Settles (setting_of ask globals) (past_of globals) new name levels place e.value)
refers_given r e globals name levels old new ask h is k =
    let P : Reference → Type 0 = λ x. RefersSo x (setting_of ask globals) (past_of globals) name levels old new in
    subst P is (h.so ask k)

pub refers_evaluated : (r : Reference) (element : NodeRef) (globals : Globals) (name : Expanded) (levels : ℕ) (old new : List (Entry NodeRef)) (ask : Ask)
    → Refers r globals name levels old new → r ≡ references.Evaluated element → Remembers (setting_of ask globals) (past_of globals) old
    → IsAnew (setting_of ask globals) (past_of globals) name element × (new ≡ old)
refers_evaluated r element globals name levels old new ask h is k =
    let P : Reference → Type 0 = λ x. RefersSo x (setting_of ask globals) (past_of globals) name levels old new in
    subst P is (h.so ask k)

pub aside_of : {name : Expanded} {aside old first new : List (Entry NodeRef)} → old ≡ first → IsAside name aside old new → IsAside name aside first new
aside_of {name = name} {aside = aside} {new = new} e h = let P : List (Entry NodeRef) → Type 0 = λ x. IsAside name aside x new in subst P e h

-- an evaluation by its name and its element
pub evaluates_as : (came : Result (Box Came Allocator) NoMemory) (result : Result (Box Referred Allocator) NoMemory) (levels : ℕ) (aside old new : List (Entry NodeRef)) {a b : Expanded} {n m : NodeRef}
    → a ≡ b → n ≡ m → IfOk result (λ r. Evaluates r.value came a n levels aside old new) → IfOk result (λ r. Evaluates r.value came b m levels aside old new)
evaluates_as came result levels aside old new {a = a} {b = b} {n = n} {m = m} e f h =
    let P : Expanded → Type 0 = λ x. IfOk result (λ r. Evaluates r.value came x n levels aside old new) in
    let Q : NodeRef → Type 0 = λ x. IfOk result (λ r. Evaluates r.value came b x levels aside old new) in
    subst Q f (subst P e h)
