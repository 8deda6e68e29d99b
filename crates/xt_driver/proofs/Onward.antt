-- What a level keeps from turn to turn: what is remembered, and where it stands elsewhere.
use Rattle.std.specs.declared.rc.Rc.{Rc}
use Rattle.std.proofs.Common.{◌≡◌, ℕ, suc, ◌-◌, ◌≤◌, List, ◌∷◌, Option, None, Result, Ok, Err, sym, ap, subst, ◌∙◌}
use Rattle.std.specs.Prelude.{IfOk, OnOk, Box}
use Rattle.std.specs.declared.alloc.Global.{Global as Allocator}
use Rattle.spec_document.specs.Name.{Expanded}
use Rattle.spec_stylesheet.specs.Place.{Place}
use Rattle.spec_meaning.specs.Stream.{Stream, filled}
use Rattle.spec_meaning.specs.Question.{Question, Answer}
use Rattle.spec_run.specs.Plan.{Call}
use Rattle.spec_run.specs.Meaning.{Setting, Past, going_into, global_call, settled, referred, meaning}
use Rattle.xt_syntax.specs.PartView.{place_of}
use Rattle.spec_node.specs.declared.node_ref.NodeRef.{NodeRef}
use Rattle.spec_node.specs.Naming.{same_ref}
use Rattle.xt_tree.specs.StreamView.{stream_of}
use Rattle.xt_engine.specs.View.{call_of, refused_of}
use Rattle.xt_engine.specs.declared.call.Call.{Call as CodeCall}
use Rattle.xt_engine.specs.declared.event.Ran.{Ran}
use Rattle.xt_engine.specs.declared.turn.Entered.{Entered}
use Rattle.xt_engine.specs.declared.turn.Entered.TheVariants as entered
use Rattle.xt_engine.specs.declared.turn.Turn.TheVariants.{Want, WantGlobal, Done}
use Rattle.xt_engine.specs.declared.turn.RunFault.{RunFault}
use Rattle.xt_engine.specs.declared.turn.RunFault.TheVariants.{Memory, Refused as Refuses}
use Rattle.xt_engine.specs.Progress.{Progress, Gift, started}
use Rattle.xt_engine.specs.Advances.{Advances, ran_of, gift_of}
use Rattle.xt_text.specs.declared.memory.Memory.{Memory as NoMemory}
use Rattle.xt_driver.specs.declared.level.Needed.{Needed}
use Rattle.xt_driver.specs.declared.memo.Referred.{Referred}
use Rattle.xt_driver.specs.declared.came.Outcome.{Outcome as Came}
use Rattle.xt_driver.specs.View.{outcome_of, GivesSo, IsRefused, IsRefusedSo, IsStreamed, IsTaken}
use Rattle.xt_driver.specs.Stands.{Level, Stands, Elsewhere}
use Rattle.xt_driver.specs.Remembered.{Entry, Remembers, Keeps, Lasts, IsAnew, IsAside}
use Rattle.xt_driver.specs.Referring.{HoldsAs, Settles, Evaluates, spare_in, spare_of}
use Rattle.xt_driver.proofs.Remembering.{keeps_all, keeps_on, remembers_inside}
use Rattle.xt_driver.proofs.Following.{elsewhere_begun, elsewhere_entered, elsewhere_referred, HoldsThere, lasts_done, lasts_refused}
use Rattle.xt_driver.proofs.Referring.{Evaluated, evaluation_done}

abbrev Ask : Type 0
Ask = Question NodeRef → Answer NodeRef

pub record Onward (l : Level) (first all : List (Entry NodeRef)) (spare : ℕ) (p : Progress) (gift : Option (Gift NodeRef)) : Type 0 where
  pub keeps : Keeps l.setting l.past first all
  pub elsewhere : Elsewhere l all spare p gift

pub onward_begun : (l : Level) (all : List (Entry NodeRef)) (spare : ℕ) (p : Progress) (gift : Option (Gift NodeRef))
    → l.setting.same ≡ same_ref → Remembers l.setting l.past all → p ≡ started l.call l.below → gift ≡ None → Onward l all all spare p gift
onward_begun l all spare p gift same h e f =
    let P : Option (Gift NodeRef) → Type 0 = λ x. Onward l all all spare p x in
    subst P (sym f) (record { keeps = keeps_all h; elsewhere = elsewhere_begun l all spare p same e })

-- in a world with the same truth
pub remembers_there : (s : Ask → Setting NodeRef) {a b : Ask} (past : Past NodeRef) (all : List (Entry NodeRef)) → a ≡ b → Remembers (s b) past all → Remembers (s a) past all
remembers_there s past all e h = let P : Ask → Type 0 = λ x. Remembers (s x) past all in subst P (sym e) h

abbrev level : Setting NodeRef → ℕ → Past NodeRef → Call NodeRef → Level
level s below past call = record { setting = s; below = below; past = past; call = call }

-- the turn of an instantiation that it enters
pub onward_entered : (s : Ask → Setting NodeRef) {a b : Ask} (past : Past NodeRef) (below : ℕ) (call : Call NodeRef) (first m n : List (Entry NodeRef)) (spare fewer : ℕ) (p q : Progress) (gift : Option (Gift NodeRef))
    (w : Rc CodeCall Allocator) (d left : ℕ) (k : Call NodeRef) (came : Result (Box Came Allocator) NoMemory) (next : Option Entered) (before after : List Stream)
    → a ≡ b → Onward (level (s b) below past call) first m spare p gift → Advances (s b).ask gift p q (Ok (Want w d)) → left ≡ below - d → k ≡ settled call (call_of w.value)
    → OnOk came (Keeps (s a) past m n) → IfOk came (λ o. Lasts (s a) past (left - o.value.spare) n k (outcome_of o.value)) → IsStreamed next came before after
    → fewer ≤ spare → fewer ≤ spare_in came → Onward (level (s b) below past call) first n fewer q (gift_of next)
onward_entered s past below call first m n spare fewer p q gift w d left k (Err x) next before after e h a room settles keeps lasts came i j = absurd came
onward_entered s {b = b} past below call first m n spare fewer p q gift w d left k (Ok o) next before after e h a room settles keeps lasts came i j =
    let l = level (s b) below past call in
    let K : Ask → Type 0 = λ x. Keeps (s x) past m n in
    let L : Ask → Type 0 = λ x. Lasts (s x) past (left - o.value.spare) n k (outcome_of o.value) in
    let kept = subst K e keeps in
    record {
      keeps = keeps_on h.keeps kept;
      elsewhere = elsewhere_entered l m n spare fewer o.value.spare p q gift (gift_of next) w d left k (outcome_of o.value) h.elsewhere a kept.more i j room
          (λ r other. ap (meaning (s b) r other d) (sym settles)) (subst L e lasts) came.gift;
    }

holds_there : (s : Setting NodeRef) (below : ℕ) (past : Past NodeRef) (call : Call NodeRef) (n : List (Entry NodeRef)) (name : Expanded) (levels spare : ℕ) (place : Place) (x : Entered)
    → GivesSo x place (referred s (meaning s levels) past name 0 place) → HoldsAs s past.values n name (levels - spare) x → HoldsThere (level s below past call) n name (levels - spare) x
holds_there s below past call n name levels spare place (entered.Stream t) g h = absurd g
holds_there s below past call n name levels spare place (entered.Value v) g h = h
holds_there s below past call n name levels spare place (entered.Refused why t) g h = tt
holds_there s below past call n name levels spare place entered.UnderWay g h = tt

-- the turn of a global that it needs
pub onward_referred : (s : Ask → Setting NodeRef) {a b : Ask} (past : Past NodeRef) (below : ℕ) (call : Call NodeRef) (first m n : List (Entry NodeRef)) (spare fewer : ℕ) (p q : Progress) (gift : Option (Gift NodeRef))
    (needed : Needed) (d left : ℕ) (came : Result (Box Referred Allocator) NoMemory) (next : Option Entered)
    → a ≡ b → Onward (level (s b) below past call) first m spare p gift → Advances (s b).ask gift p q (Ok (WantGlobal needed.name d needed.place)) → left ≡ below - d
    → OnOk came (Keeps (s a) past m n) → IfOk came (λ r. Settles (s a) past n needed.name left (place_of needed.place) r.value) → IsTaken next came
    → fewer ≤ spare → OnOk came (fewer ≤ spare_of came) → Onward (level (s b) below past call) first n fewer q (gift_of next)
onward_referred s past below call first m n spare fewer p q gift needed d left (Err x) next e h a room keeps settles taken i j = absurd taken
onward_referred s {b = b} past below call first m n spare fewer p q gift needed d left (Ok r) next e h a room keeps settles taken i j =
    let l = level (s b) below past call in
    let K : Ask → Type 0 = λ x. Keeps (s x) past m n in
    let S : Ask → Type 0 = λ x. Settles (s x) past n needed.name left (place_of needed.place) r.value in
    let kept = subst K e keeps in
    let given = subst S e settles in
    let there = holds_there (s b) below past call n needed.name left r.value.spare (place_of needed.place) r.value.entered given.gives.so given.holds in
    let G : Option Entered → Type 0 = λ x. Elsewhere l n fewer q (gift_of x) in
    record {
      keeps = keeps_on h.keeps kept;
      elsewhere = subst G (sym taken) (elsewhere_referred l m n spare fewer r.value.spare p q gift needed.name d left needed.place r.value.entered h.elsewhere a kept.more i j room there);
    }

-- at a refusal
pub lasts_fault : (s : Setting NodeRef) (past : Past NodeRef) (levels : ℕ) (m : List (Entry NodeRef)) (c : Call NodeRef) (fault : RunFault) (o : Came) → IsRefused fault o → Lasts s past levels m c (outcome_of o)
lasts_fault s past levels m c fault o h = go fault h.so
  where
    go : (f : RunFault) → IsRefusedSo f o → Lasts s past levels m c (outcome_of o)
    go Memory is = absurd is
    go (Refuses why t) is = lasts_refused s past levels m c (outcome_of o) (stream_of t.value) (refused_of why) is

-- ---- Results

pub if_both : {T E : Type 0} {P Q R : T → Type 0} (r : Result T E) → IfOk r P → IfOk r Q → ((x : T) → P x → Q x → R x) → IfOk r R
if_both (Ok x) h k f = f x h k
if_both (Err e) h k f = tt

pub on_any : {T E Q : Type 0} (r : Result T E) → Q → OnOk r Q
on_any (Ok x) h = h
on_any (Err e) h = tt

-- ---- References

pub evaluation_ready : (s : Setting NodeRef) (past : Past NodeRef) (name : Expanded) (under : List Expanded) {aside old new : List (Entry NodeRef)}
    → under ≡ name ∷ past.under → IsAside name aside old new → Remembers s past old → Remembers s (record { values = past.values; under = under }) new
evaluation_ready s past name under {new = new} e is h =
    let P : List Expanded → Type 0 = λ u. Remembers s (record { values = past.values; under = u }) new in
    subst P (sym e) (remembers_inside s past name is h)

pub evaluation_all : (s : Setting NodeRef) (past : Past NodeRef) (name : Expanded) (under : List Expanded) (node : NodeRef) (place : Place) (levels : ℕ) (call : Call NodeRef) (aside old mid new last : List (Entry NodeRef))
    (came : Result (Box Came Allocator) NoMemory) (result : Result (Box Referred Allocator) NoMemory)
    → under ≡ name ∷ past.under → call ≡ global_call s.root node place → IsAnew s past name node → IsAside name aside old mid → Remembers s past old
    → OnOk came (Keeps s (record { values = past.values; under = under }) mid new)
    → IfOk came (λ o. Lasts s (record { values = past.values; under = under }) (levels - o.value.spare) new call (outcome_of o.value))
    → IfOk came (λ o. outcome_of o.value ≡ meaning s levels (record { values = past.values; under = under }) 0 call)
    → IfOk result (λ r. Evaluates r.value came name node levels aside new last) → IfOk result (λ r. Evaluated s past old last name levels place r.value)
evaluation_all s past name under node place levels call aside old mid new last came (Err x) e f anew is h keeps lasts means result = tt
evaluation_all s past name under node place levels call aside old mid new last (Err x) (Ok r) e f anew is h keeps lasts means result = absurd result
evaluation_all s past name under node place levels call aside old mid new last (Ok o) (Ok r) e f anew is h keeps lasts means result =
    let K : List Expanded → Type 0 = λ u. Keeps s (record { values = past.values; under = u }) mid new in
    let L : List Expanded → Type 0 = λ u. Lasts s (record { values = past.values; under = u }) (levels - o.value.spare) new call (outcome_of o.value) in
    let C : Call NodeRef → Type 0 = λ c. Lasts s (going_into name past) (levels - o.value.spare) new c (outcome_of o.value) in
    let meant = means ∙ ap (λ u. meaning s levels (record { values = past.values; under = u }) 0 call) e ∙ ap (meaning s levels (going_into name past) 0) f in
    evaluation_done s past name node place levels aside old mid new last o.value r.value anew is h (subst K e keeps) (subst C f (subst L e lasts)) meant result

-- ---- At the end

pub done_lasts : (l : Level) (first m : List (Entry NodeRef)) (spare levels : ℕ) (p q : Progress) (gift : Option (Gift NodeRef)) (ss : List Stream) (ran : Ran) (result : Result (Box Came Allocator) NoMemory)
    → Stands l p gift ss → Onward l first m spare p gift → Advances l.setting.ask gift p q (Ok (Done ran)) → suc l.below ≡ levels
    → IfOk result (λ o. o.value.spare ≤ spare) → IfOk result (λ o. o.value.spare ≤ l.below - (ran_of ran).height)
    → IfOk result (λ o. outcome_of o.value ≡ record { content = filled (ran_of ran).content ss; ending = (ran_of ran).ending })
    → IfOk result (λ o. Lasts l.setting l.past (levels - o.value.spare) m l.call (outcome_of o.value))
done_lasts l first m spare levels p q gift ss ran (Err x) h on a room i j is = tt
done_lasts l first m spare levels p q gift ss ran (Ok o) h on a room i j is =
    let P : ℕ → Type 0 = λ n. Lasts l.setting l.past (n - o.value.spare) m l.call (outcome_of o.value) in
    subst P room (lasts_done l m spare o.value.spare p q gift ss ran (outcome_of o.value) h on.elsewhere a i j is)
