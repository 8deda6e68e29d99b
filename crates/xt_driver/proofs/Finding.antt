-- What is counted for references to globals.
use Rattle.std.proofs.Common.{◌≡◌, inl, inr, ℕ, zero, suc, ◌-◌, ◌<◌, List, [], ◌∷◌, ◌++◌, Bool, true, false, ◌&&◌, cond, nat_le, length, get_or, map}
use Rattle.std.proofs.Common.{Option, Some, None, Result, Ok, Err, refl, sym, ap, subst, ◌∙◌, arith}
use Rattle.std.specs.Prelude.{Box, IfOk, OnOk}
use Rattle.std.specs.List.{list_any}
use Rattle.std.proofs.lemmas.List.{append-nil}
use Rattle.std.specs.declared.alloc.Global.{Global as Allocator}
use Rattle.spec_document.specs.Name.{Expanded, same_name}
use Rattle.spec_stylesheet.specs.Place.{Place}
use Rattle.spec_meaning.specs.Question.{Question, Answer}
use Rattle.spec_meaning.specs.Program.{Global, Valued}
use Rattle.spec_meaning.specs.Program as program
use Rattle.spec_meaning.specs.Stream.{Stream}
use Rattle.spec_meaning.specs.Value.{Value}
use Rattle.spec_meaning.specs.Context.{Bound, binding_of}
use Rattle.spec_run.specs.Plan.{Call}
use Rattle.spec_run.specs.Direct.{Supplied, Known, Failed, Ending, Finished, Gave, Halted}
use Rattle.spec_run.specs.Hold.{GoesOn}
use Rattle.spec_run.specs.Trail.{Kept}
use Rattle.spec_run.specs.Meaning.{Setting, Past, going_into, global_call, element_named, held_by, needs_itself, referred, meaning}
use Rattle.spec_reuse.specs.Among.{IsIn}
use Rattle.spec_reuse.specs.Cost.{Repeats}
use Rattle.spec_reuse.specs.Instantiation.{Instantiation, own_of, for_reference, entered}
use Rattle.spec_reuse.specs.Ledger.{nested_in, AllEnd, AllFound, AreOfRun, IsFound}
use Rattle.spec_reuse.proofs.Counting.{all_found_again}
use Rattle.spec_reuse.proofs.Ends.{reference_ends, all_end}
use Rattle.spec_reuse.proofs.Within.{in_right, reference_past, reference_under_way, reference_to_none, reference_evaluated}
use Rattle.spec_node.specs.declared.node_ref.NodeRef.{NodeRef}
use Rattle.xt_tree.specs.ValueView.{value_of}
use Rattle.xt_engine.specs.declared.turn.Entered.{Entered as Given}
use Rattle.xt_engine.specs.declared.turn.Entered.TheVariants as given
use Rattle.xt_record.specs.declared.reuse.Reuse.{Reuse}
use Rattle.xt_text.specs.declared.memory.Memory.{Memory}
use Rattle.xt_driver.specs.declared.globals.Globals.{Globals}
use Rattle.xt_driver.specs.declared.globals.Reference.{Reference}
use Rattle.xt_driver.specs.declared.globals.Reference.TheVariants as references
use Rattle.xt_driver.specs.declared.memo.Referred.{Referred}
use Rattle.xt_driver.specs.declared.memo.Remembered.{Remembered}
use Rattle.xt_driver.specs.declared.came.Outcome.{Outcome as Came}
use Rattle.xt_driver.specs.View.{outcome_of, setting_of, past_of, Gives, GivesSo}
use Rattle.xt_driver.specs.Remembered.{Entry, first_named, AllHold, IsAnew, IsAside, all_aside, none_aside}
use Rattle.xt_driver.specs.Referring.{entry_of, no_global, remembered_as, IsValue, IsRecalled, IsGivenAt, IsGivenAs, Recalls, RecallsSo, IsEvaluated}
use Rattle.xt_driver.specs.Referring.{Evaluates}
use Rattle.xt_driver.specs.Counted.{Hand, kept_by, IsRecorded, IsRecordedOf, AreRecorded, Counted, CountsOver, CountsLooked, IsFrom, IsIdle}
use Rattle.xt_driver.proofs.Given.{equal_names}
use Rattle.xt_driver.proofs.Tallying.{recorded_later, recorded_both, counted_none}

abbrev Ask : Type 0
Ask = Question NodeRef → Answer NodeRef

-- ---- What is recalled

second_so : (a b : Bool) → (a && b) ≡ true → b ≡ true
second_so true b e = e
second_so false b e = absurd (cc)

pub entry_in : (es : List Remembered) (n : ℕ) (d : Remembered) → n < length es → IsIn (entry_of (get_or es n d)) (map entry_of es)
entry_in [] n d l = absurd (omega (arith, l))
entry_in (e ∷ es) zero d l = inl refl
entry_in (e ∷ es) (suc n) d l = inr (entry_in es n d (omega (arith, l)))

pub recalled_from : (es : List Remembered) (n : ℕ) (d e : Remembered) (name : Expanded) (levels : ℕ) (r : Box Referred Allocator)
    → n < length es → e ≡ get_or es n d → (nat_le e.levels levels && same_name e.name name) ≡ true → IsRecalled r.value (entry_of e) levels
    → IsFrom r.value name (map entry_of es)
recalled_from es n d e name levels r l is known recalled =
    let P : Remembered → Type 0 = λ x. IsIn (entry_of x) (map entry_of es) in
    record {
      entry = entry_of e;
      among = subst P (sym is) (entry_in es n d l);
      named = second_so (nat_le e.levels levels) (same_name e.name name) known;
      value = recalled.value;
    }

-- ---- What is entered for a reference

named_same : (name : Expanded) (bs : List (Bound NodeRef)) → binding_of name bs ≡ first_named name bs
named_same name [] = refl
named_same name (b ∷ bs) = ap (λ o. cond (same_name b.name name) (Some b.value) o) (named_same name bs)

pub recorded_at : (s : Setting NodeRef) (values : List (Bound NodeRef)) (records : List (Kept NodeRef)) (all : List (Entry NodeRef)) (e : Entry NodeRef)
    → IsIn e all → AreRecorded s values records all → IsRecorded s values records e.element
recorded_at s values records [] e h k = absurd h
recorded_at s values records (x ∷ xs) e (inl same) k =
    let P : Entry NodeRef → Type 0 = λ y. IsRecorded s values records y.element in subst P (sym same) k.0
recorded_at s values records (x ∷ xs) e (inr h) k = recorded_at s values records xs e h k.1

element_at : (s : Setting NodeRef) (values : List (Bound NodeRef)) (all es : List (Entry NodeRef)) (e : Entry NodeRef) → IsIn e es
    → AllHold s values all es → element_named e.name s.globals ≡ e.element
element_at s values all [] e h k = absurd h
element_at s values all (x ∷ xs) e (inl same) k =
    let P : Entry NodeRef → Type 0 = λ y. element_named y.name s.globals ≡ y.element in subst P (sym same) k.0.element_is
element_at s values all (x ∷ xs) e (inr h) k = element_at s values all xs e h k.1

-- of nothing there are all records
none_found : (s : Setting NodeRef) (records : List (Kept NodeRef)) (is : List (Instantiation NodeRef)) → is ≡ [] → AllFound s records is
none_found s records is e = let P : List (Instantiation NodeRef) → Type 0 = λ l. AllFound s records l in subst P (sym e) (λ i h. absurd h)

-- where the global was evaluated before, there are records of its evaluation now
pub evaluated_found : (s : Setting NodeRef) (past : Past NodeRef) (records : List (Kept NodeRef)) (name : Expanded) (levels : ℕ) (place : Place)
    (element : NodeRef) → IsRecordedOf s past.values records element
    → AreOfRun s (entered s levels (going_into name past) 0 (global_call s.root element place))
    → AllEnd s (entered s levels (going_into name past) 0 (global_call s.root element place))
    → AllFound s records (entered s levels (going_into name past) 0 (global_call s.root element place))
evaluated_found s past records name zero place element h of_run ends = λ i m. absurd m
evaluated_found s past records name (suc room) place element h of_run ends =
    let j : Instantiation NodeRef = record { call = global_call s.root element place; below = room; past = going_into name past } in
    let last : IsIn j (nested_in s j ++ j ∷ []) = in_right j (nested_in s j) (j ∷ []) (inl refl) in
    let r : Repeats s h.evaluation j = record {
      target = ap (λ (c : Call NodeRef). c.target) h.call;
      node = ap (λ (c : Call NodeRef). c.node) h.call;
      parameters = ap (λ (c : Call NodeRef). c.parameters) h.call;
      position = ap (λ (c : Call NodeRef). c.position) h.call;
      size = ap (λ (c : Call NodeRef). c.size) h.call;
      ruling = ap (λ (c : Call NodeRef). c.ruling) h.call;
      one_ends = h.ends;
      other_ends = ends j last;
    } in
    all_found_again s records h.evaluation j h.more h.of_run (of_run j last) h.since r h.found

found_for : (s : Setting NodeRef) (past : Past NodeRef) (records : List (Kept NodeRef)) (name : Expanded) (levels : ℕ) (place : Place)
    (o : Option NodeRef) → element_named name s.globals ≡ o → IsRecorded s past.values records o
    → AreOfRun s (for_reference s (entered s levels) past name 0 place) → AllEnd s (for_reference s (entered s levels) past name 0 place)
    → AllFound s records (for_reference s (entered s levels) past name 0 place)
found_for s past records name levels place None is h of_run ends =
    none_found s records (for_reference s (entered s levels) past name 0 place) (reference_to_none s levels past name 0 place is)
found_for s past records name levels place (Some element) is h of_run ends =
    by_turn (binding_of name past.values) refl (list_any (same_name name) past.under) refl
  where
    by_turn : (v : Option (Value NodeRef)) → binding_of name past.values ≡ v → (t : Bool) → list_any (same_name name) past.under ≡ t
        → AllFound s records (for_reference s (entered s levels) past name 0 place)
    by_turn (Some v) e t u = none_found s records (for_reference s (entered s levels) past name 0 place) (reference_past s levels past name 0 place v e)
    by_turn None e true u = none_found s records (for_reference s (entered s levels) past name 0 place) (reference_under_way s levels past name 0 place u)
    by_turn None e false u =
        let same = reference_evaluated s levels past name 0 place element e u is in
        let R : List (Instantiation NodeRef) → Type 0 = λ is. AreOfRun s is in
        let A : List (Instantiation NodeRef) → Type 0 = λ is. AllEnd s is in
        let F : List (Instantiation NodeRef) → Type 0 = λ is. AllFound s records is in
        subst F (sym same) (evaluated_found s past records name levels place element h (subst R same of_run) (subst A same ends))

-- ---- What is looked up

abbrev with_entries : Reuse → List (Entry NodeRef) → Hand
with_entries reuse all = record { reuse = reuse; entries = all }

pub looked_idle : (globals : Globals) (name : Expanded) (levels : ℕ) (m : List (Entry NodeRef)) (r : Reference) (e : Given)
    → ((ask : Ask) (place : Place)
    → for_reference (setting_of ask globals) (entered (setting_of ask globals) levels) (past_of globals) name 0 place ≡ [])
    → IsGivenAt r e levels → CountsLooked r globals name levels m m
looked_idle globals name levels m (references.Evaluated n) e none is = tt
looked_idle globals name levels m (references.Given r) e none is = λ ask reuse place h.
    let s = setting_of ask globals in
    let past = past_of globals in
    let list = for_reference s (entered s levels) past name 0 place in (
      λ of_run ready. counted_none s past.values list reuse m m (none_found s (kept_by reuse) list (none ask place)) ready,
      idle r.value.entered list (none ask place),
    )
  where
    idle : (g : Given) (is : List (Instantiation NodeRef)) → is ≡ [] → IsIdle g is
    idle (given.Value v) is n = tt
    idle (given.Stream v) is n = tt
    idle (given.Refused why v) is n = tt
    idle given.UnderWay is n = n

pub looked_past : (globals : Globals) (name : Expanded) (levels : ℕ) (m : List (Entry NodeRef)) (r : Reference) (e : Given) (v : Value NodeRef)
    → first_named name (past_of globals).values ≡ Some v → IsGivenAt r e levels → CountsLooked r globals name levels m m
looked_past globals name levels m r e v found is =
    looked_idle globals name levels m r e (λ ask place. reference_past (setting_of ask globals) levels (past_of globals) name 0 place v
    (named_same name (past_of globals).values ∙ found)) is

pub looked_under : (globals : Globals) (name : Expanded) (levels : ℕ) (m : List (Entry NodeRef)) (r : Reference) (e : Given)
    → list_any (same_name name) (past_of globals).under ≡ true → IsGivenAt r e levels → CountsLooked r globals name levels m m
looked_under globals name levels m r e under is =
    looked_idle globals name levels m r e (λ ask place. reference_under_way (setting_of ask globals) levels (past_of globals) name 0 place under) is

pub looked_recalled : (globals : Globals) (name : Expanded) (levels : ℕ) (m : List (Entry NodeRef)) (r : Box Referred Allocator)
    (found : Option (Box Referred Allocator)) → Recalls found name levels m → found ≡ Some r → IsFrom r.value name m
    → CountsLooked (references.Given r) globals name levels m m
looked_recalled globals name levels m r found recalls is from = λ ask reuse place h.
    let s = setting_of ask globals in
    let past = past_of globals in
    let P : Option (Box Referred Allocator) → Type 0 = λ x. RecallsSo x s past m name levels in
    let settles = subst P is (recalls.so s past h) place in
    let list = for_reference s (entered s levels) past name 0 place in
    let same = equal_names from.entry.name name from.named in
    let element = ap (λ n. element_named n s.globals) (sym same) ∙ element_at s past.values m m from.entry from.among h.hold in (
      λ of_run ready. counted_none s past.values list reuse m m
          (found_for s past (kept_by reuse) name levels place from.entry.element element
          (recorded_at s past.values (kept_by reuse) m from.entry from.among ready.recorded) of_run
          (ends s past name levels place from.entry r.value.entered settles.gives.so from.value)) ready,
      idle r.value.entered from.entry from.value list,
    )
  where
    ends : (s : Setting NodeRef) (past : Past NodeRef) (name : Expanded) (levels : ℕ) (place : Place) (e : Entry NodeRef) (g : Given)
        → GivesSo g place (referred s (meaning s levels) past name 0 place) → IsValue g e
        → AllEnd s (for_reference s (entered s levels) past name 0 place)
    ends s past name levels place e (given.Value v) gives so =
        reference_ends s levels past name 0 place (Valued (value_of v)) (all_end s levels) gives
    ends s past name levels place e (given.Stream v) gives so = absurd so
    ends s past name levels place e (given.Refused why v) gives so = absurd so
    ends s past name levels place e given.UnderWay gives so = absurd so

    idle : (g : Given) (e : Entry NodeRef) → IsValue g e → (is : List (Instantiation NodeRef)) → IsIdle g is
    idle (given.Value v) e so is = tt
    idle (given.Stream v) e so is = tt
    idle (given.Refused why v) e so is = tt
    idle given.UnderWay e so is = absurd so

pub looked_none : (globals : Globals) (name : Expanded) (levels : ℕ) (m n : List (Entry NodeRef)) (r : Reference)
    → ((ask : Ask) → element_named name (setting_of ask globals).globals ≡ None) → IsGivenAs r (no_global name) levels
    → n ≡ m ++ no_global name ∷ [] → CountsLooked r globals name levels m n
looked_none globals name levels m n (references.Evaluated e) none is same = absurd is
looked_none globals name levels m n (references.Given r) none is same = λ ask reuse place h.
    let s = setting_of ask globals in
    let past = past_of globals in
    let list = for_reference s (entered s levels) past name 0 place in
    let empty : list ≡ [] = reference_to_none s levels past name 0 place (none ask) in
    let R : List (Entry NodeRef) → Type 0 = λ es. AreRecorded s past.values (kept_by reuse) es in (
      λ of_run ready. counted_none s past.values list reuse m n (none_found s (kept_by reuse) list empty)
          (record {
            recorded = subst R (sym same) (recorded_both s past.values (kept_by reuse) m (no_global name ∷ []) ready.recorded (tt, tt));
            within = ready.within;
          }),
      idle r.value.entered is.value list,
    )
  where
    idle : (g : Given) → IsValue g (no_global name) → (is : List (Instantiation NodeRef)) → IsIdle g is
    idle (given.Value v) so is = tt
    idle (given.Stream v) so is = tt
    idle (given.Refused why v) so is = tt
    idle given.UnderWay so is = absurd so

pub looked_given : (r : Reference) (e : Box Referred Allocator) (globals : Globals) (name : Expanded) (levels : ℕ) (old new : List (Entry NodeRef))
    → CountsLooked r globals name levels old new → r ≡ references.Given e → CountsLooked (references.Given e) globals name levels old new
looked_given r e globals name levels old new h is =
    let P : Reference → Type 0 = λ x. CountsLooked x globals name levels old new in subst P is h

-- ---- What is evaluated

-- what is set aside, and what is left
pub aside_ready : (s : Setting NodeRef) (values : List (Bound NodeRef)) (records : List (Kept NodeRef)) {name : Expanded}
    {aside old new : List (Entry NodeRef)} → IsAside name aside old new → AreRecorded s values records old
    → AreRecorded s values records aside × AreRecorded s values records new
aside_ready s values records all_aside h = (h, tt)
aside_ready s values records (none_aside none) h = (tt, h)

-- a value was evaluated with levels left
evaluation_recorded : (s : Setting NodeRef) (past : Past NodeRef) (records : List (Kept NodeRef)) (name : Expanded) (element : NodeRef)
    (levels : ℕ) (place : Place) (v : Value NodeRef)
    → held_by (meaning s levels (going_into name past) 0 (global_call s.root element place)) ≡ Known (Valued v)
    → AreOfRun s (entered s levels (going_into name past) 0 (global_call s.root element place))
    → AllEnd s (entered s levels (going_into name past) 0 (global_call s.root element place))
    → AllFound s records (entered s levels (going_into name past) 0 (global_call s.root element place))
    → IsRecordedOf s past.values records element
evaluation_recorded s past records name element zero place v held of_run ends found = absurd (cc)
evaluation_recorded s past records name element (suc room) place v held of_run ends found =
    let j : Instantiation NodeRef = record { call = global_call s.root element place; below = room; past = going_into name past } in
    let last : IsIn j (nested_in s j ++ j ∷ []) = in_right j (nested_in s j) (j ∷ []) (inl refl) in
    record {
      evaluation = j;
      place = place;
      more = [];
      call = refl;
      of_run = of_run j last;
      since = sym (append-nil past.values);
      ends = ends j last;
      found = found;
    }

-- what a global holds came to its end
pub held_goes : (content : Stream) (e : Ending NodeRef) (x : program.Given NodeRef) → held_by (record { content = content; ending = e }) ≡ Known x → GoesOn e
held_goes content Finished x h = tt
held_goes content (Gave v) x h = tt
held_goes content (Halted why) x h = absurd (cc)

-- nothing needs itself in two places
abbrev at_one : Place
at_one = record { module_name = None; path = [] }

abbrev at_other : Place
at_other = record { module_name = None; path = 0 ∷ [] }

abbrev way_in : Supplied NodeRef → ℕ
way_in (Known given) = 0
way_in (Failed why) = length why.place.path

never_round : (x : Supplied NodeRef) → x ≡ needs_itself at_one → x ≡ needs_itself at_other → ⊥
never_round x e f =
    let same = ap way_in (sym e ∙ f) in
    omega (arith, same)

module _ (s : Setting NodeRef) (past : Past NodeRef) (name : Expanded) (element : NodeRef) (place : Place) (levels : ℕ)
    (aside old mid new last : List (Entry NodeRef)) (before after : Reuse) where
  counts_all : (o : Came) (r : Referred) → IsAnew s past name element → IsAside name aside old mid
      → CountsOver s past.values (entered s levels (going_into name past) 0 (global_call s.root element place)) (with_entries before mid) (with_entries after new)
      → outcome_of o ≡ meaning s levels (going_into name past) 0 (global_call s.root element place)
      → IsEvaluated r o name element levels aside new last
      → CountsOver s past.values (for_reference s (entered s levels) past name 0 place) (with_entries before old) (with_entries after last)
  counts_all o r anew is over means result of_run ready =
      let e = named_same name past.values ∙ anew.not_past in
      let same = reference_evaluated s levels past name 0 place element e anew.apart anew.element_is in
      let R : List (Instantiation NodeRef) → Type 0 = λ is. AreOfRun s is in
      let here = subst R same of_run in
      let parts = aside_ready s past.values (kept_by before) is ready.recorded in
      let y = over here (record { recorded = parts.1; within = ready.within }) in
      let C : List (Instantiation NodeRef) → Type 0 = λ is. Counted s past.values is (with_entries before old) (with_entries after last) in
      let A : List (Entry NodeRef) → Type 0 = λ es. AreRecorded s past.values (kept_by after) es in
      let set_aside = recorded_later s past.values (kept_by before) (kept_by after) aside y.more parts.0 in
      let all = recorded_both s past.values (kept_by after) (new ++ aside) (remembered_as name element (levels - o.spare) (outcome_of o).content r.entered)
      (recorded_both s past.values (kept_by after) new aside y.ready.recorded set_aside) (one r.entered (result.gives place).so here y.keeps.found) in
      subst C (sym same) (record {
        list = y.list;
        enters = y.enters;
        ran = y.ran;
        stands = y.stands;
        more = y.more;
        only = y.only;
        keeps = y.keeps;
        ready = record { recorded = subst A (sym result.remembered) all; within = y.ready.within };
      })
    where
      list : List (Instantiation NodeRef)
      list = entered s levels (going_into name past) 0 (global_call s.root element place)

      one : (g : Given) → GivesSo g place (held_by (outcome_of o)) → AreOfRun s list
          → ((i : Instantiation NodeRef) → IsIn i list → GoesOn (own_of s i).ending → IsFound s (kept_by after) i)
          → AreRecorded s past.values (kept_by after) (remembered_as name element (levels - o.spare) (outcome_of o).content g)
      one (given.Value v) gives here found =
          let m = meaning s levels (going_into name past) 0 (global_call s.root element place) in
          let held : held_by m ≡ Known (Valued (value_of v)) = ap held_by (sym means) ∙ gives in
          let ends : AllEnd s list = all_end s levels (going_into name past) 0 (global_call s.root element place)
          (held_goes m.content m.ending (Valued (value_of v)) held) in
          (evaluation_recorded s past (kept_by after) name element levels place (value_of v) held here ends (λ i k. found i k (ends i k)), tt)
      one (given.Stream v) gives here found = absurd gives
      one (given.Refused why v) gives here found = tt
      one given.UnderWay gives here found = tt

idle_evaluated : (r : Referred) (x : Supplied NodeRef) (is : List (Instantiation NodeRef)) → ((place : Place) → Gives r.entered place x) → IsIdle r.entered is
idle_evaluated r x is gives = go r.entered (gives at_one).so (gives at_other).so
  where
    go : (g : Given) → GivesSo g at_one x → GivesSo g at_other x → IsIdle g is
    go (given.Value v) h k = tt
    go (given.Stream v) h k = tt
    go (given.Refused why v) h k = tt
    go given.UnderWay h k = absurd (never_round x h k)

pub counts_evaluated : (s : Setting NodeRef) (past : Past NodeRef) (name : Expanded) (under : List Expanded) (element : NodeRef) (place : Place)
    (levels : ℕ) (call : Call NodeRef) (aside old mid new last : List (Entry NodeRef)) (before after : Reuse)
    (came : Result (Box Came Allocator) Memory) (result : Result (Box Referred Allocator) Memory)
    → under ≡ name ∷ past.under → call ≡ global_call s.root element place → IsAnew s past name element → IsAside name aside old mid
    → OnOk came (CountsOver s past.values (entered s levels (record { values = past.values; under = under }) 0 call) (with_entries before mid)
    (with_entries after new))
    → IfOk came (λ o. outcome_of o.value ≡ meaning s levels (record { values = past.values; under = under }) 0 call)
    → IfOk result (λ r. Evaluates r.value came name element levels aside new last)
    → OnOk result (CountsOver s past.values (for_reference s (entered s levels) past name 0 place) (with_entries before old) (with_entries after last))
counts_evaluated s past name under element place levels call aside old mid new last before after came (Err m) e f anew is over means result = tt
counts_evaluated s past name under element place levels call aside old mid new last before after (Err m) (Ok r) e f anew is over means result =
    absurd result
counts_evaluated s past name under element place levels call aside old mid new last before after (Ok o) (Ok r) e f anew is over means result =
    let C : List Expanded → Type 0 = λ u. CountsOver s past.values (entered s levels (record { values = past.values; under = u }) 0 call)
    (with_entries before mid) (with_entries after new) in
    let D : Call NodeRef → Type 0 = λ c. CountsOver s past.values (entered s levels (going_into name past) 0 c) (with_entries before mid)
    (with_entries after new) in
    let meant = means ∙ ap (λ u. meaning s levels (record { values = past.values; under = u }) 0 call) e ∙ ap (meaning s levels (going_into name past) 0) f in
    counts_all s past name element place levels aside old mid new last before after o.value r.value anew is (subst D f (subst C e over)) meant result

pub evaluated_idle : (came : Result (Box Came Allocator) Memory) (result : Result (Box Referred Allocator) Memory) (name : Expanded)
    (element : NodeRef) (levels : ℕ) (aside old new : List (Entry NodeRef)) (is : List (Instantiation NodeRef))
    → IfOk result (λ r. Evaluates r.value came name element levels aside old new) → IfOk result (λ r. IsIdle r.value.entered is)
evaluated_idle came (Err m) name element levels aside old new is h = tt
evaluated_idle (Err m) (Ok r) name element levels aside old new is h = absurd h
evaluated_idle (Ok o) (Ok r) name element levels aside old new is h = idle_evaluated r.value (held_by (outcome_of o.value)) is h.gives
