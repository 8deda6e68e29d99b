-- What a run enters where the turns of all globals are past that it sees: what was kept, record by record.
use Rattle.std.proofs.Common.{◌≡◌, ℕ, zero, suc, ◌-◌, List, [], ◌∷◌, ◌++◌, Bool, true, false, cond, refl, sym, ap, subst, ◌∙◌, arith, append_assoc}
use Rattle.std.specs.Prelude.{Some}
use Rattle.std.specs.List.{list_any}
use Rattle.spec_document.specs.Name.{Expanded, same_name}
use Rattle.spec_meaning.specs.Stream.{Stream, filled}
use Rattle.spec_meaning.specs.Value.{Value}
use Rattle.spec_meaning.specs.Program.{Position, Size, Rule, Global}
use Rattle.spec_meaning.specs.Context.{Bound, binding_of}
use Rattle.spec_meaning.specs.Related.{Each, none, more}
use Rattle.spec_meaning.proofs.Matching.{each_append}
use Rattle.spec_run.specs.Plan.{Call}
use Rattle.spec_run.specs.Going.{Event, Asked, Saw, Entered, Held, Owned}
use Rattle.spec_run.specs.Trail.{Kept, kept_as}
use Rattle.spec_run.specs.Meaning.{Setting, Past, going_into, global_call, element_named, settled}
use Rattle.spec_reuse.specs.Instantiation.{Instantiation, inside, own_of, entered_along, unless_past, for_element, for_reference, entered}
use Rattle.spec_reuse.specs.Serving.{taken_for, Fits}
use Rattle.spec_reuse.specs.Record as record_of
use Rattle.spec_reuse.specs.Record.{Runs, ran, records_in, streams_in, AreRunsAlong, IsRunOf, IsRecordOf, StayAlong}
use Rattle.spec_reuse.proofs.Comes.{goes_again, goes_along}

-- depth is taken of the levels
pub entered_at : {N : Type 0} (s : Setting N) (room : ℕ) (past : Past N) (depth : ℕ) (c : Call N)
    → entered s room past depth c ≡ entered s (room - depth) past zero c
entered_at s zero past depth c = let e : zero - depth ≡ zero = omega arith in rw e refl
entered_at s (suc room) past zero c = let e : suc room - zero ≡ suc room = omega arith in rw e refl
entered_at s (suc room) past (suc depth) c = let e : suc room - suc depth ≡ room - depth = omega arith in rw e (entered_at s room past depth c)

none_where_past : {N : Type 0} (name : Expanded) (bs : List (Bound N)) (is_under : Bool) (is : List (Instantiation N)) (v : Value N)
    → binding_of name bs ≡ Some v → unless_past name bs is_under is ≡ []
none_where_past name [] is_under is v e = absurd (cc)
none_where_past {N = N} name (b ∷ bs) is_under is v e = go (same_name b.name name) e (λ i. none_where_past name bs is_under is v i)
  where
    go : (x : Bool) → cond x (Some b.value) (binding_of name bs) ≡ Some v → (binding_of name bs ≡ Some v → unless_past name bs is_under is ≡ [])
        → cond x [] (unless_past name bs is_under is) ≡ []
    go true i f = refl
    go false i f = f i

-- what it enters in all
abbrev pub all_entered : {N : Type 0} → Setting N → Instantiation N → List (Event N) → List (Instantiation N)
all_entered s i es =
    entered_along (λ depth inner. entered s i.below i.past depth (settled i.call inner)) (for_reference s (entered s i.below) i.past) es

-- of an instantiation that goes as a record says
is_record : {N : Type 0} (s : Setting N) (i : Instantiation N) (kept : Kept N) (below : Runs N) → Fits s i kept
    → AreRunsAlong s i kept.trace [] below → IsRecordOf s i kept
is_record {N = N} s i kept below f a =
    let own = goes_again s i kept below f (goes_along s i kept.trace [] below a) in
    record { of_call = f.of_call; same = ap (taken_for i.call) f.lasting.is ∙ sym (ap (λ (o : Owned N). kept_as i.call o.going o.ending) own) }

own_trace : {N : Type 0} (s : Setting N) (i : Instantiation N) (kept : Kept N) → IsRecordOf s i kept → kept.trace ≡ (own_of s i).going.trace
own_trace {N = N} s i kept r = ap (λ (k : Kept N). k.trace) r.same

entered_so : {N : Type 0} (s : Setting N) (i : Instantiation N) (kept : Kept N) (below : Runs N) → IsRecordOf s i kept
    → Each (IsRecordOf s) (all_entered s i kept.trace) (records_in below)
    → Each (IsRecordOf s) (entered s (suc i.below) i.past zero i.call) (records_in below ++ kept ∷ [])
entered_so {N = N} s i kept below r inner =
    let P : List (Event N) → Type 0 = λ es. Each (IsRecordOf s) (all_entered s i es) (records_in below) in
    each_append (subst P (own_trace s i kept r) inner) (more r none)

entered_are : {N : Type 0} (s : Setting N) (i : Instantiation N) (es : List (Event N)) (streams : List Stream) (runs : Runs N)
    → AreRunsAlong s i es streams runs → StayAlong s i es runs → Each (IsRecordOf s) (all_entered s i es) (records_in runs)
entered_are s i [] streams record_of.none a h = none
entered_are s i [] streams (ran kept inner rest) a h = absurd a
entered_are s i (Asked question answer ∷ es) streams runs a h = entered_are s i es streams runs a.1 h.1
entered_are s i (Saw Position depth place x ∷ es) streams runs a h = entered_are s i es streams runs a.1 h.1
entered_are s i (Saw Size depth place x ∷ es) streams runs a h = entered_are s i es streams runs a.1 h.1
entered_are s i (Saw Rule depth place x ∷ es) streams runs a h = entered_are s i es streams runs a.1 h.1
entered_are {N = N} s i (Saw (Global name) depth place x ∷ es) streams runs a h =
    let no_more = none_where_past name i.past.values (list_any (same_name name) i.past.under)
    (for_element (λ element. entered s i.below (going_into name i.past) depth (global_call s.root element place)) (element_named name s.globals))
    h.0.0 h.0.1 in
    let P : List (Instantiation N) → Type 0 = λ is. Each (IsRecordOf s) (is ++ all_entered s i es) (records_in runs) in
    subst P (sym no_more) (entered_are s i es streams runs a.1 h.1)
entered_are s i (Held first contents ∷ es) streams runs a h = entered_are s i es streams runs a.1 h
entered_are s i (Entered call depth ∷ es) streams record_of.none a h = absurd a
entered_are {N = N} s i (Entered call depth ∷ es) streams (ran kept inner rest) a h =
    let levels = a.0 in
    let j = inside i depth call in
    let left : i.below - depth ≡ suc (i.below - suc depth) = omega (arith, levels) in
    let at : entered s i.below i.past depth (settled i.call call) ≡ entered s (suc j.below) i.past zero (settled i.call call) =
    entered_at s i.below i.past depth (settled i.call call) ∙ ap (λ n. entered s n i.past zero (settled i.call call)) left in
    let here = entered_so s j kept inner (is_record s j kept inner a.1 a.2) (entered_are s j kept.trace [] inner a.2 h.1) in
    let others = entered_are s i es (streams ++ filled kept.content (streams_in inner) ∷ []) rest a.3 h.2 in
    let P : List (Instantiation N) → Type 0 = λ is. Each (IsRecordOf s) (is ++ all_entered s i es)
    ((records_in inner ++ kept ∷ []) ++ records_in rest) in
    let Q : List (Kept N) → Type 0 = λ ks. Each (IsRecordOf s) (all_entered s i (Entered call depth ∷ es)) ks in
    subst Q (append_assoc (records_in inner) (kept ∷ []) (records_in rest)) (subst P (sym at) (each_append here others))

pub runs_are_entered : {N : Type 0} (s : Setting N) (i : Instantiation N) (kept : Kept N) (below : Runs N) → IsRunOf s i kept below
    → StayAlong s i kept.trace below
    → Each (IsRecordOf s) (entered s (suc i.below) i.past zero i.call) (records_in (ran kept below record_of.none))
runs_are_entered s i kept below r h =
    entered_so s i kept below (is_record s i kept below r.fits r.entered) (entered_are s i kept.trace [] below r.entered h)
