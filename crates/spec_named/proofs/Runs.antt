-- What calls mean in such a world, and what whole runs write there, is well written.
use Rattle.std.proofs.Common.{ℕ, zero, suc, Bool, true, false, cond, List, [], ◌∷◌, ◌++◌, Option, None, Some}
use Rattle.std.specs.Prelude.{nat_lt}
use Rattle.std.specs.List.{list_any}
use Rattle.spec_document.specs.Name.{Expanded, same_name}
use Rattle.spec_stylesheet.specs.Place.{Place}
use Rattle.spec_meaning.specs.Stream as stream
use Rattle.spec_meaning.specs.Stream.{Stream, followed, filled}
use Rattle.spec_meaning.specs.Value.{Value}
use Rattle.spec_meaning.specs.Question.{Question, Answer}
use Rattle.spec_meaning.specs.Program.{Wanted, Position, Size, Rule, Global, Given}
use Rattle.spec_meaning.specs.Context.{Bound}
use Rattle.spec_result.specs.Recovery.{messages_of}
use Rattle.spec_run.specs.Plan.{Refused, nowhere, Call, Plan, wrapped, aside_of}
use Rattle.spec_run.specs.Direct.{quiet, Supplied, Known, Failed, Ending, Finished, Gave, Halted, Outcome, top_after, outer_after, if_known}
use Rattle.spec_run.specs.Direct.{unless_refused, direct}
use Rattle.spec_run.specs.Meaning.{NamedGlobal, Setting, Past, going_into, held_by, element_named, global_call, refer, evaluated, supplied, settled}
use Rattle.spec_run.specs.Meaning.{meaning, Whole, at_turn, after_turn, value_of, run, root_call, levels_of_a_run, run_of}
use Rattle.spec_named.proofs.Streams.{IsWell, AreWell, followed_well, filled_well, quiet_well, wrapped_well, top_well, outer_well, closed_well}
use Rattle.spec_named.proofs.Programs.{IsWellValue, text, fragment, AreWellBound, IsWellGiven, counted, ruled, valued}
use Rattle.spec_named.proofs.Plans.{IsWellPlan, ends, yields, stops, inquires, uses, puts, begins, wraps, takes, deepens, enters, IsWellWorld}
use Rattle.spec_named.proofs.Plans.{plan_of_well}

-- ---- One instantiation

data IsWellEnding {N : Type 0} : Ending N → Type 0 where
  finished : IsWellEnding Finished
  gave : {v : Value N} → IsWellValue v → IsWellEnding (Gave v)
  halted : {why : Refused} → IsWellEnding (Halted why)

record IsWellOutcome {N : Type 0} (o : Outcome N) : Type 0 where
  content : IsWell o.content
  ending : IsWellEnding o.ending

data IsWellSupplied {N : Type 0} : Supplied N → Type 0 where
  known : {g : Given N} → IsWellGiven g → IsWellSupplied (Known g)
  failed : {why : Refused} → IsWellSupplied (Failed why)

if_known_well : {N : Type 0} {f : Given N → Outcome N} → ((g : Given N) → IsWellGiven g → IsWellOutcome (f g)) → (top : Stream) (outer : List Stream)
    → IsWell top → AreWell outer → {s : Supplied N} → IsWellSupplied s → IsWellOutcome (if_known f top outer s)
if_known_well later top outer t o (known h) = later _ h
if_known_well later top outer t o failed = record { content = closed_well top outer t o; ending = halted }

unless_refused_well : {N : Type 0} {o : Outcome N} (top : Stream) (outer : List Stream) → IsWellOutcome o → IsWell top → AreWell outer
    → {e : Ending N} → IsWellEnding e
    → IsWellOutcome (unless_refused o top outer e)
unless_refused_well top outer h t o finished = h
unless_refused_well top outer h t o (gave v) = h
unless_refused_well top outer h t o halted = record { content = closed_well top outer t o; ending = halted }

either_outcome : {N : Type 0} (b : Bool) {o p : Outcome N} → IsWellOutcome o → IsWellOutcome p → IsWellOutcome (cond b o p)
either_outcome true h g = h
either_outcome false h g = g

direct_well : {N : Type 0} (ask : Question N → Answer N) (supply : Wanted → ℕ → Place → Supplied N) (nested : ℕ → Call N → Outcome N) (room : ℕ)
    → ((wanted : Wanted) (depth : ℕ) (place : Place) → IsWellSupplied (supply wanted depth place))
    → ((depth : ℕ) (c : Call N) → AreWellBound c.parameters → IsWellOutcome (nested depth c))
    → {p : Plan N} → IsWellPlan ask p → (top : Stream) (outer : List Stream) → IsWell top → AreWell outer
    → IsWellOutcome (direct ask supply nested room p top outer)
direct_well ask supply nested room s m ends top outer t o = record { content = closed_well top outer t o; ending = finished }
direct_well ask supply nested room s m (yields h) top outer t o = record { content = closed_well top outer t o; ending = gave h }
direct_well ask supply nested room s m stops top outer t o = record { content = closed_well top outer t o; ending = halted }
direct_well ask supply nested room s m (inquires h) top outer t o = direct_well ask supply nested room s m h top outer t o
direct_well ask supply nested room s m (uses {wanted = wanted} {depth = depth} {place = place} next) top outer t o =
    if_known_well (λ g e. direct_well ask supply nested room s m (next g e) top outer t o) top outer t o (s wanted depth place)
direct_well ask supply nested room s m (puts {items = items} i h) top outer t o =
    direct_well ask supply nested room s m h (followed top (filled items [])) outer (followed_well top (filled items []) t
    (filled_well items [] i tt)) o
direct_well ask supply nested room s m (begins h) top outer t o = direct_well ask supply nested room s m h stream.Ended (top ∷ outer) tt (t, o)
direct_well ask supply nested room s m (wraps {how = how} w h) top outer t o =
    direct_well ask supply nested room s m h (top_after (wrapped how top) top outer) (outer_after outer)
    (top_well (wrapped how top) top outer (wrapped_well how top w t) t o) (outer_well outer o)
direct_well ask supply nested room s m (takes next) top outer t o =
    direct_well ask supply nested room s m (next (quiet top) (quiet_well top t)) (top_after (aside_of top) top outer) (outer_after outer)
    (top_well (aside_of top) top outer tt t o) (outer_well outer o)
direct_well ask supply nested room s m (deepens {depth = depth} h) top outer t o =
    either_outcome (nat_lt room depth) (record { content = closed_well top outer t o; ending = halted })
    (direct_well ask supply nested room s m h top outer t o)
direct_well ask supply nested room s m (enters {call = call} {depth = depth} e h) top outer t o =
    let inner = m depth call e in
    let after = followed top (nested depth call).content in
    let well : IsWell after = followed_well top (nested depth call).content t inner.content in
    unless_refused_well after outer (direct_well ask supply nested room s m h after outer well o) well o inner.ending

-- ---- Globals

held_by_well : {N : Type 0} {o : Outcome N} → IsWellOutcome o → IsWellSupplied (held_by o)
held_by_well {N = N} {o = o} h = by h.ending
  where
    by : {e : Ending N} → IsWellEnding e
        → IsWellSupplied (held_by (record { content = o.content; ending = e }))
    by finished = known (valued (fragment (quiet_well o.content h.content)))
    by (gave v) = known (valued v)
    by halted = failed

either_supplied : {N : Type 0} (b : Bool) {s t : Supplied N} → IsWellSupplied s → IsWellSupplied t → IsWellSupplied (cond b s t)
either_supplied true h g = h
either_supplied false h g = g

refer_well : {N : Type 0} (name : Expanded) (place : Place) (bs : List (Bound N)) → AreWellBound bs → (is_under : Bool) {now : Supplied N}
    → IsWellSupplied now
    → IsWellSupplied (refer name place bs is_under now)
refer_well name place [] h is_under now = either_supplied is_under failed now
refer_well name place (b ∷ bs) h is_under now = either_supplied (same_name b.name name) (known (valued h.0))
    (refer_well name place bs h.1 is_under now)

-- what calls mean
abbrev Means : {N : Type 0} → (Past N → ℕ → Call N → Outcome N) → Type 0
Means {N = N} means = (past : Past N) → AreWellBound past.values → (depth : ℕ) (c : Call N) → AreWellBound c.parameters
    → IsWellOutcome (means past depth c)

evaluated_well : {N : Type 0} (s : Setting N) {means : Past N → ℕ → Call N → Outcome N} → Means means → (past : Past N) → AreWellBound past.values
    → (name : Expanded) (depth : ℕ) (place : Place) (o : Option N) → IsWellSupplied (evaluated s means past name depth place o)
evaluated_well s well past h name depth place None = known (valued text)
evaluated_well s well past h name depth place (Some element) = held_by_well (well (going_into name past) h depth
    (global_call s.root element place) tt)

supplied_well : {N : Type 0} (c : Call N) (globals : Expanded → ℕ → Place → Supplied N)
    → ((name : Expanded) (depth : ℕ) (place : Place) → IsWellSupplied (globals name depth place))
    → (wanted : Wanted) (depth : ℕ) (place : Place) → IsWellSupplied (supplied c globals wanted depth place)
supplied_well c globals h Position depth place = known counted
supplied_well c globals h Size depth place = known counted
supplied_well c globals h Rule depth place = known ruled
supplied_well c globals h (Global name) depth place = h name depth place

-- ---- Calls

meaning_well : {N : Type 0} (s : Setting N) → IsWellWorld s.ask → (levels : ℕ) → Means (meaning s levels)
meaning_well s world zero past h depth c values = record { content = tt; ending = halted }
meaning_well s world (suc room) past h zero c values =
    direct_well s.ask _ _ room
    (supplied_well c _ (λ name depth place. refer_well name place past.values h (list_any (same_name name) past.under)
    (evaluated_well s (meaning_well s world room) past h name depth place (element_named name s.globals))))
    (λ depth inner g. meaning_well s world room past h depth (settled c inner) g)
    (plan_of_well world s.same c values) stream.Ended [] tt tt
meaning_well s world (suc room) past h (suc depth) c values = meaning_well s world room past h depth c values

-- ---- The run

bound_more : {N : Type 0} (bs : List (Bound N)) (b : Bound N) → AreWellBound bs → IsWellValue b.value → AreWellBound (bs ++ b ∷ [])
bound_more [] b h g = (g, tt)
bound_more (a ∷ bs) b h g = (h.0, bound_more bs b h.1 g)

value_well : {N : Type 0} {g : Given N} → IsWellGiven g → IsWellValue (value_of g)
value_well counted = text
value_well ruled = text
value_well (valued h) = h

after_turn_well : {N : Type 0} (k : Given N → Whole) → ((g : Given N) → IsWellGiven g → IsWell (k g).content)
    → (told : List (List ℕ)) {s : Supplied N}
    → IsWellSupplied s → IsWell (after_turn k told s).content
after_turn_well k later told (known h) = later _ h
after_turn_well k later told failed = tt

run_well : {N : Type 0} (s : Setting N) → IsWellWorld s.ask → (levels : ℕ) (gs : List (NamedGlobal N)) (values : List (Bound N)) → AreWellBound values
    → (told : List (List ℕ)) (c : Call N) → AreWellBound c.parameters → IsWell (run s levels gs values told c).content
run_well s world levels [] values h told c given = (meaning_well s world levels (at_turn values) h 0 c given).content
run_well s world levels (g ∷ gs) values h told c given =
    let o = meaning s levels (going_into g.name (at_turn values)) 0 (global_call s.root g.element nowhere) in
    after_turn_well _ (λ x e. run_well s world levels gs (values ++ record { name = g.name; value = value_of x } ∷ [])
    (bound_more values (record { name = g.name; value = value_of x }) h (value_well e)) (told ++ messages_of o.content) c given)
    (told ++ messages_of o.content)
    (held_by_well (meaning_well s world levels (going_into g.name (at_turn values)) h 0 (global_call s.root g.element nowhere) tt))

pub run_of_well : {N : Type 0} (s : Setting N) → IsWellWorld s.ask → IsWell (run_of s).content
run_of_well s world = run_well s world levels_of_a_run s.globals [] tt [] (root_call s) tt
