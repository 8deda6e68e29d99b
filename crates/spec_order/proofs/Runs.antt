-- What a global holds is in order.
use Rattle.std.proofs.Common.{ℕ, zero, suc, List, [], ◌∷◌, ◌++◌, Bool, true, false, cond, Option, None, Some, subst}
use Rattle.std.specs.Prelude.{nat_lt}
use Rattle.std.specs.List.{list_any}
use Rattle.spec_document.specs.Name.{Expanded, same_name}
use Rattle.spec_stylesheet.specs.Place.{Place}
use Rattle.spec_meaning.specs.Stream as stream
use Rattle.spec_meaning.specs.Stream.{Stream, followed, filled}
use Rattle.spec_meaning.specs.Value as value
use Rattle.spec_meaning.specs.Question.{Question, Answer}
use Rattle.spec_meaning.specs.Program.{Wanted, Position, Size, Rule, Global, Given, Counted, Ruled, Valued}
use Rattle.spec_meaning.specs.Context.{Bound}
use Rattle.spec_run.specs.Plan.{Call, Plan, nowhere}
use Rattle.spec_run.specs.Direct.{quiet, Supplied, Known, Failed, Ending, Finished, Gave, Halted, Outcome, if_known, unless_refused, direct}
use Rattle.spec_run.specs.Content.{plan_of}
use Rattle.spec_run.specs.Meaning.{Setting, Past, going_into, global_call, held_by, element_named, needs_itself, refer, evaluated, referred}
use Rattle.spec_run.specs.Meaning.{supplied, meaning, at_turn, value_of}
use Rattle.spec_order.specs.NodeSet.{IsInOrder, WorldIsInOrder, VariablesAreInOrder}
use Rattle.spec_order.specs.Run as run
use Rattle.spec_order.specs.Run.{KeepsOrder, IsGivenInOrder, ArePast, none_yet, one_more, yields, stops, inquires, uses, puts, begins, wraps}
use Rattle.spec_order.specs.Run.{takes, goes_deep, enters}
use Rattle.spec_order.proofs.Plans.{plan_of_keeps}

-- the value that an instantiation gives
abbrev pub IsLastInOrder : {N : Type 0} → (N → N → Bool) → Ending N → Type 0
IsLastInOrder before Finished = Unit {0}
IsLastInOrder before (Gave v) = IsInOrder before v
IsLastInOrder before (Halted why) = Unit {0}

if_known_ends : {N : Type 0} (before : N → N → Bool) (f : Given N → Outcome N) (top : Stream) (outer : List Stream) (s : Supplied N)
    → IsGivenInOrder before s → ((g : Given N) → IsGivenInOrder before (Known g) → IsLastInOrder before (f g).ending)
    → IsLastInOrder before (if_known f top outer s).ending
if_known_ends before f top outer (Known g) h later = later g h
if_known_ends before f top outer (Failed why) h later = tt

either_last : {N : Type 0} (before : N → N → Bool) (b : Bool) (o p : Outcome N) → IsLastInOrder before o.ending → IsLastInOrder before p.ending
    → IsLastInOrder before (cond b o p).ending
either_last before true o p h g = h
either_last before false o p h g = g

unless_ends : {N : Type 0} (before : N → N → Bool) (o : Outcome N) (top : Stream) (outer : List Stream) (e : Ending N) → IsLastInOrder before o.ending
    → IsLastInOrder before (unless_refused o top outer e).ending
unless_ends before o top outer Finished h = h
unless_ends before o top outer (Gave v) h = h
unless_ends before o top outer (Halted why) h = tt

direct_ends : {N : Type 0} (before : N → N → Bool) (ask : Question N → Answer N) (supply : Wanted → ℕ → Place → Supplied N)
    (nested : ℕ → Call N → Outcome N) (room : ℕ) → WorldIsInOrder before ask
    → ((w : Wanted) (depth : ℕ) (place : Place) → IsGivenInOrder before (supply w depth place))
    → (p : Plan N) → KeepsOrder before p → (top : Stream) (outer : List Stream)
    → IsLastInOrder before (direct ask supply nested room p top outer).ending
direct_ends before ask supply nested room w s _ run.ends top outer = tt
direct_ends before ask supply nested room w s _ (yields h) top outer = h
direct_ends before ask supply nested room w s _ stops top outer = tt
direct_ends before ask supply nested room w s _ (inquires {q = q} next) top outer =
    direct_ends before ask supply nested room w s _ (next (ask q) (w q)) top outer
direct_ends before ask supply nested room w s _ (uses {w = wanted} {depth = depth} {place = place} {next = k} next) top outer =
    if_known_ends before (λ g. direct ask supply nested room (k g) top outer) top outer (supply wanted depth place) (s wanted depth place)
    (λ g h. direct_ends before ask supply nested room w s _ (next g h) top outer)
direct_ends before ask supply nested room w s _ (puts h) top outer = direct_ends before ask supply nested room w s _ h _ outer
direct_ends before ask supply nested room w s _ (begins h) top outer = direct_ends before ask supply nested room w s _ h _ _
direct_ends before ask supply nested room w s _ (wraps h) top outer = direct_ends before ask supply nested room w s _ h _ _
direct_ends before ask supply nested room w s _ (takes next) top outer = direct_ends before ask supply nested room w s _ (next (quiet top)) _ _
direct_ends before ask supply nested room w s _ (goes_deep {depth = depth} h) top outer =
    either_last before (nat_lt room depth) _ _ tt (direct_ends before ask supply nested room w s _ h top outer)
direct_ends before ask supply nested room w s _ (enters {c = c} {depth = depth} e h) top outer =
    unless_ends before _ (followed top (nested depth c).content) outer (nested depth c).ending
    (direct_ends before ask supply nested room w s _ h (followed top (nested depth c).content) outer)

-- ---- globals
held_in_order : {N : Type 0} (before : N → N → Bool) (o : Outcome N) → IsLastInOrder before o.ending → IsGivenInOrder before (held_by o)
held_in_order {N} before o = go o.ending
  where
    go : (e : Ending N) → IsLastInOrder before e → IsGivenInOrder before (elim e [
      | Finished ↦ Known (Valued (value.Fragment (quiet o.content)))
      | Gave v ↦ Known (Valued v)
      | Halted why ↦ Failed why
    ])
    go Finished h = tt
    go (Gave v) h = h
    go (Halted why) h = tt

either_given : {N : Type 0} (before : N → N → Bool) (b : Bool) (s t : Supplied N) → IsGivenInOrder before s → IsGivenInOrder before t
    → IsGivenInOrder before (cond b s t)
either_given before true s t h g = h
either_given before false s t h g = g

refer_in_order : {N : Type 0} (before : N → N → Bool) (name : Expanded) (place : Place) (bs : List (Bound N)) → VariablesAreInOrder before bs
    → (is_under : Bool) (now : Supplied N) → IsGivenInOrder before now → IsGivenInOrder before (refer name place bs is_under now)
refer_in_order before name place [] order is_under now h = either_given before is_under (needs_itself place) now tt h
refer_in_order before name place (b ∷ bs) order is_under now h =
    either_given before (same_name b.name name) (Known (Valued b.value)) _ order.0 (refer_in_order before name place bs order.1 is_under now h)

-- what calls give that pass values in order
abbrev Means : {N : Type 0} → (N → N → Bool) → (Past N → ℕ → Call N → Outcome N) → Type 0
Means {N = N} before means =
    (past : Past N) → VariablesAreInOrder before past.values → (depth : ℕ) (c : Call N) → VariablesAreInOrder before c.parameters
    → IsLastInOrder before (means past depth c).ending

evaluated_in_order : {N : Type 0} (before : N → N → Bool) (s : Setting N) (means : Past N → ℕ → Call N → Outcome N) → Means before means
    → (past : Past N) → VariablesAreInOrder before past.values → (name : Expanded) (depth : ℕ) (place : Place) (element : Option N)
    → IsGivenInOrder before (evaluated s means past name depth place element)
evaluated_in_order before s means m past order name depth place None = tt
evaluated_in_order before s means m past order name depth place (Some element) =
    held_in_order before (means (going_into name past) depth (global_call s.root element place))
    (m (going_into name past) order depth (global_call s.root element place) tt)

referred_in_order : {N : Type 0} (before : N → N → Bool) (s : Setting N) (means : Past N → ℕ → Call N → Outcome N) → Means before means
    → (past : Past N) → VariablesAreInOrder before past.values → (name : Expanded) (depth : ℕ) (place : Place)
    → IsGivenInOrder before (referred s means past name depth place)
referred_in_order before s means m past order name depth place =
    refer_in_order before name place past.values order (list_any (same_name name) past.under) _
    (evaluated_in_order before s means m past order name depth place (element_named name s.globals))

supplied_in_order : {N : Type 0} (before : N → N → Bool) (c : Call N) (globals : Expanded → ℕ → Place → Supplied N)
    → ((name : Expanded) (depth : ℕ) (place : Place) → IsGivenInOrder before (globals name depth place))
    → (w : Wanted) (depth : ℕ) (place : Place) → IsGivenInOrder before (supplied c globals w depth place)
supplied_in_order before c globals h Position depth place = tt
supplied_in_order before c globals h Size depth place = tt
supplied_in_order before c globals h Rule depth place = tt
supplied_in_order before c globals h (Global name) depth place = h name depth place

-- what a call gives
meaning_in_order : {N : Type 0} (before : N → N → Bool) (s : Setting N) → WorldIsInOrder before s.ask → (levels : ℕ) → Means before (meaning s levels)
meaning_in_order before s world zero past order depth c there = tt
meaning_in_order before s world (suc room) past order zero c there =
    direct_ends before s.ask _ _ room world
    (supplied_in_order before c _ (λ name depth place.
    referred_in_order before s (meaning s room) (meaning_in_order before s world room) past order name depth place))
    (plan_of s.same c) (plan_of_keeps before s.same c there) stream.Ended []
meaning_in_order before s world (suc room) past order (suc depth) c there = meaning_in_order before s world room past order depth c there

one_more_in_order : {N : Type 0} (before : N → N → Bool) (values : List (Bound N)) (b : Bound N) → VariablesAreInOrder before values
    → IsInOrder before b.value
    → VariablesAreInOrder before (values ++ b ∷ [])
one_more_in_order before [] b h g = (g, tt)
one_more_in_order before (v ∷ vs) b h g = (h.0, one_more_in_order before vs b h.1 g)

given_value : {N : Type 0} (before : N → N → Bool) (g : Given N) → IsGivenInOrder before (Known g) → IsInOrder before (value_of g)
given_value before (Counted n) h = tt
given_value before (Ruled rule) h = tt
given_value before (Valued v) h = h

past_in_order : {N : Type 0} (before : N → N → Bool) (s : Setting N) → WorldIsInOrder before s.ask → (levels : ℕ) (values : List (Bound N))
    → ArePast s levels values → VariablesAreInOrder before values
past_in_order before s world levels _ none_yet = tt
past_in_order before s world levels _ (one_more {values = values} {given = given} g past e) =
    let order = past_in_order before s world levels values past in
    let call = global_call s.root g.element nowhere in
    let o = meaning s levels (going_into g.name (at_turn values)) 0 call in
    let held : IsGivenInOrder before (held_by o) =
    held_in_order before o (meaning_in_order before s world levels (going_into g.name (at_turn values)) order 0 call tt) in
    one_more_in_order before values (record { name = g.name; value = value_of given }) order
    (given_value before given (subst (λ x. IsGivenInOrder before x) e held))

pub globals_in_order : {N : Type 0} (before : N → N → Bool) (s : Setting N) → WorldIsInOrder before s.ask → (levels room : ℕ) (past : Past N)
    → ArePast s levels past.values → (name : Expanded) (depth : ℕ) (place : Place)
    → IsGivenInOrder before (referred s (meaning s room) past name depth place)
globals_in_order before s world levels room past there name depth place =
    referred_in_order before s (meaning s room) (meaning_in_order before s world room) past
    (past_in_order before s world levels past.values there) name depth place
