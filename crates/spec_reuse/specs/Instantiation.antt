-- The instantiations of a run: the calls that it enters, globals among them, in the order in which they come to their end or are refused. So
-- each stands behind those that it enters itself.
use Rattle.std.specs.Prelude.{ℕ, zero, suc, ◌-◌, List, [], ◌∷◌, ◌++◌, Bool, Option, None, Some, if◌then◌else◌}
use Rattle.std.specs.List.{list_any}
use Rattle.spec_document.specs.Name.{Expanded, same_name}
use Rattle.spec_stylesheet.specs.Place.{Place}
use Rattle.spec_meaning.specs.Program.{Wanted, Position, Size, Rule, Global, Given}
use Rattle.spec_meaning.specs.Context.{Bound}
use Rattle.spec_run.specs.Plan.{Call, nowhere}
use Rattle.spec_run.specs.Direct.{Supplied, Known, Failed, Outcome}
use Rattle.spec_run.specs.Going.{Event, Asked, Saw, Entered, Held, at_start, Owned, own}
use Rattle.spec_run.specs.Trail.{Kept, kept_as}
use Rattle.spec_run.specs.Content.{plan_of}
use Rattle.spec_run.specs.Meaning.{NamedGlobal, Setting, Past, going_into, held_by, global_call, element_named, referred, supplied, settled}
use Rattle.spec_run.specs.Meaning.{meaning, at_turn, value_of, levels_of_a_run, root_call}

-- ---- One instantiation

-- a call where a run enters it: how many levels there are below its own, which globals have their turn behind them, and which are being evaluated
pub record Instantiation (N : Type 0) : Type 0 where
  pub call : Call N
  pub below : ℕ
  pub past : Past N

-- what it enters by this call, from a content so deep below its level
abbrev pub inside : {N : Type 0} → Instantiation N → (depth : ℕ) → Call N → Instantiation N
inside i depth call = record { call = settled i.call call; below = i.below - suc depth; past = i.past }

-- what the run gives to it
abbrev pub given_to : {N : Type 0} → Setting N → Instantiation N → Wanted → ℕ → Place → Supplied N
given_to s i = supplied i.call (referred s (meaning s i.below) i.past)

-- what the calls mean that it enters
abbrev pub meant_below : {N : Type 0} → Setting N → Instantiation N → (depth : ℕ) → Call N → Outcome N
meant_below s i depth call = meaning s i.below i.past depth (settled i.call call)

-- what it does by itself, with holes in place of what it enters
abbrev pub own_of : {N : Type 0} → Setting N → Instantiation N → Owned N
own_of s i = own s.ask (given_to s i) (meant_below s i) i.below (plan_of s.same i.call) at_start

-- what it means, with all that it enters
abbrev pub meaning_of : {N : Type 0} → Setting N → Instantiation N → Outcome N
meaning_of s i = meaning s (suc i.below) i.past 0 i.call

-- what is kept of it
abbrev pub kept_of : {N : Type 0} → Setting N → Instantiation N → Kept N
kept_of s i = kept_as i.call (own_of s i).going (own_of s i).ending

-- ---- Those that it enters

-- along what it did: those that are entered for a call, and for a reference to a global
abbrev pub entered_along : {N : Type 0} → (for_call : ℕ → Call N → List (Instantiation N))
    → (for_global : Expanded → ℕ → Place → List (Instantiation N)) → List (Event N)
    → List (Instantiation N)
entered_along for_call for_global [] = []
entered_along for_call for_global (Asked question answer ∷ es) = entered_along for_call for_global es
entered_along for_call for_global (Saw Position depth place supplied ∷ es) = entered_along for_call for_global es
entered_along for_call for_global (Saw Size depth place supplied ∷ es) = entered_along for_call for_global es
entered_along for_call for_global (Saw Rule depth place supplied ∷ es) = entered_along for_call for_global es
entered_along for_call for_global (Saw (Global name) depth place supplied ∷ es) = for_global name depth place ++ entered_along for_call for_global es
entered_along for_call for_global (Entered call depth ∷ es) = for_call depth call ++ entered_along for_call for_global es
entered_along for_call for_global (Held first contents ∷ es) = entered_along for_call for_global es

-- none where the turn of the global is past, or where it is being evaluated
abbrev pub unless_past : {N : Type 0} → Expanded → List (Bound N) → (is_under : Bool) → List (Instantiation N) → List (Instantiation N)
unless_past name [] is_under is = if is_under then [] else is
unless_past name (b ∷ bs) is_under is = if same_name b.name name then [] else unless_past name bs is_under is

abbrev pub for_element : {N : Type 0} → (N → List (Instantiation N)) → Option N → List (Instantiation N)
for_element f None = []
for_element f (Some element) = f element

-- for a reference to a global, where `enters` says what a call enters: the global is evaluated where it is referred to before its turn
abbrev pub for_reference : {N : Type 0} → Setting N → (enters : Past N → ℕ → Call N → List (Instantiation N)) → Past N → Expanded → ℕ → Place
    → List (Instantiation N)
for_reference s enters past name depth place =
    unless_past name past.values (list_any (same_name name) past.under)
    (for_element (λ element. enters (going_into name past) depth (global_call s.root element place)) (element_named name s.globals))

-- A call with so many levels left, of which depth are taken by the contents that it stands in: all that is entered for it, and then itself. Where
-- no level is left it is refused, and not entered
abbrev pub entered : {N : Type 0} → Setting N → (levels : ℕ) → Past N → (depth : ℕ) → Call N → List (Instantiation N)
entered s zero past depth c = []
entered {N = N} s (suc room) past zero c =
    let i : Instantiation N = record { call = c; below = room; past = past } in
    entered_along (λ depth inner. entered s room past depth (settled c inner)) (for_reference s (entered s room) past) (own_of s i).going.trace
    ++ i ∷ []
entered s (suc room) past (suc depth) c = entered s room past depth c

-- ---- Those of a run

-- nothing more where the global is refused at its turn
abbrev pub after_turn : {N : Type 0} → (Given N → List (Instantiation N)) → Supplied N → List (Instantiation N)
after_turn k (Known given) = k given
after_turn k (Failed why) = []

-- each global in its order, and then the call
abbrev pub entered_by_run : {N : Type 0} → Setting N → (levels : ℕ) → List (NamedGlobal N) → List (Bound N) → Call N → List (Instantiation N)
entered_by_run s levels [] values c = entered s levels (at_turn values) 0 c
entered_by_run s levels (g ∷ gs) values c =
    let past = going_into g.name (at_turn values) in
    let call = global_call s.root g.element nowhere in
    entered s levels past 0 call
    ++ after_turn (λ given. entered_by_run s levels gs (values ++ record { name = g.name; value = value_of given } ∷ []) c)
    (held_by (meaning s levels past 0 call))

abbrev pub instantiations : {N : Type 0} → Setting N → List (Instantiation N)
instantiations s = entered_by_run s levels_of_a_run s.globals [] (root_call s)
