-- Where the run of one instantiation stands, and how often it still pauses.
use Rattle.std.specs.Prelude.{◌≡◌, ℕ, suc, ◌+◌, ◌-◌, ◌≤◌, List, Option, Some, None, nat_lt, length, if◌then◌else◌}
use Rattle.spec_stylesheet.specs.Place.{Place}
use Rattle.spec_meaning.specs.Stream.{Stream, filled, holes}
use Rattle.spec_meaning.specs.Question.{Question, Answer}
use Rattle.spec_meaning.specs.Program.{Wanted, Given}
use Rattle.spec_meaning.specs.Supplies.{at_hand}
use Rattle.spec_run.specs.Plan.{Call, Plan, End, Yield, Stop, Inquire, Use, Put, Begin, Wrap, Take, Deep, Enter}
use Rattle.spec_run.specs.Direct.{Supplied, Known, Failed, Halted, Outcome}
use Rattle.spec_run.specs.Going.{Asked, Saw, Going, at_start, noted, put, begun, wrap, taken, aside, deepened, opened, given, closed, own, whole}
use Rattle.spec_run.specs.Content.{plan_of}
use Rattle.spec_run.specs.Meaning.{Setting, Past, supplied, referred, settled, meaning}
use Rattle.spec_node.specs.declared.node_ref.NodeRef.{NodeRef}
use Rattle.xt_engine.specs.Progress.{Progress, Gift, Start, Goes, Halts, received}
use Rattle.xt_driver.specs.declared.globals.Globals.{Globals}
use Rattle.xt_driver.specs.View.{setting_of, past_of}
use Rattle.xt_driver.specs.Remembered.{Entry, Suits}

-- what is at hand is what is supplied, at whatever element it is needed
abbrev pub Agrees : {N : Type 0} → (Wanted → ℕ → Place → Supplied N) → (ℕ → Wanted → Option (Given N)) → Type 0
Agrees {N = N} supply hand = (w : Wanted) (d : ℕ) (l : Place) (x : Given N) → hand d w ≡ Some x → supply w d l ≡ Known x

abbrev pub missing : {V : Type 0} → Option V → ℕ
missing None = 1
missing (Some v) = 0

abbrev pub if_supplied : {N : Type 0} → (Given N → ℕ) → Supplied N → ℕ
if_supplied f (Known given) = f given
if_supplied f (Failed why) = 1

-- how often a run still pauses: for each instantiation that it enters, and for each thing that it needs and that is not at hand
abbrev pub work : {N : Type 0} → (Question N → Answer N) → (Wanted → ℕ → Place → Supplied N) → (ℕ → Call N → Outcome N) → ℕ → (ℕ → Wanted → Option (Given N)) → Plan N → Going N → ℕ
work ask supply nested room hand End g = 0
work ask supply nested room hand (Yield value) g = 0
work ask supply nested room hand (Stop why) g = 0
work ask supply nested room hand (Inquire question next) g = work ask supply nested room hand (next (ask question)) (noted (Asked question (ask question)) g)
work ask supply nested room hand (Use wanted depth place next) g =
    if_supplied (λ x. missing (hand depth wanted) + work ask supply nested room hand (next x) (noted (Saw wanted depth place (Known x)) g)) (supply wanted depth place)
work ask supply nested room hand (Put items next) g = work ask supply nested room hand next (put items g)
work ask supply nested room hand (Begin next) g = work ask supply nested room hand next (begun g)
work ask supply nested room hand (Wrap how next) g = work ask supply nested room hand next (wrap how g)
work ask supply nested room hand (Take next) g = work ask supply nested room hand (next (taken g)) (aside g)
work ask supply nested room hand (Deep depth place next) g = if nat_lt room depth then 0 else work ask supply nested room hand next (deepened depth g)
work ask supply nested room hand (Enter call depth next) g = suc (work ask supply nested room hand next (given (nested depth call).content (opened call depth g)))

-- one instantiation: what it is in, how many levels are below its own, the globals that are there, and its call
pub record Level : Type 0 where
  pub setting : Setting NodeRef
  pub below : ℕ
  pub past : Past NodeRef
  pub call : Call NodeRef

abbrev pub level_of : (Question NodeRef → Answer NodeRef) → Globals → ℕ → Call NodeRef → Level
level_of ask globals below call = record { setting = setting_of ask globals; below = below; past = past_of globals; call = call }

-- what its run supplies
abbrev pub supply_of : Level → Wanted → ℕ → Place → Supplied NodeRef
supply_of l = supplied l.call (referred l.setting (meaning l.setting l.below) l.past)

-- what it enters means
abbrev pub nested_of : Level → ℕ → Call NodeRef → Outcome NodeRef
nested_of l depth inner = meaning l.setting l.below l.past depth (settled l.call inner)

-- the holes are those of the streams that came
abbrev pub IsEven : {N : Type 0} → Going N → Type 0
IsEven g = holes (closed g) ≡ length g.streams

abbrev pub StandsSo : Level → Plan NodeRef → List Stream → Start NodeRef → Type 0
StandsSo l left streams (Goes g s) =
    (own l.setting.ask (supply_of l) (nested_of l) l.below left g ≡ own l.setting.ask (supply_of l) (nested_of l) l.below (plan_of l.setting.same l.call) at_start)
    × Agrees (supply_of l) (at_hand s) × (g.streams ≡ streams) × IsEven g
StandsSo l left streams (Halts why g) =
    whole (own l.setting.ask (supply_of l) (nested_of l) l.below (plan_of l.setting.same l.call) at_start) ≡ record { content = filled (closed g) g.streams; ending = Halted why }

-- with what it is given it comes to what all of it comes to; these are the streams of what it entered
pub record Stands (l : Level) (p : Progress) (gift : Option (Gift NodeRef)) (streams : List Stream) : Type 0 where
  pub room : p.room ≡ l.below
  pub so : StandsSo l p.left streams (received p.waits p.going p.supplies gift)

abbrev pub start_work : Level → Plan NodeRef → Start NodeRef → ℕ
start_work l left (Goes g s) = work l.setting.ask (supply_of l) (nested_of l) l.below (at_hand s) left g
start_work l left (Halts why g) = 0

abbrev pub work_left : Level → Progress → Option (Gift NodeRef) → ℕ
work_left l p gift = start_work l p.left (received p.waits p.going p.supplies gift)

-- ---- Elsewhere

-- the same instantiation with so many levels below its own, in another past
abbrev pub at_other : Level → ℕ → Past NodeRef → Level
at_other l below past = record { setting = l.setting; below = below; past = past; call = l.call }

abbrev pub FollowsSo : Level → Plan NodeRef → Start NodeRef → Type 0
FollowsSo l left (Goes g s) =
    (own l.setting.ask (supply_of l) (nested_of l) l.below left g ≡ own l.setting.ask (supply_of l) (nested_of l) l.below (plan_of l.setting.same l.call) at_start)
    × Agrees (supply_of l) (at_hand s)
FollowsSo l left (Halts why g) = Unit {0}

-- there too it comes to what all of it comes to, unless it is refused
pub record Follows (l : Level) (p : Progress) (gift : Option (Gift NodeRef)) : Type 0 where
  pub so : FollowsSo l p.left (received p.waits p.going p.supplies gift)

-- and that is so wherever what is remembered holds, with so many levels to spare, if there is room for its height
pub record Elsewhere (l : Level) (all : List (Entry NodeRef)) (spare : ℕ) (p : Progress) (gift : Option (Gift NodeRef)) : Type 0 where
  pub so : (below : ℕ) (past : Past NodeRef) → l.below - spare ≤ below → p.going.height ≤ below → Suits l.past.values all past → Follows (at_other l below past) p gift
