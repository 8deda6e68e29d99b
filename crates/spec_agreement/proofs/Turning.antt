-- A run that is made turn by turn goes along its plan.
use Rattle.std.proofs.Common.{◌≡◌, ℕ, ◌-◌, List, [], ◌∷◌, length, Option, None, Some, Ok, refl, sym, ap, subst, ◌∙◌}
use Rattle.spec_meaning.specs.Stream.{holes}
use Rattle.spec_meaning.specs.Question.{Question, Answer}
use Rattle.spec_meaning.specs.Program.{Wanted, Given}
use Rattle.spec_run.specs.Plan.{Call, Plan, Stop}
use Rattle.spec_run.specs.Direct.{Known, Ending, Finished, Gave, Halted}
use Rattle.spec_run.specs.Going.{Event, Asked, Saw, Held, Going, at_start, of_top, opened, given}
use Rattle.spec_run.specs.Hold.{GoesOn}
use Rattle.spec_run.specs.Passes.{Passes}
use Rattle.spec_run.specs.Passes as step
use Rattle.spec_run.specs.Trail.{Trail, IsTrue}
use Rattle.spec_run.specs.Trail as trail
use Rattle.spec_run.specs.Content.{plan_of}
use Rattle.spec_run.proofs.Trails.{trail_trace}
use Rattle.spec_node.specs.Naming.{same_ref}
use Rattle.spec_node.specs.declared.node_ref.NodeRef.{NodeRef}
use Rattle.xt_tree.specs.declared.value.Value as code
use Rattle.xt_engine.specs.View.{call_of}
use Rattle.xt_engine.specs.declared.turn.Turn.TheVariants.{Want, WantGlobal, Done}
use Rattle.xt_engine.specs.Progress.{Waiting, Progress, Streamed, Evaluated, Start, Goes, Halts, received, started}
use Rattle.xt_engine.specs.Advances.{AdvancesSo, Made, made, ending_of, ran_of, Ends}
use Rattle.xt_engine.specs.Advances as code_ends
use Rattle.spec_agreement.specs.Turns.{Turns, kept_of}
use Rattle.spec_agreement.specs.Turns as turns

-- it is not at a refusal
abbrev GoesFrom : {N : Type 0} → Plan N → Type 0
GoesFrom (Stop why) = ⊥
GoesFrom _ = Unit {0}

trail_from : {N : Type 0} {p : Plan N} {g h : Going N} {es : List (Event N)} {e : Ending N} → Trail p g es h e → GoesFrom p
trail_from trail.finishes = tt
trail_from trail.gives = tt
trail_from (trail.asks t) = tt
trail_from (trail.uses t) = tt
trail_from (trail.puts t) = tt
trail_from (trail.begins t) = tt
trail_from (trail.wraps t) = tt
trail_from (trail.takes k t) = tt
trail_from (trail.deepens t) = tt
trail_from (trail.enters s t) = tt

-- what is passed is a part of the way
passes_trail : {N : Type 0} {ask : Question N → Answer N} {hand : ℕ → Wanted → Option (Given N)} {room : ℕ} {p q : Plan N} {g h l : Going N}
    {es : List (Event N)} {e : Ending N}
    → Passes ask hand room p g q h → Trail q h es l e → (more : List (Event N)) × Trail p g more l e
passes_trail {es = es} step.stays t = (es, t)
passes_trail {ask = ask} (step.asks {q = q} s) t = let m = passes_trail s t in (Asked q (ask q) ∷ m.0, trail.asks m.1)
passes_trail (step.uses {w = w} {depth = d} {place = l} {x = x} k s) t = let m = passes_trail s t in (Saw w d l (Known x) ∷ m.0, trail.uses m.1)
passes_trail (step.puts s) t = let m = passes_trail s t in (m.0, trail.puts m.1)
passes_trail (step.begins s) t = let m = passes_trail s t in (m.0, trail.begins m.1)
passes_trail (step.wraps s) t = let m = passes_trail s t in (m.0, trail.wraps m.1)
passes_trail {g = g} (step.takes s) t = let m = passes_trail s t in (Held (length g.streams - holes g.top) (of_top g) ∷ m.0, trail.takes refl m.1)
passes_trail (step.goes_deep k s) t = let m = passes_trail s t in (m.0, trail.deepens m.1)
passes_trail (step.is_too_deep k) t = absurd (trail_from t)

-- from here it leads to this
record Led (p : Plan NodeRef) (g : Going NodeRef) (m : Made NodeRef) : Type 0 where
  pub events : List (Event NodeRef)
  pub last : Going NodeRef
  pub along : Trail p g events last m.ending
  pub same : made last m.ending ≡ m

abbrev LedFrom : Plan NodeRef → Start NodeRef → Made NodeRef → Type 0
LedFrom p (Goes g s) m = Led p g m
LedFrom p (Halts why g) m = Unit {0}

at_end : {N : Type 0} (e : Ending N) → GoesOn e → (g : Going N) → Trail (code_ends.ends e) g [] g e
at_end Finished k g = trail.finishes
at_end (Gave v) k g = trail.gives
at_end (Halted why) k g = absurd k

goes_on : (v : Option code.Value) → GoesOn (ending_of v)
goes_on None = tt
goes_on (Some v) = tt

led_on : {ask : Question NodeRef → Answer NodeRef} {hand : ℕ → Wanted → Option (Given NodeRef)} {room : ℕ} {p q : Plan NodeRef}
    {g h l : Going NodeRef} {m : Made NodeRef} {es : List (Event NodeRef)}
    → Passes ask hand room p g q h → Trail q h es l m.ending → made l m.ending ≡ m → Led p g m
led_on {l = l} s t same = let w = passes_trail s t in record { events = w.0; last = l; along = w.1; same = same }

turns_lead : {ask : Question NodeRef → Answer NodeRef} {old : Progress} {gift : _} {m : Made NodeRef} → Turns ask old gift m
    → LedFrom old.left (received old.waits old.going old.supplies gift) m
turns_lead {ask = ask} {old = old} {gift = gift} (turns.ends {new = new} {ran = ran} a) = go (received old.waits old.going old.supplies gift) a.so
  where
    go : (start : Start NodeRef) → AdvancesSo ask old start new (Ok (Done ran)) → LedFrom old.left start (ran_of ran)
    go (Goes g s) e = led_on e.passes (at_end (ran_of ran).ending (goes_on ran.value) e.last) e.same
    go (Halts why g) e = tt
turns_lead {ask = ask} {old = old} {gift = gift} {m = m} (turns.enters {new = new} {call = call} {depth = depth} content a t) =
    go (received old.waits old.going old.supplies gift) a.so (turns_lead t)
  where
    go : (start : Start NodeRef) → AdvancesSo ask old start new (Ok (Want call depth))
        → LedFrom new.left (received new.waits new.going new.supplies (Some (Streamed content))) m
        → LedFrom old.left start m
    go (Goes g s) k later =
        let W : Waiting NodeRef → Type 0 = λ w. LedFrom new.left (received w new.going new.supplies (Some (Streamed content))) m in
        let led : Led new.left (given content (opened (call_of call.value) depth new.going)) m = subst W k.2 later in
        led_on k.0 (trail.enters content led.along) led.same
    go (Halts why g) k later = tt
turns_lead {ask = ask} {old = old} {gift = gift} {m = m} (turns.needs {new = new} {name = name} {depth = depth} {place = place} value a t) =
    go (received old.waits old.going old.supplies gift) a.so (turns_lead t)
  where
    go : (start : Start NodeRef) → AdvancesSo ask old start new (Ok (WantGlobal name depth place))
        → LedFrom new.left (received new.waits new.going new.supplies (Some (Evaluated value))) m
        → LedFrom old.left start m
    go (Goes g s) k later =
        let W : Waiting NodeRef → Type 0 = λ w. LedFrom new.left (received w new.going new.supplies (Some (Evaluated value))) m in
        let led : Led new.left new.going m = subst W k.3 later in
        led_on k.0 led.along led.same
    go (Halts why g) k later = tt

pub kept_is_true : (ask : Question NodeRef → Answer NodeRef) (call : Call NodeRef) (room : ℕ) (m : Made NodeRef) → Turns ask (started call room) None m
    → IsTrue same_ref (kept_of call m)
kept_is_true ask call room m t =
    let led : Led (plan_of same_ref call) at_start m = turns_lead t in
    let all : led.events ≡ m.trace = sym (trail_trace led.along) ∙ ap (λ (x : Made NodeRef). x.trace) led.same in
    let T : List (Event NodeRef) → Type 0 = λ es. Trail (plan_of same_ref call) at_start es led.last m.ending in
    record { last = led.last; trail = subst T all led.along; is = sym (ap (kept_of call) led.same) }
