-- What a plan writes and how it ends, where it is known what calls mean: what is entered writes in its turn.
use Rattle.std.specs.Prelude.{ℕ, List, [], ◌∷◌, nat_lt, if◌then◌else◌}
use Rattle.spec_expression.specs.declared.code.DynCode.TheVariants as code
use Rattle.spec_stylesheet.specs.Place.{Place}
use Rattle.spec_meaning.specs.Stream as stream
use Rattle.spec_meaning.specs.Stream.{Stream, followed, filled}
use Rattle.spec_meaning.specs.Value.{Value}
use Rattle.spec_meaning.specs.Question.{Question, Answer}
use Rattle.spec_meaning.specs.Program.{Wanted, Given}
use Rattle.spec_run.specs.Plan.{Refused, Call, wrapped, aside_of, Plan, End, Yield, Stop, Inquire, Use, Put, Begin, Wrap, Take, Deep, Enter}

-- without its messages, as a variable holds it
abbrev pub quiet : Stream → Stream
quiet stream.Ended = stream.Ended
quiet (stream.Element name uri namespaces content rest) = stream.Element name uri namespaces (quiet content) (quiet rest)
quiet (stream.Nameless content rest) = stream.Nameless (quiet content) (quiet rest)
quiet (stream.Attribute name uri content rest) = stream.Attribute name uri (quiet content) (quiet rest)
quiet (stream.Namespace prefix uri rest) = stream.Namespace prefix uri (quiet rest)
quiet (stream.Text text rest) = stream.Text text (quiet rest)
quiet (stream.Comment content rest) = stream.Comment (quiet content) (quiet rest)
quiet (stream.Instruction target content rest) = stream.Instruction target (quiet content) (quiet rest)
quiet (stream.Message content rest) = quiet rest
quiet (stream.Hole rest) = stream.Hole (quiet rest)

-- what the run gives: a value, or why there is none
pub data Supplied (N : Type 0) : Type 0 where
  Known : (given : Given N) → Supplied N
  Failed : (why : Refused) → Supplied N

pub data Ending (N : Type 0) : Type 0 where
  Finished : Ending N
  -- of a global that has a select
  Gave : (value : Value N) → Ending N
  Halted : (why : Refused) → Ending N

-- what an instantiation writes with all that it enters, up to its end or its refusal
pub record Outcome (N : Type 0) : Type 0 where
  pub content : Stream
  pub ending : Ending N

-- the sink around the innermost with this behind it, in place of both; where there is none around it, the innermost stays
abbrev pub top_after : Stream → Stream → List Stream → Stream
top_after s top [] = top
top_after s top (o ∷ os) = followed o s

abbrev pub outer_after : List Stream → List Stream
outer_after [] = []
outer_after (o ∷ os) = os

-- all sinks, ended: of those that a refusal cut short, messages alone count
abbrev pub closed_in : Stream → List Stream → Stream
closed_in s [] = s
closed_in s (o ∷ os) = closed_in (followed o (aside_of s)) os

abbrev pub ends : {N : Type 0} → Stream → List Stream → Ending N → Outcome N
ends top outer ending = record { content = closed_in top outer; ending = ending }

abbrev pub if_known : {N : Type 0} → (Given N → Outcome N) → Stream → List Stream → Supplied N → Outcome N
if_known f top outer (Known given) = f given
if_known f top outer (Failed why) = ends top outer (Halted why)

abbrev pub unless_refused : {N : Type 0} → Outcome N → Stream → List Stream → Ending N → Outcome N
unless_refused o top outer Finished = o
unless_refused o top outer (Gave value) = o
unless_refused o top outer (Halted why) = ends top outer (Halted why)

abbrev pub too_deep : Place → Refused
too_deep place = record { code = code.TooDeep; place = place }

-- From the innermost sink and those around it on, innermost first. `supply wanted depth place` is what the run gives, `nested depth call`
-- what a call from a content so deep means, and `room` how many levels there are below that of the instantiation. What is put has no holes
abbrev pub direct : {N : Type 0} → (Question N → Answer N) → (Wanted → ℕ → Place → Supplied N) → (ℕ → Call N → Outcome N) → ℕ → Plan N → Stream → List Stream → Outcome N
direct ask supply nested room End top outer = ends top outer Finished
direct ask supply nested room (Yield value) top outer = ends top outer (Gave value)
direct ask supply nested room (Stop why) top outer = ends top outer (Halted why)
direct ask supply nested room (Inquire question next) top outer = direct ask supply nested room (next (ask question)) top outer
direct ask supply nested room (Use wanted depth place next) top outer =
    if_known (λ given. direct ask supply nested room (next given) top outer) top outer (supply wanted depth place)
direct ask supply nested room (Put items next) top outer = direct ask supply nested room next (followed top (filled items [])) outer
direct ask supply nested room (Begin next) top outer = direct ask supply nested room next stream.Ended (top ∷ outer)
direct ask supply nested room (Wrap how next) top outer = direct ask supply nested room next (top_after (wrapped how top) top outer) (outer_after outer)
direct ask supply nested room (Take next) top outer = direct ask supply nested room (next (quiet top)) (top_after (aside_of top) top outer) (outer_after outer)
direct ask supply nested room (Deep depth place next) top outer =
    if nat_lt room depth then ends top outer (Halted (too_deep place)) else direct ask supply nested room next top outer
direct ask supply nested room (Enter call depth next) top outer =
    let o = nested depth call in
    unless_refused (direct ask supply nested room next (followed top o.content) outer) (followed top o.content) outer o.ending
