-- What one instantiation does, step by step: what it asks, what it needs of its run, what it puts into its result, and what it enters. An
-- instantiation is the run of a template, a built-in rule or a global for a node.
use Rattle.std.specs.Prelude.{ℕ, List, [], Option, None}
use Rattle.spec_document.specs.Name.{Expanded}
use Rattle.spec_expression.specs.declared.code.DynCode.{DynCode}
use Rattle.spec_stylesheet.specs.Place.{Place}
use Rattle.spec_meaning.specs.Stream as stream
use Rattle.spec_meaning.specs.Stream.{Stream}
use Rattle.spec_meaning.specs.Value.{Value}
use Rattle.spec_meaning.specs.Context.{Bound}
use Rattle.spec_meaning.specs.Question.{Question, Answer, Refusal, Here, At}
use Rattle.spec_meaning.specs.Program.{CurrentRule, Wanted, Given, Program, Give, Refuse, Ask, Need}

-- why a run ends: a code, and the element of the stylesheet where it stands; it stands at none where a built-in rule was to enter
pub record Refused : Type 0 where
  pub code : DynCode
  pub place : Place

abbrev pub nowhere : Place
nowhere = record { module_name = None; path = [] }

-- what refuses at the element of an expression refuses at this one
abbrev pub located : Place → Refusal → Refused
located place (Here code) = record { code = code; place = place }
located place (At code other) = record { code = code; place = other }

-- what is entered: the unit of an element of the stylesheet, or a built-in rule with its mode (XSLT 1.0, section 5.8)
pub data Target (N : Type 0) : Type 0 where
  UnitOf : (element : N) → Target N
  BuiltIn : (mode : Option Expanded) → Target N

-- the current template rule of what is entered (section 5.6): that of the instantiation that enters it; or this one, where it is none where
-- there is no such rule
pub data Ruling : Type 0 where
  SameRule : Ruling
  RuleIs : (rule : Option CurrentRule) → Ruling

-- and with what
pub record Call (N : Type 0) : Type 0 where
  pub target : Target N
  pub node : N
  -- the parameters that are passed
  pub parameters : List (Bound N)
  -- where none is said, they are those of the instantiation that enters it
  pub position : Option ℕ
  pub size : Option ℕ
  pub ruling : Ruling
  -- the element that enters it
  pub by : Place

-- what a sink becomes in the one around it
pub data Wrapping : Type 0 where
  AsElement : (name uri : List ℕ) → (namespaces : List (List ℕ × List ℕ)) → Wrapping
  AsNameless : Wrapping
  AsAttribute : (name uri : List ℕ) → Wrapping
  AsComment : Wrapping
  AsInstruction : (target : List ℕ) → Wrapping
  AsMessage : Wrapping

abbrev pub wrapped : Wrapping → Stream → Stream
wrapped (AsElement name uri namespaces) s = stream.Element name uri namespaces s stream.Ended
wrapped AsNameless s = stream.Nameless s stream.Ended
wrapped (AsAttribute name uri) s = stream.Attribute name uri s stream.Ended
wrapped AsComment s = stream.Comment s stream.Ended
wrapped (AsInstruction target) s = stream.Instruction target s stream.Ended
wrapped AsMessage s = stream.Message s stream.Ended

-- what a variable holds, or what a refusal cut short: it gives nothing but its messages, as an attribute without a good name does
abbrev pub aside_of : Stream → Stream
aside_of s = stream.Attribute [] [] s stream.Ended

pub data Plan (N : Type 0) : Type 0 where
  -- the stream is what was put
  End : Plan N
  -- the value of a global that has a select
  Yield : (value : Value N) → Plan N
  Stop : (why : Refused) → Plan N
  Inquire : (question : Question N) → (next : Answer N → Plan N) → Plan N
  -- needed of the run at this element, in a content so deep below the level of the instantiation
  Use : (wanted : Wanted) → (depth : ℕ) → (place : Place) → (next : Given N → Plan N) → Plan N
  Put : (items : Stream) → (next : Plan N) → Plan N
  -- a sink, which takes what is put until it is wrapped or taken
  Begin : (next : Plan N) → Plan N
  Wrap : (how : Wrapping) → (next : Plan N) → Plan N
  -- the innermost sink, its holes filled, as a variable or a parameter holds it; its messages stay
  Take : (next : Stream → Plan N) → Plan N
  -- a content of this element, so deep below the level
  Deep : (depth : ℕ) → (place : Place) → (next : Plan N) → Plan N
  -- a nested instantiation, from a content so deep below the level
  Enter : (call : Call N) → (depth : ℕ) → (next : Plan N) → Plan N

-- what asks and needs at this element, and then
unfoldable pub lift : {N A : Type 0} → Place → ℕ → Program N A → (A → Plan N) → Plan N
lift place depth (Give a) k = k a
lift place depth (Refuse why) k = Stop (located place why)
lift place depth (Ask question next) k = Inquire question (λ a. lift place depth (next a) k)
lift place depth (Need wanted next) k = Use wanted depth place (λ g. lift place depth (next g) k)
