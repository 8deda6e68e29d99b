-- What a call means, with all that it enters and all globals that it needs (XSLT 1.0, sections 5.4, 6 and 11.4); and the whole run: the
-- globals in their order, and then the root.
use Rattle.std.specs.Prelude.{ℕ, zero, suc, Bool, List, [], ◌∷◌, ◌++◌, Option, None, Some, unwrap_or, if◌then◌else◌}
use Rattle.std.specs.List.{list_any}
use Rattle.std.specs.Option.{option_or}
use Rattle.spec_document.specs.Name.{Expanded, same_name}
use Rattle.spec_expression.specs.declared.code.DynCode.TheVariants as code
use Rattle.spec_stylesheet.specs.Place.{Place}
use Rattle.spec_meaning.specs.Stream as stream
use Rattle.spec_meaning.specs.Stream.{Stream}
use Rattle.spec_meaning.specs.Value as value
use Rattle.spec_meaning.specs.Value.{Value}
use Rattle.spec_meaning.specs.Context.{Bound}
use Rattle.spec_meaning.specs.Question as question
use Rattle.spec_meaning.specs.Question.{Question, Answer, AllRules}
use Rattle.spec_meaning.specs.Program.{CurrentRule, Wanted, Position, Size, Rule, Global, Given, Counted, Ruled, Valued}
use Rattle.spec_result.specs.Recovery.{messages_of}
use Rattle.spec_run.specs.Plan.{Refused, nowhere, UnitOf, Ruling, SameRule, RuleIs, Call}
use Rattle.spec_run.specs.Direct.{quiet, Supplied, Known, Failed, Ending, Finished, Gave, Halted, Outcome, too_deep, direct}
use Rattle.spec_run.specs.Content.{rule_call, plan_of}

-- a global variable or parameter that counts, by the node of its element
pub record NamedGlobal (N : Type 0) : Type 0 where
  pub name : Expanded
  pub element : N

-- what a run is in: the answers of a world, whether two nodes are the same, the root of the source, and the globals in stylesheet order
pub record Setting (N : Type 0) : Type 0 where
  pub ask : Question N → Answer N
  pub same : N → N → Bool
  pub root : N
  pub globals : List (NamedGlobal N)

-- the globals whose turn is past, and the names of those that are being evaluated
pub record Past (N : Type 0) : Type 0 where
  pub values : List (Bound N)
  pub under : List Expanded

abbrev pub going_into : {N : Type 0} → Expanded → Past N → Past N
going_into name past = record { values = past.values; under = name ∷ past.under }

abbrev pub refused_deep : {N : Type 0} → Place → Outcome N
refused_deep place = record { content = stream.Ended; ending = Halted (too_deep place) }

-- ---- Globals

-- what a global holds, by what its content or its select comes to: it has no messages of its content
abbrev pub held_by : {N : Type 0} → Outcome N → Supplied N
held_by o = elim o.ending [
  | Finished ↦ Known (Valued (value.Fragment (quiet o.content)))
  | Gave v ↦ Known (Valued v)
  | Halted why ↦ Failed why
]

-- the root is its only context, and there is no current rule
abbrev pub global_call : {N : Type 0} → N → N → Place → Call N
global_call root element by =
    record { target = UnitOf element; node = root; parameters = []; position = Some 1; size = Some 1; ruling = RuleIs None; by = by }

abbrev pub element_named : {N : Type 0} → Expanded → List (NamedGlobal N) → Option N
element_named name [] = None
element_named name (g ∷ gs) = if same_name g.name name then Some g.element else element_named name gs

abbrev pub needs_itself : {N : Type 0} → Place → Supplied N
needs_itself place = Failed (record { code = code.GlobalCycle; place = place })

-- the value where the turn is past, else refused where the global is being evaluated, else what its content means now
abbrev pub refer : {N : Type 0} → Expanded → Place → List (Bound N) → Bool → Supplied N → Supplied N
refer name place [] is_under now = if is_under then needs_itself place else now
refer name place (b ∷ bs) is_under now = if same_name b.name name then Known (Valued b.value) else refer name place bs is_under now

abbrev pub evaluated : {N : Type 0} → Setting N → (Past N → ℕ → Call N → Outcome N) → Past N → Expanded → ℕ → Place → Option N → Supplied N
evaluated s means past name depth place None = Known (Valued (value.Text []))
evaluated s means past name depth place (Some element) = held_by (means (going_into name past) depth (global_call s.root element place))

-- what a reference to a global gives, from a content so deep, at this element, where `means` is what calls mean
abbrev pub referred : {N : Type 0} → Setting N → (Past N → ℕ → Call N → Outcome N) → Past N → Expanded → ℕ → Place → Supplied N
referred s means past name depth place =
    refer name place past.values (list_any (same_name name) past.under) (evaluated s means past name depth place (element_named name s.globals))

abbrev pub current_by : Ruling → Option CurrentRule
current_by SameRule = None
current_by (RuleIs rule) = rule

abbrev pub supplied : {N : Type 0} → Call N → (Expanded → ℕ → Place → Supplied N) → Wanted → ℕ → Place → Supplied N
supplied c globals Position depth place = Known (Counted (unwrap_or c.position 1))
supplied c globals Size depth place = Known (Counted (unwrap_or c.size 1))
supplied c globals Rule depth place = Known (Ruled (current_by c.ruling))
supplied c globals (Global name) depth place = globals name depth place

-- ---- Calls

-- a call that leaves position, size or the current rule to the instantiation that enters it
abbrev pub ruling_in : Ruling → Ruling → Ruling
ruling_in outer SameRule = outer
ruling_in outer (RuleIs rule) = RuleIs rule

abbrev pub settled : {N : Type 0} → Call N → Call N → Call N
settled outer c = record {
  target = c.target;
  node = c.node;
  parameters = c.parameters;
  position = option_or c.position outer.position;
  size = option_or c.size outer.size;
  ruling = ruling_in outer.ruling c.ruling;
  by = c.by;
}

-- What a call means where there are so many levels left, of which depth are taken by the contents that it stands in. Where none is left it
-- is refused, at the element that enters it
abbrev pub meaning : {N : Type 0} → Setting N → (levels : ℕ) → Past N → (depth : ℕ) → Call N → Outcome N
meaning s zero past depth c = refused_deep c.by
meaning s (suc room) past zero c =
    direct s.ask (supplied c (referred s (meaning s room) past)) (λ depth inner. meaning s room past depth (settled c inner)) room (plan_of s.same c) stream.Ended []
meaning s (suc room) past (suc depth) c = meaning s room past depth c

-- ---- The run

-- the stream of the root and all messages in their order; or the first refusal, with the messages before it
pub record Whole : Type 0 where
  pub content : Stream
  pub messages : List (List ℕ)
  pub refusal : Option Refused

abbrev pub refusal_of : {N : Type 0} → Ending N → Option Refused
refusal_of Finished = None
refusal_of (Gave v) = None
refusal_of (Halted why) = Some why

abbrev pub at_turn : {N : Type 0} → List (Bound N) → Past N
at_turn values = record { values = values; under = [] }

-- the turn of a global: its messages stand here, also where it was evaluated before
abbrev pub after_turn : {N : Type 0} → (Given N → Whole) → List (List ℕ) → Supplied N → Whole
after_turn k told (Known given) = k given
after_turn k told (Failed why) = record { content = stream.Ended; messages = told; refusal = Some why }

abbrev pub value_of : {N : Type 0} → Given N → Value N
value_of (Counted n) = value.Text []
value_of (Ruled rule) = value.Text []
value_of (Valued v) = v

-- each global in its order, under way at its own turn, and then the call
abbrev pub run : {N : Type 0} → Setting N → (levels : ℕ) → List (NamedGlobal N) → List (Bound N) → (told : List (List ℕ)) → Call N → Whole
run s levels [] values told c =
    let o = meaning s levels (at_turn values) 0 c in
    record { content = o.content; messages = told ++ messages_of o.content; refusal = refusal_of o.ending }
run s levels (g ∷ gs) values told c =
    let o = meaning s levels (going_into g.name (at_turn values)) 0 (global_call s.root g.element nowhere) in
    after_turn (λ given. run s levels gs (values ++ record { name = g.name; value = value_of given } ∷ []) (told ++ messages_of o.content) c)
    (told ++ messages_of o.content) (held_by o)

-- so many levels there are
abbrev pub levels_of_a_run : ℕ
levels_of_a_run = 1200

-- the rule for the root is entered first
abbrev pub root_call : {N : Type 0} → Setting N → Call N
root_call s = rule_call nowhere None [] 1 s.root 1 (s.ask (question.Choice s.root None AllRules))

abbrev pub run_of : {N : Type 0} → Setting N → Whole
run_of s = run s levels_of_a_run s.globals [] [] (root_call s)
