-- The grammar of patterns (XSLT 1.0, section 5.2), on the tokens of expressions; which refusal a text gets; and default priorities
-- (section 5.5).
use Rattle.std.specs.Prelude.{◌≡◌, ℕ, ℤ, pos, negsuc, Bool, true, false, bytes_eq, codes, List, [], ◌∷◌, Option, None, Some, Result, Ok, Err}
use Rattle.std.specs.List.{list_any}
use Rattle.spec_document.specs.Name.{QName, Expanded, qname_of}
use Rattle.spec_document.specs.Scope.{Scope}
use Rattle.spec_document.specs.Declaration.{attribute_name}
use Rattle.spec_document.specs.declared.axis.Axis.{Axis}
use Rattle.spec_document.specs.declared.axis.Axis.TheVariants.{Attribute, Child}
use Rattle.spec_expression.specs.declared.Operator.TheVariants as operators
use Rattle.spec_expression.specs.declared.code.StaticCode.{StaticCode}
use Rattle.spec_expression.specs.declared.code.StaticCode.TheVariants.{BadPattern}
use Rattle.spec_expression.specs.Code.{expression_code}
use Rattle.spec_expression.specs.declared.ExpressionRefusal.{ExpressionRefusal}
use Rattle.spec_expression.specs.declared.ExpressionRefusal.TheVariants as refusals
use Rattle.spec_expression.specs.Token.{Token, Open, Close, At, Comma, ColonColon, Slash, SlashSlash, Binary, Name, Literal, tokens, is_deep}
use Rattle.spec_expression.specs.Syntax.{Expr, no_exprs, expr, exprs, Test, AnyName, InNamespace, Named, OfType, Instruction, Step}
use Rattle.spec_expression.specs.Grammar.{axis_of, ReadsTest, ReadsPredicates, is_bad_number, is_undeclared}
use Rattle.spec_stylesheet.specs.declared.pattern.Separator.{Separator}
use Rattle.spec_stylesheet.specs.declared.pattern.Separator.TheVariants as separators
use Rattle.spec_stylesheet.specs.declared.pattern.Start.{Start}
use Rattle.spec_stylesheet.specs.declared.pattern.Start.TheVariants.{Anywhere, Root, Id, Key}
use Rattle.spec_stylesheet.specs.Pattern.{PatternStep, Alternative, Pattern}

-- a name without a prefix
abbrev pub is_word : List ℕ → QName → Bool
is_word word name = elim name.prefix [ None ↦ bytes_eq name.local word | Some prefix ↦ false ]

-- the name of the keys that a literal names, where it is a QName whose prefix is declared; without a prefix it is in no namespace
abbrev pub key_name : Scope → List ℕ → Option Expanded
key_name scope text = elim (qname_of text) [ None ↦ None | Some name ↦ attribute_name scope name ]

-- the axes of patterns
abbrev pub is_pattern_axis : Axis → Bool
is_pattern_axis Child = true
is_pattern_axis Attribute = true
is_pattern_axis _ = false

-- StepPattern = ChildOrAttributeAxisSpecifier NodeTest Predicate*
pub data ReadsStepPattern (scope : Scope) : List Token → Step → List Token → Type 0 where
  on_axis : {ts us vs : List Token} {q : QName} {a : Axis} {t : Test} {ps : List Expr}
      → axis_of q ≡ Some a → is_pattern_axis a ≡ true → ReadsTest scope ts t us → ReadsPredicates scope us ps vs
      → ReadsStepPattern scope (Name q ∷ ColonColon ∷ ts) (record { axis = a; test = t; predicates = exprs ps }) vs
  on_attributes : {ts us vs : List Token} {t : Test} {ps : List Expr}
      → ReadsTest scope ts t us → ReadsPredicates scope us ps vs
      → ReadsStepPattern scope (At ∷ ts) (record { axis = Attribute; test = t; predicates = exprs ps }) vs
  on_children : {ts us vs : List Token} {t : Test} {ps : List Expr}
      → ReadsTest scope ts t us → ReadsPredicates scope us ps vs → ReadsStepPattern scope ts (record { axis = Child; test = t; predicates = exprs ps }) vs

-- (('/'|'//') StepPattern)*
pub data ReadsFurtherSteps (scope : Scope) : List Token → List PatternStep → List Token → Type 0 where
  no_further : {ts : List Token} → ReadsFurtherSteps scope ts [] ts
  child : {ts us vs : List Token} {s : Step} {ss : List PatternStep}
      → ReadsStepPattern scope ts s us → ReadsFurtherSteps scope us ss vs
      → ReadsFurtherSteps scope (Slash ∷ ts) (record { separator = separators.Child; step = s } ∷ ss) vs
  descendant : {ts us vs : List Token} {s : Step} {ss : List PatternStep}
      → ReadsStepPattern scope ts s us → ReadsFurtherSteps scope us ss vs
      → ReadsFurtherSteps scope (SlashSlash ∷ ts) (record { separator = separators.Descendant; step = s } ∷ ss) vs

-- RelativePathPattern = StepPattern (('/'|'//') StepPattern)*, whose first step has this separator before it
pub data ReadsRelativePattern (scope : Scope) (before : Separator) : List Token → List PatternStep → List Token → Type 0 where
  steps : {ts us vs : List Token} {s : Step} {ss : List PatternStep}
      → ReadsStepPattern scope ts s us → ReadsFurtherSteps scope us ss vs → ReadsRelativePattern scope before ts (record { separator = before; step = s } ∷ ss) vs

-- IdKeyPattern = 'id' '(' Literal ')' | 'key' '(' Literal ',' Literal ')'
pub data ReadsHead (scope : Scope) : List Token → Start (List ℕ) Expanded → List Token → Type 0 where
  of_id : {ts : List Token} {q : QName} {id : List ℕ} → is_word (codes "id") q ≡ true → ReadsHead scope (Name q ∷ Open ∷ Literal id ∷ Close ∷ ts) (Id id) ts
  of_key : {ts : List Token} {q : QName} {name value : List ℕ} → is_word (codes "key") q ≡ true
      → ReadsHead scope (Name q ∷ Open ∷ Literal name ∷ Comma ∷ Literal value ∷ Close ∷ ts) (Key (key_name scope name) value) ts

-- LocationPathPattern = '/' RelativePathPattern? | IdKeyPattern (('/'|'//') RelativePathPattern)? | '//'? RelativePathPattern
pub data ReadsAlternative (scope : Scope) : List Token → Alternative → List Token → Type 0 where
  at_root : {ts : List Token} → ReadsAlternative scope (Slash ∷ ts) (record { start = Root; steps = [] }) ts
  from_root : {ts us : List Token} {ss : List PatternStep}
      → ReadsRelativePattern scope separators.Child ts ss us → ReadsAlternative scope (Slash ∷ ts) (record { start = Root; steps = ss }) us
  below_root : {ts us : List Token} {ss : List PatternStep}
      → ReadsRelativePattern scope separators.Descendant ts ss us → ReadsAlternative scope (SlashSlash ∷ ts) (record { start = Root; steps = ss }) us
  anywhere : {ts us : List Token} {ss : List PatternStep}
      → ReadsRelativePattern scope separators.Child ts ss us → ReadsAlternative scope ts (record { start = Anywhere; steps = ss }) us
  from_head : {ts us vs : List Token} {start : Start (List ℕ) Expanded} {ss : List PatternStep}
      → ReadsHead scope ts start us → ReadsFurtherSteps scope us ss vs → ReadsAlternative scope ts (record { start = start; steps = ss }) vs

-- ('|' LocationPathPattern)*
pub data ReadsOthers (scope : Scope) : List Token → List Alternative → List Token → Type 0 where
  no_other : {ts : List Token} → ReadsOthers scope ts [] ts
  other : {ts us vs : List Token} {a : Alternative} {others : List Alternative}
      → ReadsAlternative scope ts a us → ReadsOthers scope us others vs → ReadsOthers scope (Binary operators.Union ∷ ts) (a ∷ others) vs

-- Pattern = LocationPathPattern ('|' LocationPathPattern)*
pub data ReadsAlternatives (scope : Scope) : List Token → List Alternative → List Token → Type 0 where
  alternatives : {ts us vs : List Token} {a : Alternative} {others : List Alternative}
      → ReadsAlternative scope ts a us → ReadsOthers scope us others vs → ReadsAlternatives scope ts (a ∷ others) vs

-- all the tokens are a pattern
abbrev pub IsPattern : Scope → List Token → Pattern → Type 0
IsPattern scope ts p = ReadsAlternatives scope ts p.alternatives []

-- the tokens are of the grammar, with this tree
pub record HasTree (scope : Scope) (ts : List Token) (p : Pattern) : Type 0 where
  pub shallow : is_deep 0 ts ≡ false
  pub pattern : IsPattern scope ts p

-- What a text that is cut into these tokens gives: its tree, or the least refusal that stands at it
abbrev pub Gives : Scope → List Token → Result Pattern ExpressionRefusal → Type 0
Gives scope ts (Ok p) = HasTree scope ts p × (list_any is_bad_number ts ≡ false) × (list_any (is_undeclared scope) ts ≡ false)
Gives scope ts (Err refusals.Syntax) = (is_deep 0 ts ≡ false) × ((p : Pattern) → IsPattern scope ts p → ⊥)
Gives scope ts (Err refusals.Depth) = is_deep 0 ts ≡ true
Gives scope ts (Err refusals.Number) = (p : Pattern) × HasTree scope ts p × (list_any is_bad_number ts ≡ true)
Gives scope ts (Err refusals.Prefix) = (p : Pattern) × HasTree scope ts p × (list_any is_bad_number ts ≡ false) × (list_any (is_undeclared scope) ts ≡ true)

-- what a text that cannot be cut gives
abbrev pub Uncut : Result Pattern ExpressionRefusal → Type 0
Uncut (Err refusals.Syntax) = Unit {0}
Uncut _ = ⊥

-- What a text gives as a pattern
abbrev pub ParsesPattern : Scope → List ℕ → Result Pattern ExpressionRefusal → Type 0
ParsesPattern scope text result = elim (tokens text) as (λ _. Type 0) [ None ↦ Uncut result | Some ts ↦ Gives scope ts result ]

-- the code of a stylesheet with a pattern that is refused
abbrev pub pattern_code : ExpressionRefusal → StaticCode
pattern_code refusals.Syntax = BadPattern
pattern_code why = expression_code why

-- ---- Default priorities, in millionths: a name or a processing instruction with its target 0, all names of a namespace -0.25, any other
-- lone test -0.5; all else 0.5

abbrev pub test_priority : Test → ℤ
test_priority AnyName = negsuc 499999
test_priority (InNamespace uri) = negsuc 249999
test_priority (Named name) = pos 0
test_priority (OfType type) = negsuc 499999
test_priority (Instruction target) = pos 0

abbrev pub half : ℤ
half = pos 500000

-- a step without predicates is a lone test
abbrev pub step_priority : Step → ℤ
step_priority s = elim s.predicates [ no_exprs ↦ test_priority s.test | expr e es ↦ half ]

abbrev pub alone_priority : Separator → Step → ℤ
alone_priority separators.Child s = step_priority s
alone_priority separators.Descendant s = half

abbrev pub steps_priority : List PatternStep → ℤ
steps_priority (s ∷ []) = alone_priority s.separator s.step
steps_priority _ = half

-- an alternative that starts at any node has a first step with the separator `/`
abbrev pub default_priority : Alternative → ℤ
default_priority a = elim a.start [ Anywhere ↦ steps_priority a.steps | Root ↦ half | Id text ↦ half | Key name text ↦ half ]
