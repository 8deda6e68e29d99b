-- The grammar of expressions (XPath 1.0, productions 1 to 27), and which refusal a text gets.
use Rattle.std.specs.Prelude.{◌≡◌, ℕ, zero, suc, Bool, true, false, if◌then◌else◌, not, bytes_eq, codes, List, [], ◌∷◌, Option, None, Some, unwrap_or, is_some, Result, Ok, Err}
use Rattle.std.specs.List.{list_any}
use Rattle.spec_document.specs.Name.{QName, Expanded}
use Rattle.spec_document.specs.Scope.{Scope, resolved}
use Rattle.spec_document.specs.declared.axis.Axis.{Axis}
use Rattle.spec_document.specs.declared.axis.Axis.TheVariants.{Ancestor, AncestorOrSelf, Attribute, Child, Descendant, DescendantOrSelf, Following, FollowingSibling, Namespace, Parent, Preceding, PrecedingSibling, Itself}
use Rattle.spec_expression.specs.declared.NodeType.{NodeType}
use Rattle.spec_expression.specs.declared.NodeType.TheVariants.{Comment, Text, ProcessingInstruction, Node}
use Rattle.spec_expression.specs.declared.Operator.{Operator}
use Rattle.spec_expression.specs.declared.Operator.TheVariants as operators
use Rattle.spec_expression.specs.declared.Level.{Level}
use Rattle.spec_expression.specs.declared.Level.TheVariants.{OrExpr, AndExpr, EqualityExpr, RelationalExpr, AdditiveExpr, MultiplicativeExpr, UnaryExpr, UnionExpr, PathExpr}
use Rattle.spec_expression.specs.declared.ExpressionRefusal.{ExpressionRefusal}
use Rattle.spec_expression.specs.declared.ExpressionRefusal.TheVariants as refusals
use Rattle.spec_expression.specs.Token.{Token, Open, Close, OpenSquare, CloseSquare, Dot, DotDot, At, Comma, ColonColon, Slash, SlashSlash, Binary, Star, AnyOf, Name, Variable, Literal, Number, tokens, is_deep}
use Rattle.spec_expression.specs.Syntax.{Test, AnyName, InNamespace, Named, OfType, Instruction, Expr, number, literal, variable, call, root, here, exprs, Link, Step, chained, negated, filtered, stepped, node_on}

-- the axis of a name
unfoldable pub axis_named : List ℕ → Option Axis
axis_named name =
    if bytes_eq name (codes "ancestor") then Some Ancestor
    else (if bytes_eq name (codes "ancestor-or-self") then Some AncestorOrSelf
    else (if bytes_eq name (codes "attribute") then Some Attribute
    else (if bytes_eq name (codes "child") then Some Child
    else (if bytes_eq name (codes "descendant") then Some Descendant
    else (if bytes_eq name (codes "descendant-or-self") then Some DescendantOrSelf
    else (if bytes_eq name (codes "following") then Some Following
    else (if bytes_eq name (codes "following-sibling") then Some FollowingSibling
    else (if bytes_eq name (codes "namespace") then Some Namespace
    else (if bytes_eq name (codes "parent") then Some Parent
    else (if bytes_eq name (codes "preceding") then Some Preceding
    else (if bytes_eq name (codes "preceding-sibling") then Some PrecedingSibling
    else (if bytes_eq name (codes "self") then Some Itself
    else None))))))))))))

-- the node type of a name
unfoldable pub type_named : List ℕ → Option NodeType
type_named name =
    if bytes_eq name (codes "comment") then Some Comment
    else (if bytes_eq name (codes "text") then Some Text
    else (if bytes_eq name (codes "processing-instruction") then Some ProcessingInstruction
    else (if bytes_eq name (codes "node") then Some Node
    else None)))

-- a name with a prefix is neither
abbrev pub by_local : {A : Type 0} → (List ℕ → Option A) → QName → Option A
by_local named q = elim q.prefix [ None ↦ named q.local | Some prefix ↦ None ]

abbrev pub axis_of : QName → Option Axis
axis_of q = by_local axis_named q

abbrev pub type_of : QName → Option NodeType
type_of q = by_local type_named q

-- The expanded name: a name without a prefix has no namespace. Where the prefix is not declared, the
-- expression is refused, and no namespace stands for it.
abbrev pub uri_of : Scope → Option (List ℕ) → List ℕ
uri_of scope None = []
uri_of scope (Some prefix) = unwrap_or (resolved scope prefix) []

abbrev pub expanded : Scope → QName → Expanded
expanded scope q = record { uri = uri_of scope q.prefix; local = q.local }

-- which level an operator stands at
abbrev pub level_of : Operator → Level
level_of operators.Or = OrExpr
level_of operators.And = AndExpr
level_of operators.Equal = EqualityExpr
level_of operators.NotEqual = EqualityExpr
level_of operators.Less = RelationalExpr
level_of operators.LessOrEqual = RelationalExpr
level_of operators.Greater = RelationalExpr
level_of operators.GreaterOrEqual = RelationalExpr
level_of operators.Add = AdditiveExpr
level_of operators.Subtract = AdditiveExpr
level_of operators.Multiply = MultiplicativeExpr
level_of operators.Divide = MultiplicativeExpr
level_of operators.Modulo = MultiplicativeExpr
level_of operators.Union = UnionExpr

-- Chain level operand: an expression of this level is operands joined by its operators
pub data Chain : Level → Level → Type 0 where
  or : Chain OrExpr AndExpr  -- Or = And ('or' And)*
  and : Chain AndExpr EqualityExpr  -- And = Eq ('and' Eq)*
  equality : Chain EqualityExpr RelationalExpr  -- Eq = Rel (('='|'!=') Rel)*
  relational : Chain RelationalExpr AdditiveExpr  -- Rel = Add (('<'|'<='|'>'|'>=') Add)*
  additive : Chain AdditiveExpr MultiplicativeExpr  -- Add = Mul (('+'|'-') Mul)*
  multiplicative : Chain MultiplicativeExpr UnaryExpr  -- Mul = Unary (('*'|'div'|'mod') Unary)*
  union : Chain UnionExpr PathExpr  -- Union = Path ('|' Path)*

-- Signs ts n us: ts is n signs `-` and then us
pub data Signs : List Token → ℕ → List Token → Type 0 where
  no_sign : {ts : List Token} → Signs ts zero ts
  sign : {ts us : List Token} {n : ℕ} → Signs ts n us → Signs (Binary operators.Subtract ∷ ts) (suc n) us

-- Test = '*' | NCName ':' '*' | QName | 'comment()' | 'text()' | 'node()' | 'processing-instruction' '(' Literal? ')'
pub data ReadsTest (scope : Scope) : List Token → Test → List Token → Type 0 where
  any_name : {ts : List Token} → ReadsTest scope (Star ∷ ts) AnyName ts
  in_namespace : {ts : List Token} {p : List ℕ} → ReadsTest scope (AnyOf p ∷ ts) (InNamespace (uri_of scope (Some p))) ts
  named : {ts : List Token} {q : QName} → ReadsTest scope (Name q ∷ ts) (Named (expanded scope q)) ts
  of_type : {ts : List Token} {q : QName} {t : NodeType} → type_of q ≡ Some t → ReadsTest scope (Name q ∷ Open ∷ Close ∷ ts) (OfType t) ts
  instruction : {ts : List Token} {q : QName} {target : List ℕ} → type_of q ≡ Some ProcessingInstruction
      → ReadsTest scope (Name q ∷ Open ∷ Literal target ∷ Close ∷ ts) (Instruction target) ts

-- Reads scope level ts e us: the tokens ts are an expression of this level, whose tree is e, and then us. So for the rest.
mutual
  pub data Reads (scope : Scope) : Level → List Token → Expr → List Token → Type 0 where
    -- Or to Mul, Union
    joined : {level operand : Level} {ts us vs : List Token} {e : Expr} {ls : List Link}
        → Chain level operand → Reads scope operand ts e us → ReadsLinks scope level operand us ls vs → Reads scope level ts (chained e ls) vs
    -- Unary = '-'* Union
    unary : {ts us vs : List Token} {n : ℕ} {e : Expr} → Signs ts n us → Reads scope UnionExpr us e vs → Reads scope UnaryExpr ts (negated n e) vs
    path : {ts us : List Token} {e : Expr} → ReadsPath scope ts e us → Reads scope PathExpr ts e us

  -- Path = Location | Filter (('/'|'//') Relative)?, where Location = '/' Relative? | '//' Relative | Relative
  pub data ReadsPath (scope : Scope) : List Token → Expr → List Token → Type 0 where
    at_root : {ts : List Token} → ReadsPath scope (Slash ∷ ts) root ts
    from_root : {ts us : List Token} {ss : List Step} → ReadsRelative scope ts ss us → ReadsPath scope (Slash ∷ ts) (stepped root ss) us
    below_root : {ts us : List Token} {ss : List Step}
        → ReadsRelative scope ts ss us → ReadsPath scope (SlashSlash ∷ ts) (stepped root (node_on DescendantOrSelf ∷ ss)) us
    relative : {ts us : List Token} {ss : List Step} → ReadsRelative scope ts ss us → ReadsPath scope ts (stepped here ss) us
    from_filter : {ts us vs : List Token} {e : Expr} {ss : List Step}
        → ReadsFilter scope ts e us → ReadsSteps scope us ss vs → ReadsPath scope ts (stepped e ss) vs

  -- Filter = Primary Pred*
  pub data ReadsFilter (scope : Scope) : List Token → Expr → List Token → Type 0 where
    filter : {ts us vs : List Token} {e : Expr} {ps : List Expr}
        → ReadsPrimary scope ts e us → ReadsPredicates scope us ps vs → ReadsFilter scope ts (filtered e ps) vs

  -- Primary = '$'QName | '(' Or ')' | Literal | Number | QName '(' (Or (',' Or)*)? ')', where no function name is a node type
  pub data ReadsPrimary (scope : Scope) : List Token → Expr → List Token → Type 0 where
    of_variable : {ts : List Token} {q : QName} → ReadsPrimary scope (Variable q ∷ ts) (variable (expanded scope q)) ts
    group : {ts us : List Token} {e : Expr} → Reads scope OrExpr ts e (Close ∷ us) → ReadsPrimary scope (Open ∷ ts) e us
    of_literal : {ts : List Token} {content : List ℕ} → ReadsPrimary scope (Literal content ∷ ts) (literal content) ts
    -- where a number has a fraction or is too great, the expression is refused, and 0 stands for it
    of_number : {ts : List Token} {value : Option ℕ} → ReadsPrimary scope (Number value ∷ ts) (number (unwrap_or value 0)) ts
    of_call : {ts us : List Token} {q : QName} {es : List Expr}
        → type_of q ≡ None → ReadsArguments scope ts es us → ReadsPrimary scope (Name q ∷ Open ∷ ts) (call (expanded scope q) (exprs es)) us

  -- (operator operand)*
  pub data ReadsLinks (scope : Scope) : Level → Level → List Token → List Link → List Token → Type 0 where
    no_link : {level operand : Level} {ts : List Token} → ReadsLinks scope level operand ts [] ts
    further : {level operand : Level} {ts us vs : List Token} {o : Operator} {e : Expr} {ls : List Link}
        → level_of o ≡ level → Reads scope operand ts e us → ReadsLinks scope level operand us ls vs
        → ReadsLinks scope level operand (Binary o ∷ ts) (record { operator = o; operand = e } ∷ ls) vs

  -- (Or (',' Or)*)? ')'
  pub data ReadsArguments (scope : Scope) : List Token → List Expr → List Token → Type 0 where
    no_argument : {ts : List Token} → ReadsArguments scope (Close ∷ ts) [] ts
    argument : {ts us vs : List Token} {e : Expr} {es : List Expr}
        → Reads scope OrExpr ts e us → ReadsMore scope us es vs → ReadsArguments scope ts (e ∷ es) vs

  -- (',' Or)* ')'
  pub data ReadsMore (scope : Scope) : List Token → List Expr → List Token → Type 0 where
    no_more : {ts : List Token} → ReadsMore scope (Close ∷ ts) [] ts
    one_more : {ts us vs : List Token} {e : Expr} {es : List Expr}
        → Reads scope OrExpr ts e us → ReadsMore scope us es vs → ReadsMore scope (Comma ∷ ts) (e ∷ es) vs

  -- Pred*, where Pred = '[' Or ']'
  pub data ReadsPredicates (scope : Scope) : List Token → List Expr → List Token → Type 0 where
    no_predicate : {ts : List Token} → ReadsPredicates scope ts [] ts
    predicate : {ts us vs : List Token} {e : Expr} {es : List Expr}
        → Reads scope OrExpr ts e (CloseSquare ∷ us) → ReadsPredicates scope us es vs → ReadsPredicates scope (OpenSquare ∷ ts) (e ∷ es) vs

  -- Relative = Step (('/'|'//') Step)*
  pub data ReadsRelative (scope : Scope) : List Token → List Step → List Token → Type 0 where
    steps : {ts us vs : List Token} {s : Step} {ss : List Step}
        → ReadsStep scope ts s us → ReadsSteps scope us ss vs → ReadsRelative scope ts (s ∷ ss) vs

  -- (('/'|'//') Relative)?
  pub data ReadsSteps (scope : Scope) : List Token → List Step → List Token → Type 0 where
    no_step : {ts : List Token} → ReadsSteps scope ts [] ts
    child : {ts us : List Token} {ss : List Step} → ReadsRelative scope ts ss us → ReadsSteps scope (Slash ∷ ts) ss us
    descendant : {ts us : List Token} {ss : List Step}
        → ReadsRelative scope ts ss us → ReadsSteps scope (SlashSlash ∷ ts) (node_on DescendantOrSelf ∷ ss) us

  -- Step = '.' | '..' | (Axis '::' | '@')? Test Pred*
  pub data ReadsStep (scope : Scope) : List Token → Step → List Token → Type 0 where
    itself : {ts : List Token} → ReadsStep scope (Dot ∷ ts) (node_on Itself) ts
    parent : {ts : List Token} → ReadsStep scope (DotDot ∷ ts) (node_on Parent) ts
    on_axis : {ts us vs : List Token} {q : QName} {a : Axis} {t : Test} {ps : List Expr}
        → axis_of q ≡ Some a → ReadsTest scope ts t us → ReadsPredicates scope us ps vs
        → ReadsStep scope (Name q ∷ ColonColon ∷ ts) (record { axis = a; test = t; predicates = exprs ps }) vs
    on_attributes : {ts us vs : List Token} {t : Test} {ps : List Expr}
        → ReadsTest scope ts t us → ReadsPredicates scope us ps vs → ReadsStep scope (At ∷ ts) (record { axis = Attribute; test = t; predicates = exprs ps }) vs
    on_children : {ts us vs : List Token} {t : Test} {ps : List Expr}
        → ReadsTest scope ts t us → ReadsPredicates scope us ps vs → ReadsStep scope ts (record { axis = Child; test = t; predicates = exprs ps }) vs

-- all the tokens are an expression
abbrev pub IsExpression : Scope → List Token → Expr → Type 0
IsExpression scope ts e = Reads scope OrExpr ts e []

-- a number that has a fraction or is too great
abbrev pub is_bad_number : Token → Bool
is_bad_number (Number value) = not (is_some value)
is_bad_number _ = false

-- the prefix that a token names
abbrev pub prefix_in : Token → Option (List ℕ)
prefix_in (AnyOf prefix) = Some prefix
prefix_in (Name q) = q.prefix
prefix_in (Variable q) = q.prefix
prefix_in _ = None

abbrev pub is_undeclared : Scope → Token → Bool
is_undeclared scope t = elim (prefix_in t) [ None ↦ false | Some prefix ↦ not (is_some (resolved scope prefix)) ]

-- the tokens are of the grammar, with this tree
pub record HasTree (scope : Scope) (ts : List Token) (e : Expr) : Type 0 where
  pub shallow : is_deep 0 ts ≡ false
  pub expression : IsExpression scope ts e

-- What a text that is cut into these tokens gives: its tree, or the least refusal that stands at it.
abbrev pub Gives : Scope → List Token → Result Expr ExpressionRefusal → Type 0
Gives scope ts (Ok e) = HasTree scope ts e × (list_any is_bad_number ts ≡ false) × (list_any (is_undeclared scope) ts ≡ false)
Gives scope ts (Err refusals.Syntax) = (is_deep 0 ts ≡ false) × ((e : Expr) → IsExpression scope ts e → ⊥)
Gives scope ts (Err refusals.Depth) = is_deep 0 ts ≡ true
Gives scope ts (Err refusals.Number) = (e : Expr) × HasTree scope ts e × (list_any is_bad_number ts ≡ true)
Gives scope ts (Err refusals.Prefix) = (e : Expr) × HasTree scope ts e × (list_any is_bad_number ts ≡ false) × (list_any (is_undeclared scope) ts ≡ true)

-- what a text that cannot be cut gives
abbrev pub Uncut : Result Expr ExpressionRefusal → Type 0
Uncut (Err refusals.Syntax) = Unit {0}
Uncut _ = ⊥

-- What a text gives as an expression.
abbrev pub Parses : Scope → List ℕ → Result Expr ExpressionRefusal → Type 0
Parses scope text result = elim (tokens text) as (λ _. Type 0) [ None ↦ Uncut result | Some ts ↦ Gives scope ts result ]
