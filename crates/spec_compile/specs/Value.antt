-- The values of the attributes of an element, read by the table of elements (XSLT 1.0, sections 2.4, 3.4, 5.5, 7.1.1, 7.6.2 and 16), and the
-- codes of values that cannot be read: S10 to S16, S24 and S26. Of several at one element the least counts.
use Rattle.std.specs.Prelude.{ℕ, ℤ, pos, neg_ℤ, ◌+◌, ◌-◌, ◌*◌, ◌^◌, ◌==◌, Bool, false, ◌&&◌, ◌||◌, not, List, [], ◌∷◌, ◌++◌, length, drop, nat_le, Option, None, Some, is_some, Result, Ok, Err, bytes_eq, codes, if◌then◌else◌}
use Rattle.std.specs.Option.{option_map, option_and_then}
use Rattle.std.specs.List.{before_first, after_first}
use Rattle.spec_document.specs.Name.{Expanded, is_ncname, qname_of, is_colon}
use Rattle.spec_document.specs.Scope.{Scope, resolved, xslt_uri}
use Rattle.spec_document.specs.Declaration.{attribute_name}
use Rattle.spec_document.specs.Forest.{Written}
use Rattle.spec_expression.specs.Number.{decimal, trimmed}
use Rattle.spec_expression.specs.Strings.{words}
use Rattle.spec_expression.specs.Token.{begins, digits_at}
use Rattle.spec_expression.specs.Syntax as tree
use Rattle.spec_expression.specs.Syntax.{Expr, AnyName, InNamespace, Named}
use Rattle.spec_expression.specs.Code.{expression_code}
use Rattle.spec_expression.specs.declared.ExpressionRefusal.{ExpressionRefusal}
use Rattle.spec_expression.specs.declared.code.StaticCode.{StaticCode}
use Rattle.spec_expression.specs.declared.code.StaticCode.TheVariants as code
use Rattle.spec_stylesheet.specs.declared.method.Method.{Method}
use Rattle.spec_stylesheet.specs.declared.method.Method.TheVariants as method
use Rattle.spec_stylesheet.specs.Pattern.{Pattern}
use Rattle.spec_stylesheet.specs.ValueTemplate.{Avt}
use Rattle.spec_static.specs.declared.refusal.TemplateRefusal.{TemplateRefusal}
use Rattle.spec_static.specs.PatternGrammar.{pattern_code}
use Rattle.spec_static.specs.declared.refusal.TemplateRefusal.TheVariants as refusal
use Rattle.spec_static.specs.TemplateGrammar.{Piece, Character, Enclosed, Stray, pieces}
use Rattle.spec_structure.specs.declared.element.XsltElement.{XsltElement}
use Rattle.spec_structure.specs.declared.element.XsltElement.TheVariants as xsl
use Rattle.spec_structure.specs.declared.value.ValueKind.{ValueKind}
use Rattle.spec_structure.specs.declared.value.ValueKind.TheVariants as kind
use Rattle.spec_structure.specs.Elements.{Row, rows_of}
use Rattle.spec_structure.specs.Inside.{expanded_of}
use Rattle.spec_structure.specs.Structure.{kind_named}
use Rattle.spec_compile.specs.Reading.{Reading, Done, Expression, APattern, Template, reading_then, joined, both}
use Rattle.spec_compile.specs.Walk.{has, has_in_pattern, has_in_template, unknown_calls, variables, calls_of, starts_with_key}

-- what the value of an attribute is
pub data Value : Type 0 where
  AText : (text : List ℕ) → Value
  AnExpr : (e : Expr) → Value
  Matches : (pattern : Pattern) → Value
  AnAvt : (avt : Avt) → Value
  AName : (name : Expanded) → Value
  SomeNames : (names : List Expanded) → Value
  SomeTests : (tests : List tree.Test) → Value
  APriority : (millionths : ℤ) → Value
  AMethod : (method : Method Expanded) → Value

-- ---- Names

abbrev pub name_by : Option Expanded → Result Expanded StaticCode
name_by None = Err code.NoPrefix
name_by (Some name) = Ok name

-- a name without a prefix is in no namespace
abbrev pub name_of : Scope → List ℕ → Result Expanded StaticCode
name_of scope text = elim (qname_of text) [ None ↦ Err code.BadName | Some name ↦ name_by (attribute_name scope name) ]

abbrev pub each : {A : Type 0} → (List ℕ → Result A StaticCode) → List (List ℕ) → Result (List A) StaticCode
each read [] = Ok []
each read (word ∷ more) = joined (λ a rest. a ∷ rest) (read word) (each read more)

abbrev pub is_declared : Scope → List ℕ → Bool
is_declared scope prefix = is_some (resolved scope prefix)

-- a prefix, or `#default`, which needs no declaration
abbrev pub prefix_of : Scope → List ℕ → Result (List ℕ) StaticCode
prefix_of scope word =
    if bytes_eq word (codes "#default") then Ok word
    else (if not (is_ncname word) then Err code.BadName else (if is_declared scope word then Ok word else Err code.NoPrefix))

abbrev pub uri_by : Option (List ℕ) → Result tree.Test StaticCode
uri_by None = Err code.NoPrefix
uri_by (Some uri) = Ok (InNamespace uri)

abbrev pub named_by : Result Expanded StaticCode → Result tree.Test StaticCode
named_by (Err why) = Err why
named_by (Ok name) = Ok (Named name)

-- `*`, `p:*` or a name
abbrev pub test_of : Scope → List ℕ → Result tree.Test StaticCode
test_of scope word =
    if bytes_eq word (codes "*") then Ok AnyName
    else (if is_ncname (before_first is_colon word) && bytes_eq (after_first is_colon word) (codes "*") then uri_by (resolved scope (before_first is_colon word))
    else named_by (name_of scope word))

-- ---- Output methods and priorities

abbrev pub method_by : Result Expanded StaticCode → Result Value StaticCode
method_by (Err why) = Err why
method_by (Ok name) = Ok (AMethod (method.Other name))

abbrev pub method_of : Scope → List ℕ → Result Value StaticCode
method_of scope text =
    if bytes_eq text (codes "xml") then Ok (AMethod method.Xml)
    else (if bytes_eq text (codes "html") then Ok (AMethod method.Html)
    else (if bytes_eq text (codes "text") then Ok (AMethod method.Text) else method_by (name_of scope text)))

-- Digits, Digits . Digits, Digits . or . Digits, of at most 9 digits before the point and 6 after it, in millionths
abbrev pub millionths : (whole fraction : List ℕ) → ℕ
millionths whole fraction = decimal whole * 1000000 + decimal fraction * 10 ^ (6 - length fraction)

abbrev pub is_within_limits : (whole fraction : List ℕ) → Bool
is_within_limits whole fraction = nat_le 1 (length whole + length fraction) && nat_le (length whole) 9 && nat_le (length fraction) 6

abbrev pub unsigned_priority : List ℕ → Option ℕ
unsigned_priority text =
    let whole = digits_at text in
    let behind = drop (length whole) text in
    let fraction = digits_at (drop 1 behind) in
    if length behind == 0 then (if is_within_limits whole [] then Some (millionths whole []) else None)
    else (if begins 0x2E behind && (length behind == 1 + length fraction) && is_within_limits whole fraction then Some (millionths whole fraction) else None)

abbrev pub negative : ℕ → ℤ
negative n = neg_ℤ (pos n)

abbrev pub signed_priority : List ℕ → Option ℤ
signed_priority [] = None
signed_priority (c ∷ cs) = if c == 0x2D then option_map negative (unsigned_priority cs) else option_map pos (unsigned_priority (c ∷ cs))

-- white space around it does not count
abbrev pub priority_of : List ℕ → Result Value StaticCode
priority_of text = elim (signed_priority (trimmed text)) [ None ↦ Err code.BadNumber | Some n ↦ Ok (APriority n) ]

-- ---- Expressions, patterns and value templates; a call that names no function is refused

abbrev pub expression_by : Result Expr ExpressionRefusal → Result Value StaticCode
expression_by (Err why) = Err (expression_code why)
expression_by (Ok e) = if has unknown_calls e then Err code.BadFunction else Ok (AnExpr e)

abbrev pub pattern_by : Result Pattern ExpressionRefusal → Result Value StaticCode
pattern_by (Err why) = Err (pattern_code why)
pattern_by (Ok p) = if has_in_pattern unknown_calls p then Err code.BadFunction else Ok (Matches p)

-- the texts that stand between braces
abbrev pub enclosed_in : List Piece → List (List ℕ)
enclosed_in [] = []
enclosed_in (Character c ∷ ps) = enclosed_in ps
enclosed_in (Enclosed text ∷ ps) = text ∷ enclosed_in ps
enclosed_in (Stray ∷ ps) = enclosed_in ps

abbrev pub calls_unknown : Result Expr ExpressionRefusal → Bool
calls_unknown (Err why) = false
calls_unknown (Ok e) = has unknown_calls e

-- the code of a template with a brace out of place: where one of its expressions calls what is no function, that code is less
abbrev pub stray_code : Scope → (expressions : List (List ℕ)) → Reading (Result Value StaticCode)
stray_code scope [] = Done (Err code.BadValueTemplate)
stray_code scope (text ∷ more) = Expression scope text (λ r. if calls_unknown r then Done (Err code.BadFunction) else stray_code scope more)

abbrev pub template_by : Scope → List ℕ → Result Avt TemplateRefusal → Reading (Result Value StaticCode)
template_by scope text (Err (refusal.AnExpression why)) = Done (Err (expression_code why))
template_by scope text (Err refusal.Braces) = stray_code scope (enclosed_in (pieces 0 text))
template_by scope text (Ok a) = Done (if has_in_template unknown_calls a then Err code.BadFunction else Ok (AnAvt a))

-- ---- A value by its kind

abbrev pub on_ok : {A : Type 0} → (A → Value) → Result A StaticCode → Result Value StaticCode
on_ok f (Err why) = Err why
on_ok f (Ok a) = Ok (f a)

abbrev pub value_of : ValueKind → Scope → List ℕ → Reading (Result Value StaticCode)
value_of kind.Any scope text = Done (Ok (AText text))
value_of kind.Expression scope text = Expression scope text (λ r. Done (expression_by r))
value_of kind.Pattern scope text = APattern scope text (λ r. Done (pattern_by r))
value_of kind.Template scope text = Template scope text (template_by scope text)
value_of kind.Name scope text = Done (on_ok AName (name_of scope text))
value_of kind.Names scope text = Done (on_ok SomeNames (each (name_of scope) (words text)))
value_of kind.Prefixes scope text = Done (on_ok (λ prefixes. AText text) (each (prefix_of scope) (words text)))
value_of kind.Prefix scope text = Done (on_ok AText (prefix_of scope text))
value_of kind.Tests scope text = Done (on_ok SomeTests (each (test_of scope) (words text)))
value_of kind.YesNo scope text = Done (Ok (AText text))
value_of kind.Level scope text = Done (Ok (AText text))
value_of kind.Method scope text = Done (method_of scope text)
value_of kind.Priority scope text = Done (priority_of text)

-- ---- The attributes of an element, by its rows in this namespace

pub record Entry : Type 0 where
  pub name : List ℕ
  pub value : Value

-- a value, unless it may not stand there. It is asked of each by itself, since S24 is less than S26
abbrev pub unless_barred : (Value → Bool) → Result Value StaticCode → Result Value StaticCode
unless_barred barred (Err why) = Err why
unless_barred barred (Ok v) = if barred v then Err code.BarredReference else Ok v

abbrev pub entry_by : (Value → Bool) → List ℕ → Scope → List ℕ → Option ValueKind → Reading (Result (List Entry) StaticCode)
entry_by barred local scope text None = Done (Ok [])
entry_by barred local scope text (Some kind) =
    reading_then (value_of kind scope text) (λ r. Done (joined (λ v rest. record { name = local; value = v } ∷ rest) (unless_barred barred r) (Ok [])))

abbrev pub entry_of : (Value → Bool) → Scope → (uri : List ℕ) → List Row → List ℕ → Option Expanded → Reading (Result (List Entry) StaticCode)
entry_of barred scope uri rows text None = Done (Ok [])
entry_of barred scope uri rows text (Some name) =
    if bytes_eq name.uri uri then entry_by barred name.local scope text (kind_named name.local rows) else Done (Ok [])

abbrev pub entries_of : (Value → Bool) → Scope → (uri : List ℕ) → List Row → List Written → Reading (Result (List Entry) StaticCode)
entries_of barred scope uri rows [] = Done (Ok [])
entries_of barred scope uri rows (a ∷ more) =
    both (λ one rest. one ++ rest) (entry_of barred scope uri rows a.value (expanded_of scope a)) (entries_of barred scope uri rows more)

-- what an attribute of this name has
abbrev pub value_at : List ℕ → List Entry → Option Value
value_at name [] = None
value_at name (e ∷ es) = if bytes_eq e.name name then Some e.value else value_at name es

abbrev pub expr_in : Value → Option Expr
expr_in (AnExpr e) = Some e
expr_in _ = None

abbrev pub pattern_in : Value → Option Pattern
pattern_in (Matches p) = Some p
pattern_in _ = None

abbrev pub avt_in : Value → Option Avt
avt_in (AnAvt a) = Some a
avt_in _ = None

abbrev pub name_in : Value → Option Expanded
name_in (AName name) = Some name
name_in _ = None

abbrev pub names_in : Value → Option (List Expanded)
names_in (SomeNames names) = Some names
names_in _ = None

abbrev pub text_in : Value → Option (List ℕ)
text_in (AText text) = Some text
text_in _ = None

abbrev pub at : {A : Type 0} → (Value → Option A) → List ℕ → List Entry → Option A
at part name entries = option_and_then part (value_at name entries)

-- ---- What may not stand in a pattern, or in a key: variables in the match of a template, and in the match and use of a key; current() in a
-- pattern; key() inside an xsl:key (S24)

abbrev pub has_barred_pattern : XsltElement → Pattern → Bool
has_barred_pattern xsl.Template p = has_in_pattern variables p || has_in_pattern (calls_of (codes "current")) p
has_barred_pattern xsl.Key p =
    has_in_pattern variables p || has_in_pattern (calls_of (codes "current")) p || has_in_pattern (calls_of (codes "key")) p || starts_with_key p
has_barred_pattern _ p = has_in_pattern (calls_of (codes "current")) p

abbrev pub has_barred_use : XsltElement → Expr → Bool
has_barred_use xsl.Key e = has variables e || has (calls_of (codes "key")) e
has_barred_use _ e = false

abbrev pub is_barred : XsltElement → Value → Bool
is_barred x (Matches p) = has_barred_pattern x p
is_barred x (AnExpr e) = has_barred_use x e
is_barred x _ = false

-- what the attributes of an element of XSLT say
abbrev pub attributes_of : Scope → XsltElement → List Written → Reading (Result (List Entry) StaticCode)
attributes_of scope element attributes = entries_of (is_barred element) scope [] (rows_of element) attributes

-- what the attributes of XSLT's namespace say at another element, where no value is barred
abbrev pub none_barred : Value → Bool
none_barred v = false

abbrev pub xslt_attributes_of : Scope → List Row → List Written → Reading (Result (List Entry) StaticCode)
xslt_attributes_of scope rows attributes = entries_of none_barred scope xslt_uri rows attributes
