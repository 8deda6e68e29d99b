-- The codes of refused stylesheets and runs: their numbers, how they are written, and what has which code.
use Rattle.std.specs.Prelude.{ℕ, List, ◌∷◌, nat_lt, decimal, if◌then◌else◌}
use Rattle.spec_expression.specs.declared.code.StaticCode.{StaticCode}
use Rattle.spec_expression.specs.declared.code.StaticCode.TheVariants as fixed
use Rattle.spec_expression.specs.declared.code.DynCode.{DynCode}
use Rattle.spec_expression.specs.declared.code.DynCode.TheVariants as dynamic
use Rattle.spec_expression.specs.declared.code.Code.{Code}
use Rattle.spec_expression.specs.declared.code.Code.TheVariants.{Static, Dynamic}
use Rattle.spec_expression.specs.declared.ExpressionRefusal.{ExpressionRefusal}
use Rattle.spec_expression.specs.declared.ExpressionRefusal.TheVariants as refusals
use Rattle.spec_expression.specs.Number.{Fault, Fraction, Infinite, Wide}

-- `SN`
abbrev pub static_number : StaticCode → ℕ
static_number fixed.NoMain = 1
static_number fixed.NoSource = 2
static_number fixed.NoSuchModule = 3
static_number fixed.ImportCycle = 4
static_number fixed.NoStylesheet = 5
static_number fixed.BadVersion = 6
static_number fixed.MisplacedElement = 7
static_number fixed.BadAttribute = 8
static_number fixed.MisplacedContent = 9
static_number fixed.BadExpression = 10
static_number fixed.BadPattern = 11
static_number fixed.TooManyBrackets = 12
static_number fixed.BadNumber = 13
static_number fixed.NoPrefix = 14
static_number fixed.BadName = 15
static_number fixed.BadFunction = 16
static_number fixed.NoVariable = 17
static_number fixed.ShadowedVariable = 18
static_number fixed.DoubleGlobal = 19
static_number fixed.DoubleTemplate = 20
static_number fixed.NoTemplate = 21
static_number fixed.BadAttributeSet = 22
static_number fixed.SelectAndContent = 23
static_number fixed.BarredReference = 24
static_number fixed.Extension = 25
static_number fixed.BadValueTemplate = 26

-- `DN`
abbrev pub dynamic_number : DynCode → ℕ
dynamic_number dynamic.Fraction = 1
dynamic_number dynamic.Infinite = 2
dynamic_number dynamic.Wide = 3
dynamic_number dynamic.NoNodeSet = 4
dynamic_number dynamic.GlobalCycle = 6
dynamic_number dynamic.NoCurrentRule = 7
dynamic_number dynamic.BadName = 8
dynamic_number dynamic.BadSort = 9
dynamic_number dynamic.Terminated = 10
dynamic_number dynamic.TooDeep = 11

-- a number in two digits at least
abbrev pub two_digits : ℕ → List ℕ
two_digits number = if nat_lt number 10 then 0x30 ∷ decimal number else decimal number

-- a code as it is written: a letter and its number in two digits
abbrev pub code_text : Code → List ℕ
code_text (Static code) = 0x53 ∷ two_digits (static_number code)
code_text (Dynamic code) = 0x44 ∷ two_digits (dynamic_number code)

-- an expression that is refused
abbrev pub expression_code : ExpressionRefusal → StaticCode
expression_code refusals.Syntax = fixed.BadExpression
expression_code refusals.Depth = fixed.TooManyBrackets
expression_code refusals.Number = fixed.BadNumber
expression_code refusals.Prefix = fixed.NoPrefix

-- an answer of XPath's that is no number here
abbrev pub fault_code : Fault → DynCode
fault_code Fraction = dynamic.Fraction
fault_code Infinite = dynamic.Infinite
fault_code Wide = dynamic.Wide
