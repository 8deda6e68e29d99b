-- The texts of codes are ASCII, so that their bytes are their characters.
use Rattle.std.proofs.Common.{◌≡◌, ℕ, ◌<◌, true, false, inl, inr, arith}
use Rattle.std.specs.Prelude.{nat_lt, decimal}
use Rattle.std.specs.Str.{IsAscii}
use Rattle.std.proofs.lemmas.Bool.{cases_lt}
use Rattle.std.proofs.lemmas.Bool.Decides.{nat_tests}
use Rattle.std.proofs.lemmas.Fmt.{IsAscii-decimal}
use Rattle.std.proofs.lemmas.Str.Ascii.{IsAscii-cons}
use Rattle.spec_expression.specs.declared.code.Code.{Code}
use Rattle.spec_expression.specs.declared.code.Code.TheVariants.{Static, Dynamic}
use Rattle.spec_expression.specs.declared.code.StaticCode.{StaticCode}
use Rattle.spec_expression.specs.declared.code.StaticCode.TheVariants as fixed
use Rattle.spec_expression.specs.declared.code.DynCode.{DynCode}
use Rattle.spec_expression.specs.declared.code.DynCode.TheVariants as dynamic
use Rattle.spec_expression.specs.Code.{static_number, dynamic_number, two_digits, code_text}

ascii_digits : (n : ℕ) → n < 100 → IsAscii (two_digits n)
ascii_digits n h = elim (cases_lt n 10) [
  | inl small ↦
      let l : nat_lt n 10 ≡ true = grind (arith, nat_tests) in
      rw l (IsAscii-cons 48 (decimal n) (omega arith) (IsAscii-decimal n (omega arith)))
  | inr large ↦
      let l : nat_lt n 10 ≡ false = grind (arith, nat_tests) in
      rw l (IsAscii-decimal n (omega arith))
]

static_small : (code : StaticCode) → static_number code < 100
static_small fixed.NoMain = omega arith
static_small fixed.NoSource = omega arith
static_small fixed.NoSuchModule = omega arith
static_small fixed.ImportCycle = omega arith
static_small fixed.NoStylesheet = omega arith
static_small fixed.BadVersion = omega arith
static_small fixed.MisplacedElement = omega arith
static_small fixed.BadAttribute = omega arith
static_small fixed.MisplacedContent = omega arith
static_small fixed.BadExpression = omega arith
static_small fixed.BadPattern = omega arith
static_small fixed.TooManyBrackets = omega arith
static_small fixed.BadNumber = omega arith
static_small fixed.NoPrefix = omega arith
static_small fixed.BadName = omega arith
static_small fixed.BadFunction = omega arith
static_small fixed.NoVariable = omega arith
static_small fixed.ShadowedVariable = omega arith
static_small fixed.DoubleGlobal = omega arith
static_small fixed.DoubleTemplate = omega arith
static_small fixed.NoTemplate = omega arith
static_small fixed.BadAttributeSet = omega arith
static_small fixed.SelectAndContent = omega arith
static_small fixed.BarredReference = omega arith
static_small fixed.Extension = omega arith
static_small fixed.BadValueTemplate = omega arith

dynamic_small : (code : DynCode) → dynamic_number code < 100
dynamic_small dynamic.Fraction = omega arith
dynamic_small dynamic.Infinite = omega arith
dynamic_small dynamic.Wide = omega arith
dynamic_small dynamic.NoNodeSet = omega arith
dynamic_small dynamic.GlobalCycle = omega arith
dynamic_small dynamic.NoCurrentRule = omega arith
dynamic_small dynamic.BadName = omega arith
dynamic_small dynamic.BadSort = omega arith
dynamic_small dynamic.Terminated = omega arith
dynamic_small dynamic.TooDeep = omega arith

pub code_ascii : (code : Code) → IsAscii (code_text code)
code_ascii (Static code) = IsAscii-cons 0x53 _ (omega arith) (ascii_digits (static_number code) (static_small code))
code_ascii (Dynamic code) = IsAscii-cons 0x44 _ (omega arith) (ascii_digits (dynamic_number code) (dynamic_small code))
