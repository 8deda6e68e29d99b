-- What functions that read tokens answer.
use Rattle.std.specs.Prelude.{◌≡◌, ℕ, ◌+◌, ◌<◌, Bool, true, false, not, is_some, List, ◌∷◌, ◌++◌, length, drop, map, None, Some, Result, Ok, Err}
use Rattle.std.specs.Str.{chars}
use Rattle.spec_expression.specs.declared.Operator.{Operator}
use Rattle.spec_expression.specs.declared.Level.{Level}
use Rattle.spec_expression.specs.declared.ExpressionRefusal.TheVariants.{Syntax, Depth, Number, Prefix}
use Rattle.spec_document.specs.declared.axis.Axis.{Axis}
use Rattle.spec_document.specs.declared.axis.Axis.TheVariants.{Attribute, Child}
use Rattle.spec_expression.specs.declared.NodeType.{NodeType}
use Rattle.spec_document.specs.Name.{QName}
use Rattle.spec_expression.specs.Token as plain
use Rattle.spec_expression.specs.Token.{Token}
use Rattle.spec_expression.specs.Grammar.{level_of, axis_of, type_of}
use Rattle.spec_expression.proofs.Rank.{head_rank}
use Rattle.xp_parse.specs.declared.token.Sign.{Sign}
use Rattle.xp_parse.specs.declared.token.Sign.TheVariants as signs
use Rattle.xp_parse.specs.declared.fault.ParseFault.{ParseFault}
use Rattle.xp_parse.specs.declared.fault.ParseFault.TheVariants.{Memory, Refused}
use Rattle.xp_parse.specs.declared.read.Parser.{Parser}
use Rattle.xp_parse.specs.declared.read.Head.{Head}
use Rattle.xp_parse.specs.declared.read.Head.TheVariants as heads
use Rattle.xp_parse.specs.declared.read.TestHead.{TestHead}
use Rattle.xp_parse.specs.declared.read.TestHead.TheVariants as tests
use Rattle.xp_parse.specs.View.{token_of, name_of}

-- P ts x us: the tokens ts are x, and then us. That is so, and of no other x and us that no token could go on.
pub record Read {A : Type 0} (P : List Token → A → List Token → Type 0) (r : ℕ) (ts : List Token) (x : A) (us : List Token) : Type 0 where
  pub reads : P ts x us
  pub only : (y : A) (vs : List Token) → P ts y vs → head_rank vs < r → (x ≡ y) × (us ≡ vs)

-- no front of the tokens is read
pub record Nothing {A : Type 0} (P : List Token → A → List Token → Type 0) (r : ℕ) (ts : List Token) : Type 0 where
  pub none : (y : A) (vs : List Token) → P ts y vs → head_rank vs < r → ⊥

-- what was read, or that nothing is
abbrev pub Answers : {X A : Type 0} → (X → A) → (List Token → A → List Token → Type 0) → ℕ → List Token → List Token → Result X ParseFault → Type 0
Answers view P r ts us (Ok x) = Read P r ts (view x) us
Answers view P r ts us (Err Memory) = Unit {0}
Answers view P r ts us (Err (Refused Syntax)) = Nothing P r ts
Answers view P r ts us (Err (Refused Depth)) = ⊥
Answers view P r ts us (Err (Refused Number)) = ⊥
Answers view P r ts us (Err (Refused Prefix)) = ⊥

pub record Returns {X A : Type 0} (view : X → A) (P : List Token → A → List Token → Type 0) (r : ℕ) (ts us : List Token) (result : Result X ParseFault) : Type
    0 where
  pub answer : Answers view P r ts us result

-- zs is front and then what P reads
pub record Behind {X : Type 0} (front : List X) (P : List Token → List X → List Token → Type 0) (ts : List Token) (zs : List X) (us : List Token) : Type 0 where
  pub more : List X
  pub whole : zs ≡ front ++ more
  pub reads : P ts more us

-- the tokens from a place on
abbrev pub left : Parser → ℕ → List Token
left p at = map token_of (drop at p.tokens.now)

abbrev pub token_of_sign : Sign → Token
token_of_sign signs.Open = plain.Open
token_of_sign signs.Close = plain.Close
token_of_sign signs.OpenSquare = plain.OpenSquare
token_of_sign signs.CloseSquare = plain.CloseSquare
token_of_sign signs.Dot = plain.Dot
token_of_sign signs.DotDot = plain.DotDot
token_of_sign signs.At = plain.At
token_of_sign signs.Comma = plain.Comma
token_of_sign signs.ColonColon = plain.ColonColon
token_of_sign signs.Slash = plain.Slash
token_of_sign signs.SlashSlash = plain.SlashSlash

-- the token at a place, where there is one
pub record IsNext (p : Parser) (at : ℕ) (t : Token) : Type 0 where
  pub within : at < length p.tokens.now
  pub is : left p at ≡ t ∷ left p (at + 1)

pub record IsNotNext (ts : List Token) (t : Token) : Type 0 where
  pub different : (us : List Token) → ts ≡ t ∷ us → ⊥

-- no operator of this level is next
pub record NoOperator (level : Level) (ts : List Token) : Type 0 where
  pub none : (o : Operator) (us : List Token) → ts ≡ plain.Binary o ∷ us → level_of o ≡ level → ⊥

-- what a step begins with
abbrev pub begins_step : List Token → Bool
begins_step (plain.Dot ∷ ts) = true
begins_step (plain.DotDot ∷ ts) = true
begins_step (plain.At ∷ ts) = true
begins_step (plain.Star ∷ ts) = true
begins_step (plain.AnyOf p ∷ ts) = true
begins_step (plain.Name q ∷ ts) = true
begins_step _ = false

-- what a primary expression begins with
abbrev pub begins_primary : List Token → Bool
begins_primary (plain.Variable q ∷ ts) = true
begins_primary (plain.Open ∷ ts) = true
begins_primary (plain.Literal t ∷ ts) = true
begins_primary (plain.Number n ∷ ts) = true
begins_primary (plain.Name q ∷ plain.Open ∷ ts) = not (is_some (type_of q))
begins_primary _ = false

-- what a node test begins with
abbrev pub begins_test : List Token → Bool
begins_test (plain.Star ∷ ts) = true
begins_test (plain.AnyOf p ∷ ts) = true
begins_test (plain.Name q ∷ ts) = true
begins_test _ = false

-- no name of an axis is next
pub record NoAxis (ts : List Token) : Type 0 where
  pub none : (q : QName) (us : List Token) → ts ≡ plain.Name q ∷ plain.ColonColon ∷ us → ⊥

-- no literal and `)` are next
pub record NoTarget (ts : List Token) : Type 0 where
  pub none : (target : List ℕ) (us : List Token) → ts ≡ plain.Literal target ∷ plain.Close ∷ us → ⊥

-- (Axis '::' | '@')?, where no axis is child, before what is not `.` nor `..`
pub data ReadsAxis : List Token → Axis → List Token → Type 0 where
  named : {ts : List Token} {q : QName} {a : Axis} → axis_of q ≡ Some a → ReadsAxis (plain.Name q ∷ plain.ColonColon ∷ ts) a ts
  attribute : {ts : List Token} → ReadsAxis (plain.At ∷ ts) Attribute ts
  absent : {ts : List Token} → IsNotNext ts plain.Dot → IsNotNext ts plain.DotDot → IsNotNext ts plain.At → NoAxis ts → ReadsAxis ts Child ts

-- a name stands where an axis does, and is none
pub record IsNoAxis (ts : List Token) : Type 0 where
  pub name : QName
  pub behind : List Token
  pub is : ts ≡ plain.Name name ∷ plain.ColonColon ∷ behind
  pub unknown : axis_of name ≡ None

-- how a primary expression begins, and the tokens behind that
abbrev pub Begins : Parser → ℕ → Head → Type 0
Begins p at (heads.Variable name) = IsNext p at (plain.Variable (name_of name))
Begins p at heads.Group = IsNext p at plain.Open
Begins p at (heads.Literal content) = IsNext p at (plain.Literal (chars content.now))
Begins p at (heads.Number value) = IsNext p at (plain.Number value)
Begins p at (heads.Call name) = IsNext p at (plain.Name (name_of name)) × IsNext p (at + 1) plain.Open × (type_of (name_of name) ≡ None)

-- how a node test begins
abbrev pub BeginsTest : Parser → ℕ → TestHead → Type 0
BeginsTest p at tests.Star = IsNext p at plain.Star
BeginsTest p at (tests.AnyOf prefix) = IsNext p at (plain.AnyOf (chars prefix.now))
BeginsTest p at (tests.Name name) = IsNext p at (plain.Name (name_of name))

-- the name of a node type and `(` stand at a place
pub record IsType (p : Parser) (at : ℕ) (type : NodeType) : Type 0 where
  pub name : QName
  pub is : IsNext p at (plain.Name name)
  pub opened : IsNext p (at + 1) plain.Open
  pub known : type_of name ≡ Some type
