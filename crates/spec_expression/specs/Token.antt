-- The tokens of an expression (XPath 1.0, section 3.7).
use Rattle.std.specs.Prelude.{ℕ, zero, suc, ◌+◌, ◌-◌, Bool, true, false, ◌&&◌, ◌||◌, ◌==◌, not, if◌then◌else◌, nat_lt, bytes_eq, codes, List, [], ◌∷◌, length, drop, Option, None, Some, option_map}
use Rattle.std.specs.List.{take_while, before_first}
use Rattle.std.specs.Result.{result_ok}
use Rattle.spec_document.specs.Character.{is_space, is_between, is_name_start, is_name_part}
use Rattle.spec_document.specs.Name.{QName}
use Rattle.spec_expression.specs.Number.{numeral}
use Rattle.spec_expression.specs.declared.Operator.{Operator}
use Rattle.spec_expression.specs.declared.Operator.TheVariants.{Or, And, Equal, NotEqual, Less, LessOrEqual, Greater, GreaterOrEqual, Add, Subtract, Multiply, Divide, Modulo, Union}

pub data Token : Type 0 where
  Open : Token  -- (
  Close : Token  -- )
  OpenSquare : Token  -- [
  CloseSquare : Token  -- ]
  Dot : Token  -- .
  DotDot : Token  -- ..
  At : Token  -- @
  Comma : Token  -- ,
  ColonColon : Token  -- ::
  Slash : Token  -- /
  SlashSlash : Token  -- //
  Binary : (operator : Operator) → Token  -- or and = != < <= > >= + - * div mod |
  Star : Token  -- * as a name test
  AnyOf : (prefix : List ℕ) → Token  -- p:*
  Name : (name : QName) → Token  -- a, p:a
  Variable : (name : QName) → Token  -- $a, $p:a
  Literal : (content : List ℕ) → Token  -- "..", '..'
  Number : (value : Option ℕ) → Token  -- none where it has a fraction or is too great

-- whether an operator may follow: after `@ :: ( [ ,` and after an operator, and before the first
-- token, `*` is a name test and an NCName is a name
abbrev pub ends_operand : Token → Bool
ends_operand Open = false
ends_operand OpenSquare = false
ends_operand At = false
ends_operand Comma = false
ends_operand ColonColon = false
ends_operand Slash = false
ends_operand SlashSlash = false
ends_operand (Binary operator) = false
ends_operand _ = true

abbrev pub is_digit : ℕ → Bool
is_digit = is_between 0x30 0x39

-- the front of the text that these characters make, the longest
abbrev pub digits_at : List ℕ → List ℕ
digits_at text = take_while is_digit text

-- the NCName at the front, the longest; empty where none begins there
unfoldable pub name_at : List ℕ → List ℕ
name_at [] = []
name_at (c ∷ cs) = if is_name_start c then take_while is_name_part (c ∷ cs) else []

abbrev pub begins : ℕ → List ℕ → Bool
begins c [] = false
begins c (d ∷ ds) = d == c

abbrev pub is_empty : List ℕ → Bool
is_empty [] = true
is_empty (c ∷ cs) = false

-- a token at the front of a text, and how many characters it takes
pub record Piece : Type 0 where
  pub token : Token
  pub taken : ℕ

abbrev pub piece : Token → ℕ → Option Piece
piece token taken = Some (record { token = token; taken = taken })

-- Digits, Digits . Digits, Digits . or . Digits
unfoldable pub number_at : List ℕ → Option Piece
number_at text =
    let whole = digits_at text in
    let behind = drop (length whole) text in
    let fraction = digits_at (drop 1 behind) in
    if begins 0x2E behind then piece (Number (result_ok (numeral whole fraction))) (length whole + 1 + length fraction)
    else piece (Number (result_ok (numeral whole []))) (length whole)

-- from the quote up to the next of its kind
unfoldable pub literal_at : ℕ → List ℕ → Option Piece
literal_at quote behind =
    let content = before_first (λ c. c == quote) behind in
    if nat_lt (length content) (length behind) then piece (Literal content) (length content + 2) else None

-- behind an NCName: the local part, where a colon and an NCName follow; else empty
unfoldable pub local_at : List ℕ → List ℕ
local_at behind = if begins 0x3A behind then name_at (drop 1 behind) else []

abbrev pub unprefixed : List ℕ → QName
unprefixed local = record { prefix = None; local = local }

abbrev pub prefixed : List ℕ → List ℕ → QName
prefixed prefix local = record { prefix = Some prefix; local = local }

-- a name after the `$`
unfoldable pub variable_at : List ℕ → Option Piece
variable_at text =
    let name = name_at text in
    let local = local_at (drop (length name) text) in
    if is_empty name then None
    else (if is_empty local then piece (Variable (unprefixed name)) (1 + length name)
    else piece (Variable (prefixed name local)) (1 + length name + 1 + length local))

-- where an operand stands before, an NCName that names an operator is one
unfoldable pub word : Bool → List ℕ → Token
word after_operand name =
    if after_operand && bytes_eq name (codes "or") then Binary Or
    else (if after_operand && bytes_eq name (codes "and") then Binary And
    else (if after_operand && bytes_eq name (codes "div") then Binary Divide
    else (if after_operand && bytes_eq name (codes "mod") then Binary Modulo
    else Name (unprefixed name))))

-- p:a, p:* or an NCName alone
unfoldable pub word_at : Bool → List ℕ → Option Piece
word_at after_operand text =
    let name = name_at text in
    let behind = drop (length name) text in
    let local = local_at behind in
    if not (is_empty local) then piece (Name (prefixed name local)) (length name + 1 + length local)
    else (if begins 0x3A behind && begins 0x2A (drop 1 behind) then piece (AnyOf name) (length name + 2)
    else piece (word after_operand name) (length name))

-- signs of two characters: .. :: // != <= >=
unfoldable pub sign_of_two : ℕ → ℕ → Option Token
sign_of_two c d =
    if (c == 0x2E) && (d == 0x2E) then Some DotDot
    else (if (c == 0x3A) && (d == 0x3A) then Some ColonColon
    else (if (c == 0x2F) && (d == 0x2F) then Some SlashSlash
    else (if (c == 0x21) && (d == 0x3D) then Some (Binary NotEqual)
    else (if (c == 0x3C) && (d == 0x3D) then Some (Binary LessOrEqual)
    else (if (c == 0x3E) && (d == 0x3D) then Some (Binary GreaterOrEqual)
    else None)))))

-- signs of one character: ( ) [ ] . @ , / | + - = < > and *, which multiplies behind an operand
unfoldable pub sign_of_one : Bool → ℕ → Option Token
sign_of_one after_operand c =
    if c == 0x28 then Some Open
    else (if c == 0x29 then Some Close
    else (if c == 0x5B then Some OpenSquare
    else (if c == 0x5D then Some CloseSquare
    else (if c == 0x2E then Some Dot
    else (if c == 0x40 then Some At
    else (if c == 0x2C then Some Comma
    else (if c == 0x2F then Some Slash
    else (if c == 0x7C then Some (Binary Union)
    else (if c == 0x2B then Some (Binary Add)
    else (if c == 0x2D then Some (Binary Subtract)
    else (if c == 0x3D then Some (Binary Equal)
    else (if c == 0x3C then Some (Binary Less)
    else (if c == 0x3E then Some (Binary Greater)
    else (if c == 0x2A then Some (if after_operand then Binary Multiply else Star)
    else None))))))))))))))

-- the first character, which no text here has as 0 where it is empty
abbrev pub first : List ℕ → ℕ
first [] = 0
first (c ∷ cs) = c

abbrev pub sign_at : Bool → ℕ → List ℕ → Option Piece
sign_at after_operand c behind =
    elim (sign_of_two c (first behind)) [
      | Some token ↦ piece token 2
      | None ↦ elim (sign_of_one after_operand c) [ Some token ↦ piece token 1 | None ↦ None ]
    ]

-- the longest token that a text begins with, by its first character
unfoldable pub piece_at : Bool → ℕ → List ℕ → Option Piece
piece_at after_operand c behind =
    if is_digit c || ((c == 0x2E) && is_digit (first behind)) then number_at (c ∷ behind)
    else (if is_name_start c then word_at after_operand (c ∷ behind)
    else (if (c == 0x22) || (c == 0x27) then literal_at c behind
    else (if c == 0x24 then variable_at behind
    else sign_at after_operand c behind)))

-- The tokens of what is left of a text: behind `taken` characters that the last token still takes,
-- where an operand stands before or not. None: it cannot be cut.
unfoldable pub cut : ℕ → Bool → List ℕ → Option (List Token)
cut taken after_operand [] = Some []
cut (suc taken) after_operand (c ∷ cs) = cut taken after_operand cs
cut zero after_operand (c ∷ cs) = elim (is_space c) [
  | true ↦ cut zero after_operand cs
  | false ↦ elim (piece_at after_operand c cs) [
    | None ↦ None
    | Some p ↦ option_map (λ tokens. p.token ∷ tokens) (cut (p.taken - 1) (ends_operand p.token) cs)
  ]
]

-- the tokens of a text, where it can be cut
abbrev pub tokens : List ℕ → Option (List Token)
tokens text = cut 0 false text

-- how many `(` and `[` are open behind a token
abbrev pub depth_behind : ℕ → Token → ℕ
depth_behind depth Open = depth + 1
depth_behind depth OpenSquare = depth + 1
depth_behind depth Close = depth - 1
depth_behind depth CloseSquare = depth - 1
depth_behind depth _ = depth

-- whether more than 64 are open at a token
unfoldable pub is_deep : ℕ → List Token → Bool
is_deep depth [] = false
is_deep depth (t ∷ ts) = nat_lt 64 (depth_behind depth t) || is_deep (depth_behind depth t) ts
