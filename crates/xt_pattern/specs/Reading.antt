-- What functions that look at the tokens of patterns answer.
use Rattle.std.specs.Prelude.{◌≡◌, ℕ, ◌+◌, bytes_eq, codes, List, ◌∷◌, Option, None, Some, if◌then◌else◌}
use Rattle.spec_document.specs.Name.{QName}
use Rattle.spec_expression.specs.Token as plain
use Rattle.spec_expression.specs.Token.{Token}
use Rattle.spec_expression.specs.Grammar.{by_local}
use Rattle.spec_stylesheet.specs.declared.pattern.Separator.{Separator}
use Rattle.spec_stylesheet.specs.declared.pattern.Separator.TheVariants as separators
use Rattle.xp_parse.specs.declared.read.Parser.{Parser}
use Rattle.xp_parse.specs.Reading.{IsNext, IsNotNext}
use Rattle.xt_pattern.specs.declared.head.HeadWord.{HeadWord}
use Rattle.xt_pattern.specs.declared.head.HeadWord.TheVariants.{Id, Key}

abbrev pub token_of_separator : Separator → Token
token_of_separator separators.Child = plain.Slash
token_of_separator separators.Descendant = plain.SlashSlash

-- no separator is next
pub record NoSeparator (ts : List Token) : Type 0 where
  pub child : IsNotNext ts plain.Slash
  pub descendant : IsNotNext ts plain.SlashSlash

-- the word that a name is before `(` where a pattern begins
abbrev pub word_named : List ℕ → Option HeadWord
word_named name = if bytes_eq name (codes "id") then Some Id else (if bytes_eq name (codes "key") then Some Key else None)

abbrev pub head_word : QName → Option HeadWord
head_word q = by_local word_named q

-- such a word and `(` stand at a place
pub record IsHead (p : Parser) (at : ℕ) (word : HeadWord) : Type 0 where
  pub name : QName
  pub is : IsNext p at (plain.Name name)
  pub opened : IsNext p (at + 1) plain.Open
  pub known : head_word name ≡ Some word

-- no such word and `(` are next
pub record NoHead (ts : List Token) : Type 0 where
  pub none : (q : QName) (us : List Token) → ts ≡ plain.Name q ∷ plain.Open ∷ us → head_word q ≡ None

-- no literal is next
pub record NoLiteral (ts : List Token) : Type 0 where
  pub none : (text : List ℕ) (us : List Token) → ts ≡ plain.Literal text ∷ us → ⊥
