-- Texts and their tokens, as facts that compute.
use Rattle.std.proofs.Common.{◌≡◌, ℕ, List, [], ◌∷◌, None, Some, refl}
use Rattle.std.specs.Prelude.{codes}
use Rattle.spec_document.specs.Character.{is_name_start, is_name_part}
use Rattle.spec_expression.specs.declared.Operator.TheVariants.{NotEqual, LessOrEqual, Greater, Subtract, Multiply, Divide, Union}
use Rattle.spec_expression.specs.Token.{Token, Open, Close, OpenSquare, CloseSquare, Dot, DotDot, At, Comma, ColonColon, Slash, SlashSlash, Binary, Star, AnyOf, Name, Variable, Literal, Number, tokens, cut, piece_at, name_at, number_at, literal_at, local_at, variable_at, word, word_at, sign_of_two, sign_of_one, unprefixed, prefixed}

abbrev n : List ℕ → Token
n name = Name (unprefixed name)

abbrev a : Token
a = n (codes "a")

pub multiplied : tokens (codes "a*b") ≡ Some (a ∷ Binary Multiply ∷ n (codes "b") ∷ [])
unfolding cut piece_at name_at number_at literal_at local_at variable_at word word_at sign_of_two sign_of_one is_name_start is_name_part
multiplied = refl

pub three_stars : tokens (codes "* * *") ≡ Some (Star ∷ Binary Multiply ∷ Star ∷ [])
unfolding cut piece_at name_at number_at literal_at local_at variable_at word word_at sign_of_two sign_of_one is_name_start is_name_part
three_stars = refl

pub three_divs : tokens (codes "div div div") ≡ Some (n (codes "div") ∷ Binary Divide ∷ n (codes "div") ∷ [])
unfolding cut piece_at name_at number_at literal_at local_at variable_at word word_at sign_of_two sign_of_one is_name_start is_name_part
three_divs = refl

pub name_with_dash : tokens (codes "a-b") ≡ Some (n (codes "a-b") ∷ [])
unfolding cut piece_at name_at number_at literal_at local_at variable_at word word_at sign_of_two sign_of_one is_name_start is_name_part
name_with_dash = refl

pub dash_after_space : tokens (codes "a -b") ≡ Some (a ∷ Binary Subtract ∷ n (codes "b") ∷ [])
unfolding cut piece_at name_at number_at literal_at local_at variable_at word word_at sign_of_two sign_of_one is_name_start is_name_part
dash_after_space = refl

pub numbers : tokens (codes "1. .5 1.0 007") ≡ Some (Number (Some 1) ∷ Number None ∷ Number (Some 1) ∷ Number (Some 7) ∷ [])
unfolding cut piece_at name_at number_at literal_at local_at variable_at word word_at sign_of_two sign_of_one is_name_start is_name_part
numbers = refl

pub greatest_number : tokens (codes "9007199254740991 9007199254740992") ≡ Some (Number (Some 9007199254740991) ∷ Number None ∷ [])
unfolding cut piece_at name_at number_at literal_at local_at variable_at word word_at sign_of_two sign_of_one is_name_start is_name_part
greatest_number = refl

pub dots_before_a_digit : tokens (codes "..5.") ≡ Some (DotDot ∷ Number (Some 5) ∷ [])
unfolding cut piece_at name_at number_at literal_at local_at variable_at word word_at sign_of_two sign_of_one is_name_start is_name_part
dots_before_a_digit = refl

pub colons : tokens (codes "p:a p:* a::b @*") ≡ Some (Name (prefixed (codes "p") (codes "a")) ∷ AnyOf (codes "p") ∷ a ∷ ColonColon ∷ n (codes "b") ∷ At ∷ Star ∷ [])
unfolding cut piece_at name_at number_at literal_at local_at variable_at word word_at sign_of_two sign_of_one is_name_start is_name_part
colons = refl

pub lone_colon : tokens (codes "p : *") ≡ None
unfolding cut piece_at name_at number_at literal_at local_at variable_at word word_at sign_of_two sign_of_one is_name_start is_name_part
lone_colon = refl

pub variables : tokens (codes "$a:b $c") ≡ Some (Variable (prefixed (codes "a") (codes "b")) ∷ Variable (unprefixed (codes "c")) ∷ [])
unfolding cut piece_at name_at number_at literal_at local_at variable_at word word_at sign_of_two sign_of_one is_name_start is_name_part
variables = refl

pub lone_dollar : tokens (codes "$ a") ≡ None
unfolding cut piece_at name_at number_at literal_at local_at variable_at word word_at sign_of_two sign_of_one is_name_start is_name_part
lone_dollar = refl

pub literals : tokens (codes "'it' \"'\" ''") ≡ Some (Literal (codes "it") ∷ Literal (codes "'") ∷ Literal [] ∷ [])
unfolding cut piece_at name_at number_at literal_at local_at variable_at word word_at sign_of_two sign_of_one is_name_start is_name_part
literals = refl

pub unclosed : tokens (codes "'a") ≡ None
unfolding cut piece_at name_at number_at literal_at local_at variable_at word word_at sign_of_two sign_of_one is_name_start is_name_part
unclosed = refl

pub slash_before_star : tokens (codes "/ * 2") ≡ Some (Slash ∷ Star ∷ Number (Some 2) ∷ [])
unfolding cut piece_at name_at number_at literal_at local_at variable_at word word_at sign_of_two sign_of_one is_name_start is_name_part
slash_before_star = refl

pub signs : tokens (codes "(a)<=[b]!=c//.>1|d,e") ≡ Some (Open ∷ a ∷ Close ∷ Binary LessOrEqual ∷ OpenSquare ∷ n (codes "b") ∷ CloseSquare ∷ Binary NotEqual ∷ n (codes "c") ∷ SlashSlash ∷ Dot ∷ Binary Greater ∷ Number (Some 1) ∷ Binary Union ∷ n (codes "d") ∷ Comma ∷ n (codes "e") ∷ [])
unfolding cut piece_at name_at number_at literal_at local_at variable_at word word_at sign_of_two sign_of_one is_name_start is_name_part
signs = refl

pub nothing : tokens [] ≡ Some []
unfolding cut
nothing = refl
