-- What the tokens of the program stand for.
use Rattle.std.specs.Option.{option_map}
use Rattle.std.specs.Str.{chars}
use Rattle.spec_document.specs.Name.{QName}
use Rattle.spec_expression.specs.Token as plain
use Rattle.xp_parse.specs.declared.token.Name.{Name}
use Rattle.xp_parse.specs.declared.token.Token.{Token}
use Rattle.xp_parse.specs.declared.token.Token.TheVariants as tokens

abbrev pub name_of : Name → QName
name_of n = record { prefix = option_map (λ p. chars p.now) n.prefix; local = chars n.local.now }

abbrev pub token_of : Token → plain.Token
token_of tokens.Open = plain.Open
token_of tokens.Close = plain.Close
token_of tokens.OpenSquare = plain.OpenSquare
token_of tokens.CloseSquare = plain.CloseSquare
token_of tokens.Dot = plain.Dot
token_of tokens.DotDot = plain.DotDot
token_of tokens.At = plain.At
token_of tokens.Comma = plain.Comma
token_of tokens.ColonColon = plain.ColonColon
token_of tokens.Slash = plain.Slash
token_of tokens.SlashSlash = plain.SlashSlash
token_of (tokens.Binary operator) = plain.Binary operator
token_of tokens.Star = plain.Star
token_of (tokens.AnyOf prefix) = plain.AnyOf (chars prefix.now)
token_of (tokens.Name name) = plain.Name (name_of name)
token_of (tokens.Variable name) = plain.Variable (name_of name)
token_of (tokens.Literal content) = plain.Literal (chars content.now)
token_of (tokens.Number value) = plain.Number value
