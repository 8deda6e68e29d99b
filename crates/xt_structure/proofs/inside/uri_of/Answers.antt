use Rattle.std.proofs.Common.{◌≡◌, [], true, false, bytes_eq, codes, sym, ap, ◌∙◌}
use Rattle.std.specs.Option.{option_copied}
use Rattle.std.specs.Str.{chars}
use Rattle.spec_document.specs.Scope.{resolved}
use Rattle.xt_structure.proofs.inside.uri_of.Goals as goal

pub returns-then-is : goal.returns-then-is
unfolding chars
returns-then-is c =
    let e : bytes_eq c.args.prefix.now (codes "#default") ≡ true = sym c.is.ensures ∙ c.if-is.true in
    let f : option_copied c.resolve.result ≡ resolved c.args.scope.now [] = c.resolve.ensures in
    rw e f

pub returns-else-is : goal.returns-else-is
unfolding chars
returns-else-is c =
    let e : bytes_eq c.args.prefix.now (codes "#default") ≡ false = sym c.is.ensures ∙ c.if-is.false in
    rw e (c.resolve-else-is.ensures ∙ ap (resolved c.args.scope.now) c.as_str.ensures.characters)
