use Rattle.std.proofs.Common.{◌≡◌, List, ℕ, ap, ◌∙◌, bytes_eq, length, ◌==◌}
use Rattle.std.specs.Str.{chars}
use Rattle.std.specs.List.{list_any}
use Rattle.spec_meaning.specs.Function.{functions, is_empty}
use Rattle.xp_functions.proofs.Words.{and_is, empty_is}
use Rattle.xp_functions.proofs.table.is_function.Goals as goal

pub returns-then-is_empty : goal.returns-then-is_empty
unfolding chars
returns-then-is_empty c =
    let e : c.is_empty.result ≡ is_empty c.args.name.now.uri = c.is_empty.ensures ∙ ap (λ (u : List ℕ). length u == 0) c.uri.ensures ∙ empty_is _ in
    let f : c.has_row.result ≡ list_any (λ r. bytes_eq c.local.result.now r.name) functions = c.has_row.ensures in
    and_is _ _ e c.if-is_empty.true (f ∙ ap (λ (l : List ℕ). list_any (λ r. bytes_eq l r.name) functions) c.local.ensures)
