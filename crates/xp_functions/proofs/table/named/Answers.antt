use Rattle.std.proofs.Common.{◌≡◌, List, ℕ, sym, ap, ◌∙◌, length, ◌==◌}
use Rattle.std.specs.Str.{chars}
use Rattle.spec_meaning.specs.Function.{functions, found_in, is_empty}
use Rattle.xp_functions.proofs.Words.{if_true, empty_is}
use Rattle.xp_functions.proofs.table.named.Goals as goal

pub returns-then-is_empty : goal.returns-then-is_empty
unfolding chars
returns-then-is_empty c =
    let e : c.is_empty.result ≡ is_empty c.args.name.now.uri = c.is_empty.ensures ∙ ap (λ (u : List ℕ). length u == 0) c.uri.ensures ∙ empty_is _ in
    let f : c.find_in.result ≡ found_in functions c.local.result.now c.args.arguments = c.find_in.ensures in
    f ∙ ap (λ (l : List ℕ). found_in functions l c.args.arguments) c.local.ensures ∙ sym (if_true _ _ _ (sym e ∙ c.if-is_empty.true))
