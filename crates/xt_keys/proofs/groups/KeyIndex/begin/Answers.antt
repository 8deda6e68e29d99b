use Rattle.std.proofs.Common.{◌≡◌, ◌++◌, ◌∷◌, [], string_bytes, bytes_eq, cond, ap, ◌∙◌}
use Rattle.std.specs.Map.{lookup}
use Rattle.std.specs.Str.{chars}
use Rattle.xt_keys.specs.View.{has_text, nodes_in}
use Rattle.xt_keys.proofs.Lookups.{lookup-insert, began}
use Rattle.xt_keys.proofs.groups.KeyIndex.begin.Goals as goal

pub returns : goal.returns
returns c = λ sought.
    let old = c.args.self.now.groups.entries in
    let key : chars (string_bytes c.in_ok-key.key) ≡ c.args.text.now = ap chars c.in_ok-key.ensures.ok ∙ c.as_str.ensures.characters in
    let nodes : c.push.new.self.items ≡ c.args.node ∷ [] = c.in_ok-push.ensures.items ∙ ap (λ l. l ++ c.args.node ∷ []) c.new-nodes.ensures.items in
    ap (λ es. nodes_in (lookup (has_text sought) es)) c.in_ok-insert.ensures.entries
    ∙ ap nodes_in (lookup-insert sought c.in_ok-key.key c.push.new.self old)
    ∙ began (has_text sought c.in_ok-key.key) c.push.new.self (lookup (has_text sought) old) (c.args.node ∷ []) nodes
    ∙ ap (λ k. cond (bytes_eq k sought) (c.args.node ∷ []) (nodes_in (lookup (has_text sought) old))) key
