use Rattle.std.proofs.Common.{◌≡◌, Some, None, ◌∷◌, [], bytes_eq, cond, sym, ap, ◌∙◌}
use Rattle.std.specs.Map.{lookup}
use Rattle.std.specs.Option.{option_copied_mut}
use Rattle.std.specs.Str.{chars}
use Rattle.std.proofs.lemmas.Result.{on_ok_weaker}
use Rattle.xt_keys.specs.View.{has_text, nodes_in, with_node}
use Rattle.xt_keys.proofs.Lookups.{by_characters, set_by_characters, went_on, was_new}
use Rattle.xt_keys.proofs.groups.KeyIndex.add.Goals as goal

pub returns-in-Some : goal.returns-in-Some
returns-in-Some c =
    let es = c.args.self.now.groups.entries in
    let bytes = c.as_str.result.now in
    let nodes = c.add_last.new.nodes in
    let written = c.get_mut.follows.holds nodes in
    let found : lookup (has_text (chars bytes)) es ≡ Some c.in-Some.nodes.now =
    sym (by_characters bytes c.as_str.utf8 es) ∙ sym c.get_mut.ensures.value ∙ ap option_copied_mut c.in-Some.is in
    on_ok_weaker c.add_last.result (λ added sought.
    ap (λ l. nodes_in (lookup (has_text sought) l)) (written.0 ∙ set_by_characters bytes c.as_str.utf8 es nodes)
    ∙ went_on (chars bytes) sought c.args.node es c.in-Some.nodes.now nodes found added
    ∙ ap (λ t. cond (bytes_eq t sought) (with_node c.args.node (nodes_in (lookup (has_text sought) es))) (nodes_in (lookup (has_text sought) es)))
    c.as_str.ensures.characters) c.add_last.ensures

pub returns-in-None : goal.returns-in-None
returns-in-None c =
    let es = c.args.self.now.groups.entries in
    let bytes = c.as_str.result.now in
    let found : lookup (has_text (chars bytes)) es ≡ None =
    sym (by_characters bytes c.as_str.utf8 es) ∙ sym c.get_mut.ensures.value ∙ ap option_copied_mut c.in-None.is in
    let none : lookup (has_text c.args.text.now) es ≡ None = ap (λ t. lookup (has_text t) es) (sym c.as_str.ensures.characters) ∙ found in
    let same = c.get_mut.follows.holds-at-none in
    on_ok_weaker c.begin.result (λ begun sought.
    begun sought ∙ (λ i. cond (bytes_eq c.args.text.now sought) (c.args.node ∷ []) (nodes_in (lookup (has_text sought) (same i).entries)))
    ∙ was_new c.args.text.now sought c.args.node es none) c.begin.ensures
