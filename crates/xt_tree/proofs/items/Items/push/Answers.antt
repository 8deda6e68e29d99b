use Rattle.std.proofs.Common.{◌∙◌, sym, ap, ◌∷◌, [], map}
use Rattle.std.proofs.lemmas.List.{map-append}
use Rattle.spec_meaning.specs.Stream.{all_followed, followed}
use Rattle.xt_tree.specs.StreamView.{single_of}
use Rattle.xt_tree.specs.declared.items.Items.{out-Items}
use Rattle.xt_tree.proofs.Streams.{view-Items, all_followed-more}
use Rattle.xt_tree.proofs.items.Items.push.Goals as goal

pub returns-clause-ok : goal.returns-clause-ok
returns-clause-ok c =
    view-Items _ ∙ ap (λ xs. all_followed (map single_of xs)) c.in_ok-push.ensures.items
    ∙ ap all_followed (map-append single_of (out-Items c.args.self.now).list.items (c.args.item ∷ []))
    ∙ all_followed-more (map single_of (out-Items c.args.self.now).list.items) (single_of c.args.item)
    ∙ ap (λ s. followed s (single_of c.args.item)) (sym (view-Items c.args.self.now))
