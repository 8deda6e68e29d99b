use Rattle.std.proofs.Common.{◌≡◌, ◌∙◌, ◌∷◌, ◌++◌, [], ap, codes, unwrap_or}
use Rattle.std.specs.Str.{chars}
use Rattle.spec_compile.specs.Content.{nowhere}
use Rattle.spec_compile.specs.Value.{at, name_in}
use Rattle.xt_attributes.specs.View.{entries_in}
use Rattle.xt_content.proofs.outline.called.Goals as goal

pub returns : goal.returns
unfolding chars
returns c =
    let name : c.in_ok-name.name ≡ at name_in (codes "name") (entries_in c.args.entries.now) = c.in_ok-name.ensures in
    c.in_ok-push.ensures.items ∙ ap (λ list. list ++ c.or_nowhere.result ∷ []) c.new-list.ensures.items
    ∙ ap (λ n. n ∷ []) (c.or_nowhere.ensures ∙ ap (λ o. unwrap_or o nowhere) name)
