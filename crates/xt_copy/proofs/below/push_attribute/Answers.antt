use Rattle.std.proofs.Common.{◌≡◌, cond, ℕ, List, [], sym, ap, ◌∙◌}
use Rattle.spec_document.specs.Declaration.{is_declaration}
use Rattle.spec_meaning.specs.Stream.{followed, Ended}
use Rattle.xt_tree.specs.StreamView.{stream_of}
use Rattle.xt_tree.specs.View.{written_of}
use Rattle.xt_tree.proofs.Streams.{followed-Ended}
use Rattle.xt_copy.specs.Copied.{attribute_alone}
use Rattle.xt_copy.proofs.below.push_attribute.Goals as goal

pub returns-then-is_declaration : goal.returns-then-is_declaration
returns-then-is_declaration c =
    let a = written_of c.args.attribute.now in
    let old = stream_of c.args.items.now in
    let same : c.is_declaration.result ≡ is_declaration a
    = c.is_declaration.ensures ∙ ap (λ (n : List ℕ). is_declaration (record { name = n; value = [] })) c.as_str.ensures.characters in
    sym (followed-Ended old)
    ∙ ap (λ b. followed old (cond b Ended (attribute_alone c.args.scope.now a))) (sym c.if-is_declaration.true ∙ same)
