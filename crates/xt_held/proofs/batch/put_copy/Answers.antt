use Rattle.std.proofs.Common.{◌≡◌, List, ℕ, ◌∷◌, string_bytes, subst, sym, ◌∙◌}
use Rattle.std.specs.declared.alloc.Global.{Global}
use Rattle.std.specs.declared.string.String.{String}
use Rattle.spec_document.specs.Forest.{Document}
use Rattle.xt_held.specs.Tried.{AreSame}
use Rattle.xt_held.proofs.Batches.{copied_more}
use Rattle.xt_held.proofs.batch.put_copy.Goals as goal

pub returns : goal.returns
returns c = λ others h.
    let name = c.args.name.now in
    let document = c.args.document.now in
    let named : string_bytes c.in_ok-key.key ≡ string_bytes name = c.in_ok-key.ensures.ok ∙ c.as_str.ensures.value in
    subst (λ (es : List (String Global × Document ℕ)). AreSame ((name, document) ∷ others) es) (sym c.in_ok-insert.ensures.entries)
    (copied_more others c.args.copy.now.entries name c.in_ok-key.key document c.in_ok-document.document named c.in_ok-document.ensures h)
