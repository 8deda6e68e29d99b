use Rattle.std.proofs.Common.{ap, sym, ◌∙◌}
use Rattle.spec_edit.specs.Edit.{edited_nodes}
use Rattle.spec_change.proofs.Agreeing.{made-alike, made-same}
use Rattle.spec_change.proofs.laws.edits_agree.Goals as goal

pub returns : goal.returns
returns c first next edit document one other d e =
    let alike = made-alike first next edit document one other d e in
    (alike.0, alike.1, λ same. made-same next edit document one other (ap (λ n. edited_nodes n edit document) (sym same) ∙ d) e)
