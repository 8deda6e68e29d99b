use Rattle.std.proofs.Common.{List, ℕ, [], ap, ◌∙◌}
use Rattle.std.specs.Option.{unwrap_or}
use Rattle.std.proofs.lemmas.Result.{IfOk-weaker}
use Rattle.std.proofs.lemmas.Str.{chars-nil}
use Rattle.spec_document.specs.Scope.{resolved}
use Rattle.xt_copy.proofs.Uris.{no_prefix}
use Rattle.xt_copy.proofs.naming.element_namespace.Goals as goal

pub returns-in-None : goal.returns-in-None
returns-in-None c =
    IfOk-weaker c.prefix_uri.result _ _
    (λ uri known. known ∙ ap (λ (p : List ℕ). unwrap_or (resolved c.args.scope.now p) []) chars-nil ∙ no_prefix c.args.scope.now c.args.name.now c.in-None.ensures)
    c.prefix_uri.ensures
