use Rattle.std.proofs.Common.{[], ap, ◌∙◌}
use Rattle.std.specs.Option.{unwrap_or}
use Rattle.std.proofs.lemmas.Str.{chars-nil}
use Rattle.spec_document.specs.Scope.{resolved}
use Rattle.xt_names.proofs.scope.Scope.default_uri.Goals as goal

pub returns-in-None : goal.returns-in-None
returns-in-None c =
    c.new.ensures ∙ ap (λ o. unwrap_or o []) c.in-None.ensures ∙ ap (λ p. unwrap_or (resolved c.args.self.now p) []) chars-nil

pub returns-in-Some : goal.returns-in-Some
returns-in-Some c =
    let is = ap (λ o. unwrap_or o []) c.in-Some.ensures ∙ ap (λ p. unwrap_or (resolved c.args.self.now p) []) chars-nil in
    rw (← is) c.copy.ensures
