-- The URIs of names.
use Rattle.std.proofs.Common.{◌≡◌, List, ℕ, [], Option, None, ap}
use Rattle.std.specs.Option.{unwrap_or}
use Rattle.spec_document.specs.Declaration.{element_name}
use Rattle.spec_document.specs.Name.{QName}
use Rattle.spec_document.specs.Scope.{Scope, resolved}
use Rattle.xt_copy.specs.Copied.{uri_by}

-- a name without a prefix is in the default namespace
pub no_prefix : (scope : Scope) (name : QName) → None ≡ name.prefix → unwrap_or (resolved scope []) [] ≡ uri_by (element_name scope name)
no_prefix scope name e = ap (λ (p : Option (List ℕ)). uri_by (element_name scope (record { prefix = p; local = name.local }))) e
