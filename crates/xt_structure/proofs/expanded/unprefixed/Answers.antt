use Rattle.std.proofs.Common.{List, ℕ, Option, Some, [], ap, sym, ◌∙◌}
use Rattle.std.specs.Str.{chars}
use Rattle.std.specs.Option.{option_copied, unwrap_or}
use Rattle.std.proofs.lemmas.Str.{chars-nil}
use Rattle.spec_document.specs.Name.{Expanded}
use Rattle.spec_document.specs.Scope.{resolved}
use Rattle.xt_structure.proofs.expanded.unprefixed.Goals as goal

pub returns-in-None : goal.returns-in-None
returns-in-None c =
    let f : Option (List ℕ) → Option Expanded = λ o. Some (record { uri = unwrap_or o []; local = chars c.args.local.now }) in
    let e = sym (ap option_copied c.in-None.is) ∙ c.resolve.ensures ∙ ap (resolved c.args.scope.now) chars-nil in
    ap Some c.in_none.ensures ∙ ap f e

pub returns-in-Some : goal.returns-in-Some
returns-in-Some c =
    let f : Option (List ℕ) → Option Expanded = λ o. Some (record { uri = unwrap_or o []; local = chars c.args.local.now }) in
    let g : List ℕ → Option Expanded = λ u. Some (record { uri = u; local = chars c.args.local.now }) in
    let e = sym (ap option_copied c.in-Some.is) ∙ c.resolve.ensures ∙ ap (resolved c.args.scope.now) chars-nil in
    ap g c.as_str.ensures.characters ∙ ap f e
