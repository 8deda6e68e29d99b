use Rattle.std.proofs.Common.{◌≡◌, ℕ, List, [], ◌∷◌, not, bytes_eq, refl, ap, ◌∙◌}
use Rattle.std.specs.Str.{chars}
use Rattle.std.proofs.lemmas.Str.{chars-nil}
use Rattle.spec_document.specs.Declaration.{is_there}
use Rattle.xt_structure.proofs.code.is_there.Goals as goal

not_empty : (xs : List ℕ) → not (bytes_eq xs []) ≡ is_there xs
not_empty [] = refl
not_empty (x ∷ xs) = refl

pub returns : goal.returns
returns c = ap not (c.same.ensures ∙ ap (bytes_eq (chars c.args.uri.now)) chars-nil) ∙ not_empty (chars c.args.uri.now)
