use Rattle.std.proofs.Common.{◌≡◌, ℕ, ◌==◌, List, [], ◌∷◌, length, refl, ap, ◌∙◌, arith}
use Rattle.std.specs.Prelude.{not}
use Rattle.std.specs.Str.{chars}
use Rattle.std.proofs.lemmas.Bool.Decides.{nat_tests}
use Rattle.spec_document.specs.Declaration.{is_there}
use Rattle.xt_text.proofs.Chars.{no_chars}
use Rattle.xt_names.proofs.barred.is_there.Goals as goal

some_length : (cs : List ℕ) → not (length cs == 0) ≡ is_there cs
some_length [] = refl
some_length (c ∷ cs) = grind (arith, nat_tests)

pub returns : goal.returns
returns c = ap not (c.is_empty.ensures ∙ no_chars c.args.text.now c.utf8.text) ∙ some_length (chars c.args.text.now)
