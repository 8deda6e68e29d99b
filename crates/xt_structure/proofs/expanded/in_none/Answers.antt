use Rattle.std.proofs.Common.{List, ℕ, ap}
use Rattle.std.specs.Str.{chars}
use Rattle.std.proofs.lemmas.Str.{chars-nil}
use Rattle.spec_document.specs.Name.{Expanded}
use Rattle.xt_structure.proofs.expanded.in_none.Goals as goal

pub returns : goal.returns
returns c = let f : List ℕ → Expanded = λ u. record { uri = u; local = chars c.args.local.now } in ap f chars-nil
