use Rattle.std.proofs.Common.{sym, ap, ◌∙◌}
use Rattle.std.proofs.lemmas.Str.{chars-nil}
use Rattle.spec_structure.specs.Inside.{OfOther, role_by}
use Rattle.xt_structure.proofs.inside.role_of.Goals as goal

pub returns-in-None : goal.returns-in-None
returns-in-None c = ap OfOther chars-nil ∙ ap (role_by c.args.inside.now.extensions.items) (sym c.in-None.is ∙ c.meaning_of.ensures)
