use Rattle.std.proofs.Common.{List, ℕ, subst}
use Rattle.std.specs.Str.{chars}
use Rattle.xt_compile.specs.View.{IsCompiled}
use Rattle.xt_import.specs.View.{modules_in}
use Rattle.xt_held.proofs.stylesheet.sheet_of_main.Goals as goal

pub returns : goal.returns
unfolding chars
returns c = subst (λ (name : List ℕ). IsCompiled (modules_in c.args.modules.now.entries) name c.sheet.result) c.in_ok-main.ensures c.sheet.ensures
