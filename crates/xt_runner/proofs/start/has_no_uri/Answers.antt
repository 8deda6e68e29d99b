use Rattle.std.proofs.Common.{◌==◌, List, ℕ, length, ap, ◌∙◌}
use Rattle.xt_runner.proofs.Globals.{no_uri}
use Rattle.xt_runner.proofs.start.has_no_uri.Goals as goal

pub returns : goal.returns
returns c = c.is_empty.ensures ∙ ap (λ (t : List ℕ). length t == 0) c.uri.ensures ∙ no_uri _
