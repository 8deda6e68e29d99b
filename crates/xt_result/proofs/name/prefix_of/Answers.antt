use Rattle.std.proofs.Common.{◌∙◌, sym, ap, []}
use Rattle.std.specs.Prelude.{unwrap_or}
use Rattle.std.specs.Option.{option_map}
use Rattle.std.specs.Str.{chars}
use Rattle.xt_result.proofs.Names.{nothing_chars, prefix_in}
use Rattle.xt_result.proofs.name.prefix_of.Goals as goal

pub returns-in-None : goal.returns-in-None
returns-in-None c = nothing_chars ∙ ap prefix_in (sym c.in-None.is ∙ c.read.ensures)

pub returns-in-None-prefix : goal.returns-in-None-prefix
returns-in-None-prefix c =
    nothing_chars ∙ ap (λ o. unwrap_or o []) (sym (ap (option_map (λ p. chars p.now)) c.in-None-prefix.is) ∙ c.prefix.ensures)
    ∙ ap prefix_in (sym c.in-Some.is ∙ c.read.ensures)
