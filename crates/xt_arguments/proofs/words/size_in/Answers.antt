use Rattle.std.proofs.Common.{sym, ap, ◌∙◌, codes}
use Rattle.std.specs.Prelude.{option_map}
use Rattle.clap.specs.Words.{found_of}
use Rattle.clap.proofs.WalkLemmas.{first_value-rows}
use Rattle.xt_arguments.specs.Words.{asked_with}
use Rattle.xt_arguments.proofs.words.size_in.Goals as goal

pub returns-in-Some : goal.returns-in-Some
returns-in-Some c =
    c.with_size.ensures
    ∙ ap asked_with (sym (ap (option_map (λ s. s.now)) c.in-Some.is) ∙ c.get_str.ensures ∙ first_value-rows (found_of c.args.given.now) (codes "N"))

pub returns-in-None : goal.returns-in-None
returns-in-None c =
    ap asked_with (sym (ap (option_map (λ s. s.now)) c.in-None.is) ∙ c.get_str.ensures ∙ first_value-rows (found_of c.args.given.now) (codes "N"))
