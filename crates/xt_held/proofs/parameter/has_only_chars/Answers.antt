use Rattle.std.proofs.Common.{rules, tests}
use Rattle.std.proofs.lemmas.Iterator.{YieldsList-from_chars}
use Rattle.std.proofs.lemmas.Iterator.Search.{all_from_yields_List}
use Rattle.spec_document.specs.Character.{is_char}
use Rattle.xt_held.proofs.parameter.has_only_chars.Goals as goal

pub returns : goal.returns
returns c = all_from_yields_List is_char _ _ c.all.result c.all.ensures.ran (YieldsList-from_chars _ c.utf8.text c.chars.ensures.rest)
    (λ x b q k. search (rules, tests))
