use Rattle.std.proofs.Common.{ap, ◌∙◌, rules, tests}
use Rattle.std.specs.List.{list_all}
use Rattle.std.proofs.lemmas.Iterator.{YieldsList-from_chars}
use Rattle.std.proofs.lemmas.Iterator.Search.{all_from_yields_List}
use Rattle.spec_document.specs.Character.{is_space}
use Rattle.xt_structure.proofs.text.is_white.Goals as goal

pub returns : goal.returns
returns c =
    all_from_yields_List is_space _ _ c.all.result c.all.ensures.ran (YieldsList-from_chars c.as_str.result.now c.as_str.utf8 cc)
    (λ x b q k. search (rules, tests))
    ∙ ap (list_all is_space) c.as_str.ensures.characters
