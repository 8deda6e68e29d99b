use Rattle.std.proofs.Common.{rules, tests, ap, ◌∙◌}
use Rattle.std.specs.List.{list_all}
use Rattle.std.proofs.lemmas.Iterator.{YieldsList-from_chars}
use Rattle.std.proofs.lemmas.Iterator.Search.{all_from_yields_List}
use Rattle.spec_document.specs.Character.{is_char}
use Rattle.xt_edit.proofs.attributes.is_text_of_chars.Goals as goal

pub returns : goal.returns
returns c =
    all_from_yields_List is_char _ _ c.all.result c.all.ensures.ran (YieldsList-from_chars _ c.as_str.utf8 c.chars.ensures.rest)
    (λ x b q k. search (rules, tests)) ∙ ap (list_all is_char) c.as_str.ensures.characters
