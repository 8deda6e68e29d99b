use Rattle.std.proofs.Common.{◌∙◌}
use Rattle.xp_functions.proofs.Words.{lang_is, xml_uri_chars, lang_chars}
use Rattle.xp_functions.proofs.language.lang_test.Goals as goal

pub returns : goal.returns
returns c = lang_is c.new.result (c.new.ensures.uri ∙ c.in_ok-uri.ensures {u = tt} ∙ xml_uri_chars) (c.new.ensures.local ∙ c.in_ok-local.ensures {u = tt} ∙ lang_chars)
