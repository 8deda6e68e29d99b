use Rattle.xt_text.proofs.text.Text.as_str.Goals as goal
use Rattle.std.proofs.Common.{◌∙◌, ap}
use Rattle.std.specs.Str.{encode_utf8_all}

pub returns-clause-characters : goal.returns-clause-characters
returns-clause-characters c = c.letters.ensures.characters ∙ c.self.view_is

pub returns-clause-bytes : goal.returns-clause-bytes
returns-clause-bytes c = c.letters.ensures.bytes ∙ ap encode_utf8_all c.self.view_is
