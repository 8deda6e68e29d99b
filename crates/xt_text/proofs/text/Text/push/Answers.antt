use Rattle.std.proofs.Common.{sym, ap, ◌∙◌}
use Rattle.std.specs.Str.{chars}
use Rattle.xt_text.proofs.Chars.{chars-one}
use Rattle.xt_text.proofs.text.Text.push.Goals as goal

pub returns-clause-ok : goal.returns-clause-ok
returns-clause-ok c =
    rw (sym (ap chars c.encode_utf8.ensures.value ∙ chars-one c.args.character c.ranges.character.0)) c.push_str.ensures.ok
