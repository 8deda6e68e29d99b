use Rattle.std.proofs.Common.{sym, refl}
use Rattle.std.proofs.lemmas.Str.{chars-nil, encodes-chars, IsUtf8-string_bytes}
use Rattle.xt_text.proofs.text.letters.Goals as goal

pub returns-in-None-clause-characters : goal.returns-in-None-clause-characters
returns-in-None-clause-characters c = rw (c.in-None.is) chars-nil

pub returns-in-None-clause-bytes : goal.returns-in-None-clause-bytes
returns-in-None-clause-bytes c = rw (c.in-None.is) refl

pub returns-in-Some-clause-characters : goal.returns-in-Some-clause-characters
returns-in-Some-clause-characters c = rw (c.in-Some.is, c.as_str.ensures.value, c.deref.ensures) refl

pub returns-in-Some-clause-bytes : goal.returns-in-Some-clause-bytes
returns-in-Some-clause-bytes c =
    rw (c.in-Some.is, c.as_str.ensures.value, c.deref.ensures) (sym (encodes-chars _ (IsUtf8-string_bytes c.in-Some.string.value)))
