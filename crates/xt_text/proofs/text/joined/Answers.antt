use Rattle.std.proofs.Common.{◌++◌, ◌∙◌, ap, string_bytes}
use Rattle.std.specs.Str.{chars}
use Rattle.std.proofs.lemmas.Str.{chars-append, IsUtf8-string_bytes}
use Rattle.xt_text.proofs.text.joined.Goals as goal

pub returns : goal.returns
returns c =
    let first = c.in_ok-push_str.ensures.bytes ∙ ap (λ s. s ++ c.letters-first.result.now) c.in_ok-string.ensures.bytes in
    ap (λ s. chars (string_bytes s)) c.in_ok-new.ensures.ok ∙ ap chars c.in_ok-push_str-2.ensures.bytes
    ∙ chars-append _ _ (IsUtf8-string_bytes c.push_str.new.self)
    ∙ ap (λ s. s ++ chars c.args.more.now) (ap chars first ∙ c.letters-first.ensures.characters)
