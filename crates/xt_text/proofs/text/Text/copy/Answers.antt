use Rattle.std.proofs.Common.{◌∙◌, ap, sym}
use Rattle.std.specs.Prelude.{string_bytes}
use Rattle.std.specs.Str.{chars}
use Rattle.xt_text.specs.Shared.{characters_of}
use Rattle.xt_text.proofs.text.Text.copy.Goals as goal

pub returns-in-None : goal.returns-in-None
returns-in-None c = c.new.ensures ∙ sym (ap characters_of c.in-None.is) ∙ c.self.view_is

pub returns-in_ok-clone-in-Some : goal.returns-in_ok-clone-in-Some
returns-in_ok-clone-in-Some c =
    let copied = c.in_ok-clone-in-Some.ensures {u = tt} in
    ap (λ s. chars (string_bytes s)) copied.cases ∙ sym (ap characters_of c.in-Some.is) ∙ c.self.view_is
