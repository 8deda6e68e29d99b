use Rattle.std.proofs.Common.{◌≡◌, ◌∷◌, ◌++◌, ap, sym, ◌∙◌}
use Rattle.std.specs.Str.{chars}
use Rattle.std.proofs.lemmas.Str.{chars_past_char}
use lib.Utf8.{encode}
use Rattle.xt_avt.proofs.front.first_of.Goals as goal

pub returns-in-Some : goal.returns-in-Some
returns-in-Some c =
    let whole = c.args.text.now in
    let rest = c.next.new.self.rest.now in
    let first = c.in-Some.first in
    let split : whole ≡ encode first ++ rest = sym c.chars-characters.ensures.rest ∙ c.in-Some.ensures.steps.0 in
    record {
      characters = chars_past_char whole rest first c.utf8.text split ∙ ap (λ r. first ∷ chars r) (sym c.as_str.ensures);
      utf8 = c.as_str.utf8;
      front = encode first;
      whole = split ∙ ap (λ r. encode first ++ r) (sym c.as_str.ensures);
    }
