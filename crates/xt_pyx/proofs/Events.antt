-- The event of a line by its first character.
use Rattle.std.proofs.Common.{◌≡◌, ℕ, true, false, cond, List, [], ◌∷◌, ◌++◌, None, refl, sym, ap, ◌∙◌}
use Rattle.std.specs.List.{list_all}
use Rattle.std.specs.Str.{chars, IsUtf8}
use Rattle.std.proofs.lemmas.Str.{chars_past_char}
use Rattle.spec_document.specs.Character.{is_char}
use Rattle.spec_document.specs.Pyx.{event_of, event_behind}
use lib.Utf8.{encode}

pub bad_character : (cs : List ℕ) → list_all is_char cs ≡ false → event_of cs ≡ None
bad_character [] h = refl
bad_character (c ∷ cs) h = ap (λ b. cond b (event_behind c cs) None) h

-- `start` is what is iterated, and `next` what is left of it behind the sign
pub event_by_sign : (line start next rest : List ℕ) (sign : ℕ) → IsUtf8 line → start ≡ line → start ≡ encode sign ++ next → rest ≡ next
    → list_all is_char (chars line) ≡ true
    → event_of (chars line) ≡ event_behind sign (chars rest)
event_by_sign line start next rest sign u l s r h =
    let e = chars_past_char line next sign u (sym l ∙ s) in
    ap event_of e ∙ ap (λ b. cond b (event_behind sign (chars next)) None) (ap (list_all is_char) (sym e) ∙ h)
    ∙ ap (λ x. event_behind sign (chars x)) (sym r)
