use Rattle.std.proofs.Common.{◌∙◌, ◌++◌, ◌∷◌, [], ap, sym, map}
use Rattle.std.specs.Char.{to_ascii_lowercase}
use Rattle.std.proofs.lemmas.Iterator.{YieldsList-from_chars}
use Rattle.std.proofs.lemmas.Iterator.Consumers.{YieldsList-end}
use Rattle.std.proofs.lemmas.List.{map-id, map-append}
use Rattle.xt_number_format.proofs.texts.lowercase.Goals as goal

pub loop-character-preserved : goal.loop-character-preserved
loop-character-preserved c =
    let so_far = c.loop-character.yielded in
    c.in_ok-push.ensures.ok ∙ ap (λ t. t ++ c.to_ascii_lowercase.result ∷ []) c.loop-character.invariant
    ∙ ap (λ d. map to_ascii_lowercase so_far ++ d ∷ []) c.to_ascii_lowercase.ensures.value
    ∙ sym (map-append to_ascii_lowercase so_far (c.in-Some.character ∷ []))

pub returns : goal.returns
returns c =
    let end = YieldsList-end (YieldsList-from_chars c.args.text.now c.utf8.text cc) c.loop-character.yielded _ c.loop-character.yielded_by _ _ c.in-None.is
    c.next.ensures.steps in
    c.loop-character.invariant ∙ ap (map to_ascii_lowercase) (sym (map-id c.loop-character.yielded) ∙ end.0)
