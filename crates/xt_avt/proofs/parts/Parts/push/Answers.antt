use Rattle.std.proofs.lemmas.Result.{on_ok_weaker}
use Rattle.xt_avt.proofs.Gathering.{comes_character, comes_stray}
use Rattle.xt_avt.proofs.parts.Parts.push.Goals as goal

pub returns-in-Character : goal.returns-in-Character
returns-in-Character c =
    rw c.in-Character.is (on_ok_weaker c.push_character.result (λ h. comes_character c.in-Character.character h) c.push_character.ensures)

pub returns-in-Stray : goal.returns-in-Stray
returns-in-Stray c = rw c.in-Stray.is (comes_stray c.refuse.ensures)
