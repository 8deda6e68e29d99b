use Rattle.std.proofs.Common.{map, ap, sym, ◌∙◌}
use Rattle.std.proofs.lemmas.Result.{on_ok_weaker}
use Rattle.xt_syntax.specs.PartView.{avt_part_of}
use Rattle.xt_avt.specs.Reading.{all_so}
use Rattle.xt_avt.proofs.Gathering.{so_character}
use Rattle.xt_avt.proofs.parts.Parts.push_character.Goals as goal

pub returns : goal.returns
returns c =
    let before = c.args.self.now in
    let parts = map avt_part_of before.parts.items in
    on_ok_weaker c.push.result
    (λ e r. so_character before.refused parts before.text c.args.character r ∙ ap (λ t. all_so before.refused parts t r) (sym e))
    c.push.ensures.ok
