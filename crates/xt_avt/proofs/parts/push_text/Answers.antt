use Rattle.std.proofs.Common.{map, ap, sym, ◌++◌, ◌∙◌}
use Rattle.std.proofs.lemmas.List.{map-append}
use Rattle.xt_syntax.specs.PartView.{avt_part_of}
use Rattle.xt_avt.proofs.Gathering.{no_text, some_text}
use Rattle.xt_avt.proofs.parts.push_text.Goals as goal

pub returns-then-is_empty : goal.returns-then-is_empty
returns-then-is_empty c more h = no_text _ more c.args.text (sym c.is_empty.ensures ∙ c.if-is_empty.true)

pub returns : goal.returns
returns c more h =
    let items = ap (map avt_part_of) (c.in_ok-push.ensures {u = tt}).items ∙ map-append avt_part_of c.args.parts.now.items _ in
    ap (λ ps. ps ++ more) items ∙ some_text _ more c.args.text (sym c.is_empty.ensures ∙ c.if-is_empty.false) h
