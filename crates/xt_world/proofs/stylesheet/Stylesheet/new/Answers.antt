use Rattle.std.proofs.Common.{List, ℕ, ap, subst, ◌∙◌, map}
use Rattle.std.specs.declared.vec.Vec.{Vec}
use Rattle.std.specs.Global.{Global}
use Rattle.xt_syntax.specs.SheetView.{alias_of, sheet_of}
use Rattle.xt_syntax.specs.declared.sheet.Alias.{Alias}
use Rattle.xt_world.specs.Answering.{AnswersGiven}
use Rattle.xt_world.specs.Units.{plain_aliases, plain_units}
use Rattle.xt_world.proofs.Answering.{answers_given, held_with}
use Rattle.xt_world.proofs.stylesheet.Stylesheet.new.Goals as goal

pub returns : goal.returns
returns c =
    let list = ap plain_units c.as_slice.ensures.value ∙ c.in_ok-units.ensures in
    let aliases = ap (λ (list : Vec Alias Global). map alias_of list.items) c.in_ok-aliases.ensures.ok in
    let P : List ℕ → Type 0 = λ given. AnswersGiven given (held_with c.args.sheet c.in_ok-parts.parts) (sheet_of c.args.sheet) in
    subst P c.as_slice-2.ensures.value
    (answers_given c.args.sheet _ c.in_ok-parts.parts (plain_aliases c.in_ok-aliases.aliases) (plain_units c.as_slice.result.now) aliases list
    c.in_ok-parts.ensures)
