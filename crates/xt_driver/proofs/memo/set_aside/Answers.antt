use Rattle.std.proofs.Common.{◌∙◌, map, ap, refl, sym}
use Rattle.std.specs.List.{list_any}
use Rattle.xt_driver.specs.Referring.{entry_of, has_name}
use Rattle.xt_driver.proofs.Referring.{aside_all, aside_none}
use Rattle.xt_driver.proofs.memo.set_aside.Goals as goal

pub returns-then-is_remembered : goal.returns-then-is_remembered
returns-then-is_remembered c =
    aside_all (ap (λ v. map entry_of v.items) c.replace.ensures.value) (ap (λ v. map entry_of v.items) c.replace.ensures.after ∙ ap (map entry_of) c.new.ensures.items)

pub returns : goal.returns
returns c =
    aside_none c.args.memo.now.entries.items (ap (map entry_of) c.new-2.ensures.items) refl
    (ap (list_any (has_name c.args.name.now)) (sym c.as_slice.ensures.value) ∙ sym c.is_remembered.ensures ∙ c.if-is_remembered.false)
