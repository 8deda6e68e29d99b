use Rattle.std.proofs.Common.{List, ◌∷◌, map, ap, sym, subst, ◌∙◌}
use Rattle.std.specs.List.{list_any}
use Rattle.spec_compile.specs.Sheet.{is_alias_of}
use Rattle.xt_syntax.specs.SheetView.{alias_of}
use Rattle.xt_syntax.specs.declared.sheet.Alias.{Alias}
use Rattle.xt_compile.proofs.Lasting.{Keeps, keeps_one, keeps_none, is_later}
use Rattle.xt_compile.proofs.aliases.last_aliases.Goals as goal

pub loop-alias-preserved-in-Continue-1 : goal.loop-alias-preserved-in-Continue-1
loop-alias-preserved-in-Continue-1 c =
    let i = c.loop-alias.invariant in
    let none = ap (λ (kept : List Alias). list_any (is_alias_of (alias_of c.in-Some.alias)) (map alias_of kept)) (sym c.as_slice.ensures.value)
    ∙ sym c.is_aliased.ensures ∙ c.if-not-is_aliased.true in (
      c.in-Some.alias ∷ i.0,
      is_later _ _ _ c.in-Some.alias i.0 (c.in-Some.ensures {u = tt}).items i.1,
      subst (λ (kept : List Alias). Keeps kept (c.in-Some.alias ∷ i.0)) (sym (c.in_ok-push.ensures {u = tt}).items)
          (keeps_one c.loop-alias.last.items i.0 c.in-Some.alias i.2 none),
    )

pub loop-alias-preserved : goal.loop-alias-preserved
loop-alias-preserved c =
    let i = c.loop-alias.invariant in
    let some = ap (λ (kept : List Alias). list_any (is_alias_of (alias_of c.in-Some.alias)) (map alias_of kept)) (sym c.as_slice.ensures.value)
    ∙ sym c.is_aliased.ensures ∙ c.if-not-is_aliased.false in
    (c.in-Some.alias ∷ i.0, is_later _ _ _ c.in-Some.alias i.0 (c.in-Some.ensures {u = tt}).items i.1, keeps_none c.loop-alias.last.items i.0 c.in-Some.alias i.2 some)
