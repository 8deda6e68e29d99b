use Rattle.std.proofs.Common.{◌≡◌, ℕ, true, false, List, Option, IfSome, is_some, map, ap, sym, subst, refl, ◌∙◌}
use Rattle.std.specs.declared.alloc.Global.{Global}
use Rattle.std.specs.declared.vec.Vec.{Vec}
use Rattle.spec_structure.specs.Modules.{AreInReadingOrder, IsOrdered}
use Rattle.spec_compile.specs.Sheet.{ranked_from}
use Rattle.xt_import.specs.Parts.{stylesheet_in}
use Rattle.xt_import.specs.Tree.{names_in}
use Rattle.xt_import.specs.View.{modules_in}
use Rattle.xt_import.specs.declared.precedence.Stylesheet.{Stylesheet}
use Rattle.xt_compile.specs.View.{said_in}
use Rattle.xt_compile.proofs.Whole.{are_faultless, are_judged, are_said, checked_as, compiled_checked, compiled_refused, exits}
use Rattle.xt_compile.proofs.compiled.sheet.Goals as goal

pub read_all-requires : goal.read_all-requires
read_all-requires c = are_judged c.in_ok-found.found.modules.items c.in_ok-found.ensures.names c.in_ok-found.ensures.link_faults

pub returns-in_err-said : goal.returns-in_err-said
returns-in_err-said c =
    let order = subst (λ (main : List ℕ). AreInReadingOrder (modules_in c.args.modules.now.entries) main (names_in c.in_ok-found.found.modules.items)) c.as_str.ensures.characters
    c.in_ok-found.ensures.names in
    exits _ c.from_residual-in_err-said.ensures.1 (compiled_refused order c.in_err-said.ensures)

pub unreachable-requires : goal.unreachable-requires
unreachable-requires c =
    let order = subst (λ (main : List ℕ). AreInReadingOrder (modules_in c.args.modules.now.entries) main (names_in c.in_ok-found.found.modules.items)) c.as_str.ensures.characters
    c.in_ok-found.ensures.names in
    let some = c.in_ok-stylesheets.ensures.none (names_in c.in_ok-found.found.modules.items) order (are_faultless c.in_ok-said.ensures.so)
    (sym c.is_held.ensures ∙ c.if-not-is_held.false) in
    let e : false ≡ true = sym (ap is_some c.in-None.is) ∙ some in
    absurd (cc)

pub returns : goal.returns
returns c =
    let modules = modules_in c.args.modules.now.entries in
    let order = subst (λ (main : List ℕ). AreInReadingOrder modules main (names_in c.in_ok-found.found.modules.items)) c.as_str.ensures.characters
    c.in_ok-found.ensures.names in
    let ordered = subst (λ (o : Option (Vec Stylesheet Global)). IfSome o (λ sheets. IsOrdered modules c.args.main.now (map stylesheet_in sheets.items))) c.in-Some.is
    c.in_ok-stylesheets.ensures.ordered in
    let names = c.in_ok-names.ensures ∙ ap names_in c.as_slice.ensures.value in
    let ranked = ranked_from (map said_in c.in_ok-said.said.items) 0 (map stylesheet_in c.in-Some.stylesheets.items) in
    compiled_checked order c.in_ok-said.ensures.so ordered refl
    (checked_as {rs = ranked} {qs = ranked} names refl (c.second_pass.ensures (are_said c.in_ok-said.ensures.so)))
