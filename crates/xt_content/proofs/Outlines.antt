-- Outlines of the program, element by element.
use Rattle.std.proofs.Common.{◌≡◌, List, [], ◌∷◌, ◌++◌, Vec, Global, map, refl, sym, ap, ◌∙◌, rules}
use Rattle.spec_compile.specs.Content as spec
use Rattle.xt_content.specs.View.{outline_in, outlined_in, outlines}
use Rattle.xt_content.specs.Visit.{followed}
use Rattle.xt_content.specs.declared.outline.Outline.{Outline, out-Outline, roll-Outline, the_lemmas}
use Rattle.xt_content.specs.declared.outline.Outlined.{Outlined}

pub view-Outline : (o : Outline) → outline_in o ≡ outlines (map outlined_in (out-Outline o).elements.items)
view-Outline o = search (rules, the_lemmas)

appended : (xs : List Outlined) (x : Outlined) → outlines (map outlined_in (xs ++ x ∷ [])) ≡ followed (outlines (map outlined_in xs)) (outlines (outlined_in x ∷ []))
appended [] x = refl
appended (y ∷ xs) x = ap (spec.AnElement (outlined_in y).site (outlined_in y).uses (outlined_in y).binds (outlined_in y).below) (appended xs x)

pub view-roll : (list : Vec Outlined Global) → outline_in (roll-Outline (record { elements = list })) ≡ outlines (map outlined_in list.items)
view-roll list = search (rules, the_lemmas)

pub outlines_more : (o : Outline) (list : Vec Outlined Global) (x : Outlined) → list.items ≡ (out-Outline o).elements.items ++ x ∷ []
    → outline_in (roll-Outline (record { elements = list })) ≡ followed (outline_in o) (outlines (outlined_in x ∷ []))
outlines_more o list x h =
    view-roll list ∙ ap (λ es. outlines (map outlined_in es)) h ∙ appended (out-Outline o).elements.items x
    ∙ ap (λ before. followed before (outlines (outlined_in x ∷ []))) (sym (view-Outline o))
