-- The parts of an outline.
use Rattle.std.proofs.Common.{◌≡◌, List, ◌++◌, map, ap, ◌∙◌}
use Rattle.std.specs.List.{flat_map}
use Rattle.spec_document.specs.Name.{Expanded}
use Rattle.spec_expression.specs.declared.code.StaticCode.TheVariants as code
use Rattle.spec_compile.specs.Content as spec
use Rattle.spec_compile.specs.Scoping.{Violation, if_so, in_list, is_named}
use Rattle.xt_syntax.specs.PartView.{site_of}
use Rattle.xt_content.specs.View.{Element, outline_in, outlined_in, outlines, outline_step, outlined_step, uses_in}
use Rattle.xt_content.specs.declared.outline.Outline.{Outline, out-Outline, fold_out-Outline}
use Rattle.xt_content.specs.declared.outline.Outlined.{Outlined, out-Outlined, fold_out-Outlined}
use Rattle.xt_scoping.specs.declared.known.Known.{Known}
use Rattle.xt_scoping.specs.Steps.{uses_at, outline_at, element_at}

abbrev pub element_of : Outlined → Element
element_of e = record {
  site = site_of (out-Outlined e).site;
  uses = uses_in (out-Outlined e).uses;
  binds = (out-Outlined e).binds;
  below = outline_in (out-Outlined e).below;
}

pub view-Outlined : (e : Outlined) → outlined_in e ≡ element_of e
view-Outlined e = fold_out-Outlined spec.Outline Element outline_step outlined_step e

pub view-Outline : (o : Outline) → outline_in o ≡ outlines (map outlined_in (out-Outline o).elements.items)
view-Outline o = fold_out-Outline spec.Outline Element outline_step outlined_step o

abbrev own_of : Known → List Expanded → Outlined → List Violation
own_of known locals e =
    uses_at known locals (site_of (out-Outlined e).site) (uses_in (out-Outlined e).uses)
    ++ flat_map (λ name. if_so (is_named locals name) code.ShadowedVariable (site_of (out-Outlined e).site)) (in_list (out-Outlined e).binds)

pub in_parts : (known : Known) (locals : List Expanded) (e : Outlined) → element_at known locals (outlined_in e)
    ≡ own_of known locals e ++ outline_at known locals (outlines (map outlined_in (out-Outline (out-Outlined e).below).elements.items))
in_parts known locals e =
    ap (element_at known locals) (view-Outlined e)
    ∙ ap (λ o. own_of known locals e ++ outline_at known locals o) (view-Outline (out-Outlined e).below)
