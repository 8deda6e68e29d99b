-- Elements by what they are to the element that holds them.
use Rattle.std.proofs.Common.{◌≡◌, ℕ, List, Result, Ok, Err, refl, ◌∙◌}
use Rattle.std.specs.Result.{IfOk}
use Rattle.spec_structure.specs.declared.element.XsltElement.{XsltElement}
use Rattle.spec_structure.specs.declared.element.XsltElement.TheVariants as xsl
use Rattle.spec_stylesheet.specs.Place.{Site}
use Rattle.spec_compile.specs.Content as spec
use Rattle.spec_compile.specs.Value.{Entry}
use Rattle.xt_content.specs.Kind.{child_by, kind_of}

pub child_is : (x : XsltElement) (site : Site) (v : List Entry) (text : List ℕ) (children : List spec.Child)
    → child_by (kind_of x) site v text children ≡ spec.child_of x site v text children
child_is xsl.Stylesheet site v text children = refl
child_is xsl.Transform site v text children = refl
child_is xsl.Import site v text children = refl
child_is xsl.Include site v text children = refl
child_is xsl.StripSpace site v text children = refl
child_is xsl.PreserveSpace site v text children = refl
child_is xsl.Output site v text children = refl
child_is xsl.Key site v text children = refl
child_is xsl.DecimalFormat site v text children = refl
child_is xsl.NamespaceAlias site v text children = refl
child_is xsl.AttributeSet site v text children = refl
child_is xsl.Template site v text children = refl
child_is xsl.Param site v text children = refl
child_is xsl.WithParam site v text children = refl
child_is xsl.Variable site v text children = refl
child_is xsl.ApplyTemplates site v text children = refl
child_is xsl.ApplyImports site v text children = refl
child_is xsl.CallTemplate site v text children = refl
child_is xsl.ForEach site v text children = refl
child_is xsl.Sort site v text children = refl
child_is xsl.ValueOf site v text children = refl
child_is xsl.CopyOf site v text children = refl
child_is xsl.Number site v text children = refl
child_is xsl.Choose site v text children = refl
child_is xsl.When site v text children = refl
child_is xsl.Otherwise site v text children = refl
child_is xsl.If site v text children = refl
child_is xsl.Fallback site v text children = refl
child_is xsl.Text site v text children = refl
child_is xsl.Element site v text children = refl
child_is xsl.Attribute site v text children = refl
child_is xsl.Comment site v text children = refl
child_is xsl.ProcessingInstruction site v text children = refl
child_is xsl.Copy site v text children = refl
child_is xsl.Message site v text children = refl

-- a result that is one value is another that is equal
pub if_ok_is : {X E A : Type 0} (view : X → A) (r : Result X E) {a b : A} → a ≡ b → IfOk r (λ x. view x ≡ a) → IfOk r (λ x. view x ≡ b)
if_ok_is view (Ok value) e p = p ∙ e
if_ok_is view (Err error) e p = tt
