-- What an element of XSLT is to the element that holds it, by its name.
use Rattle.std.specs.Prelude.{ℕ, List, [], ◌∷◌, None, unwrap_or, codes}
use Rattle.std.specs.List.{flat_map}
use Rattle.spec_stylesheet.specs.Instruction as made
use Rattle.spec_stylesheet.specs.Instruction.{Instr, Form, SortKey, Branch, Binding, branches, bindings, instrs}
use Rattle.spec_stylesheet.specs.Place.{Site}
use Rattle.spec_structure.specs.declared.element.XsltElement.{XsltElement}
use Rattle.spec_structure.specs.declared.element.XsltElement.TheVariants as xsl
use Rattle.spec_compile.specs.Content as spec
use Rattle.spec_compile.specs.Content.{expr_at, numbering_of, made_name, sets_at, avt_at, name_at, is_text_at, children_nodes}
use Rattle.spec_compile.specs.Value.{Entry, at, expr_in, name_in, pattern_in}
use Rattle.xt_content.specs.declared.kind.Kind.{Kind}
use Rattle.xt_content.specs.declared.kind.Kind.TheVariants as kinds
use Rattle.xt_content.specs.declared.kind.Simple.{Simple}
use Rattle.xt_content.specs.declared.kind.Simple.TheVariants as simple
use Rattle.xt_content.specs.declared.kind.Container.{Container}
use Rattle.xt_content.specs.declared.kind.Container.TheVariants as container
use Rattle.xt_content.specs.declared.kind.Director.{Director}
use Rattle.xt_content.specs.declared.kind.Director.TheVariants as director

abbrev pub kind_of : XsltElement → Kind
kind_of xsl.Param = kinds.Parameter
kind_of xsl.WithParam = kinds.Parameter
kind_of xsl.Sort = kinds.SortKey
kind_of xsl.When = kinds.When
kind_of xsl.Otherwise = kinds.Otherwise
kind_of xsl.ValueOf = kinds.Simple simple.ValueOf
kind_of xsl.CopyOf = kinds.Simple simple.CopyOf
kind_of xsl.Number = kinds.Simple simple.Number
kind_of xsl.ApplyImports = kinds.Simple simple.ApplyImports
kind_of xsl.Fallback = kinds.Simple simple.Fallback
kind_of xsl.Text = kinds.Simple simple.Text
kind_of xsl.Element = kinds.Container container.Element
kind_of xsl.Attribute = kinds.Container container.Attribute
kind_of xsl.Comment = kinds.Container container.Comment
kind_of xsl.ProcessingInstruction = kinds.Container container.ProcessingInstruction
kind_of xsl.Copy = kinds.Container container.Copy
kind_of xsl.Variable = kinds.Container container.Variable
kind_of xsl.Message = kinds.Container container.Message
kind_of xsl.ForEach = kinds.Director director.ForEach
kind_of xsl.If = kinds.Director director.If
kind_of xsl.Choose = kinds.Director director.Choose
kind_of xsl.ApplyTemplates = kinds.Director director.ApplyTemplates
kind_of xsl.CallTemplate = kinds.Director director.CallTemplate
kind_of _ = kinds.Nothing

-- the children by what they are
pub record Parted : Type 0 where
  pub content : List Instr
  pub parameters : List Binding
  pub sort_keys : List SortKey
  pub branches : List Branch

abbrev pub parted : List spec.Child → Parted
parted children = record {
  content = flat_map spec.instruction_in children;
  parameters = flat_map spec.parameter_in children;
  sort_keys = flat_map spec.sort_key_in children;
  branches = flat_map spec.branch_in children;
}

abbrev pub simple_of : Simple → List Entry → List ℕ → made.WithoutContent
simple_of simple.ValueOf v text = made.ValueOf (expr_at (codes "select") v)
simple_of simple.CopyOf v text = made.CopyOf (expr_at (codes "select") v)
simple_of simple.Number v text = made.Number (numbering_of v)
simple_of simple.ApplyImports v text = made.ApplyImports
simple_of simple.Fallback v text = made.Fallback
simple_of simple.Text v text = made.Text text

abbrev pub container_of : Container → List Entry → made.WithContent
container_of container.Element v = made.Element (made_name v) (sets_at (codes "use-attribute-sets") v)
container_of container.Attribute v = made.Attribute (made_name v)
container_of container.Comment v = made.Comment
container_of container.ProcessingInstruction v = made.ProcessingInstruction (avt_at (codes "name") [] v)
container_of container.Copy v = made.Copy (sets_at (codes "use-attribute-sets") v)
container_of container.Variable v = made.Variable (name_at (codes "name") v) (at expr_in (codes "select") v)
container_of container.Message v = made.Message (is_text_at (codes "terminate") (codes "yes") v)

abbrev pub selection_of : List Entry → Parted → made.Selection
selection_of v parts = record { select = unwrap_or (at expr_in (codes "select") v) children_nodes; mode = at name_in (codes "mode") v; keys = parts.sort_keys }

abbrev pub director_of : Director → List Entry → Parted → made.Control
director_of director.ForEach v parts = made.for_each (expr_at (codes "select") v) parts.sort_keys (instrs parts.content)
director_of director.If v parts = made.conditional (expr_at (codes "test") v) (instrs parts.content)
director_of director.Choose v parts = made.choose (branches parts.branches)
director_of director.ApplyTemplates v parts = made.apply_templates (selection_of v parts) (bindings parts.parameters)
director_of director.CallTemplate v parts = made.call_template (name_at (codes "name") v) (bindings parts.parameters)

abbrev pub an_element : Container
an_element = container.Element

abbrev pub a_variable : Container
a_variable = container.Variable

abbrev pub a_for_each : Director
a_for_each = director.ForEach

abbrev pub an_if : Director
an_if = director.If

abbrev pub a_choose : Director
a_choose = director.Choose

abbrev pub an_apply_templates : Director
an_apply_templates = director.ApplyTemplates

abbrev pub a_call_template : Director
a_call_template = director.CallTemplate

-- what instructions are to the element that holds them
abbrev pub instruction : Site → Form → spec.Child
instruction site form = spec.AnInstruction (record { site = site; form = form })

abbrev pub simple_child : Simple → Site → List Entry → List ℕ → spec.Child
simple_child kind site v text = instruction site (made.without_content (simple_of kind v text))

abbrev pub container_child : Container → Site → List Entry → List spec.Child → spec.Child
container_child kind site v children = instruction site (spec.with (container_of kind v) children)

abbrev pub director_child : Director → Site → List Entry → List spec.Child → spec.Child
director_child kind site v children = instruction site (made.control (director_of kind v (parted children)))

abbrev pub child_by : Kind → Site → List Entry → List ℕ → List spec.Child → List spec.Child
child_by kinds.Parameter site v text children = spec.AParameter (spec.binding_of site v children) ∷ []
child_by kinds.SortKey site v text children = spec.ASortKey (spec.sort_key site v) ∷ []
child_by kinds.When site v text children = spec.ABranch (spec.branch_of site (at expr_in (codes "test") v) children) ∷ []
child_by kinds.Otherwise site v text children = spec.ABranch (spec.branch_of site None children) ∷ []
child_by (kinds.Simple kind) site v text children = simple_child kind site v text ∷ []
child_by (kinds.Container kind) site v text children = container_child kind site v children ∷ []
child_by (kinds.Director kind) site v text children = director_child kind site v children ∷ []
child_by kinds.Nothing site v text children = []

-- how an xsl:number without a value counts
abbrev pub counting : List Entry → made.Count
counting v = record { level = spec.level_of v; count = at pattern_in (codes "count") v; from = at pattern_in (codes "from") v }
