-- The variables that a content mentions: those that its expressions refer to, whether they are bound inside it or outside.
use Rattle.std.specs.Prelude.{List, [], ◌∷◌, ◌++◌, Option, None, Some}
use Rattle.std.specs.List.{filter, list_any}
use Rattle.spec_document.specs.Name.{Expanded, same_name}
use Rattle.spec_expression.specs.Syntax.{Expr}
use Rattle.spec_stylesheet.specs.ValueTemplate as template
use Rattle.spec_stylesheet.specs.ValueTemplate.{Avt, AvtPart}
use Rattle.spec_stylesheet.specs.Instruction as made
use Rattle.spec_stylesheet.specs.Instruction.{SortKey, MadeName, LiteralAttribute, NumberSource, FromValue, FromCount, Numbering, Form, without_content, with_content, control, Control, for_each, for_items, conditional, choose, apply_templates, call_template, Instrs, no_instrs, instr, Branches, no_branches, branch, Bindings, no_bindings, binding}
use Rattle.spec_transform.specs.Numbering.{names_in, names_in_pattern}

-- ---- In texts, keys and numbers

abbrev pub names_in_part : AvtPart → List Expanded
names_in_part (template.Text text) = []
names_in_part (template.Value e) = names_in e

abbrev pub names_in_parts : List AvtPart → List Expanded
names_in_parts [] = []
names_in_parts (part ∷ parts) = names_in_part part ++ names_in_parts parts

abbrev pub names_in_avt : Avt → List Expanded
names_in_avt avt = names_in_parts avt.parts

abbrev pub names_if_avt : Option Avt → List Expanded
names_if_avt None = []
names_if_avt (Some avt) = names_in_avt avt

abbrev pub names_if : Option Expr → List Expanded
names_if None = []
names_if (Some e) = names_in e

abbrev pub names_in_keys : List SortKey → List Expanded
names_in_keys [] = []
names_in_keys (key ∷ keys) = (names_in key.select ++ (names_in_avt key.data_type ++ names_in_avt key.order)) ++ names_in_keys keys

abbrev pub names_in_source : NumberSource → List Expanded
names_in_source (FromValue e) = names_in e
names_in_source (FromCount count) = names_in_pattern count.count ++ names_in_pattern count.from

abbrev pub names_in_numbering : Numbering → List Expanded
names_in_numbering n =
    names_in_source n.source ++ (names_in_avt n.format ++ (names_if_avt n.grouping_separator ++ names_if_avt n.grouping_size))

abbrev pub names_in_made : MadeName → List Expanded
names_in_made name = names_in_avt name.name ++ names_if_avt name.namespace

abbrev pub names_in_attributes : List LiteralAttribute → List Expanded
names_in_attributes [] = []
names_in_attributes (a ∷ more) = names_in_avt a.value ++ names_in_attributes more

-- ---- In instructions, without their contents

abbrev pub names_without : made.WithoutContent → List Expanded
names_without (made.Text text) = []
names_without (made.ValueOf e) = names_in e
names_without (made.CopyOf e) = names_in e
names_without (made.Number numbering) = names_in_numbering numbering
names_without made.ApplyImports = []
names_without made.Fallback = []

abbrev pub names_with : made.WithContent → List Expanded
names_with (made.Literal tag) = names_in_attributes tag.attributes
names_with (made.Element name sets) = names_in_made name
names_with (made.Attribute name) = names_in_made name
names_with made.Comment = []
names_with (made.ProcessingInstruction target) = names_in_avt target
names_with (made.Copy sets) = []
names_with (made.Variable name select) = names_if select
names_with (made.Message terminates) = []

-- ---- In contents

abbrev mutual
  pub mentioned_in : Instrs → List Expanded
  mentioned_in no_instrs = []
  mentioned_in (instr site form is) = mentioned_by form ++ mentioned_in is

  pub mentioned_by : Form → List Expanded
  mentioned_by (without_content what) = names_without what
  mentioned_by (with_content what is) = names_with what ++ mentioned_in is
  mentioned_by (control c) = mentioned_under c

  pub mentioned_under : Control → List Expanded
  mentioned_under (for_each e keys is) = names_in e ++ (names_in_keys keys ++ mentioned_in is)
  mentioned_under (for_items e keys name bs) = names_in e ++ (names_in_keys keys ++ mentioned_in_bindings bs)
  mentioned_under (conditional e is) = names_in e ++ mentioned_in is
  mentioned_under (choose bs) = mentioned_in_branches bs
  mentioned_under (apply_templates s bs) = names_in s.select ++ (mentioned_in_bindings bs ++ names_in_keys s.keys)
  mentioned_under (call_template name bs) = mentioned_in_bindings bs

  pub mentioned_in_branches : Branches → List Expanded
  mentioned_in_branches no_branches = []
  mentioned_in_branches (branch site test is more) = names_if test ++ (mentioned_in is ++ mentioned_in_branches more)

  pub mentioned_in_bindings : Bindings → List Expanded
  mentioned_in_bindings no_bindings = []
  mentioned_in_bindings (binding site name select is more) = names_if select ++ (mentioned_in is ++ mentioned_in_bindings more)

-- the free variables of a content: the local ones in scope, innermost first, that it mentions. A name that is no local one is that of a global.
-- A content binds no name anew that is in scope as a local one
abbrev pub free_in : (scope : List Expanded) → Instrs → List Expanded
free_in scope is = filter (λ name. list_any (same_name name) (mentioned_in is)) scope
