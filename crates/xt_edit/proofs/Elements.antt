-- What the change of an attribute and that of a name are at the node there.
use Rattle.std.proofs.Common.{◌≡◌, ℕ, true, cond, List, ap, sym, subst, ◌∙◌}
use Rattle.std.specs.Prelude.{Result}
use Rattle.std.specs.List.{list_all, list_any}
use Rattle.spec_document.specs.Character.{is_char}
use Rattle.spec_document.specs.Fault.{Fault}
use Rattle.spec_document.specs.Forest.{Written, Content, Element, Instruction, Document}
use Rattle.spec_edit.specs.Edit as spec
use Rattle.spec_edit.specs.Edit.{SetAttribute, RemoveAttribute, Rename, attribute_removed, attribute_set, attributes_changed, edited_nodes, is_named}
use Rattle.spec_edit.specs.Edit.{refused, renamed, renewed, with_attribute, without_attribute}
use Rattle.spec_edit.specs.Splice.{Spot}
use Rattle.xt_edit.specs.Site.{IsAt, found_there}
use Rattle.xt_edit.specs.View.{Edits}
use Rattle.xt_edit.specs.declared.edit.Edited.{Edited}
use Rattle.xt_edit.specs.declared.fault.EditFault.{EditFault}
use Rattle.xt_edit.proofs.Sites.{at_site}
use Rattle.xt_tree.specs.declared.node.Node.{Node}
use Rattle.xt_tree.specs.View.{tree_of}

-- what is said of one answer holds of the same
pub edits-so : (document : Document ℕ) (first : ℕ) (result : Result Edited EditFault) (answer other : Result (spec.Edited ℕ) Fault) → other ≡ answer
    → Edits document first result answer → Edits document first result other
edits-so document first result answer other is h = subst (Edits document first result) (sym is) h

module _ (first : ℕ) (document : Document ℕ) (path : List ℕ) (spot : Spot) (node : Node) (at : IsAt document path spot node) where
  abbrev changed : List ℕ → Content → Result (spec.Edited ℕ) Fault
  changed name content = attributes_changed (λ nodes. nodes) first spot document (found_there document spot node) name content

  abbrev anew : Content → Result (spec.Edited ℕ) Fault
  anew content = renewed (λ nodes. nodes) first spot document (found_there document spot node) content

  pub attribute_set-is : (own name value : List ℕ) (attributes : List Written) (content : Content) → (tree_of node).content ≡ Element own attributes
      → list_all is_char value ≡ true → content ≡ Element own (with_attribute name value attributes)
      → edited_nodes first (SetAttribute path name value) document ≡ changed name content
  attribute_set-is own name value attributes content was chars is =
      at_site document path spot node (λ s. attribute_set (λ nodes. nodes) first s document name value) at
      ∙ ap (attribute_set (λ nodes. nodes) first spot document name value (found_there document spot node)) was
      ∙ ap (λ b. cond b (changed name (Element own (with_attribute name value attributes))) (refused 8)) chars ∙ ap (changed name) (sym is)

  pub attribute_removed-is : (own name : List ℕ) (attributes : List Written) (content : Content) → (tree_of node).content ≡ Element own attributes
      → list_any (is_named name) attributes ≡ true → content ≡ Element own (without_attribute name attributes)
      → edited_nodes first (RemoveAttribute path name) document ≡ changed name content
  attribute_removed-is own name attributes content was some is =
      at_site document path spot node (λ s. attribute_removed (λ nodes. nodes) first s document name) at
      ∙ ap (attribute_removed (λ nodes. nodes) first spot document name (found_there document spot node)) was
      ∙ ap (λ b. cond b (changed name (Element own (without_attribute name attributes))) (refused 6)) some ∙ ap (changed name) (sym is)

  pub element_renamed-is : (own name : List ℕ) (attributes : List Written) (content : Content) → (tree_of node).content ≡ Element own attributes
      → content ≡ Element name attributes → edited_nodes first (Rename path name) document ≡ anew content
  element_renamed-is own name attributes content was is =
      at_site document path spot node (λ s. renamed (λ nodes. nodes) first s document name) at
      ∙ ap (renamed (λ nodes. nodes) first spot document name (found_there document spot node)) was ∙ ap anew (sym is)

  pub instruction_renamed-is : (target name text : List ℕ) (content : Content) → (tree_of node).content ≡ Instruction target text
      → content ≡ Instruction name text → edited_nodes first (Rename path name) document ≡ anew content
  instruction_renamed-is target name text content was is =
      at_site document path spot node (λ s. renamed (λ nodes. nodes) first s document name) at
      ∙ ap (renamed (λ nodes. nodes) first spot document name (found_there document spot node)) was ∙ ap anew (sym is)
