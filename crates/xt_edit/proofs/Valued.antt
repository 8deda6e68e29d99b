-- What the change of a text is at the node there.
use Rattle.std.proofs.Common.{◌≡◌, ℕ, true, false, cond, List, [], ◌∷◌, Some, refl, ap, ◌∙◌, subst}
use Rattle.std.specs.Prelude.{Ok}
use Rattle.std.specs.List.{list_all}
use Rattle.spec_document.specs.Character.{is_char}
use Rattle.spec_document.specs.Forest.{Content, Element, Text, Comment, Instruction, Document}
use Rattle.spec_edit.specs.Edit.{Edited, SetText, edited_nodes, is_element, refused, text_set, with_content, with_text}
use Rattle.spec_edit.specs.Splice.{Spot}
use Rattle.xt_edit.specs.Site.{IsAt}
use Rattle.xt_edit.specs.Valued.{nodes_valued, valued}
use Rattle.xt_edit.proofs.Renewed.{some_is}
use Rattle.xt_edit.proofs.Sites.{at_site}
use Rattle.xt_tree.specs.declared.node.Node.{Node}
use Rattle.xt_tree.specs.Edit.{KeepsNames}
use Rattle.xt_tree.specs.View.{tree_of}

abbrev pub valued_there : Document ℕ → Spot → Content → List ℕ → Edited ℕ
valued_there document spot content value = record { nodes = nodes_valued spot document (valued content value); made = 0 }

with_text-is : (document : Document ℕ) (spot : Spot) (text value : List ℕ) → with_text spot document value ≡ valued_there document spot (Text text) value
with_text-is document spot text [] = refl
with_text-is document spot text (c ∷ cs) = refl

text-valued : (document : Document ℕ) (spot : Spot) (content : Content) (value : List ℕ) → is_element content ≡ false → list_all is_char value ≡ true
    → text_set spot document value content ≡ Ok (valued_there document spot content value)
text-valued document spot (Element name attributes) value kind chars = absurd (cc)
text-valued document spot (Text text) value kind chars =
    ap (λ b. cond b (Ok (with_text spot document value)) (refused 8)) chars ∙ ap (λ new. Ok new) (with_text-is document spot text value)
text-valued document spot (Comment text) value kind chars = ap (λ b. cond b (Ok (with_content spot document (Comment value))) (refused 8)) chars
text-valued document spot (Instruction target text) value kind chars =
    ap (λ b. cond b (Ok (with_content spot document (Instruction target value))) (refused 8)) chars

pub set-is : (first : ℕ) (document : Document ℕ) (path value : List ℕ) (spot : Spot) (node : Node) → IsAt document path spot node
    → is_element (tree_of node).content ≡ false → list_all is_char value ≡ true
    → edited_nodes first (SetText path value) document ≡ Ok (valued_there document spot (tree_of node).content value)
set-is first document path value spot node at kind chars =
    at_site document path spot node (λ s there content. text_set s document value content) at
    ∙ text-valued document spot (tree_of node).content value kind chars

-- ---- Names

-- no element has another text
pub keeps-valued : (old : Content) (value : List ℕ) (new : Content) → valued old value ≡ Some new → KeepsNames old new
keeps-valued (Element name attributes) value new e = absurd (cc)
keeps-valued (Text text) [] new e = absurd (cc)
keeps-valued (Text text) (c ∷ cs) new e =
    subst (λ n. KeepsNames (Text text) n) (some_is (Text (c ∷ cs)) new e) (record { inside = λ scope. refl; own = λ scope. refl; kind = refl })
keeps-valued (Comment text) value new e =
    subst (λ n. KeepsNames (Comment text) n) (some_is (Comment value) new e) (record { inside = λ scope. refl; own = λ scope. refl; kind = refl })
keeps-valued (Instruction target text) value new e =
    subst (λ n. KeepsNames (Instruction target text) n) (some_is (Instruction target value) new e)
    (record { inside = λ scope. refl; own = λ scope. refl; kind = refl })
