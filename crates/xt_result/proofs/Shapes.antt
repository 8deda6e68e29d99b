-- The lines of what stands, text by text and node by node.
use Rattle.std.proofs.Common.{◌≡◌, ◌≢◌, ◌∙◌, refl, sym, ap, ℕ, List, [], ◌∷◌, ◌++◌, map, append_assoc, append-nil}
use Rattle.std.proofs.lemmas.List.{map-append}
use Rattle.spec_document.specs.declared.event.Event.TheVariants as event
use Rattle.spec_document.specs.Pyx.{Line, line_of}
use Rattle.spec_document.specs.Scope.{Scope}
use Rattle.spec_document.specs.Forest.{Element, Written, Plain, Node, written, lines_of, attribute_event}
use Rattle.spec_meaning.specs.Stream as stream
use Rattle.spec_meaning.specs.Stream.{Stream}
use Rattle.spec_result.specs.Recovery.{Standing, Nothing, AnElement, AText, AComment, AnInstruction, text_before, standing_before}
use Rattle.spec_result.specs.Recovery.{comment_text, instruction_text, value_of, prefix_of, local_of, namespaces_of, attributes_of, all_added}
use Rattle.spec_result.specs.Shape.{Opening, all_of, opened, prefix_for, with_prefix, tree_of}
use Rattle.xt_result.specs.Ahead.{all_lines, text_line, attribute_lines, start_lines}

-- texts that meet are one
pub text_before-text_before : (a b : List ℕ) (s : Standing) → text_before a (text_before b s) ≡ text_before (a ++ b) s
text_before-text_before [] b s = refl
text_before-text_before (c ∷ cs) [] s = ap (λ a. text_before a s) (sym (append-nil (c ∷ cs)))
text_before-text_before (c ∷ cs) (d ∷ ds) Nothing = refl
text_before-text_before (c ∷ cs) (d ∷ ds) (AnElement prefix local uri namespaces attributes children siblings) = refl
text_before-text_before (c ∷ cs) (d ∷ ds) (AText text siblings) = ap (λ t. AText t siblings) (sym (append_assoc (c ∷ cs) (d ∷ ds) text))
text_before-text_before (c ∷ cs) (d ∷ ds) (AComment text siblings) = refl
text_before-text_before (c ∷ cs) (d ∷ ds) (AnInstruction target text siblings) = refl

-- a text that nothing is behind, and one before another node than a text, has a line of its own
pub last_text : (text : List ℕ) (scope : Scope) → lines_of (tree_of scope (text_before text Nothing)) ≡ text_line text
last_text [] scope = refl
last_text (c ∷ cs) scope = refl

pub before_other : (text : List ℕ) (scope : Scope) (s : Standing) → ((t : List ℕ) (r : Standing) → s ≢ AText t r)
    → lines_of (tree_of scope (text_before text s)) ≡ text_line text ++ lines_of (tree_of scope s)
before_other [] scope s other = refl
before_other (c ∷ cs) scope Nothing other = refl
before_other (c ∷ cs) scope (AnElement prefix local uri namespaces attributes children siblings) other = refl
before_other (c ∷ cs) scope (AText text siblings) other = absurd (other text siblings refl)
before_other (c ∷ cs) scope (AComment text siblings) other = refl
before_other (c ∷ cs) scope (AnInstruction target text siblings) other = refl

attribute_lines-map : (attributes : List Written) → map line_of (map attribute_event attributes) ≡ attribute_lines attributes
attribute_lines-map [] = refl
attribute_lines-map (a ∷ more) = ap (λ ls. line_of (attribute_event a) ∷ ls) (attribute_lines-map more)

-- the lines of an element
element_lines : (name : List ℕ) (attributes : List Written) (children siblings : Plain)
    → lines_of (Node tt (Element name attributes) children siblings)
    ≡ start_lines name attributes ++ (lines_of children ++ (line_of (event.End name) ∷ lines_of siblings))
element_lines name attributes children siblings =
    let own = map attribute_event attributes in
    let end = event.End name ∷ written siblings in
    ap (λ ls. line_of (event.Start name) ∷ ls)
    (ap (map line_of) (append_assoc own (written children) end)
    ∙ map-append line_of own (written children ++ end)
    ∙ ap (λ ls. ls ++ map line_of (written children ++ end)) (attribute_lines-map attributes)
    ∙ ap (λ ls. attribute_lines attributes ++ ls) (map-append line_of (written children) end))

-- ---- one item, whatever is behind it

pub text_step : (lines : List Line) (text more longer : List ℕ) (scope : Scope) (single : Stream) (behind : Standing)
    → single ≡ stream.Text more stream.Ended → longer ≡ text ++ more
    → all_lines lines text scope (standing_before single behind) ≡ all_lines lines longer scope behind
text_step lines text more longer scope single behind is joined =
    ap (λ s. all_lines lines text scope (standing_before s behind)) is
    ∙ ap (λ s. lines ++ lines_of (tree_of scope s)) (text_before-text_before text more behind)
    ∙ ap (λ t. all_lines lines t scope behind) (sym joined)

-- a node whose lines are these, whatever is behind it
node_step : (lines after own : List Line) (text closed : List ℕ) (scope : Scope) (s behind : Standing)
    → ((t : List ℕ) (r : Standing) → s ≢ AText t r) → lines_of (tree_of scope s) ≡ own ++ lines_of (tree_of scope behind)
    → closed ≡ [] → after ≡ lines ++ text_line text ++ own
    → all_lines lines text scope s ≡ all_lines after closed scope behind
node_step lines after own text closed scope s behind other is none all =
    let rest = lines_of (tree_of scope behind) in
    ap (λ ls. lines ++ ls) (before_other text scope s other ∙ ap (λ ls. text_line text ++ ls) is ∙ sym (append_assoc (text_line text) own rest))
    ∙ sym (append_assoc lines (text_line text ++ own) rest) ∙ ap (λ ls. ls ++ rest) (sym (append_assoc lines (text_line text) own) ∙ sym all)
    ∙ ap (λ t. all_lines after t scope behind) (sym none)

pub comment_step : (lines after : List Line) (text closed : List ℕ) (scope : Scope) (single content : Stream) (behind : Standing)
    → single ≡ stream.Comment content stream.Ended → closed ≡ []
    → after ≡ lines ++ text_line text ++ line_of (event.Comment (comment_text (value_of content))) ∷ []
    → all_lines lines text scope (standing_before single behind) ≡ all_lines after closed scope behind
comment_step lines after text closed scope single content behind is none all =
    ap (λ s. all_lines lines text scope (standing_before s behind)) is
    ∙ node_step lines after (line_of (event.Comment (comment_text (value_of content))) ∷ []) text closed scope
    (AComment (comment_text (value_of content)) behind) behind (λ t r. λ e. cc) refl none all

pub instruction_step : (lines after : List Line) (text closed target : List ℕ) (scope : Scope) (single content : Stream) (behind : Standing)
    → single ≡ stream.Instruction target content stream.Ended → closed ≡ []
    → after ≡ lines ++ text_line text ++ line_of (event.Instruction target (instruction_text (value_of content))) ∷ []
    → all_lines lines text scope (standing_before single behind) ≡ all_lines after closed scope behind
instruction_step lines after text closed target scope single content behind is none all =
    ap (λ s. all_lines lines text scope (standing_before s behind)) is
    ∙ node_step lines after (line_of (event.Instruction target (instruction_text (value_of content))) ∷ []) text closed scope
    (AnInstruction target (instruction_text (value_of content)) behind) behind (λ t r. λ e. cc) refl none all

-- an element: the text before it and its start, its content, the text at its end and its end
pub element_step : (lines begun inner after : List Line) (text opened_text left closed name uri written : List ℕ) (namespaces : List (List ℕ × List ℕ))
    → (opening : Opening) (scope : Scope) (single content : Stream) (behind : Standing)
    → single ≡ stream.Element name uri namespaces content stream.Ended
    → written ≡ with_prefix (prefix_for (prefix_of name) uri) (local_of name)
    → opening ≡ opened scope (prefix_for (prefix_of name) uri) uri (namespaces ++ namespaces_of content) (all_added [] (attributes_of content))
    → opened_text ≡ [] → begun ≡ lines ++ text_line text ++ start_lines written (all_of opening)
    → ((more : Standing) → all_lines begun opened_text opening.scope (standing_before content more) ≡ all_lines inner left opening.scope more)
    → closed ≡ [] → after ≡ inner ++ text_line left ++ line_of (event.End written) ∷ []
    → all_lines lines text scope (standing_before single behind) ≡ all_lines after closed scope behind
element_step lines begun inner after text opened_text left closed name uri written namespaces opening scope single content behind
    is named made nothing start within none end =
    let s = standing_before (stream.Element name uri namespaces content stream.Ended) behind in
    let children = tree_of opening.scope (standing_before content Nothing) in
    let rest = lines_of (tree_of scope behind) in
    let first = start_lines written (all_of opening) in
    let last = line_of (event.End written) ∷ [] in
    let tree : tree_of scope s ≡ Node tt (Element written (all_of opening)) children (tree_of scope behind)
    = ap (λ o. Node tt (Element (with_prefix (prefix_for (prefix_of name) uri) (local_of name)) (all_of o)) (tree_of o.scope (standing_before content Nothing)) (tree_of scope behind)) (sym made)
    ∙ ap (λ n. Node tt (Element n (all_of opening)) children (tree_of scope behind)) (sym named) in
    let own : lines_of (tree_of scope s) ≡ first ++ (lines_of children ++ last) ++ rest
    = ap lines_of tree ∙ element_lines written (all_of opening) children (tree_of scope behind)
    ∙ ap (λ ls. first ++ ls) (sym (append_assoc (lines_of children) last rest))
    ∙ sym (append_assoc first (lines_of children ++ last) rest) in
    let below : begun ++ lines_of children ≡ inner ++ text_line left
    = ap (λ t. all_lines begun t opening.scope (standing_before content Nothing)) (sym nothing) ∙ within Nothing
    ∙ ap (λ ls. inner ++ ls) (last_text left opening.scope) in
    let all : after ≡ lines ++ text_line text ++ (first ++ (lines_of children ++ last))
    = end ∙ ap (λ ls. ls ++ last) (sym below) ∙ append_assoc begun (lines_of children) last
    ∙ ap (λ ls. ls ++ (lines_of children ++ last)) start ∙ append_assoc (lines ++ text_line text) first (lines_of children ++ last) in
    ap (λ t. all_lines lines text scope (standing_before t behind)) is
    ∙ node_step lines after (first ++ (lines_of children ++ last)) text closed scope s behind (λ t r. λ e. cc) own none all
