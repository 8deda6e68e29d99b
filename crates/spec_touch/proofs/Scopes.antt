-- What depends on the scope alone of what stands above a node: its names, its namespace nodes and its copy.
use Rattle.std.proofs.Common.{◌≡◌, ℕ, Bool, true, false, cond, List, [], ◌∷◌, Option, Some, refl, sym, ap, ◌∙◌}
use Rattle.std.specs.Prelude.{unwrap_or}
use Rattle.std.specs.List.{filter}
use Rattle.std.specs.Option.{option_map, option_and_then}
use Rattle.spec_document.specs.declared.usage.AttributeUse.TheVariants.{Declares, Names, NoName}
use Rattle.spec_document.specs.Name.{qname_of, Expanded}
use Rattle.spec_document.specs.Scope.{Scope, root_scope, bound}
use Rattle.spec_document.specs.Forest.{Written, Content, Element, Text, Comment, Instruction, Forest, Empty, Node}
use Rattle.spec_document.specs.Declaration.{PlainUse, use_of, is_declaration, declared, declared_all, within}
use Rattle.spec_document.specs.Declaration.{scope_of, attribute_name}
use Rattle.spec_document.specs.Place.{Found, found_in, kind_by, name_by, written_by, scope_at, attributes_of}
use Rattle.spec_document.specs.Place.{namespaces_of, namespaces_by}
use Rattle.spec_meaning.specs.Stream as stream
use Rattle.spec_meaning.specs.Stream.{Stream}
use Rattle.spec_run.specs.Copy.{attributes_before, node_before, copied_among, copied_by}
use Rattle.spec_touch.specs.Leads.{Rewrites, text_rewritten, comment_rewritten, instruction_rewritten}

-- ---- Declarations alone make the scope

abbrev declares : PlainUse → Bool
declares u = elim u [ Declares prefix ↦ true | Names name ↦ false | NoName ↦ false ]

abbrev after_use : Written → Scope → PlainUse → Scope
after_use a scope u = elim u [ Declares prefix ↦ bound scope prefix a.value | Names name ↦ scope | NoName ↦ scope ]

declared-filter : (ws : List Written) (scope : Scope) → declared_all ws scope ≡ declared_all (filter is_declaration ws) scope
declared-filter [] scope = refl
declared-filter (a ∷ more) scope = by (use_of a.name) refl (declared-filter more)
  where
    others : List Written
    others = filter is_declaration more

    by : (u : PlainUse) → use_of a.name ≡ u → ((after : Scope) → declared_all more after ≡ declared_all others after)
        → declared_all more (declared a scope) ≡ declared_all (filter is_declaration (a ∷ more)) scope
    by (Declares p) e rest = rest (declared a scope) ∙ sym (λ i. declared_all (cond (declares (e i)) (a ∷ others) others) scope)
    by (Names n) e rest =
        (λ i. declared_all more (after_use a scope (e i))) ∙ rest scope
        ∙ sym (λ i. declared_all (cond (declares (e i)) (a ∷ others) others) scope)
    by NoName e rest =
        (λ i. declared_all more (after_use a scope (e i))) ∙ rest scope
        ∙ sym (λ i. declared_all (cond (declares (e i)) (a ∷ others) others) scope)

pub same-declarations : (old new : List Written) → filter is_declaration new ≡ filter is_declaration old → (scope : Scope)
    → declared_all old scope ≡ declared_all new scope
same-declarations old new e scope =
    declared-filter old scope ∙ sym (ap (λ ws. declared_all ws scope) e) ∙ sym (declared-filter new scope)

-- ---- Copies

abbrev uri_by : Option Expanded → List ℕ
uri_by name = unwrap_or (option_map (λ (n : Expanded). n.uri) name) []

attributes-copied : (x y : Found ℕ) → scope_at x ≡ scope_at y → (ws : List Written) (r q : Stream) → r ≡ q
    → attributes_before x ws r ≡ attributes_before y ws q
attributes-copied x y e [] r q h = h
attributes-copied x y e (a ∷ more) r q h =
    λ i. stream.Attribute a.name (uri_by (option_and_then (attribute_name (e i)) (qname_of a.name))) (stream.Text a.value stream.Ended)
    (attributes-copied x y e more r q h i)

pub attribute-copied : (x y : Found ℕ) → scope_at x ≡ scope_at y → (a : Written)
    → attributes_before x (a ∷ []) stream.Ended ≡ attributes_before y (a ∷ []) stream.Ended
attribute-copied x y e a = attributes-copied x y e (a ∷ []) stream.Ended stream.Ended refl

node-copied : (c : Content) (above over : List Content) (l : ℕ) (f g : Forest ℕ) → scope_of root_scope above ≡ scope_of root_scope over
    → (below under rest more : Stream) → below ≡ under → rest ≡ more
    → node_before (found_in above l c f) c below rest ≡ node_before (found_in over l c g) c under more
node-copied (Element name ws) above over l f g e below under rest more h k =
    let x = found_in above l (Element name ws) f in
    let y = found_in over l (Element name ws) g in
    let scope : scope_at x ≡ scope_at y = ap (declared_all ws) e in
    let attributes = attributes-copied x y scope (attributes_of x) below under h in
    λ i. stream.Element name (uri_by (name_by (Some (Element name ws)) (scope i)))
    (namespaces_by (Some (Element name ws)) (scope i)) (attributes i) (k i)
node-copied (Text text) above over l f g e below under rest more h k = ap (stream.Text text) k
node-copied (Comment text) above over l f g e below under rest more h k = ap (stream.Comment (stream.Text text stream.Ended)) k
node-copied (Instruction target text) above over l f g e below under rest more h k =
    ap (stream.Instruction target (stream.Text text stream.Ended)) k

among-copied : (above over : List Content) → scope_of root_scope above ≡ scope_of root_scope over → (f : Forest ℕ)
    → copied_among above f ≡ copied_among over f
among-copied above over e Empty = refl
among-copied above over e (Node l c f s) =
    node-copied c above over l f f e _ _ _ _ (among-copied (c ∷ above) (c ∷ over) (ap (within c) e) f) (among-copied above over e s)

pub tree-copied : (above over : List Content) → scope_of root_scope above ≡ scope_of root_scope over → (l : ℕ) (c : Content) (f : Forest ℕ)
    → copied_by (found_in above l c f) (Some c) ≡ copied_by (found_in over l c f) (Some c)
tree-copied above over e l c f = node-copied c above over l f f e _ _ _ _ (among-copied (c ∷ above) (c ∷ over) (ap (within c) e) f) refl

-- ---- Nodes that nothing tells apart but what is below them and what they say

pub record Like (x y : Found ℕ) : Type 0 where
  pub label : x.label ≡ y.label
  pub kind : kind_by x.content ≡ kind_by y.content
  pub name : name_by x.content (scope_at x) ≡ name_by y.content (scope_at y)
  pub written : written_by x.content ≡ written_by y.content
  pub scope : scope_at x ≡ scope_at y
  pub namespaces : namespaces_of x ≡ namespaces_of y

pub same-content : (above over : List Content) → scope_of root_scope above ≡ scope_of root_scope over
    → (l : ℕ) (c : Content) (f g : Forest ℕ)
    → Like (found_in above l c f) (found_in over l c g)
same-content above over e l c f g =
    record {
      label = refl;
      kind = refl;
      name = λ i. name_by (Some c) (within c (e i));
      written = refl;
      scope = ap (within c) e;
      namespaces = λ i. namespaces_by (Some c) (within c (e i));
    }

pub other-text : (above over : List Content) → scope_of root_scope above ≡ scope_of root_scope over → (l : ℕ) (c d : Content) (f : Forest ℕ)
    → Rewrites c d → Like (found_in above l c f) (found_in over l d f)
other-text above over e l c d f text_rewritten =
    record { label = refl; kind = refl; name = refl; written = refl; scope = e; namespaces = refl }
other-text above over e l c d f comment_rewritten =
    record { label = refl; kind = refl; name = refl; written = refl; scope = e; namespaces = refl }
other-text above over e l c d f instruction_rewritten =
    record { label = refl; kind = refl; name = refl; written = refl; scope = e; namespaces = refl }

pub rewritten-scope : (c d : Content) → Rewrites c d → (scope : Scope) → within c scope ≡ within d scope
rewritten-scope c d text_rewritten scope = refl
rewritten-scope c d comment_rewritten scope = refl
rewritten-scope c d instruction_rewritten scope = refl

pub rewritten-attributes : (above over : List Content) (l : ℕ) (c d : Content) (f : Forest ℕ) → Rewrites c d
    → attributes_of (found_in above l c f) ≡ attributes_of (found_in over l d f)
rewritten-attributes above over l c d f text_rewritten = refl
rewritten-attributes above over l c d f comment_rewritten = refl
rewritten-attributes above over l c d f instruction_rewritten = refl

pub other-attributes : (above over : List Content) → scope_of root_scope above ≡ scope_of root_scope over → (l : ℕ) (name : List ℕ)
    (old new : List Written) (f : Forest ℕ) → filter is_declaration new ≡ filter is_declaration old
    → Like (found_in above l (Element name old) f) (found_in over l (Element name new) f)
other-attributes above over e l name old new f same =
    let scope : declared_all old (scope_of root_scope above) ≡ declared_all new (scope_of root_scope over) =
    ap (declared_all old) e ∙ same-declarations old new same (scope_of root_scope over) in
    record {
      label = refl;
      kind = refl;
      name = λ i. name_by (Some (Element name [])) (scope i);
      written = refl;
      scope = scope;
      namespaces = λ i. namespaces_by (Some (Element name [])) (scope i);
    }
