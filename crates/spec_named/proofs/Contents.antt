-- The instructions of a module whose elements have names are such that they write well.
use Rattle.std.proofs.Common.{◌≡◌, ℕ, ◌+◌, Bool, true, false, cond, List, [], ◌∷◌, ◌++◌, Option, None, Some, Result, Ok}
use Rattle.std.specs.Prelude.{unwrap_or, is_none}
use Rattle.std.specs.Option.{option_map, option_and_then}
use Rattle.std.specs.List.{filter, flat_map}
use Rattle.spec_document.specs.Name.{QName, Expanded, qname_of, is_ncname}
use Rattle.spec_document.specs.Scope.{Scope, resolved}
use Rattle.spec_document.specs.Declaration.{element_name, prefixed_name, namespaces_in}
use Rattle.spec_document.specs.Forest as spec
use Rattle.spec_document.specs.Forest.{Written, Forest, Empty, Node}
use Rattle.spec_document.specs.NodeFaults.{is_wrong_element}
use Rattle.spec_stylesheet.specs.Place.{Site}
use Rattle.spec_stylesheet.specs.Instruction as made
use Rattle.spec_stylesheet.specs.Instruction.{SortKey, LiteralAttribute, LiteralTag, Instr, Instrs, instrs, Form, Branch, branches, Binding, bindings}
use Rattle.spec_structure.specs.declared.element.XsltElement.{XsltElement}
use Rattle.spec_structure.specs.declared.element.XsltElement.TheVariants as xsl
use Rattle.spec_structure.specs.declared.content.ContentKind.{ContentKind}
use Rattle.spec_structure.specs.declared.content.ContentKind.TheVariants as content
use Rattle.spec_structure.specs.Elements.{literal_rows, content_of, after_element, after_other}
use Rattle.spec_structure.specs.Inside.{Role, OfXslt, OfExtension, OfOther, role_of, in_no_namespace, is_white}
use Rattle.spec_structure.specs.Structure.{Fault}
use Rattle.spec_compile.specs.Reading.{Reading, Done, reading_on}
use Rattle.spec_compile.specs.Value.{Entry, attributes_of, xslt_attributes_of}
use Rattle.spec_compile.specs.Content.{Around, site_of, Child, AnInstruction, AParameter, ASortKey, ABranch, parameter_in, branch_in, content_in}
use Rattle.spec_compile.specs.Content.{form_of, instruction_by, child_of, text_among, is_copied, prefix_of, element_name_of, literal_attributes}
use Rattle.spec_compile.specs.Content.{tag_by, tag_of, extension_rows, uses_of, tag_uses, bound_by, Below, with_element, standing_at, around_of}
use Rattle.spec_compile.specs.Content.{text_child, children_among, with}
use Rattle.spec_result.specs.Recovery.{NamespaceNode}
use Rattle.spec_result.specs.Named.{IsPrefix, AreNodes}
use Rattle.spec_named.proofs.Documents.{HaveNames}
use Rattle.spec_named.proofs.Names.{picked, HasParts, has_parts}
use Rattle.spec_named.proofs.Plans.{IsWellTag, AreWellInstrs, IsWellForm, AreWellBranches, AreWellBindings}
use Rattle.spec_named.proofs.Scopes.{HasPrefixes, all_declared, namespaces_are_nodes}
use Rattle.spec_named.proofs.Readings.{Ends, done, whatever, OkIs, ok, ok_whatever, on_ends, both_ends, at_ends, at_whatever}

-- ---- What children are

abbrev pub IsWellChild : Child → Type 0
IsWellChild (AnInstruction i) = IsWellForm i.form
IsWellChild (AParameter b) = AreWellInstrs b.content
IsWellChild (ASortKey k) = Unit {0}
IsWellChild (ABranch b) = AreWellInstrs b.content

abbrev pub AreWellChildren : List Child → Type 0
AreWellChildren [] = Unit {0}
AreWellChildren (c ∷ cs) = IsWellChild c × AreWellChildren cs

children_append : (cs ds : List Child) → AreWellChildren cs → AreWellChildren ds → AreWellChildren (cs ++ ds)
children_append [] ds h g = g
children_append (c ∷ cs) ds h g = (h.0, children_append cs ds h.1 g)

pub content_well : (cs : List Child) → AreWellChildren cs → AreWellInstrs (content_in cs)
content_well [] h = tt
content_well (AnInstruction i ∷ cs) h = (h.0, content_well cs h.1)
content_well (AParameter b ∷ cs) h = content_well cs h.1
content_well (ASortKey k ∷ cs) h = content_well cs h.1
content_well (ABranch b ∷ cs) h = content_well cs h.1

pub bindings_well : (cs : List Child) → AreWellChildren cs → AreWellBindings (bindings (flat_map parameter_in cs))
bindings_well [] h = tt
bindings_well (AnInstruction i ∷ cs) h = bindings_well cs h.1
bindings_well (AParameter b ∷ cs) h = (h.0, bindings_well cs h.1)
bindings_well (ASortKey k ∷ cs) h = bindings_well cs h.1
bindings_well (ABranch b ∷ cs) h = bindings_well cs h.1

branches_well : (cs : List Child) → AreWellChildren cs → AreWellBranches (branches (flat_map branch_in cs))
branches_well [] h = tt
branches_well (AnInstruction i ∷ cs) h = branches_well cs h.1
branches_well (AParameter b ∷ cs) h = branches_well cs h.1
branches_well (ASortKey k ∷ cs) h = branches_well cs h.1
branches_well (ABranch b ∷ cs) h = (h.0, branches_well cs h.1)

abbrev IsWellMade : Option Form → Type 0
IsWellMade None = Unit {0}
IsWellMade (Some form) = IsWellForm form

form_well : (x : XsltElement) (v : List Entry) (text : List ℕ) (cs : List Child) → AreWellChildren cs → IsWellMade (form_of x v text cs)
form_well xsl.ValueOf v text cs h = tt
form_well xsl.CopyOf v text cs h = tt
form_well xsl.Number v text cs h = tt
form_well xsl.ApplyImports v text cs h = tt
form_well xsl.Fallback v text cs h = tt
form_well xsl.Text v text cs h = tt
form_well xsl.Element v text cs h = (tt, content_well cs h)
form_well xsl.Attribute v text cs h = (tt, content_well cs h)
form_well xsl.Comment v text cs h = (tt, content_well cs h)
form_well xsl.ProcessingInstruction v text cs h = (tt, content_well cs h)
form_well xsl.Copy v text cs h = (tt, content_well cs h)
form_well xsl.Variable v text cs h = (tt, content_well cs h)
form_well xsl.Message v text cs h = (tt, content_well cs h)
form_well xsl.ForEach v text cs h = content_well cs h
form_well xsl.If v text cs h = content_well cs h
form_well xsl.Choose v text cs h = branches_well cs h
form_well xsl.ApplyTemplates v text cs h = bindings_well cs h
form_well xsl.CallTemplate v text cs h = bindings_well cs h
form_well _ v text cs h = tt

instruction_well : (site : Site) (o : Option Form) → IsWellMade o → AreWellChildren (instruction_by site o)
instruction_well site None h = tt
instruction_well site (Some form) h = (h, tt)

child_well : (x : XsltElement) (site : Site) (v : List Entry) (text : List ℕ) (cs : List Child) → AreWellChildren cs
    → AreWellChildren (child_of x site v text cs)
child_well xsl.Param site v text cs h = (content_well cs h, tt)
child_well xsl.WithParam site v text cs h = (content_well cs h, tt)
child_well xsl.Sort site v text cs h = (tt, tt)
child_well xsl.When site v text cs h = (content_well cs h, tt)
child_well xsl.Otherwise site v text cs h = (content_well cs h, tt)
child_well x site v text cs h = instruction_well site (form_of x v text cs) (form_well x v text cs h)

-- ---- Literal result elements

kept_nodes : (test : NamespaceNode → Bool) (ns : List NamespaceNode) → AreNodes ns → AreNodes (filter test ns)
kept_nodes test [] h = tt
kept_nodes test (n ∷ ns) h =
    let rest = kept_nodes test ns h.2 in picked AreNodes (test n) (n ∷ filter test ns) (filter test ns) (λ _. (h.0, h.1, rest)) (λ _. rest)

-- an expanded name with an NCName as its local part
abbrev HasLocal : Option Expanded → Type 0
HasLocal None = Unit {0}
HasLocal (Some e) = is_ncname e.local ≡ true

element_local : (scope : Scope) (q : QName) → is_ncname q.local ≡ true → HasLocal (element_name scope q)
element_local scope q h = by q.prefix
  where
    by_uri : (o : Option (List ℕ)) → HasLocal (option_map (λ uri. record { uri = uri; local = q.local }) o)
    by_uri None = tt
    by_uri (Some uri) = h

    by : (o : Option (List ℕ))
        → HasLocal (elim o [
          | None ↦ Some (record {
            uri = unwrap_or
                (resolved scope []) [];
            local = q.local;
          })
          | Some prefix ↦ prefixed_name scope prefix q.local
        ])
    by None = h
    by (Some prefix) = by_uri (resolved scope prefix)

-- the prefix and the local part of a name that is not wrong
tag_parts : (scope : Scope) (name : List ℕ) → is_wrong_element scope name ≡ false
    → IsPrefix (prefix_of name) × (is_ncname (element_name_of scope name).local ≡ true)
tag_parts scope name h = by (qname_of name) (has_parts name) h
  where
    there : (o : Option Expanded) → HasLocal o → is_none o ≡ false → is_ncname (unwrap_or o (in_no_namespace name)).local ≡ true
    there None h e = absurd (cc)
    there (Some e) h is = h

    by : (o : Option QName) → HasParts o → is_none (option_and_then (element_name scope) o) ≡ false
        → IsPrefix (elim o [ None ↦ [] | Some q ↦ unwrap_or q.prefix [] ])
        × (is_ncname (unwrap_or (option_and_then (element_name scope) o) (in_no_namespace name)).local ≡ true)
    by None g e = absurd (cc)
    by (Some q) g e = (g.0, there (element_name scope q) (element_local scope q g.1) e)

tag_well : (around : Around) (name : List ℕ) (entries : List Entry) (attributes : List LiteralAttribute) → HasPrefixes around.inside.scope
    → is_wrong_element around.inside.scope name ≡ false → IsWellTag (tag_by around name entries attributes)
tag_well around name entries attributes h e =
    let parts = tag_parts around.inside.scope name e in
    (parts.0, parts.1, kept_nodes (is_copied around) (namespaces_in around.inside.scope) (namespaces_are_nodes around.inside.scope h))

literal_ends : (around : Around) (name : List ℕ) (attributes : List Written) → HasPrefixes around.inside.scope
    → is_wrong_element around.inside.scope name ≡ false → Ends (OkIs IsWellTag) (tag_of around name attributes)
literal_ends around name attributes h e =
    both_ends {P = λ (v : List Entry). Unit {0}} {Q = λ (l : List LiteralAttribute). Unit {0}} (tag_by around name)
    (λ entries literals p q. tag_well around name entries literals h e)
    (whatever (λ r. ok_whatever (λ a. tt) r) (xslt_attributes_of around.inside.scope literal_rows attributes))
    (whatever (λ r. ok_whatever (λ a. tt) r) (literal_attributes around.inside.scope attributes))

-- ---- The children of an element

abbrev pub IsWellBelow : Below → Type 0
IsWellBelow b = AreWellChildren b.children

either_children : (b : Bool) (cs : List Child) → AreWellChildren cs → AreWellChildren (cond b cs [])
either_children true cs h = h
either_children false cs h = tt

text_well : {L : Type 0} (around : Around) (kind : ContentKind) (path text : List ℕ) (siblings : Forest L)
    → AreWellChildren (text_child around kind path text siblings)
text_well around kind path text siblings =
    either_children _ (AnInstruction (record { site = site_of around path; form = made.without_content (made.Text text) }) ∷ []) (tt, tt)

-- an element by what it is, where this is in force inside it and it stands here
abbrev read_as : {L : Type 0} → Around → Around → ContentKind → (path here : List ℕ) → ℕ → List ℕ → List Written → (children siblings : Forest L)
    → Role
    → Reading (Result Below Fault)
read_as around inner kind path here position name attributes children siblings role = elim role [
  | OfXslt None ↦ children_among around kind path (position + 1) siblings
  | OfXslt (Some x) ↦
      reading_on (standing_at here (attributes_of inner.inside.scope x attributes))
      (λ v. reading_on (children_among inner (content_of x) here 1 children)
      (λ below. reading_on (children_among around (after_element kind x) path (position + 1) siblings)
      (λ rest. Done (Ok (with_element (child_of x (site_of inner here) v (text_among children) below.children) (site_of inner here) (uses_of x v)
      (bound_by x v)
      below rest)))))
  | OfExtension ↦
      reading_on (standing_at here (xslt_attributes_of inner.inside.scope extension_rows attributes))
      (λ v. children_among around (after_other kind) path (position + 1) siblings)
  | OfOther uri ↦
      reading_on (standing_at here (tag_of inner name attributes))
      (λ tag. reading_on (children_among inner content.Body here 1 children)
      (λ below. reading_on (children_among around (after_other kind) path (position + 1) siblings)
      (λ rest. Done (Ok (with_element (instruction_by (site_of inner here) (Some (with (made.Literal tag) below.children))) (site_of inner here)
      (tag_uses tag) None
      below rest)))))
]

read_well : {L : Type 0} (around inner : Around) (kind : ContentKind) (path here : List ℕ) (position : ℕ) (name : List ℕ) (attributes : List Written)
    (children siblings : Forest L) → HasPrefixes inner.inside.scope → is_wrong_element inner.inside.scope name ≡ false
    → ((k : ContentKind) → Ends (OkIs IsWellBelow) (children_among around k path (position + 1) siblings))
    → ((k : ContentKind) → Ends (OkIs IsWellBelow) (children_among inner k here 1 children))
    → (role : Role) → Ends (OkIs IsWellBelow) (read_as around inner kind path here position name attributes children siblings role)
read_well around inner kind path here position name attributes children siblings h e next inside (OfXslt None) = next kind
read_well around inner kind path here position name attributes children siblings h e next inside (OfXslt (Some x)) =
    on_ends (at_whatever here (attributes_of inner.inside.scope x attributes)) (λ v u. on_ends (inside (content_of x)) (λ below b.
    on_ends (next (after_element kind x)) (λ rest r.
    done (ok (children_append (child_of x (site_of inner here) v (text_among children) below.children) rest.children
    (child_well x (site_of inner here) v (text_among children) below.children b) r)))))
read_well around inner kind path here position name attributes children siblings h e next inside OfExtension =
    on_ends (at_whatever here (xslt_attributes_of inner.inside.scope extension_rows attributes)) (λ v u. next (after_other kind))
read_well around inner kind path here position name attributes children siblings h e next inside (OfOther uri) =
    on_ends (at_ends here (literal_ends inner name attributes h e)) (λ tag t. on_ends (inside content.Body) (λ below b.
    on_ends (next (after_other kind)) (λ rest r. done (ok ((t, content_well below.children b), r)))))

pub children_well : {L : Type 0} (around : Around) (kind : ContentKind) (path : List ℕ) (position : ℕ) (f : Forest L)
    → HasPrefixes around.inside.scope
    → HaveNames around.inside.scope f → Ends (OkIs IsWellBelow) (children_among around kind path position f)
children_well around kind path position Empty h g = done (ok tt)
children_well around kind path position (Node label (spec.Text text) children siblings) h g =
    on_ends (children_well around (cond (is_white text) kind (after_other kind)) path (position + 1) siblings h g.2)
    (λ rest e. done (ok (children_append (text_child around kind path text siblings) rest.children (text_well around kind path text siblings) e)))
children_well around kind path position (Node label (spec.Comment text) children siblings) h g =
    children_well around kind path (position + 1) siblings h g.2
children_well around kind path position (Node label (spec.Instruction target text) children siblings) h g =
    children_well around kind path (position + 1) siblings h g.2
children_well around kind path position (Node label (spec.Element name attributes) children siblings) h g =
    let inner = around_of around name attributes in
    let below = all_declared attributes around.inside.scope h in
    read_well around inner kind path (path ++ position ∷ []) position name attributes children siblings below g.0
    (λ k. children_well around k path (position + 1) siblings h g.2) (λ k. children_well inner k (path ++ position ∷ []) 1 children below g.1)
    (role_of inner.inside name)
