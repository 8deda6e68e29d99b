-- The prefixes of a scope that declarations make are NCNames or none, so the namespace nodes of an element undeclare no prefix.
use Rattle.std.proofs.Common.{◌≡◌, ℕ, true, List, [], ◌∷◌, Option, None, Some, length, refl, sym, ◌∙◌, subst, arith}
use Rattle.std.specs.Prelude.{codes, if◌then◌else◌}
use Rattle.std.specs.List.{filter}
use Rattle.std.specs.Ordering.{nat_cmp}
use Rattle.std.specs.declared.cmp.Ordering.{Ordering}
use Rattle.std.specs.declared.cmp.Ordering.TheVariants.{Less, Equal, Greater}
use Rattle.std.specs.Cmp.Lexicographic.{slice_cmp, nat_list_cmp_total}
use Rattle.std.specs.FinMap.{empty, entries, put, entries-insert, len-entries, len-empty}
use Rattle.std.specs.FinMap.Entries.{by_order}
use Rattle.spec_document.specs.Character.{is_name_start, is_name_part}
use Rattle.spec_document.specs.declared.usage.AttributeUse.TheVariants.{Declares, Names, NoName}
use Rattle.spec_document.specs.Name.{QName, qname_of, is_ncname}
use Rattle.spec_document.specs.Scope.{Scope, root_scope, bound, xml_uri}
use Rattle.spec_document.specs.Declaration.{PlainUse, is_xmlns, use_of_qname, use_of, declared, declared_all, within, scope_of, is_there}
use Rattle.spec_document.specs.Declaration.{namespaces_in}
use Rattle.spec_document.specs.Forest.{Written, Content, Element, Text, Comment, Instruction}
use Rattle.spec_result.specs.Recovery.{NamespaceNode}
use Rattle.spec_result.specs.Named.{IsPrefix, AreNodes}
use Rattle.spec_named.proofs.Names.{HasParts, has_parts, picked, prefix_named}

-- ---- All prefixes of a scope

abbrev ArePrefixes : List NamespaceNode → Type 0
ArePrefixes [] = Unit {0}
ArePrefixes (e ∷ es) = IsPrefix e.0 × ArePrefixes es

abbrev pub HasPrefixes : Scope → Type 0
HasPrefixes scope = ArePrefixes (entries scope)

put_prefix : (prefix uri : List ℕ) → IsPrefix prefix → (es : List NamespaceNode) → ArePrefixes es
    → ArePrefixes (put (slice_cmp nat_cmp) prefix uri es)
put_prefix prefix uri h [] g = (h, tt)
put_prefix prefix uri h (e ∷ es) g = by (slice_cmp nat_cmp prefix e.0) (put_prefix prefix uri h es g.1)
  where
    by : (o : Ordering) → ArePrefixes (put (slice_cmp nat_cmp) prefix uri es)
        → ArePrefixes (by_order o ((prefix, uri) ∷ e ∷ es) ((e.0, uri) ∷ es) (e ∷ put (slice_cmp nat_cmp) prefix uri es))
    by Less rest = (h, g)
    by Equal rest = g
    by Greater rest = (g.0, rest)

bound_prefixes : (scope : Scope) (prefix uri : List ℕ) → HasPrefixes scope → IsPrefix prefix → HasPrefixes (bound scope prefix uri)
bound_prefixes scope prefix uri h g =
    subst ArePrefixes (sym (entries-insert nat_list_cmp_total scope prefix uri)) (put_prefix prefix uri g (entries scope) h)

-- ---- Declarations

abbrev DeclaresPrefix : PlainUse → Type 0
DeclaresPrefix (Declares prefix) = IsPrefix prefix
DeclaresPrefix (Names name) = Unit {0}
DeclaresPrefix NoName = Unit {0}

qname_declares : (q : QName) → HasParts (Some q) → DeclaresPrefix (use_of_qname q)
qname_declares q h = by q.prefix
  where
    by : (o : Option (List ℕ)) → DeclaresPrefix (elim o [
      | None ↦ if is_xmlns q.local then Declares [] else Names q
      | Some prefix ↦ if is_xmlns prefix then Declares q.local else Names q
    ])
    by None = picked DeclaresPrefix (is_xmlns q.local) (Declares []) (Names q) (λ _. tt) (λ _. tt)
    by (Some prefix) = picked DeclaresPrefix (is_xmlns prefix) (Declares q.local) (Names q) (λ _. prefix_named q.local h.1) (λ _. tt)

use_declares : (name : List ℕ) → DeclaresPrefix (use_of name)
use_declares name = by (qname_of name) (has_parts name)
  where
    by : (o : Option QName) → HasParts o → DeclaresPrefix (elim o [ None ↦ NoName | Some q ↦ use_of_qname q ])
    by None h = tt
    by (Some q) h = qname_declares q h

declared_prefixes : (a : Written) (scope : Scope) → HasPrefixes scope → HasPrefixes (declared a scope)
declared_prefixes a scope h = by (use_of a.name) (use_declares a.name)
  where
    by : (u : PlainUse) → DeclaresPrefix u → HasPrefixes (elim u [
      | Declares prefix ↦ bound scope prefix a.value
      | Names name ↦ scope
      | NoName ↦
          scope
    ])
    by (Declares prefix) g = bound_prefixes scope prefix a.value h g
    by (Names name) g = h
    by NoName g = h

pub all_declared : (attributes : List Written) (scope : Scope) → HasPrefixes scope → HasPrefixes (declared_all attributes scope)
all_declared [] scope h = h
all_declared (a ∷ more) scope h = all_declared more (declared a scope) (declared_prefixes a scope h)

within_prefixes : (content : Content) (scope : Scope) → HasPrefixes scope → HasPrefixes (within content scope)
within_prefixes (Element name attributes) scope h = all_declared attributes scope h
within_prefixes (Text text) scope h = h
within_prefixes (Comment text) scope h = h
within_prefixes (Instruction target text) scope h = h

xml_name : is_ncname (codes "xml") ≡ true
unfolding is_name_start is_name_part
xml_name = refl

none_there : (es : List NamespaceNode) → length es ≡ 0 → ArePrefixes es
none_there [] e = tt
none_there (x ∷ es) e = absurd (omega arith)

none_in_empty : ArePrefixes (entries (empty {X = List ℕ} {R = slice_cmp nat_cmp}))
none_in_empty = none_there (entries (empty {X = List ℕ} {R = slice_cmp nat_cmp})) (sym (len-entries empty) ∙ len-empty (slice_cmp nat_cmp) (List ℕ))

pub root_prefixes : HasPrefixes root_scope
root_prefixes = bound_prefixes empty (codes "xml") xml_uri none_in_empty xml_name

pub scope_prefixes : (above : List Content) → HasPrefixes (scope_of root_scope above)
scope_prefixes [] = root_prefixes
scope_prefixes (content ∷ above) = within_prefixes content (scope_of root_scope above) (scope_prefixes above)

-- ---- Namespace nodes

kept_nodes : (es : List NamespaceNode) → ArePrefixes es → AreNodes (filter (λ n. is_there n.1) es)
kept_nodes [] h = tt
kept_nodes (e ∷ es) h =
    let rest = kept_nodes es h.1 in
    picked AreNodes (is_there e.1) (e ∷ filter (λ n. is_there n.1) es) (filter (λ n. is_there n.1) es) (λ there. (h.0, λ _. there, rest)) (λ _. rest)

pub namespaces_are_nodes : (scope : Scope) → HasPrefixes scope → AreNodes (namespaces_in scope)
namespaces_are_nodes scope h = kept_nodes (entries scope) h
