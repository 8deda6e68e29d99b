-- The true answers of a well-named source and stylesheet are such that a run writes well.
use Rattle.std.proofs.Common.{◌≡◌, Bool, true, List, [], ◌∷◌, map, Option, None, Some, refl, subst}
use Rattle.std.specs.Prelude.{◌&&◌, filter}
use Rattle.std.specs.List.{find}
use Rattle.std.specs.Ordering.{is_eq}
use Rattle.std.specs.declared.cmp.Ordering.{Ordering}
use Rattle.std.specs.declared.cmp.Ordering.TheVariants.{Less, Equal, Greater}
use Rattle.std.proofs.lemmas.Bool.{and_parts}
use Rattle.spec_document.specs.declared.axis.Axis.TheVariants as axis
use Rattle.spec_document.specs.declared.kind.Kind.TheVariants as kind
use Rattle.spec_document.specs.Axis.{is_on}
use Rattle.spec_document.specs.Scope.{root_scope}
use Rattle.spec_document.specs.Forest.{Document}
use Rattle.spec_document.specs.Place.{kind_of, expanded_name, written_name, string_value}
use Rattle.spec_document.specs.Order.{Way, way_to, document_cmp, Entry, entries_of}
use Rattle.spec_document.proofs.Ways.{document_same}
use Rattle.spec_expression.specs.declared.NodeType.TheVariants as type
use Rattle.spec_expression.specs.Syntax.{OfType}
use Rattle.spec_stylesheet.specs.Sheet as sheet
use Rattle.spec_stylesheet.specs.Sheet.{Sheet}
use Rattle.spec_meaning.specs.Question as question
use Rattle.spec_meaning.specs.Question.{Answer, Copied, Named, SomeText, SomeNodes, nodes_in, text_in, local_in, written_in}
use Rattle.spec_meaning.specs.Step.{passes, step_from}
use Rattle.spec_meaning.specs.Truth.{told_of}
use Rattle.spec_result.specs.Named.{AreNodes}
use Rattle.spec_run.specs.Documents.{Parameters}
use Rattle.spec_run.specs.Copy.{stream_in, copy_of}
use Rattle.spec_run.specs.Content.{kind_in}
use Rattle.spec_run.specs.Meaning.{run_of}
use Rattle.spec_run.specs.World.{unit_by, Node, InSource, InModule, same_node, truth_at_places, setting_of}
use Rattle.spec_named.proofs.Documents.{HaveNames}
use Rattle.spec_named.proofs.Streams.{IsQName, IsNode, IsWell}
use Rattle.spec_named.proofs.Names.{picked}
use Rattle.spec_named.proofs.Plans.{nodes_read, IsWellDeclared, AreWellAliases, IsWellUnit, IsWellWorld}
use Rattle.spec_named.proofs.Runs.{run_of_well}
use Rattle.spec_named.proofs.Copies.{IsWellEntry, All, entries_well}

-- ---- What is found by a test

abbrev IsFound : {A : Type 0} → (A → Type 0) → Option A → Type 0
IsFound P None = Unit {0}
IsFound P (Some x) = P x

found : {A : Type 0} (P : A → Type 0) (test : A → Bool) (xs : List A) → All P xs → IsFound (λ x. P x × (test x ≡ true)) (find test xs)
found P test [] h = tt
found P test (x ∷ xs) h =
    picked (IsFound (λ y. P y × (test y ≡ true))) (test x) (Some x) (find test xs) (λ e. (h.0, e)) (λ _. found P test xs h.1)

equal : (o : Ordering) → is_eq o ≡ true → o ≡ Equal
equal Equal e = refl
equal Less e = absurd (cc)
equal Greater e = absurd (cc)

-- ---- A stylesheet whose literal elements and aliases have good names

pub record IsWellSheet (s : Sheet) : Type 0 where
  pub units : All (λ (u : sheet.Unit). IsWellDeclared u.declared) s.units
  pub aliases : AreWellAliases s.aliases

module _ {L : Type 0} (s : Sheet) (parameters : Parameters) (document : Document L) (named : HaveNames root_scope document.nodes)
    (well : IsWellSheet s) where
  abbrev ask : question.Question Node → Answer Node
  ask = truth_at_places s parameters document

  abbrev named_by : Node → Option (Entry L)
  named_by n = find (λ (e : Entry L). same_node n (InSource e.place)) (entries_of document)

  there : (n : Node) → IsFound (λ (e : Entry L). IsWellEntry e × (same_node n (InSource e.place) ≡ true)) (named_by n)
  there n = found IsWellEntry (λ (e : Entry L). same_node n (InSource e.place)) (entries_of document) (entries_well document named)

  copy_well : (n : Node) → IsWell (stream_in (ask (question.Copy n)))
  copy_well n = by (named_by n) (there n)
    where
      by : (o : Option (Entry L)) → IsFound (λ (e : Entry L). IsWellEntry e × (same_node n (InSource e.place) ≡ true)) o
          → IsWell (stream_in {N = Node} (told_of (λ (e : Entry L). Copied (copy_of e.item)) o))
      by None h = tt
      by (Some e) h = h.0.copy

  name_well : (n : Node) → kind_in (ask (question.Name n)) ≡ kind.Element → IsQName (written_in (ask (question.Name n)))
  name_well n = by (named_by n) (there n)
    where
      by : (o : Option (Entry L)) → IsFound (λ (e : Entry L). IsWellEntry e × (same_node n (InSource e.place) ≡ true)) o
          → kind_in {N = Node} (told_of (λ (e : Entry L). Named (kind_of e.item) (expanded_name e.item) (written_name e.item)) o) ≡ kind.Element
          → IsQName (written_in {N = Node} (told_of (λ (e : Entry L). Named (kind_of e.item) (expanded_name e.item) (written_name e.item)) o))
      by None h e = absurd (cc)
      by (Some e) h is = h.0.name is

  -- ---- Namespace nodes, as they are read

  node_read : (p : List Way) (e : Entry L) → is_on axis.Namespace p (way_to e.place) ≡ true
      → IsNode (local_in (ask (question.Name (InSource e.place)))) (text_in (ask (question.Text (InSource e.place))))
  node_read p e on = by (named_by (InSource e.place)) (there (InSource e.place))
    where
      by : (o : Option (Entry L)) → IsFound (λ (x : Entry L). IsWellEntry x × (same_node (InSource e.place) (InSource x.place) ≡ true)) o
          → IsNode (local_in {N = Node} (told_of (λ (x : Entry L). Named (kind_of x.item) (expanded_name x.item) (written_name x.item)) o))
          (text_in {N = Node} (told_of (λ (x : Entry L). SomeText (string_value x.item)) o))
      by None h = (tt, λ is. absurd (cc))
      by (Some x) h =
          let same : way_to e.place ≡ way_to x.place =
          document_same (way_to e.place) (way_to x.place) (equal (document_cmp (way_to e.place) (way_to x.place)) h.1) in
          h.0.namespace p (subst (λ q. is_on axis.Namespace p q ≡ true) same on)

  abbrev stands : Entry L → Entry L → Bool
  stands node e = is_on axis.Namespace (way_to node.place) (way_to e.place) && passes axis.Namespace (OfType type.Node) e.item

  all_read : (node : Entry L) (es : List (Entry L)) → AreNodes (nodes_read ask (map (λ (e : Entry L). InSource e.place) (filter (stands node) es)))
  all_read node [] = tt
  all_read node (e ∷ es) =
      let rest = all_read node es in
      picked (λ (xs : List (Entry L)). AreNodes (nodes_read ask (map (λ (x : Entry L). InSource x.place) xs))) (stands node e) (e ∷ filter
      (stands node) es)
      (filter (stands node) es)
      (λ is. let own = node_read (way_to node.place) e (and_parts (is_on axis.Namespace (way_to node.place) (way_to e.place)) _ is).0 in
      (own.0, own.1, rest))
      (λ _. rest)

  stepped_well : (o from : Option (Entry L))
      → AreNodes (nodes_read ask (nodes_in {N = Node} (told_of (λ (e : Entry L).
      SomeNodes (step_from (λ (x : Entry L). InSource x.place) (entries_of document) axis.Namespace (OfType type.Node) from)) o)))
  stepped_well None from = tt
  stepped_well (Some e) None = tt
  stepped_well (Some e) (Some node) = all_read node (entries_of document)

  -- ---- Units

  unit_well : (n : Node) → IsWellUnit (ask (question.Unit n))
  unit_well n =
      by (find (λ (u : sheet.Unit). same_node n (InModule u.site.place)) s.units)
      (found (λ (u : sheet.Unit). IsWellDeclared u.declared) (λ (u : sheet.Unit). same_node n (InModule u.site.place)) s.units well.units)
    where
      by : (o : Option sheet.Unit) → IsFound (λ (u : sheet.Unit). IsWellDeclared u.declared × (same_node n (InModule u.site.place) ≡ true)) o
          → IsWellUnit (unit_by InModule s.aliases s.units o)
      by None h = tt
      by (Some u) h = (h.0, well.aliases)

  world_well : IsWellWorld ask
  world_well = record {
    copies = copy_well;
    names = name_well;
    namespaces = λ n. stepped_well (named_by n) (named_by n);
    units = unit_well;
  }

  pub written_well : IsWell (run_of (setting_of s parameters document)).content
  written_well = run_of_well (setting_of s parameters document) world_well
