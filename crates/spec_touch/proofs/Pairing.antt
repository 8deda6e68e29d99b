-- The nodes of a tree that stands at two places where the same namespaces are in scope: each beside itself at the other place.
use Rattle.std.proofs.Common.{◌≡◌, ℕ, ◌+◌, true, false, List, [], ◌∷◌, ◌++◌, refl, sym, ap, ◌∙◌, subst, append_assoc, append-nil}
use Rattle.std.specs.Option.{option_and_then}
use Rattle.spec_document.specs.Name.{qname_of}
use Rattle.spec_document.specs.Scope.{Scope, root_scope}
use Rattle.spec_document.specs.Forest.{Written, Content, Forest, Empty, Node}
use Rattle.spec_document.specs.Declaration.{within, scope_of, attribute_name}
use Rattle.spec_document.specs.Place.{Itself, Found, found_in}
use Rattle.spec_document.specs.Place.{kind_of, expanded_name, written_name, string_value, string_value_by, attributes_of, namespaces_of}
use Rattle.spec_document.specs.Order.{Entry, namespace_entries, attribute_entries, own_entries, entries_in}
use Rattle.spec_run.specs.Copy.{copy_of, copied_by}
use Rattle.spec_node.specs.Naming.{number_of}
use Rattle.spec_touch.specs.Leads.{Rewrites}
use Rattle.spec_touch.proofs.Scopes.{Like, same-content, other-text, rewritten-scope, rewritten-attributes, tree-copied, attribute-copied}
use Rattle.spec_touch.proofs.Apart.{is_top}
use Rattle.spec_touch.proofs.Holding.{tree_entries}

-- the same node at both places. What is below the tree's own node says all that it said
pub record Alike (l : ℕ) (s t : List ℕ) (e f : Entry ℕ) : Type 0 where
  pub below : List ℕ
  pub old : e.place.positions ≡ s ++ below
  pub new : f.place.positions ≡ t ++ below
  pub ending : e.place.ending ≡ f.place.ending
  pub number : e.number ≡ f.number
  pub label : number_of e.item ≡ number_of f.item
  pub kind : kind_of e.item ≡ kind_of f.item
  pub name : expanded_name e.item ≡ expanded_name f.item
  pub written : written_name e.item ≡ written_name f.item
  pub top : is_top e.place.ending below ≡ true → number_of e.item ≡ l
  pub text : is_top e.place.ending below ≡ false → string_value e.item ≡ string_value f.item
  pub copy : is_top e.place.ending below ≡ false → copy_of e.item ≡ copy_of f.item

pub data Pairs (l : ℕ) (s t : List ℕ) : (old new : List (Entry ℕ)) → Type 0 where
  no_more : Pairs l s t [] []
  one_more : {e f : Entry ℕ} {es fs : List (Entry ℕ)} → Alike l s t e f → Pairs l s t es fs → Pairs l s t (e ∷ es) (f ∷ fs)

-- the same content, or that of a text that another was joined to
pub data IsSort : Content → Content → Type 0 where
  same_sort : {content : Content} → IsSort content content
  other_words : {old new : Content} → Rewrites old new → IsSort old new

pairs-append : {l : ℕ} {s t : List ℕ} {es fs gs hs : List (Entry ℕ)} → Pairs l s t es fs → Pairs l s t gs hs → Pairs l s t (es ++ gs) (fs ++ hs)
pairs-append no_more q = q
pairs-append (one_more a p) q = one_more a (pairs-append p q)

some-below : (p : List ℕ) (k : ℕ) → is_top Itself (p ++ k ∷ []) ≡ false
some-below [] k = refl
some-below (q ∷ p) k = refl

module _ (l : ℕ) (s t : List ℕ) where
  module _ (u v p : List ℕ) (old : u ≡ s ++ p) (new : v ≡ t ++ p) (x y : Found ℕ) (like : Like x y) where
    namespaces-paired : (k : ℕ) (ns : List (List ℕ × List ℕ)) → Pairs l s t (namespace_entries u x k ns) (namespace_entries v y k ns)
    namespaces-paired k [] = no_more
    namespaces-paired k (n ∷ ns) =
        one_more (record {
          below = p;
          old = old;
          new = new;
          ending = refl;
          number = refl;
          label = like.label;
          kind = refl;
          name = refl;
          written = refl;
          top = λ h. absurd (cc);
          text = λ _. refl;
          copy = λ _. refl;
        }) (namespaces-paired (k + 1) ns)

    attributes-paired : (k : ℕ) (ws : List Written) → Pairs l s t (attribute_entries u x k ws) (attribute_entries v y k ws)
    attributes-paired k [] = no_more
    attributes-paired k (a ∷ ws) =
        one_more (record {
          below = p;
          old = old;
          new = new;
          ending = refl;
          number = refl;
          label = like.label;
          kind = refl;
          name = λ i. option_and_then (attribute_name (like.scope i)) (qname_of a.name);
          written = refl;
          top = λ h. absurd (cc);
          text = λ _. refl;
          copy = λ _. attribute-copied x y like.scope a;
        }) (attributes-paired (k + 1) ws)

    own-paired : attributes_of x ≡ attributes_of y → (is_top Itself p ≡ true → x.label ≡ l)
        → (is_top Itself p ≡ false → string_value_by x.content x.children ≡ string_value_by y.content y.children)
        → (is_top Itself p ≡ false → copied_by x x.content ≡ copied_by y y.content) → Pairs l s t (own_entries u x) (own_entries v y)
    own-paired attributes top text copy =
        one_more (record {
          below = p;
          old = old;
          new = new;
          ending = refl;
          number = refl;
          label = like.label;
          kind = like.kind;
          name = like.name;
          written = like.written;
          top = top;
          text = text;
          copy = copy;
        }) (pairs-append
        (subst (λ ns. Pairs l s t (namespace_entries u x 1 (namespaces_of x)) (namespace_entries v y 1 ns)) like.namespaces
        (namespaces-paired 1 (namespaces_of x)))
        (subst (λ ws. Pairs l s t (attribute_entries u x 1 (attributes_of x)) (attribute_entries v y 1 ws)) attributes
        (attributes-paired 1 (attributes_of x))))

  deeper : (s u p : List ℕ) (k : ℕ) → u ≡ s ++ p → u ++ k ∷ [] ≡ s ++ (p ++ k ∷ [])
  deeper s u p k e = ap (λ w. w ++ k ∷ []) e ∙ append_assoc s p (k ∷ [])

  -- siblings somewhere below the tree's own node
  below-paired : (u v p : List ℕ) → u ≡ s ++ p → v ≡ t ++ p → (above over : List Content) → scope_of root_scope above ≡ scope_of root_scope over
      → (k : ℕ) (f : Forest ℕ) → Pairs l s t (entries_in above u k f) (entries_in over v k f)
  below-paired u v p old new above over e k Empty = no_more
  below-paired u v p old new above over e k (Node m c f g) =
      let was = deeper s u p k old in
      let is = deeper t v p k new in
      pairs-append (pairs-append (own-paired (u ++ k ∷ []) (v ++ k ∷ []) (p ++ k ∷ []) was is (found_in above m c f) (found_in over m c f)
      (same-content above over e m c f f) refl (λ h. absurd (let no : true ≡ false = sym h ∙ some-below p k in cc)) (λ _. refl)
      (λ _. tree-copied above over e m c f))
      (below-paired (u ++ k ∷ []) (v ++ k ∷ []) (p ++ k ∷ []) was is (c ∷ above) (c ∷ over) (ap (within c) e) 1 f))
      (below-paired u v p old new above over e (k + 1) g)

like-sort : (above over : List Content) → scope_of root_scope above ≡ scope_of root_scope over → (l : ℕ) (c d : Content) (f : Forest ℕ) → IsSort c d
    → Like (found_in above l c f) (found_in over l d f)
like-sort above over e l c _ f same_sort = same-content above over e l c f f
like-sort above over e l c d f (other_words r) = other-text above over e l c d f r

sort-attributes : (above over : List Content) (l : ℕ) (c d : Content) (f : Forest ℕ) → IsSort c d
    → attributes_of (found_in above l c f) ≡ attributes_of (found_in over l d f)
sort-attributes above over l c _ f same_sort = refl
sort-attributes above over l c d f (other_words r) = rewritten-attributes above over l c d f r

sort-scope : (c d : Content) → IsSort c d → (scope : Scope) → within c scope ≡ within d scope
sort-scope c _ same_sort scope = refl
sort-scope c d (other_words r) scope = rewritten-scope c d r scope

pub tree-paired : (s t : List ℕ) (above over : List Content) → scope_of root_scope above ≡ scope_of root_scope over → (l : ℕ) (c d : Content)
    → IsSort c d → (f : Forest ℕ) → Pairs l s t (tree_entries above s l c f) (tree_entries over t l d f)
tree-paired s t above over e l c d sort f =
    let was : s ≡ s ++ [] = sym (append-nil s) in
    let is : t ≡ t ++ [] = sym (append-nil t) in
    pairs-append (own-paired l s t s t [] was is (found_in above l c f) (found_in over l d f) (like-sort above over e l c d f sort)
    (sort-attributes above over l c d f sort) (λ _. refl) (λ h. absurd (cc)) (λ h. absurd (cc)))
    (below-paired l s t s t [] was is (c ∷ above) (d ∷ over) (ap (within c) e ∙ sort-scope c d sort (scope_of root_scope over)) 1 f)
