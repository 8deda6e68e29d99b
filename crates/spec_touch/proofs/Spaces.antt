-- In documents without faults an edit of attributes that makes no node anew leaves what xml:space says.
use Rattle.std.proofs.Common.{◌≡◌, arith, ℕ, suc, ◌+◌, ◌-◌, ◌==◌, Bool, true, false, cond, not, List, [], ◌∷◌, ◌++◌}
use Rattle.std.proofs.Common.{take, drop, Option, None, Some}
use Rattle.std.proofs.Common.{refl, sym, ap, ◌∙◌, subst, map}
use Rattle.std.specs.Prelude.{◌&&◌, ◌||◌, bytes_eq, codes, nat_lt, slice_index}
use Rattle.std.specs.List.{list_any, before_first, after_first, position_or_len}
use Rattle.std.specs.Ordering.{eq_by_cmp, nat_cmp, is_eq}
use Rattle.std.specs.declared.cmp.Ordering.{Ordering}
use Rattle.std.specs.declared.cmp.Ordering.TheVariants.{Less, Equal, Greater}
use Rattle.std.specs.Cmp.Lexicographic.{slice_cmp, nat_list_cmp_total}
use Rattle.std.specs.FinMap.{empty, get, get-insert, get-empty, nat_cmp-IsAntisymmetric, slice_cmp-IsAntisymmetric}
use Rattle.std.specs.Option.{option_map, option_and_then}
use Rattle.std.proofs.lemmas.Bool.{eqb-true}
use Rattle.std.proofs.lemmas.Slice.Eq.{bytes_eq-Decides}
use Rattle.spec_document.specs.declared.usage.AttributeUse.TheVariants.{Declares, Names, NoName}
use Rattle.spec_document.specs.Character.{is_name_start, is_name_part}
use Rattle.spec_document.specs.Name.{QName, qname_of, is_ncname, is_colon, same_expanded}
use Rattle.spec_document.specs.Scope.{Scope, root_scope, bound, resolved, xml_uri, xmlns_uri}
use Rattle.spec_document.specs.Forest.{Written, Content, Element, Text, Comment, Instruction, Forest, Empty, Node}
use Rattle.spec_document.specs.Place.{Found, found_in, child_at, node_from, scope_at}
use Rattle.spec_document.specs.Balance.{LineNumbers, alone}
use Rattle.spec_document.specs.Fault.{fault_if}
use Rattle.spec_document.specs.NodeFaults.{is_wrong_use, is_wrong_element, is_same_attribute, attribute_faults}
use Rattle.spec_document.specs.NodeFaults.{greatest_depth, content_faults, node_faults}
use Rattle.spec_document.specs.Declaration.{PlainUse, use_of, is_declaration, is_barred, is_xml, is_there, is_xmlns}
use Rattle.spec_document.specs.Declaration.{attribute_name, declared, declared_all, within, scope_of}
use Rattle.spec_document.proofs.First.{after_first-none}
use Rattle.spec_structure.specs.Inside.{expanded_of, value_of, space_name}
use Rattle.spec_edit.specs.Edit.{makes_anew, is_named, set_in, without_attribute, without_lines}
use Rattle.spec_edit.proofs.Around.{some_same}
use Rattle.spec_edit.proofs.Shapes.{AreSet, is_set, is_removed, append_none}

-- ---- No prefix but `xml` stands for its namespace

abbrev pub OnlyXml : Scope → Type 0
OnlyXml scope = (p : List ℕ) → resolved scope p ≡ Some xml_uri → is_xml p ≡ true

same-bytes : (a b : List ℕ) → bytes_eq a b ≡ true → a ≡ b
same-bytes a b e = (bytes_eq-Decides a b).0 e

bytes-self : (a : List ℕ) → bytes_eq a a ≡ true
bytes-self a = (bytes_eq-Decides a a).1 refl

some-is : (a b : List ℕ) → Some a ≡ Some b → a ≡ b
some-is a b e = ap (λ o. elim o [ Some z ↦ z | None ↦ a ]) e

tied : (q k : List ℕ) → eq_by_cmp (slice_cmp nat_cmp) q k ≡ true → q ≡ k
tied q k e = slice_cmp-IsAntisymmetric nat_cmp-IsAntisymmetric q k (by (slice_cmp nat_cmp q k) e)
  where
    by : (o : Ordering) → is_eq o ≡ true → o ≡ Equal
    by Less e = absurd (cc)
    by Equal e = refl
    by Greater e = absurd (cc)

bound-by : (scope : Scope) (prefix uri : List ℕ) → OnlyXml scope → (uri ≡ xml_uri → is_xml prefix ≡ true) → OnlyXml (bound scope prefix uri)
bound-by scope prefix uri only h p e =
    by (eq_by_cmp (slice_cmp nat_cmp) p prefix) refl (sym (get-insert nat_list_cmp_total scope prefix uri p) ∙ e)
  where
    by : (b : Bool) → eq_by_cmp (slice_cmp nat_cmp) p prefix ≡ b → cond b (Some uri) (get scope p) ≡ Some xml_uri → is_xml p ≡ true
    by true t g = ap is_xml (tied p prefix t) ∙ h (some-is uri xml_uri g)
    by false t g = only p g

pub root-only : OnlyXml root_scope
root-only =
    bound-by empty (codes "xml") xml_uri (λ p e. absurd (let n : None ≡ Some xml_uri = sym (get-empty (slice_cmp nat_cmp) p) ∙ e in cc))
    (λ _. refl)

-- ---- The attribute

joined : (xs : List ℕ) → list_any is_colon xs ≡ true → xs ≡ before_first is_colon xs ++ 0x3A ∷ after_first is_colon xs
joined [] h = absurd (cc)
joined (c ∷ cs) h = by (is_colon c) refl h (joined cs)
  where
    n : ℕ
    n = position_or_len is_colon cs

    by : (b : Bool) → is_colon c ≡ b → (is_colon c || list_any is_colon cs) ≡ true
        → (list_any is_colon cs ≡ true → cs ≡ before_first is_colon cs ++ 0x3A ∷ after_first is_colon cs)
        → c ∷ cs ≡ take (cond (not b) (1 + n) 0) (c ∷ cs) ++ 0x3A ∷ drop (cond (not b) (1 + n) 0 + 1) (c ∷ cs)
    by true e h more = ap (λ k. k ∷ cs) (eqb-true c 0x3A e)
    by false e h more =
        let one : 1 + n ≡ suc n = omega arith in
        let two : 1 + n + 1 ≡ suc (n + 1) = omega arith in
        ap (λ ks. c ∷ ks) (more ((λ i. sym e i || list_any is_colon cs) ∙ h))
        ∙ (λ i. take (sym one i) (c ∷ cs) ++ 0x3A ∷ drop (sym two i) (c ∷ cs))

space-named : (text : List ℕ) → before_first is_colon text ≡ codes "xml" → after_first is_colon text ≡ codes "space"
    → text ≡ codes "xml:space"
space-named text e f = by (list_any is_colon text) refl
  where
    by : (b : Bool) → list_any is_colon text ≡ b → text ≡ codes "xml:space"
    by true h = joined text h ∙ (λ i. e i ++ 0x3A ∷ f i)
    by false h = absurd (let g : [] ≡ codes "space" = sym (after_first-none is_colon text h) ∙ f in cc)

space-anew : makes_anew (codes "xml:space") ≡ true
unfolding is_name_start is_name_part
space-anew = refl

prefix-is : (text : List ℕ) (q : QName) (p : List ℕ) → qname_of text ≡ Some q → q.prefix ≡ Some p
    → (before_first is_colon text ≡ p) × (after_first is_colon text ≡ q.local)
prefix-is text q p e f = by (is_ncname text) (is_ncname (before_first is_colon text) && is_ncname (after_first is_colon text)) e
  where
    before : List ℕ
    before = before_first is_colon text

    after : List ℕ
    after = after_first is_colon text

    prefix_in : Option QName → Option (List ℕ)
    prefix_in o = elim o [ None ↦ None | Some r ↦ r.prefix ]

    local_in : Option QName → List ℕ
    local_in o = elim o [ None ↦ [] | Some r ↦ r.local ]

    by : (b c : Bool) → cond b (Some (record { prefix = None; local = text }))
        (cond c (Some (record { prefix = Some before; local = after })) None) ≡ Some q
        → (before ≡ p) × (after ≡ q.local)
    by true c h = absurd (let n : None ≡ Some p = ap prefix_in h ∙ f in cc)
    by false true h = (some-is before p (ap prefix_in h ∙ f), ap local_in h)
    by false false h = absurd (cc)

-- an attribute of another written name is not xml:space
pub other-attribute : (scope : Scope) → OnlyXml scope → (name : List ℕ) → makes_anew name ≡ false
    → same_expanded (option_and_then (attribute_name scope) (qname_of name)) (Some space_name) ≡ false
other-attribute scope only name apart = by (qname_of name) refl
  where
    uri-by : (q : QName) (p : List ℕ) → qname_of name ≡ Some q → q.prefix ≡ Some p → (o : Option (List ℕ)) → resolved scope p ≡ o
        → same_expanded (option_map (λ uri. record { uri = uri; local = q.local }) o) (Some space_name) ≡ false
    uri-by q p e f None g = refl
    uri-by q p e f (Some uri) g = both (bytes_eq uri xml_uri) (bytes_eq q.local (codes "space")) refl refl
      where
        both : (b c : Bool) → bytes_eq uri xml_uri ≡ b → bytes_eq q.local (codes "space") ≡ c
            → (bytes_eq uri xml_uri && bytes_eq q.local (codes "space")) ≡ false
        both false c h k = λ i. h i && bytes_eq q.local (codes "space")
        both true false h k = λ i. h i && k i
        both true true h k =
            absurd (
            let parts = prefix-is name q p e f in
            let xml : p ≡ codes "xml" = same-bytes p (codes "xml") (only p (g ∙ ap Some (same-bytes uri xml_uri h))) in
            let is : name ≡ codes "xml:space" = space-named name (parts.0 ∙ xml) (parts.1 ∙ same-bytes q.local (codes "space") k) in
            let t : true ≡ false = sym space-anew ∙ ap makes_anew (sym is) ∙ apart in
            cc
            )

    prefix-by : (q : QName) → qname_of name ≡ Some q → (o : Option (List ℕ)) → q.prefix ≡ o
        → same_expanded (elim o [
          | None ↦ Some (record { uri = []; local = q.local })
          | Some prefix ↦ option_map (λ uri. record { uri = uri; local = q.local }) (resolved scope prefix)
        ]) (Some space_name) ≡ false
    prefix-by q e None f = refl
    prefix-by q e (Some p) f = uri-by q p e f (resolved scope p) refl

    by : (o : Option QName) → qname_of name ≡ o → same_expanded (option_and_then (attribute_name scope) o) (Some space_name) ≡ false
    by None e = refl
    by (Some q) e = prefix-by q e q.prefix refl

-- ---- What xml:space says by attributes of which one is set or removed

module _ (scope : Scope) (only : OnlyXml scope) (name : List ℕ) (apart : makes_anew name ≡ false) where
  no-space : (a : Written) → a.name ≡ name → same_expanded (expanded_of scope a) (Some space_name) ≡ false
  no-space a e = by (is_declaration a)
    where
      by : (b : Bool) → same_expanded (cond b None (option_and_then (attribute_name scope) (qname_of a.name))) (Some space_name) ≡ false
      by true = refl
      by false =
          ap (λ n. same_expanded (option_and_then (attribute_name scope) (qname_of n)) (Some space_name)) e ∙ other-attribute scope only name apart

  skipped : (a : Written) (more : List Written) → a.name ≡ name → value_of scope space_name (a ∷ more) ≡ value_of scope space_name more
  skipped a more e = λ i. cond (no-space a e i) (Some a.value) (value_of scope space_name more)

  in-front : (a : Written) (more less : List Written) → value_of scope space_name more ≡ value_of scope space_name less
      → value_of scope space_name (a ∷ more) ≡ value_of scope space_name (a ∷ less)
  in-front a more less h = λ i. cond (same_expanded (expanded_of scope a) (Some space_name)) (Some a.value) (h i)

  set-says : (value : List ℕ) (old : List Written) → value_of scope space_name (map (set_in name value) old) ≡ value_of scope space_name old
  set-says value [] = refl
  set-says value (a ∷ old) = by (is_named name a) refl (set-says value old)
    where
      new : List Written
      new = map (set_in name value) old

      by : (b : Bool) → is_named name a ≡ b → value_of scope space_name new ≡ value_of scope space_name old
          → value_of scope space_name (cond b (record { name = name; value = value }) a ∷ new) ≡ value_of scope space_name (a ∷ old)
      by true e h = skipped (record { name = name; value = value }) new refl ∙ h ∙ sym (skipped a old (same-bytes a.name name e))
      by false e h = in-front a new old h

  added-says : (value : List ℕ) (old : List Written)
      → value_of scope space_name (old ++ record { name = name; value = value } ∷ []) ≡ value_of scope space_name old
  added-says value [] = skipped (record { name = name; value = value }) [] refl
  added-says value (a ∷ old) = in-front a (old ++ record { name = name; value = value } ∷ []) old (added-says value old)

  without-says : (old : List Written) → value_of scope space_name (without_attribute name old) ≡ value_of scope space_name old
  without-says [] = refl
  without-says (a ∷ old) = by (is_named name a) refl (without-says old)
    where
      rest : List Written
      rest = without_attribute name old

      by : (b : Bool) → is_named name a ≡ b → value_of scope space_name rest ≡ value_of scope space_name old
          → value_of scope space_name (cond (not b) (a ∷ rest) rest) ≡ value_of scope space_name (a ∷ old)
      by true e h = h ∙ sym (skipped a old (same-bytes a.name name e))
      by false e h = in-front a rest old h

  pub says-same : (old more : List Written) → AreSet name old more → value_of scope space_name more ≡ value_of scope space_name old
  says-same old _ (is_set value) = by (list_any (is_named name) old)
    where
      by : (b : Bool) → value_of scope space_name (cond b (map (set_in name value) old) (old ++ record { name = name; value = value } ∷ []))
          ≡ value_of scope space_name old
      by true = set-says value old
      by false = added-says value old
  says-same old _ (is_removed there) = without-says old

-- ---- Scopes of documents without faults

neither-first : (a b : Bool) → (a || b) ≡ false → a ≡ false
neither-first true b e = absurd (cc)
neither-first false b e = refl

neither-second : (a b : Bool) → (a || b) ≡ false → b ≡ false
neither-second true b e = absurd (cc)
neither-second false b e = e

unbarred : (prefix uri : List ℕ) → is_barred prefix uri ≡ false → uri ≡ xml_uri → is_xml prefix ≡ true
unbarred prefix uri e h =
    by (is_xml prefix) (bytes_eq uri xml_uri) (ap (λ u. bytes_eq u xml_uri) h ∙ bytes-self xml_uri)
    (neither-second ((is_there prefix && not (is_there uri)) || (is_xml prefix && not (bytes_eq uri xml_uri))) _
    (neither-first _ (is_xmlns prefix) (neither-first _ (bytes_eq uri xmlns_uri) e)))
  where
    by : (b c : Bool) → c ≡ true → (not b && c) ≡ false → b ≡ true
    by true c t f = refl
    by false true t f = absurd (cc)
    by false false t f = absurd (cc)

declared-only : (inner : Scope) (a : Written) (scope : Scope) → is_wrong_use inner (use_of a.name) a.value ≡ false → OnlyXml scope
    → OnlyXml (declared a scope)
declared-only inner a scope e only = by (use_of a.name) e
  where
    by : (u : PlainUse) → is_wrong_use inner u a.value ≡ false → OnlyXml (elim u [
      | Declares prefix ↦ bound scope prefix a.value
      | Names name ↦ scope
      | NoName ↦
          scope
    ])
    by (Declares prefix) h = bound-by scope prefix a.value only (unbarred prefix a.value h)
    by (Names name) h = only
    by NoName h = only

unless-fault : (b : Bool) (n line : ℕ) → fault_if b n line ≡ [] → b ≡ false
unless-fault true n line e = absurd (cc)
unless-fault false n line e = refl

all-declared-only : (inner : Scope) (before : List Written) (lines : List ℕ) (attributes : List Written) (scope : Scope)
    → attribute_faults inner before lines attributes ≡ [] → OnlyXml scope → OnlyXml (declared_all attributes scope)
all-declared-only inner before lines [] scope e only = only
all-declared-only inner before lines (a ∷ more) scope e only =
    let line = slice_index lines 0 in
    let parts = append_none (fault_if (is_wrong_use inner (use_of a.name) a.value) 10 line
    ++ fault_if (list_any (λ b. is_same_attribute inner b a) before) 14 line) _ e in
    let first = append_none (fault_if (is_wrong_use inner (use_of a.name) a.value) 10 line) _ parts.0 in
    all-declared-only inner (before ++ a ∷ []) (drop 1 lines) more (declared a scope) parts.1
    (declared-only inner a scope (unless-fault (is_wrong_use inner (use_of a.name) a.value) 10 line first.0) only)

content-only : (c : Content) (scope : Scope) (depth : ℕ) (lines : LineNumbers)
    → content_faults (within c scope) depth lines c ≡ [] → OnlyXml scope
    → OnlyXml (within c scope)
content-only (Element n w) scope depth lines e only =
    let parts = append_none (fault_if (is_wrong_element (within (Element n w) scope) n) 10 lines.first
    ++ fault_if (nat_lt greatest_depth depth) 11 lines.first) _ e in
    all-declared-only (within (Element n w) scope) [] lines.attributes w scope parts.1 only
content-only (Text t) scope depth lines e only = only
content-only (Comment t) scope depth lines e only = only
content-only (Instruction n t) scope depth lines e only = only

pub found-only : (x : Found ℕ) (p : ℕ) (ps : List ℕ) (above : List Content) (depth : ℕ) (f : Forest ℕ) → OnlyXml (scope_of root_scope above)
    → node_faults (scope_of root_scope above) depth (without_lines f) ≡ [] → option_and_then (node_from ps) (child_at above f p) ≡ Some x
    → OnlyXml (scope_at x)
found-only x p ps above depth Empty only faults e = absurd (cc)
found-only x p [] above depth (Node l c f s) only faults e =
    let scope = scope_of root_scope above in
    let inner = within c scope in
    let parts = append_none (content_faults inner depth (alone 0) c ++ node_faults inner (depth + 1) (without_lines f)) _ faults in
    let own = append_none (content_faults (within c scope) depth (alone 0) c) _ parts.0 in
    elim (p == 1) as (λ b. option_and_then (node_from []) (cond b (Some (found_in above l c f)) (child_at above s (p - 1))) ≡ Some x
    → OnlyXml (scope_at x)) [
      | true ↦ λ h. subst (λ y. OnlyXml (scope_at y)) (some_same (found_in above l c f) x h) (content-only c scope depth (alone 0) own.0 only)
      | false ↦ λ h. found-only x (p - 1) [] above depth s only parts.1 h
    ] e
found-only x p (q ∷ qs) above depth (Node l c f s) only faults e =
    let scope = scope_of root_scope above in
    let inner = within c scope in
    let parts = append_none (content_faults inner depth (alone 0) c ++ node_faults inner (depth + 1) (without_lines f)) _ faults in
    let own = append_none (content_faults (within c scope) depth (alone 0) c) _ parts.0 in
    elim (p == 1) as (λ b. option_and_then (node_from (q ∷ qs)) (cond b (Some (found_in above l c f)) (child_at above s (p - 1))) ≡ Some x
    → OnlyXml (scope_at x)) [
      | true ↦ λ h. found-only x q qs (c ∷ above) (depth + 1) f (content-only c scope depth (alone 0) own.0 only) own.1 h
      | false ↦ λ h. found-only x (p - 1) (q ∷ qs) above depth s only parts.1 h
    ] e
