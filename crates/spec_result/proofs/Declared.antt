-- The names of a tree are those of what stands.
use Rattle.std.proofs.Common.{◌≡◌, ◌∙◌, refl, sym, ap, ℕ, Bool, true, false, List, [], ◌∷◌, ◌++◌, map, Option, None, Some, bytes_eq, append_assoc, codes, subst}
use Rattle.std.specs.Prelude.{◌||◌, not, if◌then◌else◌, unwrap_or}
use Rattle.std.specs.Option.{option_map, option_and_then}
use Rattle.spec_document.specs.Character.{is_name_start, is_name_part}
use Rattle.spec_document.specs.declared.usage.AttributeUse.TheVariants.{Declares, Names, NoName}
use Rattle.spec_document.specs.Name.{is_ncname}
use Rattle.spec_document.specs.Scope.{Scope, bound, resolved, xml_uri}
use Rattle.spec_document.specs.Declaration.{PlainUse, is_there, use_of, declared, declared_all, element_name, attribute_name}
use Rattle.spec_document.specs.Forest.{Written}
use Rattle.spec_result.specs.Recovery.{Given, Standing, Nothing, AnElement, AText, AComment, AnInstruction}
use Rattle.spec_result.specs.Shape.{Opening, begun, settle, needing, with_nodes, with_attributes, uri_in, prefix_for, with_prefix, all_of, tree_of}
use Rattle.spec_result.specs.Named.{Meaning, meaning_of, meaning_before, meanings_in, element_meaning, IsNamed, IsPrefix, IsGood}
use Rattle.spec_result.proofs.Readable.{HasReadable}
use Rattle.spec_result.proofs.Qualified.{qname_plain, qname_prefixed}
use Rattle.spec_result.proofs.Kept.{kept_then, itself, needed}
use Rattle.spec_result.proofs.Holding.{Means, bare, prefixed, AllMean, AllDeclare, begun_holds, needing_holds, settle_holds, nodes_hold, nodes_keep}
use Rattle.spec_result.proofs.Taking.{attributes_go}

-- ---- What is written, read again

declared_append : (xs ys : List Written) (s : Scope) → declared_all (xs ++ ys) s ≡ declared_all ys (declared_all xs s)
declared_append [] ys s = refl
declared_append (x ∷ xs) ys s = declared_append xs ys (declared x s)

abbrev declared_by : PlainUse → List ℕ → Scope → Scope
declared_by what value scope = elim what [ Declares prefix ↦ bound scope prefix value | Names name ↦ scope | NoName ↦ scope ]

nothing_declared : {o : Opening} {w : Written} {a : Given} (s : Scope) → Means o w a → declared w s ≡ s
nothing_declared {w = w} s (bare names none value) = ap (λ x. declared_by x w.value s) names
nothing_declared {w = w} s (prefixed p names settled uri there value) = ap (λ x. declared_by x w.value s) names

none_declared : (o : Opening) (ws : List Written) (all : List Given) (s : Scope) → AllMean o ws all → declared_all ws s ≡ s
none_declared o [] [] s h = refl
none_declared o (w ∷ ws) (a ∷ all) s h = ap (declared_all ws) (nothing_declared s h.0) ∙ none_declared o ws all s h.1
none_declared o [] (a ∷ all) s h = absurd h
none_declared o (w ∷ ws) [] s h = absurd h

abbrev meaning_step : PlainUse → List ℕ → Scope → Option (List Meaning) → Option (List Meaning)
meaning_step what value scope others =
    elim what [ Declares prefix ↦ others | Names name ↦ meaning_before value (attribute_name scope name) others | NoName ↦ None ]

skipped : (ds ws : List Written) (s : Scope) → AllDeclare ds → meanings_in s (ds ++ ws) ≡ meanings_in s ws
skipped [] ws s h = refl
skipped (d ∷ ds) ws s h = ap (λ x. meaning_step x d.value s (meanings_in s (ds ++ ws))) h.0.1 ∙ skipped ds ws s h.1

resolved_there : (o : Option (List ℕ)) (u : List ℕ) → unwrap_or o [] ≡ u → is_there u ≡ true → o ≡ Some u
resolved_there None u e t = let wrong : false ≡ true = ap is_there e ∙ t in absurd (cc)
resolved_there (Some x) u e t = ap Some e

abbrev means_as : List ℕ → List ℕ → List ℕ → Option (List Meaning) → Option (List Meaning)
means_as uri local value others = option_map (λ ms. record { uri = uri; local = local; value = value } ∷ ms) others

one_means : (o : Opening) (w : Written) (a : Given) (others : Option (List Meaning)) → Means o w a
    → meaning_step (use_of w.name) w.value o.scope others ≡ means_as a.uri a.local a.value others
one_means o w a others (bare names none value) =
    ap (λ x. meaning_step x w.value o.scope others) names ∙ ap (λ v. means_as [] a.local v others) value
    ∙ ap (λ u. means_as u a.local a.value others) (sym none)
one_means o w a others (prefixed p names settled uri there value) =
    ap (λ x. meaning_step x w.value o.scope others) names
    ∙ ap (λ r. meaning_before w.value (option_map (λ u. record { uri = u; local = a.local }) r) others) (resolved_there (resolved o.scope p) a.uri uri there)
    ∙ ap (λ v. means_as a.uri a.local v others) value

all_mean : (o : Opening) (ws : List Written) (all : List Given) → AllMean o ws all → meanings_in o.scope ws ≡ Some (map meaning_of all)
all_mean o [] [] h = refl
all_mean o (w ∷ ws) (a ∷ all) h =
    one_means o w a (meanings_in o.scope ws) h.0 ∙ ap (means_as a.uri a.local a.value) (all_mean o ws all h.1)
all_mean o [] (a ∷ all) h = absurd h
all_mean o (w ∷ ws) [] h = absurd h

-- ---- The element's own name

picked : {X : Type 0} (P : X → Type 0) (b : Bool) (x y : X) → (b ≡ true → P x) → (b ≡ false → P y) → P (if b then x else y)
picked P true x y f g = f refl
picked P false x y f g = g refl

xml_name : is_ncname (codes "xml") ≡ true
unfolding is_name_start is_name_part
xml_name = refl

own_prefix : (prefix uri : List ℕ) → IsPrefix prefix → IsPrefix (prefix_for prefix uri)
own_prefix prefix uri good =
    picked IsPrefix (not (is_there uri)) [] (if bytes_eq uri xml_uri then codes "xml" else prefix) (λ e. tt)
    (λ e. picked IsPrefix (bytes_eq uri xml_uri) (codes "xml") prefix (λ f. xml_name) (λ f. good))

own_there : (prefix uri : List ℕ) → is_there (prefix_for prefix uri) ≡ true → is_there uri ≡ true
own_there prefix [] t = absurd (cc)
own_there prefix (c ∷ cs) t = refl

element_means : (own local uri : List ℕ) (s : Scope) → IsPrefix own → is_ncname local ≡ true → uri_in s own ≡ uri → (is_there own ≡ true → is_there uri ≡ true)
    → element_meaning s (with_prefix own local) ≡ Some (record { uri = uri; local = local })
element_means [] local uri s good name e there =
    ap (option_and_then (element_name s)) (qname_plain local name) ∙ ap (λ u. Some (record { uri = u; local = local })) e
element_means (c ∷ cs) local uri s good name e there =
    ap (element_meaning s) (append_assoc (c ∷ cs) (0x3A ∷ []) local)
    ∙ ap (option_and_then (element_name s)) (qname_prefixed (c ∷ cs) local good name)
    ∙ ap (option_map (λ u. record { uri = u; local = local })) (resolved_there (resolved s (c ∷ cs)) uri e (there refl))

or_left : (a b : Bool) → a ≡ true → (a || b) ≡ true
or_left true b e = refl
or_left false b e = absurd (cc)

-- ---- The tree

pub named : (s : Standing) (scope : Scope) → HasReadable s → IsGood scope s → IsNamed scope s (tree_of scope s)
named Nothing scope readable good = tt
named (AnElement prefix local uri namespaces attributes children siblings) scope readable good =
    let own = prefix_for prefix uri in
    let there = own_there prefix uri in
    let fit = own_prefix prefix uri good.0 in
    let bound_here = needing own uri (begun scope) in
    let own_settled = settle own bound_here in
    let with_copies = with_nodes namespaces own_settled in
    let o = with_attributes attributes with_copies in
    let is : uri_in bound_here.scope own ≡ uri = needed own uri (begun scope) in
    let first = needing_holds scope own uri (begun scope) [] fit there (λ e. refl) (begun_holds scope) in
    let second = settle_holds scope own bound_here [] (λ t. ap is_there is ∙ there t) first in
    let third = nodes_hold scope namespaces own_settled [] good.2 second in
    let last = attributes_go scope attributes with_copies [] readable.0 good.3 third in
    let kept = kept_then (nodes_keep namespaces own_settled) last.keeps in
    let own_uri : uri_in o.scope own ≡ uri = kept.uri own (or_left (bytes_eq own own) (bound_here.settled own) (itself own)) ∙ is in
    let inside : declared_all (all_of o) scope ≡ o.scope =
    declared_append o.declarations o.attributes scope ∙ none_declared o o.attributes attributes (declared_all o.declarations scope) last.holds.means
    ∙ last.holds.reads in (
      ap (λ s. element_meaning s (with_prefix own local)) inside ∙ element_means own local uri o.scope fit good.1 own_uri there,
      ap (λ s. meanings_in s (all_of o)) inside ∙ skipped o.declarations o.attributes o.scope last.holds.declares
          ∙ all_mean o o.attributes attributes last.holds.means,
      subst (λ s. IsNamed s children (tree_of o.scope children)) (sym inside) (named children o.scope readable.1 good.4),
      named siblings scope readable.2 good.5,
    )
named (AText text siblings) scope readable good = named siblings scope readable good
named (AComment text siblings) scope readable good = named siblings scope readable good
named (AnInstruction target text siblings) scope readable good = named siblings scope readable good
