-- What a module says whose elements have names is such that it writes well: its templates, globals and attribute sets, and its aliases.
use Rattle.std.proofs.Common.{◌≡◌, ℕ, ◌+◌, Bool, true, false, List, [], ◌∷◌, ◌++◌, Option, None, Some, Result, Ok, Err, refl}
use Rattle.std.specs.Prelude.{unwrap_or, codes, bytes_eq, not, if◌then◌else◌}
use Rattle.std.specs.Option.{option_and_then}
use Rattle.spec_document.specs.Name.{Expanded, is_ncname}
use Rattle.spec_document.specs.Scope.{Scope, root_scope}
use Rattle.spec_document.specs.Declaration.{declared_all}
use Rattle.spec_document.specs.Forest as spec
use Rattle.spec_document.specs.Forest.{Written, Forest, Empty, Node}
use Rattle.spec_expression.specs.declared.code.StaticCode.{StaticCode}
use Rattle.spec_expression.specs.declared.code.StaticCode.TheVariants as code
use Rattle.spec_stylesheet.specs.Place.{Site}
use Rattle.spec_structure.specs.declared.element.XsltElement.{XsltElement}
use Rattle.spec_structure.specs.declared.element.XsltElement.TheVariants as xsl
use Rattle.spec_structure.specs.declared.value.ValueKind.{ValueKind}
use Rattle.spec_structure.specs.declared.value.ValueKind.TheVariants as kind
use Rattle.spec_structure.specs.declared.content.ContentKind.TheVariants as content
use Rattle.spec_structure.specs.Elements.{content_of, rows_of}
use Rattle.spec_structure.specs.Inside.{outside, inside_of, Role, OfXslt, OfExtension, OfOther, role_of, expanded_of}
use Rattle.spec_structure.specs.Structure.{Fault, kind_named}
use Rattle.spec_compile.specs.Reading.{Reading, Done, reading_on}
use Rattle.spec_compile.specs.Value.{Value, AText, AnExpr, Matches, AnAvt, AName, SomeNames, SomeTests, APriority, AMethod, Entry, is_declared}
use Rattle.spec_compile.specs.Value.{prefix_of, on_ok, unless_barred, entry_by, entry_of, entries_of, value_at, text_in, is_barred, attributes_of}
use Rattle.spec_compile.specs.Content.{Uses, Outline, uses_of, Around, site_of, Child, standing_at, around_of, children_among}
use Rattle.spec_compile.specs.Unit.{Declaration, ATemplate, AGlobal, ASet, AKey, ASpaceRule, AnOutput, AnAlias, TopLevel, alias_prefix, prefix_at}
use Rattle.spec_compile.specs.Unit.{declaration_of, top_level_by, top_levels_among, in_stylesheet, module_by, simplified_of, module_of, at_top}
use Rattle.spec_result.specs.Named.{IsPrefix}
use Rattle.spec_named.proofs.Documents.{HaveNames}
use Rattle.spec_named.proofs.Names.{picked, prefix_named}
use Rattle.spec_named.proofs.Plans.{AreWellInstrs, AreWellBindings}
use Rattle.spec_named.proofs.Scopes.{HasPrefixes, all_declared, root_prefixes}
use Rattle.spec_named.proofs.Copies.{All, all_append}
use Rattle.spec_named.proofs.Readings.{Ends, done, whatever, then_ends, OkIs, ok, err, ok_whatever, ok_wider, wider, on_ends, joined_ok, both_ends}
use Rattle.spec_named.proofs.Readings.{at_ends, at_whatever}
use Rattle.spec_named.proofs.Contents.{AreWellChildren, content_well, bindings_well, children_well}

-- ---- Prefixes of aliases

abbrev IsPrefixValue : Value → Type 0
IsPrefixValue (AText text) = IsPrefix (alias_prefix text)
IsPrefixValue (AnExpr e) = Unit {0}
IsPrefixValue (Matches p) = Unit {0}
IsPrefixValue (AnAvt a) = Unit {0}
IsPrefixValue (AName name) = Unit {0}
IsPrefixValue (SomeNames names) = Unit {0}
IsPrefixValue (SomeTests tests) = Unit {0}
IsPrefixValue (APriority n) = Unit {0}
IsPrefixValue (AMethod m) = Unit {0}

abbrev ArePrefixEntries : List Entry → Type 0
ArePrefixEntries v = All (λ (e : Entry). IsPrefixValue e.value) v

word_fits : (word : List ℕ) → (bytes_eq word (codes "#default") ≡ false → is_ncname word ≡ true) → IsPrefix (alias_prefix word)
word_fits word h = picked IsPrefix (bytes_eq word (codes "#default")) [] word (λ _. tt) (λ e. prefix_named word (h e))

not_false : (b : Bool) → not b ≡ false → b ≡ true
not_false true e = refl
not_false false e = absurd (cc)

not_both : (b : Bool) → b ≡ true → b ≡ false → ⊥
not_both true e f = cc
not_both false e f = cc

prefix_read : (scope : Scope) (word : List ℕ) → OkIs IsPrefixValue (on_ok AText (prefix_of scope word))
prefix_read scope word =
    let P : Result (List ℕ) StaticCode → Type 0 = λ r. OkIs IsPrefixValue (on_ok AText r) in
    let declared = if is_declared scope word then Ok word else Err code.NoPrefix in
    picked P (bytes_eq word (codes "#default")) (Ok word) (if not (is_ncname word) then Err code.BadName else declared)
    (λ e. ok (word_fits word (λ f. absurd (not_both (bytes_eq word (codes "#default")) e f))))
    (λ _. picked P (not (is_ncname word)) (Err code.BadName) declared (λ _. err)
    (λ e. picked P (is_declared scope word) (Ok word) (Err code.NoPrefix) (λ _. ok (word_fits word (λ _. not_false (is_ncname word) e))) (λ _. err)))

barred_too : (barred : Value → Bool) {r : Result Value StaticCode} → OkIs IsPrefixValue r → OkIs IsPrefixValue (unless_barred barred r)
barred_too barred (ok {a = v} h) =
    picked (OkIs IsPrefixValue) (barred v) (Err code.BarredReference) (Ok v) (λ _. err) (λ _. ok h)
barred_too barred err = err

prefix_entry : (barred : Value → Bool) (local : List ℕ) (scope : Scope) (text : List ℕ)
    → Ends (OkIs ArePrefixEntries) (entry_by barred local scope text (Some kind.Prefix))
prefix_entry barred local scope text =
    then_ends (done (prefix_read scope text)) (λ r h. done (joined_ok {Q = ArePrefixEntries} _ (λ v rest e es. (e, es)) (barred_too barred h)
    (ok tt)))

-- each row of the element takes a prefix
rows_take : (barred : Value → Bool) (local : List ℕ) (scope : Scope) (text : List ℕ)
    → Ends (OkIs ArePrefixEntries) (entry_by barred local scope text (kind_named local (rows_of xsl.NamespaceAlias)))
unfolding rows_of
rows_take barred local scope text =
    let P : Option ValueKind → Type 0 = λ o. Ends (OkIs ArePrefixEntries) (entry_by barred local scope text o) in
    let second = if bytes_eq (codes "result-prefix") local then Some kind.Prefix else None in
    picked P (bytes_eq (codes "stylesheet-prefix") local) (Some kind.Prefix) second (λ _. prefix_entry barred local scope text)
    (λ _. picked P (bytes_eq (codes "result-prefix") local) (Some kind.Prefix) None (λ _. prefix_entry barred local scope text) (λ _. done (ok tt)))

entry_well : (barred : Value → Bool) (scope : Scope) (text : List ℕ) (o : Option Expanded)
    → Ends (OkIs ArePrefixEntries) (entry_of barred scope [] (rows_of xsl.NamespaceAlias) text o)
entry_well barred scope text None = done (ok tt)
entry_well barred scope text (Some name) =
    picked (Ends (OkIs ArePrefixEntries)) (bytes_eq name.uri []) (entry_by barred name.local scope text (kind_named name.local
    (rows_of xsl.NamespaceAlias))) (Done (Ok []))
    (λ _. rows_take barred name.local scope text) (λ _. done (ok tt))

entries_well : (barred : Value → Bool) (scope : Scope) (attributes : List Written)
    → Ends (OkIs ArePrefixEntries) (entries_of barred scope [] (rows_of xsl.NamespaceAlias) attributes)
entries_well barred scope [] = done (ok tt)
entries_well barred scope (a ∷ more) =
    both_ends {P = ArePrefixEntries} {Q = ArePrefixEntries} _ (λ one rest h g. all_append (λ (e : Entry). IsPrefixValue e.value) one rest h g)
    (entry_well barred scope a.value (expanded_of scope a)) (entries_well barred scope more)

-- what is read at an element that declares an alias
abbrev Fits : XsltElement → List Entry → Type 0
Fits xsl.NamespaceAlias v = IsPrefix (prefix_at (codes "result-prefix") v)
Fits _ v = Unit {0}

abbrev IsPrefixFound : Option Value → Type 0
IsPrefixFound None = Unit {0}
IsPrefixFound (Some v) = IsPrefixValue v

value_found : (name : List ℕ) (v : List Entry) → ArePrefixEntries v → IsPrefixFound (value_at name v)
value_found name [] h = tt
value_found name (e ∷ es) h =
    picked IsPrefixFound (bytes_eq e.name name) (Some e.value) (value_at name es) (λ _. h.0) (λ _. value_found name es h.1)

text_fits : (o : Option Value) → IsPrefixFound o → IsPrefix (alias_prefix (unwrap_or (option_and_then text_in o) []))
text_fits None h = tt
text_fits (Some (AText text)) h = h
text_fits (Some (AnExpr e)) h = tt
text_fits (Some (Matches p)) h = tt
text_fits (Some (AnAvt a)) h = tt
text_fits (Some (AName name)) h = tt
text_fits (Some (SomeNames names)) h = tt
text_fits (Some (SomeTests tests)) h = tt
text_fits (Some (APriority n)) h = tt
text_fits (Some (AMethod m)) h = tt

attributes_fit : (scope : Scope) (x : XsltElement) (attributes : List Written) → Ends (OkIs (Fits x)) (attributes_of scope x attributes)
attributes_fit scope xsl.NamespaceAlias attributes =
    wider (λ r h. ok_wider (λ v f. text_fits (value_at (codes "result-prefix") v) (value_found (codes "result-prefix") v f)) r h)
    (entries_well (is_barred xsl.NamespaceAlias) scope attributes)
attributes_fit scope x attributes = whatever (λ r. ok_whatever (λ v. tt) r) (attributes_of scope x attributes)

-- ---- Elements at the top

abbrev pub IsWellDeclaration : Declaration → Type 0
IsWellDeclaration (ATemplate t pattern priority mode) = AreWellBindings t.parameters × AreWellInstrs t.content
IsWellDeclaration (AGlobal g) = AreWellInstrs g.binding.content
IsWellDeclaration (ASet s) = AreWellInstrs s.attributes
IsWellDeclaration (AKey k) = Unit {0}
IsWellDeclaration (ASpaceRule strips tests) = Unit {0}
IsWellDeclaration (AnOutput method) = Unit {0}
IsWellDeclaration (AnAlias a) = IsPrefix a.prefix

abbrev pub IsWellTop : TopLevel → Type 0
IsWellTop t = IsWellDeclaration t.declaration

abbrev IsWellSome : Option Declaration → Type 0
IsWellSome None = Unit {0}
IsWellSome (Some d) = IsWellDeclaration d

declaration_well : (x : XsltElement) (site : Site) (v : List Entry) (cs : List Child) → Fits x v → AreWellChildren cs
    → IsWellSome (declaration_of x site v cs)
declaration_well xsl.Template site v cs f h = (bindings_well cs h, content_well cs h)
declaration_well xsl.Param site v cs f h = content_well cs h
declaration_well xsl.Variable site v cs f h = content_well cs h
declaration_well xsl.AttributeSet site v cs f h = content_well cs h
declaration_well xsl.NamespaceAlias site v cs f h = f
declaration_well _ site v cs f h = tt

top_well : (site : Site) (uses : Uses) (outline : Outline) (o : Option Declaration) → IsWellSome o → All IsWellTop (top_level_by site uses outline o)
top_well site uses outline None h = tt
top_well site uses outline (Some d) h = (h, tt)

-- an element by what it is, where this is in force inside it and it stands here
abbrev read_as : {L : Type 0} → Around → Around → (path here : List ℕ) → ℕ → List Written → (children siblings : Forest L) → Role
    → Reading (Result (List TopLevel) Fault)
read_as around inner path here position attributes children siblings role = elim role [
  | OfXslt None ↦ top_levels_among around path (position + 1) siblings
  | OfXslt (Some x) ↦
      reading_on (standing_at here (attributes_of inner.inside.scope x attributes))
      (λ v. reading_on (children_among inner (content_of x) here 1 children)
      (λ below. reading_on (top_levels_among around path (position + 1) siblings)
      (λ rest. Done (Ok (top_level_by (site_of inner here) (uses_of x v) below.outline (declaration_of x
      (site_of inner here) v below.children) ++ rest)))))
  | OfExtension ↦ top_levels_among around path (position + 1) siblings
  | OfOther uri ↦ top_levels_among around path (position + 1) siblings
]

read_well : {L : Type 0} (around inner : Around) (path here : List ℕ) (position : ℕ) (attributes : List Written) (children siblings : Forest L)
    → HasPrefixes inner.inside.scope → HaveNames inner.inside.scope children
    → Ends (OkIs (All IsWellTop)) (top_levels_among around path (position + 1) siblings)
    → (role : Role) → Ends (OkIs (All IsWellTop)) (read_as around inner path here position attributes children siblings role)
read_well around inner path here position attributes children siblings h g next (OfXslt None) = next
read_well around inner path here position attributes children siblings h g next (OfXslt (Some x)) =
    on_ends (at_ends here (attributes_fit inner.inside.scope x attributes)) (λ v f. on_ends (children_well inner
    (content_of x) here 1 children h g) (λ below b.
    on_ends next (λ rest r. done (ok (all_append IsWellTop
    (top_level_by (site_of inner here) (uses_of x v) below.outline (declaration_of x (site_of inner here) v below.children)) rest
    (top_well (site_of inner here) (uses_of x v) below.outline (declaration_of x (site_of inner here) v below.children)
    (declaration_well x (site_of inner here) v below.children f b)) r)))))
read_well around inner path here position attributes children siblings h g next OfExtension = next
read_well around inner path here position attributes children siblings h g next (OfOther uri) = next

tops_well : {L : Type 0} (around : Around) (path : List ℕ) (position : ℕ) (f : Forest L) → HasPrefixes around.inside.scope
    → HaveNames around.inside.scope f
    → Ends (OkIs (All IsWellTop)) (top_levels_among around path position f)
tops_well around path position Empty h g = done (ok tt)
tops_well around path position (Node label (spec.Text text) children siblings) h g = tops_well around path (position + 1) siblings h g.2
tops_well around path position (Node label (spec.Comment text) children siblings) h g = tops_well around path (position + 1) siblings h g.2
tops_well around path position (Node label (spec.Instruction target text) children siblings) h g = tops_well around path (position + 1) siblings h g.2
tops_well around path position (Node label (spec.Element name attributes) children siblings) h g =
    read_well around (around_of around name attributes) path (path ++ position ∷ []) position attributes children siblings
    (all_declared attributes around.inside.scope h) g.1 (tops_well around path (position + 1) siblings h g.2)
    (role_of (around_of around name attributes).inside name)

-- ---- A module

by_well : {L : Type 0} (name path element : List ℕ) (attributes : List Written) (children : Forest L)
    → HaveNames (declared_all attributes root_scope) children
    → (x : Option XsltElement) → Ends (OkIs (All IsWellTop)) (module_by name path element attributes children (OfXslt x))
by_well name path element attributes children h None = done (ok tt)
by_well name path element attributes children h (Some x) =
    let inner = in_stylesheet name (inside_of outside element attributes) attributes in
    on_ends (at_whatever path (attributes_of inner.inside.scope x attributes))
    (λ v u. tops_well inner path 1 children (all_declared attributes root_scope root_prefixes) h)

simplified_well : {L : Type 0} (name : List ℕ) (position : ℕ) (f : Forest L) → HaveNames root_scope f
    → Ends (OkIs (All IsWellTop)) (simplified_of name position f)
simplified_well name position f h =
    on_ends (children_well (at_top name) content.Body [] position f root_prefixes h) (λ below b. done (ok ((tt, content_well below.children b), tt)))

pub module_well : {L : Type 0} (name : List ℕ) (position : ℕ) (f : Forest L) → HaveNames root_scope f
    → Ends (OkIs (All IsWellTop)) (module_of name position f)
module_well name position Empty h = done (ok tt)
module_well name position (Node label (spec.Text text) children siblings) h = module_well name (position + 1) siblings h.2
module_well name position (Node label (spec.Comment text) children siblings) h = module_well name (position + 1) siblings h.2
module_well name position (Node label (spec.Instruction target text) children siblings) h = module_well name (position + 1) siblings h.2
module_well {L} name position (Node label (spec.Element element attributes) children siblings) h = by (role_of
    (inside_of outside element attributes) element)
  where
    by : (role : Role) → Ends (OkIs (All IsWellTop)) (elim role [
      | OfXslt x ↦ module_by name (position ∷ []) element attributes children (OfXslt x)
      | OfExtension ↦ simplified_of name position (Node label (spec.Element element attributes) children Empty)
      | OfOther uri ↦ simplified_of name position (Node label (spec.Element element attributes) children Empty)
    ])
    by (OfXslt x) = by_well name (position ∷ []) element attributes children h.1 x
    by OfExtension = simplified_well name position (Node label (spec.Element element attributes) children Empty) (h.0, h.1, tt)
    by (OfOther uri) = simplified_well name position (Node label (spec.Element element attributes) children Empty) (h.0, h.1, tt)
