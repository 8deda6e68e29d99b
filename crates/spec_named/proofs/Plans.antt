-- What instantiations plan in a world whose answers are such that it writes well: names are QNames, and no prefix is undeclared.
use Rattle.std.proofs.Common.{◌≡◌, ℕ, suc, Bool, true, false, cond, List, [], ◌∷◌, ◌++◌, length, Option, None, Some, refl}
use Rattle.std.specs.Prelude.{not, ◌||◌, bytes_eq}
use Rattle.std.specs.List.{flat_map}
use Rattle.spec_document.specs.declared.axis.Axis.TheVariants as axis
use Rattle.spec_document.specs.declared.kind.Kind.{Kind}
use Rattle.spec_document.specs.declared.kind.Kind.TheVariants as kind
use Rattle.spec_document.specs.Name.{QName, Expanded, qname_of, is_ncname}
use Rattle.spec_document.specs.Scope.{Scope}
use Rattle.spec_document.specs.Declaration.{is_there, element_name, attribute_name, is_reserved_target}
use Rattle.spec_expression.specs.declared.NodeType.TheVariants as type
use Rattle.spec_expression.specs.Syntax.{Expr, OfType}
use Rattle.spec_stylesheet.specs.Place.{Place, Site}
use Rattle.spec_stylesheet.specs.ValueTemplate.{Avt}
use Rattle.spec_stylesheet.specs.Instruction as made
use Rattle.spec_stylesheet.specs.Instruction.{SortKey, MadeName, LiteralAttribute, LiteralTag, Form, without_content, with_content, control, Control}
use Rattle.spec_stylesheet.specs.Instruction.{for_each, for_items, conditional, choose}
use Rattle.spec_stylesheet.specs.Instruction.{apply_templates, call_template, Instrs, no_instrs, instr, Branches, no_branches, branch, no_bindings}
use Rattle.spec_stylesheet.specs.Instruction.{binding, Binding}
use Rattle.spec_stylesheet.specs.Sheet as sheet
use Rattle.spec_stylesheet.specs.Sheet.{Alias}
use Rattle.spec_meaning.specs.Stream.{Stream}
use Rattle.spec_meaning.specs.Value as value
use Rattle.spec_meaning.specs.Value.{Value}
use Rattle.spec_meaning.specs.Question as question
use Rattle.spec_meaning.specs.Question.{Question, Answer, ResolvedUnit, nodes_in, text_in, local_in, uri_in, written_in}
use Rattle.spec_meaning.specs.Program.{CurrentRule, Wanted, Given, Program, current_in}
use Rattle.spec_meaning.specs.Context.{Context, Bound, binding_of}
use Rattle.spec_meaning.specs.Convert.{to_text}
use Rattle.spec_meaning.specs.Meaning.{meaning}
use Rattle.spec_result.specs.Recovery.{NamespaceNode}
use Rattle.spec_result.specs.Named.{IsPrefix, AreNodes}
use Rattle.spec_transform.specs.Expansion.{expanded}
use Rattle.spec_transform.specs.Sorted.{Criterion, KeyValue, Row, row, criterion_meant, key_meant, nodes_in_order}
use Rattle.spec_transform.specs.Numbering.{number_meant}
use Rattle.spec_run.specs.Plan.{Refused, nowhere, Target, UnitOf, BuiltIn, Call, Wrapping, AsElement, Plan, End, Yield, Stop, Inquire, Use, Put}
use Rattle.spec_run.specs.Plan.{Begin, Wrap, Take, Deep, Enter, lift}
use Rattle.spec_run.specs.Names.{namespace_meant, element_in, element_called, is_barred, element_meant, attribute_in, has_xmlns, attribute_called}
use Rattle.spec_run.specs.Names.{attribute_meant, instruction_meant}
use Rattle.spec_run.specs.Copy.{stream_in}
use Rattle.spec_run.specs.Content as content
use Rattle.spec_run.specs.Content.{Here, deeper, at, with_variable, context_at, text_meant, nodes_meant, truth_meant, asked, each, text_item}
use Rattle.spec_run.specs.Content.{rule_call, applied, applied_to, item_call, items_entered}
use Rattle.spec_run.specs.Content.{imports_applied, template_called, called, nodes_copied, value_copied, namespaces_read, kind_in, aliased_prefix}
use Rattle.spec_run.specs.Content.{aliased_uri, is_no_uri, elements_named, namespaces_aliased, element_aliased, attribute_aliased}
use Rattle.spec_run.specs.Content.{attributes_put, sets_entered, sets_used, criteria_asked, keys_asked, rows_asked, sorted, planned_without}
use Rattle.spec_run.specs.Content.{copied_as, planned_with}
use Rattle.spec_run.specs.Content.{is_empty, valued, unless_passed, planned, plan, planned_control, planned_branches, with_parameters, held}
use Rattle.spec_run.specs.Content.{may_be_given, unless_given}
use Rattle.spec_run.specs.Content.{global_planned, declared_planned, here_in, unit_planned, children_applied, text_put, built_in, plan_of}
use Rattle.spec_named.proofs.Streams.{IsQName, IsWell, IsWellWrapping, nodes_append, without_well, filled_well}
use Rattle.spec_named.proofs.Names.{picked, parted, put_together}
use Rattle.spec_named.proofs.Programs.{IsWellValue, number, text, boolean, nodes, fragment, AreWellBound, IsWellGiven, Gives, gives, refuses, asks}
use Rattle.spec_named.proofs.Programs.{needs, any, then_any, either_gives}
use Rattle.spec_named.proofs.Programs.{IsWellFound, binding_well, meaning_well}

-- ---- Plans

pub data IsWellPlan {N : Type 0} (ask : Question N → Answer N) : Plan N → Type 0 where
  ends : IsWellPlan ask End
  yields : {v : Value N} → IsWellValue v → IsWellPlan ask (Yield v)
  stops : {why : Refused} → IsWellPlan ask (Stop why)
  inquires : {q : Question N} {next : Answer N → Plan N} → IsWellPlan ask (next (ask q)) → IsWellPlan ask (Inquire q next)
  uses : {wanted : Wanted} {depth : ℕ} {place : Place} {next : Given N → Plan N} → ((g : Given N) → IsWellGiven g → IsWellPlan ask (next g))
      → IsWellPlan ask (Use wanted depth place next)
  puts : {items : Stream} {next : Plan N} → IsWell items → IsWellPlan ask next → IsWellPlan ask (Put items next)
  begins : {next : Plan N} → IsWellPlan ask next → IsWellPlan ask (Begin next)
  wraps : {how : Wrapping} {next : Plan N} → IsWellWrapping how → IsWellPlan ask next → IsWellPlan ask (Wrap how next)
  takes : {next : Stream → Plan N} → ((s : Stream) → IsWell s → IsWellPlan ask (next s)) → IsWellPlan ask (Take next)
  deepens : {depth : ℕ} {place : Place} {next : Plan N} → IsWellPlan ask next → IsWellPlan ask (Deep depth place next)
  enters : {call : Call N} {depth : ℕ} {next : Plan N} → AreWellBound call.parameters → IsWellPlan ask next → IsWellPlan ask (Enter call depth next)

either_plan : {N : Type 0} {ask : Question N → Answer N} (b : Bool) {p q : Plan N} → IsWellPlan ask p → IsWellPlan ask q → IsWellPlan ask (cond b p q)
either_plan true h g = h
either_plan false h g = g

lift_well : {N A : Type 0} {ask : Question N → Answer N} {P : A → Type 0} (place : Place) (depth : ℕ) {p : Program N A} {k : A → Plan N} → Gives P p
    → ((a : A) → P a → IsWellPlan ask (k a)) → IsWellPlan ask (lift place depth p k)
unfolding lift
lift_well place depth (gives h) g = g _ h
lift_well place depth refuses g = stops
lift_well {ask = ask} place depth (asks {q = q} h) g = inquires (lift_well place depth (h (ask q)) g)
lift_well place depth (needs h) g = uses (λ x e. lift_well place depth (h x e) g)

-- whatever it gives
lift_any : {N A : Type 0} {ask : Question N → Answer N} (place : Place) (depth : ℕ) (p : Program N A) {k : A → Plan N} → ((a : A)
    → IsWellPlan ask (k a))
    → IsWellPlan ask (lift place depth p k)
lift_any place depth p g = lift_well {P = λ a. Unit {0}} place depth (any (λ a. tt) p) (λ a e. g a)

-- ---- What is asked of the answers of a world

-- the namespace nodes, as they are read one after another
abbrev pub nodes_read : {N : Type 0} → (Question N → Answer N) → List N → List NamespaceNode
nodes_read ask [] = []
nodes_read ask (n ∷ ns) = (local_in (ask (question.Name n)), text_in (ask (question.Text n))) ∷ nodes_read ask ns

-- the elements that stand in a content, and what is in them
abbrev pub IsWellTag : LiteralTag → Type 0
IsWellTag tag = IsPrefix tag.prefix × (is_ncname tag.name.local ≡ true) × AreNodes tag.namespaces

abbrev pub IsWellAlone : made.WithContent → Type 0
IsWellAlone (made.Literal tag) = IsWellTag tag
IsWellAlone (made.Element name sets) = Unit {0}
IsWellAlone (made.Attribute name) = Unit {0}
IsWellAlone made.Comment = Unit {0}
IsWellAlone (made.ProcessingInstruction target) = Unit {0}
IsWellAlone (made.Copy sets) = Unit {0}
IsWellAlone (made.Variable name select) = Unit {0}
IsWellAlone (made.Message terminates) = Unit {0}

abbrev mutual
  pub AreWellInstrs : Instrs → Type 0
  AreWellInstrs no_instrs = Unit {0}
  AreWellInstrs (instr site form is) = IsWellForm form × AreWellInstrs is

  pub IsWellForm : Form → Type 0
  IsWellForm (without_content what) = Unit {0}
  IsWellForm (with_content what is) = IsWellAlone what × AreWellInstrs is
  IsWellForm (control c) = IsWellControl c

  pub IsWellControl : Control → Type 0
  IsWellControl (for_each e keys is) = AreWellInstrs is
  IsWellControl (for_items e keys name bs) = AreWellBindings bs
  IsWellControl (conditional e is) = AreWellInstrs is
  IsWellControl (choose bs) = AreWellBranches bs
  IsWellControl (apply_templates s bs) = AreWellBindings bs
  IsWellControl (call_template name bs) = AreWellBindings bs

  pub AreWellBranches : Branches → Type 0
  AreWellBranches no_branches = Unit {0}
  AreWellBranches (branch site test is more) = AreWellInstrs is × AreWellBranches more

  pub AreWellBindings : made.Bindings → Type 0
  AreWellBindings no_bindings = Unit {0}
  AreWellBindings (binding site name select is more) = AreWellInstrs is × AreWellBindings more

abbrev pub IsWellDeclared : sheet.Declared → Type 0
IsWellDeclared (sheet.ATemplate t) = AreWellBindings t.parameters × AreWellInstrs t.content
IsWellDeclared (sheet.AGlobal g) = AreWellInstrs g.binding.content
IsWellDeclared (sheet.ASet s) = AreWellInstrs s.attributes
IsWellDeclared (sheet.AKey k) = Unit {0}

abbrev pub AreWellAliases : List Alias → Type 0
AreWellAliases [] = Unit {0}
AreWellAliases (a ∷ more) = IsPrefix a.prefix × AreWellAliases more

abbrev pub IsWellUnit : {N : Type 0} → Answer N → Type 0
IsWellUnit (question.Resolved u) = IsWellDeclared u.unit.declared × AreWellAliases u.aliases
IsWellUnit _ = Unit {0}

pub record IsWellWorld {N : Type 0} (ask : Question N → Answer N) : Type 0 where
  pub copies : (n : N) → IsWell (stream_in (ask (question.Copy n)))
  pub names : (n : N) → kind_in (ask (question.Name n)) ≡ kind.Element → IsQName (written_in (ask (question.Name n)))
  pub namespaces : (n : N) → AreNodes (nodes_read ask (nodes_in (ask (question.Step n axis.Namespace (OfType type.Node)))))
  pub units : (n : N) → IsWellUnit (ask (question.Unit n))

-- where an instruction stands
abbrev pub IsWellHere : {N : Type 0} → Here N → Type 0
IsWellHere h = AreWellBound h.bindings × AreWellAliases h.aliases

-- ---- Names of elements that instructions make

element_in_well : {N : Type 0} (name : List ℕ) → IsQName name → (o : Option Expanded) → Gives IsWellWrapping (element_in {N = N} name o)
element_in_well name h None = refuses
element_in_well name h (Some e) = gives (h, tt)

element_called_well : {N : Type 0} (scope : Scope) (name : List ℕ) (o : Option QName) → qname_of name ≡ o → (uri : Option (List ℕ))
    → Gives IsWellWrapping (element_called {N = N} scope name o uri)
element_called_well scope name None e uri = gives tt
element_called_well scope name (Some q) e None = element_in_well name (parted name q e) (element_name scope q)
element_called_well scope name (Some q) e (Some uri) = gives (parted name q e, tt)

element_well : {N : Type 0} (name : MadeName) (c : Context N) → Gives IsWellWrapping (element_meant name c)
element_well made c = then_any (expanded made.name c) (λ name. then_any (namespace_meant made.namespace c) (λ uri.
    either_gives (is_barred uri) refuses (element_called_well c.scope name (qname_of name) refl uri)))

attribute_in_well : {N : Type 0} (name : List ℕ) (o : Option Expanded) → Gives IsWellWrapping (attribute_in {N = N} name o)
attribute_in_well name None = refuses
attribute_in_well name (Some e) = gives tt

attribute_called_well : {N : Type 0} (scope : Scope) (name : List ℕ) (o : Option QName) (uri : Option (List ℕ))
    → Gives IsWellWrapping (attribute_called {N = N} scope name o uri)
attribute_called_well scope name o (Some uri) = gives tt
attribute_called_well scope name None None = gives tt
attribute_called_well scope name (Some q) None = either_gives (has_xmlns q) (gives tt) (attribute_in_well name (attribute_name scope q))

attribute_well : {N : Type 0} (name : MadeName) (c : Context N) → Gives IsWellWrapping (attribute_meant name c)
attribute_well made c = then_any (expanded made.name c) (λ name. then_any (namespace_meant made.namespace c) (λ uri.
    either_gives (is_barred uri) refuses (attribute_called_well c.scope name (qname_of name) uri)))

instruction_well : {N : Type 0} (target : Avt) (c : Context N) → Gives IsWellWrapping (instruction_meant target c)
instruction_well target c = then_any (expanded target c) (λ name. either_gives (not (is_ncname name) || is_reserved_target name) refuses (gives tt))

-- ---- Literal result elements

aliased_well : (aliases : List Alias) (prefix uri : List ℕ) → AreWellAliases aliases → IsPrefix prefix → IsPrefix (aliased_prefix aliases prefix uri)
aliased_well [] prefix uri h g = g
aliased_well (a ∷ more) prefix uri h g =
    picked IsPrefix (bytes_eq a.stylesheet uri) a.prefix (aliased_prefix more prefix uri) (λ _. h.0) (λ _. aliased_well more prefix uri h.1 g)

some_uri : (uri : List ℕ) → is_no_uri uri ≡ false → is_there uri ≡ true
some_uri [] e = absurd (cc)
some_uri (c ∷ cs) e = refl

nodes_aliased : (aliases : List Alias) (ns : List NamespaceNode) → AreWellAliases aliases → AreNodes ns → AreNodes (namespaces_aliased aliases ns)
nodes_aliased aliases [] h g = tt
nodes_aliased aliases ((prefix, uri) ∷ more) h g =
    let rest = nodes_aliased aliases more h g.2 in
    picked AreNodes (is_no_uri (aliased_uri aliases uri)) (namespaces_aliased aliases more)
    ((aliased_prefix aliases prefix uri, aliased_uri aliases uri) ∷ namespaces_aliased aliases more)
    (λ _. rest) (λ e. (aliased_well aliases prefix uri h g.0, λ _. some_uri (aliased_uri aliases uri) e, rest))

tag_well : (aliases : List Alias) (tag : LiteralTag) → AreWellAliases aliases → IsWellTag tag → IsWellWrapping (element_aliased aliases tag)
tag_well aliases tag h g = (
  put_together (aliased_prefix aliases tag.prefix tag.name.uri) tag.name.local (aliased_well aliases tag.prefix tag.name.uri h g.0) g.1,
  nodes_aliased aliases tag.namespaces h g.2,
)

-- ---- Steps

asked_well : {N A : Type 0} {ask : Question N → Answer N} {P : A → Type 0} (site : Site) (h : Here N) (program : Context N → Program N A) {k : A
    → Plan N}
    → Gives P (program (context_at h site)) → ((a : A) → P a → IsWellPlan ask (k a)) → IsWellPlan ask (asked site h program k)
asked_well site h program g later = lift_well site.place h.depth g later

asked_any : {N A : Type 0} {ask : Question N → Answer N} (site : Site) (h : Here N) (program : Context N → Program N A) {k : A → Plan N}
    → ((a : A) → IsWellPlan ask (k a)) → IsWellPlan ask (asked site h program k)
asked_any site h program later = lift_any site.place h.depth (program (context_at h site)) later

each_well : {N : Type 0} {ask : Question N → Answer N} {f : N → ℕ → Plan N → Plan N} → ((n : N) (position : ℕ) (p : Plan N) → IsWellPlan ask p
    → IsWellPlan ask (f n position p))
    → (position : ℕ) (ns : List N) {after : Plan N} → IsWellPlan ask after → IsWellPlan ask (each f position ns after)
each_well well position [] k = k
each_well well position (n ∷ ns) k = well n position _ (each_well well (suc position) ns k)

applied_well : {N : Type 0} {ask : Question N → Answer N} (by : Place) (mode : Option Expanded) (parameters : List (Bound N)) (depth : ℕ)
    → AreWellBound parameters
    → (ns : List N) {after : Plan N} → IsWellPlan ask after → IsWellPlan ask (applied_to by mode parameters depth ns after)
applied_well by mode parameters depth values ns k =
    each_well {f = applied by mode parameters (length ns) depth} (λ n position p h. inquires (enters values h)) 1 ns k

imports_well : {N : Type 0} {ask : Question N → Answer N} (site : Site) (h : Here N) (current : Option CurrentRule) {after : Plan N}
    → IsWellPlan ask after
    → IsWellPlan ask (imports_applied site h current after)
imports_well site h None k = stops
imports_well site h (Some rule) k = inquires (enters tt k)

-- values that are passed, before what follows them
abbrev Passing : {N : Type 0} → (Question N → Answer N) → ((List (Bound N) → Plan N) → Plan N) → Type 0
Passing {N = N} ask passing =
    (k : List (Bound N) → Plan N) → ((bs : List (Bound N)) → AreWellBound bs → IsWellPlan ask (k bs)) → IsWellPlan ask (passing k)

called_well : {N : Type 0} {ask : Question N → Answer N} (site : Site) (h : Here N) {passing : (List (Bound N) → Plan N) → Plan N}
    → Passing ask passing
    → (element : Option N) {after : Plan N} → IsWellPlan ask after → IsWellPlan ask (called site h passing element after)
called_well site h inner None k = puts tt k
called_well site h inner (Some element) k = puts tt (inner _ (λ bs values. enters values k))

-- the same element for each node
items_well : {N : Type 0} {ask : Question N → Answer N} (by : Place) (parameters : List (Bound N)) → AreWellBound parameters → (element : Option N)
    → (depth : ℕ) (ns : List N) {after : Plan N} → IsWellPlan ask after → IsWellPlan ask (items_entered by element parameters depth ns after)
items_well by parameters values None depth ns k = k
items_well by parameters values (Some element) depth ns k =
    each_well {f = λ n p more. Enter (item_call by element parameters (length ns) n p) depth more} (λ n position p h. enters values h) 1 ns k

-- ---- Copies

nodes_copied_well : {N : Type 0} {ask : Question N → Answer N} → IsWellWorld ask → (ns : List N) {after : Plan N} → IsWellPlan ask after
    → IsWellPlan ask (nodes_copied ns after)
nodes_copied_well world [] k = k
nodes_copied_well world (n ∷ ns) k = inquires (puts (world.copies n) (nodes_copied_well world ns k))

value_copied_well : {N : Type 0} {ask : Question N → Answer N} → IsWellWorld ask → {v : Value N} → IsWellValue v → {after : Plan N}
    → IsWellPlan ask after
    → IsWellPlan ask (value_copied v after)
value_copied_well world (nodes {ns = ns}) k = puts tt (nodes_copied_well world ns k)
value_copied_well world (fragment {s = s} h) k = puts (without_well s h) k
value_copied_well world text k = puts tt k
value_copied_well {N = N} world (number {n = n}) k = lift_any nowhere 0 (to_text {N = N} (value.Number n)) (λ t. puts tt k)
value_copied_well {N = N} world (boolean {b = b}) k = lift_any nowhere 0 (to_text {N = N} (value.Boolean b)) (λ t. puts tt k)

namespaces_well : {N : Type 0} {ask : Question N → Answer N} (ns : List N) (done : List NamespaceNode) → AreNodes done → AreNodes (nodes_read ask ns)
    → {k : List NamespaceNode → Plan N} → ((all : List NamespaceNode) → AreNodes all → IsWellPlan ask (k all))
    → IsWellPlan ask (namespaces_read ns done k)
namespaces_well [] done h g later = later done h
namespaces_well {ask = ask} (n ∷ ns) done h g later =
    inquires (inquires (namespaces_well ns (done ++ (local_in (ask (question.Name n)), text_in (ask (question.Text n))) ∷ [])
    (nodes_append done ((local_in (ask (question.Name n)), text_in (ask (question.Text n))) ∷ []) h (g.0, g.1, tt)) g.2 later))

-- ---- Attribute sets

entered_well : {N : Type 0} {ask : Question N → Answer N} (by : Place) (h : Here N) (elements : List N) {after : Plan N} → IsWellPlan ask after
    → IsWellPlan ask (sets_entered by h elements after)
entered_well by h [] k = k
entered_well by h (element ∷ more) k = enters tt (entered_well by h more k)

used_well : {N : Type 0} {ask : Question N → Answer N} (by : Place) (h : Here N) (names : List Expanded) {after : Plan N} → IsWellPlan ask after
    → IsWellPlan ask (sets_used by h names after)
used_well by h names k = entered_well by h (flat_map (elements_named h.sets) names) k

-- ---- Sorting

criteria_well : {N : Type 0} {ask : Question N → Answer N} (keys : List SortKey) (h : Here N) (done : List Criterion) {k : List Criterion → Plan N}
    → ((cs : List Criterion) → IsWellPlan ask (k cs)) → IsWellPlan ask (criteria_asked keys h done k)
criteria_well [] h done later = later done
criteria_well (key ∷ more) h done later = asked_any key.site h (criterion_meant key) (λ c. criteria_well more h (done ++ c ∷ []) later)

keys_well : {N : Type 0} {ask : Question N → Answer N} (keys : List SortKey) (cs : List Criterion) (h : Here N)
    (done : List KeyValue) {k : List KeyValue → Plan N}
    → ((vs : List KeyValue) → IsWellPlan ask (k vs)) → IsWellPlan ask (keys_asked keys cs h done k)
keys_well [] cs h done later = later done
keys_well (key ∷ more) [] h done later = later done
keys_well (key ∷ more) (c ∷ cs) h done later = asked_any key.site h (key_meant key c) (λ v. keys_well more cs h (done ++ v ∷ []) later)

rows_well : {N : Type 0} {ask : Question N → Answer N} (keys : List SortKey) (cs : List Criterion) (size : ℕ) (h : Here N) (position : ℕ)
    (ns : List N) (done : List (Row N))
    {k : List (Row N) → Plan N} → ((rows : List (Row N)) → IsWellPlan ask (k rows)) → IsWellPlan ask (rows_asked keys cs size h position ns done k)
rows_well keys cs size h position [] done later = later done
rows_well keys cs size h position (n ∷ ns) done later =
    keys_well keys cs (at n position size h) [] (λ vs. rows_well keys cs size h (suc position) ns (done ++ row n vs ∷ []) later)

sorted_well : {N : Type 0} {ask : Question N → Answer N} (keys : List SortKey) (h : Here N) (ns : List N) {k : List N → Plan N}
    → ((ms : List N) → IsWellPlan ask (k ms)) → IsWellPlan ask (sorted keys h ns k)
sorted_well [] h ns later = later ns
sorted_well (key ∷ more) h ns later =
    criteria_well (key ∷ more) h [] (λ cs. rows_well (key ∷ more) cs (length ns) h 1 ns [] (λ rows. puts tt (later (nodes_in_order cs rows))))

-- ---- Instructions

-- contents before what follows them
abbrev Inside : {N : Type 0} → (Question N → Answer N) → (Plan N → Plan N) → Type 0
Inside {N = N} ask inside = (p : Plan N) → IsWellPlan ask p → IsWellPlan ask (inside p)

copy_well : {N : Type 0} {ask : Question N → Answer N} → IsWellWorld ask → (n : N) {after : Plan N} → IsWellPlan ask after
    → IsWellPlan ask (Inquire (question.Copy n) (λ c. Put (stream_in c) after))
copy_well world n k = inquires (puts (world.copies n) k)

-- by the kind
abbrev copied_of : {N : Type 0} → Place → Here N → List Expanded → Answer N → (Plan N → Plan N) → Plan N → Kind → Plan N
copied_of by h sets a inside after k = elim k [
  | kind.Root ↦ inside after
  | kind.Element ↦ Inquire (question.Step h.node axis.Namespace (OfType type.Node)) (λ ns. namespaces_read (nodes_in ns) []
      (λ namespaces. Begin (sets_used by h sets (inside (Wrap (AsElement (written_in a) (uri_in a) namespaces) after)))))
  | kind.Attribute ↦ Inquire (question.Copy h.node) (λ c. Put (stream_in c) after)
  | kind.Namespace ↦ Inquire (question.Copy h.node) (λ c. Put (stream_in c) after)
  | kind.Text ↦ Inquire (question.Copy h.node) (λ c. Put (stream_in c) after)
  | kind.Comment ↦ Inquire (question.Copy h.node) (λ c. Put (stream_in c) after)
  | kind.Instruction ↦ Inquire (question.Copy h.node) (λ c. Put (stream_in c) after)
]

copied_well : {N : Type 0} {ask : Question N → Answer N} → IsWellWorld ask → (by : Place) (h : Here N) (sets : List Expanded) (a : Answer N)
    {inside : Plan N → Plan N} → Inside ask inside → {after : Plan N} → IsWellPlan ask after → (k : Kind) → (k ≡ kind.Element
    → IsQName (written_in a))
    → IsWellPlan ask (copied_of by h sets a inside after k)
copied_well world by h sets a inner k kind.Root is = inner _ k
copied_well {ask = ask} world by h sets a inner k kind.Element is =
    inquires (namespaces_well (nodes_in (ask (question.Step h.node axis.Namespace (OfType type.Node)))) [] tt (world.namespaces h.node)
    (λ namespaces all. begins (used_well by h sets (inner _ (wraps (is refl, all) k)))))
copied_well world by h sets a inner k kind.Attribute is = copy_well world h.node k
copied_well world by h sets a inner k kind.Namespace is = copy_well world h.node k
copied_well world by h sets a inner k kind.Text is = copy_well world h.node k
copied_well world by h sets a inner k kind.Comment is = copy_well world h.node k
copied_well world by h sets a inner k kind.Instruction is = copy_well world h.node k

attributes_well : {N : Type 0} {ask : Question N → Answer N} (site : Site) (h : Here N) (attributes : List LiteralAttribute) {after : Plan N}
    → IsWellPlan ask after
    → IsWellPlan ask (attributes_put site h attributes after)
attributes_well site h [] k = k
attributes_well site h (a ∷ more) k = asked_any site h (expanded a.value) (λ t. puts tt (attributes_well site h more k))

without_content_well : {N : Type 0} {ask : Question N → Answer N} → IsWellWorld ask → (site : Site) (h : Here N) → IsWellHere h
    → (what : made.WithoutContent)
    {after : Plan N} → IsWellPlan ask after → IsWellPlan ask (planned_without site h what after)
without_content_well world site h w (made.Text t) k = puts tt k
without_content_well world site h w (made.ValueOf e) k = asked_any site h (text_meant e) (λ t. puts tt k)
without_content_well world site h w (made.CopyOf e) k =
    asked_well site h (meaning e) (meaning_well e (context_at h site) w.0) (λ v g. value_copied_well world g k)
without_content_well world site h w (made.Number numbering) k = asked_any site h (number_meant h.same numbering) (λ t. puts tt k)
without_content_well world site h w made.ApplyImports k =
    either_plan h.ruled (uses (λ g e. imports_well site h (current_in g) k)) (imports_well site h None k)
without_content_well world site h w made.Fallback k = puts tt k

with_content_well : {N : Type 0} {ask : Question N → Answer N} → IsWellWorld ask → (site : Site) (h : Here N) → IsWellHere h
    → (what : made.WithContent)
    → IsWellAlone what → {inside : Plan N → Plan N} → Inside ask inside → {after : Plan N} → IsWellPlan ask after
    → IsWellPlan ask (planned_with site h what inside after)
with_content_well world site h w (made.Literal tag) own inner k =
    begins (used_well site.place h tag.sets (attributes_well site h tag.attributes (inner _ (wraps (tag_well h.aliases tag w.1 own) k))))
with_content_well world site h w (made.Element name sets) own inner k =
    asked_well site h (element_meant name) (element_well name (context_at h site)) (λ how g. begins (used_well site.place h sets (inner _
    (wraps g k))))
with_content_well world site h w (made.Attribute name) own inner k =
    asked_well site h (attribute_meant name) (attribute_well name (context_at h site)) (λ how g. begins (inner _ (wraps g k)))
with_content_well world site h w made.Comment own inner k = begins (inner _ (wraps tt k))
with_content_well world site h w (made.ProcessingInstruction target) own inner k =
    asked_well site h (instruction_meant target) (instruction_well target (context_at h site)) (λ how g. begins (inner _ (wraps g k)))
with_content_well {ask = ask} world site h w (made.Copy sets) own inner k =
    inquires (copied_well world site.place h sets (ask (question.Name h.node)) inner k (kind_in (ask (question.Name h.node))) (world.names h.node))
with_content_well world site h w (made.Variable name select) own inner k = puts tt k
with_content_well world site h w (made.Message terminates) own inner k = begins (inner _ (wraps tt (either_plan terminates stops k)))

-- ---- Variables and parameters

valued_well : {N : Type 0} {ask : Question N → Answer N} (site : Site) (h : Here N) → IsWellHere h → (select : Option Expr) (is_empty : Bool)
    {inside : Plan N → Plan N} → Inside ask inside → {k : Value N → Plan N} → ((v : Value N) → IsWellValue v → IsWellPlan ask (k v))
    → IsWellPlan ask (valued site h select is_empty inside k)
valued_well site h w (Some e) is_empty inner later =
    asked_well site h (meaning e) (meaning_well e (context_at h site) w.0) (λ v g. puts tt (later v g))
valued_well site h w None true inner later = puts tt (later _ text)
valued_well site h w None false inner later = begins (inner _ (takes (λ s g. later _ (fragment (filled_well s [] g tt)))))

unless_passed_well : {N : Type 0} {ask : Question N → Answer N} (o : Option (Value N)) → IsWellFound o → {default : Plan N} → IsWellPlan ask default
    → {k : Value N → Plan N} → ((v : Value N) → IsWellValue v → IsWellPlan ask (k v)) → IsWellPlan ask (unless_passed o default k)
unless_passed_well None h own later = own
unless_passed_well (Some v) h own later = puts tt (later v h)

-- what follows where an instruction stands, with what it declares
abbrev Following : {N : Type 0} → (Question N → Answer N) → (Here N → Plan N) → Type 0
Following {N = N} ask rest = (h : Here N) → IsWellHere h → IsWellPlan ask (rest h)

inside_well : {N : Type 0} {ask : Question N → Answer N} (site : Site) (is : Instrs) (h : Here N) → Inside ask (planned is (deeper h))
    → Inside ask (λ p. Deep (suc h.depth) site.place (planned is (deeper h) p))
inside_well site is h inner p k = deepens (inner p k)

-- an instruction with a content
content_well : {N : Type 0} {ask : Question N → Answer N} → IsWellWorld ask → (site : Site) (what : made.WithContent) (is : Instrs) (h : Here N)
    → IsWellHere h
    → IsWellAlone what → Inside ask (planned is (deeper h)) → {rest : Here N → Plan N} → Following ask rest
    → IsWellPlan ask (plan site (with_content what is) h rest)
content_well world site (made.Variable name select) is h w own inner later =
    valued_well site h w select (is_empty is) (inside_well site is h inner) (λ v g. later (with_variable name v h) ((g, w.0), w.1))
content_well world site (made.Literal tag) is h w own inner later = with_content_well world site h w (made.Literal tag) own
    (inside_well site is h inner) (later h w)
content_well world site (made.Element name sets) is h w own inner later =
    with_content_well world site h w (made.Element name sets) own (inside_well site is h inner) (later h w)
content_well world site (made.Attribute name) is h w own inner later =
    with_content_well world site h w (made.Attribute name) own (inside_well site is h inner) (later h w)
content_well world site made.Comment is h w own inner later = with_content_well world site h w made.Comment own (inside_well site is h inner)
    (later h w)
content_well world site (made.ProcessingInstruction target) is h w own inner later =
    with_content_well world site h w (made.ProcessingInstruction target) own (inside_well site is h inner) (later h w)
content_well world site (made.Copy sets) is h w own inner later = with_content_well world site h w (made.Copy sets) own
    (inside_well site is h inner) (later h w)
content_well world site (made.Message terminates) is h w own inner later =
    with_content_well world site h w (made.Message terminates) own (inside_well site is h inner) (later h w)

mutual
  pub planned_well : {N : Type 0} {ask : Question N → Answer N} → IsWellWorld ask → (is : Instrs) → AreWellInstrs is → (h : Here N) → IsWellHere h
      → {after : Plan N} → IsWellPlan ask after → IsWellPlan ask (planned is h after)
  planned_well world no_instrs g h w k = k
  planned_well world (instr site form is) g h w k = plan_well world site form g.0 h w (λ here v. planned_well world is g.1 here v k)

  plan_well : {N : Type 0} {ask : Question N → Answer N} → IsWellWorld ask → (site : Site) (form : Form) → IsWellForm form → (h : Here N)
      → IsWellHere h
      → {rest : Here N → Plan N} → Following ask rest → IsWellPlan ask (plan site form h rest)
  plan_well world site (without_content what) g h w later = without_content_well world site h w what (later h w)
  plan_well world site (with_content what is) g h w later =
      content_well world site what is h w g.0 (λ p k. planned_well world is g.1 (deeper h) w k) later
  plan_well world site (control c) g h w later = control_well world site c g h w (later h w)

  passed_well : {N : Type 0} {ask : Question N → Answer N} → IsWellWorld ask → (bs : made.Bindings) → AreWellBindings bs → (h : Here N) → IsWellHere h
      → (done : List (Bound N)) → AreWellBound done → {k : List (Bound N) → Plan N} → ((all : List (Bound N)) → AreWellBound all
      → IsWellPlan ask (k all))
      → IsWellPlan ask (content.passed bs h done k)
  passed_well world no_bindings g h w done sofar later = later done sofar
  passed_well world (binding site name select is more) g h w done sofar later =
      valued_well site h w select (is_empty is) (λ p k. deepens (planned_well world is g.0 (deeper h) w k))
      (λ v e. passed_well world more g.1 h w (record { name = name; value = v } ∷ done) (e, sofar) later)

  control_well : {N : Type 0} {ask : Question N → Answer N} → IsWellWorld ask → (site : Site) (c : Control) → IsWellControl c → (h : Here N)
      → IsWellHere h
      → {after : Plan N} → IsWellPlan ask after → IsWellPlan ask (planned_control site c h after)
  control_well world site (for_each e keys is) g h w k =
      asked_any site h (nodes_meant e) (λ ns. puts tt
      (sorted_well keys h ns (λ ms. each_well
      (λ n p after v. deepens {depth = suc h.depth} {place = site.place} (planned_well world is g (deeper (at n p (length ms) h)) w v)) 1 ms k)))
  control_well world site (for_items e keys name bs) g h w k =
      asked_any site h (nodes_meant e) (λ ns. puts tt
      (passed_well world bs g h w [] tt (λ parameters values. sorted_well keys h ns
      (λ ms. items_well site.place parameters values (template_called name h.templates) h.depth ms k))))
  control_well world site (conditional e is) g h w k =
      asked_any site h (truth_meant e) (λ b. either_plan b (deepens (planned_well world is g (deeper h) w k)) (puts tt k))
  control_well world site (choose bs) g h w k = branches_well world bs g h w k
  control_well world site (apply_templates s bs) g h w k =
      asked_any site h (nodes_meant s.select) (λ ns. puts tt
      (passed_well world bs g h w [] tt (λ parameters values. sorted_well s.keys h ns
      (λ ms. applied_well site.place s.mode parameters h.depth values ms k))))
  control_well world site (call_template name bs) g h w k =
      called_well site h (λ f later. passed_well world bs g h w [] tt later) (template_called name h.templates) k

  branches_well : {N : Type 0} {ask : Question N → Answer N} → IsWellWorld ask → (bs : Branches) → AreWellBranches bs → (h : Here N) → IsWellHere h
      → {after : Plan N} → IsWellPlan ask after → IsWellPlan ask (planned_branches bs h after)
  branches_well world no_branches g h w k = puts tt k
  branches_well world (branch site None is more) g h w k = deepens (planned_well world is g.0 (deeper h) w k)
  branches_well world (branch site (Some e) is more) g h w k =
      asked_any site h (truth_meant e) (λ b. either_plan b (deepens (planned_well world is g.0 (deeper h) w k)) (branches_well world more g.1 h w k))

-- ---- Instantiations

parameters_well : {N : Type 0} {ask : Question N → Answer N} → IsWellWorld ask → (bs : made.Bindings) → AreWellBindings bs
    → (given : List (Bound N)) → AreWellBound given
    → (h : Here N) → IsWellHere h → {k : Here N → Plan N} → Following ask k → IsWellPlan ask (with_parameters bs given h k)
parameters_well world no_bindings g given values h w later = later h w
parameters_well world (binding site name select is more) g given values h w later =
    unless_passed_well (binding_of name given) (binding_well name given values)
    (valued_well site h w select (is_empty is) (λ p k. deepens (planned_well world is g.0 (deeper h) w k))
    (λ v e. parameters_well world more g.1 given values (with_variable name v h) ((e, w.0), w.1) later))
    (λ v e. parameters_well world more g.1 given values (with_variable name v h) ((e, w.0), w.1) later)

-- what a global with this select holds
abbrev held_with : {N : Type 0} → Binding → Here N → Option Expr → Plan N
held_with b h select = elim select [
  | Some e ↦ asked b.site h (meaning e) (λ v. Yield v)
  | None ↦ cond (is_empty b.content) (Yield (value.Text [])) (planned b.content h End)
]

held_well : {N : Type 0} {ask : Question N → Answer N} → IsWellWorld ask → (b : Binding) → AreWellInstrs b.content → (h : Here N) → IsWellHere h
    → (select : Option Expr)
    → IsWellPlan ask (held_with b h select)
held_well world b g h w (Some e) = asked_well b.site h (meaning e) (meaning_well e (context_at h b.site) w.0) (λ v e. yields e)
held_well world b g h w None = either_plan (is_empty b.content) (yields text) (planned_well world b.content g h w ends)

unless_given_well : {N : Type 0} {ask : Question N → Answer N} (a : Answer N) {own : Plan N} → IsWellPlan ask own
    → IsWellPlan ask (unless_given a own)
unless_given_well (question.Passed (Some t)) k = yields text
unless_given_well (question.Passed None) k = k
unless_given_well question.Gone k = k
unless_given_well (question.Refused why) k = k
unless_given_well (question.SomeNodes ns) k = k
unless_given_well (question.SomeText t) k = k
unless_given_well (question.Named k1 name written) k = k
unless_given_well (question.Chosen rule) k = k
unless_given_well (question.Copied s) k = k
unless_given_well (question.Resolved u) k = k

global_well : {N : Type 0} {ask : Question N → Answer N} → IsWellWorld ask → (g : sheet.GlobalBinding) → AreWellInstrs g.binding.content
    → (h : Here N) → IsWellHere h
    → IsWellPlan ask (global_planned g h)
global_well {ask = ask} world g e h w =
    either_plan (may_be_given g) (inquires (unless_given_well (ask (question.External g.binding.name.local))
    (held_well world g.binding e h w g.binding.select)))
    (held_well world g.binding e h w g.binding.select)

declared_well : {N : Type 0} {ask : Question N → Answer N} → IsWellWorld ask → (place : Place) (d : sheet.Declared) → IsWellDeclared d
    → (given : List (Bound N))
    → AreWellBound given → (h : Here N) → IsWellHere h → IsWellPlan ask (declared_planned place d given h)
declared_well world place (sheet.ATemplate t) g given values h w =
    parameters_well world t.parameters g.0 given values h w (λ here v. planned_well world t.content g.1 here v ends)
declared_well world place (sheet.AGlobal b) g given values h w = global_well world b g h w
declared_well world place (sheet.ASet s) g given values h w = used_well place h s.sets (planned_well world s.attributes g h w ends)
declared_well world place (sheet.AKey k) g given values h w = ends

unit_well : {N : Type 0} {ask : Question N → Answer N} → IsWellWorld ask → (same : N → N → Bool) (n : N) (given : List (Bound N)) → AreWellBound given
    → (a : Answer N) → IsWellUnit a → IsWellPlan ask (unit_planned same n given a)
unit_well world same n given values (question.Resolved u) g =
    declared_well world u.unit.site.place u.unit.declared g.0 given values (here_in same n u) (tt, g.1)
unit_well world same n given values (question.Passed t) g = ends
unit_well world same n given values question.Gone g = ends
unit_well world same n given values (question.Refused why) g = ends
unit_well world same n given values (question.SomeNodes ns) g = ends
unit_well world same n given values (question.SomeText t) g = ends
unit_well world same n given values (question.Named k name written) g = ends
unit_well world same n given values (question.Chosen rule) g = ends
unit_well world same n given values (question.Copied s) g = ends

-- a built-in rule for a node of this kind
abbrev built_in_of : {N : Type 0} → Option Expanded → N → Kind → Plan N
built_in_of mode n k = elim k [
  | kind.Root ↦ children_applied mode n
  | kind.Element ↦ children_applied mode n
  | kind.Attribute ↦ text_put n
  | kind.Text ↦ text_put n
  | kind.Namespace ↦ End
  | kind.Comment ↦ End
  | kind.Instruction ↦ End
]

built_in_well : {N : Type 0} {ask : Question N → Answer N} (mode : Option Expanded) (n : N) (k : Kind) → IsWellPlan ask (built_in_of mode n k)
built_in_well {ask = ask} mode n kind.Root = inquires (applied_well nowhere mode [] 0 tt (nodes_in (ask (question.Step n axis.Child
    (OfType type.Node)))) ends)
built_in_well {ask = ask} mode n kind.Element = inquires (applied_well nowhere mode [] 0 tt (nodes_in (ask (question.Step n axis.Child
    (OfType type.Node)))) ends)
built_in_well mode n kind.Attribute = inquires (puts tt ends)
built_in_well mode n kind.Text = inquires (puts tt ends)
built_in_well mode n kind.Namespace = ends
built_in_well mode n kind.Comment = ends
built_in_well mode n kind.Instruction = ends

by_target : {N : Type 0} {ask : Question N → Answer N} → IsWellWorld ask → (same : N → N → Bool) (n : N) (given : List (Bound N))
    → AreWellBound given → (target : Target N)
    → IsWellPlan ask (elim target [
      | UnitOf element ↦ Inquire (question.Unit element)
          (λ a. unit_planned same n given a)
      | BuiltIn mode ↦ built_in mode n
    ])
by_target {ask = ask} world same n given values (UnitOf element) =
    inquires (unit_well world same n given values (ask (question.Unit element)) (world.units element))
by_target {ask = ask} world same n given values (BuiltIn mode) = inquires (built_in_well mode n (kind_in (ask (question.Name n))))

pub plan_of_well : {N : Type 0} {ask : Question N → Answer N} → IsWellWorld ask → (same : N → N → Bool) (c : Call N) → AreWellBound c.parameters
    → IsWellPlan ask (plan_of same c)
plan_of_well world same c values = by_target world same c.node c.parameters values c.target
