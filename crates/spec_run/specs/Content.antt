-- What contents plan (XSLT 1.0, sections 5 to 11 and 13). Each plan goes before what comes after it. An instruction evaluates its
-- attributes, then its content; a content of an element is one level below it.
use Rattle.std.specs.Prelude.{ℕ, suc, Bool, true, false, ◌&&◌, List, [], ◌∷◌, ◌++◌, length, bytes_eq, Option, None, Some, if◌then◌else◌}
use Rattle.std.specs.List.{flat_map}
use Rattle.spec_document.specs.declared.axis.Axis.TheVariants as axis
use Rattle.spec_document.specs.declared.kind.Kind.{Kind}
use Rattle.spec_document.specs.declared.kind.Kind.TheVariants as kind
use Rattle.spec_document.specs.Name.{Expanded, same_name}
use Rattle.spec_expression.specs.declared.NodeType.TheVariants as type
use Rattle.spec_expression.specs.declared.code.DynCode.TheVariants as code
use Rattle.spec_expression.specs.Syntax.{Expr, OfType}
use Rattle.spec_stylesheet.specs.Place.{Place, Site}
use Rattle.spec_stylesheet.specs.Instruction as made
use Rattle.spec_stylesheet.specs.Instruction.{SortKey, LiteralAttribute, LiteralTag, Form, without_content, with_content, control, Control, for_each, for_items, conditional, choose, apply_templates, call_template, Instrs, no_instrs, instr, Branches, no_branches, branch, Bindings, no_bindings, binding, Binding}
use Rattle.spec_stylesheet.specs.Sheet as sheet
use Rattle.spec_stylesheet.specs.Sheet.{Alias}
use Rattle.spec_meaning.specs.Stream as stream
use Rattle.spec_meaning.specs.Stream.{Stream, filled}
use Rattle.spec_meaning.specs.Value as value
use Rattle.spec_meaning.specs.Value.{Value}
use Rattle.spec_meaning.specs.Question as question
use Rattle.spec_meaning.specs.Question.{Answer, AllRules, Imported, ChosenRule, NamedTemplate, NamedSets, ResolvedUnit, nodes_in, rule_in, text_in, local_in, uri_in, written_in}
use Rattle.spec_meaning.specs.Program.{CurrentRule, Rule, current_in, Program, Give, ◌>>=◌}
use Rattle.spec_meaning.specs.Context.{Context, Bound, binding_of}
use Rattle.spec_meaning.specs.Convert.{to_text, to_boolean, to_nodes}
use Rattle.spec_meaning.specs.Meaning.{meaning}
use Rattle.spec_result.specs.Shape.{with_prefix}
use Rattle.spec_transform.specs.Expansion.{expanded}
use Rattle.spec_transform.specs.Sorted.{Criterion, KeyValue, Row, row, criterion_meant, key_meant, nodes_in_order}
use Rattle.spec_transform.specs.Numbering.{number_meant}
use Rattle.spec_run.specs.Plan.{Refused, nowhere, Wrapping, Target, UnitOf, BuiltIn, Ruling, SameRule, RuleIs, Call, AsElement, AsComment, AsMessage, Plan, End, Yield, Stop, Inquire, Use, Put, Begin, Wrap, Take, Deep, Enter, lift}
use Rattle.spec_run.specs.Names.{element_meant, attribute_meant, instruction_meant}
use Rattle.spec_run.specs.Copy.{stream_in, without_attributes}

-- where an instruction stands: the current node, its position and the size of its list, where they are not those of the instantiation, the
-- local variables, innermost first, the depth below the level of the instantiation, whether its template rule is the current one, what the names
-- of the unit name, the aliases of the stylesheet, and whether two nodes are the same
pub record Here (N : Type 0) : Type 0 where
  pub node : N
  pub position : Option ℕ
  pub size : Option ℕ
  pub bindings : List (Bound N)
  pub depth : ℕ
  pub ruled : Bool
  pub templates : List (NamedTemplate N)
  pub sets : List (NamedSets N)
  pub aliases : List Alias
  pub same : N → N → Bool

abbrev pub deeper : {N : Type 0} → Here N → Here N
deeper h = record {
  node = h.node;
  position = h.position;
  size = h.size;
  bindings = h.bindings;
  depth = suc h.depth;
  ruled = h.ruled;
  templates = h.templates;
  sets = h.sets;
  aliases = h.aliases;
  same = h.same;
}

-- at one of the nodes of a loop, where no template rule is the current one (section 5.6)
abbrev pub at : {N : Type 0} → N → (position size : ℕ) → Here N → Here N
at n p size h = record {
  node = n;
  position = Some p;
  size = Some size;
  bindings = h.bindings;
  depth = h.depth;
  ruled = false;
  templates = h.templates;
  sets = h.sets;
  aliases = h.aliases;
  same = h.same;
}

-- where one more local variable or parameter is in scope, which hides those of its name
abbrev pub with_variable : {N : Type 0} → Expanded → Value N → Here N → Here N
with_variable name v h = record {
  node = h.node;
  position = h.position;
  size = h.size;
  bindings = record { name = name; value = v } ∷ h.bindings;
  depth = h.depth;
  ruled = h.ruled;
  templates = h.templates;
  sets = h.sets;
  aliases = h.aliases;
  same = h.same;
}

-- the context of an expression at an element
abbrev pub context_at : {N : Type 0} → Here N → Site → Context N
context_at h site = record { node = h.node; current = h.node; position = h.position; size = h.size; bindings = h.bindings; scope = site.scope }

abbrev pub text_meant : {N : Type 0} → Expr → Context N → Program N (List ℕ)
text_meant e c = meaning e c >>= λ v. to_text v

abbrev pub nodes_meant : {N : Type 0} → Expr → Context N → Program N (List N)
nodes_meant e c = meaning e c >>= λ v. to_nodes v

abbrev pub truth_meant : {N : Type 0} → Expr → Context N → Program N Bool
truth_meant e c = meaning e c >>= λ v. Give (to_boolean v)

-- at an element
abbrev pub asked : {N A : Type 0} → Site → Here N → (Context N → Program N A) → (A → Plan N) → Plan N
asked site h program k = lift site.place h.depth (program (context_at h site)) k

-- one for each node, with its position
abbrev pub each : {N : Type 0} → (N → ℕ → Plan N → Plan N) → ℕ → List N → Plan N → Plan N
each f p [] after = after
each f p (n ∷ ns) after = f n p (each f (suc p) ns after)

abbrev pub text_item : List ℕ → Stream
text_item text = stream.Text text stream.Ended

-- ---- Template rules (section 5.4)

-- what the rule of a node enters, and that rule as the current one
abbrev pub target_by : {N : Type 0} → Option Expanded → Option (ChosenRule N) → Target N
target_by mode None = BuiltIn mode
target_by mode (Some rule) = UnitOf rule.element

abbrev pub ruling_by : {N : Type 0} → Option Expanded → Option (ChosenRule N) → Ruling
ruling_by mode None = RuleIs None
ruling_by mode (Some rule) = RuleIs (Some (record { mode = mode; first = rule.first; last = rule.last }))

abbrev pub rule_call : {N : Type 0} → Place → Option Expanded → (parameters : List (Bound N)) → (size : ℕ) → N → ℕ → Answer N → Call N
rule_call by mode parameters size n p a = record {
  target = target_by mode (rule_in a);
  node = n;
  parameters = parameters;
  position = Some p;
  size = Some size;
  ruling = ruling_by mode (rule_in a);
  by = by;
}

-- the rule of one of so many nodes is entered, by this element and with these parameters
abbrev pub applied : {N : Type 0} → Place → Option Expanded → (parameters : List (Bound N)) → (size depth : ℕ) → N → ℕ → Plan N → Plan N
applied by mode parameters size depth n p after =
    Inquire (question.Choice n mode AllRules) (λ a. Enter (rule_call by mode parameters size n p a) depth after)

abbrev pub applied_to : {N : Type 0} → Place → Option Expanded → (parameters : List (Bound N)) → (depth : ℕ) → List N → Plan N → Plan N
applied_to by mode parameters depth ns after = each (applied by mode parameters (length ns) depth) 1 ns after

-- ---- The rules that the current one overrides (section 5.6): position and size stay, and nothing is passed

abbrev pub imported_call : {N : Type 0} → Site → Here N → Option Expanded → Answer N → Call N
imported_call site h mode a = record {
  target = target_by mode (rule_in a);
  node = h.node;
  parameters = [];
  position = h.position;
  size = h.size;
  ruling = ruling_by mode (rule_in a);
  by = site.place;
}

abbrev pub no_current_rule : Place → Refused
no_current_rule place = record { code = code.NoCurrentRule; place = place }

-- in the mode of the current rule, of those that its stylesheet imports
abbrev pub imports_applied : {N : Type 0} → Site → Here N → Option CurrentRule → Plan N → Plan N
imports_applied site h None after = Stop (no_current_rule site.place)
imports_applied site h (Some rule) after =
    Inquire (question.Choice h.node rule.mode (Imported rule.first rule.last)) (λ a. Enter (imported_call site h rule.mode a) h.depth after)

-- ---- Named templates (section 6): position, size and the current rule are those of the caller

abbrev pub template_called : {N : Type 0} → Expanded → List (NamedTemplate N) → Option N
template_called name [] = None
template_called name (t ∷ ts) = if same_name t.name name then Some t.element else template_called name ts

abbrev pub template_call : {N : Type 0} → Site → Here N → N → (parameters : List (Bound N)) → Call N
template_call site h element parameters = record {
  target = UnitOf element;
  node = h.node;
  parameters = parameters;
  position = h.position;
  size = h.size;
  ruling = if h.ruled then SameRule else RuleIs None;
  by = site.place;
}

-- the template of this element, where `passing` is what is passed to it
abbrev pub called : {N : Type 0} → Site → Here N → (passing : (List (Bound N) → Plan N) → Plan N) → Option N → Plan N → Plan N
called site h passing None after = Put stream.Ended after
called site h passing (Some element) after = Put stream.Ended (passing (λ parameters. Enter (template_call site h element parameters) h.depth after))

-- ---- Items (section 8): the template in which the content of an xsl:for-each stands is entered for each node, where no template rule is the
-- current one (section 5.6)

abbrev pub item_call : {N : Type 0} → Place → N → (parameters : List (Bound N)) → (size : ℕ) → N → ℕ → Call N
item_call by element parameters size n p = record {
  target = UnitOf element;
  node = n;
  parameters = parameters;
  position = Some p;
  size = Some size;
  ruling = RuleIs None;
  by = by;
}

-- by this element, from a content so deep
abbrev pub items_entered : {N : Type 0} → Place → Option N → (parameters : List (Bound N)) → (depth : ℕ) → List N → Plan N → Plan N
items_entered by None parameters depth ns after = after
items_entered by (Some element) parameters depth ns after =
    each (λ n p more. Enter (item_call by element parameters (length ns) n p) depth more) 1 ns after

-- ---- Copies (sections 7.5 and 11.3)

abbrev pub nodes_copied : {N : Type 0} → List N → Plan N → Plan N
nodes_copied [] after = after
nodes_copied (n ∷ ns) after = Inquire (question.Copy n) (λ a. Put (stream_in a) (nodes_copied ns after))

-- what a value puts into the result: a number or a boolean as its text
abbrev pub value_copied : {N : Type 0} → Value N → Plan N → Plan N
value_copied (value.Nodes ns) after = Put stream.Ended (nodes_copied ns after)
value_copied (value.Fragment s) after = Put (without_attributes s) after
value_copied (value.Text t) after = Put (text_item t) after
value_copied (value.Number n) after = lift nowhere 0 (to_text (value.Number n)) (λ t. Put (text_item t) after)
value_copied (value.Boolean b) after = lift nowhere 0 (to_text (value.Boolean b)) (λ t. Put (text_item t) after)

-- the namespace nodes, each as prefix and URI, behind those that were read
abbrev pub namespaces_read : {N : Type 0} → List N → List (List ℕ × List ℕ) → (List (List ℕ × List ℕ) → Plan N) → Plan N
namespaces_read [] done k = k done
namespaces_read (n ∷ ns) done k =
    Inquire (question.Name n) (λ name. Inquire (question.Text n) (λ uri. namespaces_read ns (done ++ (local_in name, text_in uri) ∷ []) k))

abbrev pub kind_in : {N : Type 0} → Answer N → Kind
kind_in (question.Named kind name written) = kind
kind_in _ = kind.Comment

-- ---- Aliases (section 7.1.1): where a URI of the stylesheet has one, that one's prefix and URI stand in the result

abbrev pub aliased_prefix : List Alias → (prefix uri : List ℕ) → List ℕ
aliased_prefix [] prefix uri = prefix
aliased_prefix (a ∷ more) prefix uri = if bytes_eq a.stylesheet uri then a.prefix else aliased_prefix more prefix uri

abbrev pub aliased_uri : List Alias → (uri : List ℕ) → List ℕ
aliased_uri [] uri = uri
aliased_uri (a ∷ more) uri = if bytes_eq a.stylesheet uri then a.result else aliased_uri more uri

abbrev pub is_no_uri : List ℕ → Bool
is_no_uri [] = true
is_no_uri (c ∷ cs) = false

-- an attribute of no namespace has none
abbrev pub for_attribute : (uri : List ℕ) → List Alias → List Alias
for_attribute uri aliases = if is_no_uri uri then [] else aliases

-- the namespace nodes, each as prefix and URI, in their order; one that becomes no namespace is left out
abbrev pub namespaces_aliased : List Alias → List (List ℕ × List ℕ) → List (List ℕ × List ℕ)
namespaces_aliased aliases [] = []
namespaces_aliased aliases ((prefix, uri) ∷ more) =
    let rest = namespaces_aliased aliases more in
    if is_no_uri (aliased_uri aliases uri) then rest else (aliased_prefix aliases prefix uri, aliased_uri aliases uri) ∷ rest

abbrev pub element_aliased : List Alias → LiteralTag → Wrapping
element_aliased aliases tag =
    AsElement (with_prefix (aliased_prefix aliases tag.prefix tag.name.uri) tag.name.local) (aliased_uri aliases tag.name.uri)
    (namespaces_aliased aliases tag.namespaces)

abbrev pub attribute_aliased : List Alias → LiteralAttribute → (text : List ℕ) → Stream
attribute_aliased aliases a text =
    let own = for_attribute a.name.uri aliases in
    stream.Attribute (with_prefix (aliased_prefix own a.prefix a.name.uri) a.name.local) (aliased_uri own a.name.uri) (text_item text) stream.Ended

-- ---- Literal result elements (section 7.1.1)

abbrev pub attributes_put : {N : Type 0} → Site → Here N → List LiteralAttribute → Plan N → Plan N
attributes_put site h [] after = after
attributes_put site h (a ∷ more) after =
    asked site h (expanded a.value) (λ t. Put (attribute_aliased h.aliases a t) (attributes_put site h more after))

-- ---- Attribute sets (section 7.1.4): position, size and the current rule are those where they are used, and nothing is passed

abbrev pub set_call : {N : Type 0} → Place → Here N → N → Call N
set_call by h element = record {
  target = UnitOf element;
  node = h.node;
  parameters = [];
  position = h.position;
  size = h.size;
  ruling = if h.ruled then SameRule else RuleIs None;
  by = by;
}

-- the xsl:attribute-sets of a name, in their order
abbrev pub elements_named : {N : Type 0} → List (NamedSets N) → Expanded → List N
elements_named [] name = []
elements_named (s ∷ ss) name = if same_name s.name name then s.elements else elements_named ss name

-- those that this element uses, name by name
abbrev pub sets_entered : {N : Type 0} → Place → Here N → List N → Plan N → Plan N
sets_entered by h [] after = after
sets_entered by h (element ∷ more) after = Enter (set_call by h element) h.depth (sets_entered by h more after)

abbrev pub sets_used : {N : Type 0} → Place → Here N → List Expanded → Plan N → Plan N
sets_used by h names after = sets_entered by h (flat_map (elements_named h.sets) names) after

-- ---- Sorting (section 10)

-- how each key compares, asked where the instruction stands, after those before
abbrev pub criteria_asked : {N : Type 0} → List SortKey → Here N → List Criterion → (List Criterion → Plan N) → Plan N
criteria_asked [] h done k = k done
criteria_asked (key ∷ more) h done k = asked key.site h (criterion_meant key) (λ c. criteria_asked more h (done ++ c ∷ []) k)

-- the keys of one node, after those before
abbrev pub keys_asked : {N : Type 0} → List SortKey → List Criterion → Here N → List KeyValue → (List KeyValue → Plan N) → Plan N
keys_asked [] criteria h done k = k done
keys_asked (key ∷ more) [] h done k = k done
keys_asked (key ∷ more) (c ∷ cs) h done k = asked key.site h (key_meant key c) (λ v. keys_asked more cs h (done ++ v ∷ []) k)

-- node by node, the next of which has this position in the list that is not sorted, after those before
abbrev pub rows_asked : {N : Type 0} → List SortKey → List Criterion → (size : ℕ) → Here N → (position : ℕ) → List N → List (Row N) → (List (Row N) → Plan N) → Plan N
rows_asked keys criteria size h position [] done k = k done
rows_asked keys criteria size h position (n ∷ ns) done k =
    keys_asked keys criteria (at n position size h) [] (λ vs. rows_asked keys criteria size h (suc position) ns (done ++ row n vs ∷ []) k)

-- nodes in the order of their keys; without a key in document order
abbrev pub sorted : {N : Type 0} → List SortKey → Here N → List N → (List N → Plan N) → Plan N
sorted [] h ns k = k ns
sorted (key ∷ more) h ns k =
    criteria_asked (key ∷ more) h [] (λ cs. rows_asked (key ∷ more) cs (length ns) h 1 ns [] (λ rows. Put stream.Ended (k (nodes_in_order cs rows))))

-- ---- Contents

abbrev pub planned_without : {N : Type 0} → Site → Here N → made.WithoutContent → Plan N → Plan N
planned_without site h (made.Text text) after = Put (text_item text) after
planned_without site h (made.ValueOf e) after = asked site h (text_meant e) (λ t. Put (text_item t) after)
planned_without site h (made.CopyOf e) after = asked site h (meaning e) (λ v. value_copied v after)
planned_without site h (made.Number numbering) after = asked site h (number_meant h.same numbering) (λ t. Put (text_item t) after)
planned_without site h made.ApplyImports after =
    if h.ruled then Use Rule h.depth site.place (λ g. imports_applied site h (current_in g) after) else imports_applied site h None after
planned_without site h made.Fallback after = Put stream.Ended after

-- an xsl:copy of this node, of which this is its name, where `inside` is its content before what follows; an element alone uses attribute sets
abbrev pub copied_as : {N : Type 0} → Place → Here N → List Expanded → Answer N → (inside : Plan N → Plan N) → Plan N → Plan N
copied_as by h sets a inside after = elim (kind_in a) [
  | kind.Root ↦ inside after
  | kind.Element ↦ Inquire (question.Step h.node axis.Namespace (OfType type.Node)) (λ ns. namespaces_read (nodes_in ns) []
      (λ namespaces. Begin (sets_used by h sets (inside (Wrap (AsElement (written_in a) (uri_in a) namespaces) after)))))
  | kind.Attribute ↦ Inquire (question.Copy h.node) (λ c. Put (stream_in c) after)
  | kind.Namespace ↦ Inquire (question.Copy h.node) (λ c. Put (stream_in c) after)
  | kind.Text ↦ Inquire (question.Copy h.node) (λ c. Put (stream_in c) after)
  | kind.Comment ↦ Inquire (question.Copy h.node) (λ c. Put (stream_in c) after)
  | kind.Instruction ↦ Inquire (question.Copy h.node) (λ c. Put (stream_in c) after)
]

-- a message that terminates ends the run, at its element (section 13)
abbrev pub terminated : Place → Refused
terminated place = record { code = code.Terminated; place = place }

abbrev pub unless_terminated : {N : Type 0} → Bool → Place → Plan N → Plan N
unless_terminated terminates place after = if terminates then Stop (terminated place) else after

-- an instruction with a content, where `inside` is that content before what follows
abbrev pub planned_with : {N : Type 0} → Site → Here N → made.WithContent → (inside : Plan N → Plan N) → Plan N → Plan N
planned_with site h (made.Literal tag) inside after =
    Begin (sets_used site.place h tag.sets (attributes_put site h tag.attributes (inside (Wrap (element_aliased h.aliases tag) after))))
planned_with site h (made.Element name sets) inside after =
    asked site h (element_meant name) (λ w. Begin (sets_used site.place h sets (inside (Wrap w after))))
planned_with site h (made.Attribute name) inside after = asked site h (attribute_meant name) (λ w. Begin (inside (Wrap w after)))
planned_with site h made.Comment inside after = Begin (inside (Wrap AsComment after))
planned_with site h (made.ProcessingInstruction target) inside after = asked site h (instruction_meant target) (λ w. Begin (inside (Wrap w after)))
planned_with site h (made.Copy sets) inside after = Inquire (question.Name h.node) (λ a. copied_as site.place h sets a inside after)
planned_with site h (made.Message terminates) inside after = Begin (inside (Wrap AsMessage (unless_terminated terminates site.place after)))
-- a variable makes nothing of its content: it is what those see that follow it
planned_with site h (made.Variable name select) inside after = Put stream.Ended after

-- ---- Variables and parameters (section 11)

abbrev pub is_empty : Instrs → Bool
is_empty no_instrs = true
is_empty (instr site form is) = false

-- What a variable or a parameter at an element holds: the value of its select; or a fragment of its content, which `inside` is before what
-- follows; with neither the empty string. A value has no holes, and what is taken has none to fill, since all that is entered has none
abbrev pub valued : {N : Type 0} → Site → Here N → (select : Option Expr) → (is_empty : Bool) → (inside : Plan N → Plan N) → (Value N → Plan N) → Plan N
valued site h (Some e) is_empty inside k = asked site h (meaning e) (λ v. Put stream.Ended (k v))
valued site h None true inside k = Put stream.Ended (k (value.Text []))
valued site h None false inside k = Begin (inside (Take (λ s. k (value.Fragment (filled s [])))))

-- a parameter that was passed is not evaluated
abbrev pub unless_passed : {N : Type 0} → Option (Value N) → (default : Plan N) → (Value N → Plan N) → Plan N
unless_passed None default k = default
unless_passed (Some v) default k = Put stream.Ended (k v)

abbrev mutual
  pub planned : {N : Type 0} → Instrs → Here N → Plan N → Plan N
  planned no_instrs h after = after
  planned (instr site form is) h after = plan site form h (λ here. planned is here after)

  -- One instruction, before the rest of its content. The rest stands where the instruction does, but that it sees a variable
  pub plan : {N : Type 0} → Site → Form → Here N → (rest : Here N → Plan N) → Plan N
  plan site (without_content what) h rest = planned_without site h what (rest h)
  plan site (with_content (made.Variable name select) is) h rest =
      valued site h select (is_empty is) (λ more. Deep (suc h.depth) site.place (planned is (deeper h) more)) (λ v. rest (with_variable name v h))
  plan site (with_content what is) h rest = planned_with site h what (λ more. Deep (suc h.depth) site.place (planned is (deeper h) more)) (rest h)
  plan site (control c) h rest = planned_control site c h (rest h)

  -- what is passed, after what was before it. The last of one name comes first, so that it counts
  pub passed : {N : Type 0} → Bindings → Here N → List (Bound N) → (List (Bound N) → Plan N) → Plan N
  passed no_bindings h done k = k done
  passed (binding site name select is more) h done k =
      valued site h select (is_empty is) (λ after. Deep (suc h.depth) site.place (planned is (deeper h) after))
      (λ v. passed more h (record { name = name; value = v } ∷ done) k)

  pub planned_control : {N : Type 0} → Site → Control → Here N → Plan N → Plan N
  planned_control site (for_each e keys is) h after =
      asked site h (nodes_meant e) (λ ns. Put stream.Ended (sorted keys h ns
      (λ ms. each (λ n p more. Deep (suc h.depth) site.place (planned is (deeper (at n p (length ms) h)) more)) 1 ms after)))
  planned_control site (for_items e keys name bs) h after =
      asked site h (nodes_meant e) (λ ns. Put stream.Ended
      (passed bs h [] (λ parameters. sorted keys h ns
      (λ ms. items_entered site.place (template_called name h.templates) parameters h.depth ms after))))
  planned_control site (conditional e is) h after =
      asked site h (truth_meant e) (λ b. if b then Deep (suc h.depth) site.place (planned is (deeper h) after) else Put stream.Ended after)
  planned_control site (choose bs) h after = planned_branches bs h after
  planned_control site (apply_templates s bs) h after =
      asked site h (nodes_meant s.select) (λ ns. Put stream.Ended
      (passed bs h [] (λ parameters. sorted s.keys h ns (λ ms. applied_to site.place s.mode parameters h.depth ms after))))
  planned_control site (call_template name bs) h after = called site h (λ k. passed bs h [] k) (template_called name h.templates) after

  -- the first branch whose test is true, or that has none
  pub planned_branches : {N : Type 0} → Branches → Here N → Plan N → Plan N
  planned_branches no_branches h after = Put stream.Ended after
  planned_branches (branch site None is more) h after = Deep (suc h.depth) site.place (planned is (deeper h) after)
  planned_branches (branch site (Some e) is more) h after =
      asked site h (truth_meant e) (λ b. if b then Deep (suc h.depth) site.place (planned is (deeper h) after) else planned_branches more h after)

-- ---- Instantiations

abbrev pub here_in : {N : Type 0} → (N → N → Bool) → N → ResolvedUnit N → Here N
here_in same n u = record {
  node = n;
  position = None;
  size = None;
  bindings = [];
  depth = 0;
  ruled = true;
  templates = u.templates;
  sets = u.sets;
  aliases = u.aliases;
  same = same;
}

-- the parameters of a template, each seen by those after it: what was passed, or its default
abbrev pub with_parameters : {N : Type 0} → Bindings → (given : List (Bound N)) → Here N → (Here N → Plan N) → Plan N
with_parameters no_bindings given h k = k h
with_parameters {N = N} (binding site name select is more) given h k =
    let rest : Value N → Plan N = λ v. with_parameters more given (with_variable name v h) k in
    unless_passed (binding_of name given)
    (valued site h select (is_empty is) (λ after. Deep (suc h.depth) site.place (planned is (deeper h) after)) rest) rest

-- what a global holds (section 11.4). Its content stands at its own level
abbrev pub held : {N : Type 0} → Binding → Here N → Plan N
held b h = elim b.select [
  | Some e ↦ asked b.site h (meaning e) (λ v. Yield v)
  | None ↦ if is_empty b.content then Yield (value.Text []) else planned b.content h End
]

-- a parameter at the top whose name has no prefix may be given from outside, as a string
abbrev pub may_be_given : sheet.GlobalBinding → Bool
may_be_given g = g.is_parameter && is_no_uri g.binding.name.uri

abbrev pub unless_given : {N : Type 0} → Answer N → Plan N → Plan N
unless_given (question.Passed (Some text)) own = Yield (value.Text text)
unless_given _ own = own

abbrev pub global_planned : {N : Type 0} → sheet.GlobalBinding → Here N → Plan N
global_planned g h =
    if may_be_given g then Inquire (question.External g.binding.name.local) (λ a. unless_given a (held g.binding h)) else held g.binding h

-- an attribute set first uses those that it names, and its attributes stand at its own level
abbrev pub declared_planned : {N : Type 0} → Place → sheet.Declared → (given : List (Bound N)) → Here N → Plan N
declared_planned place (sheet.ATemplate t) given h = with_parameters t.parameters given h (λ here. planned t.content here End)
declared_planned place (sheet.AGlobal g) given h = global_planned g h
declared_planned place (sheet.ASet s) given h = sets_used place h s.sets (planned s.attributes h End)
declared_planned place (sheet.AKey k) given h = End

abbrev pub unit_planned : {N : Type 0} → (N → N → Bool) → N → (given : List (Bound N)) → Answer N → Plan N
unit_planned same n given (question.Resolved u) = declared_planned u.unit.site.place u.unit.declared given (here_in same n u)
unit_planned same n given _ = End

-- built-in rules (section 5.8): a root and an element apply templates to their children in the same mode and pass nothing, a text and an
-- attribute give their text, the others nothing
abbrev pub children_applied : {N : Type 0} → Option Expanded → N → Plan N
children_applied mode n = Inquire (question.Step n axis.Child (OfType type.Node)) (λ a. applied_to nowhere mode [] 0 (nodes_in a) End)

abbrev pub text_put : {N : Type 0} → N → Plan N
text_put n = Inquire (question.Text n) (λ a. Put (text_item (text_in a)) End)

abbrev pub built_in : {N : Type 0} → Option Expanded → N → Plan N
built_in mode n = Inquire (question.Name n) (λ a. elim (kind_in a) [
  | kind.Root ↦ children_applied mode n
  | kind.Element ↦ children_applied mode n
  | kind.Attribute ↦ text_put n
  | kind.Text ↦ text_put n
  | kind.Namespace ↦ End
  | kind.Comment ↦ End
  | kind.Instruction ↦ End
])

abbrev pub plan_of : {N : Type 0} → (N → N → Bool) → Call N → Plan N
plan_of same c = elim c.target [
  | UnitOf element ↦ Inquire (question.Unit element) (λ a. unit_planned same c.node c.parameters a)
  | BuiltIn mode ↦ built_in mode c.node
]
