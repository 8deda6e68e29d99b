-- What is instantiated passes on values in order alone.
use Rattle.std.proofs.Common.{ℕ, suc, List, [], ◌∷◌, length, Bool, true, false, cond, Option, None, Some}
use Rattle.std.specs.List.{flat_map}
use Rattle.spec_document.specs.declared.axis.Axis.TheVariants as axis
use Rattle.spec_document.specs.declared.kind.Kind.{Kind}
use Rattle.spec_document.specs.declared.kind.Kind.TheVariants as kind
use Rattle.spec_document.specs.Name.{Expanded, same_name}
use Rattle.spec_expression.specs.declared.NodeType.TheVariants as type
use Rattle.spec_expression.specs.Syntax.{Expr, OfType}
use Rattle.spec_stylesheet.specs.Place.{Place, Site}
use Rattle.spec_stylesheet.specs.Instruction as made
use Rattle.spec_stylesheet.specs.Instruction.{SortKey, LiteralAttribute, Form, without_content, with_content, control, Control, for_each, for_items}
use Rattle.spec_stylesheet.specs.Instruction.{conditional, choose}
use Rattle.spec_stylesheet.specs.Instruction.{apply_templates, call_template, Instrs, no_instrs, instr, Branches, no_branches, branch}
use Rattle.spec_stylesheet.specs.Instruction.{no_bindings, binding, Binding}
use Rattle.spec_stylesheet.specs.Sheet as sheet
use Rattle.spec_meaning.specs.Value as value
use Rattle.spec_meaning.specs.Value.{Value}
use Rattle.spec_meaning.specs.Question as question
use Rattle.spec_meaning.specs.Question.{Answer, nodes_in, text_in, written_in, uri_in}
use Rattle.spec_meaning.specs.Program.{CurrentRule, Program, current_in}
use Rattle.spec_meaning.specs.Context.{Bound, binding_of}
use Rattle.spec_meaning.specs.Meaning.{meaning}
use Rattle.spec_transform.specs.Sorted.{Criterion, KeyValue, Row}
use Rattle.spec_run.specs.Plan.{nowhere, Call, Target, UnitOf, BuiltIn, AsElement, Plan, End, Yield, Inquire, Put, Begin, Wrap, Deep, Enter, lift}
use Rattle.spec_run.specs.Copy.{stream_in}
use Rattle.spec_run.specs.Content as content
use Rattle.spec_run.specs.Content.{Here, deeper, at, with_variable, context_at, text_meant, nodes_meant, truth_meant, asked, each, text_item}
use Rattle.spec_run.specs.Content.{rule_call, applied, applied_to, imports_applied, called, nodes_copied, value_copied, namespaces_read, kind_in}
use Rattle.spec_run.specs.Content.{attributes_put, template_called, item_call, items_entered}
use Rattle.spec_run.specs.Content.{set_call, elements_named, sets_entered, sets_used, criteria_asked, keys_asked, rows_asked, sorted}
use Rattle.spec_run.specs.Content.{planned_without, copied_as, planned_with, unless_terminated, is_empty, valued, unless_passed, planned, plan}
use Rattle.spec_run.specs.Content.{planned_control}
use Rattle.spec_run.specs.Content.{planned_branches, with_parameters, may_be_given, unless_given, global_planned, declared_planned, unit_planned}
use Rattle.spec_run.specs.Content.{children_applied, text_put, built_in, plan_of}
use Rattle.spec_order.specs.NodeSet.{IsInOrder, VariablesAreInOrder}
use Rattle.spec_order.specs.Run.{KeepsOrder, ends, yields, stops, inquires, uses, puts, begins, wraps, takes, goes_deep, enters}
use Rattle.spec_order.proofs.Ends as program
use Rattle.spec_order.proofs.Ends.{Ends, Anything, all_end}
use Rattle.spec_order.proofs.Meanings.{meaning_ends}

-- ---- plans of programs
either_keeps : {N : Type 0} {before : N → N → Bool} (b : Bool) {p q : Plan N} → KeepsOrder before p → KeepsOrder before q
    → KeepsOrder before (cond b p q)
either_keeps true h g = h
either_keeps false h g = g

lift_keeps : {N A : Type 0} {before : N → N → Bool} {P : A → Type 0} (place : Place) (depth : ℕ) {p : Program N A} {k : A → Plan N}
    → Ends before P p → ((a : A) → P a → KeepsOrder before (k a)) → KeepsOrder before (lift place depth p k)
unfolding lift
lift_keeps place depth (program.gives h) g = g _ h
lift_keeps place depth program.refuses g = stops
lift_keeps place depth (program.asks next) g = inquires (λ a e. lift_keeps place depth (next a e) g)
lift_keeps place depth (program.needs next) g = uses (λ x e. lift_keeps place depth (next x e) g)

-- whatever the program gives
lift_any : {N A : Type 0} {before : N → N → Bool} (place : Place) (depth : ℕ) (p : Program N A) {k : A → Plan N}
    → ((a : A) → KeepsOrder before (k a)) → KeepsOrder before (lift place depth p k)
lift_any place depth p g = lift_keeps place depth (all_end {P = Anything} (λ a. tt) p) (λ a h. g a)

each_keeps : {N : Type 0} (before : N → N → Bool) (f : N → ℕ → Plan N → Plan N)
    → ((n : N) (position : ℕ) (p : Plan N) → KeepsOrder before p → KeepsOrder before (f n position p))
    → (position : ℕ) (ns : List N) {p : Plan N} → KeepsOrder before p → KeepsOrder before (each f position ns p)
each_keeps before f keeps position [] h = h
each_keeps before f keeps position (n ∷ ns) h = keeps n position _ (each_keeps before f keeps (suc position) ns h)

-- ---- what is entered
applied_to_keeps : {N : Type 0} {before : N → N → Bool} (by : Place) (mode : Option Expanded) (bs : List (Bound N))
    → VariablesAreInOrder before bs → (depth : ℕ)
    (ns : List N) {p : Plan N} → KeepsOrder before p → KeepsOrder before (applied_to by mode bs depth ns p)
applied_to_keeps {before = before} by mode bs order depth ns h =
    each_keeps before (applied by mode bs _ depth) (λ n position p k. inquires (λ a e. enters order k)) 1 ns h

imports_keep : {N : Type 0} {before : N → N → Bool} (site : Site) (h : Here N) (rule : Option CurrentRule) {p : Plan N} → KeepsOrder before p
    → KeepsOrder before (imports_applied site h rule p)
imports_keep site h None k = stops
imports_keep site h (Some rule) k = inquires (λ a e. enters tt k)

-- what follows values that are passed
abbrev After : {N : Type 0} → (N → N → Bool) → (List (Bound N) → Plan N) → Type 0
After {N = N} before k = (bs : List (Bound N)) → VariablesAreInOrder before bs → KeepsOrder before (k bs)

called_keeps : {N : Type 0} {before : N → N → Bool} (site : Site) (h : Here N) {passing : (List (Bound N) → Plan N) → Plan N}
    → ((k : List (Bound N) → Plan N) → After before k → KeepsOrder before (passing k)) → (n : Option N) {p : Plan N} → KeepsOrder before p
    → KeepsOrder before (called site h passing n p)
called_keeps site h inner None k = puts k
called_keeps site h inner (Some element) k = puts (inner _ (λ bs order. enters order k))

-- the same element for each node
items_keep : {N : Type 0} {before : N → N → Bool} (by : Place) (bs : List (Bound N)) → VariablesAreInOrder before bs → (element : Option N)
    → (depth : ℕ) (ns : List N) {p : Plan N} → KeepsOrder before p → KeepsOrder before (items_entered by element bs depth ns p)
items_keep by bs order None depth ns h = h
items_keep {before = before} by bs order (Some element) depth ns h =
    each_keeps before (λ n p more. Enter (item_call by element bs (length ns) n p) depth more) (λ n position p k. enters order k) 1 ns h

-- ---- copies
nodes_copied_keep : {N : Type 0} {before : N → N → Bool} (ns : List N) {p : Plan N} → KeepsOrder before p → KeepsOrder before (nodes_copied ns p)
nodes_copied_keep [] k = k
nodes_copied_keep (n ∷ ns) k = inquires (λ a e. puts (nodes_copied_keep ns k))

value_copied_keeps : {N : Type 0} {before : N → N → Bool} (v : Value N) {p : Plan N} → KeepsOrder before p → KeepsOrder before (value_copied v p)
value_copied_keeps (value.Nodes ns) k = puts (nodes_copied_keep ns k)
value_copied_keeps (value.Fragment s) k = puts k
value_copied_keeps (value.Text t) k = puts k
value_copied_keeps (value.Number n) k = lift_any _ _ _ (λ t. puts k)
value_copied_keeps (value.Boolean b) k = lift_any _ _ _ (λ t. puts k)

namespaces_keep : {N : Type 0} {before : N → N → Bool} (ns : List N) (done : List (List ℕ × List ℕ)) {k : List (List ℕ × List ℕ) → Plan N}
    → ((done : List (List ℕ × List ℕ)) → KeepsOrder before (k done)) → KeepsOrder before (namespaces_read ns done k)
namespaces_keep [] done later = later done
namespaces_keep (n ∷ ns) done later = inquires (λ a e. inquires (λ b f. namespaces_keep ns _ later))

attributes_keep : {N : Type 0} {before : N → N → Bool} (site : Site) (h : Here N) (attributes : List LiteralAttribute) {p : Plan N}
    → KeepsOrder before p
    → KeepsOrder before (attributes_put site h attributes p)
attributes_keep site h [] k = k
attributes_keep site h (a ∷ more) k = lift_any _ _ _ (λ t. puts (attributes_keep site h more k))

sets_entered_keep : {N : Type 0} {before : N → N → Bool} (by : Place) (h : Here N) (elements : List N) {p : Plan N} → KeepsOrder before p
    → KeepsOrder before (sets_entered by h elements p)
sets_entered_keep by h [] k = k
sets_entered_keep by h (element ∷ more) k = enters tt (sets_entered_keep by h more k)

sets_keep : {N : Type 0} {before : N → N → Bool} (by : Place) (h : Here N) (names : List Expanded) {p : Plan N} → KeepsOrder before p
    → KeepsOrder before (sets_used by h names p)
sets_keep by h names k = sets_entered_keep by h (flat_map (elements_named h.sets) names) k

-- ---- sorting
criteria_keep : {N : Type 0} {before : N → N → Bool} (keys : List SortKey) (h : Here N) (done : List Criterion) {k : List Criterion → Plan N}
    → ((cs : List Criterion) → KeepsOrder before (k cs)) → KeepsOrder before (criteria_asked keys h done k)
criteria_keep [] h done next = next done
criteria_keep (key ∷ more) h done next = lift_any _ _ _ (λ c. criteria_keep more h _ next)

keys_keep : {N : Type 0} {before : N → N → Bool} (keys : List SortKey) (criteria : List Criterion) (h : Here N) (done : List KeyValue)
    {k : List KeyValue → Plan N} → ((vs : List KeyValue) → KeepsOrder before (k vs)) → KeepsOrder before (keys_asked keys criteria h done k)
keys_keep [] criteria h done next = next done
keys_keep (key ∷ more) [] h done next = next done
keys_keep (key ∷ more) (c ∷ cs) h done next = lift_any _ _ _ (λ v. keys_keep more cs h _ next)

rows_keep : {N : Type 0} {before : N → N → Bool} (keys : List SortKey) (criteria : List Criterion) (size : ℕ) (h : Here N) (position : ℕ)
    (ns : List N)
    (done : List (Row N)) {k : List (Row N) → Plan N} → ((rows : List (Row N)) → KeepsOrder before (k rows))
    → KeepsOrder before (rows_asked keys criteria size h position ns done k)
rows_keep keys criteria size h position [] done next = next done
rows_keep keys criteria size h position (n ∷ ns) done next =
    keys_keep keys criteria (at n position size h) [] (λ vs. rows_keep keys criteria size h (suc position) ns _ next)

sorted_keeps : {N : Type 0} {before : N → N → Bool} (keys : List SortKey) (h : Here N) (ns : List N) {k : List N → Plan N}
    → ((ms : List N) → KeepsOrder before (k ms)) → KeepsOrder before (sorted keys h ns k)
sorted_keeps [] h ns next = next ns
sorted_keeps (key ∷ more) h ns next =
    criteria_keep (key ∷ more) h [] (λ cs. rows_keep (key ∷ more) cs _ h 1 ns [] (λ rows. puts (next _)))

-- ---- instructions
without_keeps : {N : Type 0} {before : N → N → Bool} (site : Site) (h : Here N) (what : made.WithoutContent) {p : Plan N} → KeepsOrder before p
    → KeepsOrder before (planned_without site h what p)
without_keeps site h (made.Text t) k = puts k
without_keeps site h (made.ValueOf e) k = lift_any _ _ _ (λ t. puts k)
without_keeps site h (made.CopyOf e) k = lift_any _ _ _ (λ v. value_copied_keeps v k)
without_keeps site h (made.Number numbering) k = lift_any _ _ _ (λ t. puts k)
without_keeps site h made.ApplyImports k = either_keeps h.ruled (uses (λ g e. imports_keep site h (current_in g) k)) stops
without_keeps site h made.Fallback k = puts k

-- a content before what follows it
abbrev Inside : {N : Type 0} → (N → N → Bool) → (Plan N → Plan N) → Type 0
Inside {N = N} before inside = (p : Plan N) → KeepsOrder before p → KeepsOrder before (inside p)

copied_keeps : {N : Type 0} {before : N → N → Bool} (by : Place) (h : Here N) (sets : List Expanded) (a : Answer N) {inside : Plan N → Plan N}
    → Inside before inside → {p : Plan N} → KeepsOrder before p → KeepsOrder before (copied_as by h sets a inside p)
copied_keeps {N} {before = before} by h sets a {inside = inside} inner {p = p} k = go (kind_in a)
  where
    go : (kind_of_it : Kind) → KeepsOrder before (elim kind_of_it [
      | kind.Root ↦ inside p
      | kind.Element ↦ Inquire (question.Step h.node axis.Namespace (OfType type.Node)) (λ ns. namespaces_read (nodes_in ns) []
          (λ namespaces. Begin (sets_used by h sets (inside (Wrap (AsElement (written_in a) (uri_in a) namespaces) p)))))
      | kind.Attribute ↦ Inquire (question.Copy h.node) (λ c. Put (stream_in c) p)
      | kind.Namespace ↦ Inquire (question.Copy h.node) (λ c. Put (stream_in c) p)
      | kind.Text ↦ Inquire (question.Copy h.node) (λ c. Put (stream_in c) p)
      | kind.Comment ↦ Inquire (question.Copy h.node) (λ c. Put (stream_in c) p)
      | kind.Instruction ↦ Inquire (question.Copy h.node) (λ c. Put (stream_in c) p)
    ])
    go kind.Root = inner _ k
    go kind.Element = inquires (λ ns e. namespaces_keep (nodes_in ns) [] (λ namespaces. begins (sets_keep by h sets (inner _ (wraps k)))))
    go kind.Attribute = inquires (λ c e. puts k)
    go kind.Namespace = inquires (λ c e. puts k)
    go kind.Text = inquires (λ c e. puts k)
    go kind.Comment = inquires (λ c e. puts k)
    go kind.Instruction = inquires (λ c e. puts k)

with_keeps : {N : Type 0} {before : N → N → Bool} (site : Site) (h : Here N) (what : made.WithContent) {inside : Plan N → Plan N}
    → Inside before inside
    → {p : Plan N} → KeepsOrder before p → KeepsOrder before (planned_with site h what inside p)
with_keeps site h (made.Literal tag) inner k = begins (sets_keep site.place h tag.sets (attributes_keep site h tag.attributes (inner _ (wraps k))))
with_keeps site h (made.Element name sets) inner k = lift_any _ _ _ (λ w. begins (sets_keep site.place h sets (inner _ (wraps k))))
with_keeps site h (made.Attribute name) inner k = lift_any _ _ _ (λ w. begins (inner _ (wraps k)))
with_keeps site h made.Comment inner k = begins (inner _ (wraps k))
with_keeps site h (made.ProcessingInstruction target) inner k = lift_any _ _ _ (λ w. begins (inner _ (wraps k)))
with_keeps site h (made.Copy sets) inner k = inquires (λ a e. copied_keeps site.place h sets a inner k)
with_keeps site h (made.Message terminates) inner k = begins (inner _ (wraps (either_keeps terminates stops k)))
with_keeps site h (made.Variable name select) inner k = puts k

-- ---- variables and parameters
-- what follows a value
abbrev Later : {N : Type 0} → (N → N → Bool) → (Value N → Plan N) → Type 0
Later {N = N} before k = (v : Value N) → IsInOrder before v → KeepsOrder before (k v)

valued_keeps : {N : Type 0} {before : N → N → Bool} (site : Site) (h : Here N) → VariablesAreInOrder before h.bindings
    → (select : Option Expr) (is_empty : Bool)
    {inside : Plan N → Plan N} → Inside before inside → {k : Value N → Plan N} → Later before k
    → KeepsOrder before (valued site h select is_empty inside k)
valued_keeps site h order (Some e) is_empty inner later = lift_keeps _ _ (meaning_ends e (context_at h site) order) (λ v g. puts (later v g))
valued_keeps site h order None true inner later = puts (later _ tt)
valued_keeps site h order None false inner later = begins (inner _ (takes (λ s. later _ tt)))

unless_passed_keeps : {N : Type 0} {before : N → N → Bool} (name : Expanded) (given : List (Bound N)) → VariablesAreInOrder before given
    → {default : Plan N} → KeepsOrder before default → {k : Value N → Plan N} → Later before k
    → KeepsOrder before (unless_passed (binding_of name given) default k)
unless_passed_keeps name [] order own later = own
unless_passed_keeps {N} {before = before} name (b ∷ bs) order {default = default} own {k = k} later =
    go (same_name b.name name) (unless_passed_keeps name bs order.1 own later)
  where
    go : (is_it : Bool) → KeepsOrder before (unless_passed (binding_of name bs) default k)
        → KeepsOrder before (unless_passed (cond is_it (Some b.value) (binding_of name bs)) default k)
    go true rest = puts (later b.value order.0)
    go false rest = rest

-- what follows where an instruction stands, with what it declares
abbrev Following : {N : Type 0} → (N → N → Bool) → (Here N → Plan N) → Type 0
Following {N = N} before rest = (h : Here N) → VariablesAreInOrder before h.bindings → KeepsOrder before (rest h)

inside_keeps : {N : Type 0} {before : N → N → Bool} (site : Site) (is : Instrs) (h : Here N) → Inside before (planned is (deeper h))
    → Inside before (λ p. Deep (suc h.depth) site.place (planned is (deeper h) p))
inside_keeps site is h inner p k = goes_deep (inner p k)

content_keeps : {N : Type 0} {before : N → N → Bool} (site : Site) (what : made.WithContent) (is : Instrs) (h : Here N)
    → VariablesAreInOrder before h.bindings
    → Inside before (planned is (deeper h)) → {rest : Here N → Plan N} → Following before rest
    → KeepsOrder before (plan site (with_content what is) h rest)
content_keeps site (made.Variable name select) is h order inner next =
    valued_keeps site h order select (is_empty is) (inside_keeps site is h inner) (λ v g. next _ (g, order))
content_keeps site (made.Literal tag) is h order inner next = with_keeps site h (made.Literal tag) (inside_keeps site is h inner) (next h order)
content_keeps site (made.Element name sets) is h order inner next =
    with_keeps site h (made.Element name sets) (inside_keeps site is h inner) (next h order)
content_keeps site (made.Attribute name) is h order inner next = with_keeps site h (made.Attribute name) (inside_keeps site is h inner) (next h order)
content_keeps site made.Comment is h order inner next = with_keeps site h made.Comment (inside_keeps site is h inner) (next h order)
content_keeps site (made.ProcessingInstruction target) is h order inner next =
    with_keeps site h (made.ProcessingInstruction target) (inside_keeps site is h inner) (next h order)
content_keeps site (made.Copy sets) is h order inner next = with_keeps site h (made.Copy sets) (inside_keeps site is h inner) (next h order)
content_keeps site (made.Message terminates) is h order inner next =
    with_keeps site h (made.Message terminates) (inside_keeps site is h inner) (next h order)

mutual
  planned_keeps : {N : Type 0} {before : N → N → Bool} (is : Instrs) (h : Here N) → VariablesAreInOrder before h.bindings → {p : Plan N}
      → KeepsOrder before p
      → KeepsOrder before (planned is h p)
  planned_keeps no_instrs h order k = k
  planned_keeps (instr site form is) h order k = plan_keeps site form h order (λ here there. planned_keeps is here there k)

  plan_keeps : {N : Type 0} {before : N → N → Bool} (site : Site) (form : Form) (h : Here N) → VariablesAreInOrder before h.bindings
      → {rest : Here N → Plan N} → Following before rest → KeepsOrder before (plan site form h rest)
  plan_keeps site (without_content what) h order next = without_keeps site h what (next h order)
  plan_keeps site (with_content what is) h order next = content_keeps site what is h order (λ p k. planned_keeps is (deeper h) order k) next
  plan_keeps site (control c) h order next = control_keeps site c h order (next h order)

  passed_keeps : {N : Type 0} {before : N → N → Bool} (bs : made.Bindings) (h : Here N) → VariablesAreInOrder before h.bindings
      → (done : List (Bound N)) → VariablesAreInOrder before done → {k : List (Bound N) → Plan N} → After before k
      → KeepsOrder before (content.passed bs h done k)
  passed_keeps no_bindings h order done sofar next = next done sofar
  passed_keeps (binding site name select is more) h order done sofar next =
      valued_keeps site h order select (is_empty is) (λ p k. goes_deep (planned_keeps is (deeper h) order k))
      (λ v g. passed_keeps more h order _ (g, sofar) next)

  control_keeps : {N : Type 0} {before : N → N → Bool} (site : Site) (c : Control) (h : Here N) → VariablesAreInOrder before h.bindings → {p : Plan N}
      → KeepsOrder before p → KeepsOrder before (planned_control site c h p)
  control_keeps {before = before} site (for_each e keys is) h order k =
      lift_any _ _ _ (λ ns. puts (sorted_keeps keys h ns (λ ms.
      each_keeps before (λ n position more. Deep (suc h.depth) site.place (planned is (deeper (at n position (length ms) h)) more))
      (λ n position p g. goes_deep (planned_keeps is (deeper (at n position (length ms) h)) order g)) 1 ms k)))
  control_keeps site (for_items e keys name bs) h order k =
      lift_any _ _ _ (λ ns. puts (passed_keeps bs h order [] tt (λ parameters there.
      sorted_keeps keys h ns (λ ms. items_keep site.place parameters there (template_called name h.templates) h.depth ms k))))
  control_keeps site (conditional e is) h order k =
      lift_any _ _ _ (λ b. either_keeps b (goes_deep (planned_keeps is (deeper h) order k)) (puts k))
  control_keeps site (choose bs) h order k = branches_keep bs h order k
  control_keeps site (apply_templates s bs) h order k =
      lift_any _ _ _ (λ ns. puts (passed_keeps bs h order [] tt (λ parameters there.
      sorted_keeps s.keys h ns (λ ms. applied_to_keeps site.place s.mode parameters there h.depth ms k))))
  control_keeps site (call_template name bs) h order k = called_keeps site h (λ f next. passed_keeps bs h order [] tt next) _ k

  branches_keep : {N : Type 0} {before : N → N → Bool} (bs : Branches) (h : Here N) → VariablesAreInOrder before h.bindings → {p : Plan N}
      → KeepsOrder before p → KeepsOrder before (planned_branches bs h p)
  branches_keep no_branches h order k = puts k
  branches_keep (branch site None is more) h order k = goes_deep (planned_keeps is (deeper h) order k)
  branches_keep (branch site (Some e) is more) h order k =
      lift_any _ _ _ (λ b. either_keeps b (goes_deep (planned_keeps is (deeper h) order k)) (branches_keep more h order k))

-- ---- instantiations
parameters_keep : {N : Type 0} {before : N → N → Bool} (bs : made.Bindings) (given : List (Bound N)) → VariablesAreInOrder before given → (h : Here N)
    → VariablesAreInOrder before h.bindings → {k : Here N → Plan N} → Following before k → KeepsOrder before (with_parameters bs given h k)
parameters_keep no_bindings given there h order next = next h order
parameters_keep {N} {before = before} (binding site name select is more) given there h order {k = k} next =
    let later : Later before (λ v. with_parameters more given (with_variable name v h) k) =
    λ v g. parameters_keep more given there (with_variable name v h) (g, order) next in
    unless_passed_keeps name given there
    (valued_keeps site h order select (is_empty is) (λ p g. goes_deep (planned_keeps is (deeper h) order g)) later) later

-- what a global with this select holds
abbrev held_with : {N : Type 0} → Binding → Here N → Option Expr → Plan N
held_with b h select = elim select [
  | Some e ↦ asked b.site h (meaning e) (λ v. Yield v)
  | None ↦ cond (is_empty b.content) (Yield (value.Text [])) (planned b.content h End)
]

held_keeps : {N : Type 0} {before : N → N → Bool} (b : Binding) (h : Here N) → VariablesAreInOrder before h.bindings → (select : Option Expr)
    → KeepsOrder before (held_with b h select)
held_keeps b h order (Some e) = lift_keeps _ _ (meaning_ends e (context_at h b.site) order) (λ v g. yields g)
held_keeps b h order None = either_keeps (is_empty b.content) (yields tt) (planned_keeps b.content h order ends)

unless_given_keeps : {N : Type 0} {before : N → N → Bool} (a : Answer N) {p : Plan N} → KeepsOrder before p → KeepsOrder before (unless_given a p)
unless_given_keeps (question.Passed (Some text)) own = yields tt
unless_given_keeps (question.Passed None) own = own
unless_given_keeps question.Gone own = own
unless_given_keeps (question.Refused why) own = own
unless_given_keeps (question.SomeNodes nodes) own = own
unless_given_keeps (question.SomeText text) own = own
unless_given_keeps (question.Named kind name written) own = own
unless_given_keeps (question.Chosen rule) own = own
unless_given_keeps (question.Copied stream) own = own
unless_given_keeps (question.Resolved unit) own = own

global_keeps : {N : Type 0} {before : N → N → Bool} (g : sheet.GlobalBinding) (h : Here N) → VariablesAreInOrder before h.bindings
    → KeepsOrder before (global_planned g h)
global_keeps g h order =
    either_keeps (may_be_given g) (inquires (λ a e. unless_given_keeps a (held_keeps g.binding h order g.binding.select)))
    (held_keeps g.binding h order g.binding.select)

declared_keeps : {N : Type 0} {before : N → N → Bool} (place : Place) (d : sheet.Declared) (given : List (Bound N)) → VariablesAreInOrder before given
    → (h : Here N) → VariablesAreInOrder before h.bindings → KeepsOrder before (declared_planned place d given h)
declared_keeps place (sheet.ATemplate t) given there h order =
    parameters_keep t.parameters given there h order (λ here inner. planned_keeps t.content here inner ends)
declared_keeps place (sheet.AGlobal g) given there h order = global_keeps g h order
declared_keeps place (sheet.ASet s) given there h order = sets_keep place h s.sets (planned_keeps s.attributes h order ends)
declared_keeps place (sheet.AKey k) given there h order = ends

unit_keeps : {N : Type 0} {before : N → N → Bool} (same : N → N → Bool) (n : N) (given : List (Bound N)) → VariablesAreInOrder before given
    → (a : Answer N)
    → KeepsOrder before (unit_planned same n given a)
unit_keeps same n given there (question.Resolved u) = declared_keeps u.unit.site.place u.unit.declared given there (content.here_in same n u) tt
unit_keeps same n given there question.Gone = ends
unit_keeps same n given there (question.Refused why) = ends
unit_keeps same n given there (question.SomeNodes nodes) = ends
unit_keeps same n given there (question.SomeText text) = ends
unit_keeps same n given there (question.Named kind name written) = ends
unit_keeps same n given there (question.Chosen rule) = ends
unit_keeps same n given there (question.Copied stream) = ends
unit_keeps same n given there (question.Passed text) = ends

-- a built-in rule for a node of this kind
built_in_keeps : {N : Type 0} {before : N → N → Bool} (mode : Option Expanded) (n : N) → KeepsOrder before (built_in mode n)
built_in_keeps {N} {before = before} mode n = inquires (λ a e. go (kind_in a))
  where
    children : KeepsOrder before (children_applied mode n)
    children = inquires (λ a e. applied_to_keeps nowhere mode [] tt 0 (nodes_in a) ends)

    text : KeepsOrder before (text_put n)
    text = inquires (λ a e. puts ends)

    go : (k : Kind) → KeepsOrder before (elim k [
      | kind.Root ↦ children_applied mode n
      | kind.Element ↦ children_applied mode n
      | kind.Attribute ↦ text_put n
      | kind.Text ↦ text_put n
      | kind.Namespace ↦ End
      | kind.Comment ↦ End
      | kind.Instruction ↦ End
    ])
    go kind.Root = children
    go kind.Element = children
    go kind.Attribute = text
    go kind.Text = text
    go kind.Namespace = ends
    go kind.Comment = ends
    go kind.Instruction = ends

-- whatever is entered
pub plan_of_keeps : {N : Type 0} (before : N → N → Bool) (same : N → N → Bool) (c : Call N) → VariablesAreInOrder before c.parameters
    → KeepsOrder before (plan_of same c)
plan_of_keeps {N} before same c order = go c.target
  where
    go : (target : Target N) → KeepsOrder before (elim target [
      | UnitOf element ↦ Inquire (question.Unit element) (λ a. unit_planned same c.node c.parameters a)
      | BuiltIn mode ↦ built_in mode c.node
    ])
    go (UnitOf element) = inquires (λ a e. unit_keeps same c.node c.parameters order a)
    go (BuiltIn mode) = built_in_keeps mode c.node
