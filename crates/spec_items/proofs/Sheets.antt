-- All questions but those for units are answered the same of a stylesheet whose contents were lifted, and it has the same globals.
use Rattle.std.proofs.Common.{◌≡◌, ℕ, zero, suc, ◌+◌, List, [], ◌∷◌, ◌++◌, map, Bool, true, false, cond, Option, None, Some, refl, sym, ap, ◌∙◌}
use Rattle.std.specs.Prelude.{◌||◌, slice_get}
use Rattle.std.specs.List.{flat_map, list_any}
use Rattle.spec_document.specs.Name.{Expanded}
use Rattle.spec_document.specs.Scope.{Scope}
use Rattle.spec_document.specs.Order.{Entry}
use Rattle.spec_stylesheet.specs.Place as stylesheet
use Rattle.spec_stylesheet.specs.Place.{Site}
use Rattle.spec_stylesheet.specs.Instruction as made
use Rattle.spec_stylesheet.specs.Instruction.{Form, without_content, with_content, control, Control, for_each, for_items, conditional, choose}
use Rattle.spec_stylesheet.specs.Instruction.{apply_templates, call_template, Instrs, no_instrs, instr, Branches, no_branches, branch, no_bindings, binding}
use Rattle.spec_stylesheet.specs.Sheet as sheet
use Rattle.spec_stylesheet.specs.Sheet.{Sheet, Rule}
use Rattle.spec_meaning.specs.Question as question
use Rattle.spec_meaning.specs.Question.{Question, Answer, Candidates}
use Rattle.spec_meaning.specs.Program.{Program, Give, Ask, Said, Gives, Refuses, Lacks, outcome_of, then}
use Rattle.spec_meaning.specs.Truth.{told_of, entry_named, answer_by}
use Rattle.spec_transform.specs.Choice as choice
use Rattle.spec_transform.specs.Choice.{may_be_chosen, scope_for, context_for, is_chosen, first_that_matches}
use Rattle.spec_transform.specs.Key.{key_in, keys_named, no_globals, indexed, keyed}
use Rattle.spec_run.specs.Documents.{Parameters}
use Rattle.spec_run.specs.Meaning.{NamedGlobal}
use Rattle.spec_run.specs.World.{is_global, global_in, global_by, globals_of, with_keys, source_by, chosen_in, chosen_by, rule_by, rule_at, truth_by}
use Rattle.spec_items.specs.Mentioned.{free_in}
use Rattle.spec_items.specs.Lifted.{item_name, scope_after, scope_of, left_declared, left_unit, items_in, items_by, items_under, items_in_branches, items_in_passed}
use Rattle.spec_items.specs.Lifted.{items_in_taken, items_declared, items_of, stands_in, items_behind}
use Rattle.spec_items.specs.Fits.{OfNoUnit}

-- ---- the units behind all others are templates, each named by its place
abbrev pub AreTemplates : List sheet.Unit → Type 0
AreTemplates [] = Unit {0}
AreTemplates (u ∷ us) =
    ((t : sheet.Template) × (u.declared ≡ sheet.ATemplate t) × (t.name ≡ Some (item_name u.site.place))) × AreTemplates us

both_templates : (us ws : List sheet.Unit) → AreTemplates us → AreTemplates ws → AreTemplates (us ++ ws)
both_templates [] ws h g = g
both_templates (u ∷ us) ws h g = (h.0, both_templates us ws h.1 g)

mutual
  in_templates : (p : ℕ) (scope : List Expanded) (is : Instrs) → AreTemplates (items_in p scope is)
  in_templates p scope no_instrs = tt
  in_templates p scope (instr site form is) =
      both_templates (items_by p scope site form) (items_in p (scope_after scope form) is) (by_templates p scope site form) (in_templates p (scope_after scope form) is)

  by_templates : (p : ℕ) (scope : List Expanded) (site : Site) (form : Form) → AreTemplates (items_by p scope site form)
  by_templates p scope site (without_content what) = tt
  by_templates p scope site (with_content what is) = in_templates p scope is
  by_templates p scope site (control c) = under_templates p scope site c

  under_templates : (p : ℕ) (scope : List Expanded) (site : Site) (c : Control) → AreTemplates (items_under p scope site c)
  under_templates p scope site (for_each e keys is) = ((_, refl, refl), in_templates p (free_in scope is) is)
  under_templates p scope site (for_items e keys name bs) = passed_templates p scope bs
  under_templates p scope site (conditional e is) = in_templates p scope is
  under_templates p scope site (choose bs) = branch_templates p scope bs
  under_templates p scope site (apply_templates s bs) = passed_templates p scope bs
  under_templates p scope site (call_template name bs) = passed_templates p scope bs

  branch_templates : (p : ℕ) (scope : List Expanded) (bs : Branches) → AreTemplates (items_in_branches p scope bs)
  branch_templates p scope no_branches = tt
  branch_templates p scope (branch site test is more) =
      both_templates (items_in p scope is) (items_in_branches p scope more) (in_templates p scope is) (branch_templates p scope more)

  passed_templates : (p : ℕ) (scope : List Expanded) (bs : made.Bindings) → AreTemplates (items_in_passed p scope bs)
  passed_templates p scope no_bindings = tt
  passed_templates p scope (binding site name select is more) =
      both_templates (items_in p scope is) (items_in_passed p scope more) (in_templates p scope is) (passed_templates p scope more)

taken_templates : (p : ℕ) (scope : List Expanded) (bs : made.Bindings) → AreTemplates (items_in_taken p scope bs)
taken_templates p scope no_bindings = tt
taken_templates p scope (binding site name select is more) =
    both_templates (items_in p scope is) (items_in_taken p (name ∷ scope) more) (in_templates p scope is) (taken_templates p (name ∷ scope) more)

declared_templates : (p : ℕ) (d : sheet.Declared) → AreTemplates (items_declared p d)
declared_templates p (sheet.ATemplate t) =
    both_templates (items_in_taken p [] t.parameters) (items_in p (scope_of [] t.parameters) t.content) (taken_templates p [] t.parameters)
    (in_templates p (scope_of [] t.parameters) t.content)
declared_templates p (sheet.AGlobal g) = in_templates p [] g.binding.content
declared_templates p (sheet.ASet a) = in_templates p [] a.attributes
declared_templates p (sheet.AKey k) = tt

pub items_are_templates : (before us : List sheet.Unit) → AreTemplates (items_behind before us)
items_are_templates before [] = tt
items_are_templates before (u ∷ us) =
    both_templates (cond (stands_in u.site.place before) [] (items_of u)) (items_behind (before ++ u ∷ []) us) (go (stands_in u.site.place before))
    (items_are_templates (before ++ u ∷ []) us)
  where
    go : (b : Bool) → AreTemplates (cond b [] (items_of u))
    go true = tt
    go false = declared_templates u.precedence u.declared

-- ---- globals
global_left : (name : Expanded) (d : sheet.Declared) → is_global name (left_declared d) ≡ is_global name d
global_left name (sheet.ATemplate t) = refl
global_left name (sheet.AGlobal g) = refl
global_left name (sheet.ASet a) = refl
global_left name (sheet.AKey k) = refl

no_global : (name : Expanded) (ws : List sheet.Unit) → AreTemplates ws → list_any (λ later. is_global name later.declared) ws ≡ false
no_global name [] h = refl
no_global name (w ∷ ws) h =
    ap (λ d. is_global name d || list_any (λ later. is_global name later.declared) ws) h.0.1 ∙ no_global name ws h.1

later_same : (name : Expanded) (us ws : List sheet.Unit) → AreTemplates ws
    → list_any (λ later. is_global name later.declared) (map left_unit us ++ ws) ≡ list_any (λ later. is_global name later.declared) us
later_same name [] ws h = no_global name ws h
later_same name (u ∷ us) ws h =
    λ i. global_left name u.declared i || later_same name us ws h i

no_globals_in : {K : Type 0} (named : stylesheet.Place → K) (ws : List sheet.Unit) → AreTemplates ws → globals_of named ws ≡ []
no_globals_in named [] h = refl
no_globals_in named (w ∷ ws) h = ap (λ d. flat_map (global_by named w ws) (global_in d) ++ globals_of named ws) h.0.1 ∙ no_globals_in named ws h.1

pub globals_same : {K : Type 0} (named : stylesheet.Place → K) (us ws : List sheet.Unit) → AreTemplates ws
    → globals_of named (map left_unit us ++ ws) ≡ globals_of named us
globals_same named [] ws h = no_globals_in named ws h
globals_same {K = K} named (u ∷ us) ws h = λ i. first u.declared i ++ globals_same named us ws h i
  where
    named_here : (d : sheet.Declared) → List (NamedGlobal K)
    named_here d = flat_map (global_by named u us) (global_in d)

    first : (d : sheet.Declared) → flat_map (global_by named (left_unit u) (map left_unit us ++ ws)) (global_in (left_declared d)) ≡ named_here d
    first (sheet.ATemplate t) = refl
    first (sheet.AGlobal g) =
        ap (λ b. cond b [] (record { name = g.binding.name; element = named u.site.place } ∷ []) ++ []) (later_same g.binding.name us ws h)
    first (sheet.ASet a) = refl
    first (sheet.AKey k) = refl

-- ---- keys
key_left : (name : Expanded) (u : sheet.Unit) (d : sheet.Declared) → key_in name (left_unit u) (left_declared d) ≡ key_in name u d
key_left name u (sheet.ATemplate t) = refl
key_left name u (sheet.AGlobal g) = refl
key_left name u (sheet.ASet a) = refl
key_left name u (sheet.AKey k) = refl

no_keys : (name : Expanded) (ws : List sheet.Unit) → AreTemplates ws → keys_named name ws ≡ []
no_keys name [] h = refl
no_keys name (w ∷ ws) h = ap (λ d. key_in name w d ++ keys_named name ws) h.0.1 ∙ no_keys name ws h.1

keys_same : (name : Expanded) (us ws : List sheet.Unit) → AreTemplates ws → keys_named name (map left_unit us ++ ws) ≡ keys_named name us
keys_same name [] ws h = no_keys name ws h
keys_same name (u ∷ us) ws h = λ i. key_left name u u.declared i ++ keys_same name us ws h i

with_keys_same : {K : Type 0} (same : K → K → Bool) (us ws : List sheet.Unit) → AreTemplates ws → (tree : Question K → Answer K) (nodes : List K) (q : Question K)
    → with_keys same (map left_unit us ++ ws) tree nodes q ≡ with_keys same us tree nodes q
with_keys_same same us ws h tree nodes (question.Key name text) =
    ap (λ ks. keyed same nodes text (outcome_of tree no_globals (indexed same ks nodes []))) (keys_same name us ws h)
with_keys_same same us ws h tree nodes (question.Step n axis test) = refl
with_keys_same same us ws h tree nodes (question.Text n) = refl
with_keys_same same us ws h tree nodes (question.Name n) = refl
with_keys_same same us ws h tree nodes (question.Place n) = refl
with_keys_same same us ws h tree nodes (question.Order ns) = refl
with_keys_same same us ws h tree nodes (question.Choice n mode candidates) = refl
with_keys_same same us ws h tree nodes (question.Copy n) = refl
with_keys_same same us ws h tree nodes (question.Unit element) = refl
with_keys_same same us ws h tree nodes (question.External name) = refl

-- ---- rules
-- the unit of each rule is there
abbrev pub HaveUnits : List sheet.Unit → List Rule → Type 0
HaveUnits us [] = Unit {0}
HaveUnits us (rule ∷ rules) = ((v : sheet.Unit) × (slice_get us rule.unit ≡ Some v)) × HaveUnits us rules

abbrev left_option : Option sheet.Unit → Option sheet.Unit
left_option None = None
left_option (Some u) = Some (left_unit u)

slice_left : (us ws : List sheet.Unit) (k : ℕ) (v : sheet.Unit) → slice_get us k ≡ Some v → slice_get (map left_unit us ++ ws) k ≡ Some (left_unit v)
slice_left [] ws k v h = absurd (cc)
slice_left (u ∷ us) ws zero v h = ap left_option h
slice_left (u ∷ us) ws (suc k) v h = slice_left us ws k v h

scope_left : (us ws : List sheet.Unit) (rule : Rule) (v : sheet.Unit) → slice_get us rule.unit ≡ Some v → scope_for (map left_unit us ++ ws) rule ≡ scope_for us rule
scope_left us ws rule v h =
    ap (λ o. scope_in o) (slice_left us ws rule.unit v h) ∙ sym (ap (λ o. scope_in o) h)
  where
    scope_in : Option sheet.Unit → Scope
    scope_in o = elim o [ None ↦ scope_for [] rule | Some unit ↦ unit.site.scope ]

first_same : {N : Type 0} (same : N → N → Bool) (us ws : List sheet.Unit) (mode : Option Expanded) (candidates : Candidates) (k : ℕ) (rules : List Rule)
    → HaveUnits us rules → (n : N) (called : Answer N)
    → first_that_matches same (context_for (map left_unit us ++ ws) n) mode candidates k rules n called
    ≡ first_that_matches same (context_for us n) mode candidates k rules n called
first_same same us ws mode candidates k [] h n called = refl
first_same {N = N} same us ws mode candidates k (rule ∷ rules) h n called =
    λ i. then
    (chosen_by_scope (scope_left us ws rule h.0.0 h.0.1 i))
    (λ b. cond b (Give (Some k)) (first_same same us ws mode candidates (k + 1) rules h.1 n called i))
  where
    chosen_by_scope : Scope → Program N Bool
    chosen_by_scope scope =
        is_chosen same (λ r. record { node = n; current = n; position = None; size = None; bindings = []; scope = scope }) mode candidates rule n called

chosen_same : {N : Type 0} (same : N → N → Bool) (us ws : List sheet.Unit) (mode : Option Expanded) (candidates : Candidates) (rules : List Rule)
    → HaveUnits us rules → (n : N)
    → choice.chosen same (context_for (map left_unit us ++ ws) n) n mode candidates rules ≡ choice.chosen same (context_for us n) n mode candidates rules
chosen_same same us ws mode candidates rules h n = λ i. Ask (question.Name n) (λ called. first_same same us ws mode candidates 0 rules h n called i)

rule_left : {K : Type 0} (named : stylesheet.Place → K) (us ws : List sheet.Unit) (rules : List Rule) → HaveUnits us rules → (number : ℕ)
    → chosen_by named (map left_unit us ++ ws) (slice_get rules number) ≡ chosen_by named us (slice_get rules number)
rule_left named us ws [] h number = refl
rule_left named us ws (rule ∷ rules) h zero =
    ap (chosen_in named rule) (slice_left us ws rule.unit h.0.0 h.0.1) ∙ sym (ap (chosen_in named rule) h.0.1)
rule_left named us ws (rule ∷ rules) h (suc number) = rule_left named us ws rules h.1 number

-- the sheet with these units behind what is left of its own
abbrev pub with_more : Sheet → List sheet.Unit → Sheet
with_more s ws =
    record { units = map left_unit s.units ++ ws; rules = s.rules; space_rules = s.space_rules; method = s.method; aliases = s.aliases }

rule_by_same : {K : Type 0} (named : stylesheet.Place → K) (s : Sheet) (ws : List sheet.Unit) → HaveUnits s.units s.rules.rules → (a : Said (Option ℕ))
    → rule_by named (with_more s ws) a ≡ rule_by named s a
rule_by_same named s ws h (Gives (Some number)) = ap question.Chosen (rule_left named s.units ws s.rules.rules h number)
rule_by_same named s ws h (Gives None) = refl
rule_by_same named s ws h (Refuses why) = refl
rule_by_same named s ws h (Lacks wanted) = refl

rule_at_same : {L K : Type 0} (key : Entry L → K) (same : K → K → Bool) (named : stylesheet.Place → K) (s : Sheet) (ws : List sheet.Unit) → AreTemplates ws
    → HaveUnits s.units s.rules.rules → (entries : List (Entry L)) (n : K) (mode : Option Expanded) (candidates : Candidates)
    → rule_at named same (with_more s ws) (source_by key same (with_more s ws) entries) n mode candidates
    ≡ rule_at named same s (source_by key same s entries) n mode candidates
rule_at_same {K = K} key same named s ws t h entries n mode candidates =
    let tree : source_by key same (with_more s ws) entries ≡ source_by key same s entries =
    λ i. λ q. with_keys_same same s.units ws t (answer_by key same entries) (map key entries) q i in
    let after = choice.chosen same (context_for (map left_unit s.units ++ ws) n) n mode candidates s.rules.rules in
    rule_by_same named s ws h (outcome_of (source_by key same (with_more s ws) entries) no_globals after)
    ∙ ap (λ (ask : Question K → Answer K). rule_by named s (outcome_of ask no_globals after)) tree
    ∙ ap (λ p. rule_by named s (outcome_of (source_by key same s entries) no_globals p)) (chosen_same same s.units ws mode candidates s.rules.rules h n)

-- all but units
pub truth_same : {L K : Type 0} (key : Entry L → K) (same : K → K → Bool) (named : stylesheet.Place → K) (s : Sheet) (ws : List sheet.Unit) → AreTemplates ws
    → HaveUnits s.units s.rules.rules → (parameters : Parameters) (entries : List (Entry L)) (q : Question K) → OfNoUnit q
    → truth_by key same named s parameters entries q ≡ truth_by key same named (with_more s ws) parameters entries q
truth_same key same named s ws t h parameters entries (question.Copy n) e = refl
truth_same key same named s ws t h parameters entries (question.Choice n mode candidates) e =
    sym (ap (λ a. told_of (λ e. a) (entry_named key same entries n)) (rule_at_same key same named s ws t h entries n mode candidates))
truth_same key same named s ws t h parameters entries (question.Unit element) e = absurd e
truth_same key same named s ws t h parameters entries (question.Key name text) e =
    sym (with_keys_same same s.units ws t (answer_by key same entries) (map key entries) (question.Key name text))
truth_same key same named s ws t h parameters entries (question.External name) e = refl
truth_same key same named s ws t h parameters entries (question.Step n axis test) e = refl
truth_same key same named s ws t h parameters entries (question.Text n) e = refl
truth_same key same named s ws t h parameters entries (question.Name n) e = refl
truth_same key same named s ws t h parameters entries (question.Place n) e = refl
truth_same key same named s ws t h parameters entries (question.Order ns) e = refl
