-- What a content plans never looks at the name of a node: at related nodes it plans the same.
use Rattle.std.proofs.Common.{◌≡◌, ℕ, suc, List, [], ◌∷◌, ◌++◌, map, Bool, true, false, cond, Option, None, Some, refl, ap, subst}
use Rattle.std.specs.List.{flat_map}
use Rattle.spec_document.specs.declared.kind.Kind.{Kind}
use Rattle.spec_document.specs.declared.kind.Kind.TheVariants as kind
use Rattle.spec_document.specs.Name.{Expanded, same_name}
use Rattle.spec_expression.specs.Syntax.{Expr}
use Rattle.spec_stylesheet.specs.Place.{Place, Site}
use Rattle.spec_stylesheet.specs.Instruction as made
use Rattle.spec_stylesheet.specs.Instruction.{SortKey, LiteralAttribute, Form, without_content, with_content, control, Control, for_each, for_items, conditional, choose}
use Rattle.spec_stylesheet.specs.Instruction.{apply_templates, call_template, Instrs, no_instrs, instr, Branches, no_branches, branch}
use Rattle.spec_stylesheet.specs.Instruction.{no_bindings, binding, Binding}
use Rattle.spec_stylesheet.specs.Sheet as sheet
use Rattle.spec_meaning.specs.Stream.{Stream}
use Rattle.spec_meaning.specs.Value as value
use Rattle.spec_meaning.specs.Value.{Value}
use Rattle.spec_meaning.specs.Question as question
use Rattle.spec_meaning.specs.Question.{Answer, ChosenRule, NamedTemplate, NamedSets, nodes_in, text_in, local_in}
use Rattle.spec_meaning.specs.Program.{CurrentRule, Given, Program, current_in}
use Rattle.spec_meaning.specs.Context.{Context, Bound, binding_of}
use Rattle.spec_meaning.specs.Meaning.{meaning}
use Rattle.spec_meaning.specs.Related.{Each, none, more, Both, neither, both, Templates, template, Sets, sets, resolved, Rules, rule, steps, texts, names}
use Rattle.spec_meaning.specs.Related.{choices, copies, units, externals, Answers, gone, refused, some_nodes, some_text, named, chosen, copied, some_unit, passed}
use Rattle.spec_meaning.specs.Related.{Values, number, text, boolean, nodes, fragment, Givens, Bindings, bound, Contexts, context, Match, gives, refuses, asks, needs}
use Rattle.spec_meaning.proofs.Matching.{Same, each_append, each_length, meaning_match}
use Rattle.spec_transform.specs.Sorted.{Criterion, KeyValue, Row, keys_before, put_in, in_order}
use Rattle.spec_run.specs.Plan.{nowhere, Call, Wrapping, Plan, End, Yield, Inquire, Put, Wrap, Deep, Enter, lift}
use Rattle.spec_run.specs.Copy.{stream_in}
use Rattle.spec_run.specs.Content as content
use Rattle.spec_run.specs.Content.{Here, deeper, at, with_variable, context_at, text_meant, nodes_meant, truth_meant, each, text_item, target_by, ruling_by}
use Rattle.spec_run.specs.Content.{rule_call, applied_to, imports_applied, template_called, called, item_call, items_entered, nodes_copied, value_copied, namespaces_read, kind_in, attributes_put}
use Rattle.spec_run.specs.Content.{element_aliased, attribute_aliased, set_call, elements_named, sets_entered, sets_used, criteria_asked, keys_asked, rows_asked, sorted}
use Rattle.spec_run.specs.Content.{planned_without, copied_as, planned_with, is_empty, valued, unless_passed, planned, plan, planned_control}
use Rattle.spec_run.specs.Content.{planned_branches, with_parameters, may_be_given, unless_given, global_planned, declared_planned, unit_planned}
use Rattle.spec_run.specs.Content.{asked, children_applied, text_put, built_in, plan_of}
use Rattle.spec_run.proofs.Related.{units_of, built_in_both, Calls, calls, Plans, ends, yields, stops, inquires, uses, puts, begins, wraps}
use Rattle.spec_run.proofs.Related.{takes, deepens, enters, Heres, heres}
use Rattle.spec_run.proofs.Chosen.{TellAlike, either_each}
use Rattle.spec_run.proofs.Numbered.{number_meant_match}
use Rattle.spec_run.proofs.Asking.{criterion_meant_match, key_meant_match}
use Rattle.spec_run.proofs.Asking.{nodes_match, text_match, local_match, rule_match, current_match, to_text_match, text_meant_match}
use Rattle.spec_run.proofs.Asking.{nodes_meant_match, truth_meant_match, joined_match, element_meant_match, attribute_meant_match, instruction_meant_match}

-- ---- plans of programs
either_plan : {N M : Type 0} {R : N → M → Type 0} (b : Bool) {p q : Plan N} {x y : Plan M} → Plans R p x → Plans R q y → Plans R (cond b p q) (cond b x y)
either_plan true h g = h
either_plan false h g = g

lift_alike : {N M A B : Type 0} {R : N → M → Type 0} {S : A → B → Type 0} (place : Place) (depth : ℕ) {p : Program N A} {q : Program M B} {k : A → Plan N} {l : B → Plan M}
    → Match R S p q → ((a : A) (b : B) → S a b → Plans R (k a) (l b)) → Plans R (lift place depth p k) (lift place depth q l)
unfolding lift
lift_alike place depth (gives h) g = g _ _ h
lift_alike place depth refuses g = stops
lift_alike place depth (asks h next) g = inquires h (λ x y e. lift_alike place depth (next x y e) g)
lift_alike place depth (needs next) g = uses (λ x y e. lift_alike place depth (next x y e) g)

asked_alike : {N M A B : Type 0} {R : N → M → Type 0} {S : A → B → Type 0} (site : Site) {h : Here N} {i : Here M} {f : Context N → Program N A} {g : Context M → Program M B}
    {k : A → Plan N} {l : B → Plan M} → Heres R h i → ((c : Context N) (d : Context M) → Contexts R c d → Match R S (f c) (g d))
    → ((a : A) (b : B) → S a b → Plans R (k a) (l b))
    → Plans R (lift site.place h.depth (f (context_at h site)) k) (lift site.place i.depth (g (context_at i site)) l)
asked_alike site (heres {depth = depth} n bs ts ss t) e later = lift_alike site.place depth (e _ _ (context n n bs)) later

-- what has no nodes in it
asked_same : {N M A : Type 0} {R : N → M → Type 0} (site : Site) {h : Here N} {i : Here M} {f : Context N → Program N A} {g : Context M → Program M A}
    {k : A → Plan N} {l : A → Plan M} → Heres R h i → ((c : Context N) (d : Context M) → Contexts R c d → Match R Same (f c) (g d))
    → ((a : A) → Plans R (k a) (l a))
    → Plans R (lift site.place h.depth (f (context_at h site)) k) (lift site.place i.depth (g (context_at i site)) l)
asked_same {R = R} site {k = k} {l = l} h e later = asked_alike site h e (λ a b s. subst (λ c. Plans R (k a) (l c)) s (later a))

-- ---- where instructions stand
node_here : {N M : Type 0} {R : N → M → Type 0} {h : Here N} {i : Here M} → Heres R h i → R h.node i.node
node_here (heres n bs ts ss t) = n

depth_alike : {N M : Type 0} {R : N → M → Type 0} {h : Here N} {i : Here M} → Heres R h i → h.depth ≡ i.depth
depth_alike (heres n bs ts ss t) = refl

templates_alike : {N M : Type 0} {R : N → M → Type 0} {h : Here N} {i : Here M} → Heres R h i → Each (Templates R) h.templates i.templates
templates_alike (heres n bs ts ss t) = ts

sets_here : {N M : Type 0} {R : N → M → Type 0} {h : Here N} {i : Here M} → Heres R h i → Each (Sets R) h.sets i.sets
sets_here (heres n bs ts ss t) = ss

aliases_alike : {N M : Type 0} {R : N → M → Type 0} {h : Here N} {i : Here M} → Heres R h i → h.aliases ≡ i.aliases
aliases_alike (heres n bs ts ss t) = refl

told_here : {N M : Type 0} {R : N → M → Type 0} {h : Here N} {i : Here M} → Heres R h i → TellAlike R h.same i.same
told_here (heres n bs ts ss t) = t

deeper_alike : {N M : Type 0} {R : N → M → Type 0} {h : Here N} {i : Here M} → Heres R h i → Heres R (deeper h) (deeper i)
deeper_alike (heres n bs ts ss t) = heres n bs ts ss t

at_alike : {N M : Type 0} {R : N → M → Type 0} {h : Here N} {i : Here M} {n : N} {m : M} (position : ℕ) {size also : ℕ} → R n m → size ≡ also → Heres R h i
    → Heres R (at n position size h) (at m position also i)
at_alike {R = R} {h = h} {i = i} {n = n} {m = m} position {size = size} own same (heres x bs ts ss t) =
    subst (λ s. Heres R (at n position size h) (at m position s i)) same (heres own bs ts ss t)

deep_alike : {N M : Type 0} {R : N → M → Type 0} (place : Place) {h : Here N} {i : Here M} {p : Plan N} {q : Plan M} → Heres R h i → Plans R p q
    → Plans R (Deep (suc h.depth) place p) (Deep (suc i.depth) place q)
deep_alike place (heres n bs ts ss t) k = deepens k

each_alike : {N M : Type 0} {R : N → M → Type 0} {f : N → ℕ → Plan N → Plan N} {g : M → ℕ → Plan M → Plan M}
    → ((n : N) (m : M) → R n m → (position : ℕ) (p : Plan N) (q : Plan M) → Plans R p q → Plans R (f n position p) (g m position q))
    → {ns : List N} {ms : List M} → Each R ns ms → (position : ℕ) {p : Plan N} {q : Plan M} → Plans R p q
    → Plans R (each f position ns p) (each g position ms q)
each_alike alike none position k = k
each_alike alike (more h hs) position k = alike _ _ h position _ _ (each_alike alike hs (suc position) k)

-- ---- what is entered
-- the rule of a node, with the same of all else
chosen_alike : {N M : Type 0} {R : N → M → Type 0} (by : Place) (mode : Option Expanded) (position size : Option ℕ) {bs : List (Bound N)} {ds : List (Bound M)}
    → Each (Bindings R) bs ds → {n : N} {m : M} → R n m → {r : Option (ChosenRule N)} {s : Option (ChosenRule M)} → Both (Rules R) r s
    → Calls R
    (record { target = target_by mode r; node = n; parameters = bs; position = position; size = size; ruling = ruling_by mode r; by = by })
    (record { target = target_by mode s; node = m; parameters = ds; position = position; size = size; ruling = ruling_by mode s; by = by })
chosen_alike by mode position size values h neither = calls built_in_both h values
chosen_alike by mode position size values h (both (rule e)) = calls (units_of e) h values

pub rule_call_alike : {N M : Type 0} {R : N → M → Type 0} (by : Place) (mode : Option Expanded) {bs : List (Bound N)} {ds : List (Bound M)}
    → Each (Bindings R) bs ds → {size also : ℕ} → size ≡ also → {n : N} {m : M} → R n m → (position : ℕ) {x : Answer N} {y : Answer M} → Answers R x y
    → Calls R (rule_call by mode bs size n position x) (rule_call by mode ds also m position y)
rule_call_alike {R = R} by mode {bs = bs} {ds = ds} values {size = size} same {n = n} {m = m} h position {x = x} {y = y} e =
    subst (λ s. Calls R (rule_call by mode bs size n position x) (rule_call by mode ds s m position y)) same
    (chosen_alike by mode (Some position) (Some size) values h (rule_match e))

applied_to_alike : {N M : Type 0} {R : N → M → Type 0} (by : Place) (mode : Option Expanded) {bs : List (Bound N)} {ds : List (Bound M)}
    → Each (Bindings R) bs ds → {depth also : ℕ} → depth ≡ also → {ns : List N} {ms : List M} → Each R ns ms → {p : Plan N} {q : Plan M} → Plans R p q
    → Plans R (applied_to by mode bs depth ns p) (applied_to by mode ds also ms q)
applied_to_alike {R = R} by mode {bs = bs} {ds = ds} values {depth = depth} same {ns = ns} {ms = ms} hs {p = p} {q = q} k =
    subst (λ d. Plans R (applied_to by mode bs depth ns p) (applied_to by mode ds d ms q)) same
    (each_alike (λ n m h position x y e. inquires (choices h) (λ a b s. enters (rule_call_alike by mode values (each_length hs) h position s) e)) hs 1 k)

imports_alike : {N M : Type 0} {R : N → M → Type 0} (site : Site) {h : Here N} {i : Here M} → Heres R h i → (current : Option CurrentRule)
    → {p : Plan N} {q : Plan M} → Plans R p q → Plans R (imports_applied site h current p) (imports_applied site i current q)
imports_alike site h None k = stops
imports_alike site (heres {position = position} {size = size} n bs ts ss t) (Some current) k =
    inquires (choices n) (λ x y e. enters (chosen_alike site.place current.mode position size none n (rule_match e)) k)

-- what was given says which rule is current
given_imports : {N M : Type 0} {R : N → M → Type 0} (site : Site) {h : Here N} {i : Here M} → Heres R h i → {x : Given N} {y : Given M} → Givens R x y
    → {p : Plan N} {q : Plan M} → Plans R p q → Plans R (imports_applied site h (current_in x) p) (imports_applied site i (current_in y) q)
given_imports {R = R} site {h = h} {i = i} s {x = x} e {p = p} {q = q} k =
    subst (λ c. Plans R (imports_applied site h (current_in x) p) (imports_applied site i c q)) (current_match e) (imports_alike site s (current_in x) k)

imports_planned : {N M : Type 0} {R : N → M → Type 0} (site : Site) {h : Here N} {i : Here M} → Heres R h i → {p : Plan N} {q : Plan M} → Plans R p q
    → Plans R (planned_without site h made.ApplyImports p) (planned_without site i made.ApplyImports q)
imports_planned site (heres {depth = depth} {ruled = ruled} {aliases = aliases} n bs ts ss t) k =
    either_plan ruled (uses (λ x y e. given_imports site (heres {depth = depth} {ruled = ruled} {aliases = aliases} n bs ts ss t) e k)) stops

pub either_both : {A B : Type 0} {S : A → B → Type 0} (b : Bool) {x y : Option A} {z w : Option B} → Both S x z → Both S y w
    → Both S (cond b x y) (cond b z w)
either_both true h g = h
either_both false h g = g

template_called_alike : {N M : Type 0} {R : N → M → Type 0} (name : Expanded) {ts : List (NamedTemplate N)} {us : List (NamedTemplate M)} → Each (Templates R) ts us
    → Both R (template_called name ts) (template_called name us)
template_called_alike name none = neither
template_called_alike name (more (template {name = own} h) hs) = either_both (same_name own name) (both h) (template_called_alike name hs)

-- what follows values that are passed
abbrev After : {N M : Type 0} → (N → M → Type 0) → (List (Bound N) → Plan N) → (List (Bound M) → Plan M) → Type 0
After {N = N} {M = M} R k l = (bs : List (Bound N)) (ds : List (Bound M)) → Each (Bindings R) bs ds → Plans R (k bs) (l ds)

-- values that are passed, before what follows them
abbrev Passing : {N M : Type 0} → (N → M → Type 0) → ((List (Bound N) → Plan N) → Plan N) → ((List (Bound M) → Plan M) → Plan M) → Type 0
Passing {N = N} {M = M} R passing other =
    (k : List (Bound N) → Plan N) (l : List (Bound M) → Plan M) → After R k l → Plans R (passing k) (other l)

called_alike : {N M : Type 0} {R : N → M → Type 0} (site : Site) {h : Here N} {i : Here M} → Heres R h i
    → {passing : (List (Bound N) → Plan N) → Plan N} {other : (List (Bound M) → Plan M) → Plan M} → Passing R passing other
    → {n : Option N} {m : Option M} → Both R n m → {p : Plan N} {q : Plan M} → Plans R p q → Plans R (called site h passing n p) (called site i other m q)
called_alike site h inner neither k = puts k
called_alike site (heres n bs ts ss t) inner (both e) k = puts (inner _ _ (λ bs ds values. enters (calls (units_of e) n values) k))

-- the same element for each node
item_call_alike : {N M : Type 0} {R : N → M → Type 0} (by : Place) {element : N} {other : M} → R element other → {bs : List (Bound N)} {ds : List (Bound M)}
    → Each (Bindings R) bs ds → {size also : ℕ} → size ≡ also → {n : N} {m : M} → R n m → (position : ℕ)
    → Calls R (item_call by element bs size n position) (item_call by other ds also m position)
item_call_alike {R = R} by {element = element} {other = other} e {bs = bs} {ds = ds} values {size = size} same {n = n} {m = m} h position =
    subst (λ s. Calls R (item_call by element bs size n position) (item_call by other ds s m position)) same (calls (units_of e) h values)

items_alike : {N M : Type 0} {R : N → M → Type 0} (by : Place) {bs : List (Bound N)} {ds : List (Bound M)} → Each (Bindings R) bs ds
    → {depth also : ℕ} → depth ≡ also → {n : Option N} {m : Option M} → Both R n m → {ns : List N} {ms : List M} → Each R ns ms
    → {p : Plan N} {q : Plan M} → Plans R p q → Plans R (items_entered by n bs depth ns p) (items_entered by m ds also ms q)
items_alike by values same neither hs k = k
items_alike {R = R} by {bs = bs} {ds = ds} values {depth = depth} same {n = n} {m = m} (both e) {ns = ns} {ms = ms} hs {p = p} {q = q} k =
    subst (λ d. Plans R (items_entered by n bs depth ns p) (items_entered by m ds d ms q)) same
    (each_alike (λ x y h position v w g. enters (item_call_alike by e values (each_length hs) h position) g) hs 1 k)

-- ---- copies
stream_match : {N M : Type 0} {R : N → M → Type 0} {x : Answer N} {y : Answer M} → Answers R x y → stream_in x ≡ stream_in y
stream_match gone = refl
stream_match refused = refl
stream_match (some_nodes h) = refl
stream_match some_text = refl
stream_match named = refl
stream_match (chosen h) = refl
stream_match copied = refl
stream_match (some_unit h) = refl
stream_match passed = refl

put_alike : {N M : Type 0} {R : N → M → Type 0} {s t : Stream} → s ≡ t → {p : Plan N} {q : Plan M} → Plans R p q → Plans R (Put s p) (Put t q)
put_alike {R = R} {s = s} e {p = p} {q = q} k = subst (λ t. Plans R (Put s p) (Put t q)) e (puts k)

nodes_copied_alike : {N M : Type 0} {R : N → M → Type 0} {ns : List N} {ms : List M} → Each R ns ms → {p : Plan N} {q : Plan M} → Plans R p q
    → Plans R (nodes_copied ns p) (nodes_copied ms q)
nodes_copied_alike none k = k
nodes_copied_alike (more h hs) k = inquires (copies h) (λ x y e. put_alike (stream_match e) (nodes_copied_alike hs k))

value_copied_alike : {N M : Type 0} {R : N → M → Type 0} {v : Value N} {w : Value M} → Values R v w → {p : Plan N} {q : Plan M} → Plans R p q
    → Plans R (value_copied v p) (value_copied w q)
value_copied_alike (nodes h) k = puts (nodes_copied_alike h k)
value_copied_alike fragment k = puts k
value_copied_alike text k = puts k
value_copied_alike {R = R} (number {n = n}) k =
    lift_alike nowhere 0 (to_text_match {R = R} (number {n = n})) (λ s t e. put_alike (ap text_item e) k)
value_copied_alike {R = R} (boolean {b = b}) k =
    lift_alike nowhere 0 (to_text_match {R = R} (boolean {b = b})) (λ s t e. put_alike (ap text_item e) k)

namespaces_read_alike : {N M : Type 0} {R : N → M → Type 0} {ns : List N} {ms : List M} → Each R ns ms → (done : List (List ℕ × List ℕ))
    {k : List (List ℕ × List ℕ) → Plan N} {l : List (List ℕ × List ℕ) → Plan M} → ((done : List (List ℕ × List ℕ)) → Plans R (k done) (l done))
    → Plans R (namespaces_read ns done k) (namespaces_read ms done l)
namespaces_read_alike none done later = later done
namespaces_read_alike {R = R} (more {xs = xs} {ys = ys} h hs) done {k = k} {l = l} later =
    inquires (names h) (λ a b s. inquires (texts h) (λ x y e.
    subst (λ n. Plans R (namespaces_read xs (done ++ (local_in a, text_in x) ∷ []) k) (namespaces_read ys (done ++ n ∷ []) l))
    (λ i. (local_match s i, text_match e i)) (namespaces_read_alike hs (done ++ (local_in a, text_in x) ∷ []) later)))

copy_put : {N M : Type 0} {R : N → M → Type 0} {n : N} {m : M} → R n m → {p : Plan N} {q : Plan M} → Plans R p q
    → Plans R (Inquire (question.Copy n) (λ c. Put (stream_in c) p)) (Inquire (question.Copy m) (λ c. Put (stream_in c) q))
copy_put h k = inquires (copies h) (λ x y e. put_alike (stream_match e) k)

-- ---- attribute sets
elements_alike : {N M : Type 0} {R : N → M → Type 0} {ss : List (NamedSets N)} {rs : List (NamedSets M)} → Each (Sets R) ss rs → (name : Expanded)
    → Each R (elements_named ss name) (elements_named rs name)
elements_alike none name = none
elements_alike (more (sets {name = own} h) hs) name = either_each (same_name own name) h (elements_alike hs name)

all_elements_alike : {N M : Type 0} {R : N → M → Type 0} {ss : List (NamedSets N)} {rs : List (NamedSets M)} → Each (Sets R) ss rs → (used : List Expanded)
    → Each R (flat_map (elements_named ss) used) (flat_map (elements_named rs) used)
all_elements_alike h [] = none
all_elements_alike h (name ∷ used) = each_append (elements_alike h name) (all_elements_alike h used)

set_call_alike : {N M : Type 0} {R : N → M → Type 0} (by : Place) {h : Here N} {i : Here M} → Heres R h i → {n : N} {m : M} → R n m
    → Calls R (set_call by h n) (set_call by i m)
set_call_alike by (heres n bs ts ss t) e = calls (units_of e) n none

-- from contents that are equally deep
enters_at : {N M : Type 0} {R : N → M → Type 0} {depth also : ℕ} → depth ≡ also → {c : Call N} {d : Call M} → Calls R c d → {p : Plan N} {q : Plan M} → Plans R p q
    → Plans R (Enter c depth p) (Enter d also q)
enters_at {R = R} {depth = depth} same {c = c} {d = d} e {p = p} {q = q} k = subst (λ x. Plans R (Enter c depth p) (Enter d x q)) same (enters e k)

sets_entered_alike : {N M : Type 0} {R : N → M → Type 0} (by : Place) {h : Here N} {i : Here M} → Heres R h i → {ns : List N} {ms : List M} → Each R ns ms
    → {p : Plan N} {q : Plan M} → Plans R p q → Plans R (sets_entered by h ns p) (sets_entered by i ms q)
sets_entered_alike by h none k = k
sets_entered_alike by h (more e es) k = enters_at (depth_alike h) (set_call_alike by h e) (sets_entered_alike by h es k)

sets_used_alike : {N M : Type 0} {R : N → M → Type 0} (by : Place) {h : Here N} {i : Here M} → Heres R h i → (used : List Expanded)
    → {p : Plan N} {q : Plan M} → Plans R p q → Plans R (sets_used by h used p) (sets_used by i used q)
sets_used_alike by h used k = sets_entered_alike by h (all_elements_alike (sets_here h) used) k

-- ---- sorting
criteria_alike : {N M : Type 0} {R : N → M → Type 0} (keys : List SortKey) {h : Here N} {i : Here M} → Heres R h i → (done : List Criterion)
    → {k : List Criterion → Plan N} {l : List Criterion → Plan M} → ((cs : List Criterion) → Plans R (k cs) (l cs))
    → Plans R (criteria_asked keys h done k) (criteria_asked keys i done l)
criteria_alike [] h done next = next done
criteria_alike (key ∷ rest) h done next =
    asked_same key.site h (λ c d s. criterion_meant_match key s) (λ criterion. criteria_alike rest h (done ++ criterion ∷ []) next)

keys_alike : {N M : Type 0} {R : N → M → Type 0} (keys : List SortKey) (criteria : List Criterion) {h : Here N} {i : Here M} → Heres R h i → (done : List KeyValue)
    → {k : List KeyValue → Plan N} {l : List KeyValue → Plan M} → ((vs : List KeyValue) → Plans R (k vs) (l vs))
    → Plans R (keys_asked keys criteria h done k) (keys_asked keys criteria i done l)
keys_alike [] criteria h done next = next done
keys_alike (key ∷ rest) [] h done next = next done
keys_alike (key ∷ rest) (criterion ∷ others) h done next =
    asked_same key.site h (λ c d s. key_meant_match key criterion s) (λ v. keys_alike rest others h (done ++ v ∷ []) next)

-- related nodes with the same keys
data Rows {N M : Type 0} (R : N → M → Type 0) : Row N → Row M → Type 0 where
  rows : {n : N} {m : M} {vs : List KeyValue} → R n m → Rows R (record { node = n; keys = vs }) (record { node = m; keys = vs })

rows_alike : {N M : Type 0} {R : N → M → Type 0} (keys : List SortKey) (criteria : List Criterion) {size also : ℕ} → size ≡ also
    → {h : Here N} {i : Here M} → Heres R h i → (position : ℕ) {ns : List N} {ms : List M} → Each R ns ms
    → {done : List (Row N)} {others : List (Row M)} → Each (Rows R) done others → {k : List (Row N) → Plan N} {l : List (Row M) → Plan M}
    → ((rs : List (Row N)) (ss : List (Row M)) → Each (Rows R) rs ss → Plans R (k rs) (l ss))
    → Plans R (rows_asked keys criteria size h position ns done k) (rows_asked keys criteria also i position ms others l)
rows_alike keys criteria same h position none sofar next = next _ _ sofar
rows_alike keys criteria same h position (more e es) sofar next =
    keys_alike keys criteria (at_alike position e same h) []
    (λ vs. rows_alike keys criteria same h (suc position) es (each_append sofar (more (rows {vs = vs} e) none)) next)

put_in_alike : {N M : Type 0} {R : N → M → Type 0} (cs : List Criterion) {r : Row N} {s : Row M} → Rows R r s → {rs : List (Row N)} {ss : List (Row M)}
    → Each (Rows R) rs ss → Each (Rows R) (put_in cs r rs) (put_in cs s ss)
put_in_alike cs h none = more h none
put_in_alike cs (rows {vs = vs} h) (more (rows {vs = ws} e) es) =
    either_each (keys_before cs ws vs) (more (rows {vs = ws} e) (put_in_alike cs (rows {vs = vs} h) es)) (more (rows {vs = vs} h) (more (rows {vs = ws} e) es))

in_order_alike : {N M : Type 0} {R : N → M → Type 0} (cs : List Criterion) {rs : List (Row N)} {ss : List (Row M)} → Each (Rows R) rs ss
    → Each (Rows R) (in_order cs rs) (in_order cs ss)
in_order_alike cs none = none
in_order_alike cs (more e es) = put_in_alike cs e (in_order_alike cs es)

row_nodes_alike : {N M : Type 0} {R : N → M → Type 0} {rs : List (Row N)} {ss : List (Row M)} → Each (Rows R) rs ss
    → Each R (map (λ r. r.node) rs) (map (λ s. s.node) ss)
row_nodes_alike none = none
row_nodes_alike (more (rows e) es) = more e (row_nodes_alike es)

sorted_alike : {N M : Type 0} {R : N → M → Type 0} (keys : List SortKey) {h : Here N} {i : Here M} → Heres R h i → {ns : List N} {ms : List M} → Each R ns ms
    → {k : List N → Plan N} {l : List M → Plan M} → ((xs : List N) (ys : List M) → Each R xs ys → Plans R (k xs) (l ys))
    → Plans R (sorted keys h ns k) (sorted keys i ms l)
sorted_alike [] h e next = next _ _ e
sorted_alike (key ∷ rest) h e next =
    criteria_alike (key ∷ rest) h [] (λ cs. rows_alike (key ∷ rest) cs (each_length e) h 1 e none (λ rs ss s. puts
    (next _ _ (row_nodes_alike (in_order_alike cs s)))))

-- contents before what follows them
abbrev Inside : {N M : Type 0} → (N → M → Type 0) → (Plan N → Plan N) → (Plan M → Plan M) → Type 0
Inside {N = N} {M = M} R inside other = (p : Plan N) (q : Plan M) → Plans R p q → Plans R (inside p) (other q)

copied_as_alike : {N M : Type 0} {R : N → M → Type 0} (by : Place) {h : Here N} {i : Here M} → Heres R h i → (used : List Expanded)
    → {x : Answer N} {y : Answer M} → Answers R x y → {inside : Plan N → Plan N} {other : Plan M → Plan M} → Inside R inside other → {p : Plan N} {q : Plan M} → Plans R p q
    → Plans R (copied_as by h used x inside p) (copied_as by i used y other q)
copied_as_alike by h used gone inner k = copy_put (node_here h) k
copied_as_alike by h used refused inner k = copy_put (node_here h) k
copied_as_alike by h used (some_nodes ns) inner k = copy_put (node_here h) k
copied_as_alike by h used some_text inner k = copy_put (node_here h) k
copied_as_alike by h used (chosen r) inner k = copy_put (node_here h) k
copied_as_alike by h used copied inner k = copy_put (node_here h) k
copied_as_alike by h used (some_unit u) inner k = copy_put (node_here h) k
copied_as_alike by h used passed inner k = copy_put (node_here h) k
copied_as_alike by h used (named {kind = kind.Root}) inner k = inner _ _ k
copied_as_alike by h used (named {kind = kind.Element}) inner k =
    inquires (steps (node_here h)) (λ x y e. namespaces_read_alike (nodes_match e) [] (λ namespaces. begins (sets_used_alike by h used (inner _ _ (wraps k)))))
copied_as_alike by h used (named {kind = kind.Attribute}) inner k = copy_put (node_here h) k
copied_as_alike by h used (named {kind = kind.Namespace}) inner k = copy_put (node_here h) k
copied_as_alike by h used (named {kind = kind.Text}) inner k = copy_put (node_here h) k
copied_as_alike by h used (named {kind = kind.Comment}) inner k = copy_put (node_here h) k
copied_as_alike by h used (named {kind = kind.Instruction}) inner k = copy_put (node_here h) k

-- ---- instructions
attributes_put_alike : {N M : Type 0} {R : N → M → Type 0} (site : Site) {h : Here N} {i : Here M} → Heres R h i → (attributes : List LiteralAttribute)
    → {p : Plan N} {q : Plan M} → Plans R p q → Plans R (attributes_put site h attributes p) (attributes_put site i attributes q)
attributes_put_alike site h [] k = k
attributes_put_alike site h (a ∷ rest) k =
    asked_same site h (λ c d e. joined_match a.value.parts e) (λ text.
    put_alike (ap (λ own. attribute_aliased own a text) (aliases_alike h)) (attributes_put_alike site h rest k))

without_alike : {N M : Type 0} {R : N → M → Type 0} (site : Site) {h : Here N} {i : Here M} → Heres R h i → (what : made.WithoutContent)
    → {p : Plan N} {q : Plan M} → Plans R p q → Plans R (planned_without site h what p) (planned_without site i what q)
without_alike site h (made.Text t) k = puts k
without_alike site h (made.ValueOf e) k = asked_same site h (λ c d s. text_meant_match e s) (λ t. puts k)
without_alike site h (made.CopyOf e) k = asked_alike site h (λ c d s. meaning_match e s) (λ v w s. value_copied_alike s k)
without_alike site {h = h} {i = i} e (made.Number numbering) k =
    asked_same site e (λ c d s. number_meant_match h.same i.same (told_here e) numbering s) (λ text. puts k)
without_alike site h made.ApplyImports k = imports_planned site h k
without_alike site h made.Fallback k = puts k

-- as what is equal
wraps_as : {N M : Type 0} {R : N → M → Type 0} {how other : Wrapping} → how ≡ other → {p : Plan N} {q : Plan M} → Plans R p q
    → Plans R (Wrap how p) (Wrap other q)
wraps_as {R = R} {how = how} e {p = p} {q = q} k = subst (λ x. Plans R (Wrap how p) (Wrap x q)) e (wraps k)

with_alike : {N M : Type 0} {R : N → M → Type 0} (site : Site) {h : Here N} {i : Here M} → Heres R h i → (what : made.WithContent)
    → {inside : Plan N → Plan N} {other : Plan M → Plan M} → Inside R inside other → {p : Plan N} {q : Plan M} → Plans R p q
    → Plans R (planned_with site h what inside p) (planned_with site i what other q)
with_alike site h (made.Literal tag) inner k =
    begins (sets_used_alike site.place h tag.sets (attributes_put_alike site h tag.attributes
    (inner _ _ (wraps_as (ap (λ own. element_aliased own tag) (aliases_alike h)) k))))
with_alike site h (made.Element name used) inner k =
    asked_same site h (λ c d s. element_meant_match name s) (λ w. begins (sets_used_alike site.place h used (inner _ _ (wraps k))))
with_alike site h (made.Attribute name) inner k = asked_same site h (λ c d s. attribute_meant_match name s) (λ w. begins (inner _ _ (wraps k)))
with_alike site h made.Comment inner k = begins (inner _ _ (wraps k))
with_alike site h (made.ProcessingInstruction target) inner k = asked_same site h (λ c d s. instruction_meant_match target s) (λ w. begins (inner _ _ (wraps k)))
with_alike site h (made.Copy used) inner k = inquires (names (node_here h)) (λ x y e. copied_as_alike site.place h used e inner k)
with_alike site h (made.Variable name select) inner k = puts k
with_alike site h (made.Message terminates) inner k = begins (inner _ _ (wraps (either_plan terminates stops k)))

-- ---- variables and parameters
variable_alike : {N M : Type 0} {R : N → M → Type 0} (name : Expanded) {v : Value N} {w : Value M} → Values R v w → {h : Here N} {i : Here M} → Heres R h i
    → Heres R (with_variable name v h) (with_variable name w i)
variable_alike name e (heres n bs ts ss t) = heres n (more (bound e) bs) ts ss t

-- what follows a value
abbrev Later : {N M : Type 0} → (N → M → Type 0) → (Value N → Plan N) → (Value M → Plan M) → Type 0
Later {N = N} {M = M} R k l = (v : Value N) (w : Value M) → Values R v w → Plans R (k v) (l w)

valued_alike : {N M : Type 0} {R : N → M → Type 0} (site : Site) {h : Here N} {i : Here M} → Heres R h i → (select : Option Expr) (is_empty : Bool)
    → {inside : Plan N → Plan N} {other : Plan M → Plan M} → Inside R inside other → {k : Value N → Plan N} {l : Value M → Plan M} → Later R k l
    → Plans R (valued site h select is_empty inside k) (valued site i select is_empty other l)
valued_alike site h (Some e) is_empty inner next = asked_alike site h (λ c d s. meaning_match e s) (λ v w s. puts (next v w s))
valued_alike site h None true inner next = puts (next _ _ text)
valued_alike site h None false inner next = begins (inner _ _ (takes (λ s. next _ _ fragment)))

binding_alike : {N M : Type 0} {R : N → M → Type 0} (name : Expanded) {bs : List (Bound N)} {ds : List (Bound M)} → Each (Bindings R) bs ds
    → Both (Values R) (binding_of name bs) (binding_of name ds)
binding_alike name none = neither
binding_alike name (more (bound {name = own} h) hs) = either_both (same_name own name) (both h) (binding_alike name hs)

unless_passed_alike : {N M : Type 0} {R : N → M → Type 0} {v : Option (Value N)} {w : Option (Value M)} → Both (Values R) v w
    → {p : Plan N} {q : Plan M} → Plans R p q → {k : Value N → Plan N} {l : Value M → Plan M} → Later R k l
    → Plans R (unless_passed v p k) (unless_passed w q l)
unless_passed_alike neither default next = default
unless_passed_alike (both h) default next = puts (next _ _ h)

-- what follows where an instruction stands, with what it declares
abbrev Following : {N M : Type 0} → (N → M → Type 0) → (Here N → Plan N) → (Here M → Plan M) → Type 0
Following {N = N} {M = M} R rest other = (h : Here N) (i : Here M) → Heres R h i → Plans R (rest h) (other i)

inside_alike : {N M : Type 0} {R : N → M → Type 0} (site : Site) (is : Instrs) {h : Here N} {i : Here M} → Heres R h i
    → Inside R (planned is (deeper h)) (planned is (deeper i))
    → Inside R (λ p. Deep (suc h.depth) site.place (planned is (deeper h) p)) (λ q. Deep (suc i.depth) site.place (planned is (deeper i) q))
inside_alike site is h inner p q k = deep_alike site.place h (inner p q k)

-- an instruction with a content
content_alike : {N M : Type 0} {R : N → M → Type 0} (site : Site) (what : made.WithContent) (is : Instrs) {h : Here N} {i : Here M} → Heres R h i
    → Inside R (planned is (deeper h)) (planned is (deeper i)) → {rest : Here N → Plan N} {other : Here M → Plan M} → Following R rest other
    → Plans R (plan site (with_content what is) h rest) (plan site (with_content what is) i other)
content_alike site (made.Variable name select) is h inner next =
    valued_alike site h select (is_empty is) (inside_alike site is h inner) (λ v w e. next _ _ (variable_alike name e h))
content_alike site (made.Literal tag) is h inner next = with_alike site h (made.Literal tag) (inside_alike site is h inner) (next _ _ h)
content_alike site (made.Element name used) is h inner next = with_alike site h (made.Element name used) (inside_alike site is h inner) (next _ _ h)
content_alike site (made.Attribute name) is h inner next = with_alike site h (made.Attribute name) (inside_alike site is h inner) (next _ _ h)
content_alike site made.Comment is h inner next = with_alike site h made.Comment (inside_alike site is h inner) (next _ _ h)
content_alike site (made.ProcessingInstruction target) is h inner next =
    with_alike site h (made.ProcessingInstruction target) (inside_alike site is h inner) (next _ _ h)
content_alike site (made.Copy used) is h inner next = with_alike site h (made.Copy used) (inside_alike site is h inner) (next _ _ h)
content_alike site (made.Message terminates) is h inner next = with_alike site h (made.Message terminates) (inside_alike site is h inner) (next _ _ h)

mutual
  -- a content plans the same
  pub planned_alike : {N M : Type 0} {R : N → M → Type 0} (is : Instrs) {h : Here N} {i : Here M} → Heres R h i → {p : Plan N} {q : Plan M} → Plans R p q
      → Plans R (planned is h p) (planned is i q)
  planned_alike no_instrs h k = k
  planned_alike (instr site form is) h k = plan_alike site form h (λ a b e. planned_alike is e k)

  plan_alike : {N M : Type 0} {R : N → M → Type 0} (site : Site) (form : Form) {h : Here N} {i : Here M} → Heres R h i
      → {rest : Here N → Plan N} {other : Here M → Plan M} → Following R rest other → Plans R (plan site form h rest) (plan site form i other)
  plan_alike site (without_content what) h next = without_alike site h what (next _ _ h)
  plan_alike site (with_content what is) h next = content_alike site what is h (λ p q e. planned_alike is (deeper_alike h) e) next
  plan_alike site (control c) h next = control_alike site c h (next _ _ h)

  passed_alike : {N M : Type 0} {R : N → M → Type 0} (bs : made.Bindings) {h : Here N} {i : Here M} → Heres R h i
      → {done : List (Bound N)} {also : List (Bound M)} → Each (Bindings R) done also
      → {k : List (Bound N) → Plan N} {l : List (Bound M) → Plan M} → After R k l → Plans R (content.passed bs h done k) (content.passed bs i also l)
  passed_alike no_bindings h sofar next = next _ _ sofar
  passed_alike (binding site name select is rest) h sofar next =
      valued_alike site h select (is_empty is) (λ p q e. deep_alike site.place h (planned_alike is (deeper_alike h) e))
      (λ v w e. passed_alike rest h (more (bound e) sofar) next)

  control_alike : {N M : Type 0} {R : N → M → Type 0} (site : Site) (c : Control) {h : Here N} {i : Here M} → Heres R h i → {p : Plan N} {q : Plan M} → Plans R p q
      → Plans R (planned_control site c h p) (planned_control site c i q)
  control_alike site (for_each e keys is) h k =
      asked_alike site h (λ c d s. nodes_meant_match e s) (λ ns ms s. puts
      (sorted_alike keys h s (λ xs ys t. each_alike
      (λ n m own position p q e. deep_alike site.place h (planned_alike is (deeper_alike (at_alike position own (each_length t) h)) e)) t 1 k)))
  control_alike site (for_items e keys name bs) h k =
      asked_alike site h (λ c d s. nodes_meant_match e s) (λ ns ms s. puts
      (passed_alike bs h none (λ xs ys values. sorted_alike keys h s (λ own also t.
      items_alike site.place values (depth_alike h) (template_called_alike name (templates_alike h)) t k))))
  control_alike site (conditional e is) h k =
      asked_same site h (λ c d s. truth_meant_match e s) (λ b. either_plan b (deep_alike site.place h (planned_alike is (deeper_alike h) k)) (puts k))
  control_alike site (choose bs) h k = branches_alike bs h k
  control_alike site (apply_templates s bs) h k =
      asked_alike site h (λ c d e. nodes_meant_match s.select e) (λ ns ms e. puts
      (passed_alike bs h none (λ xs ys values. sorted_alike s.keys h e (λ own also t.
      applied_to_alike site.place s.mode values (depth_alike h) t k))))
  control_alike site (call_template name bs) h k =
      called_alike site h (λ f g next. passed_alike bs h none next) (template_called_alike name (templates_alike h)) k

  branches_alike : {N M : Type 0} {R : N → M → Type 0} (bs : Branches) {h : Here N} {i : Here M} → Heres R h i → {p : Plan N} {q : Plan M} → Plans R p q
      → Plans R (planned_branches bs h p) (planned_branches bs i q)
  branches_alike no_branches h k = puts k
  branches_alike (branch site None is rest) h k = deep_alike site.place h (planned_alike is (deeper_alike h) k)
  branches_alike (branch site (Some e) is rest) h k =
      asked_same site h (λ c d s. truth_meant_match e s) (λ b.
      either_plan b (deep_alike site.place h (planned_alike is (deeper_alike h) k)) (branches_alike rest h k))

-- ---- instantiations
with_parameters_alike : {N M : Type 0} {R : N → M → Type 0} (bs : made.Bindings) {given : List (Bound N)} {also : List (Bound M)} → Each (Bindings R) given also
    → {h : Here N} {i : Here M} → Heres R h i → {k : Here N → Plan N} {l : Here M → Plan M} → Following R k l
    → Plans R (with_parameters bs given h k) (with_parameters bs also i l)
with_parameters_alike no_bindings values h next = next _ _ h
with_parameters_alike {R = R} (binding site name select is rest) {given = given} {also = also} values {h = h} {i = i} e {k = k} {l = l} next =
    let later : Later R (λ v. with_parameters rest given (with_variable name v h) k) (λ w. with_parameters rest also (with_variable name w i) l) =
    λ v w own. with_parameters_alike rest values (variable_alike name own e) next in
    unless_passed_alike (binding_alike name values)
    (valued_alike site e select (is_empty is) (λ p q g. deep_alike site.place e (planned_alike is (deeper_alike e) g)) later) later

-- what a global with this select holds
abbrev held_with : {N : Type 0} → Binding → Here N → Option Expr → Plan N
held_with b h select = elim select [
  | Some e ↦ asked b.site h (meaning e) (λ v. Yield v)
  | None ↦ cond (is_empty b.content) (Yield (value.Text [])) (planned b.content h End)
]

held_with_alike : {N M : Type 0} {R : N → M → Type 0} (b : Binding) {h : Here N} {i : Here M} → Heres R h i → (select : Option Expr)
    → Plans R (held_with b h select) (held_with b i select)
held_with_alike b h (Some e) = asked_alike b.site h (λ c d s. meaning_match e s) (λ v w s. yields s)
held_with_alike b h None = either_plan (is_empty b.content) (yields text) (planned_alike b.content h ends)

unless_given_alike : {N M : Type 0} {R : N → M → Type 0} {x : Answer N} {y : Answer M} → Answers R x y → {p : Plan N} {q : Plan M} → Plans R p q
    → Plans R (unless_given x p) (unless_given y q)
unless_given_alike gone own = own
unless_given_alike refused own = own
unless_given_alike (some_nodes h) own = own
unless_given_alike some_text own = own
unless_given_alike named own = own
unless_given_alike (chosen r) own = own
unless_given_alike copied own = own
unless_given_alike (some_unit u) own = own
unless_given_alike (passed {text = None}) own = own
unless_given_alike (passed {text = Some t}) own = yields text

global_alike : {N M : Type 0} {R : N → M → Type 0} (g : sheet.GlobalBinding) {h : Here N} {i : Here M} → Heres R h i
    → Plans R (global_planned g h) (global_planned g i)
global_alike g h =
    either_plan (may_be_given g) (inquires externals (λ x y e. unless_given_alike e (held_with_alike g.binding h g.binding.select)))
    (held_with_alike g.binding h g.binding.select)

declared_alike : {N M : Type 0} {R : N → M → Type 0} (place : Place) (d : sheet.Declared) {given : List (Bound N)} {also : List (Bound M)} → Each (Bindings R) given also
    → {h : Here N} {i : Here M} → Heres R h i → Plans R (declared_planned place d given h) (declared_planned place d also i)
declared_alike place (sheet.ATemplate t) values h = with_parameters_alike t.parameters values h (λ a b e. planned_alike t.content e ends)
declared_alike place (sheet.AGlobal g) values h = global_alike g h
declared_alike place (sheet.ASet s) values h = sets_used_alike place h s.sets (planned_alike s.attributes h ends)
declared_alike place (sheet.AKey k) values h = ends

unit_alike : {N M : Type 0} {R : N → M → Type 0} (same : N → N → Bool) (like : M → M → Bool) → TellAlike R same like → (n : N) (m : M) → R n m
    → {given : List (Bound N)} {also : List (Bound M)} → Each (Bindings R) given also
    → {x : Answer N} {y : Answer M} → Answers R x y → Plans R (unit_planned same n given x) (unit_planned like m also y)
unit_alike same like t n m h values gone = ends
unit_alike same like t n m h values refused = ends
unit_alike same like t n m h values (some_nodes ns) = ends
unit_alike same like t n m h values some_text = ends
unit_alike same like t n m h values named = ends
unit_alike same like t n m h values (chosen r) = ends
unit_alike same like t n m h values copied = ends
unit_alike same like t n m h values (some_unit (resolved {unit = unit} {aliases = aliases} ts ss)) =
    declared_alike unit.site.place unit.declared values (heres {aliases = aliases} h none ts ss t)
unit_alike same like t n m h values passed = ends

children_alike : {N M : Type 0} {R : N → M → Type 0} (mode : Option Expanded) {n : N} {m : M} → R n m → Plans R (children_applied mode n) (children_applied mode m)
children_alike mode h = inquires (steps h) (λ x y e. applied_to_alike nowhere mode none refl (nodes_match e) ends)

text_put_alike : {N M : Type 0} {R : N → M → Type 0} {n : N} {m : M} → R n m → Plans R (text_put n) (text_put m)
text_put_alike h = inquires (texts h) (λ x y e. put_alike (ap text_item (text_match e)) ends)

kind_match : {N M : Type 0} {R : N → M → Type 0} {x : Answer N} {y : Answer M} → Answers R x y → kind_in x ≡ kind_in y
kind_match gone = refl
kind_match refused = refl
kind_match (some_nodes h) = refl
kind_match some_text = refl
kind_match named = refl
kind_match (chosen h) = refl
kind_match copied = refl
kind_match (some_unit h) = refl
kind_match passed = refl

-- a built-in rule for a node of this kind
abbrev built_in_of : {N : Type 0} → Option Expanded → N → Kind → Plan N
built_in_of mode n k = elim k [
  | kind.Root ↦ children_applied mode n
  | kind.Element ↦ children_applied mode n
  | kind.Attribute ↦ text_put n
  | kind.Text ↦ text_put n
  | kind.Namespace ↦ End
  | kind.Comment ↦ End
  | kind.Instruction ↦ End
]

called_so : {N M : Type 0} {R : N → M → Type 0} (mode : Option Expanded) (n : N) (m : M) → R n m → (k : Kind) → Plans R (built_in_of mode n k) (built_in_of mode m k)
called_so mode n m h kind.Root = children_alike mode h
called_so mode n m h kind.Element = children_alike mode h
called_so mode n m h kind.Attribute = text_put_alike h
called_so mode n m h kind.Text = text_put_alike h
called_so mode n m h kind.Namespace = ends
called_so mode n m h kind.Comment = ends
called_so mode n m h kind.Instruction = ends

built_in_alike : {N M : Type 0} {R : N → M → Type 0} (mode : Option Expanded) {n : N} {m : M} → R n m → Plans R (built_in mode n) (built_in mode m)
built_in_alike {R = R} mode {n = n} {m = m} h = inquires (names h) (λ x y e.
    subst (λ k. Plans R (built_in_of mode n (kind_in x)) (built_in_of mode m k)) (kind_match e) (called_so mode n m h (kind_in x)))

-- a call plans the same
pub plan_of_alike : {N M : Type 0} {R : N → M → Type 0} (same : N → N → Bool) (like : M → M → Bool) → TellAlike R same like
    → {c : Call N} {d : Call M} → Calls R c d → Plans R (plan_of same c) (plan_of like d)
plan_of_alike same like t (calls (units_of e) h bs) = inquires (units e) (λ x y s. unit_alike same like t _ _ h bs s)
plan_of_alike same like t (calls (built_in_both {mode = mode}) h bs) = built_in_alike mode h
