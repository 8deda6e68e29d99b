-- What a content does where it stands, and what is left of it does in the template of a content.
use Rattle.std.proofs.Common.{◌≡◌, ℕ, suc, ◌+◌, List, [], ◌∷◌, ◌++◌, length, Bool, true, false, cond, Option, None, Some, refl, sym, ap, subst, ◌∙◌, arith}
use Rattle.std.specs.Prelude.{is_some}
use Rattle.std.specs.List.{flat_map, list_any}
use Rattle.spec_document.specs.declared.kind.Kind.TheVariants as kind
use Rattle.spec_document.specs.Name.{Expanded, same_name}
use Rattle.spec_expression.specs.Syntax.{Expr}
use Rattle.spec_stylesheet.specs.Place.{Place, Site}
use Rattle.spec_stylesheet.specs.Instruction as made
use Rattle.spec_stylesheet.specs.Instruction.{SortKey, LiteralAttribute, LiteralTag, Form, without_content, with_content, control, Control, for_each, for_items, conditional, choose}
use Rattle.spec_stylesheet.specs.Instruction.{apply_templates, call_template, Instrs, no_instrs, instr, Branches, no_branches, branch, no_bindings, binding}
use Rattle.spec_meaning.specs.Stream.{filled}
use Rattle.spec_meaning.specs.Value as value
use Rattle.spec_meaning.specs.Value.{Value}
use Rattle.spec_meaning.specs.Question as question
use Rattle.spec_meaning.specs.Question.{Question, Answer, NamedTemplate, NamedSets, AllRules, nodes_in, rule_in, text_in, local_in}
use Rattle.spec_meaning.specs.Program.{Program, Position, Size, Rule, current_in, CurrentRule}
use Rattle.spec_meaning.specs.Context.{Context, Bound, binding_of}
use Rattle.spec_transform.specs.Sorted.{Criterion, KeyValue, Row, row, nodes_in_order}
use Rattle.spec_transform.specs.Numbering.{names_in}
use Rattle.spec_run.specs.Plan.{SameRule, RuleIs, Plan, Inquire, Put, Enter, lift}
use Rattle.spec_run.specs.Copy.{stream_in}
use Rattle.spec_run.specs.Content.{Here, deeper, at, context_at, each, ruling_by}
use Rattle.spec_run.specs.Content.{rule_call, applied_to, imports_applied, template_called, template_call, called, nodes_copied, value_copied}
use Rattle.spec_run.specs.Content.{namespaces_read, attribute_aliased, attributes_put, set_call, elements_named, sets_entered, sets_used, criteria_asked, keys_asked, rows_asked}
use Rattle.spec_run.specs.Content.{sorted, planned_without, copied_as, planned_with, is_empty, valued}
use Rattle.spec_run.specs.World.{sets_by}
use Rattle.spec_run.specs.Meaning.{Setting, Past}
use Rattle.spec_items.specs.Mentioned.{names_in_avt, names_if, names_in_keys, names_in_attributes, names_without, names_with}
use Rattle.spec_items.specs.Lifted.{left_in}
use Rattle.spec_items.proofs.Follow.{View, Shares, Follow, Counts, said, Agree, agree_front, agree_back, Stands, stands, meaning_follow}
use Rattle.spec_items.proofs.Patterns.{text_meant_follow, joined_follow, number_follow, element_follow, attribute_follow}
use Rattle.spec_items.proofs.Patterns.{instruction_follow, criterion_follow, key_follow}
use Rattle.spec_items.proofs.Scenes.{Scene, Tail, Rel, rel_stop, rel_ask, rel_put, rel_begin, rel_wrap, rel_take, rel_either}
use Rattle.spec_items.proofs.Scenes.{rel_use, rel_unruled, rel_lift, IsItem, Rulings, both_are, both_same, not_ruled, Calls, calls, rel_enter}
use Rattle.spec_items.specs.Fits.{Tables, AllOld, SetsFit, TemplateFits, RulesAreOld}

-- ---- where instructions stand
pub data RuledBy (W : View) : Bool → Bool → Type 0 where
  same_rule : {b : Bool} → Shares W Rule → RuledBy W b b
  no_rule : IsItem W → RuledBy W false true

-- the local variables are those in scope
abbrev pub Named : {N : Type 0} → List Expanded → List (Bound N) → Type 0
Named scope ds = (name : Expanded) → list_any (same_name name) scope ≡ is_some (binding_of name ds)

pub data Places {N : Type 0} (s : Setting N) (W : View) (below : ℕ) (names scope : List Expanded) (T : Tables N) : Here N → Here N → Type 0 where
  places : {n : N} {p q o r : Option ℕ} {bs ds : List (Bound N)} {d k : ℕ} {x y : Bool} → Counts W Position p q → Counts W Size o r → d ≡ below + k
      → Agree names bs ds → Named scope ds → RuledBy W x y
      → Places s W below names scope T
      (record { node = n; position = p; size = o; bindings = bs; depth = d; ruled = x; templates = T.templates; sets = T.sets; aliases = T.aliases; same = s.same })
      (record { node = n; position = q; size = r; bindings = ds; depth = k; ruled = y; templates = T.its_templates; sets = T.its_sets; aliases = T.aliases; same = s.same })

pub places_front : {N : Type 0} {s : Setting N} {W : View} {below : ℕ} (names more : List Expanded) {scope : List Expanded} {T : Tables N} {h i : Here N}
    → Places s W below (names ++ more) scope T h i → Places s W below names scope T h i
places_front names more (places p o e g m r) = places p o e (agree_front names more _ _ g) m r

pub places_back : {N : Type 0} {s : Setting N} {W : View} {below : ℕ} (names more : List Expanded) {scope : List Expanded} {T : Tables N} {h i : Here N}
    → Places s W below (names ++ more) scope T h i → Places s W below more scope T h i
places_back names more (places p o e g m r) = places p o e (agree_back names more _ _ g) m r

pub depth_of : {N : Type 0} {s : Setting N} {W : View} {below : ℕ} {names scope : List Expanded} {T : Tables N} {h i : Here N} → Places s W below names scope T h i
    → h.depth ≡ below + i.depth
depth_of (places p o e g m r) = e

pub stands_at : {N : Type 0} {s : Setting N} {W : View} {below : ℕ} {names scope : List Expanded} {T : Tables N} (site : Site) {h i : Here N} → Places s W below names scope T h i
    → Stands W names (context_at h site) (context_at i site)
stands_at site (places p o e g m r) = stands p o g

-- at a node that is sorted
pub at_stands : {N : Type 0} {s : Setting N} {W : View} {below : ℕ} {names scope : List Expanded} {T : Tables N} (site : Site) {h i : Here N} → Places s W below names scope T h i
    → (n : N) (position size : ℕ) → Stands W names (context_at (at n position size h) site) (context_at (at n position size i) site)
at_stands site (places p o e g m r) n position size = stands said said g

pub deeper_places : {N : Type 0} {s : Setting N} {W : View} {below : ℕ} {names scope : List Expanded} {T : Tables N} {h i : Here N} → Places s W below names scope T h i
    → Places s W below names scope T (deeper h) (deeper i)
deeper_places (places p o e g m r) = places p o (omega (arith, e)) g m r

pub deep_depth : {N : Type 0} {s : Setting N} {W : View} {below : ℕ} {names scope : List Expanded} {T : Tables N} {h i : Here N} → Places s W below names scope T h i
    → suc h.depth ≡ below + suc i.depth
deep_depth (places p o e g m r) = omega (arith, e)

-- ---- what is asked
pub asked_rel : {N : Type 0} {s : Setting N} {other : Question N → Answer N} {Old : N → Type 0} {past : Past N} {A : Type 0} (S : Scene s other Old past) (L : Tail N) (n : ℕ) (site : Site) {names scope : List Expanded} {T : Tables N} {h i : Here N} → Places s S.view S.below names scope T h i
    → {f g : Context N → Program N A} → ((c d : Context N) → Stands S.view names c d → Follow S.view (f c) (g d))
    → {k l : A → Plan N} → ((a : A) → Rel S L n (k a) (l a))
    → Rel S L n (lift site.place h.depth (f (context_at h site)) k) (lift site.place i.depth (g (context_at i site)) l)
asked_rel S L n site {h = h} {i = i} e alike next = rel_lift S L n h.depth i.depth (depth_of e) site.place (alike _ _ (stands_at site e)) next

-- ---- what is entered
pub rulings_of : {W : View} {x y : Bool} → RuledBy W x y → Rulings W (cond x SameRule (RuleIs None)) (cond y SameRule (RuleIs None))
rulings_of (same_rule {b = true} h) = both_same h
rulings_of (same_rule {b = false} h) = both_are
rulings_of (no_rule h) = not_ruled h

pub set_calls : {N : Type 0} {s : Setting N} {W : View} {below : ℕ} {names scope : List Expanded} {T : Tables N} (by : Place) {h i : Here N} → Places s W below names scope T h i
    → (element : N) → Calls W (set_call by h element) (set_call by i element)
set_calls by (places p o e g m r) element = calls p o (rulings_of r)

pub sets_entered_rel : {N : Type 0} {s : Setting N} {other : Question N → Answer N} {Old : N → Type 0} {past : Past N} (S : Scene s other Old past) (L : Tail N) (n : ℕ) (by : Place) {names scope : List Expanded} {T : Tables N} {h i : Here N} → Places s S.view S.below names scope T h i
    → (elements : List N) → AllOld Old elements → {p q : Plan N} → Rel S L n p q → Rel S L n (sets_entered by h elements p) (sets_entered by i elements q)
sets_entered_rel S L n by e [] old k = k
sets_entered_rel S L n by {h = h} {i = i} e (element ∷ more) old k =
    rel_enter S L n h.depth i.depth (depth_of e) old.0 (set_calls by e element) (sets_entered_rel S L n by e more old.1 k)

pub sets_of : {N : Type 0} {s : Setting N} {W : View} {below : ℕ} {names scope : List Expanded} {T : Tables N} {h i : Here N} → Places s W below names scope T h i
    → (h.sets ≡ T.sets) × (i.sets ≡ T.its_sets) × (h.templates ≡ T.templates) × (i.templates ≡ T.its_templates) × (h.aliases ≡ i.aliases) × (h.same ≡ i.same)
    × (h.node ≡ i.node)
sets_of (places p o e g m r) = (refl, refl, refl, refl, refl, refl, refl)

pub sets_rel : {N : Type 0} {s : Setting N} {other : Question N → Answer N} {Old : N → Type 0} {past : Past N} (S : Scene s other Old past) (L : Tail N) (n : ℕ) (by : Place) {names scope : List Expanded} {T : Tables N} {h i : Here N} → Places s S.view S.below names scope T h i
    → (used : List Expanded) → SetsFit Old T used → {p q : Plan N} → Rel S L n p q → Rel S L n (sets_used by h used p) (sets_used by i used q)
sets_rel {Old = Old} S L n by {T = T} {h = h} {i = i} e used fit {p = p} {q = q} k =
    let is = sets_of e in
    let first : flat_map (elements_named h.sets) used ≡ flat_map (elements_named T.sets) used = ap (λ t. flat_map (elements_named t) used) is.0 in
    let second : flat_map (elements_named h.sets) used ≡ flat_map (elements_named i.sets) used =
    first ∙ fit.0 ∙ sym (ap (λ t. flat_map (elements_named t) used) is.1) in
    subst (λ es. Rel S L n (sets_entered by h (flat_map (elements_named h.sets) used) p) (sets_entered by i es q)) second
    (sets_entered_rel S L n by e (flat_map (elements_named h.sets) used) (subst (λ es. AllOld Old es) (sym first) fit.1) k)

-- contents before what follows them
pub record Inside {N : Type 0} {s : Setting N} {other : Question N → Answer N} {Old : N → Type 0} {past : Past N} (S : Scene s other Old past) (L : Tail N) (inside others : Plan N → Plan N) : Type 0 where
  pub into : (n : ℕ) (p q : Plan N) → Rel S L n p q → Rel S L n (inside p) (others q)

-- ---- rules
pub each_rel : {N : Type 0} {s : Setting N} {other : Question N → Answer N} {Old : N → Type 0} {past : Past N} (S : Scene s other Old past) (L : Tail N) (n : ℕ) {f g : N → ℕ → Plan N → Plan N} → ((x : N) (position : ℕ) (p q : Plan N) → Rel S L n p q → Rel S L n (f x position p) (g x position q))
    → (position : ℕ) (xs : List N) {p q : Plan N} → Rel S L n p q → Rel S L n (each f position xs p) (each g position xs q)
each_rel S L n alike position [] k = k
each_rel S L n alike position (x ∷ xs) k = alike x position _ _ (each_rel S L n alike (suc position) xs k)

pub rulings_by : {N : Type 0} {W : View} (mode : Option Expanded) (rule : Option (question.ChosenRule N)) → Rulings W (ruling_by mode rule) (ruling_by mode rule)
rulings_by mode None = both_are
rulings_by mode (Some rule) = both_are

pub applied_rel : {N : Type 0} {s : Setting N} {other : Question N → Answer N} {Old : N → Type 0} {past : Past N} (S : Scene s other Old past) (L : Tail N) (n : ℕ) → RulesAreOld s.ask Old → (by : Place) (mode : Option Expanded) (parameters : List (Bound N)) (d k : ℕ) → d ≡ S.below + k → (ns : List N)
    → {p q : Plan N} → Rel S L n p q → Rel S L n (applied_to by mode parameters d ns p) (applied_to by mode parameters k ns q)
applied_rel {s = s} S L n rules by mode parameters d k e ns next =
    each_rel S L n
    (λ x position p q g.
    let a = s.ask (question.Choice x mode AllRules) in
    rel_ask S L n {k = λ a. Enter (rule_call by mode parameters (length ns) x position a) d p}
    {l = λ a. Enter (rule_call by mode parameters (length ns) x position a) k q} tt
    (rel_enter S L n d k e {c = rule_call by mode parameters (length ns) x position a} {c' = rule_call by mode parameters (length ns) x position a}
    (rules x mode AllRules) (calls said said (rulings_by mode (rule_in a))) g))
    1 ns next

-- ---- named templates
pub template_calls : {N : Type 0} {s : Setting N} {W : View} {below : ℕ} {names scope : List Expanded} {T : Tables N} (site : Site) {h i : Here N}
    → Places s W below names scope T h i → (element : N) (parameters : List (Bound N)) → Calls W (template_call site h element parameters) (template_call site i element parameters)
template_calls site (places p o e g m r) element parameters = calls p o (rulings_of r)

pub called_rel : {N : Type 0} {s : Setting N} {other : Question N → Answer N} {Old : N → Type 0} {past : Past N} (S : Scene s other Old past) (L : Tail N) (n : ℕ) (site : Site) (name : Expanded) {names scope : List Expanded} {T : Tables N} {h i : Here N} → Places s S.view S.below names scope T h i
    → TemplateFits Old T name → {passing others : (List (Bound N) → Plan N) → Plan N}
    → ((k l : List (Bound N) → Plan N) → ((all : List (Bound N)) → Rel S L n (k all) (l all)) → Rel S L n (passing k) (others l))
    → {p q : Plan N} → Rel S L n p q
    → Rel S L n (called site h passing (template_called name h.templates) p) (called site i others (template_called name i.templates) q)
called_rel {N = N} {Old = Old} S L n site name {T = T} {h = h} {i = i} e fit {passing = passing} {others = others} inner {p = p} {q = q} next =
    let is = sets_of e in
    let first : template_called name h.templates ≡ template_called name T.templates = ap (template_called name) is.2 in
    let second : template_called name T.templates ≡ template_called name i.templates = fit.0 ∙ sym (ap (template_called name) is.3) in
    subst (λ o. Rel S L n (called site h passing o p) (called site i others (template_called name i.templates) q)) (sym first)
    (subst (λ o. Rel S L n (called site h passing (template_called name T.templates) p) (called site i others o q)) second (by (template_called name T.templates) fit.1))
  where
    by : (o : Option N) → ((element : N) → o ≡ Some element → Old element) → Rel S L n (called site h passing o p) (called site i others o q)
    by None old = rel_put S L n next
    by (Some element) old =
        rel_put S L n (inner _ _ (λ all. rel_enter S L n h.depth i.depth (depth_of e) (old element refl) (template_calls site e element all) next))

-- ---- copies
pub copies_rel : {N : Type 0} {s : Setting N} {other : Question N → Answer N} {Old : N → Type 0} {past : Past N} (S : Scene s other Old past) (L : Tail N) (n : ℕ) (ns : List N) {p q : Plan N} → Rel S L n p q → Rel S L n (nodes_copied ns p) (nodes_copied ns q)
copies_rel S L n [] k = k
copies_rel S L n (x ∷ xs) k = rel_ask S L n tt (rel_put S L n (copies_rel S L n xs k))

pub value_rel : {N : Type 0} {s : Setting N} {other : Question N → Answer N} {Old : N → Type 0} {past : Past N} (S : Scene s other Old past) (L : Tail N) (n : ℕ) (v : Value N) {p q : Plan N} → Rel S L n p q → Rel S L n (value_copied v p) (value_copied v q)
unfolding lift
value_rel S L n (value.Nodes ns) k = rel_put S L n (copies_rel S L n ns k)
value_rel S L n (value.Fragment a) k = rel_put S L n k
value_rel S L n (value.Text t) k = rel_put S L n k
value_rel S L n (value.Number m) k = rel_put S L n k
value_rel S L n (value.Boolean b) k = rel_put S L n k

pub namespaces_rel : {N : Type 0} {s : Setting N} {other : Question N → Answer N} {Old : N → Type 0} {past : Past N} (S : Scene s other Old past) (L : Tail N) (n : ℕ) (ns : List N) (done : List (List ℕ × List ℕ)) {k l : List (List ℕ × List ℕ) → Plan N}
    → ((all : List (List ℕ × List ℕ)) → Rel S L n (k all) (l all)) → Rel S L n (namespaces_read ns done k) (namespaces_read ns done l)
namespaces_rel S L n [] done next = next done
namespaces_rel {s = s} S L n (x ∷ xs) done next = rel_ask S L n tt (rel_ask S L n tt (namespaces_rel S L n xs (done ++ (local_in (s.ask (question.Name x)), text_in (s.ask (question.Text x))) ∷ []) next))

-- ---- instructions
pub rule_rel : {N : Type 0} {s : Setting N} {other : Question N → Answer N} {Old : N → Type 0} {past : Past N} (S : Scene s other Old past) (L : Tail N) (n : ℕ) → RulesAreOld s.ask Old → (site : Site) {names scope : List Expanded} {T : Tables N} {h i : Here N} → Places s S.view S.below names scope T h i
    → (rule : Option CurrentRule) → {p q : Plan N} → Rel S L n p q → Rel S L n (imports_applied site h rule p) (imports_applied site i rule q)
rule_rel S L n rules site e None k = rel_stop S L n _
rule_rel {s = s} S L n rules site (places {n = x} p o e g m r) (Some rule) k =
    rel_ask S L n tt (rel_enter S L n _ _ e (rules x rule.mode (question.Imported rule.first rule.last))
    (calls p o (rulings_by rule.mode (rule_in (s.ask (question.Choice x rule.mode (question.Imported rule.first rule.last)))))) k)

-- the ruling of the item
abbrev pub Unruled : {N : Type 0} {s : Setting N} {other : Question N → Answer N} {Old : N → Type 0} {past : Past N} → Scene s other Old past → Type 0
Unruled S = IsItem S.view → S.its.ruling ≡ RuleIs None

pub imports_rel : {N : Type 0} {s : Setting N} {other : Question N → Answer N} {Old : N → Type 0} {past : Past N} (S : Scene s other Old past) (L : Tail N) (n : ℕ) → Unruled S → RulesAreOld s.ask Old → (site : Site) {names scope : List Expanded} {T : Tables N} {h i : Here N} → Places s S.view S.below names scope T h i
    → {p q : Plan N} → Rel S L n p q → Rel S L n (planned_without site h made.ApplyImports p) (planned_without site i made.ApplyImports q)
imports_rel S L n unruled rules site {T = T} (places {d = d} {k = k} p o e g m (same_rule {b = true} share)) next =
    rel_use S L n d k e Rule share site.place (λ x. rule_rel S L n rules site {T = T} (places p o e g m (same_rule {b = true} share)) (current_in x) next)
imports_rel S L n unruled rules site (places p o e g m (same_rule {b = false} share)) next = rel_stop S L n _
imports_rel S L n unruled rules site (places {k = k} p o e g m (no_rule is)) next = rel_unruled S L n k (unruled is) site.place (rel_stop S L n _)

pub without_rel : {N : Type 0} {s : Setting N} {other : Question N → Answer N} {Old : N → Type 0} {past : Past N} (S : Scene s other Old past) (L : Tail N) (n : ℕ) → Unruled S → RulesAreOld s.ask Old → (site : Site) (what : made.WithoutContent) {scope : List Expanded} {T : Tables N} {h i : Here N}
    → Places s S.view S.below (names_without what) scope T h i → {p q : Plan N} → Rel S L n p q
    → Rel S L n (planned_without site h what p) (planned_without site i what q)
without_rel S L n unruled rules site (made.Text t) e k = rel_put S L n k
without_rel S L n unruled rules site (made.ValueOf x) e k = asked_rel S L n site e (λ c d g. text_meant_follow x g) (λ t. rel_put S L n k)
without_rel S L n unruled rules site (made.CopyOf x) e k = asked_rel S L n site e (λ c d g. meaning_follow x g) (λ v. value_rel S L n v k)
without_rel {s = s} S L n unruled rules site (made.Number numbering) {T = T} (places p o e g m r) k =
    asked_rel S L n site {T = T} (places p o e g m r) (λ c d g. number_follow s.same numbering g) (λ t. rel_put S L n k)
without_rel S L n unruled rules site made.ApplyImports e k = imports_rel S L n unruled rules site e k
without_rel S L n unruled rules site made.Fallback e k = rel_put S L n k

pub attributes_rel : {N : Type 0} {s : Setting N} {other : Question N → Answer N} {Old : N → Type 0} {past : Past N} (S : Scene s other Old past) (L : Tail N) (n : ℕ) (site : Site) (attributes : List LiteralAttribute) {scope : List Expanded} {T : Tables N} {h i : Here N}
    → Places s S.view S.below (names_in_attributes attributes) scope T h i → {p q : Plan N} → Rel S L n p q
    → Rel S L n (attributes_put site h attributes p) (attributes_put site i attributes q)
attributes_rel S L n site [] e k = k
attributes_rel S L n site (a ∷ more) {h = h} {i = i} e {p = p} {q = q} k =
    asked_rel S L n site (places_front (names_in_avt a.value) (names_in_attributes more) e) (λ c d g. joined_follow a.value.parts g)
    (λ t. subst (λ al. Rel S L n (Put (attribute_aliased h.aliases a t) (attributes_put site h more p)) (Put (attribute_aliased al a t) (attributes_put site i more q)))
    (sets_of e).4 (rel_put S L n (attributes_rel S L n site more (places_back (names_in_avt a.value) (names_in_attributes more) e) k)))

pub copy_rel : {N : Type 0} {s : Setting N} {other : Question N → Answer N} {Old : N → Type 0} {past : Past N} (S : Scene s other Old past) (L : Tail N) (n : ℕ) (x : N) {p q : Plan N} → Rel S L n p q
    → Rel S L n (Inquire (question.Copy x) (λ c. Put (stream_in c) p)) (Inquire (question.Copy x) (λ c. Put (stream_in c) q))
copy_rel S L n x k = rel_ask S L n tt (rel_put S L n k)

pub copied_rel : {N : Type 0} {s : Setting N} {other : Question N → Answer N} {Old : N → Type 0} {past : Past N} (S : Scene s other Old past) (L : Tail N) (n : ℕ) (by : Place) {names scope : List Expanded} {T : Tables N} {h i : Here N} → Places s S.view S.below names scope T h i → (used : List Expanded)
    → SetsFit Old T used → (a : Answer N) {inside others : Plan N → Plan N} → Inside S L inside others
    → {p q : Plan N} → Rel S L n p q → Rel S L n (copied_as by h used a inside p) (copied_as by i used a others q)
copied_rel S L n by (places {n = x} p o e g m r) used fit question.Gone inner k = copy_rel S L n x k
copied_rel S L n by (places {n = x} p o e g m r) used fit (question.Refused why) inner k = copy_rel S L n x k
copied_rel S L n by (places {n = x} p o e g m r) used fit (question.SomeNodes nodes) inner k = copy_rel S L n x k
copied_rel S L n by (places {n = x} p o e g m r) used fit (question.SomeText text) inner k = copy_rel S L n x k
copied_rel S L n by (places {n = x} p o e g m r) used fit (question.Chosen rule) inner k = copy_rel S L n x k
copied_rel S L n by (places {n = x} p o e g m r) used fit (question.Copied copied) inner k = copy_rel S L n x k
copied_rel S L n by (places {n = x} p o e g m r) used fit (question.Resolved unit) inner k = copy_rel S L n x k
copied_rel S L n by (places {n = x} p o e g m r) used fit (question.Passed text) inner k = copy_rel S L n x k
copied_rel S L n by (places {n = x} p o e g m r) used fit (question.Named kind.Attribute name written) inner k = copy_rel S L n x k
copied_rel S L n by (places {n = x} p o e g m r) used fit (question.Named kind.Namespace name written) inner k = copy_rel S L n x k
copied_rel S L n by (places {n = x} p o e g m r) used fit (question.Named kind.Text name written) inner k = copy_rel S L n x k
copied_rel S L n by (places {n = x} p o e g m r) used fit (question.Named kind.Comment name written) inner k = copy_rel S L n x k
copied_rel S L n by (places {n = x} p o e g m r) used fit (question.Named kind.Instruction name written) inner k = copy_rel S L n x k
copied_rel S L n by (places {n = x} p o e g m r) used fit (question.Named kind.Root name written) inner k = inner.into n _ _ k
copied_rel S L n by {T = T} (places {n = x} p o e g m r) used fit (question.Named kind.Element name written) inner k =
    rel_ask S L n tt (namespaces_rel S L n _ [] (λ namespaces. rel_begin S L n (sets_rel S L (suc n) by {T = T} (places p o e g m r) used fit
    (inner.into (suc n) _ _ (rel_wrap S L n _ k)))))

pub with_rel : {N : Type 0} {s : Setting N} {other : Question N → Answer N} {Old : N → Type 0} {past : Past N} (S : Scene s other Old past) (L : Tail N) (n : ℕ) (site : Site) (what : made.WithContent) {scope : List Expanded} {T : Tables N} {h i : Here N}
    → Places s S.view S.below (names_with what) scope T h i → SetsFit Old T (sets_by what) → {inside others : Plan N → Plan N} → Inside S L inside others
    → {p q : Plan N} → Rel S L n p q → Rel S L n (planned_with site h what inside p) (planned_with site i what others q)
with_rel S L n site (made.Literal tag) {T = T} (places p o e g m r) fit inner k =
    rel_begin S L n (sets_rel S L (suc n) site.place {T = T} (places p o e g m r) tag.sets fit
    (attributes_rel S L (suc n) site tag.attributes {T = T} (places p o e g m r) (inner.into (suc n) _ _ (rel_wrap S L n _ k))))
with_rel S L n site (made.Element name used) e fit inner k =
    asked_rel S L n site e (λ c d g. element_follow name g) (λ w. rel_begin S L n (sets_rel S L (suc n) site.place e used fit (inner.into (suc n) _ _ (rel_wrap S L n w k))))
with_rel S L n site (made.Attribute name) e fit inner k =
    asked_rel S L n site e (λ c d g. attribute_follow name g) (λ w. rel_begin S L n (inner.into (suc n) _ _ (rel_wrap S L n w k)))
with_rel S L n site made.Comment e fit inner k = rel_begin S L n (inner.into (suc n) _ _ (rel_wrap S L n _ k))
with_rel S L n site (made.ProcessingInstruction target) e fit inner k =
    asked_rel S L n site e (λ c d g. instruction_follow target g) (λ w. rel_begin S L n (inner.into (suc n) _ _ (rel_wrap S L n w k)))
with_rel {s = s} S L n site (made.Copy used) {h = h} {i = i} e fit {inside = inside} {others = others} inner {p = p} {q = q} k =
    subst (λ x. Rel S L n (Inquire (question.Name h.node) (λ a. copied_as site.place h used a inside p)) (Inquire (question.Name x) (λ a. copied_as site.place i used a others q)))
    (sets_of e).6 (rel_ask S L n tt (copied_rel S L n site.place e used fit (s.ask (question.Name h.node)) inner k))
with_rel S L n site (made.Message terminates) e fit inner k =
    rel_begin S L n (inner.into (suc n) _ _ (rel_wrap S L n _ (rel_either S L n terminates (rel_stop S L n _) k)))
with_rel S L n site (made.Variable name select) e fit inner k = rel_put S L n k

-- ---- sorting
pub criteria_rel : {N : Type 0} {s : Setting N} {other : Question N → Answer N} {Old : N → Type 0} {past : Past N} (S : Scene s other Old past) (L : Tail N) (n : ℕ) (keys : List SortKey) {scope : List Expanded} {T : Tables N} {h i : Here N} → Places s S.view S.below (names_in_keys keys) scope T h i
    → (done : List Criterion) {k l : List Criterion → Plan N} → ((cs : List Criterion) → Rel S L n (k cs) (l cs))
    → Rel S L n (criteria_asked keys h done k) (criteria_asked keys i done l)
criteria_rel S L n [] e done next = next done
criteria_rel S L n (key ∷ more) e done next =
    let all = names_in key.select ++ (names_in_avt key.data_type ++ names_in_avt key.order) in
    let own = places_back (names_in key.select) (names_in_avt key.data_type ++ names_in_avt key.order) (places_front all (names_in_keys more) e) in
    asked_rel S L n key.site own (λ c d g. criterion_follow key g)
    (λ c. criteria_rel S L n more (places_back all (names_in_keys more) e) (done ++ c ∷ []) next)

pub keys_rel : {N : Type 0} {s : Setting N} {other : Question N → Answer N} {Old : N → Type 0} {past : Past N} (S : Scene s other Old past) (L : Tail N) (n : ℕ) (keys : List SortKey) (criteria : List Criterion) {scope : List Expanded} {T : Tables N} {h i : Here N}
    → Places s S.view S.below (names_in_keys keys) scope T h i → (x : N) (position size : ℕ) (done : List KeyValue) {k l : List KeyValue → Plan N}
    → ((vs : List KeyValue) → Rel S L n (k vs) (l vs))
    → Rel S L n (keys_asked keys criteria (at x position size h) done k) (keys_asked keys criteria (at x position size i) done l)
keys_rel S L n [] criteria e x position size done next = next done
keys_rel S L n (key ∷ more) [] e x position size done next = next done
keys_rel S L n (key ∷ more) (c ∷ cs) {h = h} {i = i} e x position size done next =
    let all = names_in key.select ++ (names_in_avt key.data_type ++ names_in_avt key.order) in
    let own = places_front (names_in key.select) (names_in_avt key.data_type ++ names_in_avt key.order) (places_front all (names_in_keys more) e) in
    rel_lift S L n h.depth i.depth (depth_of e) key.site.place (key_follow key c (at_stands key.site own x position size))
    (λ v. keys_rel S L n more cs (places_back all (names_in_keys more) e) x position size (done ++ v ∷ []) next)

pub rows_rel : {N : Type 0} {s : Setting N} {other : Question N → Answer N} {Old : N → Type 0} {past : Past N} (S : Scene s other Old past) (L : Tail N) (n : ℕ) (keys : List SortKey) (criteria : List Criterion) (size : ℕ) {scope : List Expanded} {T : Tables N} {h i : Here N}
    → Places s S.view S.below (names_in_keys keys) scope T h i → (position : ℕ) (xs : List N) (done : List (Row N)) {k l : List (Row N) → Plan N}
    → ((rows : List (Row N)) → Rel S L n (k rows) (l rows))
    → Rel S L n (rows_asked keys criteria size h position xs done k) (rows_asked keys criteria size i position xs done l)
rows_rel S L n keys criteria size e position [] done next = next done
rows_rel S L n keys criteria size e position (x ∷ xs) done next =
    keys_rel S L n keys criteria e x position size []
    (λ vs. rows_rel S L n keys criteria size e (suc position) xs (done ++ row x vs ∷ []) next)

pub sorted_rel : {N : Type 0} {s : Setting N} {other : Question N → Answer N} {Old : N → Type 0} {past : Past N} (S : Scene s other Old past) (L : Tail N) (n : ℕ) (keys : List SortKey) {scope : List Expanded} {T : Tables N} {h i : Here N} → Places s S.view S.below (names_in_keys keys) scope T h i
    → (ns : List N) {k l : List N → Plan N} → ((ms : List N) → Rel S L n (k ms) (l ms)) → Rel S L n (sorted keys h ns k) (sorted keys i ns l)
sorted_rel S L n [] e ns next = next ns
sorted_rel S L n (key ∷ more) e ns next =
    criteria_rel S L n (key ∷ more) e [] (λ cs. rows_rel S L n (key ∷ more) cs (length ns) e 1 ns []
    (λ rows. rel_put S L n (next (nodes_in_order cs rows))))

-- ---- variables and parameters
pub valued_rel : {N : Type 0} {s : Setting N} {other : Question N → Answer N} {Old : N → Type 0} {past : Past N} (S : Scene s other Old past) (L : Tail N) (n : ℕ) (site : Site) (select : Option Expr) (empty : Bool) {scope : List Expanded} {T : Tables N} {h i : Here N}
    → Places s S.view S.below (names_if select) scope T h i → {inside others : Plan N → Plan N} → Inside S L inside others → {k l : Value N → Plan N}
    → ((v : Value N) → Rel S L n (k v) (l v)) → Rel S L n (valued site h select empty inside k) (valued site i select empty others l)
valued_rel S L n site (Some x) empty e inner next = asked_rel S L n site e (λ c d g. meaning_follow x g) (λ v. rel_put S L n (next v))
valued_rel S L n site None true e inner next = rel_put S L n (next (value.Text []))
valued_rel S L n site None false e inner next = rel_begin S L n (inner.into (suc n) _ _ (rel_take S L n (λ a. next (value.Fragment (filled a [])))))

pub empty_same : (scope : List Expanded) (is : Instrs) → is_empty is ≡ is_empty (left_in scope is)
empty_same scope no_instrs = refl
empty_same scope (instr site form is) = refl

-- the content of a variable, before what follows it
pub content_rel : {N : Type 0} {s : Setting N} {other : Question N → Answer N} {Old : N → Type 0} {past : Past N} (S : Scene s other Old past) (L : Tail N) (n : ℕ) (site : Site) (select : Option Expr) (scope : List Expanded) (is : Instrs) {T : Tables N} {h i : Here N}
    → Places s S.view S.below (names_if select) scope T h i → {inside others : Plan N → Plan N} → Inside S L inside others → {k l : Value N → Plan N}
    → ((v : Value N) → Rel S L n (k v) (l v))
    → Rel S L n (valued site h select (is_empty is) inside k) (valued site i select (is_empty (left_in scope is)) others l)
content_rel S L n site select scope is {h = h} {i = i} e {inside = inside} {others = others} inner {k = k} {l = l} next =
    subst (λ b. Rel S L n (valued site h select (is_empty is) inside k) (valued site i select b others l)) (empty_same scope is)
    (valued_rel S L n site select (is_empty is) e inner next)
