-- The content of an xsl:for-each where it stands, and in its template: item by item.
use Rattle.std.proofs.Common.{◌≡◌, ℕ, zero, suc, List, [], ◌∷◌, ◌++◌, length, Bool, cond, None, Some, refl, sym, ap, subst, ◌∙◌, arith}
use Rattle.std.specs.Prelude.{◌||◌}
use Rattle.spec_document.specs.Name.{Expanded, same_name}
use Rattle.spec_expression.specs.Syntax.{Expr}
use Rattle.spec_stylesheet.specs.Place.{Place, Site}
use Rattle.spec_stylesheet.specs.Instruction as made
use Rattle.spec_stylesheet.specs.Instruction.{SortKey, LiteralAttribute, LiteralTag, Form, without_content, with_content, control, Control, for_each, for_items, conditional, choose}
use Rattle.spec_stylesheet.specs.Instruction.{apply_templates, call_template, Instrs, no_instrs, instr, Branches, no_branches, branch, no_bindings, binding}
use Rattle.spec_stylesheet.specs.Sheet as sheet
use Rattle.spec_stylesheet.specs.Sheet.{Alias}
use Rattle.spec_meaning.specs.Stream as stream
use Rattle.spec_meaning.specs.Stream.{Stream, filled}
use Rattle.spec_meaning.specs.Value as value
use Rattle.spec_meaning.specs.Value.{Value}
use Rattle.spec_meaning.specs.Question as question
use Rattle.spec_meaning.specs.Question.{Question, Answer, NamedTemplate, NamedSets, AllRules, nodes_in, rule_in, text_in, local_in}
use Rattle.spec_meaning.specs.Program.{Wanted}
use Rattle.spec_meaning.specs.Context.{Bound, binding_of}
use Rattle.spec_meaning.specs.Meaning.{bound_or_global}
use Rattle.spec_transform.specs.Numbering.{names_in}
use Rattle.spec_run.specs.Plan.{Call, Plan, End, Put, Deep, Enter, lift}
use Rattle.spec_run.specs.Direct.{Supplied, Outcome, direct}
use Rattle.spec_run.specs.Content as content
use Rattle.spec_run.specs.Content.{Here, deeper, at, with_variable, context_at, text_meant, nodes_meant, truth_meant, each, text_item, target_by, ruling_by}
use Rattle.spec_run.specs.Content.{rule_call, applied_to, imports_applied, template_called, template_call, called, item_call, items_entered, nodes_copied, value_copied}
use Rattle.spec_run.specs.Content.{namespaces_read, kind_in, attribute_aliased, attributes_put, set_call, elements_named, sets_entered, sets_used, criteria_asked, keys_asked, rows_asked}
use Rattle.spec_run.specs.Content.{sorted, planned_without, copied_as, planned_with, is_empty, valued, unless_passed, planned, plan, planned_control, planned_branches}
use Rattle.spec_run.specs.Content.{with_parameters, declared_planned, here_in, unit_planned, plan_of}
use Rattle.spec_run.specs.World.{sets_by}
use Rattle.spec_run.specs.Meaning.{Setting, Past}
use Rattle.spec_items.specs.Mentioned.{names_if, names_in_keys, names_without, names_with, mentioned_in, mentioned_by, mentioned_under}
use Rattle.spec_items.specs.Mentioned.{mentioned_in_branches, mentioned_in_bindings, free_in}
use Rattle.spec_items.specs.Lifted.{item_name, parameters_for, passed_for, scope_after, left_in, left_by, left_under, left_in_branches, left_passed}
use Rattle.spec_items.proofs.Follow.{View, item, told, Agree}
use Rattle.spec_items.proofs.Variables.{name_turned, some_either, AllFound, all_found, given_from, free_is_in_scope, agree_taken, named_taken, found_passed}
use Rattle.spec_items.proofs.Patterns.{nodes_meant_follow, truth_meant_follow}
use Rattle.spec_items.proofs.Scenes.{Scene, Tail, Rel, rel_end, rel_put, rel_nothing, rel_either}
use Rattle.spec_items.proofs.Scenes.{rel_deep, rel_item}
use Rattle.spec_items.proofs.Instructions.{Inside, Named, Places, Unruled, applied_rel, asked_rel, called_rel, content_rel, deep_depth, deeper_places, depth_of, each_rel, no_rule, places, places_back, places_front, sets_of, sorted_rel, with_rel, without_rel}
use Rattle.spec_items.specs.Fits.{Tables, SetsFit, FitsIn, FitsBy, FitsUnder, FitBranches, FitPassed, RulesAreOld}

-- one more variable
agree_more : {N : Type 0} (names : List Expanded) (b : Bound N) (bs ds : List (Bound N)) → Agree names bs ds → Agree names (b ∷ bs) (b ∷ ds)
agree_more [] b bs ds h = tt
agree_more (name ∷ names) b bs ds h = (ap (λ o. cond (same_name b.name name) (Some b.value) o) h.0, agree_more names b bs ds h.1)

pub named_more : {N : Type 0} (scope : List Expanded) (b : Bound N) (ds : List (Bound N)) → Named scope ds → Named (b.name ∷ scope) (b ∷ ds)
named_more scope b ds h name =
    (λ i. name_turned name b.name i || h name i) ∙ sym (some_either (same_name b.name name) b.value (binding_of name ds))

variable_places : {N : Type 0} {s : Setting N} {W : View} {below : ℕ} {names scope : List Expanded} {T : Tables N} (name : Expanded) (v : Value N) {h i : Here N}
    → Places s W below names scope T h i → Places s W below names (name ∷ scope) T (with_variable name v h) (with_variable name v i)
variable_places {N = N} {names = names} {scope = scope} name v (places {bs = bs} {ds = ds} p o e g m r) =
    let b : Bound N = record { name = name; value = v } in
    places p o e (agree_more names b bs ds g) (named_more scope b ds m) r

-- what follows where an instruction stands, with what it declares
record Following {N : Type 0} {s : Setting N} {other : Question N → Answer N} {Old : N → Type 0} {past : Past N} (S : Scene s other Old past) (L : Tail N) (n : ℕ) (names scope : List Expanded) (T : Tables N) (rest others : Here N → Plan N) : Type 0 where
  follows : (h i : Here N) → Places s S.view S.below names scope T h i → Rel S L n (rest h) (others i)

pub deep_inside : {N : Type 0} {s : Setting N} {other : Question N → Answer N} {Old : N → Type 0} {past : Past N} (S : Scene s other Old past) (L : Tail N) (site : Site) (scope : List Expanded) (is : Instrs) {T : Tables N} {h i : Here N}
    → Places s S.view S.below (mentioned_in is) scope T h i
    → Inside S L (planned is (deeper h)) (planned (left_in scope is) (deeper i))
    → Inside S L (λ p. Deep (suc h.depth) site.place (planned is (deeper h) p)) (λ q. Deep (suc i.depth) site.place (planned (left_in scope is) (deeper i) q))
deep_inside S L site scope is {h = h} {i = i} e inner =
    record { into = λ n p q k. rel_deep S L n (suc h.depth) (suc i.depth) (deep_depth e) site.place (inner.into n p q k) }

-- an instruction with a content
instruction_rel : {N : Type 0} {s : Setting N} {other : Question N → Answer N} {Old : N → Type 0} {past : Past N} (S : Scene s other Old past) (L : Tail N) (n : ℕ) (site : Site) (what : made.WithContent) (scope : List Expanded) (is : Instrs) (more : List Expanded) {T : Tables N} {h i : Here N}
    → Places s S.view S.below ((names_with what ++ mentioned_in is) ++ more) scope T h i → SetsFit Old T (sets_by what)
    → Inside S L (planned is (deeper h)) (planned (left_in scope is) (deeper i)) → {rest others : Here N → Plan N}
    → Following S L n more (scope_after scope (with_content what is)) T rest others
    → Rel S L n (plan site (with_content what is) h rest) (plan site (with_content what (left_in scope is)) i others)
instruction_rel {s = s} {Old = Old} S L n site what scope is more {T = T} {h = h} {i = i} e fit inner {rest = rest} {others = others} next =
    by what (places_front (names_with what) (mentioned_in is) (places_front (names_with what ++ mentioned_in is) more e)) fit
    (deep_inside S L site scope is (places_back (names_with what) (mentioned_in is) (places_front (names_with what ++ mentioned_in is) more e)) inner)
    (places_back (names_with what ++ mentioned_in is) more e) next
  where
    by : (what : made.WithContent) → Places s S.view S.below (names_with what) scope T h i → SetsFit Old T (sets_by what)
        → Inside S L (λ p. Deep (suc h.depth) site.place (planned is (deeper h) p)) (λ q. Deep (suc i.depth) site.place (planned (left_in scope is) (deeper i) q))
        → Places s S.view S.below more scope T h i → Following S L n more (scope_after scope (with_content what is)) T rest others
        → Rel S L n (plan site (with_content what is) h rest) (plan site (with_content what (left_in scope is)) i others)
    by (made.Variable name select) g f inside after next =
        content_rel S L n site select scope is g inside (λ v. next.follows _ _ (variable_places name v after))
    by (made.Literal tag) g f inside after next = with_rel S L n site (made.Literal tag) g f inside (next.follows _ _ after)
    by (made.Element name used) g f inside after next = with_rel S L n site (made.Element name used) g f inside (next.follows _ _ after)
    by (made.Attribute name) g f inside after next = with_rel S L n site (made.Attribute name) g f inside (next.follows _ _ after)
    by made.Comment g f inside after next = with_rel S L n site made.Comment g f inside (next.follows _ _ after)
    by (made.ProcessingInstruction target) g f inside after next = with_rel S L n site (made.ProcessingInstruction target) g f inside (next.follows _ _ after)
    by (made.Copy used) g f inside after next = with_rel S L n site (made.Copy used) g f inside (next.follows _ _ after)
    by (made.Message terminates) g f inside after next = with_rel S L n site (made.Message terminates) g f inside (next.follows _ _ after)

-- ---- items
-- the first passes nothing
passing_rel : {N : Type 0} {s : Setting N} {other : Question N → Answer N} {Old : N → Type 0} {past : Past N} (S : Scene s other Old past) (L : Tail N) (n : ℕ) (site : Site) (names : List Expanded) (i : Here N) (f : AllFound names i.bindings) (done : List (Bound N))
    (k : List (Bound N) → Plan N) {p : Plan N} → Rel S L n p (k (given_from names i.bindings f done)) → Rel S L n p (content.passed (passed_for site names) i done k)
unfolding lift
passing_rel S L n site [] i f done k next = next
passing_rel S L n site (name ∷ names) i f done k {p = p} next =
    subst (λ o. Rel S L n p (lift site.place i.depth (bound_or_global name o) (λ v. Put stream.Ended (content.passed (passed_for site names) i (record { name = name; value = v } ∷ done) k))))
    (sym f.0.1) (rel_nothing S L n (passing_rel S L n site names i f.1 (record { name = name; value = f.0.0 } ∷ done) k next))

-- with these variables
abbrev pub with_given : {N : Type 0} → Here N → List (Bound N) → Here N
with_given h es = record {
  node = h.node;
  position = h.position;
  size = h.size;
  bindings = es;
  depth = h.depth;
  ruled = h.ruled;
  templates = h.templates;
  sets = h.sets;
  aliases = h.aliases;
  same = h.same;
}

-- the template takes what is passed
taking : {N : Type 0} (ask : Question N → Answer N) (supply : Wanted → ℕ → Place → Supplied N) (nested : ℕ → Call N → Outcome N) (room : ℕ) (site : Site)
    (names : List Expanded) (given : List (Bound N)) (f : AllFound names given) (h : Here N) (es : List (Bound N)) (k : Here N → Plan N)
    → direct ask supply nested room (with_parameters (parameters_for site names) given (with_given h es) k) stream.Ended []
    ≡ direct ask supply nested room (k (with_given h (given_from names given f es))) stream.Ended []
taking ask supply nested room site [] given f h es k = refl
taking ask supply nested room site (name ∷ names) given f h es k =
    let rest : Value _ → Plan _ = λ v. with_parameters (parameters_for site names) given (with_variable name v (with_given h es)) k in
    ap (λ o. direct ask supply nested room (unless_passed o (Put stream.Ended (rest (value.Text []))) rest) stream.Ended []) f.0.1
    ∙ taking ask supply nested room site names given f.1 h (record { name = name; value = f.0.0 } ∷ es) k

-- the content of an item in the scene of its own
record Content {N : Type 0} (s : Setting N) (other : Question N → Answer N) (Old : N → Type 0) (past : Past N) (scope : List Expanded) (is : Instrs) (T : Tables N) : Type 0 where
  contains : (I : Scene s other Old past) (U : Tail N) → Unruled I → (h i : Here N) → Places s I.view I.below (mentioned_in is) scope T h i
      → (p q : Plan N) → Rel I U zero p q → Rel I U zero (planned is h p) (planned (left_in scope is) i q)

named_of : {N : Type 0} {s : Setting N} {W : View} {below : ℕ} {names scope : List Expanded} {T : Tables N} {h i : Here N} → Places s W below names scope T h i
    → Named scope i.bindings
named_of (places p o e g m r) = m

-- where the content of an item stands, in its template
abbrev there_in : {N : Type 0} → Setting N → N → question.ResolvedUnit N → (free : List Expanded) → (ds : List (Bound N)) → AllFound free ds → Here N
there_in s y u free ds f = with_given (here_in s.same y u) (given_from free (given_from free ds f []) (found_passed free ds f) [])

item_places : {N : Type 0} {s : Setting N} {W : View} {below : ℕ} (scope : List Expanded) (is : Instrs) {T : Tables N} {h i : Here N} (v : sheet.Unit)
    (us : List (NamedTemplate N)) (rs : List (NamedSets N)) (counts : Bool) → Places s W below (mentioned_in is) scope T h i
    → (f : AllFound (free_in scope is) i.bindings) (y : N) (position size : ℕ)
    → Places s (item position size) (suc h.depth) (mentioned_in is) (free_in scope is)
    (record { templates = T.templates; sets = T.sets; its_templates = us; its_sets = rs; aliases = T.aliases })
    (deeper (at y position size h))
    (there_in s y (record { unit = v; templates = us; sets = rs; aliases = T.aliases; counts = counts }) (free_in scope is) i.bindings f)
item_places scope is v us rs counts (places {bs = bs} {ds = ds} p o e g m r) f y position size =
    let free = free_in scope is in
    places (told refl) (told refl) (omega arith) (agree_taken scope is bs ds g m f (found_passed free ds f))
    (named_taken free (given_from free ds f []) (found_passed free ds f)) (no_rule tt)

item_rel : {N : Type 0} {s : Setting N} {other : Question N → Answer N} {Old : N → Type 0} {past : Past N} (S : Scene s other Old past) (L : Tail N) (n : ℕ) (site : Site) (scope : List Expanded) (is : Instrs) {T : Tables N} {h i : Here N} (element : N) (v : sheet.Unit)
    (us : List (NamedTemplate N)) (rs : List (NamedSets N)) (counts : Bool)
    → other (question.Unit element) ≡ question.Resolved (record { unit = v; templates = us; sets = rs; aliases = T.aliases; counts = counts })
    → v.declared ≡ sheet.ATemplate (record {
      name = Some (item_name site.place);
      parameters = parameters_for site (free_in scope is);
      content = left_in (free_in scope is) is;
    })
    → Content s other Old past (free_in scope is) is (record { templates = T.templates; sets = T.sets; its_templates = us; its_sets = rs; aliases = T.aliases })
    → Places s S.view S.below (mentioned_in is) scope T h i → (f : AllFound (free_in scope is) i.bindings) (y : N) (position size : ℕ) {p q : Plan N} → Rel S L n p q
    → Rel S L n (Deep (suc h.depth) site.place (planned is (deeper (at y position size h)) p))
    (Enter (item_call site.place element (given_from (free_in scope is) i.bindings f []) size y position) i.depth q)
item_rel {s = s} {other = other} S L n site scope is {T = T} {h = h} {i = i} element v us rs counts resolved declares inner e f y position size {p = p} next =
    let free = free_in scope is in
    let params = given_from free i.bindings f [] in
    let u : question.ResolvedUnit _ = record { unit = v; templates = us; sets = rs; aliases = T.aliases; counts = counts } in
    let there = there_in s y u free i.bindings f in
    let tables : Tables _ = record { templates = T.templates; sets = T.sets; its_templates = us; its_sets = rs; aliases = T.aliases } in
    rel_item S L n h.depth i.depth (depth_of e) site.place element y params position size (planned (left_in free is) there End)
    (λ supply nested room.
    ap (λ a. direct other supply nested room (unit_planned s.same y params a) stream.Ended []) resolved
    ∙ ap (λ d. direct other supply nested room (declared_planned v.site.place d params (here_in s.same y u)) stream.Ended []) declares
    ∙ taking other supply nested room site free params (found_passed free i.bindings f) (here_in s.same y u) [] (λ here. planned (left_in free is) here End))
    (λ I U w b none m. inner.contains I U (λ t. none) (deeper (at y position size h)) there
    (subst (λ W. Places s W I.below (mentioned_in is) free tables (deeper (at y position size h)) there) (sym w)
    (subst (λ k. Places s (item position size) k (mentioned_in is) free tables (deeper (at y position size h)) there) (sym b)
    (item_places scope is v us rs counts e f y position size)))
    p End (subst (λ more. Rel I U zero more End) m (rel_end I U)))
    next

for_each_rel : {N : Type 0} {s : Setting N} {other : Question N → Answer N} {Old : N → Type 0} {past : Past N} (S : Scene s other Old past) (L : Tail N) (n : ℕ) (site : Site) (x : Expr) (keys : List SortKey) (scope : List Expanded) (is : Instrs) {T : Tables N} {h i : Here N}
    → (fit : FitsUnder other Old T scope site (for_each x keys is))
    → Content s other Old past (free_in scope is) is (record { templates = T.templates; sets = T.sets; its_templates = fit.2; its_sets = fit.3; aliases = T.aliases })
    → Places s S.view S.below (names_in x ++ (names_in_keys keys ++ mentioned_in is)) scope T h i → {p q : Plan N} → Rel S L n p q
    → Rel S L n (planned_control site (for_each x keys is) h p) (planned_control site (left_under scope site (for_each x keys is)) i q)
for_each_rel {s = s} {other = other} S L n site x keys scope is {h = h} {i = i} fit inner e {p = p} {q = q} next =
    let free = free_in scope is in
    let f : AllFound free i.bindings = all_found free i.bindings (λ name m. sym (named_of e name) ∙ free_is_in_scope scope is name m) in
    let params = given_from free i.bindings f [] in
    let behind = places_back (names_in x) (names_in_keys keys ++ mentioned_in is) e in
    let found : template_called (item_name site.place) i.templates ≡ Some fit.0 = ap (template_called (item_name site.place)) (sets_of e).3 ∙ fit.5 in
    asked_rel S L n site (places_front (names_in x) (names_in_keys keys ++ mentioned_in is) e) (λ c d g. nodes_meant_follow x g)
    (λ ns. rel_put S L n (passing_rel S L n site free i f []
    (λ parameters. sorted keys i ns (λ ms. items_entered site.place (template_called (item_name site.place) i.templates) parameters i.depth ms q))
    (sorted_rel S L n keys (places_front (names_in_keys keys) (mentioned_in is) behind) ns
    (λ ms. subst (λ o. Rel S L n (each (λ y position more. Deep (suc h.depth) site.place (planned is (deeper (at y position (length ms) h)) more)) 1 ms p)
    (items_entered site.place o params i.depth ms q)) (sym found)
    (each_rel S L n (λ y position v w k. item_rel S L n site scope is fit.0 fit.1 fit.2 fit.3 fit.4 fit.6 fit.7 inner
    (places_back (names_in_keys keys) (mentioned_in is) behind) f y position (length ms) k) 1 ms next)))))

-- ---- all of them
mutual
  pub planned_rel : {N : Type 0} {s : Setting N} {other : Question N → Answer N} {Old : N → Type 0} {past : Past N} (S : Scene s other Old past) (L : Tail N) (n : ℕ) → Unruled S → RulesAreOld s.ask Old → (scope : List Expanded) (is : Instrs) {T : Tables N} → FitsIn other Old T scope is → {h i : Here N}
      → Places s S.view S.below (mentioned_in is) scope T h i → {p q : Plan N} → Rel S L n p q → Rel S L n (planned is h p) (planned (left_in scope is) i q)
  planned_rel S L n unruled rules scope no_instrs fit e k = k
  planned_rel S L n unruled rules scope (instr site form is) fit e k =
      plan_rel S L n unruled rules scope site form (mentioned_in is) fit.0 e
      (record { follows = λ a b g. planned_rel S L n unruled rules (scope_after scope form) is fit.1 g k })

  plan_rel : {N : Type 0} {s : Setting N} {other : Question N → Answer N} {Old : N → Type 0} {past : Past N} (S : Scene s other Old past) (L : Tail N) (n : ℕ) → Unruled S → RulesAreOld s.ask Old → (scope : List Expanded) (site : Site) (form : Form) (more : List Expanded) {T : Tables N}
      → FitsBy other Old T scope site form → {h i : Here N} → Places s S.view S.below (mentioned_by form ++ more) scope T h i → {rest others : Here N → Plan N}
      → Following S L n more (scope_after scope form) T rest others → Rel S L n (plan site form h rest) (plan site (left_by scope site form) i others)
  plan_rel S L n unruled rules scope site (without_content what) more fit e next =
      without_rel S L n unruled rules site what (places_front (names_without what) more e) (next.follows _ _ (places_back (names_without what) more e))
  plan_rel S L n unruled rules scope site (with_content what is) more fit e next =
      instruction_rel S L n site what scope is more e fit.0
      (record {
        into = λ m p q k. planned_rel S L m unruled rules scope is fit.1
            (deeper_places (places_back (names_with what) (mentioned_in is) (places_front (names_with what ++ mentioned_in is) more e))) k;
      })
      next
  plan_rel S L n unruled rules scope site (control c) more fit e next =
      control_rel S L n unruled rules scope site c fit (places_front (mentioned_under c) more e) (next.follows _ _ (places_back (mentioned_under c) more e))

  pub passed_rel : {N : Type 0} {s : Setting N} {other : Question N → Answer N} {Old : N → Type 0} {past : Past N} (S : Scene s other Old past) (L : Tail N) (n : ℕ) → Unruled S → RulesAreOld s.ask Old → (scope : List Expanded) (bs : made.Bindings) {T : Tables N} → FitPassed other Old T scope bs
      → {h i : Here N} → Places s S.view S.below (mentioned_in_bindings bs) scope T h i → (done : List (Bound N)) {k l : List (Bound N) → Plan N}
      → ((all : List (Bound N)) → Rel S L n (k all) (l all)) → Rel S L n (content.passed bs h done k) (content.passed (left_passed scope bs) i done l)
  passed_rel S L n unruled rules scope no_bindings fit e done next = next done
  passed_rel S L n unruled rules scope (binding site name select is more) fit e done next =
      let behind = places_back (names_if select) (mentioned_in is ++ mentioned_in_bindings more) e in
      content_rel S L n site select scope is (places_front (names_if select) (mentioned_in is ++ mentioned_in_bindings more) e)
      (deep_inside S L site scope is (places_front (mentioned_in is) (mentioned_in_bindings more) behind)
      (record { into = λ m p q k. planned_rel S L m unruled rules scope is fit.0 (deeper_places (places_front (mentioned_in is) (mentioned_in_bindings more) behind)) k }))
      (λ v. passed_rel S L n unruled rules scope more fit.1 (places_back (mentioned_in is) (mentioned_in_bindings more) behind) (record { name = name; value = v } ∷ done) next)

  control_rel : {N : Type 0} {s : Setting N} {other : Question N → Answer N} {Old : N → Type 0} {past : Past N} (S : Scene s other Old past) (L : Tail N) (n : ℕ) → Unruled S → RulesAreOld s.ask Old → (scope : List Expanded) (site : Site) (c : Control) {T : Tables N} → FitsUnder other Old T scope site c
      → {h i : Here N} → Places s S.view S.below (mentioned_under c) scope T h i → {p q : Plan N} → Rel S L n p q
      → Rel S L n (planned_control site c h p) (planned_control site (left_under scope site c) i q)
  control_rel S L n unruled rules scope site (for_each x keys is) fit e next =
      for_each_rel S L n site x keys scope is fit
      (record { contains = λ I U none h i g p q k. planned_rel I U zero none rules (free_in scope is) is fit.8 g k }) e next
  control_rel S L n unruled rules scope site (for_items x keys name bs) fit e next = absurd fit
  control_rel S L n unruled rules scope site (conditional x is) fit {h = h} {i = i} e next =
      asked_rel S L n site (places_front (names_in x) (mentioned_in is) e) (λ c d g. truth_meant_follow x g)
      (λ b. rel_either S L n b (rel_deep S L n (suc h.depth) (suc i.depth) (deep_depth e) site.place
      (planned_rel S L n unruled rules scope is fit (deeper_places (places_back (names_in x) (mentioned_in is) e)) next)) (rel_put S L n next))
  control_rel S L n unruled rules scope site (choose bs) fit e next = branches_rel S L n unruled rules scope bs fit e next
  control_rel S L n unruled rules scope site (apply_templates a bs) fit {h = h} {i = i} e next =
      let behind = places_back (names_in a.select) (mentioned_in_bindings bs ++ names_in_keys a.keys) e in
      asked_rel S L n site (places_front (names_in a.select) (mentioned_in_bindings bs ++ names_in_keys a.keys) e) (λ c d g. nodes_meant_follow a.select g)
      (λ ns. rel_put S L n (passed_rel S L n unruled rules scope bs fit (places_front (mentioned_in_bindings bs) (names_in_keys a.keys) behind) []
      (λ parameters. sorted_rel S L n a.keys (places_back (mentioned_in_bindings bs) (names_in_keys a.keys) behind) ns
      (λ ms. applied_rel S L n rules site.place a.mode parameters h.depth i.depth (depth_of e) ms next))))
  control_rel S L n unruled rules scope site (call_template name bs) fit e next =
      called_rel S L n site name e fit.0 (λ k l after. passed_rel S L n unruled rules scope bs fit.1 e [] after) next

  branches_rel : {N : Type 0} {s : Setting N} {other : Question N → Answer N} {Old : N → Type 0} {past : Past N} (S : Scene s other Old past) (L : Tail N) (n : ℕ) → Unruled S → RulesAreOld s.ask Old → (scope : List Expanded) (bs : Branches) {T : Tables N} → FitBranches other Old T scope bs
      → {h i : Here N} → Places s S.view S.below (mentioned_in_branches bs) scope T h i → {p q : Plan N} → Rel S L n p q
      → Rel S L n (planned_branches bs h p) (planned_branches (left_in_branches scope bs) i q)
  branches_rel S L n unruled rules scope no_branches fit e next = rel_put S L n next
  branches_rel S L n unruled rules scope (branch site None is more) fit {h = h} {i = i} e next =
      rel_deep S L n (suc h.depth) (suc i.depth) (deep_depth e) site.place
      (planned_rel S L n unruled rules scope is fit.0 (deeper_places (places_front (mentioned_in is) (mentioned_in_branches more) e)) next)
  branches_rel S L n unruled rules scope (branch site (Some x) is more) fit {h = h} {i = i} e next =
      let behind = places_back (names_in x) (mentioned_in is ++ mentioned_in_branches more) e in
      asked_rel S L n site (places_front (names_in x) (mentioned_in is ++ mentioned_in_branches more) e) (λ c d g. truth_meant_follow x g)
      (λ b. rel_either S L n b (rel_deep S L n (suc h.depth) (suc i.depth) (deep_depth e) site.place
      (planned_rel S L n unruled rules scope is fit.0 (deeper_places (places_front (mentioned_in is) (mentioned_in_branches more) behind)) next))
      (branches_rel S L n unruled rules scope more fit.1 (places_back (mentioned_in is) (mentioned_in_branches more) behind) next))
