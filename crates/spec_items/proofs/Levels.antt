-- A run in which the items of each xsl:for-each are instantiations comes to the same.
use Rattle.std.proofs.Common.{◌≡◌, ℕ, zero, suc, ◌+◌, List, [], ◌∷◌, ◌++◌, Bool, true, false, cond, Option, None, Some, refl, sym, ap, ◌∙◌, arith}
use Rattle.std.specs.Prelude.{is_some}
use Rattle.std.specs.List.{list_any}
use Rattle.spec_document.specs.declared.axis.Axis.TheVariants as axis
use Rattle.spec_document.specs.declared.kind.Kind.{Kind}
use Rattle.spec_document.specs.declared.kind.Kind.TheVariants as kind
use Rattle.spec_document.specs.Name.{Expanded, same_name}
use Rattle.spec_expression.specs.declared.NodeType.TheVariants as type
use Rattle.spec_expression.specs.Syntax.{Expr, OfType}
use Rattle.spec_stylesheet.specs.Place.{Place, Site}
use Rattle.spec_stylesheet.specs.Instruction as made
use Rattle.spec_stylesheet.specs.Instruction.{Instrs, no_bindings, binding, Binding}
use Rattle.spec_stylesheet.specs.Sheet as sheet
use Rattle.spec_stylesheet.specs.Sheet.{Alias}
use Rattle.spec_meaning.specs.Stream as stream
use Rattle.spec_meaning.specs.Stream.{Stream, filled}
use Rattle.spec_meaning.specs.Value as value
use Rattle.spec_meaning.specs.Value.{Value}
use Rattle.spec_meaning.specs.Question as question
use Rattle.spec_meaning.specs.Question.{Question, Answer, NamedTemplate, NamedSets, AllRules, nodes_in, rule_in, text_in}
use Rattle.spec_meaning.specs.Program.{Program, Given}
use Rattle.spec_meaning.specs.Context.{Bound, binding_of}
use Rattle.spec_meaning.specs.Meaning as expression
use Rattle.spec_transform.specs.Numbering.{names_in}
use Rattle.spec_result.specs.Recovery.{messages_of}
use Rattle.spec_run.specs.Plan.{nowhere, Target, UnitOf, BuiltIn, Call, Plan, End, Yield, Inquire, Put, Deep, lift}
use Rattle.spec_run.specs.Direct.{Supplied, Known, Failed, Ending, Finished, Gave, Halted, Outcome, if_known}
use Rattle.spec_run.specs.Content.{Here, deeper, with_variable, asked, is_empty, valued, unless_passed, planned, with_parameters, here_in, may_be_given}
use Rattle.spec_run.specs.Content.{unless_given, declared_planned, unit_planned, children_applied, built_in, kind_in, rule_call}
use Rattle.spec_run.specs.Meaning.{NamedGlobal, Setting, Past, going_into, held_by, global_call, referred, supplied, meaning, Whole, at_turn}
use Rattle.spec_run.specs.Meaning.{refusal_of, after_turn, value_of, run, levels_of_a_run, root_call, run_of}
use Rattle.spec_items.specs.Mentioned.{names_if, mentioned_in}
use Rattle.spec_items.specs.Lifted.{left_in, left_taken, scope_of, left_declared, left_unit}
use Rattle.spec_items.proofs.Follow as follow
use Rattle.spec_items.proofs.Follow.{View, own, Follow, both_want, Agree, Stands, stands, meaning_follow}
use Rattle.spec_items.proofs.Scenes.{Scene, here_runs, there_runs, Tail, after_it, bottom, IsNoValue, Rel, rel_end, rel_ask, rel_put, supply_same}
use Rattle.spec_items.proofs.Scenes.{told_by_view}
use Rattle.spec_items.proofs.Instructions.{Named, Places, places, same_rule, deeper_places, Unruled, applied_rel, sets_rel, depth_of, stands_at, empty_same}
use Rattle.spec_items.proofs.Instructions.{content_rel}
use Rattle.spec_items.proofs.Contents.{named_more, deep_inside, with_given, planned_rel}
use Rattle.spec_items.specs.Fits.{with_answers, OldTarget, Tables, FitsIn, RulesAreOld, FitTaken, FitsDeclared, UnitsFit, no_unit, unit_left, Lifts, AllGlobals}

-- the same, at the same place
agree_same : {N : Type 0} (names : List Expanded) (bs : List (Bound N)) → Agree names bs bs
agree_same [] bs = tt
agree_same (name ∷ names) bs = (refl, agree_same names bs)

abbrev first_in : {N : Type 0} → Setting N → N → sheet.Unit → Tables N → Bool → Here N
first_in s x u T b = here_in s.same x (record { unit = u; templates = T.templates; sets = T.sets; aliases = T.aliases; counts = b })

abbrev second_in : {N : Type 0} → Setting N → N → sheet.Unit → Tables N → Bool → Here N
second_in s x u T b = here_in s.same x (record { unit = left_unit u; templates = T.its_templates; sets = T.its_sets; aliases = T.aliases; counts = b })

own_places : {N : Type 0} (s : Setting N) (x : N) (u : sheet.Unit) (T : Tables N) (b c : Bool) (names scope : List Expanded) (es : List (Bound N)) → Named scope es
    → Places s own 0 names scope T (with_given (first_in s x u T b) es) (with_given (second_in s x u T c) es)
own_places s x u T b c names scope es m = places (both_want tt) (both_want tt) (omega arith) (agree_same names es) m (same_rule tt)

no_names : (N : Type 0) (name : Expanded) → list_any (same_name name) [] ≡ is_some (binding_of {N = N} name [])
no_names N name = refl

-- the second at the same place as the first
abbrev own_scene : {N : Type 0} (s : Setting N) (other : Question N → Answer N) (Old : N → Type 0) (past : Past N) → Lifts s other Old → (room : ℕ) → Call N
    → ((pasts : Past N) (d : ℕ) (c : Call N) → OldTarget Old c.target → meaning s room pasts d c ≡ meaning (with_answers s other) room pasts d c)
    → room ≡ 0 + room → Scene s other Old past
own_scene s other Old past lifts room call means levels = record {
  room = room;
  left = room;
  below = 0;
  view = own;
  call = call;
  its = call;
  room_is = levels;
  side = (refl, refl, refl);
  asks = lifts.asks;
  means = means;
  globals = lifts.globals;
}

-- nothing behind it
abbrev nothing : (N : Type 0) → Tail N
nothing N = record { top = stream.Ended; outer = []; more = End }

after_nothing : {N : Type 0} {s : Setting N} {other : Question N → Answer N} {Old : N → Type 0} {past : Past N} (S : Scene s other Old past) (o : Outcome N) → IsNoValue o.ending → after_it S (nothing N) o ≡ o
after_nothing {N = N} S o h = go o.ending h
  where
    go : (e : Ending N) → IsNoValue e → after_it S (nothing N) (record { content = o.content; ending = e }) ≡ record { content = o.content; ending = e }
    go Finished h = refl
    go (Gave v) h = absurd h
    go (Halted why) h = refl

-- whole plans
same_whole : {N : Type 0} {s : Setting N} {other : Question N → Answer N} {Old : N → Type 0} {past : Past N} (S : Scene s other Old past) {p q : Plan N} → Rel S (nothing N) zero p q
    → here_runs S p stream.Ended [] ≡ there_runs S q stream.Ended []
same_whole {N = N} S {q = q} r =
    r.runs stream.Ended stream.Ended [] [] bottom
    ∙ after_nothing S (there_runs S q stream.Ended []) (r.no_value stream.Ended [])

-- ---- templates
parameters_rel : {N : Type 0} {s : Setting N} {other : Question N → Answer N} {Old : N → Type 0} {past : Past N} (S : Scene s other Old past) (L : Tail N) (n : ℕ) → Unruled S → RulesAreOld s.ask Old → {T : Tables N} (h i : Here N)
    → ((names scope : List Expanded) (es : List (Bound N)) → Named scope es → Places s S.view S.below names scope T (with_given h es) (with_given i es))
    → (scope : List Expanded) (bs : made.Bindings) → FitTaken other Old T scope bs → (given es : List (Bound N)) → Named scope es → (k l : Here N → Plan N)
    → ((fs : List (Bound N)) → Named (scope_of scope bs) fs → Rel S L n (k (with_given h fs)) (l (with_given i fs)))
    → Rel S L n (with_parameters bs given (with_given h es) k) (with_parameters (left_taken scope bs) given (with_given i es) l)
parameters_rel S L n unruled rules h i any scope no_bindings fit given es m k l next = next es m
parameters_rel {N = N} S L n unruled rules {T = T} h i any scope (binding site name select is more) fit given es m k l next =
    passed_or (binding_of name given) (λ v. parameters_rel S L n unruled rules h i any (name ∷ scope) more fit.1 given (record { name = name; value = v } ∷ es)
    (named_more scope (record { name = name; value = v }) es m) k l next)
    (λ rest. content_rel S L n site select scope is (any (names_if select) scope es m)
    (deep_inside S L site scope is (any (mentioned_in is) scope es m)
    (record { into = λ j p q r. planned_rel S L j unruled rules scope is fit.0 (deeper_places (any (mentioned_in is) scope es m)) r })) rest)
  where
    first : Value N → Plan N
    first v = with_parameters more given (with_variable name v (with_given h es)) k

    second : Value N → Plan N
    second v = with_parameters (left_taken (name ∷ scope) more) given (with_variable name v (with_given i es)) l

    default : Plan N
    default = valued site (with_given h es) select (is_empty is) (λ after. Deep (suc h.depth) site.place (planned is (deeper (with_given h es)) after)) first

    other_default : Plan N
    other_default =
        valued site (with_given i es) select (is_empty (left_in scope is)) (λ after. Deep (suc i.depth) site.place (planned (left_in scope is) (deeper (with_given i es)) after)) second

    passed_or : (o : Option (Value N)) → ((v : Value N) → Rel S L n (first v) (second v)) → (((v : Value N) → Rel S L n (first v) (second v)) → Rel S L n default other_default)
        → Rel S L n (unless_passed o default first) (unless_passed o other_default second)
    passed_or None rest unpassed = unpassed rest
    passed_or (Some v) rest unpassed = rel_put S L n (rest v)

-- ---- globals
lift_same : {N : Type 0} {s : Setting N} {other : Question N → Answer N} {Old : N → Type 0} {past : Past N} {A : Type 0} (S : Scene s other Old past) (d k : ℕ) → d ≡ S.below + k → (place : Place) {p q : Program N A} → Follow S.view p q
    → (f g : A → Plan N) → ((a : A) → here_runs S (f a) stream.Ended [] ≡ there_runs S (g a) stream.Ended [])
    → here_runs S (lift place d p f) stream.Ended [] ≡ there_runs S (lift place k q g) stream.Ended []
unfolding lift
lift_same S d k e place follow.gives f g next = next _
lift_same S d k e place follow.refuses f g next = refl
lift_same S d k e place (follow.asks {q = q} {l = l} h more) f g next =
    lift_same S d k e place (more _) f g next ∙ ap (λ a. there_runs S (lift place k (l a) g) stream.Ended []) (S.asks q h)
lift_same {N = N} {s = s} {past = past} S d k e place (follow.needs {w = w} {k = p} {l = q} h more) f g next =
    known_same (λ x. here_runs S (lift place d (p x) f) stream.Ended []) (λ x. there_runs S (lift place k (q x) g) stream.Ended [])
    (λ x. lift_same S d k e place (more x) f g next) (supplied S.call (referred s (meaning s S.room) past) w d place)
    ∙ ap (λ x. if_known (λ given. there_runs S (lift place k (q given) g) stream.Ended []) stream.Ended [] x) (supply_same S d k e w h place)
  where
    known_same : (a b : Given N → Outcome N) → ((x : Given N) → a x ≡ b x) → (g : Supplied N) → if_known a stream.Ended [] g ≡ if_known b stream.Ended [] g
    known_same a b h (Known x) = h x
    known_same a b h (Failed why) = refl
lift_same {N = N} {s = s} {other = other} {past = past} S d k e place (follow.knows {w = w} {l = l} count h more) f g next =
    let globals = referred (with_answers s other) (meaning (with_answers s other) S.left) past in
    lift_same S d k e place more f g next
    ∙ ap (λ (x : Supplied N). if_known (λ given. there_runs S (lift place k (l given) g) stream.Ended []) stream.Ended [] x)
    (sym (told_by_view S.view S.call S.its S.side globals k place w count h))

-- what a global with this select holds
abbrev held_with : {N : Type 0} → Site → Option Expr → Instrs → Here N → Plan N
held_with site select content h = elim select [
  | Some e ↦ asked site h (expression.meaning e) (λ v. Yield v)
  | None ↦ cond (is_empty content) (Yield (value.Text [])) (planned content h End)
]

held_same : {N : Type 0} {s : Setting N} {other : Question N → Answer N} {Old : N → Type 0} {past : Past N} (S : Scene s other Old past) → Unruled S → RulesAreOld s.ask Old → {T : Tables N} (h i : Here N) (site : Site) (select : Option Expr) (content : Instrs)
    → FitsIn other Old T [] content → ((names : List Expanded) → Places s S.view S.below names [] T h i)
    → here_runs S (held_with site select content h) stream.Ended [] ≡ there_runs S (held_with site select (left_in [] content) i) stream.Ended []
held_same S unruled rules h i site (Some e) content fit at =
    lift_same S h.depth i.depth (depth_of (at [])) site.place (meaning_follow e (stands_at site (at (names_in e)))) (λ v. Yield v) (λ v. Yield v) (λ v. refl)
held_same {N = N} S unruled rules h i site None content fit at =
    by (is_empty content)
    ∙ ap (λ t. there_runs S (cond t (Yield (value.Text [])) (planned (left_in [] content) i End)) stream.Ended []) (empty_same [] content)
  where
    by : (t : Bool) → here_runs S (cond t (Yield (value.Text [])) (planned content h End)) stream.Ended []
        ≡ there_runs S (cond t (Yield (value.Text [])) (planned (left_in [] content) i End)) stream.Ended []
    by true = refl
    by false = same_whole S (planned_rel S (nothing N) zero unruled rules [] content fit (at (mentioned_in content)) (rel_end S (nothing N)))

given_same : {N : Type 0} {s : Setting N} {other : Question N → Answer N} {Old : N → Type 0} {past : Past N} (S : Scene s other Old past) (p q : Plan N) → here_runs S p stream.Ended [] ≡ there_runs S q stream.Ended [] → (a : Answer N)
    → here_runs S (unless_given a p) stream.Ended [] ≡ there_runs S (unless_given a q) stream.Ended []
given_same S p q whole (question.Passed (Some text)) = refl
given_same S p q whole (question.Passed None) = whole
given_same S p q whole question.Gone = whole
given_same S p q whole (question.Refused why) = whole
given_same S p q whole (question.SomeNodes nodes) = whole
given_same S p q whole (question.SomeText text) = whole
given_same S p q whole (question.Named kind name written) = whole
given_same S p q whole (question.Chosen rule) = whole
given_same S p q whole (question.Copied copied) = whole
given_same S p q whole (question.Resolved unit) = whole

external_same : {N : Type 0} {s : Setting N} {other : Question N → Answer N} {Old : N → Type 0} {past : Past N} (S : Scene s other Old past) (name : List ℕ) (p q : Plan N) → here_runs S p stream.Ended [] ≡ there_runs S q stream.Ended [] → (may : Bool)
    → here_runs S (cond may (Inquire (question.External name) (λ a. unless_given a p)) p) stream.Ended []
    ≡ there_runs S (cond may (Inquire (question.External name) (λ a. unless_given a q)) q) stream.Ended []
external_same S name p q same false = same
external_same {s = s} S name p q same true =
    given_same S p q same (s.ask (question.External name)) ∙ ap (λ a. there_runs S (unless_given a q) stream.Ended []) (S.asks (question.External name) tt)

-- ---- all units
declared_same : {N : Type 0} {s : Setting N} {other : Question N → Answer N} {Old : N → Type 0} (past : Past N) (lifts : Lifts s other Old) (room : ℕ) (call : Call N)
    (means : (pasts : Past N) (d : ℕ) (c : Call N) → OldTarget Old c.target → meaning s room pasts d c ≡ meaning (with_answers s other) room pasts d c)
    (levels : room ≡ 0 + room) (x : N) (given : List (Bound N)) (u : sheet.Unit) (T : Tables N) (b c : Bool) (d : sheet.Declared) → FitsDeclared other Old T d
    → here_runs (own_scene s other Old past lifts room call means levels) (declared_planned u.site.place d given (first_in s x u T b)) stream.Ended []
    ≡ there_runs (own_scene s other Old past lifts room call means levels) (declared_planned u.site.place (left_declared d) given (second_in s x u T c)) stream.Ended []
declared_same {N = N} {s = s} {other = other} {Old = Old} past lifts room call means levels x given u T b c (sheet.ATemplate t) fit =
    let S : Scene s other Old past = own_scene s other Old past lifts room call means levels in
    let any = own_places s x u T b c in
    same_whole S (parameters_rel S (nothing N) zero (λ h. absurd h) lifts.rules (first_in s x u T b) (second_in s x u T c) any [] t.parameters fit.0 given [] (no_names N)
    (λ here. planned t.content here End) (λ here. planned (left_in (scope_of [] t.parameters) t.content) here End)
    (λ fs m. planned_rel S (nothing N) zero (λ h. absurd h) lifts.rules (scope_of [] t.parameters) t.content fit.1 (any (mentioned_in t.content) (scope_of [] t.parameters) fs m)
    (rel_end S (nothing N))))
declared_same {N = N} {s = s} {other = other} {Old = Old} past lifts room call means levels x given u T b c (sheet.ASet a) fit =
    let S : Scene s other Old past = own_scene s other Old past lifts room call means levels in
    let at : Places s own 0 (mentioned_in a.attributes) [] T (first_in s x u T b) (second_in s x u T c) = own_places s x u T b c (mentioned_in a.attributes) [] [] (no_names N) in
    same_whole S (sets_rel S (nothing N) zero u.site.place at a.sets fit.0
    (planned_rel S (nothing N) zero (λ h. absurd h) lifts.rules [] a.attributes fit.1 at (rel_end S (nothing N))))
declared_same past lifts room call means levels x given u T b c (sheet.AKey k) fit = refl
declared_same {N = N} {s = s} {other = other} {Old = Old} past lifts room call means levels x given u T b c (sheet.AGlobal g) fit =
    let S : Scene s other Old past = own_scene s other Old past lifts room call means levels in
    let whole = held_same S (λ h. absurd h) lifts.rules (first_in s x u T b) (second_in s x u T c) g.binding.site g.binding.select g.binding.content fit
    (λ names. own_places s x u T b c names [] [] (no_names N)) in
    external_same S g.binding.name.local _ _ whole (may_be_given g)

unit_same : {N : Type 0} {s : Setting N} {other : Question N → Answer N} {Old : N → Type 0} (past : Past N) (lifts : Lifts s other Old) (room : ℕ) (call : Call N)
    (means : (pasts : Past N) (d : ℕ) (c : Call N) → OldTarget Old c.target → meaning s room pasts d c ≡ meaning (with_answers s other) room pasts d c)
    (levels : room ≡ 0 + room) (x : N) (given : List (Bound N)) {a b : Answer N} → UnitsFit other Old a b
    → here_runs (own_scene s other Old past lifts room call means levels) (unit_planned s.same x given a) stream.Ended []
    ≡ there_runs (own_scene s other Old past lifts room call means levels) (unit_planned s.same x given b) stream.Ended []
unit_same past lifts room call means levels x given no_unit = refl
unit_same past lifts room call means levels x given (unit_left {u = u} {T = T} {b = b} {c = c} fit) =
    declared_same past lifts room call means levels x given u T b c u.declared fit

-- ---- calls
abbrev plan_by : {N : Type 0} → (N → N → Bool) → N → List (Bound N) → Target N → Plan N
plan_by same x parameters t = elim t [
  | UnitOf element ↦ Inquire (question.Unit element) (λ a. unit_planned same x parameters a)
  | BuiltIn mode ↦ built_in mode x
]

abbrev by_kind : {N : Type 0} → Option Expanded → N → Kind → Plan N
by_kind mode x k = elim k [
  | kind.Root ↦ children_applied mode x
  | kind.Element ↦ children_applied mode x
  | kind.Attribute ↦ Inquire (question.Text x) (λ a. Put (stream.Text (text_in a) stream.Ended) End)
  | kind.Text ↦ Inquire (question.Text x) (λ a. Put (stream.Text (text_in a) stream.Ended) End)
  | kind.Namespace ↦ End
  | kind.Comment ↦ End
  | kind.Instruction ↦ End
]

built_in_rel : {N : Type 0} {s : Setting N} {other : Question N → Answer N} {Old : N → Type 0} {past : Past N} (S : Scene s other Old past) → S.below ≡ 0 → RulesAreOld s.ask Old → (mode : Option Expanded) (x : N)
    → Rel S (nothing N) zero (built_in mode x) (built_in mode x)
built_in_rel {N = N} {s = s} S flat rules mode x = rel_ask S (nothing N) zero tt (go (kind_in (s.ask (question.Name x))))
  where
    level : 0 ≡ S.below + 0
    level = let f = flat in omega (arith, f)

    children : Rel S (nothing N) zero (children_applied mode x) (children_applied mode x)
    children = rel_ask S (nothing N) zero tt (applied_rel S (nothing N) zero rules nowhere mode [] 0 0 level
        (nodes_in (s.ask (question.Step x axis.Child (OfType type.Node)))) (rel_end S (nothing N)))

    text : Rel S (nothing N) zero (Inquire (question.Text x) (λ a. Put (stream.Text (text_in a) stream.Ended) End)) (Inquire (question.Text x) (λ a. Put (stream.Text (text_in a) stream.Ended) End))
    text = rel_ask S (nothing N) zero tt (rel_put S (nothing N) zero (rel_end S (nothing N)))

    go : (k : Kind) → Rel S (nothing N) zero (by_kind mode x k) (by_kind mode x k)
    go kind.Root = children
    go kind.Element = children
    go kind.Attribute = text
    go kind.Text = text
    go kind.Namespace = rel_end S (nothing N)
    go kind.Comment = rel_end S (nothing N)
    go kind.Instruction = rel_end S (nothing N)

by_target : {N : Type 0} {s : Setting N} {other : Question N → Answer N} {Old : N → Type 0} (lifts : Lifts s other Old) (room : ℕ) (past : Past N) (c : Call N)
    (means : (pasts : Past N) (d : ℕ) (c : Call N) → OldTarget Old c.target → meaning s room pasts d c ≡ meaning (with_answers s other) room pasts d c)
    (levels : room ≡ 0 + room) (t : Target N) → OldTarget Old t
    → here_runs (own_scene s other Old past lifts room c means levels) (plan_by s.same c.node c.parameters t) stream.Ended []
    ≡ there_runs (own_scene s other Old past lifts room c means levels) (plan_by s.same c.node c.parameters t) stream.Ended []
by_target lifts room past c means levels (UnitOf element) old = unit_same past lifts room c means levels c.node c.parameters (lifts.units element old)
by_target {s = s} {other = other} {Old = Old} lifts room past c means levels (BuiltIn mode) old =
    let S : Scene s other Old past = own_scene s other Old past lifts room c means levels in
    same_whole S (built_in_rel S refl lifts.rules mode c.node)

-- what is entered at a place of the stylesheet itself means the same
pub meaning_same : {N : Type 0} {s : Setting N} {other : Question N → Answer N} {Old : N → Type 0} → Lifts s other Old → (levels : ℕ) (past : Past N) (depth : ℕ) (c : Call N)
    → OldTarget Old c.target → meaning s levels past depth c ≡ meaning (with_answers s other) levels past depth c
meaning_same lifts zero past depth c old = refl
meaning_same {N = N} {s = s} {other = other} {Old = Old} lifts (suc room) past zero c old =
    by_target lifts room past c (meaning_same lifts room) (omega arith) c.target old
meaning_same lifts (suc room) past (suc depth) c old = meaning_same lifts room past depth c old

-- ---- the run
turn_same : {N : Type 0} (k l : List (List ℕ) → Given N → Whole) → ((told : List (List ℕ)) (x : Given N) → k told x ≡ l told x) → (told : List (List ℕ)) {o p : Outcome N}
    → o ≡ p → after_turn (k (told ++ messages_of o.content)) (told ++ messages_of o.content) (held_by o)
    ≡ after_turn (l (told ++ messages_of p.content)) (told ++ messages_of p.content) (held_by p)
turn_same {N = N} k l later told {o = o} e =
    by (told ++ messages_of o.content) (held_by o) ∙ ap (λ (v : Outcome N). after_turn (l (told ++ messages_of v.content)) (told ++ messages_of v.content) (held_by v)) e
  where
    by : (told : List (List ℕ)) (x : Supplied N) → after_turn (k told) told x ≡ after_turn (l told) told x
    by told (Known x) = later told x
    by told (Failed why) = refl

run_same : {N : Type 0} {s : Setting N} {other : Question N → Answer N} {Old : N → Type 0} → Lifts s other Old → (levels : ℕ) (gs : List (NamedGlobal N))
    → AllGlobals Old gs → (values : List (Bound N)) (told : List (List ℕ)) (c : Call N) → OldTarget Old c.target
    → run s levels gs values told c ≡ run (with_answers s other) levels gs values told c
run_same lifts levels [] old values told c is =
    ap (λ o. record { content = o.content; messages = told ++ messages_of o.content; refusal = refusal_of o.ending }) (meaning_same lifts levels (at_turn values) 0 c is)
run_same {s = s} {other = other} lifts levels (g ∷ gs) old values told c is =
    turn_same (λ told x. run s levels gs (values ++ record { name = g.name; value = value_of x } ∷ []) told c)
    (λ told x. run (with_answers s other) levels gs (values ++ record { name = g.name; value = value_of x } ∷ []) told c)
    (λ told x. run_same lifts levels gs old.1 (values ++ record { name = g.name; value = value_of x } ∷ []) told c is) told
    (meaning_same lifts levels (going_into g.name (at_turn values)) 0 (global_call s.root g.element nowhere) old.0)

-- the whole run
pub run_of_same : {N : Type 0} (s : Setting N) (other : Question N → Answer N) (Old : N → Type 0) → Lifts s other Old → AllGlobals Old s.globals
    → run_of s ≡ run_of (with_answers s other)
run_of_same s other Old lifts old =
    run_same lifts levels_of_a_run s.globals old [] [] (root_call s) (lifts.rules s.root None AllRules)
    ∙ ap (λ a. run (with_answers s other) levels_of_a_run s.globals [] [] (rule_call nowhere None [] 1 s.root 1 a)) (lifts.asks (question.Choice s.root None AllRules) tt)
