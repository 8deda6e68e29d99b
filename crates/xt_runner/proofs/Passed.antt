-- What is left of parameters: the next of them, or what comes after them.
use Rattle.std.proofs.Common.{◌≡◌, ℕ, suc, ◌<◌, ◌≤◌, List, [], ◌∷◌, length, get_or, drop, map, None, Some, Vec, Global, rules, refl, sym, ap, ◌∙◌, subst, arith}
use Rattle.std.specs.Option.{option_map}
use Rattle.std.specs.declared.rc.Rc.{Rc}
use Rattle.std.proofs.lemmas.List.{at_drop_more, at_drop_all}
use Rattle.spec_document.specs.Name.{Expanded}
use Rattle.spec_stylesheet.specs.Instruction as made
use Rattle.spec_stylesheet.specs.Instruction.{instrs, bindings}
use Rattle.spec_meaning.specs.Stream.{Ended}
use Rattle.spec_meaning.specs.Value as value
use Rattle.spec_meaning.specs.Context as context
use Rattle.spec_meaning.specs.Context.{Bound}
use Rattle.spec_meaning.specs.Question.{Question, Answer}
use Rattle.spec_transform.specs.Sorted.{nodes_in_order}
use Rattle.spec_run.specs.Plan.{Plan, Put, Enter}
use Rattle.spec_run.specs.Content.{Here, applied, applied_to, items_entered, each, criteria_asked, rows_asked, sorted, is_empty, valued, unless_passed, passed, planned, with_parameters, with_variable}
use Rattle.spec_run.specs.Passes.{stays}
use Rattle.xt_syntax.specs.declared.instr.Binding.{Binding, out-Binding}
use Rattle.xt_syntax.specs.declared.instr.Control.{the_lemmas}
use Rattle.xt_syntax.specs.View.{expr_of}
use Rattle.xt_syntax.specs.PartView.{site_of, sort_key_of}
use Rattle.xt_syntax.specs.declared.sort_key.SortKey.{SortKey}
use Rattle.xt_syntax.specs.InstrView.{instr_of, binding_of}
use Rattle.spec_node.specs.declared.node_ref.NodeRef.{NodeRef}
use Rattle.xt_questions.specs.View.{bindings_of}
use Rattle.xt_engine.specs.declared.call.Call.{Call}
use Rattle.xt_engine.specs.View.{call_of}
use Rattle.xt_frames.specs.declared.standing.Standing.{Standing}
use Rattle.xt_frames.specs.declared.frame.Application.{Application}
use Rattle.xt_frames.specs.declared.frame.Items.{Items}
use Rattle.xt_frames.specs.declared.frame.Passing.{Passing}
use Rattle.xt_frames.specs.declared.frame.Passing.TheVariants as passings
use Rattle.xt_frames.specs.declared.frame.Arguments.{Arguments}
use Rattle.xt_frames.specs.declared.frame.Parameters.{Parameters}
use Rattle.xt_frames.specs.declared.frame.Frame.{Frame}
use Rattle.xt_frames.specs.declared.frame.Frame.TheVariants as frames
use Rattle.xt_frames.specs.declared.frame.Holder.{Holder}
use Rattle.xt_frames.specs.declared.frame.Holder.TheVariants as holders
use Rattle.xt_frames.specs.declared.run.Run.{Run}
use Rattle.xt_frames.specs.declared.run.Next.{Next}
use Rattle.xt_frames.specs.declared.run.Next.TheVariants.{Went, Want}
use Rattle.xt_frames.specs.View.{here_of, inside, left_frame, left_with, passed_to, with_passed}
use Rattle.xt_frames.specs.Left.{left_in, Does, Performs, Steps, Pushed}
use Rattle.xt_frames.proofs.Performs.{one_frame}
use Rattle.xt_runner.specs.Parameter.{valued_by, past_parameter, with_parameter, parameter_planned, IsPastParameter, SameApplication, SameItems, SamePassing, past_argument, with_argument, argument_planned, IsPastArgument}

pub view-Binding : (b : Binding) → binding_of b ≡ record { site = site_of (out-Binding b).site; name = (out-Binding b).name; select = option_map expr_of (out-Binding b).select; content = instrs (map instr_of (out-Binding b).content.value.items) }
view-Binding b = search (rules, the_lemmas)

pub name_is : (b : Binding) → (out-Binding b).name ≡ (binding_of b).name
name_is b = ap (λ (x : made.Binding). x.name) (sym (view-Binding b))

-- the same plan in another form
pub performs_as : {ask : Question NodeRef → Answer NodeRef} {f : Frame} {p q : Plan NodeRef} {old new : Run} {next : Next} → p ≡ q → Performs ask f p old new next → Performs ask f q old new next
performs_as {ask = ask} {f = f} {old = old} {new = new} {next = next} e h = let P : Plan NodeRef → Type 0 = λ p. Performs ask f p old new next in subst P e h

pub does_as : {ask : Question NodeRef → Answer NodeRef} {p q : Plan NodeRef} {k : ℕ} {old new : Run} {next : Next} → p ≡ q → Does ask p k old new next → Does ask q k old new next
does_as {ask = ask} {k = k} {old = old} {new = new} {next = next} e h = let P : Plan NodeRef → Type 0 = λ p. Does ask p k old new next in subst P e h

pub steps_as : {ask : Question NodeRef → Answer NodeRef} {p q : Plan NodeRef} {k : ℕ} {old new : Run} {next : Next} → p ≡ q → Steps ask p k old new next → Steps ask q k old new next
steps_as {ask = ask} {k = k} {old = old} {new = new} {next = next} e h = let P : Plan NodeRef → Type 0 = λ p. Steps ask p k old new next in subst P e h

-- a value is held
pub held_does : (ask : Question NodeRef → Answer NodeRef) (f : Frame) (holder : Holder) (v : value.Value NodeRef) (old new : Run) → ((after : Plan NodeRef) → left_frame f after ≡ left_with holder v after) → Pushed f old new
    → Does ask (Put Ended (left_with holder v (left_in old))) (suc (length old.frames.items)) old new Went
held_does ask f holder v old new e push = does_as (ap (Put Ended) (e (left_in old))) (one_frame ask f old new push)

-- ---- Parameters of a template

-- from the content on
abbrev pub content_of : Parameters → Plan NodeRef → Here NodeRef → Plan NodeRef
content_of p after here = planned (instrs (map instr_of p.content.value.items)) here after

pub parameters_none : (p : Parameters) (after : Plan NodeRef) → length p.bindings.value.items ≤ p.next → left_frame (frames.Parameters p) after ≡ left_frame (frames.Body (record { content = p.content; next = 0; here = p.here })) after
parameters_none p after le = at_drop_all (λ bs. with_parameters (bindings (map binding_of bs)) (bindings_of p.given) (here_of p.here) (content_of p after)) p.bindings.value.items p.next le

pub parameters_next : (p : Parameters) (x : Binding) (after : Plan NodeRef) → x ≡ get_or p.bindings.value.items p.next x → p.next < length p.bindings.value.items → left_frame (frames.Parameters p) after ≡ parameter_planned (binding_of x) p after
parameters_next p x after is_x lt =
    at_drop_more (λ bs. with_parameters (bindings (map binding_of bs)) (bindings_of p.given) (here_of p.here) (content_of p after)) p.bindings.value.items p.next x lt
    ∙ ap (λ y. parameter_planned (binding_of y) p after) (sym is_x)

-- what is left once the parameter has a value
pub parameter_held : (name given : Expanded) (p q : Parameters) (v : value.Value NodeRef) (after : Plan NodeRef) → name ≡ given → IsPastParameter p q → left_with (holders.Parameter name q) v after ≡ left_with (holders.Parameter given (past_parameter p)) v after
parameter_held name given p q v after is_name h =
    λ i. with_parameters (bindings (map binding_of (drop (h.next i) (h.bindings i).items))) (h.given i) (with_variable (is_name i) v (h.here i)) (λ here. planned (instrs (map instr_of (h.content i).items)) here after)

pub parameter_passed : (x : Binding) (p : Parameters) (v : value.Value NodeRef) (after : Plan NodeRef) → Some v ≡ context.binding_of (out-Binding x).name (bindings_of p.given)
    → Put Ended (left_with (holders.Parameter (out-Binding x).name (past_parameter p)) v after) ≡ parameter_planned (binding_of x) p after
parameter_passed x p v after is_v =
    let b = binding_of x in
    let k = with_parameter b p after in
    let default = valued_by b (here_of p.here) k in
    let found : Some v ≡ context.binding_of b.name (bindings_of p.given) = is_v ∙ ap (λ n. context.binding_of n (bindings_of p.given)) (name_is x) in
    ap (λ n. Put Ended (left_with (holders.Parameter n (past_parameter p)) v after)) (name_is x) ∙ ap (λ o. unless_passed o default k) found

-- what an element of the program holds that stands here
abbrev pub valued_at : Binding → Here NodeRef → (value.Value NodeRef → Plan NodeRef) → Plan NodeRef
valued_at x h k =
    valued (site_of (out-Binding x).site) h (option_map expr_of (out-Binding x).select) (is_empty (instrs (map instr_of (out-Binding x).content.value.items))) (inside (site_of (out-Binding x).site).place (instrs (map instr_of (out-Binding x).content.value.items)) h) k

valued_same : (x : Binding) (h i : Here NodeRef) (k l : value.Value NodeRef → Plan NodeRef) → h ≡ i → ((v : value.Value NodeRef) → k v ≡ l v) → valued_at x h k ≡ valued_by (binding_of x) i l
valued_same x h i k l e f =
    let view = sym (view-Binding x) in
    λ j. valued_by (view j) (e j) (λ v. f v j)

pub parameter_default : (x : Binding) (p : Parameters) (holder : Holder) (h : Here NodeRef) (after : Plan NodeRef) → h ≡ here_of p.here
    → ((v : value.Value NodeRef) (after : Plan NodeRef) → left_with holder v after ≡ left_with (holders.Parameter (out-Binding x).name (past_parameter p)) v after)
    → valued_at x h (λ v. left_with holder v after) ≡ valued_by (binding_of x) (here_of p.here) (with_parameter (binding_of x) p after)
parameter_default x p holder h after is_here same =
    valued_same x h (here_of p.here) (λ v. left_with holder v after) (with_parameter (binding_of x) p after) is_here
    (λ v. same v after ∙ ap (λ n. left_with (holders.Parameter n (past_parameter p)) v after) (name_is x))

pub parameter_not_passed : (x : Binding) (p : Parameters) (after : Plan NodeRef) → None ≡ context.binding_of (out-Binding x).name (bindings_of p.given)
    → valued_by (binding_of x) (here_of p.here) (with_parameter (binding_of x) p after) ≡ parameter_planned (binding_of x) p after
parameter_not_passed x p after is_none =
    let b = binding_of x in
    let k = with_parameter b p after in
    let default = valued_by b (here_of p.here) k in
    let found : None ≡ context.binding_of b.name (bindings_of p.given) = is_none ∙ ap (λ n. context.binding_of n (bindings_of p.given)) (name_is x) in
    ap (λ o. unless_passed o default k) found

-- ---- What is passed

pub arguments_none : (a : Arguments) (after : Plan NodeRef) → length a.bindings.value.items ≤ a.next → left_frame (frames.Arguments a) after ≡ passed_to a.to (bindings_of a.done) after
arguments_none a after le = at_drop_all (λ bs. passed (bindings (map binding_of bs)) (here_of a.here) (bindings_of a.done) (λ ps. passed_to a.to ps after)) a.bindings.value.items a.next le

pub arguments_next : (a : Arguments) (x : Binding) (after : Plan NodeRef) → x ≡ get_or a.bindings.value.items a.next x → a.next < length a.bindings.value.items → left_frame (frames.Arguments a) after ≡ argument_planned (binding_of x) a after
arguments_next a x after is_x lt =
    at_drop_more (λ bs. passed (bindings (map binding_of bs)) (here_of a.here) (bindings_of a.done) (λ ps. passed_to a.to ps after)) a.bindings.value.items a.next x lt
    ∙ ap (λ y. argument_planned (binding_of y) a after) (sym is_x)

-- what is left once it has a value
pub argument_held : (name given : Expanded) (a b : Arguments) (v : value.Value NodeRef) (after : Plan NodeRef) → name ≡ given → IsPastArgument a b → left_with (holders.Argument name b) v after ≡ left_with (holders.Argument given (past_argument a)) v after
argument_held name given a b v after is_name past =
    λ i. passed (bindings (map binding_of (drop (past.next i) (past.bindings i).items))) (past.here i) (record { name = is_name i; value = v } ∷ past.done i) (λ ps. past.to.same ps after i)

pub argument_next : (x : Binding) (a : Arguments) (holder : Holder) (h : Here NodeRef) (after : Plan NodeRef) → h ≡ here_of a.here
    → ((v : value.Value NodeRef) (after : Plan NodeRef) → left_with holder v after ≡ left_with (holders.Argument (out-Binding x).name (past_argument a)) v after)
    → valued_at x h (λ v. left_with holder v after) ≡ argument_planned (binding_of x) a after
argument_next x a holder h after is_here same =
    valued_same x h (here_of a.here) (λ v. left_with holder v after) (with_argument (binding_of x) a after) is_here
    (λ v. same v after ∙ ap (λ n. left_with (holders.Argument n (past_argument a)) v after) (name_is x))

-- a call with nothing before it
pub want_does : (ask : Question NodeRef → Answer NodeRef) (p : Plan NodeRef) (k : ℕ) (r : Run) (call : Call) (depth : ℕ) → p ≡ Enter (call_of call) depth (left_in r) → Steps ask p k r r (Want call depth)
want_does ask p k r call depth e = steps_as {new = r} (sym e) (record { so = stays; room = refl; supplies = refl })

-- ---- Sorting

-- what nodes are sorted for that have a key: how the keys compare, and then the keys, node by node
abbrev pub keys_planned : List made.SortKey → Here NodeRef → List NodeRef → (List NodeRef → Plan NodeRef) → Plan NodeRef
keys_planned keys h ns k =
    criteria_asked keys h [] (λ criteria. rows_asked keys criteria (length ns) h 1 ns [] (λ rows. Put Ended (k (nodes_in_order criteria rows))))

pub sorted_by : (keys : List SortKey) (h : Here NodeRef) (ns : List NodeRef) (k : List NodeRef → Plan NodeRef) → 0 < length keys → keys_planned (map sort_key_of keys) h ns k ≡ sorted (map sort_key_of keys) h ns k
sorted_by [] h ns k lt = absurd (omega (arith, lt))
sorted_by (key ∷ more) h ns k lt = refl

pub sorted_by_none : (keys : List SortKey) (h : Here NodeRef) (ns : List NodeRef) (k : List NodeRef → Plan NodeRef) → length keys ≡ 0 → k ns ≡ sorted (map sort_key_of keys) h ns k
sorted_by_none [] h ns k none = refl
sorted_by_none (key ∷ more) h ns k none = absurd (omega (arith, none))

-- ---- Copies of what parameters are passed to

pub same_rules : (p : Passing) (a b : Application) → p ≡ passings.Rules a → SameApplication a b → SamePassing p (passings.Rules b)
same_rules p a b is_rules same = record {
  same = λ parameters after.
      (λ i. each (applied (same.place i) (same.mode i) parameters (length (same.nodes i)) (same.depth i)) (suc (same.next i)) (drop (same.next i) (same.nodes i)) after)
      ∙ ap (λ q. passed_to q parameters after) (sym is_rules);
}

pub same_sorted : (p : Passing) (keys more : Rc (Vec SortKey Global) Global) (here there : Standing) (a b : Application) → p ≡ passings.Sorted keys here a → more.value ≡ keys.value → here_of there ≡ here_of here → SameApplication a b → SamePassing p (passings.Sorted more there b)
same_sorted p keys more here there a b is_sorted same_keys same_here same = record {
  same = λ parameters after.
      (λ i. sorted (map sort_key_of (same_keys i).items) (same_here i) (same.nodes i) (λ ns. applied_to (same.place i) (same.mode i) parameters (same.depth i) ns after))
      ∙ ap (λ q. passed_to q parameters after) (sym is_sorted);
}

pub same_items : (p : Passing) (keys more : Rc (Vec SortKey Global) Global) (here there : Standing) (a b : Items) → p ≡ passings.Items keys here a → more.value ≡ keys.value → here_of there ≡ here_of here → SameItems a b → SamePassing p (passings.Items more there b)
same_items p keys more here there a b is_items same_keys same_here same = record {
  same = λ parameters after.
      (λ i. sorted (map sort_key_of (same_keys i).items) (same_here i) (same.nodes i) (λ ns. items_entered (same.place i) (same.element i) parameters (same.depth i) ns after))
      ∙ ap (λ q. passed_to q parameters after) (sym is_items);
}

pub same_template : (p : Passing) (c d : Call) (depth : ℕ) → p ≡ passings.Template c depth → call_of d ≡ call_of c → SamePassing p (passings.Template d depth)
same_template p c d depth is_template same =
    record { same = λ parameters after. ap (λ x. Enter (with_passed parameters x) depth after) same ∙ ap (λ q. passed_to q parameters after) (sym is_template) }
