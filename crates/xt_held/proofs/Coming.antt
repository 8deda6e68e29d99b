-- What modules and a source come to, by what is held of the modules.
use Rattle.std.proofs.Common.{◌≡◌, ℕ, List, [], map, Option, None, Some, Result, Ok, Err, refl, sym, ap, subst, ◌∙◌}
use Rattle.std.specs.Prelude.{IfOk, IfSome, OnOk}
use Rattle.std.specs.Option.{is_some}
use Rattle.std.proofs.lemmas.Result.{IfOk-weaker}
use Rattle.spec_document.specs.Name.{Expanded}
use Rattle.spec_document.specs.Forest.{Plain, Document, plain}
use Rattle.spec_seen.specs.Seen.{at_root, seen, seen_among}
use Rattle.spec_expression.specs.declared.code.Code.TheVariants as codes
use Rattle.spec_expression.specs.declared.code.StaticCode.{StaticCode}
use Rattle.spec_stylesheet.specs.Place.{Place}
use Rattle.spec_stylesheet.specs.Sheet as plain_sheet
use Rattle.spec_stylesheet.specs.Sheet.{SpaceRule}
use Rattle.spec_stylesheet.specs.declared.method.Method.{Method}
use Rattle.spec_structure.specs.Modules.{Modules}
use Rattle.spec_meaning.specs.Naming.{unlabelled}
use Rattle.spec_meaning.specs.Question as question
use Rattle.spec_meaning.specs.Question.{Question, Answer}
use Rattle.spec_run.specs.Documents.{Parameters, main_name}
use Rattle.spec_run.specs.Meaning as means
use Rattle.spec_run.specs.Meaning.{Setting, run_of}
use Rattle.spec_run.specs.Outcome as spec
use Rattle.spec_run.specs.Outcome.{Comes, document_of, outcome_by, refused_static, no_main, no_source}
use Rattle.spec_run.specs.World.{setting_of}
use Rattle.spec_items.specs.Liftable.{with_items}
use Rattle.xt_tree.specs.Numbers.{IsNumbered}
use Rattle.spec_node.specs.declared.node_ref.NodeRef.{NodeRef}
use Rattle.spec_node.specs.Naming.{same_ref}
use Rattle.xt_text.specs.declared.memory.Memory.{Memory}
use Rattle.xt_syntax.specs.SheetView.{space_rules_of}
use Rattle.xt_syntax.specs.declared.space_rules.SpaceRules.{SpaceRules}
use Rattle.xt_compile.specs.View.{refusal_in}
use Rattle.xt_compile.specs.declared.fault.StaticRefusal.{StaticRefusal}
use Rattle.xt_engine.specs.View.{named_of}
use Rattle.xt_engine.specs.declared.global.NamedGlobal.{NamedGlobal}
use Rattle.xt_driver.specs.View.{setting_in, whole_of}
use Rattle.xt_driver.specs.declared.whole.Whole.{Whole}
use Rattle.xt_import.specs.View.{plain_of}
use Rattle.xt_world.specs.Numbered.{IsNaming, ref_to, setting_by_numbers, truth_by_numbers}
use Rattle.xt_world.specs.View.{truth_in}
use Rattle.xt_world.specs.declared.stylesheet.Stylesheet as world
use Rattle.xt_record.specs.Sure.{AreAnswered, IsSure}
use Rattle.xt_record.specs.declared.pool.Pool.{Pool}
use Rattle.xt_record.specs.declared.reuse.Reuse.{Reuse}
use Rattle.xt_own.specs.View.{OwnDecides}
use Rattle.xt_held.specs.RunView.{Ask, HoldsWith}
use Rattle.xt_held.specs.OutcomeView.{Fits, IsFreeFor, is_done, no_counts, outcome_of, plain_in}
use Rattle.xt_held.specs.StylesheetView.{AnswersAs, AnswersGiven, AreCompiled, AreCompiledBy, Holds, IsCompiledFrom, IsThere, RunsBy}
use Rattle.xt_held.specs.declared.outcome.Came.{Came}
use Rattle.xt_held.specs.declared.last_run.Kept.{Kept}
use Rattle.xt_held.specs.declared.outcome.Over.{Over}
use Rattle.xt_held.specs.declared.outcome.Recorded.{Recorded}
use Rattle.xt_held.specs.declared.tried.Tried.{Tried}
use Rattle.xt_held.specs.declared.stylesheet.Compiled.{Compiled}
use Rattle.xt_held.specs.declared.stylesheet.Compiled.TheVariants.{Stylesheet, Refused}
use denote.Ref.{Bor}

-- ---- What modules are

pub none_there : (modules : Modules) → modules main_name ≡ None → AreCompiled modules None
none_there modules e = record { so = subst (λ (main : Option Plain). AreCompiledBy modules main None) (sym e) tt }

pub one_there : (modules : Modules) (compiled : Compiled) → IsThere modules main_name → IsCompiledFrom modules compiled → AreCompiled modules (Some compiled)
one_there modules compiled main h = record { so = subst (λ (main : Option Plain). AreCompiledBy modules main (Some compiled)) (sym main.1) h }

-- a module of this name, as it is looked for
pub is_there : (modules : Modules) (name : List ℕ) (found : Option (Bor (Document ℕ))) (document : Bor (Document ℕ)) → plain_in found ≡ modules name
    → found ≡ Some document → IsThere modules name
is_there modules name found document e is = (plain_of document.now, sym e ∙ ap plain_in is)

pub is_not_there : (modules : Modules) (name : List ℕ) (found : Option (Bor (Document ℕ))) → plain_in found ≡ modules name → found ≡ None → modules name ≡ None
is_not_there modules name found e is = sym e ∙ ap plain_in is

-- ---- Without a module `main`, and without a source

pub without_main : (modules : Modules) (parameters : Parameters) (main source : Option Plain) → AreCompiledBy modules main None
    → Comes modules parameters main source (spec.Failed no_main [])
without_main modules parameters None source h = refl
without_main modules parameters (Some main) source h = absurd h

pub without_source : (modules : Modules) (parameters : Parameters) (main : Option Plain) (compiled : Compiled)
    → AreCompiledBy modules main (Some compiled) → Comes modules parameters main None (spec.Failed no_source [])
without_source modules parameters None compiled h = absurd h
without_source modules parameters (Some main) compiled h = refl

pub with_both : (modules : Modules) (parameters : Parameters) (main : Option Plain) (source : Plain) (compiled : Compiled) (r : Result Came Memory)
    → AreCompiledBy modules main (Some compiled)
    → ((tree : Plain) → IsCompiledFrom modules compiled → IfOk r (λ o. Comes modules parameters (Some tree) (Some source) (outcome_of o.outcome)))
    → IfOk r (λ o. Comes modules parameters main (Some source) (outcome_of o.outcome))
with_both modules parameters None source compiled r h f = absurd h
with_both modules parameters (Some main) source compiled r h f = f main h

-- ---- With both

pub refused_so : (modules : Modules) (parameters : Parameters) (main source : Plain) (compiled : Compiled) (why : StaticRefusal) (r : Result Came Memory) → compiled ≡ Refused why
    → IfOk r (λ o. outcome_of o.outcome ≡ spec.Failed (refused_static (refusal_in why)) []) → IsCompiledFrom modules compiled
    → IfOk r (λ o. Comes modules parameters (Some main) (Some source) (outcome_of o.outcome))
refused_so modules parameters main source compiled why r e told h =
    let holds : h.result ≡ Err (refusal_in why) = subst (λ (c : Compiled). Holds c h.result) e h.holds in
    IfOk-weaker r _ _ (λ o is. (h.result, h.is, is ∙ sym (ap (spec.outcome_of parameters source) holds))) told

-- ---- With the contents of each xsl:for-each in a template of its own

-- no outcome tells that stylesheet from the one that was compiled
abbrev pub Lifting : Type 0
Lifting = (sheet : plain_sheet.Sheet) (parameters : Parameters) (source : Plain)
    → spec.outcome_of parameters source (Ok (with_items sheet)) ≡ spec.outcome_of parameters source (Ok sheet)

runs_lifted : (given : List ℕ) (sheet : plain_sheet.Sheet) (compiled : Compiled) → RunsBy given compiled (with_items sheet) → Holds compiled (Ok sheet)
runs_lifted given sheet (Stylesheet held rules method) h = (sheet, refl, h.0.is, h.1, h.2)
runs_lifted given sheet (Refused why) h = absurd h

pub holds_lifted : (given : List ℕ) (sheet other : plain_sheet.Sheet) (r : Result Compiled Memory) → other ≡ with_items sheet
    → IfOk r (λ compiled. RunsBy given compiled other) → IfOk r (λ compiled. Holds compiled (Ok sheet))
holds_lifted given sheet other r is h =
    IfOk-weaker r _ _ (λ compiled runs. runs_lifted given sheet compiled (subst (λ (s : plain_sheet.Sheet). RunsBy given compiled s) is runs)) h

pub runs_so : Lifting → (modules : Modules) (parameters : Parameters) (main source : Plain) (compiled : Compiled) (held : world.Stylesheet) (rules : SpaceRules)
    (method copy : Option (Method Expanded)) (whole : means.Whole) (r : Result Came Memory) → compiled ≡ Stylesheet held rules method → copy ≡ method
    → ((sheet : plain_sheet.Sheet) → AnswersAs held sheet → space_rules_of rules ≡ sheet.space_rules
    → whole ≡ run_of (setting_of sheet parameters (seen sheet.space_rules.rules (document_of source))))
    → IfOk r (λ o. outcome_of o.outcome ≡ outcome_by copy whole) → IsCompiledFrom modules compiled
    → IfOk r (λ o. Comes modules parameters (Some main) (Some source) (outcome_of o.outcome))
runs_so lifting modules parameters main source compiled held rules method copy whole r e same ran told h =
    let holds : Holds (Stylesheet held rules method) h.result = subst (λ (c : Compiled). Holds c h.result) e h.holds in
    let is_whole = ran (with_items holds.0) holds.2 holds.3 in
    IfOk-weaker r _ _ (λ o is. (
      h.result,
      h.is,
      is ∙ (λ i. outcome_by ((same ∙ holds.4) i) (is_whole i)) ∙ lifting holds.0 parameters source
          ∙ sym (ap (spec.outcome_of parameters source) holds.1),
    )) told

-- ---- What the run sees of the source

abbrev Labels : Type 0
Labels = (rules : List SpaceRule) (document : Document ℕ) → plain (seen rules document).nodes ≡ seen_among rules at_root (plain document.nodes)

pub seen_so : Labels → (sheet : plain_sheet.Sheet) (parameters : Parameters) (source sight : Document ℕ) (rules : List SpaceRule) → rules ≡ sheet.space_rules.rules
    → sight ≡ seen rules source → (r : Result Over Memory)
    → IfOk r (λ w. whole_of w.whole ≡ run_of (setting_of sheet parameters (document_of (plain_of sight))))
    → IfOk r (λ w. whole_of w.whole ≡ run_of (setting_of sheet parameters (seen sheet.space_rules.rules (document_of (plain_of source)))))
seen_so labels sheet parameters source sight rules e is r h =
    let sees : document_of (plain_of sight) ≡ seen sheet.space_rules.rules (document_of (plain_of source))
    = ap document_of (ap plain_of is ∙ labels rules source) ∙ ap (λ (rs : List SpaceRule). seen rs (document_of (plain_of source))) e in
    subst (λ (d : Document (Unit {0})). IfOk r (λ w. whole_of w.whole ≡ run_of (setting_of sheet parameters d))) sees h

-- ---- A stylesheet that answers as another does but for what the run does not ask

same_answers : (numbers : Place → ℕ) (s : plain_sheet.Sheet) (rules : plain_sheet.SpaceRules) (method : Option (Method Expanded)) (parameters : Parameters)
    (document : Document ℕ) (q : Question NodeRef)
    → truth_by_numbers numbers (record s { space_rules = rules; method = method }) parameters document q ≡ truth_by_numbers numbers s parameters document q
same_answers numbers s rules method parameters document (question.Step node axis test) = refl
same_answers numbers s rules method parameters document (question.Text node) = refl
same_answers numbers s rules method parameters document (question.Name node) = refl
same_answers numbers s rules method parameters document (question.Place node) = refl
same_answers numbers s rules method parameters document (question.Order nodes) = refl
same_answers numbers s rules method parameters document (question.Key name value) = refl
same_answers numbers s rules method parameters document (question.Choice node mode candidates) = refl
same_answers numbers s rules method parameters document (question.Copy node) = refl
same_answers numbers s rules method parameters document (question.Unit element) = refl
same_answers numbers s rules method parameters document (question.External name) = refl

answers_as : (held : world.Stylesheet) (s : plain_sheet.Sheet) (rules : plain_sheet.SpaceRules) (method : Option (Method Expanded))
    → AnswersAs held (record s { space_rules = rules; method = method }) → AnswersAs held s
answers_as held s rules method h = record {
  numbers = h.numbers;
  naming = h.naming;
  truth = λ parameters document q. h.truth parameters document q ∙ same_answers h.numbers s rules method parameters document q;
  globals = h.globals;
  rules = h.rules;
}

-- nor do its units change, so its elements are called as before
pub answers_given : (given : List ℕ) (held : world.Stylesheet) (s : plain_sheet.Sheet) (rules : plain_sheet.SpaceRules) (method : Option (Method Expanded))
    → AnswersGiven given held (record s { space_rules = rules; method = method }) → AnswersGiven given held s
unfolding answers_as
answers_given given held s rules method h = record { is = answers_as held s rules method h.is; served = h.served }

-- ---- The run, by numbers and by places

abbrev pub SameRun : Type 0
SameRun = (numbers : Place → ℕ) (sheet : plain_sheet.Sheet) (parameters : Parameters) (document : Document ℕ) → IsNaming numbers sheet.units → IsNumbered document
    → run_of (setting_by_numbers numbers sheet parameters document) ≡ run_of (setting_of sheet parameters (unlabelled document))

pub same_whole : SameRun → (parameters : Parameters) (document : Document ℕ) → IsNumbered document
    → (held : world.Stylesheet) (sheet : plain_sheet.Sheet) → AnswersAs held sheet → (root : NodeRef) → root ≡ ref_to document.root
    → (globals : List NamedGlobal) → globals ≡ held.globals.items
    → run_of (setting_in (truth_in held parameters document) root globals) ≡ run_of (setting_of sheet parameters (document_of (plain document.nodes)))
same_whole same parameters document numbered held sheet answers root is globals are =
    let named = ap (map named_of) are ∙ answers.globals in
    let setting : setting_in (truth_in held parameters document) root globals ≡ setting_by_numbers answers.numbers sheet parameters document
    = λ i. record { ask = λ q. answers.truth parameters document q i; same = same_ref; root = is i; globals = named i } in
    ap run_of setting ∙ same answers.numbers sheet parameters document answers.naming numbered

weaker : (r : Result Whole Memory) (a b : means.Whole) → a ≡ b → IfOk r (λ w. whole_of w ≡ a) → IfOk r (λ w. whole_of w ≡ b)
weaker r a b e h = IfOk-weaker r (λ w. whole_of w ≡ a) (λ w. whole_of w ≡ b) (λ w is. is ∙ e) h

pub run_so : SameRun → (parameters : Parameters) (document : Document ℕ) → IsNumbered document
    → (held : world.Stylesheet) (sheet : plain_sheet.Sheet) → AnswersAs held sheet → (root : NodeRef) → root ≡ ref_to document.root
    → (globals : List NamedGlobal) → globals ≡ held.globals.items → (truth : Question NodeRef → Answer NodeRef)
    → truth ≡ truth_in held parameters document → (r : Result Whole Memory)
    → IfOk r (λ w. whole_of w ≡ run_of (setting_in truth root globals))
    → IfOk r (λ w. whole_of w ≡ run_of (setting_of sheet parameters (document_of (plain document.nodes))))
run_so same parameters document numbered held sheet answers root is globals are truth told r h =
    weaker r (run_of (setting_in (truth_in held parameters document) root globals))
    (run_of (setting_of sheet parameters (document_of (plain document.nodes))))
    (same_whole same parameters document numbered held sheet answers root is globals are)
    (subst (λ (t : Question NodeRef → Answer NodeRef). IfOk r (λ w. whole_of w ≡ run_of (setting_in t root globals))) told h)

-- what comes of the run is what it came to with the records that it keeps
pub recorded_so : (r : Result Whole Memory) (t : Result Recorded Memory) (meant : means.Whole) → IfOk t (λ over. r ≡ Ok over.whole)
    → IfOk r (λ w. whole_of w ≡ meant) → IfOk t (λ over. whole_of over.whole ≡ meant)
recorded_so r t meant told h =
    IfOk-weaker t _ _ (λ over is. subst (λ (x : Result Whole Memory). IfOk x (λ w. whole_of w ≡ meant)) is h) told

-- where it was sure of all that the run kept, the questions of that have their answers
pub kept_so : (r : Result Whole Memory) (t : Result Recorded Memory) (reuse : Reuse) (ask : Ask) → IfOk t (λ over. r ≡ Ok over.whole)
    → IfOk t (λ over. (ask : Ask) → IsSure ask reuse → AreAnswered ask over.records) → OnOk r (IsSure ask reuse) → IfOk t (λ over. AreAnswered ask over.records)
kept_so r t reuse ask told kept sure = by t told kept
  where
    by : (t : Result Recorded Memory) → IfOk t (λ over. r ≡ Ok over.whole) → IfOk t (λ over. (ask : Ask) → IsSure ask reuse → AreAnswered ask over.records)
        → IfOk t (λ over. AreAnswered ask over.records)
    by (Ok over) is kept = kept ask (subst (λ (x : Result Whole Memory). OnOk x (IsSure ask reuse)) is sure)
    by (Err memory) is kept = tt

-- with what else it keeps
pub whole_so : (recorded : Recorded) (t : Result Over Memory) (meant : means.Whole) → IfOk t (λ over. over.whole ≡ recorded.whole)
    → whole_of recorded.whole ≡ meant → IfOk t (λ over. whole_of over.whole ≡ meant)
whole_so recorded t meant told h = IfOk-weaker t _ _ (λ over is. ap whole_of is ∙ h) told

pub holds_so : (held : world.Stylesheet) (ask : Ask) (recorded : Recorded) (t : Result Over Memory) → IfOk t (λ over. over.kept.records ≡ recorded.records)
    → IfOk t (λ over. OwnDecides held ask over.kept.own) → AreAnswered ask recorded.records → IfOk t (λ over. HoldsWith held ask over.kept)
holds_so held ask recorded (Ok over) is own answered =
    record { answered = subst (λ (pool : Pool). AreAnswered ask pool) (sym is) answered; own = own }
holds_so held ask recorded (Err memory) is own answered = tt

-- what a run of what is seen kept is what the run kept
pub ended_so : (r : Result Came Memory) (kept : Kept) (P : Kept → Type 0) → IfOk r (λ came. IfSome came.kept (λ other. other ≡ kept)) → P kept
    → IfOk r (λ came. IfSome came.kept P)
ended_so r kept P told h = IfOk-weaker r _ _ (λ came is. by came.kept is) told
  where
    by : (o : Option Kept) → IfSome o (λ other. other ≡ kept) → IfSome o P
    by None is = tt
    by (Some other) is = subst P (sym is) h

pub none_kept : (r : Result Came Memory) (P : Kept → Type 0) → IfOk r (λ came. came.kept ≡ None) → IfOk r (λ came. IfSome came.kept P)
none_kept r P told = IfOk-weaker r _ _ (λ came is. subst (λ (kept : Option Kept). IfSome kept P) (sym is) tt) told

-- ---- Where nothing is run

pub fits_unrun : (came : Came) (refusal : StaticCode) (place : Place) (messages : List (List ℕ))
    → outcome_of came.outcome ≡ spec.Failed (record { code = codes.Static refusal; place = place }) messages → came.kept ≡ None → came.counts ≡ no_counts → Fits came
fits_unrun came refusal place messages is kept counts = record {
  kept = ap is_some kept ∙ sym (ap is_done is);
  counts = subst (λ (outcome : spec.Outcome). IsFreeFor outcome came.counts) (sym is) counts;
}

-- ---- Modules with another among them

pub compiled_so : (r : Result (Option Compiled) Memory) (t : Result Tried Memory) (document : Document ℕ) (modules others : Modules) → modules ≡ others
    → IfOk r (λ compiled. AreCompiled modules compiled) → IfOk t (λ tried. (r ≡ Ok tried.compiled) × (tried.document ≡ document))
    → IfOk t (λ tried. AreCompiled others tried.compiled)
compiled_so r t document modules others e h told =
    IfOk-weaker t _ _ (λ tried is. subst (λ (ms : Modules). AreCompiled ms tried.compiled) e
    (subst (λ (x : Result (Option Compiled) Memory). IfOk x (λ compiled. AreCompiled modules compiled)) is.0 h)) told

pub document_so : (r : Result (Option Compiled) Memory) (t : Result Tried Memory) (document other : Document ℕ) → document ≡ other
    → IfOk t (λ tried. (r ≡ Ok tried.compiled) × (tried.document ≡ document)) → IfOk t (λ tried. tried.document ≡ other)
document_so r t document other e told = IfOk-weaker t _ _ (λ tried is. is.1 ∙ e) told
