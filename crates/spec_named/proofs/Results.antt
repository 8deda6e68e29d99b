-- The names of the results of documents without faults are those that stand.
use Rattle.std.proofs.Common.{◌≡◌, ℕ, List, Option, None, Some, Result, Ok, Err, sym, ap, subst, ◌∙◌}
use Rattle.spec_document.specs.Name.{Expanded}
use Rattle.spec_document.specs.Forest.{Plain}
use Rattle.spec_document.specs.Scope.{Scope, root_scope}
use Rattle.spec_stylesheet.specs.declared.method.Method.{Method}
use Rattle.spec_stylesheet.specs.Sheet.{Sheet}
use Rattle.spec_structure.specs.Modules.{Modules}
use Rattle.spec_compile.specs.Sheet as compile
use Rattle.spec_compile.specs.Sheet.{IsSheet}
use Rattle.spec_seen.specs.Seen.{seen, at_root}
use Rattle.spec_meaning.specs.Stream.{Stream}
use Rattle.spec_result.specs.Recovery.{Standing, Nothing, AnElement, AText, AComment, AnInstruction, standing}
use Rattle.spec_result.specs.Shape.{opened, prefix_for, tree_of, shaped}
use Rattle.spec_result.specs.Named.{IsGood, IsNamed}
use Rattle.spec_run.specs.Documents.{Parameters, Documents, main_name}
use Rattle.spec_run.specs.Plan.{Refused}
use Rattle.spec_run.specs.Meaning.{Whole, run_of}
use Rattle.spec_run.specs.Outcome.{document_of, Refusal, refused_dynamic, Outcome, Done, Failed, outcome_by, outcome_of, Comes, IsOutcome}
use Rattle.spec_run.specs.World.{setting_of}
use Rattle.spec_compile.proofs.Modules.{some_same}
use Rattle.spec_named.specs.Named.{AreValid, IsNamedWell, HaveRoom, stream_of, IsNamedResult}
use Rattle.spec_named.proofs.Documents.{HaveNames, AllHaveNames, valid_named, seen_named}
use Rattle.spec_named.proofs.Streams.{standing_well}
use Rattle.spec_named.proofs.Worlds.{written_well}
use Rattle.spec_named.proofs.Sheets.{sheet_well}

-- ---- The stream of a run

all_valid : (documents : Documents) → AreValid documents → AllHaveNames documents.modules
all_valid documents valid name nodes is = valid_named nodes (valid.modules name nodes is)

stream_well : (sheet : Sheet) (parameters : Parameters) (source : Plain) (modules : Modules) (main : List ℕ) → AllHaveNames modules
    → HaveNames root_scope source
    → IsSheet modules main (Ok sheet) → IsNamedWell (standing (stream_of sheet parameters source))
stream_well sheet parameters source modules main named there is =
    standing_well (stream_of sheet parameters source) Nothing
    (written_well sheet parameters (seen sheet.space_rules.rules (document_of source))
    (seen_named sheet.space_rules.rules at_root root_scope source there)
    (sheet_well named is)) tt

pub streams_well : (documents : Documents) (source : Plain) (sheet : Sheet) → AreValid documents → documents.source ≡ Some source
    → IsSheet documents.modules main_name (Ok sheet) → IsNamedWell (standing (stream_of sheet documents.parameters source))
streams_well documents source sheet valid is sheets =
    stream_well sheet documents.parameters source documents.modules main_name (all_valid documents valid) (valid_named source
    (valid.source source is)) sheets

-- ---- What else is asked of it

good : (scope : Scope) (s : Standing) → IsNamedWell s → HaveRoom scope s → IsGood scope s
good scope Nothing h room = tt
good scope (AnElement prefix local uri namespaces attributes children siblings) h room = (
  h.0,
  h.1,
  h.2,
  room.0,
  good (opened scope (prefix_for prefix uri) uri namespaces attributes).scope children h.3 room.1,
  good scope siblings h.4 room.2,
)
good scope (AText text siblings) h room = good scope siblings h room
good scope (AComment text siblings) h room = good scope siblings h room
good scope (AnInstruction target text siblings) h room = good scope siblings h room

-- ---- The result

abbrev pub NamesAreDeclared : Type 0
NamesAreDeclared = (scope : Scope) (stream : Stream) → IsGood scope (standing stream)
    → IsNamed scope (standing stream) (tree_of scope (standing stream))

named_result : NamesAreDeclared → (stream : Stream) (result : Plain) → result ≡ shaped stream → IsNamedWell (standing stream)
    → IsNamedResult stream result
named_result declared stream result is h = record {
  tree = is;
  well = h;
  names = λ room. subst (IsNamed root_scope (standing stream)) (sym is) (declared root_scope stream (good root_scope (standing stream) h room));
}

abbrev result_of : Plain → Outcome → Plain
result_of other (Done result method messages) = result
result_of other (Failed why messages) = other

not_failed : {result : Plain} {method : Option (Method Expanded)} {messages told : List (List ℕ)} {why : Refusal}
    → Done result method messages ≡ Failed why told → ⊥
not_failed e = cc

finished : (result : Plain) (method : Option (Method Expanded)) (messages : List (List ℕ)) (own : Option (Method Expanded)) (whole : Whole)
    → Done result method messages ≡ outcome_by own whole → result ≡ shaped whole.content
finished result method messages own whole e = by whole.refusal e
  where
    by : (o : Option Refused)
        → Done result method messages ≡ elim o [
          | None ↦ Done (shaped whole.content) own whole.messages
          | Some why ↦ Failed
              (refused_dynamic why) whole.messages
        ]
        → result ≡ shaped whole.content
    by None e = ap (result_of result) e
    by (Some why) e = absurd (not_failed e)

-- the stylesheet of a finished run, and its result
abbrev pub Finishes : Documents → Plain → Plain → Type 0
Finishes documents source result =
    (sheet : Sheet) × IsSheet documents.modules main_name (Ok sheet) × IsNamedResult (stream_of sheet documents.parameters source) result

by_result : NamesAreDeclared → (documents : Documents) (source result : Plain) (method : Option (Method Expanded)) (messages : List (List ℕ))
    → AreValid documents
    → HaveNames root_scope source → (r : Result Sheet compile.Refusal) → IsSheet documents.modules main_name r
    → Done result method messages ≡ outcome_of documents.parameters source r → Finishes documents source result
by_result declared documents source result method messages valid named (Err why) sheets e = absurd (not_failed e)
by_result declared documents source result method messages valid named (Ok sheet) sheets e = (
  sheet,
  sheets,
  named_result declared (stream_of sheet documents.parameters source) result
      (finished result method messages sheet.method (run_of (setting_of sheet documents.parameters (seen sheet.space_rules.rules
      (document_of source)))) e)
      (stream_well sheet documents.parameters source documents.modules main_name (all_valid documents valid) named sheets),
)

by_documents : NamesAreDeclared → (documents : Documents) (source result : Plain) (method : Option (Method Expanded)) (messages : List (List ℕ))
    → AreValid documents
    → HaveNames root_scope source → (main there : Option Plain) → there ≡ Some source
    → Comes documents.modules documents.parameters main there (Done result method messages) → Finishes documents source result
by_documents declared documents source result method messages valid named None there is e = absurd (not_failed e)
by_documents declared documents source result method messages valid named (Some main) None is e = absurd (not_failed e)
by_documents declared documents source result method messages valid named (Some main) (Some other) is e =
    let same : other ≡ source = some_same other source is in
    by_result declared documents source result method messages valid named e.0 e.1
    (e.2 ∙ ap (λ (nodes : Plain). outcome_of documents.parameters nodes e.0) same)

pub results_named : NamesAreDeclared → (documents : Documents) (source result : Plain) (method : Option (Method Expanded)) (messages : List (List ℕ))
    → AreValid documents → documents.source ≡ Some source → IsOutcome documents (Done result method messages) → Finishes documents source result
results_named declared documents source result method messages valid is outcome =
    by_documents declared documents source result method messages valid (valid_named source (valid.source source is)) (documents.modules main_name)
    documents.source is outcome
