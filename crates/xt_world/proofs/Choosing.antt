-- The rule that a run chooses is the one that the true answers choose.
use Rattle.std.proofs.Common.{◌≡◌, ℕ, [], Option, None, Ok, Err, sym, ap, ◌∙◌}
use Rattle.std.specs.Prelude.{Result}
use Rattle.spec_meaning.specs.Question.{Question, Answer}
use Rattle.spec_meaning.specs.Program.{Program, State, Supply, Said, Gives, Ending, run, outcome_of}
use Rattle.spec_meaning.specs.Supplies.{Supplies, at_hand}
use Rattle.spec_meaning.proofs.Runs.{run_is}
use Rattle.spec_transform.specs.Key.{no_globals}
use Rattle.spec_node.specs.declared.node_ref.NodeRef.{NodeRef}
use Rattle.xt_questions.specs.Runs.{Runs, itself}
use Rattle.xt_questions.specs.declared.fault.EvalFault.{EvalFault}
use Rattle.xt_questions.specs.declared.fault.EvalFault.TheVariants as faults
use Rattle.xt_world.specs.View.{rule_held, GivesNumber}
use Rattle.xt_world.specs.declared.stylesheet.Stylesheet.{Stylesheet}

-- a run says what the true answers make of the program
pub said_so : {A : Type 0} (supply : Supply NodeRef) (depth : ℕ) (p : Program NodeRef A) (s : State NodeRef) (e : Ending NodeRef A)
    → run supply depth p s ≡ e → outcome_of s.truth supply p ≡ e.said
said_so {A = A} supply depth p s e h =
    let said : Ending NodeRef A → Said A = λ e. e.said in sym (ap said (run_is supply depth p s)) ∙ ap said h

abbrev pub nothing : Supplies NodeRef
nothing = record { position = 1; size = 1; rule = None; globals = [] }

pub chosen_is : (s : Stylesheet) (source : Question NodeRef → Answer NodeRef) (p : Program NodeRef (Option ℕ)) (supplies : Supplies NodeRef)
    (old new : State NodeRef) (r : Result (Option ℕ) EvalFault) (n : Option ℕ) → old.truth ≡ source → supplies ≡ nothing
    → Runs itself (at_hand supplies 0) 0 p old new r → GivesNumber r n
    → rule_held s (outcome_of source no_globals p) ≡ rule_held s (Gives n)
chosen_is s source p supplies old new r n true_so given h is = by r h is
  where
    same : outcome_of source no_globals p ≡ outcome_of old.truth (at_hand supplies 0) p
    same = sym (λ i. outcome_of (true_so i) (at_hand (given i) 0) p)

    by : (r : Result (Option ℕ) EvalFault) → Runs itself (at_hand supplies 0) 0 p old new r → GivesNumber r n
        → rule_held s (outcome_of source no_globals p) ≡ rule_held s (Gives n)
    by (Ok number) h is = ap (rule_held s) (same ∙ said_so (at_hand supplies 0) 0 p old _ h.so) ∙ ap (λ (n : Option ℕ). rule_held s (Gives n)) (sym is)
    by (Err (faults.Refused why)) h is = ap (rule_held s) (same ∙ said_so (at_hand supplies 0) 0 p old _ h.so) ∙ ap (λ (n : Option ℕ). rule_held s (Gives n)) (sym is)
    by (Err (faults.Wants name)) h is = ap (rule_held s) (same ∙ said_so (at_hand supplies 0) 0 p old _ h.so) ∙ ap (λ (n : Option ℕ). rule_held s (Gives n)) (sym is)
    by (Err faults.Memory) h is = absurd is
