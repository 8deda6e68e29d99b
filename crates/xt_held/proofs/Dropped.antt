-- What is held where a module was tried without, and what is ready then.
use Rattle.std.proofs.Common.{◌≡◌, ℕ, List, Option, None, Some, ap, sym, subst, ◌∙◌}
use Rattle.std.specs.Map.{lookup}
use Rattle.std.specs.Option.{option_copied, option_map}
use Rattle.std.specs.Str.{chars}
use Rattle.spec_document.specs.Forest.{Document}
use Rattle.spec_cost.specs.Numbers as numbers
use Rattle.spec_cost.specs.Numbers.{NumberedModules}
use Rattle.spec_run.specs.Documents.{Documents, main_name, without_module}
use Rattle.spec_run.specs.Outcome.{Comes, IsOutcome}
use Rattle.xt_import.specs.View.{is_name, modules_in, plain_of}
use Rattle.xt_world.specs.ParameterView.{parameters_of}
use Rattle.xt_held.specs.Called.{AreCalled, numbered_modules}
use Rattle.xt_held.specs.Complete.{KeepsWhere}
use Rattle.xt_held.specs.Cost.{CostsRun}
use Rattle.xt_held.specs.OutcomeView.{Fits, outcome_of}
use Rattle.xt_held.specs.RunView.{LastHolds}
use Rattle.xt_held.specs.StylesheetView.{AreCompiled, IsThere, without_one}
use Rattle.spec_node.specs.declared.node_ref.NodeId.{NodeId}
use Rattle.xt_held.specs.View.{HasBelow, IsCurrent, IsReady, before_by, left_by, documents_of, is_edited_by, made_of, with_edit}
use Rattle.xt_held.specs.declared.held.Held.{Held}
use Rattle.xt_held.specs.declared.outcome.Came.{Came}
use Rattle.xt_held.specs.declared.ready.Change.TheVariants as changes
use Rattle.xt_held.specs.declared.ready.Recompiled.TheVariants.{Now}
use Rattle.xt_held.specs.declared.stylesheet.Compiled.{Compiled}
use Rattle.xt_held.proofs.Keeping.{IsReordered, same_documents, same_numbers, still_below}
use Rattle.xt_held.proofs.Making.{mapped_edit, told_from, told_ready}
use Rattle.xt_held.proofs.Paying.{module_changes}
use denote.Ref.{Bor}

-- a module of this name, as it is looked for by its text
pub is_held : (held : Held) (name text : List ℕ) → chars text ≡ name → (found : Option (Bor (Document ℕ))) (document : Bor (Document ℕ))
    → option_copied found ≡ lookup (is_name (chars text)) held.modules.entries → found ≡ Some document → IsThere (documents_of held).modules name
is_held held name text same found document e is =
    (plain_of document.now, ap (λ (n : List ℕ). modules_in held.modules.entries n) (sym same) ∙ ap (option_map plain_of) (sym e ∙ ap option_copied is))

-- the outcome without the module is that of what will be held
pub ready_so : (old new : Held) → IsReordered old new → old.batch ≡ None → (name : List ℕ) (kept : List ℕ) → kept ≡ name → (compiled : Option Compiled) (came : Came)
    (next : NodeId) → next.number ≡ made_of old → AreCompiled (without_one name (modules_in old.modules.entries)) compiled
    → AreCalled (without_one name (modules_in old.modules.entries)) (numbers.with_one name None (numbered_modules old.modules.entries)) compiled
    → Comes (without_one name (modules_in old.modules.entries)) (parameters_of old.parameters) (without_one name (modules_in old.modules.entries) main_name)
    (option_map plain_of old.source) (outcome_of came.outcome)
    → Fits came → LastHolds (outcome_of came.outcome) compiled (parameters_of new.parameters) new.source (left_by came (before_by compiled new.compiled new.last.before) new.last)
    → CostsRun compiled (parameters_of new.parameters) new.source new.last.kept.records came.counts
    → KeepsWhere compiled (parameters_of new.parameters) new.source came.kept
    → IsCurrent old → IsReady (without_module name) (made_of new) new (told_ready (changes.Dropped kept (Now compiled)) next came)
ready_so old new h alone name kept same compiled came next number are called comes fits holds cost keeps now =
    let documents : without_module name (documents_of old) ≡ without_module kept (documents_of new)
    = sym (λ i. without_module (same i) (same_documents old new h i)) in
    let numbered : numbers.with_one name None (numbered_modules old.modules.entries) ≡ numbers.with_one kept None (numbered_modules new.modules.entries)
    = sym (λ i. numbers.with_one (same i) None (same_numbers old new h i)) in
    let closed : new.batch ≡ None = h.batch ∙ alone in
    record {
      documents = λ i. without_module (same i) (documents_of new);
      made = number ∙ sym h.made;
      pending = mapped_edit new.batch (without_module kept (documents_of new)) (documents_of new);
      from = told_from new (changes.Dropped kept (Now compiled)) next came
          (record {
            outcome = subst (λ (ds : Documents). IsOutcome ds (outcome_of came.outcome)) documents comes;
            closed = ap (option_map with_edit) closed;
            fits = fits;
            compiled = subst (λ (ds : Documents). AreCompiled ds.modules compiled) documents are;
            last = holds;
            cost = cost;
            keeps = keeps;
            same = module_changes (told_ready (changes.Dropped kept (Now compiled)) next came) new (is_edited_by new.batch);
            called = λ e. subst (λ (ms : NumberedModules). AreCalled (without_module kept (documents_of new)).modules ms compiled) numbered
                (subst (λ (ds : Documents). AreCalled ds.modules (numbers.with_one name None (numbered_modules old.modules.entries)) compiled) documents
                called);
          }) tt (subst (λ (first : ℕ). HasBelow first new) (h.made ∙ sym number) (still_below old new h now.below)) tt;
    }
