use Rattle.std.proofs.Common.{ℕ, Option, ap, sym, subst, ◌∙◌, ◌∷◌, [], Ok}
use Rattle.std.specs.Prelude.{IfSome}
use Rattle.std.specs.Option.{option_copied, option_map}
use Rattle.spec_document.specs.Forest.{Document, Plain}
use Rattle.spec_run.specs.Documents.{main_name}
use Rattle.spec_run.specs.Outcome.{Comes}
use Rattle.xt_import.specs.View.{plain_of}
use Rattle.xt_touch.specs.View.{since_of}
use Rattle.xt_world.specs.ParameterView.{parameters_of, with_value}
use Rattle.xt_held.specs.OutcomeView.{outcome_of}
use Rattle.xt_held.specs.RunView.{KeptHolds, KeptSpared, last_known}
use Rattle.xt_held.specs.StylesheetView.{AreCompiled}
use Rattle.xt_held.specs.View.{documents_of}
use Rattle.xt_held.specs.declared.stylesheet.Compiled.{Compiled}
use Rattle.xt_held.proofs.Giving.{kept_so, ready_so}
use Rattle.xt_held.proofs.Keys.{map-copied}
use Rattle.xt_held.proofs.Left.{kept_stays, last_so, run_spared}
use Rattle.xt_held.proofs.Making.{compiled_alone, none_open}
use Rattle.xt_held.specs.Complete.{KeepsWhere}
use Rattle.xt_held.specs.Cost.{CostsRun}
use Rattle.spec_cost.specs.Marking.{Given, and_marks}
use Rattle.xt_held.specs.Marked.{known_in}
use Rattle.xt_held.specs.View.{is_edited_by}
use Rattle.xt_held.proofs.Asking.{as_told, came_asked}
use Rattle.xt_held.proofs.held.Held.present_parameter.Goals as goal

pub outcome_with-requires : goal.outcome_with-requires
outcome_with-requires c =
    let held = c.args.self.now in
    let given = parameters_of held.parameters in
    let values = with_value c.args.name.now c.args.value.now given in
    let known = last_known held.compiled held.last.before in
    let changes = since_of c.in_ok-since.since in
    let answers = c.requires.current.serves.answers in
    let spared = kept_stays known known given values held.source held.source (since_of held.last.since) changes
    (c.in_ok-since.ensures.spared known given c.args.value.now held.source) held.last.kept answers answers c.requires.current.serves.spared in
    subst (λ (o : Option Compiled). KeptSpared o values (option_copied c.as_ref-source.result) held.last.kept changes) (sym c.as_ref-compiled.ensures.value)
    (subst (λ (s : Option (Document ℕ)). KeptSpared held.compiled values s held.last.kept changes) (sym c.as_ref-source.ensures.value)
    (run_spared held.compiled held.last.before values held.source held.last.kept changes spared))

pub returns-clause-ok : goal.returns-clause-ok
returns-clause-ok c =
    let held = c.args.self.now in
    let tried = c.in_ok-tried.tried in
    let modules = (documents_of held).modules in
    let given = parameters_of held.parameters in
    let values = with_value c.args.name.now c.args.value.now given in
    let known = last_known held.compiled held.last.before in
    let changes = since_of c.in_ok-since.since in
    let answers = c.requires.current.serves.answers in
    let spared = kept_stays known known given values held.source held.source (since_of held.last.since) changes
    (c.in_ok-since.ensures.spared known given c.args.value.now held.source) held.last.kept answers answers c.requires.current.serves.spared in
    let source = map-copied plain_of c.as_ref-source.result ∙ ap (option_map plain_of) c.as_ref-source.ensures.value in
    let alone = none_open held.batch (documents_of held) c.requires.alone in
    let are = compiled_alone held alone c.requires.current.compiled in
    let compiled = subst (λ (compiled : Option Compiled). AreCompiled modules compiled) (sym c.as_ref-compiled.ensures.value) are in
    let kept = subst (λ (o : Option Compiled). IfSome tried.came.kept (KeptHolds o values held.source)) c.as_ref-compiled.ensures.value
    (subst (λ (s : Option (Document ℕ)). IfSome tried.came.kept (KeptHolds (option_copied c.as_ref-compiled.result) values s)) c.as_ref-source.ensures.value
    c.in_ok-tried.ensures.last) in
    let cost = subst (λ (o : Option Compiled). CostsRun o values held.source held.last.kept.records tried.came.counts)
    c.as_ref-compiled.ensures.value
    (subst (λ (s : Option (Document ℕ)). CostsRun (option_copied c.as_ref-compiled.result) values s held.last.kept.records tried.came.counts)
    c.as_ref-source.ensures.value c.in_ok-tried.ensures.cost) in
    let keeps = subst (λ (o : Option Compiled). KeepsWhere o values held.source tried.came.kept) c.as_ref-compiled.ensures.value
    (subst (λ (s : Option (Document ℕ)). KeepsWhere (option_copied c.as_ref-compiled.result) values s tried.came.kept)
    c.as_ref-source.ensures.value c.in_ok-tried.ensures.keeps) in
    ready_so held c.outcome_with.new.parameters c.args.name.now c.args.value.now tried.name tried.value
    c.in_ok-tried.ensures.kept c.in_ok-tried.ensures.name c.in_ok-tried.ensures.value alone tried.came are c.requires.current.below
    (subst (λ (s : Option Plain). Comes modules values (modules main_name) s (outcome_of tried.came.outcome)) source
    (c.in_ok-tried.ensures.outcome modules compiled))
    c.in_ok-tried.ensures.fits
    (last_so held.compiled held.last.before values held.source held.last (since_of c.in_ok-since.since) tried.came c.in_ok-tried.ensures.fits kept
    c.in_ok-tried.ensures.since spared c.requires.current.serves.answers c.requires.current.serves.faultless)
    cost keeps c.in_ok-tried.ensures.room

pub returns-clause-kept : goal.returns-clause-kept
returns-clause-kept c = kept_so c.args.self.now c.outcome_with.new.parameters c.in_ok-tried.ensures.kept

pub returns-clause-tells : goal.returns-clause-tells
returns-clause-tells c =
    let held = c.args.self.now in
    let documents = documents_of held in
    let alone = none_open held.batch documents c.requires.alone in
    record {
      tells = λ told is.
          let all = and_marks told (Given c.args.name.now ∷ []) in
          let tried = c.in_ok-tried.ensures in
          let changes = since_of c.in_ok-since.since in
          record {
            all = all;
            by = as_told (is_edited_by held.batch) documents.modules (known_in held) all (ap is_edited_by alone);
            asked = came_asked all changes held.last.kept.records (Ok c.in_ok-tried.tried.came) (c.in_ok-since.ensures.told held.last.kept.records told is) tried.asked tried.least tried.since;
          };
    }
