use Rattle.std.proofs.Common.{ℕ, Option, ap, subst, sym, ◌∙◌, List}
use Rattle.std.specs.Prelude.{IfOk, IfSome}
use Rattle.std.specs.Option.{option_copied, option_map}
use Rattle.spec_document.specs.Forest.{Document, Plain}
use Rattle.spec_run.specs.Documents.{main_name}
use Rattle.spec_run.specs.Outcome.{Comes}
use Rattle.xt_import.specs.View.{plain_of}
use Rattle.xt_touch.specs.View.{since_of}
use Rattle.xt_world.specs.ParameterView.{parameters_of}
use Rattle.xt_held.specs.OutcomeView.{outcome_of}
use Rattle.xt_held.specs.RunView.{AnswersAsSome, KeptHolds, KeptSpared, StaysSpared, last_known}
use Rattle.xt_held.specs.View.{before_by}
use Rattle.xt_held.specs.declared.stylesheet.Compiled.{Compiled}
use Rattle.xt_held.proofs.Keys.{map-copied}
use Rattle.xt_held.proofs.Left.{kept_stays, known_answers, known_before, left_so, run_spared}
use Rattle.xt_held.specs.Complete.{KeepsWhere}
use Rattle.xt_held.specs.Cost.{CostsRun}
use Rattle.spec_cost.specs.Marking.{AddsStyle, Mark, and_marks}
use Rattle.xt_held.specs.Marked.{AreToldBy, known_in, known_of}
use Rattle.xt_held.proofs.Asking.{styled_asked}
use Rattle.xt_held.proofs.held.Held.outcome_with_modules.Goals as goal

pub outcome_of-requires : goal.outcome_of-requires
outcome_of-requires c =
    let held = c.args.self.now in
    let given = parameters_of held.parameters in
    let compiled = option_copied c.args.compiled in
    let before = last_known held.compiled held.last.before in
    let known = c.requires.known.last in
    let changes = since_of c.in_ok-since.since in
    let stays = subst (λ (what : Option Compiled). StaysSpared what (last_known compiled what) given given held.source held.source
    (since_of held.last.since) changes) c.last_known-known.ensures (c.in_ok-since.ensures.spared given held.source) in
    subst (λ (s : Option (Document ℕ)). KeptSpared compiled given s held.last.kept changes) (sym c.as_ref-source.ensures.value)
    (run_spared compiled before given held.source held.last.kept changes
    (kept_stays before (last_known compiled before) given given held.source held.source (since_of held.last.since) changes stays held.last.kept known.answers
    (known_answers compiled before c.requires.answers known.answers) known.spared))

pub returns-clause-outcome : goal.returns-clause-outcome
returns-clause-outcome c = λ modules are.
    let given = parameters_of c.args.self.now.parameters in
    subst (λ (s : Option Plain). IfOk c.outcome_of.result (λ came. Comes modules given (modules main_name) s (outcome_of came.outcome)))
    (map-copied plain_of c.as_ref-source.result ∙ ap (option_map plain_of) c.as_ref-source.ensures.value) (c.outcome_of.ensures.outcome modules are)

pub returns-clause-last : goal.returns-clause-last
returns-clause-last c =
    let held = c.args.self.now in
    let given = parameters_of held.parameters in
    let compiled = option_copied c.args.compiled in
    let before = last_known held.compiled held.last.before in
    let known = c.requires.known.last in
    let changes = since_of c.in_ok-since.since in
    let stays = subst (λ (what : Option Compiled). StaysSpared what (last_known compiled what) given given held.source held.source
    (since_of held.last.since) changes) c.last_known-known.ensures (c.in_ok-since.ensures.spared given held.source) in
    let answers = known_answers compiled before c.requires.answers known.answers in
    let is = sym (known_before compiled held.compiled held.last.before) in
    left_so compiled (before_by compiled held.compiled held.last.before) given held.source held.last changes c.outcome_of.result c.outcome_of.ensures.fits
    (subst (λ (s : Option (Document ℕ)). IfOk c.outcome_of.result (λ came. IfSome came.kept (KeptHolds compiled given s))) c.as_ref-source.ensures.value
    c.outcome_of.ensures.last)
    c.outcome_of.ensures.since
    (subst (λ (o : Option Compiled). KeptSpared o given held.source held.last.kept changes) is
    (kept_stays before (last_known compiled before) given given held.source held.source (since_of held.last.since) changes stays held.last.kept known.answers answers
    known.spared))
    (subst (λ (o : Option Compiled). AnswersAsSome o) is answers) known.faultless

pub returns-clause-cost : goal.returns-clause-cost
returns-clause-cost c =
    let held = c.args.self.now in
    subst (λ (s : Option (Document ℕ)). IfOk c.outcome_of.result (λ came. CostsRun (option_copied c.args.compiled) (parameters_of held.parameters) s
    held.last.kept.records came.counts)) c.as_ref-source.ensures.value c.outcome_of.ensures.cost

pub returns-clause-keeps : goal.returns-clause-keeps
returns-clause-keeps c =
    let held = c.args.self.now in
    subst (λ (s : Option (Document ℕ)). IfOk c.outcome_of.result (λ came. KeepsWhere (option_copied c.args.compiled) (parameters_of held.parameters) s
    came.kept)) c.as_ref-source.ensures.value c.outcome_of.ensures.keeps

pub returns-clause-asks : goal.returns-clause-asks
returns-clause-asks c = λ told is modules are.
    let changes = since_of c.in_ok-since.since in
    let styled = subst (λ (what : Option Compiled). (style : List Mark) × AddsStyle modules (modules main_name) (known_of what) style
    × AreToldBy c.args.self.now.last.kept.records (and_marks told style) changes) c.last_known-known.ensures (c.in_ok-since.ensures.told told is modules are) in
    styled_asked modules (known_in c.args.self.now) told changes c.args.self.now.last.kept.records c.outcome_of.result styled c.outcome_of.ensures.asked c.outcome_of.ensures.least
    c.outcome_of.ensures.since
