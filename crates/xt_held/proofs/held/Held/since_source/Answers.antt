use Rattle.std.proofs.Common.{Some, ap}
use Rattle.std.proofs.lemmas.Result.{IfOk-weaker}
use Rattle.xt_touch.specs.View.{since_of}
use Rattle.xt_world.specs.ParameterView.{parameters_of}
use Rattle.xt_held.specs.RunView.{last_known}
use Rattle.xt_held.proofs.Left.{made_by_edit, made_by_move, source_faultless, source_stays}
use Rattle.xt_held.proofs.Marked.{anything_stays}
use Rattle.xt_held.specs.Marked.{known_in, known_of}
use Rattle.xt_held.proofs.Knowing.{given_told, none_told, source_told}
use Rattle.xt_held.proofs.held.Held.since_source.Goals as goal

pub returns-in-None-clause-spared : goal.returns-in-None-clause-spared
returns-in-None-clause-spared c =
    let held = c.args.self.now in
    let known = last_known held.compiled held.last.before in
    let given = parameters_of held.parameters in
    IfOk-weaker c.anything.result _ _ (λ next is.
    anything_stays known known given given held.source (Some c.args.document.now) (since_of held.last.since) (since_of next) is) c.anything.ensures

pub returns-in-Given-clause-spared : goal.returns-in-Given-clause-spared
returns-in-Given-clause-spared c =
    let held = c.args.self.now in
    let known = last_known held.compiled held.last.before in
    let given = parameters_of held.parameters in
    IfOk-weaker c.anything-in-Given.result _ _ (λ next is.
    anything_stays known known given given held.source (Some c.args.document.now) (since_of held.last.since) (since_of next) is) c.anything-in-Given.ensures

pub since_edit-requires-clause-edit : goal.since_edit-requires-clause-edit
since_edit-requires-clause-edit c =
    made_by_edit c.args.origin c.in-Edited.edit c.args.self.now.source c.in-Some.old c.args.document.now c.in-Edited.is c.in-Some.is c.requires.made

pub since_edit-requires-clause-faultless : goal.since_edit-requires-clause-faultless
since_edit-requires-clause-faultless c = source_faultless c.args.self.now.source c.in-Some.old c.in-Some.is c.requires.known.last.faultless

pub returns-in-Edited-clause-spared : goal.returns-in-Edited-clause-spared
returns-in-Edited-clause-spared c =
    let held = c.args.self.now in
    source_stays c.last_known-known.result (last_known held.compiled held.last.before) c.last_known-known.ensures (parameters_of held.parameters) held.source
    c.in-Some.old c.args.document.now c.in-Some.is (since_of held.last.since) c.since_edit.result c.since_edit.ensures.spared

pub since_move-requires-clause-moved : goal.since_move-requires-clause-moved
since_move-requires-clause-moved c =
    made_by_move c.args.origin c.in-Moved.path c.in-Moved.other c.args.self.now.source c.in-Some.old c.args.document.now c.in-Moved.is c.in-Some.is
    c.requires.made

pub since_move-requires-clause-faultless : goal.since_move-requires-clause-faultless
since_move-requires-clause-faultless c = source_faultless c.args.self.now.source c.in-Some.old c.in-Some.is c.requires.known.last.faultless

pub returns-in-Moved-clause-spared : goal.returns-in-Moved-clause-spared
returns-in-Moved-clause-spared c =
    let held = c.args.self.now in
    source_stays c.last_known-known.result (last_known held.compiled held.last.before) c.last_known-known.ensures (parameters_of held.parameters) held.source
    c.in-Some.old c.args.document.now c.in-Some.is (since_of held.last.since) c.since_move.result c.since_move.ensures.spared

pub returns-in-None-clause-told : goal.returns-in-None-clause-told
returns-in-None-clause-told c = λ told is.
    let held = c.args.self.now in
    IfOk-weaker c.anything.result _ _ (λ next so.
    none_told held.last.kept.records (known_in held) c.args.origin held.source c.in-None.is c.args.document.now told (since_of next) so) c.anything.ensures

pub returns-in-Given-clause-told : goal.returns-in-Given-clause-told
returns-in-Given-clause-told c = λ told is.
    let held = c.args.self.now in
    IfOk-weaker c.anything-in-Given.result _ _ (λ next so.
    given_told held.last.kept.records (known_in held) c.args.origin c.in-Given.is held.source c.args.document.now told (since_of next) so)
    c.anything-in-Given.ensures

pub returns-in-Edited-clause-told : goal.returns-in-Edited-clause-told
returns-in-Edited-clause-told c = λ told is.
    let held = c.args.self.now in
    source_told held.last.kept.records (ap known_of c.last_known-known.ensures) c.in-Edited.is c.in-Some.is c.args.document.now told c.since_edit.result
    (c.since_edit.ensures.told held.last.kept.records told is)

pub returns-in-Moved-clause-told : goal.returns-in-Moved-clause-told
returns-in-Moved-clause-told c = λ told is.
    let held = c.args.self.now in
    source_told held.last.kept.records (ap known_of c.last_known-known.ensures) c.in-Moved.is c.in-Some.is c.args.document.now told c.since_move.result
    (c.since_move.ensures.told held.last.kept.records told is)
