use Rattle.std.proofs.Common.{Bor, ap, subst, sym, ◌∙◌}
use Rattle.spec_meaning.specs.Question.{Question, Answer}
use Rattle.spec_node.specs.declared.node_ref.NodeRef.{NodeRef}
use Rattle.std.proofs.lemmas.Option.{get_or_from_slice_get}
use Rattle.xt_record.specs.Asked.{NoneMarked}
use Rattle.xt_record.specs.Sure.{IsSure}
use Rattle.xt_record.specs.View.{kept_in}
use Rattle.xt_record.proofs.Quiet.{none_from}
use Rattle.xt_record.proofs.Standing.{judges_more}
use Rattle.xt_spared.specs.declared.spared.Spared.{Spared}
use Rattle.xt_touch.specs.View.{since_of}
use Rattle.xt_record.proofs.reuse.Reuse.judge_at.Goals as goal

pub holds-requires-clause-at : goal.holds-requires-clause-at
holds-requires-clause-at g c =
    let rs = c.args.self.now.last.now.records.items in
    let r = c.record_at-kept.result.now in
    sym (ap (λ x. x.value) (get_or_from_slice_get rs c.args.turn r r c.record_at-kept.ensures))

pub ask_marked-requires-clause-sure : goal.ask_marked-requires-clause-sure
ask_marked-requires-clause-sure g c =
    let Sure : (Question NodeRef → Answer NodeRef) → Type 0 = λ t. IsSure t c.holds.new.self in
    subst Sure (sym c.in_ok-holds.ensures.truth) c.in_ok-holds.ensures.sure

pub returns-clause-sure : goal.returns-clause-sure
returns-clause-sure g c =
    let Sure : (Question NodeRef → Answer NodeRef) → Type 0 = λ t. IsSure t c.ask_marked.new.self in
    subst Sure c.in_ok-holds.ensures.truth c.in_ok-ask_marked.ensures.sure

pub returns-clause-judges : goal.returns-clause-judges
returns-clause-judges g c = judges_more c.in_ok-holds.ensures.judges c.in_ok-ask_marked.ensures.judges

pub returns-clause-quiet : goal.returns-clause-quiet
returns-clause-quiet g c = λ none h.
    let rs = c.args.self.now.last.now.records.items in
    let r = c.record_at-kept.result.now in
    let None : Bor Spared → Type 0 = λ spared. NoneMarked (since_of spared.now.since.now) (kept_in r.value).trace in
    none_from (since_of c.args.self.now.spared.now.since.now) rs c.args.turn r c.requires.within
    (sym (ap (λ x. x.value) (get_or_from_slice_get rs c.args.turn r r c.record_at-kept.ensures)))
    (subst None c.in_ok-holds.ensures.judges.spared (c.in_ok-ask_marked.ensures.quiet none)) h
