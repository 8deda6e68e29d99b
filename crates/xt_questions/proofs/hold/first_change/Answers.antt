use Rattle.std.proofs.Common.{◌∙◌, subst, arith, add-one}
use Rattle.spec_meaning.specs.Question.{Question, Answer}
use Rattle.spec_node.specs.declared.node_ref.NodeRef.{NodeRef}
use Rattle.xt_questions.specs.View.{read_of}
use Rattle.xt_questions.specs.Change.{Stands, AllStand, Changes}
use Rattle.xt_questions.proofs.Standing.{stand_more, change_at, take-map}
use Rattle.xt_questions.proofs.hold.first_change.Goals as goal

pub returns-then-not-branch-clause-first : goal.returns-then-not-branch-clause-first
returns-then-not-branch-clause-first g c =
    let truth = (g.W.World.state c.args.world.now).truth in
    let reads = c.args.reads.now in
    let read = c.index-reads-index.result in
    let May : (Question NodeRef → Answer NodeRef) → Type 0 = λ t. Changes t (read_of read) in (
      subst (AllStand truth) (take-map read_of reads c.loop-index.index) c.loop-index.invariant.stand,
      change_at truth read_of reads c.loop-index.index read (omega arith) c.index-reads-index.is
          (subst May c.loop-index.invariant.truth (c.in_ok-stands.ensures.changes c.if-not-branch.true)),
    )

pub loop-index-preserved : goal.loop-index-preserved
loop-index-preserved g c =
    let truth = (g.W.World.state c.args.world.now).truth in
    let read = c.index-reads-index.result in
    let Does : (Question NodeRef → Answer NodeRef) → Type 0 = λ t. Stands t (read_of read) in
    let stands = subst Does c.loop-index.invariant.truth (c.in_ok-stands.ensures.stands c.if-not-branch.false) in
    record {
      stand = rw add-one (stand_more truth read_of c.args.reads.now c.loop-index.index read (omega arith) c.index-reads-index.is stands c.loop-index.invariant.stand);
      truth = c.stands.ensures.truth ∙ c.loop-index.invariant.truth;
      name = c.stands.ensures.name ∙ c.loop-index.invariant.name;
    }
