use Rattle.std.proofs.Common.{◌≡◌, ◌++◌, [], length, ap, sym, ◌∙◌, arith}
use Rattle.std.specs.List.{flat_map}
use Rattle.std.proofs.lemmas.Bool.Decides.{nat_tests}
use Rattle.std.proofs.lemmas.List.{nil_from_length}
use Rattle.xt_scoping.specs.Distinct.{with_names}
use Rattle.xt_scoping.specs.Reach.{names_at, used_in}
use Rattle.xt_scoping.proofs.Reaching.{begun, next_round, found_all}
use Rattle.xt_scoping.proofs.reach.leads_back.Goals as goal

pub loop-round-init : goal.loop-round-init
loop-round-init c =
    begun _ _ _ _ _ _ (omega arith)
    (c.in_ok-see.ensures.seen ∙ ap (λ seen. with_names seen c.as_slice.result.now) c.new-seen.ensures ∙ ap (with_names []) c.as_slice.ensures.value)
    (c.in_ok-see.ensures.new [] (c.new-seen.ensures ∙ sym (ap (λ refs. [] ++ names_at refs) c.new-new.ensures.items)))

pub returns-then-is_empty : goal.returns-then-is_empty
returns-then-is_empty c =
    let none : length c.loop-round.new.items ≡ 0 = grind (arith, nat_tests, c.loop-round.new.ok.0, c.is_empty.ensures, c.if-is_empty.true) in
    c.has.ensures ∙ found_all _ _ _ _ _ _ c.loop-round.invariant (ap names_at (nil_from_length c.loop-round.new.items none)) c.args.set.now.name

pub loop-round-preserved : goal.loop-round-preserved
loop-round-preserved c =
    next_round _ _ _ _ _ c.loop-round.seen (names_at c.loop-round.new.items) _ _ (omega arith) c.loop-round.invariant
    (c.in_ok-new.ensures.seen
    ∙ ap (λ refs. with_names c.loop-round.seen (flat_map (used_in c.args.graph.now) (names_at refs))) c.as_slice-in-loop-round.ensures.value)
    c.in_ok-new.ensures.new
