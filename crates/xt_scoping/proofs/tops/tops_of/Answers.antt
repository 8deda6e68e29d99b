use Rattle.std.proofs.Common.{◌≡◌, ap, sym, ◌∙◌, length}
use Rattle.std.proofs.lemmas.List.{length-map}
use Rattle.spec_compile.specs.Scoping.{used_by}
use Rattle.xt_scoping.specs.Reach.{sets_at}
use Rattle.xt_scoping.proofs.Telling.{told}
use Rattle.xt_scoping.proofs.tops.tops_of.Goals as goal

pub returns : goal.returns
returns c =
    let rounds : c.len-rounds.result ≡ length (sets_at c.in_ok-sets.sets.items)
    = c.len-rounds.ensures ∙ c.in_ok-sets.sets.ok.0 ∙ sym (length-map c.in_ok-sets.sets.items _) in
    told _ c.args.ranked.now c.in_ok-known.ensures.globals c.in_ok-known.ensures.templates c.in_ok-known.ensures.sets
    (sets_at c.in_ok-sets.sets.items) c.in_ok-sets.ensures
    (λ n. c.in_ok-graph.ensures n ∙ ap (λ refs. used_by (sets_at refs) n) c.as_slice.ensures.value) rounds
