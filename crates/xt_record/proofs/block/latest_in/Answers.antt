use Rattle.std.proofs.Common.{◌-◌, ◌∙◌, Some, true≢false, sym, ap, arith}
use Rattle.xt_record.specs.Listed.{key_at, keys_of}
use Rattle.xt_record.specs.declared.key.Key.{Key}
use Rattle.xt_record.proofs.Chaining.{pass_found, pass_one, some_is}
use Rattle.xt_record.proofs.Pieced.{get_map, got, map_length}
use Rattle.xt_record.proofs.block.latest_in.Goals as goal

pub returns-then-has_key-clause-latest : goal.returns-then-has_key-clause-latest
returns-then-has_key-clause-latest c =
    let es = c.args.entries.now in
    let end = c.loop-end.end in
    let e = c.index-entries-at.result in
    let here = get_map key_at es (end - 1) e (got es (end - 1) e (omega (arith, c.loop-end.invariant.count, map_length key_at es)) c.index-entries-at.is) in
    pass_found (keys_of es) c.args.key c.args.turn end (end - 1) (omega arith) (here ∙ ap (λ (k : Key). Some k) (c.has_key.ensures.0 c.if-has_key.true))
    c.loop-end.invariant

pub loop-end-preserved : goal.loop-end-preserved
loop-end-preserved c =
    let es = c.args.entries.now in
    let end = c.loop-end.end in
    let e = c.index-entries-at.result in
    let here = get_map key_at es (end - 1) e (got es (end - 1) e (omega (arith, c.loop-end.invariant.count, map_length key_at es)) c.index-entries-at.is) in
    pass_one (keys_of es) c.args.key c.args.turn end (end - 1) (omega arith)
    (λ there. absurd (true≢false (sym (c.has_key.ensures.1 (some_is (sym here ∙ there))) ∙ c.if-has_key.false))) c.loop-end.invariant
