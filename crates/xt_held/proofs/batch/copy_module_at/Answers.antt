use Rattle.std.proofs.Common.{sym, drop, ◌+◌}
use Rattle.std.proofs.lemmas.Result.{on_ok_weaker}
use Rattle.xt_held.proofs.Batches.{copied_next}
use Rattle.xt_held.proofs.batch.copy_module_at.Goals as goal

pub returns-in-Some : goal.returns-in-Some
returns-in-Some c =
    let es = c.args.modules.now.entries in
    on_ok_weaker c.put_copy.result
    (λ (put : _) before. copied_next es c.put_copy.new.copy.entries c.args.index c.in-Some.name.now c.in-Some.document.now (sym (c.in-Some.ensures {u = tt}).entry)
    (put before)) (c.put_copy.ensures (drop (c.args.index + 1) es))
