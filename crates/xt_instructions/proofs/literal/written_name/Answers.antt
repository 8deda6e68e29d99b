use Rattle.std.proofs.Common.{sym, ◌∙◌}
use Rattle.xt_instructions.proofs.Written.{without_prefix, prefixed}
use Rattle.xt_frames.proofs.Lefts.{if_ok}
use Rattle.xt_instructions.proofs.literal.written_name.Goals as goal

pub returns-then-is_empty : goal.returns-then-is_empty
returns-then-is_empty c = if_ok c.copy.result c.copy.ensures (λ t h. h ∙ sym (without_prefix c.args.prefix.now c.args.local.now (sym c.is_empty.ensures ∙ c.if-is_empty.true)))

pub returns : goal.returns
returns c =
    let p = c.args.prefix.now in
    let l = c.args.local.now in
    let all = rw (c.in_ok-push.ensures.ok, c.in_ok-name.ensures, c.as_str.ensures.characters) at c.in_ok-push_str.ensures.ok in
    all ∙ sym (prefixed p l (sym c.is_empty.ensures ∙ c.if-is_empty.false))
