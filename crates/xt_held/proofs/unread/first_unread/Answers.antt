use Rattle.std.proofs.Common.{List, ℕ, ap, sym, ◌∙◌}
use Rattle.std.specs.Str.{is_utf8}
use Rattle.xt_held.proofs.FirstUnread.{past, met}
use Rattle.xt_held.proofs.unread.first_unread.Goals as goal

pub loop-i-preserved : goal.loop-i-preserved
loop-i-preserved c =
    past c.loop-i.i c.index-lines-i.result c.args.lines.now c.loop-i-test.true c.index-lines-i.is
    (ap (λ (bytes : List ℕ). is_utf8 bytes) (sym c.as_bytes.ensures) ∙ sym c.is_text.ensures ∙ c.if-not-is_text.false) c.loop-i.invariant

pub returns-then-not-is_text : goal.returns-then-not-is_text
returns-then-not-is_text c =
    met c.loop-i.i c.index-lines-i.result c.args.lines.now c.loop-i-test.true c.index-lines-i.is
    (ap (λ (bytes : List ℕ). is_utf8 bytes) (sym c.as_bytes.ensures) ∙ sym c.is_text.ensures ∙ c.if-not-is_text.true) c.loop-i.invariant
