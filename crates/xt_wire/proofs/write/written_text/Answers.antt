use Rattle.std.proofs.Common.{◌++◌, ℕ, List, refl, ap, ◌∙◌}
use Rattle.std.specs.Prelude.{codes, length}
use Rattle.xt_wire.proofs.Written.{begun, text_written}
use Rattle.xt_wire.proofs.write.written_text.Goals as goal

pub returns : goal.returns
returns c =
    text_written c.in_ok-written.written c.push_number.new.text c.push.new.self c.push-2.new.self c.push_str.new.self c.args.text.now _
    (begun c.in_ok-written.written (codes "text ") refl c.in_ok-written.ensures) (ap length c.as_str.ensures.bytes) c.in_ok-push_number.ensures
    c.in_ok-push.ensures.ok (c.in_ok-push_str.ensures.ok ∙ ap (λ (ts : List ℕ). c.push.new.self ++ ts) c.as_str-2.ensures.characters) c.in_ok-push-2.ensures.ok
