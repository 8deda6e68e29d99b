use Rattle.std.proofs.Common.{◌≡◌, ap, string_bytes, ◌∙◌}
use Rattle.std.specs.Str.{chars}
use Rattle.xt_world.specs.ParameterView.{values_in, with_value}
use Rattle.xt_world.proofs.Keys.{values-insert}
use Rattle.xt_world.proofs.parameters.Parameters.put_copy.Goals as goal

pub returns : goal.returns
returns c =
    let es = c.args.self.now.values.entries in
    let name : chars (string_bytes c.in_ok-key.key) ≡ chars (string_bytes c.args.name.now) = ap chars (c.in_ok-key.ensures.ok ∙ c.as_str.ensures.value) in
    ap values_in c.in_ok-insert.ensures.entries ∙ values-insert c.in_ok-key.key c.in_ok-value.value es
    ∙ (λ i. with_value (name i) (c.in_ok-value.ensures i) (values_in es))
