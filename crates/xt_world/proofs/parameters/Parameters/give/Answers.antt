use Rattle.std.proofs.Common.{◌≡◌, ap, string_bytes, sym, ◌∙◌}
use Rattle.std.specs.Str.{chars}
use Rattle.xt_world.specs.ParameterView.{values_in, with_value}
use Rattle.xt_world.proofs.Keys.{values-insert}
use Rattle.xt_world.proofs.parameters.Parameters.give.Goals as goal

pub returns-clause-given : goal.returns-clause-given
returns-clause-given c =
    let es = c.args.self.now.values.entries in
    let name : chars (string_bytes c.in_ok-key.key) ≡ c.args.name.now = ap chars c.in_ok-key.ensures.ok ∙ c.as_str.ensures.characters in
    ap values_in c.in_ok-before.ensures.entries ∙ values-insert c.in_ok-key.key c.in_ok-value.value es
    ∙ (λ i. with_value (name i) (c.in_ok-value.ensures i) (values_in es))

pub returns-clause-before : goal.returns-clause-before
returns-clause-before c = record {
  key = c.in_ok-key.key;
  given = c.in_ok-value.value;
  name = c.in_ok-again.ensures.ok ∙ c.as_str-2.ensures.bytes ∙ sym c.as_str.ensures.bytes ∙ sym c.in_ok-key.ensures.ok;
  value = c.in_ok-before.ensures.old;
  entries = c.in_ok-before.ensures.entries;
}
