use Rattle.std.proofs.Common.{◌∙◌, Some, ap, codes, refl}
use Rattle.std.specs.Option.{option_and_then}
use Rattle.std.specs.Str.{chars}
use Rattle.spec_compile.specs.Unit.{ATemplate, priority_in}
use Rattle.spec_compile.specs.Value.{name_in, pattern_in}
use Rattle.xt_top_level.specs.Declaring.{made_template}
use Rattle.xt_top_level.proofs.declaration.template.Goals as goal

pub returns : goal.returns
unfolding chars
returns c =
    let past_name = c.take_name-name.ensures.others in
    let past_match = c.take_pattern-pattern.ensures.others in
    let past_mode = c.take_name-mode.ensures.others in
    let name = c.take_name-name.ensures.taken in
    let pattern = c.take_pattern-pattern.ensures.taken ∙ ap (option_and_then pattern_in) (past_name (codes "match") refl) in
    let mode = c.take_name-mode.ensures.taken ∙ ap (option_and_then name_in) (past_match (codes "mode") refl ∙ past_name (codes "mode") refl) in
    let priority = c.into_priority-priority.ensures
    ∙ ap (option_and_then priority_in) (c.take.ensures.taken ∙ past_mode (codes "priority") refl ∙ past_match (codes "priority") refl ∙ past_name (codes "priority") refl) in
    let template = c.in_ok-template.ensures ∙ (λ i. made_template (name i) (c.in_ok-parts.ensures i)) in
    λ i. Some (ATemplate (template i) (pattern i) (priority i) (mode i))
