use Rattle.std.proofs.Common.{ap, ◌∙◌}
use Rattle.xt_syntax.specs.PartView.{place_of, site_of}
use Rattle.xt_frames.specs.View.{here_of}
use Rattle.xt_frames.proofs.Lefts.{if_ok}
use Rattle.xt_instructions.proofs.Ruled.{none_is_current, one_is_current}
use Rattle.xt_instructions.proofs.imports.current_rule.Goals as goal

pub returns-then-not-here-clause-passes : goal.returns-then-not-here-clause-passes
returns-then-not-here-clause-passes c ask after =
    none_is_current c.args.run.now (site_of c.args.site.now) (here_of c.args.here.now) after c.if-not-here.true

pub returns-clause-passes : goal.returns-clause-passes
returns-clause-passes c =
    let placed = ap place_of c.in_ok-place.ensures.ok ∙ c.in_ok-copied.ensures in
    if_ok c.copy_rule_if-2.result c.copy_rule_if-2.ensures (λ rule same ask after.
    one_is_current c.args.run.now (site_of c.args.site.now) (here_of c.args.here.now) after _ c.if-not-here.false same (rw (placed, c.in_ok-seen.ensures) at c.in_ok-note.ensures))
