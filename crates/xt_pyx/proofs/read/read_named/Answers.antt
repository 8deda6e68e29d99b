use Rattle.std.proofs.Common.{sym, ap, ◌∙◌}
use Rattle.std.specs.Str.{chars}
use Rattle.spec_document.proofs.First.{before_first-none, after_first-none}
use Rattle.spec_document.specs.Pyx.{is_blank, unescaped}
use Rattle.xt_pyx.proofs.read.read_named.Goals as goal

pub returns-in_ok-from_str-in-None : goal.returns-in_ok-from_str-in-None
returns-in_ok-from_str-in-None c =
    let rest = chars c.args.rest.now in (
      c.in_ok-from_str-in-None.ensures ∙ sym (before_first-none is_blank rest c.in-None.ensures),
      c.new.ensures
          ∙ ap unescaped (sym (after_first-none is_blank rest c.in-None.ensures)),
    )
