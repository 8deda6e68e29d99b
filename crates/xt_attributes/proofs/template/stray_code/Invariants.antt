use Rattle.std.proofs.Common.{zero, length}
use denote.Text.{Utf8}
use denote.Shadow.{shadow}
use Rattle.std.specs.Str.{chars}
use Rattle.spec_static.specs.TemplateGrammar.{pieces}
use Rattle.spec_compile.specs.Value.{enclosed_in, stray_code}
use Rattle.xt_attributes.specs.Answers.{Continues}
use Rattle.xt_attributes.proofs.template.stray_code.Given as goal

abbrev pub invariant-loop-found : goal.invariant-loop-found
invariant-loop-found l =
    shadow (Utf8 l.rest) × Continues (stray_code l.scope (enclosed_in (pieces zero (chars l.rest)))) (stray_code l.scope (enclosed_in (pieces zero (chars l.text))))

abbrev pub decreases-loop-found : goal.decreases-loop-found
decreases-loop-found l = length (chars l.rest)
