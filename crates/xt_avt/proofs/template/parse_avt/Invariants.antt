use Rattle.std.proofs.Common.{zero, length, List, Result}
use denote.Text.{Utf8}
use denote.Shadow.{shadow}
use Rattle.std.specs.Str.{chars}
use Rattle.spec_stylesheet.specs.ValueTemplate.{AvtPart}
use Rattle.spec_static.specs.declared.refusal.TemplateRefusal.{TemplateRefusal}
use Rattle.spec_static.specs.TemplateGrammar.{GiveParts, pieces}
use Rattle.xt_avt.specs.Reading.{Comes}
use Rattle.xt_avt.proofs.template.parse_avt.Given as goal

abbrev pub invariant-loop-found : goal.invariant-loop-found
invariant-loop-found l =
    shadow (Utf8 l.rest)
    × ((r : Result (List AvtPart) TemplateRefusal) → Comes l.scope l.parts (pieces zero (chars l.rest)) r → GiveParts l.scope (pieces zero (chars l.text)) r)

abbrev pub decreases-loop-found : goal.decreases-loop-found
decreases-loop-found l = length (chars l.rest)
