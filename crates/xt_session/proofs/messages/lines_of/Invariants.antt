use Rattle.std.proofs.Common.{◌≡◌, ◌++◌, map, drop}
use Rattle.spec_document.specs.Pyx.{line_of}
use Rattle.spec_document.specs.declared.event.Event.TheVariants.{Data}
use Rattle.xt_session.proofs.messages.lines_of.Given as goal

-- the lines of the texts behind, and those of the texts ahead, are all
abbrev pub invariant-loop-text : goal.invariant-loop-text
invariant-loop-text l = l.lines.items ++ map (λ text. line_of (Data text)) (drop l.text-index l.texts) ≡ map (λ text. line_of (Data text)) l.texts
