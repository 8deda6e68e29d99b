use Rattle.std.proofs.Common.{◌≡◌, ◌++◌, drop}
use Rattle.std.specs.List.{flat_map}
use Rattle.spec_session.specs.Reply.{with_newline}
use Rattle.xt_wire.proofs.write.shown_lines.Given as goal

-- what is written, and what is to be written of the rest, are all
abbrev pub invariant-loop-line : goal.invariant-loop-line
invariant-loop-line l = l.text ++ flat_map with_newline (drop l.line-index l.lines) ≡ flat_map with_newline l.lines
