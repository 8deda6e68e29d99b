use Rattle.std.proofs.Common.{◌≡◌, length, drop}
use Rattle.std.specs.List.{slice_split}
use Rattle.spec_session.specs.Request.{is_slash}
use Rattle.xt_wire.proofs.Paths.{positions, behind}
use Rattle.xt_wire.proofs.path.read_positions.Given as goal

abbrev pub invariant-loop-part : goal.invariant-loop-part
invariant-loop-part l =
    positions (slice_split is_slash l.text) ≡ behind l.path (positions (drop (length l.yielded) (slice_split is_slash l.text)))
