use Rattle.std.proofs.Common.{◌≡◌, ◌++◌, ◌≤◌, take, length}
use Rattle.xt_io.proofs.head.Front.extend.Given as goal

abbrev pub invariant-loop-byte : goal.invariant-loop-byte
invariant-loop-byte l =
    (l.self-inside.count ≤ 8) × (length l.self-inside.bytes ≡ 8)
    × (take l.self-inside.count l.self-inside.bytes ≡ take 8 (l.fn.self ++ take l.byte-index l.more))
