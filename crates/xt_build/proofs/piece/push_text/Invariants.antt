use Rattle.std.proofs.Common.{◌≡◌, ◌+◌, map, drop}
use Rattle.xt_build.specs.Front.{data_first, text_first, with_data}
use Rattle.xt_build.specs.View.{located_of}
use Rattle.xt_build.proofs.piece.push_text.Given as goal

abbrev pub invariant-loop-located : goal.invariant-loop-located
invariant-loop-located l = record {
  counted : l.taken ≡ l.located-index;
  taken : l.taken + data_first (map located_of (drop l.located-index l.events)) ≡ data_first (map located_of l.events);
  text : with_data l.line l.joined (text_first (map located_of (drop l.located-index l.events))) ≡ text_first (map located_of l.events);
}
