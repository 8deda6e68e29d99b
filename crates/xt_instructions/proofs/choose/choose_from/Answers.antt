use Rattle.std.proofs.Common.{◌≡◌, ◌<◌, ◌+◌, refl, ap, length, get_or, drop, map, Vec, Global, arith, ◌∙◌}
use Rattle.spec_stylesheet.specs.Instruction.{branches}
use Rattle.xt_syntax.specs.declared.instr.Branch.{Branch}
use Rattle.xt_syntax.specs.InstrView.{branch_of}
use Rattle.xt_frames.specs.declared.frame.Frame.TheVariants as frames
use Rattle.xt_frames.specs.View.{here_of}
use Rattle.xt_frames.specs.Left.{left_in}
use Rattle.xt_frames.proofs.Lefts.{if_ok, if_both}
use Rattle.xt_instructions.proofs.Chosen.{branches_from, looked_start, looked_more, looked_into, looked_halts, looked_lacks, looked_end, found_for, needs_at}
use Rattle.xt_instructions.proofs.Views.{place_in}
use Rattle.xt_instructions.proofs.choose.choose_from.Goals as goal

pub loop-next-init : goal.loop-next-init
loop-next-init g c = record { looked = looked_start _ _ _ _ _; truth = refl; name = refl }

pub loop-next-preserved : goal.loop-next-preserved
loop-next-preserved g c =
    let truth = (g.W.World.state c.args.world.now).truth in
    let first = c.args.run.now in
    let b = c.args.branches in
    let bs = b.branches.value.items in
    let h = here_of b.here in
    let i = c.loop-next.next in
    let now = c.loop-next.run in
    let new = c.is_taken.new.run in
    let inv = c.loop-next.invariant in
    let x = c.index-list-next.result in
    let list : c.as_slice-list.result.now ≡ bs = rw c.deref.ensures at c.as_slice-list.ensures.value in
    let n = ap length list in
    let lt : i < length bs = omega arith in
    let is_x : x ≡ get_or bs i x = rw list at c.index-list-next.is in
    let found = found_for truth x (branches (map branch_of (drop (i + 1) bs))) first now new h h _ inv.truth refl c.in-Ok.ensures.found in
    let still = c.is_taken.ensures.still in
    record {
      looked = looked_more truth bs b.next i h first now new x inv.looked lt is_x (rw (c.in-Is.is, c.if-yes.false) at found) still;
      truth = c.is_taken.ensures.truth ∙ inv.truth;
      name = c.is_taken.ensures.name ∙ inv.name;
    }

pub returns-then-yes-clause-does : goal.returns-then-yes-clause-does
returns-then-yes-clause-does g c =
    let truth = (g.W.World.state c.args.world.now).truth in
    let first = c.args.run.now in
    let b = c.args.branches in
    let bs = b.branches.value.items in
    let h = here_of b.here in
    let i = c.loop-next.next in
    let now = c.loop-next.run in
    let new = c.is_taken.new.run in
    let inv = c.loop-next.invariant in
    let x = c.index-list-next.result in
    let list : c.as_slice-list.result.now ≡ bs = rw c.deref.ensures at c.as_slice-list.ensures.value in
    let n = ap length list in
    let lt : i < length bs = omega arith in
    let is_x : x ≡ get_or bs i x = rw list at c.index-list-next.is in
    let found = found_for truth x (branches (map branch_of (drop (i + 1) bs))) first now new h h _ inv.truth refl c.in-Ok.ensures.found in
    let still = c.is_taken.ensures.still in
    if_ok c.go_into_branch.result c.go_into_branch.ensures (λ next d.
    looked_into truth bs b.next i h first now new c.go_into_branch.new.run x next inv.looked lt is_x (rw (c.in-Is.is, c.if-yes.true) at found) still (d truth))

pub returns-in-Halts-clause-does : goal.returns-in-Halts-clause-does
returns-in-Halts-clause-does g c =
    let truth = (g.W.World.state c.args.world.now).truth in
    let first = c.args.run.now in
    let b = c.args.branches in
    let bs = b.branches.value.items in
    let h = here_of b.here in
    let i = c.loop-next.next in
    let now = c.loop-next.run in
    let new = c.is_taken.new.run in
    let inv = c.loop-next.invariant in
    let x = c.index-list-next.result in
    let list : c.as_slice-list.result.now ≡ bs = rw c.deref.ensures at c.as_slice-list.ensures.value in
    let n = ap length list in
    let lt : i < length bs = omega arith in
    let is_x : x ≡ get_or bs i x = rw list at c.index-list-next.is in
    let found = found_for truth x (branches (map branch_of (drop (i + 1) bs))) first now new h h _ inv.truth refl c.in-Ok.ensures.found in
    let still = c.is_taken.ensures.still in
    looked_halts truth bs b.next i h first now new x c.in-Halts.why inv.looked lt is_x (rw c.in-Halts.is at found) still

pub returns-in-Lacks-clause-does : goal.returns-in-Lacks-clause-does
returns-in-Lacks-clause-does g c =
    let truth = (g.W.World.state c.args.world.now).truth in
    let first = c.args.run.now in
    let b = c.args.branches in
    let bs = b.branches.value.items in
    let h = here_of b.here in
    let i = c.loop-next.next in
    let now = c.loop-next.run in
    let new = c.is_taken.new.run in
    let inv = c.loop-next.invariant in
    let x = c.index-list-next.result in
    let list : c.as_slice-list.result.now ≡ bs = rw c.deref.ensures at c.as_slice-list.ensures.value in
    let n = ap length list in
    let lt : i < length bs = omega arith in
    let is_x : x ≡ get_or bs i x = rw list at c.index-list-next.is in
    let found = found_for truth x (branches (map branch_of (drop (i + 1) bs))) first now new h h _ inv.truth refl c.in-Ok.ensures.found in
    let still = c.is_taken.ensures.still in
    let shared = c.in-Ok-share_branches.branches in
    let same : branches_from shared.value.items i h (left_in new) ≡ branches_from bs i h (left_in new) = ap (λ (v : Vec Branch Global). branches_from v.items i h (left_in new)) c.in-Ok-share_branches.ensures in
    if_both c.lack.result c.lack.ensures.needs c.lack.ensures.pushed (λ next e back.
    looked_lacks truth bs b.next i h first now new c.lack.new.run x (frames.Branches (record { branches = shared; next = i; here = b.here })) c.in-Lacks.name next inv.looked lt is_x (rw c.in-Lacks.is at found) still (needs_at (place_in x) e) back same)

pub returns-clause-does : goal.returns-clause-does
returns-clause-does g c =
    let b = c.args.branches in
    let bs = b.branches.value.items in
    let list : c.as_slice-list.result.now ≡ bs = rw c.deref.ensures at c.as_slice-list.ensures.value in
    let n = ap length list in
    looked_end (g.W.World.state c.args.world.now).truth bs b.next c.loop-next.next (here_of b.here) c.args.run.now c.loop-next.run c.loop-next.invariant.looked (omega arith)

pub returns-clause-truth : goal.returns-clause-truth
returns-clause-truth g c = c.loop-next.invariant.truth

pub returns-clause-name : goal.returns-clause-name
returns-clause-name g c = c.loop-next.invariant.name
