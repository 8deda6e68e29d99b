use Rattle.std.proofs.Common.{◌≡◌, Option, None, map, ap, sym, subst}
use Rattle.std.specs.Option.{option_map}
use Rattle.spec_expression.specs.Syntax.{Expr}
use Rattle.spec_stylesheet.specs.Instruction.{instrs}
use Rattle.spec_run.specs.Plan.{Plan}
use Rattle.spec_run.specs.Content.{is_empty, valued}
use Rattle.xt_syntax.specs.View.{expr_of}
use Rattle.xt_syntax.specs.PartView.{site_of}
use Rattle.xt_syntax.specs.InstrView.{instr_of}
use Rattle.spec_node.specs.declared.node_ref.NodeRef.{NodeRef}
use Rattle.xt_frames.specs.View.{here_of, inside, left_with}
use Rattle.xt_frames.specs.Left.{left_in, Performs}
use Rattle.xt_frames.proofs.Lefts.{if_ok}
use Rattle.xt_frames.proofs.Performs.{does_performs}
use Rattle.xt_frames.proofs.held.hold.Goals as goal

pub returns-in-None-clause-does : goal.returns-in-None-clause-does
returns-in-None-clause-does g c =
    let truth = (g.W.World.state c.args.world.now).truth in
    let old = c.args.run.now in
    let is = instrs (map instr_of c.args.content.now.value.items) in
    let plan : Option Expr → Plan NodeRef = λ select.
    valued (site_of c.args.site.now) (here_of c.args.here.now) select (is_empty is) (inside (site_of c.args.site.now).place is (here_of c.args.here.now))
    (λ v. left_with c.args.holder v (left_in old)) in
    let none : option_map expr_of c.args.select.now ≡ None = ap (λ s. option_map expr_of s) c.in-None.is in
    if_ok c.hold_content.result c.hold_content.ensures (λ next h.
    subst (λ (s : Option Expr). Performs truth c.args.back (plan s) old c.hold_content.new.run next) (sym none)
    (does_performs truth (plan None) c.args.back old c.hold_content.new.run next (h truth)))
