use Rattle.std.proofs.Common.{refl, sym, subst}
use Rattle.spec_expression.specs.declared.code.DynCode.TheVariants.{NoCurrentRule}
use Rattle.spec_stylesheet.specs.Place.{Place}
use Rattle.spec_run.specs.Plan.{Stop}
use Rattle.spec_run.specs.Passes.{Passes, stays}
use Rattle.spec_run.specs.Content.{no_current_rule}
use Rattle.xt_syntax.specs.PartView.{place_of}
use Rattle.xt_progress.specs.View.{going_of}
use Rattle.xt_frames.specs.Left.{hand}
use Rattle.xt_instructions.proofs.imports.refuse.Goals as goal

pub returns : goal.returns
returns c ask h after k run =
    let g = going_of run.going in
    let P : Place → Type 0 = λ p. Passes ask (hand run) run.room (Stop (no_current_rule (place_of c.args.site.now.place))) g (Stop (record { code = NoCurrentRule; place = p })) g in
    record { so = record { last = g; passes = subst P (sym c.in_ok-place.ensures) stays; content = refl }; room = refl; supplies = refl }
