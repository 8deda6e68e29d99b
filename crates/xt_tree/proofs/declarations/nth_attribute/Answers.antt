use Rattle.std.proofs.Common.{◌≡◌, ◌-◌, Option, Some, None, map, refl, sym, ap, ◌∙◌}
use Rattle.std.specs.List.{slice_get}
use Rattle.std.specs.Option.{option_map}
use Rattle.std.specs.Borrow.{Bor}
use Rattle.std.proofs.lemmas.Option.{slice_get-map, slice_get_past}
use Rattle.xt_tree.specs.declared.node.Written.{Written}
use Rattle.spec_document.specs.Place.{at_number}
use Rattle.xt_tree.specs.Indexed.{skipped}
use Rattle.xt_tree.specs.View.{written_of}
use Rattle.xt_tree.proofs.Declared.{kept, nth_found, none_at_zero}
use Rattle.xt_tree.proofs.declarations.nth_attribute.Goals as goal

twice : (o : Option (Bor Written)) → option_map (λ a. written_of a.now) o ≡ option_map written_of (option_map (λ a. a.now) o)
twice None = refl
twice (Some a) = refl

pub returns-in-Some : goal.returns-in-Some
returns-in-Some c =
    let all = map written_of c.args.attributes.now in
    twice c.written_at.result ∙ ap (option_map written_of) c.written_at.ensures
    ∙ sym (slice_get-map written_of c.args.attributes.now c.in-Some.place) ∙ ap (slice_get all) c.in-Some.ensures
    ∙ ap (λ ds. slice_get all (skipped ds (c.args.number - 1))) c.requires ∙ nth_found c.args.number all c.if-number-eq0.false

pub returns-in-None : goal.returns-in-None
returns-in-None c =
    let all = map written_of c.args.attributes.now in
    let place = skipped c.args.declarations.now (c.args.number - 1) in
    sym (slice_get-map written_of c.args.attributes.now place
    ∙ ap (option_map written_of) (slice_get_past c.args.attributes.now place c.in-None.ensures))
    ∙ ap (λ ds. slice_get all (skipped ds (c.args.number - 1))) c.requires ∙ nth_found c.args.number all c.if-number-eq0.false

pub returns-then-number-eq0 : goal.returns-then-number-eq0
returns-then-number-eq0 c =
    let all = map written_of c.args.attributes.now in
    none_at_zero (kept all) ∙ ap (λ n. at_number n (kept all)) (sym c.if-number-eq0.true)
