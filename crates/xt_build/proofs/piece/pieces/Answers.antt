use Rattle.std.proofs.Common.{◌≡◌, false, ◌≤◌, ◌<◌, ◌++◌, [], ◌∷◌, ◌∙◌, sym, ap, subst, arith, map, drop, length}
use Rattle.std.proofs.Common.{length-drop, List, ℕ}
use Rattle.std.proofs.lemmas.List.{drop-map, nil_from_length, length-map}
use Rattle.std.specs.Prelude.{◌==◌}
use Rattle.std.proofs.lemmas.Bool.{eqb-true}
use Rattle.spec_document.specs.declared.event.Event.{Event}
use Rattle.spec_document.specs.Balance.{rest_of}
use Rattle.xt_build.specs.Piece.{Piece}
use Rattle.xt_build.specs.Front.{events_first, pieces_first}
use Rattle.xt_build.specs.View.{located_of, pieces_of}
use Rattle.xt_build.specs.declared.read.Located.{Located}
use Rattle.xt_build.proofs.Fronts.{Stands, fronted-stands}
use Rattle.xt_build.proofs.Runs.{first-fronted, first-fits, first-some, pieces-whole, stands-all}
use Rattle.xt_build.proofs.piece.pieces.Goals as goal

fits : (xs : List Located) → events_first (map located_of xs) ≤ length xs
fits xs = let most = first-fits (map located_of xs) in omega (arith, most, length-map xs located_of)

not_empty : (xs : List Located) → (length xs == 0) ≡ false → 0 < events_first (map located_of xs)
not_empty [] e = absurd (cc)
not_empty (x ∷ xs) e = first-some (map located_of (x ∷ xs)) (omega arith)

pub loop-rest-init : goal.loop-rest-init
loop-rest-init c = λ w e. rw c.new-pieces.ensures.items (stands-all _ w e)

pub split_at-requires : goal.split_at-requires
split_at-requires c = let most = fits c.loop-rest.rest.now in let told = c.in_ok-taken.ensures {u = tt} in omega (arith, most, told.taken)

pub loop-rest-preserved : goal.loop-rest-preserved
loop-rest-preserved c w e =
    let xs = c.loop-rest.rest.now in
    let es = map located_of xs in
    let told = c.in_ok-taken.ensures {u = tt} in
    let behind = ap (map located_of) c.split_at.ensures.back ∙ sym (drop-map located_of c.in_ok-taken.taken xs) ∙ ap (λ n. drop n es) told.taken in
    let stands = fronted-stands (rest_of es) (rest_of (drop (events_first es) es)) (pieces_of c.loop-rest.pieces.items) (pieces_first es) w
    (first-fronted es) (c.loop-rest.invariant w e) in
    subst (λ (ps : List Piece). Stands (rest_of (map located_of c.split_at.result.1.now)) ps w) (sym told.pieces)
    (subst (λ (rest : List (ℕ × Event (List ℕ))). Stands (rest_of rest) (pieces_of c.loop-rest.pieces.items ++ pieces_first es) w) (sym behind) stands)

pub loop-rest-smaller : goal.loop-rest-smaller
loop-rest-smaller c =
    let xs = c.loop-rest.rest.now in
    let told = (c.in_ok-taken.ensures {u = tt}).taken in
    let some = not_empty xs (sym c.is_empty.ensures ∙ c.loop-rest-test.true) in
    let most = fits xs in
    let long = ap length c.split_at.ensures.back ∙ length-drop c.in_ok-taken.taken xs in
    omega (arith, long, told, some, most)

pub returns : goal.returns
returns c f e =
    let none : c.loop-rest.rest.now ≡ [] =
    nil_from_length _ (eqb-true (length c.loop-rest.rest.now) 0 (sym c.is_empty.ensures ∙ c.loop-rest-test.false)) in
    pieces-whole (pieces_of c.loop-rest.pieces.items) (map located_of c.args.events.now) f
    (λ w is. subst (λ (xs : List Located). Stands (rest_of (map located_of xs)) (pieces_of c.loop-rest.pieces.items) w) none (c.loop-rest.invariant w is))
    e
