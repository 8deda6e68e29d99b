-- The unit that is called so is the one of the turn of its number.
use Rattle.std.proofs.Common.{◌≡◌, ◌≤◌, ℕ, zero, suc, ◌+◌, ◌==◌, arith, List, [], ◌∷◌, map, Bool, true, false, cond, Option, None, Some, refl, sym, ap, ◌∙◌}
use Rattle.std.specs.Prelude.{◌&&◌, length, slice_get}
use Rattle.std.specs.List.{find}
use Rattle.std.specs.Option.{option_map}
use Rattle.std.proofs.lemmas.Option.{slice_get-map, slice_get_past}
use Rattle.std.specs.declared.rc.Rc.{Rc}
use Rattle.std.specs.Global.{Global}
use Rattle.spec_stylesheet.specs.Place.{Place}
use Rattle.spec_stylesheet.specs.Sheet.{Alias, Unit as Piece}
use Rattle.spec_meaning.specs.Question as question
use Rattle.spec_meaning.specs.Question.{Answer, Gone, Resolved}
use Rattle.spec_run.specs.World.{unit_at, unit_by}
use Rattle.spec_node.specs.declared.node_ref.NodeRef.{NodeRef}
use Rattle.spec_node.specs.declared.node_ref.Part.TheVariants as part
use Rattle.spec_node.specs.Naming.{same_ref, same_part}
use Rattle.xt_questions.specs.View.{resolved_of}
use Rattle.xt_questions.specs.declared.answer.ResolvedUnit.{ResolvedUnit}
use Rattle.xt_world.specs.Numbered.{element_called}
use Rattle.xt_world.specs.Turned.{at_number, found_or, turn_found, turn_of_number}
use Rattle.xt_world.specs.Units.{called_among, resolved_by, resolved_among}
use Rattle.xt_world.specs.View.{unit_at_turn, unit_called, unit_held, unit_turned}
use Rattle.xt_world.specs.declared.stylesheet.Stylesheet.{Stylesheet}

-- what is at hand, if it passes
abbrev picked : {A : Type 0} → (A → Bool) → Option A → Option A
picked test None = None
picked test (Some x) = cond (test x) (Some x) None

none_found : {A : Type 0} (test : A → Bool) (xs : List A) → ((x : A) → test x ≡ false) → find test xs ≡ None
none_found test [] h = refl
none_found test (x ∷ xs) h = ap (λ b. cond b (Some x) (find test xs)) (h x) ∙ none_found test xs h

passed_by : {A : Type 0} (test : A → Bool) (x : A) (xs : List A) → test x ≡ false → find test (x ∷ xs) ≡ find test xs
passed_by test x xs h = ap (λ b. cond b (Some x) (find test xs)) h

and_false : (b : Bool) → (b && false) ≡ false
and_false true = refl
and_false false = refl

-- a unit whose place has this number; `fits` is what else is asked
abbrev sought : (Place → ℕ) → Bool → ℕ → Piece → Bool
sought numbers fits k u = (k == numbers u.site.place) && fits

-- where one of this number is not what is sought, nothing is
first_only : (numbers : Place → ℕ) (fits : Bool) (k : ℕ) (u : Piece) (us : List Piece) → (k == numbers u.site.place) ≡ true
    → find (sought numbers fits k) (u ∷ us) ≡ picked (sought numbers fits k) (Some u)
first_only numbers true k u us e =
    ap (λ b. cond (b && true) (Some u) (find (sought numbers true k) us)) e ∙ sym (ap (λ b. cond (b && true) (Some u) None) e)
first_only numbers false k u us e =
    none_found (sought numbers false k) (u ∷ us) (λ v. and_false (k == numbers v.site.place))
    ∙ sym (ap (λ b. cond b (Some u) None) (and_false (k == numbers u.site.place)))

at_least : (numbers : Place → ℕ) (turn k : ℕ) (us : List Piece) → turn ≤ turn_of_number numbers turn k us
at_least numbers turn k [] = omega arith
at_least numbers turn k (u ∷ us) = either (k == numbers u.site.place) (at_least numbers (turn + 1) k us)
  where
    either : (b : Bool) → turn + 1 ≤ turn_of_number numbers (turn + 1) k us → turn ≤ cond b turn (turn_of_number numbers (turn + 1) k us)
    either true later = omega arith
    either false later = omega (arith, later)

-- what is found is what is at hand at the turn of its number
found : (numbers : Place → ℕ) (fits : Bool) (k : ℕ) (us : List Piece) (turn j : ℕ) → turn_of_number numbers turn k us ≡ turn + j
    → find (sought numbers fits k) us ≡ picked (sought numbers fits k) (slice_get us j)
found numbers fits k [] turn j e = refl
found numbers fits k (u ∷ us) turn zero e = by (k == numbers u.site.place) refl e
  where
    by : (b : Bool) → (k == numbers u.site.place) ≡ b → cond b turn (turn_of_number numbers (turn + 1) k us) ≡ turn + 0
        → find (sought numbers fits k) (u ∷ us) ≡ picked (sought numbers fits k) (Some u)
    by true is e = first_only numbers fits k u us is
    by false is e = absurd (let later = at_least numbers (turn + 1) k us in omega (arith, later, e))
found numbers fits k (u ∷ us) turn (suc j) e =
    by (λ h. found numbers fits k us (turn + 1) j h) (k == numbers u.site.place) refl e
  where
    by : (turn_of_number numbers (turn + 1) k us ≡ turn + 1 + j → find (sought numbers fits k) us ≡ picked (sought numbers fits k) (slice_get us j))
        → (b : Bool) → (k == numbers u.site.place) ≡ b → cond b turn (turn_of_number numbers (turn + 1) k us) ≡ turn + suc j
        → find (sought numbers fits k) (u ∷ us) ≡ picked (sought numbers fits k) (slice_get us j)
    by rest true is e = absurd (omega (arith, e))
    by rest false is e = passed_by (sought numbers fits k) u us (ap (λ b. b && fits) is) ∙ rest (omega (arith, e))

-- ---- What is answered
abbrev called_so : NodeRef → Option NodeRef → Option (question.ResolvedUnit NodeRef) → Answer NodeRef
called_so element None unit = Gone
called_so element (Some name) None = Gone
called_so element (Some name) (Some unit) = cond (same_ref element name) (Resolved unit) Gone

told_as : (element : NodeRef) (name : Option NodeRef) (unit : Option (Rc ResolvedUnit Global))
    → unit_called element name unit ≡ called_so element name (option_map (λ (r : Rc ResolvedUnit Global). resolved_of r.value) unit)
told_as element None unit = refl
told_as element (Some name) None = refl
told_as element (Some name) (Some unit) = refl

at_turn : (numbers : Place → ℕ) (aliases : List Alias) (us : List Piece) (element : NodeRef) (o : Option Piece)
    → called_so element (option_map (λ (u : Piece). element_called numbers u.site.place) o) (option_map (λ (u : Piece). resolved_by numbers aliases us u) o)
    ≡ unit_by (element_called numbers) aliases us (picked (λ (u : Piece). same_ref element (element_called numbers u.site.place)) o)
at_turn numbers aliases us element None = refl
at_turn numbers aliases us element (Some u) = by (same_ref element (element_called numbers u.site.place))
  where
    by : (b : Bool) → cond b (Resolved (resolved_by numbers aliases us u)) Gone ≡ unit_by (element_called numbers) aliases us (cond b (Some u) None)
    by true = refl
    by false = refl

unit_there : (numbers : Place → ℕ) (aliases : List Alias) (us : List Piece) (s : Stylesheet) (element : NodeRef) (k : ℕ)
    → s.elements.items ≡ called_among numbers us
    → map (λ (r : Rc ResolvedUnit Global). resolved_of r.value) s.units.items ≡ resolved_among numbers aliases us us
    → unit_at_turn s element k
    ≡ unit_by (element_called numbers) aliases us (picked (λ (u : Piece). same_ref element (element_called numbers u.site.place)) (slice_get us k))
unit_there numbers aliases us s element k named are =
    let name = ap (λ (l : List NodeRef). slice_get l k) named ∙ slice_get-map (λ (u : Piece). element_called numbers u.site.place) us k in
    let unit =
    sym (slice_get-map (λ (r : Rc ResolvedUnit Global). resolved_of r.value) s.units.items k)
    ∙ ap (λ (l : List (question.ResolvedUnit NodeRef)). slice_get l k) are ∙ slice_get-map (λ (u : Piece). resolved_by numbers aliases us u) us k in
    told_as element (slice_get s.elements.items k) (slice_get s.units.items k) ∙ (λ i. called_so element (name i) (unit i))
    ∙ at_turn numbers aliases us element (slice_get us k)

-- where a number has no turn, it is as if its turn were behind all
turned : (numbers : Place → ℕ) (us : List Piece) (s : Stylesheet) (element : NodeRef) (o : Option ℕ) → s.elements.items ≡ called_among numbers us
    → unit_turned s element o ≡ unit_at_turn s element (found_or (length us) o)
turned numbers us s element None named =
    let name = ap (λ (l : List NodeRef). slice_get l (length us)) named ∙ slice_get-map (λ (u : Piece). element_called numbers u.site.place) us (length us)
    ∙ ap (option_map (λ (u : Piece). element_called numbers u.site.place)) (slice_get_past us (length us) (omega arith)) in
    sym (ap (λ (o : Option NodeRef). unit_called element o (slice_get s.units.items (length us))) name)
turned numbers us s element (Some turn) named = refl

pub unit_is : (numbers : Place → ℕ) (aliases : List Alias) (us : List Piece) (s : Stylesheet) (element : NodeRef) → s.elements.items ≡ called_among numbers us
    → map (λ (r : Rc ResolvedUnit Global). resolved_of r.value) s.units.items ≡ resolved_among numbers aliases us us
    → ((number : ℕ) → at_number (length us) s.turns.entries number ≡ turn_of_number numbers 0 number us)
    → unit_held s element ≡ unit_at (element_called numbers) same_ref aliases us element
unit_is numbers aliases us s element named are turns =
    let k = element.node.number in
    let turn = turn_of_number numbers 0 k us in
    turned numbers us s element (turn_found s.turns.entries k) named
    ∙ ap (unit_at_turn s element) (turns k)
    ∙ unit_there numbers aliases us s element turn named are
    ∙ ap (λ (o : Option Piece). unit_by (element_called numbers) aliases us o)
    (sym (found numbers (same_part element.part (part.Attribute 0)) k us 0 turn (omega arith)))
