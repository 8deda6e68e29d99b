-- What siblings say: one after another.
use Rattle.std.proofs.Common.{◌≡◌, ℕ, ◌+◌, List, [], ◌∷◌, ◌++◌, Option, None, Some, Result, Ok, Err, refl, sym, ap, ◌∙◌, subst}
use Rattle.std.proofs.lemmas.List.{append-nil, append_assoc}
use Rattle.spec_document.specs.Forest as spec
use Rattle.spec_structure.specs.Elements.{content_of}
use Rattle.spec_structure.specs.Inside.{Role, OfXslt, OfExtension, OfOther, role_of}
use Rattle.spec_structure.specs.Structure.{Fault}
use Rattle.spec_structure.specs.declared.element.XsltElement.{XsltElement}
use Rattle.spec_compile.specs.Reading.{Reading, Done, Reads, reading_on, reading_then}
use Rattle.spec_compile.specs.Content.{Around, Below, around_of, children_among, site_of, standing_at, uses_of}
use Rattle.spec_compile.specs.Unit.{TopLevel, declaration_of, top_level_by, top_levels_among}
use Rattle.spec_compile.specs.Value.{Entry, attributes_of}
use Rattle.xt_attributes.specs.Answers.{IsRead}
use Rattle.xt_content.specs.Sibling.{alone}
use Rattle.xt_top_level.specs.Element.{declared_by, element_reading, xslt_in}
use Rattle.xt_top_level.proofs.Steps.{Continues, answers_from, answers_stop, on_ok, on_on, on_done}
use Rattle.xt_tree.specs.View.{Tree, forest}

abbrev pub Found : Type 0
Found = Result (List TopLevel) Fault

abbrev pub before_rest : Reading Found → List TopLevel → Reading Found
before_rest others done = reading_on others (λ rest. Done (Ok (done ++ rest)))

-- ---- One element

abbrev said_by : Around → List ℕ → XsltElement → List Entry → Below → List TopLevel
said_by inner here x v below = top_level_by (site_of inner here) (uses_of x v) below.outline (declaration_of x (site_of inner here) v below.children)

pub element_is : {L : Type 0} (around : Around) (path : List ℕ) (position : ℕ) (label : L) (name : List ℕ) (attributes : List spec.Written) (children : spec.Forest L)
    → element_reading around path position name attributes children ≡ top_levels_among around path position (spec.Node label (spec.Element name attributes) children spec.Empty)
unfolding reading_then
element_is {L = L} around path position label name attributes children = by (role_of inner.inside name)
  where
    inner : Around
    inner = around_of around name attributes

    here : List ℕ
    here = path ++ position ∷ []

    by : (r : Role) → declared_by inner here (xslt_in r) attributes children ≡ elim r [
      | OfXslt None ↦ Done (Ok [])
      | OfXslt (Some x) ↦
          reading_on (standing_at here (attributes_of inner.inside.scope x attributes))
          (λ v. reading_on (children_among inner (content_of x) here 1 children)
          (λ below. reading_on (top_levels_among {L = L} around path (position + 1) spec.Empty)
          (λ rest. Done (Ok (said_by inner here x v below ++ rest)))))
      | OfExtension ↦ Done (Ok [])
      | OfOther uri ↦ Done (Ok [])
    ]
    by (OfXslt None) = refl
    by (OfXslt (Some x)) = λ i. reading_on (standing_at here (attributes_of inner.inside.scope x attributes))
        (λ v. reading_on (children_among inner (content_of x) here 1 children) (λ below. Done (Ok (sym (append-nil (said_by inner here x v below)) i))))
    by OfExtension = refl
    by (OfOther uri) = refl

-- an element, and then the others
element_and_rest : {L : Type 0} (around : Around) (path : List ℕ) (position : ℕ) (label : L) (name : List ℕ) (attributes : List spec.Written) (children siblings : spec.Forest L)
    → top_levels_among around path position (spec.Node label (spec.Element name attributes) children siblings)
    ≡ reading_on (element_reading around path position name attributes children) (before_rest (top_levels_among around path (position + 1) siblings))
unfolding reading_then
element_and_rest around path position label name attributes children siblings = by (role_of inner.inside name)
  where
    inner : Around
    inner = around_of around name attributes

    here : List ℕ
    here = path ++ position ∷ []

    others : Reading Found
    others = top_levels_among around path (position + 1) siblings

    by : (r : Role) → elim r [
      | OfXslt None ↦ others
      | OfXslt (Some x) ↦
          reading_on (standing_at here (attributes_of inner.inside.scope x attributes))
          (λ v. reading_on (children_among inner (content_of x) here 1 children)
          (λ below. reading_on others
          (λ rest. Done (Ok (said_by inner here x v below ++ rest)))))
      | OfExtension ↦ others
      | OfOther uri ↦ others
    ] ≡ reading_on (declared_by inner here (xslt_in r) attributes children) (before_rest others)
    by (OfXslt None) = sym (on_done others)
    by (OfXslt (Some x)) =
        sym (on_on (standing_at here (attributes_of inner.inside.scope x attributes))
        (λ v. reading_on (children_among inner (content_of x) here 1 children) (λ below. Done (Ok (said_by inner here x v below)))) (before_rest others)
        ∙ (λ i. reading_on (standing_at here (attributes_of inner.inside.scope x attributes))
        (λ v. on_on (children_among inner (content_of x) here 1 children) (λ below. Done (Ok (said_by inner here x v below))) (before_rest others) i)))
    by OfExtension = sym (on_done others)
    by (OfOther uri) = sym (on_done others)

-- ---- The first of siblings, and then the others

pub first_and_rest : {L : Type 0} (around : Around) (path : List ℕ) (position : ℕ) (label : L) (content : spec.Content) (children siblings : spec.Forest L)
    → top_levels_among around path position (spec.Node label content children siblings)
    ≡ reading_on (top_levels_among around path position (spec.Node label content children spec.Empty)) (before_rest (top_levels_among around path (position + 1) siblings))
unfolding reading_then
first_and_rest around path position label (spec.Text text) children siblings = sym (on_done (top_levels_among around path (position + 1) siblings))
first_and_rest around path position label (spec.Comment text) children siblings = sym (on_done (top_levels_among around path (position + 1) siblings))
first_and_rest around path position label (spec.Instruction target text) children siblings = sym (on_done (top_levels_among around path (position + 1) siblings))
first_and_rest around path position label (spec.Element name attributes) children siblings =
    element_and_rest around path position label name attributes children siblings
    ∙ ap (λ r. reading_on r (before_rest (top_levels_among around path (position + 1) siblings))) (element_is around path position label name attributes children)

-- ---- The turn of a loop over siblings

pub turn : (around : Around) (path : List ℕ) (position : ℕ) (done first : List TopLevel) (tree : Tree) (trees : List Tree) {q : Reading Found}
    → Continues (before_rest (top_levels_among around path position (forest (tree ∷ trees))) done) q
    → Reads (top_levels_among around path position (alone tree)) (Ok first)
    → Continues (before_rest (top_levels_among around path (position + 1) (forest trees)) (done ++ first)) q
unfolding reading_then
turn around path position done first tree trees {q = q} c h = record { so = go }
  where
    others : Reading Found
    others = top_levels_among around path (position + 1) (forest trees)

    k : List TopLevel → Reading Found
    k rest = Done (Ok (done ++ rest))

    inner : reading_on (before_rest others first) k ≡ before_rest others (done ++ first)
    inner = on_on others (λ rest. Done (Ok (first ++ rest))) k ∙ (λ i. reading_on others (λ rest. Done (Ok (sym (append_assoc done first rest) i))))

    whole : reading_on (top_levels_among around path position (forest (tree ∷ trees))) k
        ≡ reading_on (top_levels_among around path position (alone tree)) (λ f. reading_on (before_rest others f) k)
    whole = ap (λ p. reading_on p k) (first_and_rest around path position tree.number tree.content tree.children (forest trees))
        ∙ on_on (top_levels_among around path position (alone tree)) (before_rest others) k

    go : (a : Found) → Reads (before_rest others (done ++ first)) a → Reads q a
    go a r =
        c.so a (subst (λ p. Reads p a) (sym whole) (on_ok (top_levels_among around path position (alone tree)) (λ f. reading_on (before_rest others f) k) first a h
        (subst (λ p. Reads p a) (sym inner) r)))

pub stops : {X Y F : Type 0} {why : F → Option Fault} {v : X → List TopLevel} {w : Y → List TopLevel} (around : Around) (path : List ℕ) (position : ℕ) (done : List TopLevel) (tree : Tree) (trees : List Tree) {q : Reading Found} {e : F}
    → Continues (before_rest (top_levels_among around path position (forest (tree ∷ trees))) done) q
    → IsRead {X = X} why v (top_levels_among around path position (alone tree)) (Err e)
    → IsRead {X = Y} why w q (Err e)
stops {X = X} {Y = Y} {why = why} {v = v} {w = w} around path position done tree trees {e = e} c h =
    answers_from c (subst (λ p. IsRead why w (before_rest p done) (Err e)) (sym (first_and_rest around path position tree.number tree.content tree.children (forest trees)))
    (answers_stop {X = Y} {Y = Y} {v = w} {w = w} _ (answers_stop {X = X} {Y = Y} {v = v} {w = w} _ h)))

pub begins : (p : Reading Found) → Continues (before_rest p []) p
begins p = record { so = λ a h. subst (λ r. Reads r a) (on_done p) h }

pub ends : {X F : Type 0} {why : F → Option Fault} {v : X → List TopLevel} (around : Around) (path : List ℕ) (position : ℕ) (done : List TopLevel) {q : Reading Found} {x : X}
    → v x ≡ done
    → Continues (before_rest (top_levels_among around path position (forest [])) done) q
    → IsRead {F = F} why v q (Ok x)
unfolding reading_then
ends around path position done h c = record { so = c.so _ (ap Ok (append-nil done ∙ sym h)) }
