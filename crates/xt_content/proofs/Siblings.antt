-- What siblings are: one after another.
use Rattle.std.proofs.Common.{◌≡◌, ℕ, ◌+◌, ◌-◌, List, [], ◌∷◌, ◌++◌, append_assoc, append-nil, length, take, drop, None, Some, Result, Ok, Err, refl, sym, ap, ◌∙◌, subst}
use Rattle.spec_document.specs.Forest as spec
use Rattle.spec_structure.specs.declared.content.ContentKind.{ContentKind}
use Rattle.spec_structure.specs.declared.content.ContentKind.TheVariants as content
use Rattle.spec_structure.specs.Elements.{content_of, after_element, after_other}
use Rattle.spec_structure.specs.Inside.{Role, OfXslt, OfExtension, OfOther, role_of}
use Rattle.spec_structure.specs.Structure.{Fault, after_role}
use Rattle.spec_stylesheet.specs.Instruction as made
use Rattle.spec_compile.specs.Reading.{Reading, Done, Reads, reading_on, reading_then}
use Rattle.spec_compile.specs.Value.{attributes_of, xslt_attributes_of}
use Rattle.spec_compile.specs.Content.{Around, Below, Outline, Nothing, AnElement, around_of, bound_by, child_of, children_among, extension_rows, instruction_by, nothing_below, site_of, standing_at, tag_of, tag_uses, text_among, uses_of, with, with_element}
use Rattle.xt_content.specs.Visit.{Met, OfLanguage, ALiteral, Skipped, Visited, before, content_by, element_by, element_visited, followed, held, held_by, met_by, visited}
use Rattle.xt_content.specs.View.{IsAnswer}
use Rattle.xt_content.specs.declared.fault.ContentFault.{ContentFault}
use Rattle.xt_content.proofs.Steps.{Continues, on_ok, on_on, on_done, answers_as, answers_from, answers_give, answers_stop, answers_then}
use Rattle.std.proofs.lemmas.List.{take_rest}
use Rattle.std.specs.declared.alloc.Global.{Global}
use Rattle.std.specs.declared.rc.Rc.{Rc}
use Rattle.xt_tree.specs.View.{Tree, forest, forest_of}
use Rattle.xt_tree.specs.declared.node.Node.{Node}

-- ---- Outlines, and what stands below, one after another

pub followed_nothing : (o : Outline) → followed o Nothing ≡ o
followed_nothing Nothing = refl
followed_nothing (AnElement site uses binds children siblings) = ap (AnElement site uses binds children) (followed_nothing siblings)

pub followed_followed : (o p q : Outline) → followed (followed o p) q ≡ followed o (followed p q)
followed_followed Nothing p q = refl
followed_followed (AnElement site uses binds children siblings) p q = ap (AnElement site uses binds children) (followed_followed siblings p q)

pub before_nothing : (b : Below) → before b nothing_below ≡ b
before_nothing b = λ i. record { children = append-nil b.children i; outline = followed_nothing b.outline i }

pub before_before : (b c d : Below) → before (before b c) d ≡ before b (before c d)
before_before b c d = λ i. record { children = append_assoc b.children c.children d.children i; outline = followed_followed b.outline c.outline d.outline i }

-- ---- The first of siblings, and then the others

abbrev pub before_rest : Reading (Result Below Fault) → Below → Reading (Result Below Fault)
before_rest others done = reading_on others (λ rest. Done (Ok (before done rest)))

abbrev pub others_after : {L : Type 0} → Around → List ℕ → ℕ → spec.Forest L → Visited → Reading (Result Below Fault)
others_after around path position siblings v = before_rest (children_among around v.next path (position + 1) siblings) v.below

-- what was met, and then what goes on with it
fused : {A B C R : Type 0} (r : Reading (Result A R)) (m : A → B) (g : B → Reading (Result C R)) {D : Type 0} (k : C → Reading (Result D R))
    → reading_on (reading_on (reading_on r (λ v. Done (Ok (m v)))) g) k ≡ reading_on r (λ v. reading_on (g (m v)) k)
unfolding reading_then
fused r m g k = on_on (reading_on r (λ v. Done (Ok (m v)))) g k ∙ on_on r (λ v. Done (Ok (m v))) (λ met. reading_on (g met) k)

inner_fused : {A B C D R : Type 0} (c : Reading (Result A R)) (part : A → B) (z : B → C) (k : C → Reading (Result D R))
    → reading_on (reading_on (reading_on c (λ b. Done (Ok (part b)))) (λ b. Done (Ok (z b)))) k ≡ reading_on c (λ b. k (z (part b)))
unfolding reading_then
inner_fused c part z k = fused c part (λ b. Done (Ok (z b))) k

pub first_and_rest : {L : Type 0} (around : Around) (kind : ContentKind) (path : List ℕ) (position : ℕ) (label : L) (content : spec.Content) (children siblings : spec.Forest L)
    → children_among around kind path position (spec.Node label content children siblings)
    ≡ reading_on (visited around kind path position siblings content children) (others_after around path position siblings)
unfolding reading_then
first_and_rest around kind path position label (spec.Text text) children siblings = refl
first_and_rest around kind path position label (spec.Comment text) children siblings = sym (on_done (children_among around kind path (position + 1) siblings))
first_and_rest around kind path position label (spec.Instruction target text) children siblings = sym (on_done (children_among around kind path (position + 1) siblings))
first_and_rest around kind path position label (spec.Element name attributes) children siblings =
    by (role_of (around_of around name attributes).inside name)
  where
    inner : Around
    inner = around_of around name attributes

    here : List ℕ
    here = path ++ position ∷ []

    k : Visited → Reading (Result Below Fault)
    k = others_after around path position siblings

    by : (role : Role) → (elim role [
      | OfXslt None ↦ children_among around kind path (position + 1) siblings
      | OfXslt (Some x) ↦
          reading_on (standing_at here (attributes_of inner.inside.scope x attributes))
          (λ v. reading_on (children_among inner (content_of x) here 1 children)
          (λ below. reading_on (children_among around (after_element kind x) path (position + 1) siblings)
          (λ rest. Done (Ok (with_element (child_of x (site_of inner here) v (text_among children) below.children) (site_of inner here) (uses_of x v) (bound_by x v)
          below rest)))))
      | OfExtension ↦
          reading_on (standing_at here (xslt_attributes_of inner.inside.scope extension_rows attributes))
          (λ v. children_among around (after_other kind) path (position + 1) siblings)
      | OfOther uri ↦
          reading_on (standing_at here (tag_of inner name attributes))
          (λ tag. reading_on (children_among inner content.Body here 1 children)
          (λ below. reading_on (children_among around (after_other kind) path (position + 1) siblings)
          (λ rest. Done (Ok (with_element (instruction_by (site_of inner here) (Some (with (made.Literal tag) below.children))) (site_of inner here) (tag_uses tag) None
          below rest)))))
    ]) ≡ reading_on (element_visited inner kind here name attributes children role) k
    by (OfXslt None) = sym (on_done (children_among around kind path (position + 1) siblings))
    by (OfXslt (Some x)) =
        sym (fused (standing_at here (attributes_of inner.inside.scope x attributes)) (OfLanguage x)
        (λ met. reading_on (held inner here met children) (λ below. Done (Ok (record { below = below; next = after_role kind (OfXslt (Some x)) })))) k
        ∙ (λ i. reading_on (standing_at here (attributes_of inner.inside.scope x attributes))
        (λ v. inner_fused (children_among inner (content_of x) here 1 children) (element_by inner here (OfLanguage x v) (text_among children))
        (λ below. record { below = below; next = after_role kind (OfXslt (Some x)) }) k i)))
    by OfExtension =
        sym (fused (standing_at here (xslt_attributes_of inner.inside.scope extension_rows attributes)) (λ v. Skipped)
        (λ met. reading_on (held inner here met children) (λ below. Done (Ok (record { below = below; next = after_role kind OfExtension })))) k
        ∙ (λ i. reading_on (standing_at here (xslt_attributes_of inner.inside.scope extension_rows attributes))
        (λ v. on_done (children_among around (after_other kind) path (position + 1) siblings) i)))
    by (OfOther uri) =
        sym (fused (standing_at here (tag_of inner name attributes)) ALiteral
        (λ met. reading_on (held inner here met children) (λ below. Done (Ok (record { below = below; next = after_role kind (OfOther uri) })))) k
        ∙ (λ i. reading_on (standing_at here (tag_of inner name attributes))
        (λ tag. inner_fused (children_among inner content.Body here 1 children) (element_by inner here (ALiteral tag) (text_among children))
        (λ below. record { below = below; next = after_role kind (OfOther uri) }) k i)))

-- ---- The turn of a loop over siblings

pub turn : (around : Around) (kind : ContentKind) (path : List ℕ) (position : ℕ) (done : Below) (first : Visited) (tree : Tree) (trees : List Tree) {q : Reading (Result Below Fault)}
    → Continues (before_rest (children_among around kind path position (forest (tree ∷ trees))) done) q
    → Reads (visited around kind path position (forest trees) tree.content tree.children) (Ok first)
    → Continues (before_rest (children_among around first.next path (position + 1) (forest trees)) (before done first.below)) q
unfolding reading_then
turn around kind path position done first tree trees {q = q} c h = record { so = go }
  where
    one : Reading (Result Visited Fault)
    one = visited around kind path position (forest trees) tree.content tree.children

    others : Reading (Result Below Fault)
    others = children_among around first.next path (position + 1) (forest trees)

    k : Below → Reading (Result Below Fault)
    k rest = Done (Ok (before done rest))

    inner : reading_on (before_rest others first.below) k ≡ before_rest others (before done first.below)
    inner = on_on others (λ rest. Done (Ok (before first.below rest))) k ∙ (λ i. reading_on others (λ rest. Done (Ok (sym (before_before done first.below rest) i))))

    whole : reading_on (children_among around kind path position (forest (tree ∷ trees))) k ≡ reading_on one (λ f. reading_on (others_after around path position (forest trees) f) k)
    whole =
        ap (λ p. reading_on p k) (first_and_rest around kind path position tree.number tree.content tree.children (forest trees))
        ∙ on_on one (others_after around path position (forest trees)) k

    go : (a : Result Below Fault) → Reads (before_rest others (before done first.below)) a → Reads q a
    go a r =
        c.so a (subst (λ p. Reads p a) (sym whole) (on_ok one (λ f. reading_on (others_after around path position (forest trees) f) k) first a h
        (subst (λ p. Reads p a) (sym inner) r)))

pub stops : {X Y : Type 0} {v : X → Visited} {w : Y → Below} (around : Around) (kind : ContentKind) (path : List ℕ) (position : ℕ) (done : Below) (tree : Tree) (trees : List Tree) {q : Reading (Result Below Fault)} {e : ContentFault}
    → Continues (before_rest (children_among around kind path position (forest (tree ∷ trees))) done) q
    → IsAnswer {X = X} v (visited around kind path position (forest trees) tree.content tree.children) (Err e)
    → IsAnswer {X = Y} w q (Err e)
stops {X = X} {Y = Y} {v = v} {w = w} around kind path position done tree trees {e = e} c h =
    answers_from c (subst (λ p. IsAnswer w (before_rest p done) (Err e)) (sym (first_and_rest around kind path position tree.number tree.content tree.children (forest trees)))
    (answers_stop {X = Y} {Y = Y} {v = w} {w = w} _ (answers_stop {X = X} {Y = Y} {v = v} {w = w} _ h)))

-- the siblings after the first n, as the program cuts them
pub later_is : {X : Type 0} {v : X → Visited} (around : Around) (kind : ContentKind) (path : List ℕ) (position : ℕ) (nodes : List (Rc Node Global)) (n : ℕ) (tree : Tree) {result : Result X ContentFault}
    → IsAnswer v (visited around kind path position (forest_of (take (length nodes - n) (drop n nodes))) tree.content tree.children) result
    → IsAnswer v (visited around kind path position (forest_of (drop n nodes)) tree.content tree.children) result
later_is around kind path position nodes n tree = answers_as (ap (λ l. visited around kind path position (forest_of l) tree.content tree.children) (take_rest nodes n))

pub begins : (p : Reading (Result Below Fault)) → Continues (before_rest p nothing_below) p
begins p = record { so = λ a h. subst (λ r. Reads r a) (on_done p) h }

pub ends : {X : Type 0} {v : X → Below} (around : Around) (kind : ContentKind) (path : List ℕ) (position : ℕ) (done : Below) {q : Reading (Result Below Fault)} {x : X}
    → v x ≡ done → Continues (before_rest (children_among around kind path position (forest [])) done) q → IsAnswer v q (Ok x)
unfolding reading_then
ends around kind path position done h c = record { so = c.so _ (ap Ok (before_nothing done ∙ sym h)) }

-- one node alone
pub alone_is : (around : Around) (kind : ContentKind) (path : List ℕ) (position : ℕ) (tree : Tree)
    → children_among around kind path position (forest (tree ∷ [])) ≡ reading_on (visited {M = ℕ} around kind path position spec.Empty tree.content tree.children) (λ f. Done (Ok f.below))
unfolding reading_then
alone_is around kind path position tree =
    first_and_rest around kind path position tree.number tree.content tree.children spec.Empty
    ∙ (λ i. reading_on (visited {M = ℕ} around kind path position spec.Empty tree.content tree.children) (λ f. Done (Ok (before_nothing f.below i))))

-- ---- An element

pub at_element : {X : Type 0} {v : X → Visited} {L M : Type 0} (around : Around) (kind : ContentKind) (path : List ℕ) (position : ℕ) (later : spec.Forest M) (content : spec.Content) (children below : spec.Forest L)
    (inner : Around) (here name : List ℕ) (attributes : List spec.Written) {result : Result X ContentFault}
    → spec.Element name attributes ≡ content → inner ≡ around_of around name attributes → here ≡ path ++ position ∷ [] → below ≡ children
    → IsAnswer v (element_visited inner kind here name attributes below (role_of inner.inside name)) result
    → IsAnswer v (visited around kind path position later content children) result
at_element around kind path position later content children below inner here name attributes is is_inner is_here are_children =
    answers_as ((λ i. element_visited (is_inner i) kind (is_here i) name attributes (are_children i) (role_of (is_inner i).inside name))
    ∙ (λ i. visited around kind path position later (is i) children))

-- an element that says nothing
pub skips : {X Y : Type 0} {v : X → Met} {w : Y → Visited} {L : Type 0} (inner : Around) (kind : ContentKind) (here name : List ℕ) (attributes : List spec.Written) (below : spec.Forest L) (role : Role) {met : X} {result : Y}
    → None ≡ content_by (v met) → IsAnswer v (met_by inner here name attributes role) (Ok met)
    → w result ≡ record { below = nothing_below; next = after_role kind role }
    → IsAnswer w (element_visited inner kind here name attributes below role) (Ok result)
unfolding reading_then
skips {X = X} {Y = Y} {v = v} {w = w} inner kind here name attributes below role {met = met} {result = result} none said is =
    answers_then {X = X} {Y = Y} {v = v} {w = w} (λ m. reading_on (held inner here m below) k) said
    (subst (λ o. IsAnswer w (reading_on (held_by inner here (v met) below o) k) (Ok result)) none (answers_give is))
  where
    k : Below → Reading (Result Visited Fault)
    k b = Done (Ok (record { below = b; next = after_role kind role }))

-- an element with what is in it
pub holds : {X Y Z : Type 0} {v : X → Met} {u : Z → Below} {w : Y → Visited} {L : Type 0} (inner : Around) (kind : ContentKind) (here name : List ℕ) (attributes : List spec.Written) (below : spec.Forest L) (role : Role)
    {met : X} {within : ContentKind} {found : Z} {result : Y}
    → Some within ≡ content_by (v met) → IsAnswer v (met_by inner here name attributes role) (Ok met) → IsAnswer u (children_among inner within here 1 below) (Ok found)
    → w result ≡ record { below = element_by inner here (v met) (text_among below) (u found); next = after_role kind role }
    → IsAnswer w (element_visited inner kind here name attributes below role) (Ok result)
unfolding reading_then
holds {X = X} {Y = Y} {v = v} {u = u} {w = w} inner kind here name attributes below role {met = met} {within = within} {found = found} {result = result} some said h is =
    answers_then {X = X} {Y = Y} {v = v} {w = w} (λ m. reading_on (held inner here m below) k) said
    (subst (λ o. IsAnswer w (reading_on (held_by inner here (v met) below o) k) (Ok result)) some
    (record {
      so = on_ok (reading_on (children_among inner within here 1 below) f) k (element_by inner here (v met) (text_among below) (u found)) (Ok (w result))
          (on_ok (children_among inner within here 1 below) f (u found) (Ok (element_by inner here (v met) (text_among below) (u found))) h.so refl) (ap Ok (sym is));
    }))
  where
    k : Below → Reading (Result Visited Fault)
    k b = Done (Ok (record { below = b; next = after_role kind role }))

    f : Below → Reading (Result Below Fault)
    f b = Done (Ok (element_by inner here (v met) (text_among below) b))

-- an element with a fault in it
pub holds_fault : {X Y Z : Type 0} {v : X → Met} {u : Z → Below} {w : Y → Visited} {L : Type 0} (inner : Around) (kind : ContentKind) (here name : List ℕ) (attributes : List spec.Written) (below : spec.Forest L) (role : Role)
    {met : X} {within : ContentKind} {e : ContentFault}
    → Some within ≡ content_by (v met) → IsAnswer v (met_by inner here name attributes role) (Ok met) → IsAnswer {X = Z} u (children_among inner within here 1 below) (Err e)
    → IsAnswer {X = Y} w (element_visited inner kind here name attributes below role) (Err e)
holds_fault {X = X} {Y = Y} {Z = Z} {v = v} {u = u} {w = w} inner kind here name attributes below role {met = met} {within = within} {e = e} some said h =
    answers_then {X = X} {Y = Y} {v = v} {w = w} (λ m. reading_on (held inner here m below) k) said
    (subst (λ o. IsAnswer {X = Y} w (reading_on (held_by inner here (v met) below o) k) (Err e)) some
    (answers_stop {X = Z} {Y = Y} {v = u} {w = w} k (answers_stop {X = Z} {Y = Z} {v = u} {w = u} f h)))
  where
    k : Below → Reading (Result Visited Fault)
    k b = Done (Ok (record { below = b; next = after_role kind role }))

    f : Below → Reading (Result Below Fault)
    f b = Done (Ok (element_by inner here (v met) (text_among below) b))

-- one node without others
pub only : {X Y : Type 0} {v : X → Visited} {w : Y → Below} (around : Around) (kind : ContentKind) (path : List ℕ) (position : ℕ) (tree : Tree) {first : X} {result : Y}
    → IsAnswer v (visited {M = ℕ} around kind path position spec.Empty tree.content tree.children) (Ok first) → w result ≡ (v first).below
    → IsAnswer w (children_among around kind path position (forest (tree ∷ []))) (Ok result)
only {X = X} {Y = Y} {v = v} {w = w} around kind path position tree h is =
    answers_as (sym (alone_is around kind path position tree)) (answers_then {X = X} {Y = Y} {v = v} {w = w} (λ f. Done (Ok f.below)) h (answers_give is))

pub only_fault : {X Y : Type 0} {v : X → Visited} {w : Y → Below} (around : Around) (kind : ContentKind) (path : List ℕ) (position : ℕ) (tree : Tree) {e : ContentFault}
    → IsAnswer {X = X} v (visited {M = ℕ} around kind path position spec.Empty tree.content tree.children) (Err e)
    → IsAnswer {X = Y} w (children_among around kind path position (forest (tree ∷ []))) (Err e)
only_fault {X = X} {Y = Y} {v = v} {w = w} around kind path position tree h =
    answers_as (sym (alone_is around kind path position tree)) (answers_stop {X = X} {Y = Y} {v = v} {w = w} (λ f. Done (Ok f.below)) h)
