-- Data that follows data is one text.
use Rattle.std.proofs.Common.{◌≡◌, ℕ, ◌<◌, ◌≤◌, List, [], ◌∷◌, map, length, drop, Option, Some, None, refl, sym, ap, ◌∙◌}
use Rattle.std.proofs.Common.{arith, append-nil}
use Rattle.std.specs.Option.{option_and_then}
use Rattle.spec_document.specs.declared.event.Event.{Event}
use Rattle.spec_document.specs.declared.event.Event.TheVariants.{Start, Attribute, Data, Instruction as InstructionEvent, End, Comment as CommentEvent}
use Rattle.spec_document.specs.Forest.{Written, Element, Text, Comment, Instruction, Forest, Empty, Node, joined, IsNoText}
use Rattle.spec_document.specs.Balance.{LineNumbers, Rest, with_event, rest_of, forest_of, closed, alone}
use Rattle.xt_build.specs.Piece.{Piece, open_in, forest_in, first_of, IsWhole}
use Rattle.xt_build.specs.Front.{attributes_first, data_first, text_first, with_data, text_pieces, pieces_first, events_first}
use Rattle.xt_build.proofs.Fronts.{stack, Stands, Fronted, AttributesAre, attributes-are, NoTextFirst, no_text-behind, drop-more, start-option}
use Rattle.xt_build.proofs.Fronts.{attribute-option, instruction-option, comment-option, end-option}

joined-joined : (line : ℕ) (t : List ℕ) (g : ℕ × List ℕ) (s : Forest LineNumbers) → IsNoText s
    → joined (alone line) t (joined (alone g.0) g.1 s) ≡ joined (alone (with_data line t g).0) (with_data line t g).1 s
joined-joined line [] g s h = refl
joined-joined line (c ∷ cs) (l, []) s h = ap (λ t. joined (alone line) t s) (sym (append-nil (c ∷ cs)))
joined-joined line (c ∷ cs) (l, d ∷ ds) Empty h = refl
joined-joined line (c ∷ cs) (l, d ∷ ds) (Node k (Element n a) f s) h = refl
joined-joined line (c ∷ cs) (l, d ∷ ds) (Node k (Text t) f s) h = absurd h
joined-joined line (c ∷ cs) (l, d ∷ ds) (Node k (Comment t) f s) h = refl
joined-joined line (c ∷ cs) (l, d ∷ ds) (Node k (Instruction n t) f s) h = refl

-- what is said with a text in front of what is said behind it
abbrev Texted : Option Rest → ℕ × List ℕ → Option Rest → Type 0
Texted None text behind = Unit {0}
Texted (Some r) text None = ⊥
Texted (Some r) text (Some b) = (r.attributes ≡ b.attributes) × (r.siblings ≡ joined (alone text.0) text.1 b.siblings) × (r.behind ≡ b.behind)

unless-texted : (line : ℕ) (t : List ℕ) (own : List (ℕ × Written)) (s : Forest LineNumbers) (h : List (List ℕ × Forest LineNumbers))
    (g : ℕ × List ℕ) (b : Rest)
    → NoTextFirst (Some b) → Texted (Some (record { attributes = own; siblings = s; behind = h })) g (Some b)
    → Texted (with_event line (Data t) (record { attributes = own; siblings = s; behind = h })) (with_data line t g) (Some b)
unless-texted line t [] s h g b clear e = (e.0, ap (joined (alone line) t) e.1 ∙ joined-joined line t g b.siblings (clear (sym e.0)), e.2)
unless-texted line t (a ∷ own) s h g b clear e = tt

data-option : (line : ℕ) (t : List ℕ) (o behind : Option Rest) (g : ℕ × List ℕ) → NoTextFirst behind → Texted o g behind
    → Texted (option_and_then (with_event line (Data t)) o) (with_data line t g) behind
data-option line t None None g clear h = tt
data-option line t None (Some b) g clear h = tt
data-option line t (Some r) None g clear h = absurd h
data-option line t (Some r) (Some b) g clear h = unless-texted line t r.attributes r.siblings r.behind g b clear h

texted-none : (o : Option Rest) (line : ℕ) → Texted o (line, []) o
texted-none None line = tt
texted-none (Some r) line = (refl, refl, refl)

data-texted : (es : List (ℕ × Event (List ℕ))) → Texted (rest_of es) (text_first es) (rest_of (drop (data_first es) es))
data-texted [] = texted-none (rest_of []) 0
data-texted ((line, Data text) ∷ es) =
    rw (drop-more (line, Data text) es (data_first es))
    (data-option line text (rest_of es) (rest_of (drop (data_first es) es)) (text_first es) (no_text-behind es) (data-texted es))
data-texted ((line, Start name) ∷ es) = texted-none (rest_of ((line, Start name) ∷ es)) 0
data-texted ((line, Attribute name value) ∷ es) = texted-none (rest_of ((line, Attribute name value) ∷ es)) 0
data-texted ((line, InstructionEvent target text) ∷ es) = texted-none (rest_of ((line, InstructionEvent target text) ∷ es)) 0
data-texted ((line, End name) ∷ es) = texted-none (rest_of ((line, End name) ∷ es)) 0
data-texted ((line, CommentEvent text) ∷ es) = texted-none (rest_of ((line, CommentEvent text) ∷ es)) 0

joined-node : (line c : ℕ) (cs : List ℕ) (s : Forest LineNumbers) → IsNoText s
    → joined (alone line) (c ∷ cs) s ≡ Node (alone line) (Text (c ∷ cs)) Empty s
joined-node line c cs Empty h = refl
joined-node line c cs (Node k (Element n a) f s) h = refl
joined-node line c cs (Node k (Text t) f s) h = absurd h
joined-node line c cs (Node k (Comment t) f s) h = refl
joined-node line c cs (Node k (Instruction n t) f s) h = refl

texted-stands : (r b : Rest) (g : ℕ × List ℕ) → r.attributes ≡ [] → NoTextFirst (Some b) → Texted (Some r) g (Some b)
    → Stands (Some b) (text_pieces g) r
texted-stands r b (l, []) none clear h = ((λ i. sym h.1 i ∷ map (λ e. e.1) (sym h.2 i)), tt)
texted-stands r b (l, c ∷ cs) none clear h =
    let said = h.1 ∙ joined-node l c cs b.siblings (clear (sym h.0 ∙ none)) in
    ((λ i. sym said i ∷ map (λ e. e.1) (sym h.2 i)), tt)

texted-fronted : (o behind : Option Rest) (g : ℕ × List ℕ) → AttributesAre o [] → NoTextFirst behind → Texted o g behind
    → Fronted o (text_pieces g) behind
texted-fronted None None g none clear h = tt
texted-fronted None (Some b) g none clear h = tt
texted-fronted (Some r) None g none clear h = absurd h
texted-fronted (Some r) (Some b) g none clear h = texted-stands r b g none clear h

-- ---- The pieces of the first event, in front of what is said behind it
pub first-fronted : (es : List (ℕ × Event (List ℕ))) → Fronted (rest_of es) (pieces_first es) (rest_of (drop (events_first es) es))
first-fronted [] = (refl, tt)
first-fronted ((line, Start name) ∷ es) = start-option line name (rest_of es) (attributes_first es) (attributes-are es)
first-fronted ((line, Attribute name value) ∷ es) = attribute-option line name value (rest_of es)
first-fronted ((line, Data text) ∷ es) =
    texted-fronted (rest_of ((line, Data text) ∷ es)) _ (text_first ((line, Data text) ∷ es)) (attributes-are ((line, Data text) ∷ es))
    (no_text-behind ((line, Data text) ∷ es)) (data-texted ((line, Data text) ∷ es))
first-fronted ((line, InstructionEvent target text) ∷ es) = instruction-option line target text (rest_of es)
first-fronted ((line, End name) ∷ es) = end-option line name (rest_of es)
first-fronted ((line, CommentEvent text) ∷ es) = comment-option line text (rest_of es)

data-fits : (es : List (ℕ × Event (List ℕ))) → data_first es ≤ length es
data-fits [] = omega arith
data-fits ((line, Data text) ∷ es) = let more = data-fits es in omega (arith, more)
data-fits ((line, Start name) ∷ es) = omega arith
data-fits ((line, Attribute name value) ∷ es) = omega arith
data-fits ((line, InstructionEvent target text) ∷ es) = omega arith
data-fits ((line, End name) ∷ es) = omega arith
data-fits ((line, CommentEvent text) ∷ es) = omega arith

pub first-fits : (es : List (ℕ × Event (List ℕ))) → events_first es ≤ length es
first-fits [] = omega arith
first-fits ((line, Data text) ∷ es) = data-fits ((line, Data text) ∷ es)
first-fits ((line, Start name) ∷ es) = omega arith
first-fits ((line, Attribute name value) ∷ es) = omega arith
first-fits ((line, InstructionEvent target text) ∷ es) = omega arith
first-fits ((line, End name) ∷ es) = omega arith
first-fits ((line, CommentEvent text) ∷ es) = omega arith

pub first-some : (es : List (ℕ × Event (List ℕ))) → 0 < length es → 0 < events_first es
first-some [] h = absurd (omega arith)
first-some ((line, Data text) ∷ es) h = omega arith
first-some ((line, Start name) ∷ es) h = omega arith
first-some ((line, Attribute name value) ∷ es) h = omega arith
first-some ((line, InstructionEvent target text) ∷ es) h = omega arith
first-some ((line, End name) ∷ es) h = omega arith
first-some ((line, CommentEvent text) ∷ es) h = omega arith

-- ---- Behind the last event
some-same : {X : Type 0} (x y : X) → Option.Some x ≡ Some y → x ≡ y
some-same x y e = ap (λ o. elim o [ None ↦ x | Some z ↦ z ]) e

closed-is : (own : List (ℕ × Written)) (s : Forest LineNumbers) (b : List (List ℕ × Forest LineNumbers)) (f : Forest LineNumbers)
    → closed own s b ≡ Some f → (s ≡ f) × (b ≡ [])
closed-is [] s [] f e = (some-same s f e, refl)
closed-is [] s (x ∷ b) f e = absurd (cc)
closed-is (a ∷ own) s [] f e = absurd (cc)
closed-is (a ∷ own) s (x ∷ b) f e = absurd (cc)

stands-whole : (ps : List Piece) (w : Rest) (f : Forest LineNumbers) → Stands (rest_of []) ps w → closed w.attributes w.siblings w.behind ≡ Some f
    → IsWhole ps × (forest_in ps ≡ f)
stands-whole ps w f h e =
    let is = closed-is w.attributes w.siblings w.behind f e in
    let alone : open_in ps ≡ f ∷ [] = h.0 ∙ (λ i. is.0 i ∷ map (λ b. b.1) (is.1 i)) in
    ((ap length alone, h.1), ap first_of alone)

option-whole : (ps : List Piece) (o : Option Rest) (f : Forest LineNumbers) → ((w : Rest) → o ≡ Some w → Stands (rest_of []) ps w)
    → option_and_then (λ rest. closed rest.attributes rest.siblings rest.behind) o ≡ Some f → IsWhole ps × (forest_in ps ≡ f)
option-whole ps None f h e = absurd (cc)
option-whole ps (Some w) f h e = stands-whole ps w f (h w refl) e

pub pieces-whole : (ps : List Piece) (es : List (ℕ × Event (List ℕ))) (f : Forest LineNumbers)
    → ((w : Rest) → rest_of es ≡ Some w → Stands (rest_of []) ps w)
    → forest_of es ≡ Some f → IsWhole ps × (forest_in ps ≡ f)
pieces-whole ps es f h e = option-whole ps (rest_of es) f h e

pub stands-all : (o : Option Rest) (w : Rest) → o ≡ Some w → Stands o [] w
stands-all None w e = absurd (cc)
stands-all (Some r) w e = (ap stack (some-same r w e), tt)
