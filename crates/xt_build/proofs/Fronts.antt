-- What events say, with the pieces of the first of them in front of what the others say.
use Rattle.std.proofs.Common.{◌≡◌, ℕ, suc, ◌+◌, ◌<◌, Bool, true, false, cond, List, [], ◌∷◌, ◌++◌, map, length, drop, Option, Some}
use Rattle.std.proofs.Common.{None, refl, sym, ap, ◌∙◌, subst, arith, append_assoc}
use Rattle.std.specs.Prelude.{bytes_eq}
use Rattle.std.specs.Option.{option_and_then}
use Rattle.spec_document.specs.declared.event.Event.{Event}
use Rattle.spec_document.specs.declared.event.Event.TheVariants.{Start, Attribute, Data, Instruction as InstructionEvent, End, Comment as CommentEvent}
use Rattle.spec_document.specs.Forest.{Written, Element, Text, Comment, Instruction, Forest, Node, IsNoText}
use Rattle.spec_document.specs.Balance.{LineNumbers, Rest, with_event, started, rest_of, alone}
use Rattle.xt_build.specs.Piece.{Piece, Begins, Ends, piece_before, pieces_before, AreClosed}
use Rattle.xt_build.specs.Front.{attributes_first, data_first}

-- the forests that are open in front of what the rest says
abbrev pub stack : Rest → List (Forest LineNumbers)
stack rest = rest.siblings ∷ map (λ b. b.1) rest.behind

-- pieces in front of what is said behind them say this
abbrev pub Stands : Option Rest → List Piece → Rest → Type 0
Stands None pieces whole = ⊥
Stands (Some rest) pieces whole = (pieces_before pieces (stack rest) ≡ stack whole) × AreClosed pieces (stack rest)

abbrev pub Fronted : Option Rest → List Piece → Option Rest → Type 0
Fronted None pieces behind = Unit {0}
Fronted (Some whole) pieces behind = Stands behind pieces whole

-- pieces in front of pieces
pieces_before-append : (ps qs : List Piece) (b : List (Forest LineNumbers)) → pieces_before (ps ++ qs) b ≡ pieces_before ps (pieces_before qs b)
pieces_before-append [] qs b = refl
pieces_before-append (p ∷ ps) qs b = ap (piece_before p) (pieces_before-append ps qs b)

closed-append : (ps qs : List Piece) (b : List (Forest LineNumbers)) → AreClosed ps (pieces_before qs b) → AreClosed qs b → AreClosed (ps ++ qs) b
closed-append [] qs b h g = g
closed-append (Ends ∷ ps) qs b h g = closed-append ps qs b h g
closed-append (Begins l (Element n a) ∷ ps) qs b h g =
    (subst (λ (s : List (Forest LineNumbers)). 1 < length s) (sym (pieces_before-append ps qs b)) h.0, closed-append ps qs b h.1 g)
closed-append (Begins l (Text t) ∷ ps) qs b h g = closed-append ps qs b h g
closed-append (Begins l (Comment t) ∷ ps) qs b h g = closed-append ps qs b h g
closed-append (Begins l (Instruction n t) ∷ ps) qs b h g = closed-append ps qs b h g

pub fronted-stands : (o behind : Option Rest) (ps qs : List Piece) (whole : Rest) → Fronted o qs behind → Stands o ps whole
    → Stands behind (ps ++ qs) whole
fronted-stands None behind ps qs whole h s = absurd s
fronted-stands (Some r) None ps qs whole h s = absurd h
fronted-stands (Some r) (Some b) ps qs whole h s = (
  pieces_before-append ps qs (stack b) ∙ ap (pieces_before ps) h.0 ∙ s.0,
  closed-append ps qs (stack b) (subst (λ (f : List (Forest LineNumbers)). AreClosed ps f) (sym h.0) s.1) h.1,
)

-- an attribute that is said stands in front
abbrev pub AttributesAre : Option Rest → List (ℕ × Written) → Type 0
AttributesAre None own = Unit {0}
AttributesAre (Some r) own = r.attributes ≡ own

start-attributes : (line : ℕ) (name : List ℕ) (own : List (ℕ × Written)) (s : Forest LineNumbers) (b : List (List ℕ × Forest LineNumbers))
    → AttributesAre (started line name own s b) []
start-attributes line name own s [] = tt
start-attributes line name own s (end ∷ b) =
    elim (bytes_eq name end.0) as (λ t. AttributesAre
    (cond t (Some (record {
      attributes = [];
      siblings =
          Node (record { first = line; attributes = map (λ a. a.0) own }) (Element name (map (λ a. a.1) own)) s end.1;
      behind = b;
    })) None) [])
    [ true ↦ refl | false ↦ tt ]

unless-attributes : (own : List (ℕ × Written)) (front : Rest) → (own ≡ [] → front.attributes ≡ [])
    → AttributesAre (elim own [ [] ↦ Some front | a ∷ more ↦ None ]) []
unless-attributes [] front h = h refl
unless-attributes (a ∷ own) front h = tt

attributes-one : (line : ℕ) (e : Event (List ℕ)) (r : Rest) (es : List (ℕ × Event (List ℕ))) → r.attributes ≡ attributes_first es
    → AttributesAre (with_event line e r) (attributes_first ((line, e) ∷ es))
attributes-one line (Start name) r es h = start-attributes line name r.attributes r.siblings r.behind
attributes-one line (Attribute name value) r es h = ap (λ own. (line, record { name = name; value = value }) ∷ own) h
attributes-one line (Data t) r es h = unless-attributes r.attributes _ (λ e. e)
attributes-one line (InstructionEvent n t) r es h = unless-attributes r.attributes _ (λ e. e)
attributes-one line (End n) r es h = unless-attributes r.attributes _ (λ e. refl)
attributes-one line (CommentEvent t) r es h = unless-attributes r.attributes _ (λ e. e)

-- one attribute more has been taken from the front
pub attributes-taken : {X : Type 0} (f : ℕ × Written → X) (old new : List X) (line : ℕ) (e : Event (List ℕ)) (w : Written)
    (es : List (ℕ × Event (List ℕ))) (whole : List X)
    → e ≡ Attribute w.name w.value → old ++ map f (attributes_first ((line, e) ∷ es)) ≡ whole → new ≡ old ++ (f (line, w) ∷ [])
    → new ++ map f (attributes_first es) ≡ whole
attributes-taken f old new line e w es whole is h n =
    ap (λ xs. xs ++ map f (attributes_first es)) n ∙ append_assoc old (f (line, w) ∷ []) (map f (attributes_first es))
    ∙ ap (λ e. old ++ map f (attributes_first ((line, e) ∷ es))) (sym is) ∙ h

attributes-option : (line : ℕ) (e : Event (List ℕ)) (o : Option Rest) (es : List (ℕ × Event (List ℕ))) → AttributesAre o (attributes_first es)
    → AttributesAre (option_and_then (with_event line e) o) (attributes_first ((line, e) ∷ es))
attributes-option line e None es h = tt
attributes-option line e (Some r) es h = attributes-one line e r es h

pub attributes-are : (es : List (ℕ × Event (List ℕ))) → AttributesAre (rest_of es) (attributes_first es)
attributes-are [] = refl
attributes-are ((line, e) ∷ es) = attributes-option line e (rest_of es) es (attributes-are es)

-- the pieces of one event
start-fronted : (line : ℕ) (name : List ℕ) (own : List (ℕ × Written)) (s : Forest LineNumbers) (b : List (List ℕ × Forest LineNumbers))
    → Fronted (started line name own s b) (Begins (record { first = line; attributes = map (λ a. a.0) own }) (Element name (map (λ a. a.1) own)) ∷ [])
    (Some (record { attributes = own; siblings = s; behind = b }))
start-fronted line name own s [] = tt
start-fronted line name own s (end ∷ b) =
    elim (bytes_eq name end.0) as (λ t. Fronted
    (cond t (Some (record {
      attributes = [];
      siblings =
          Node (record { first = line; attributes = map (λ a. a.0) own }) (Element name (map (λ a. a.1) own)) s end.1;
      behind = b;
    })) None)
    (Begins (record { first = line; attributes = map (λ a. a.0) own }) (Element name (map (λ a. a.1) own)) ∷ [])
    (Some (record { attributes = own; siblings = s; behind = end ∷ b }))) [ true ↦ (refl, (omega arith, tt)) | false ↦ tt ]

pub start-option : (line : ℕ) (name : List ℕ) (o : Option Rest) (own : List (ℕ × Written)) → AttributesAre o own
    → Fronted (option_and_then (with_event line (Start name)) o)
    (Begins (record { first = line; attributes = map (λ a. a.0) own }) (Element name (map (λ a. a.1) own)) ∷ []) o
start-option line name None own h = tt
start-option line name (Some r) own h =
    subst (λ (own : List (ℕ × Written)). Fronted (with_event line (Start name) r)
    (Begins (record { first = line; attributes = map (λ a. a.0) own }) (Element name (map (λ a. a.1) own)) ∷ []) (Some r)) h
    (start-fronted line name r.attributes r.siblings r.behind)

pub attribute-option : (line : ℕ) (name value : List ℕ) (o : Option Rest) → Fronted (option_and_then (with_event line (Attribute name value)) o) [] o
attribute-option line name value None = tt
attribute-option line name value (Some r) = (refl, tt)

unless-fronted : (own : List (ℕ × Written)) (front : Rest) (ps : List Piece) (o : Option Rest) → Stands o ps front
    → Fronted (elim own [ [] ↦ Some front | a ∷ more ↦ None ]) ps o
unless-fronted [] front ps o h = h
unless-fronted (a ∷ own) front ps o h = tt

pub instruction-option : (line : ℕ) (target text : List ℕ) (o : Option Rest)
    → Fronted (option_and_then (with_event line (InstructionEvent target text)) o) (Begins (alone line) (Instruction target text) ∷ []) o
instruction-option line target text None = tt
instruction-option line target text (Some r) = unless-fronted r.attributes _ _ (Some r) (refl, tt)

pub comment-option : (line : ℕ) (text : List ℕ) (o : Option Rest)
    → Fronted (option_and_then (with_event line (CommentEvent text)) o) (Begins (alone line) (Comment text) ∷ []) o
comment-option line text None = tt
comment-option line text (Some r) = unless-fronted r.attributes _ _ (Some r) (refl, tt)

pub end-option : (line : ℕ) (name : List ℕ) (o : Option Rest) → Fronted (option_and_then (with_event line (End name)) o) (Ends ∷ []) o
end-option line name None = tt
end-option line name (Some r) = unless-fronted r.attributes _ _ (Some r) (refl, tt)

-- ---- Data, with all that follows it

-- behind it no text stands first
abbrev pub NoTextFirst : Option Rest → Type 0
NoTextFirst None = Unit {0}
NoTextFirst (Some r) = r.attributes ≡ [] → IsNoText r.siblings

start-no_text : (line : ℕ) (name : List ℕ) (own : List (ℕ × Written)) (s : Forest LineNumbers) (b : List (List ℕ × Forest LineNumbers))
    → NoTextFirst (started line name own s b)
start-no_text line name own s [] = tt
start-no_text line name own s (end ∷ b) =
    elim (bytes_eq name end.0) as (λ t. NoTextFirst
    (cond t (Some (record {
      attributes = [];
      siblings =
          Node (record { first = line; attributes = map (λ a. a.0) own }) (Element name (map (λ a. a.1) own)) s end.1;
      behind = b;
    })) None))
    [ true ↦ λ _. tt | false ↦ tt ]

unless-no_text : (own : List (ℕ × Written)) (front : Rest) → IsNoText front.siblings
    → NoTextFirst (elim own [ [] ↦ Some front | a ∷ more ↦ None ])
unless-no_text [] front h = λ _. h
unless-no_text (a ∷ own) front h = tt

abbrev is_data : Event (List ℕ) → Bool
is_data (Data text) = true
is_data (Start name) = false
is_data (Attribute name value) = false
is_data (InstructionEvent target text) = false
is_data (End name) = false
is_data (CommentEvent text) = false

one-no_text : (line : ℕ) (e : Event (List ℕ)) (o : Option Rest) → is_data e ≡ false → NoTextFirst (option_and_then (with_event line e) o)
one-no_text line e None h = tt
one-no_text line (Start name) (Some r) h = start-no_text line name r.attributes r.siblings r.behind
one-no_text line (Attribute name value) (Some r) h = λ e. absurd (cc)
one-no_text line (Data text) (Some r) h = absurd (cc)
one-no_text line (InstructionEvent target text) (Some r) h = unless-no_text r.attributes _ tt
one-no_text line (End name) (Some r) h = unless-no_text r.attributes _ tt
one-no_text line (CommentEvent text) (Some r) h = unless-no_text r.attributes _ tt

pub drop-more : {X : Type 0} (x : X) (xs : List X) (n : ℕ) → drop (1 + n) (x ∷ xs) ≡ drop n xs
drop-more x xs n = let e : 1 + n ≡ suc n = omega arith in rw e refl

pub no_text-behind : (es : List (ℕ × Event (List ℕ))) → NoTextFirst (rest_of (drop (data_first es) es))
no_text-behind [] = λ _. tt
no_text-behind ((line, Data text) ∷ es) = rw (drop-more (line, Data text) es (data_first es)) (no_text-behind es)
no_text-behind ((line, Start name) ∷ es) = one-no_text line (Start name) (rest_of es) refl
no_text-behind ((line, Attribute name value) ∷ es) = one-no_text line (Attribute name value) (rest_of es) refl
no_text-behind ((line, InstructionEvent target text) ∷ es) = one-no_text line (InstructionEvent target text) (rest_of es) refl
no_text-behind ((line, End name) ∷ es) = one-no_text line (End name) (rest_of es) refl
no_text-behind ((line, CommentEvent text) ∷ es) = one-no_text line (CommentEvent text) (rest_of es) refl
