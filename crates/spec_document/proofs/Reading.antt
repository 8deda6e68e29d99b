-- The forest that is computed from events is the forest that they are, and a forest's own events are that forest.
use Rattle.std.proofs.Common.{◌≡◌, ℕ, true, false, cond, List, [], ◌∷◌, ◌++◌, map, refl, sym, ap, ◌∙◌, subst, Option, Some, None}
use Rattle.std.proofs.Common.{append_assoc, append-nil}
use Rattle.std.specs.Prelude.{bytes_eq}
use Rattle.std.specs.Option.{option_map, option_and_then}
use Rattle.std.proofs.lemmas.Slice.Eq.{bytes_eq-Decides}
use Rattle.spec_document.specs.declared.event.Event.{Event}
use Rattle.spec_document.specs.declared.event.Event.TheVariants.{Start, Attribute, Data, Instruction as InstructionEvent, End, Comment as CommentEvent}
use Rattle.spec_document.specs.Forest.{Written, Element, Text, Comment, Instruction, Forest, Empty, Node, Plain, plain, joined, with_text, attribute_event}
use Rattle.spec_document.specs.Forest.{IsForestOf, is_empty, is_element, is_text, is_comment, is_instruction}
use Rattle.spec_document.specs.Balance.{LineNumbers, Rest, with_event, started, rest_of, forest_of, closed, alone}

-- what is said, without lines
pub record Said : Type 0 where
  pub attributes : List Written
  pub siblings : Plain
  pub behind : List (List ℕ × Plain)

abbrev said : Rest → Said
said rest = record { attributes = map (λ a. a.1) rest.attributes; siblings = plain rest.siblings; behind = map (λ b. (b.0, plain b.1)) rest.behind }

abbrev alone_only : List Written → Said → Option Said
alone_only [] front = Some front
alone_only (a ∷ more) front = None

abbrev start_said : List ℕ → List Written → Plain → List (List ℕ × Plain) → Option Said
start_said name attributes children [] = None
start_said name attributes children (end ∷ behind) =
    cond (bytes_eq name end.0) (Some (record { attributes = []; siblings = Node tt (Element name attributes) children end.1; behind = behind })) None

abbrev say : Event (List ℕ) → Said → Option Said
say (Start name) r = start_said name r.attributes r.siblings r.behind
say (Attribute name value) r = Some (record r { attributes = record { name = name; value = value } ∷ r.attributes })
say (Data text) r = alone_only r.attributes (record r { siblings = with_text text r.siblings })
say (InstructionEvent target text) r = alone_only r.attributes (record r { siblings = Node tt (Instruction target text) Empty r.siblings })
say (End name) r = alone_only r.attributes (record { attributes = []; siblings = Empty; behind = (name, r.siblings) ∷ r.behind })
say (CommentEvent text) r = alone_only r.attributes (record r { siblings = Node tt (Comment text) Empty r.siblings })

abbrev say_all : List (Event (List ℕ)) → Option Said
say_all [] = Some (record { attributes = []; siblings = Empty; behind = [] })
say_all (e ∷ events) = option_and_then (say e) (say_all events)

plain-joined : (line : LineNumbers) (text : List ℕ) (f : Forest LineNumbers) → plain (joined line text f) ≡ with_text text (plain f)
plain-joined line [] f = refl
plain-joined line (c ∷ cs) Empty = refl
plain-joined line (c ∷ cs) (Node l (Text t) children siblings) = refl
plain-joined line (c ∷ cs) (Node l (Element n a) children siblings) = refl
plain-joined line (c ∷ cs) (Node l (Comment t) children siblings) = refl
plain-joined line (c ∷ cs) (Node l (Instruction n t) children siblings) = refl

start_step : (line : ℕ) (name : List ℕ) (more : List (ℕ × Written)) (f : Forest LineNumbers) (b : List (List ℕ × Forest LineNumbers))
    → option_map said (started line name more f b) ≡ start_said name (map (λ a. a.1) more) (plain f) (map (λ x. (x.0, plain x.1)) b)
start_step line name more f [] = refl
start_step line name more f (end ∷ behind) =
    elim (bytes_eq name end.0) as (λ t. option_map said
    (cond t (Some (record {
      attributes = [];
      siblings =
          Node (record { first = line; attributes = map (λ a. a.0) more }) (Element name (map (λ a. a.1) more)) f end.1;
      behind = behind;
    })) None)
    ≡ cond t (Some (record {
      attributes = [];
      siblings = Node tt (Element name (map (λ a. a.1) more)) (plain f) (plain end.1);
      behind =
          map (λ x. (x.0, plain x.1)) behind;
    })) None) [ true ↦ refl | false ↦ refl ]

-- where no attribute may stand before: the two sides agree, as they say the same in front
unless_step : (more : List (ℕ × Written)) (front : Rest) (alike : Said) → said front ≡ alike
    → option_map said (elim more [ [] ↦ Some front | a ∷ others ↦ None ]) ≡ alone_only (map (λ a. a.1) more) alike
unless_step [] front alike e = ap Some e
unless_step (a ∷ more) front alike e = refl

step : (line : ℕ) (e : Event (List ℕ)) (r : Rest) → option_map said (with_event line e r) ≡ say e (said r)
step line (Start name) r = start_step line name r.attributes r.siblings r.behind
step line (Attribute name value) r = refl
step line (Data text) r =
    unless_step r.attributes (record r { siblings = joined (alone line) text r.siblings }) _
    (λ i. record (said r) { siblings = plain-joined (alone line) text r.siblings i })
step line (InstructionEvent target text) r = unless_step r.attributes _ _ refl
step line (End name) r = unless_step r.attributes _ _ refl
step line (CommentEvent text) r = unless_step r.attributes _ _ refl

step_option : (line : ℕ) (e : Event (List ℕ)) (r : Option Rest)
    → option_map said (option_and_then (with_event line e) r) ≡ option_and_then (say e) (option_map said r)
step_option line e None = refl
step_option line e (Some r) = step line e r

pub said_all : (events : List (ℕ × Event (List ℕ))) → option_map said (rest_of events) ≡ say_all (map (λ e. e.1) events)
said_all [] = refl
said_all (e ∷ events) = step_option e.0 e.1 (rest_of events) ∙ ap (option_and_then (say e.1)) (said_all events)

-- ---- A forest's events say that forest

same_name : (name : List ℕ) → bytes_eq name name ≡ true
same_name name = (bytes_eq-Decides name name).1 refl

attributes_said : (attributes : List Written) (rest : List (Event (List ℕ))) (f : Plain) (b : List (List ℕ × Plain))
    → say_all rest ≡ Some (record { attributes = []; siblings = f; behind = b })
    → say_all (map attribute_event attributes ++ rest) ≡ Some (record { attributes = attributes; siblings = f; behind = b })
attributes_said [] rest f b e = e
attributes_said (a ∷ attributes) rest f b e = ap (option_and_then (say (attribute_event a))) (attributes_said attributes rest f b e)

pub forest_said : (events : List (Event (List ℕ))) (f : Plain) → IsForestOf events f → (rest : List (Event (List ℕ))) (b : List (List ℕ × Plain))
    → say_all rest ≡ Some (record { attributes = []; siblings = Empty; behind = b })
    → say_all (events ++ rest) ≡ Some (record { attributes = []; siblings = f; behind = b })
forest_said events f is_empty rest b e = e
forest_said events f (is_element {inner = inner} {rest = later} {children = children} {siblings = siblings} name attributes split below behind) rest b e =
    let followed = forest_said later siblings behind rest b e in
    let ended : say_all (End name ∷ (later ++ rest)) ≡ Some (record { attributes = []; siblings = Empty; behind = (name, siblings) ∷ b }) =
    ap (option_and_then (say (End name))) followed in
    let inside = forest_said inner children below (End name ∷ (later ++ rest)) ((name, siblings) ∷ b) ended in
    let named = attributes_said attributes (inner ++ (End name ∷ (later ++ rest))) children ((name, siblings) ∷ b) inside in
    let whole : say_all (Start name ∷ map attribute_event attributes ++ (inner ++ (End name ∷ (later ++ rest))))
    ≡ Some (record { attributes = []; siblings = Node tt (Element name attributes) children siblings; behind = b })
    = ap (option_and_then (say (Start name))) named
    ∙ ap (λ t. cond t (Some (record { attributes = []; siblings = Node tt (Element name attributes) children siblings; behind = b })) None)
    (same_name name) in
    ap (λ s. say_all (s ++ rest)) split
    ∙ ap say_all (ap (λ s. Start name ∷ s)
    (append_assoc (map attribute_event attributes ++ inner) (End name ∷ later) rest
    ∙ append_assoc (map attribute_event attributes) inner (End name ∷ (later ++ rest)))) ∙ whole
forest_said events f (is_text {rest = later} {siblings = siblings} text behind is) rest b e =
    ap (option_and_then (say (Data text))) (forest_said later siblings behind rest b e)
    ∙ ap (λ g. Some (record { attributes = []; siblings = g; behind = b })) (sym is)
forest_said events f (is_comment {rest = later} {siblings = siblings} text behind) rest b e =
    ap (option_and_then (say (CommentEvent text))) (forest_said later siblings behind rest b e)
forest_said events f (is_instruction {rest = later} {siblings = siblings} target text behind) rest b e =
    ap (option_and_then (say (InstructionEvent target text))) (forest_said later siblings behind rest b e)

-- ---- What is said is a forest's

-- behind each end stand the events of its forest
abbrev IsTail : List (Event (List ℕ)) → List (List ℕ × Plain) → Type 0
IsTail tail [] = tail ≡ []
IsTail tail (end ∷ behind) =
    (inner : List (Event (List ℕ))) × (rest : List (Event (List ℕ))) × (tail ≡ End end.0 ∷ (inner ++ rest)) × IsForestOf inner end.1
    × IsTail rest behind

pub record Parts (events : List (Event (List ℕ))) (attributes : List Written) (siblings : Plain) (behind : List (List ℕ × Plain)) : Type 0 where
  pub inner : List (Event (List ℕ))
  pub tail : List (Event (List ℕ))
  pub is : events ≡ map attribute_event attributes ++ (inner ++ tail)
  pub forest : IsForestOf inner siblings
  pub behind_is : IsTail tail behind

abbrev PartsOf : List (Event (List ℕ)) → Said → Type 0
PartsOf events r = Parts events r.attributes r.siblings r.behind

some_same : {A : Type 0} (x y : A) → Some x ≡ Some y → x ≡ y
some_same x y e = ap (λ o. elim o [ Some z ↦ z | None ↦ x ]) e

-- a case that stands in front of siblings alone
alone_parts : (e : Event (List ℕ)) (events : List (Event (List ℕ))) (more : List Written) (f : Plain) (b : List (List ℕ × Plain)) (g : Plain)
    (r : Said)
    → ((inner : List (Event (List ℕ))) → IsForestOf inner f → IsForestOf (e ∷ inner) g)
    → Parts events more f b → alone_only more (record { attributes = []; siblings = g; behind = b }) ≡ Some r → PartsOf (e ∷ events) r
alone_parts e events [] f b g r make p s =
    subst (PartsOf (e ∷ events)) (some_same (record { attributes = []; siblings = g; behind = b }) r s)
    (record { inner = e ∷ p.inner; tail = p.tail; is = ap (λ es. e ∷ es) p.is; forest = make p.inner p.forest; behind_is = p.behind_is })
alone_parts e events (a ∷ more) f b g r make p s = absurd (cc)

end_parts : (name : List ℕ) (events : List (Event (List ℕ))) (more : List Written) (f : Plain) (b : List (List ℕ × Plain)) (r : Said)
    → Parts events more f b → alone_only more (record { attributes = []; siblings = Empty; behind = (name, f) ∷ b }) ≡ Some r
    → PartsOf (End name ∷ events) r
end_parts name events [] f b r p s =
    subst (PartsOf (End name ∷ events)) (some_same (record { attributes = []; siblings = Empty; behind = (name, f) ∷ b }) r s)
    (record {
      inner = [];
      tail = End name ∷ events;
      is = refl;
      forest = is_empty;
      behind_is =
          (p.inner, p.tail, ap (λ es. End name ∷ es) p.is, p.forest, p.behind_is);
    })
end_parts name events (a ∷ more) f b r p s = absurd (cc)

start_parts : (name : List ℕ) (events : List (Event (List ℕ))) (more : List Written) (f : Plain) (b : List (List ℕ × Plain)) (r : Said)
    → Parts events more f b → start_said name more f b ≡ Some r → PartsOf (Start name ∷ events) r
start_parts name events more f [] r p s = absurd (cc)
start_parts name events more f (end ∷ behind) r p s =
    elim (bytes_eq name end.0) as (λ t. bytes_eq name end.0 ≡ t
    → cond t (Some (record { attributes = []; siblings = Node tt (Element name more) f end.1; behind = behind })) None ≡ Some r
    → PartsOf (Start name ∷ events) r) [
      | false ↦ λ _ n. absurd (cc)
      | true ↦ λ t made.
          let same : end.0 ≡ name = sym ((bytes_eq-Decides name end.0).0 t) in
          let later = p.behind_is.0 in
          let tail = p.behind_is.1 in
          let whole : Start name ∷ events ≡ (Start name ∷ map attribute_event more ++ p.inner ++ End name ∷ later) ++ tail =
          ap (λ es. Start name ∷ es)
          (p.is ∙ ap (λ es. map attribute_event more ++ (p.inner ++ es)) (p.behind_is.2 ∙ ap (λ n. End n ∷ (later ++ tail)) same)
          ∙ sym (append_assoc (map attribute_event more ++ p.inner) (End name ∷ later) tail
          ∙ append_assoc (map attribute_event more) p.inner (End name ∷ (later ++ tail)))) in
          subst (PartsOf (Start name ∷ events))
          (some_same (record { attributes = []; siblings = Node tt (Element name more) f end.1; behind = behind }) r made)
          (record {
            inner = Start name ∷ map attribute_event more ++ p.inner ++ End name ∷ later;
            tail = tail;
            is = whole;
            forest =
                is_element name more refl p.forest p.behind_is.3;
            behind_is = p.behind_is.4;
          })
    ] refl s

-- nothing is said of attributes where there are none
alone_front : (more : List Written) (b : List (List ℕ × Plain)) (g : Plain) (r : Said)
    → alone_only more (record { attributes = more; siblings = g; behind = b }) ≡ Some r
    → alone_only more (record { attributes = []; siblings = g; behind = b }) ≡ Some r
alone_front [] b g r s = s
alone_front (a ∷ more) b g r s = s

event_parts : (e : Event (List ℕ)) (events : List (Event (List ℕ))) (q r : Said) → PartsOf events q → say e q ≡ Some r → PartsOf (e ∷ events) r
event_parts (Start name) events q r p s = start_parts name events q.attributes q.siblings q.behind r p s
event_parts (Attribute name value) events q r p s =
    subst (PartsOf (Attribute name value ∷ events)) (some_same (record q { attributes = record { name = name; value = value } ∷ q.attributes }) r s)
    (record { inner = p.inner; tail = p.tail; is = ap (λ es. Attribute name value ∷ es) p.is; forest = p.forest; behind_is = p.behind_is })
event_parts (Data text) events q r p s =
    alone_parts (Data text) events q.attributes q.siblings q.behind (with_text text q.siblings) r (λ inner d. is_text text d refl) p
    (alone_front q.attributes q.behind (with_text text q.siblings) r s)
event_parts (InstructionEvent target text) events q r p s =
    alone_parts (InstructionEvent target text) events q.attributes q.siblings q.behind (Node tt (Instruction target text) Empty q.siblings) r
    (λ inner d. is_instruction target text d) p
    (alone_front q.attributes q.behind (Node tt (Instruction target text) Empty q.siblings) r s)
event_parts (End name) events q r p s = end_parts name events q.attributes q.siblings q.behind r p s
event_parts (CommentEvent text) events q r p s =
    alone_parts (CommentEvent text) events q.attributes q.siblings q.behind (Node tt (Comment text) Empty q.siblings) r (λ inner d. is_comment text d) p
    (alone_front q.attributes q.behind (Node tt (Comment text) Empty q.siblings) r s)

said_parts : (events : List (Event (List ℕ))) (r : Said) → say_all events ≡ Some r → PartsOf events r
said_parts [] r s =
    subst (PartsOf []) (some_same (record { attributes = []; siblings = Empty; behind = [] }) r s)
    (record { inner = []; tail = []; is = refl; forest = is_empty; behind_is = refl })
said_parts (e ∷ events) r s =
    elim (say_all events) as (λ q. say_all events ≡ q → option_and_then (say e) q ≡ Some r → PartsOf (e ∷ events) r) [
      | None ↦ λ _ none. absurd (cc)
      | Some q ↦ λ is made. event_parts e events q r (said_parts events q is) made
    ] refl s

-- ---- The two laws

-- nothing is left over
closed_said : List Written → Plain → List (List ℕ × Plain) → Option Plain
closed_said [] siblings [] = Some siblings
closed_said [] siblings (end ∷ behind) = None
closed_said (a ∷ more) siblings behind = None

close : Said → Option Plain
close r = closed_said r.attributes r.siblings r.behind

closed_step : (more : List (ℕ × Written)) (f : Forest LineNumbers) (b : List (List ℕ × Forest LineNumbers))
    → option_map plain (closed more f b) ≡ closed_said (map (λ a. a.1) more) (plain f) (map (λ x. (x.0, plain x.1)) b)
unfolding closed_said
closed_step [] f [] = refl
closed_step [] f (end ∷ behind) = refl
closed_step (a ∷ more) f b = refl

close_option : (r : Option Rest)
    → option_map plain (option_and_then (λ rest. closed rest.attributes rest.siblings rest.behind) r) ≡ option_and_then close (option_map said r)
unfolding close
close_option None = refl
close_option (Some r) = closed_step r.attributes r.siblings r.behind

-- the forest of the events, its lines forgotten, is what they say when nothing is left over
forest_of-said : (events : List (ℕ × Event (List ℕ)))
    → option_map plain (forest_of events) ≡ option_and_then close (say_all (map (λ e. e.1) events))
forest_of-said events = close_option (rest_of events) ∙ ap (option_and_then close) (said_all events)

nothing_over : (events : List (Event (List ℕ))) (more : List Written) (g : Plain) (b : List (List ℕ × Plain)) (f : Plain)
    → Parts events more g b → closed_said more g b ≡ Some f → IsForestOf events f
unfolding closed_said
nothing_over events [] g [] f p s =
    subst (λ h. IsForestOf events h) (some_same g f s)
    (subst (λ es. IsForestOf es g) (sym (p.is ∙ ap (λ es. p.inner ++ es) p.behind_is ∙ append-nil p.inner)) p.forest)
nothing_over events [] g (end ∷ behind) f p s = absurd (cc)
nothing_over events (a ∷ more) g b f p s = absurd (cc)

pub computed_is_forest : (events : List (ℕ × Event (List ℕ))) (f : Plain) → option_map plain (forest_of events) ≡ Some f
    → IsForestOf (map (λ e. e.1) events) f
unfolding close
computed_is_forest events f s = go (say_all (map (λ e. e.1) events)) refl (sym (forest_of-said events) ∙ s)
  where
    go : (q : Option Said) → say_all (map (λ e. e.1) events) ≡ q → option_and_then close q ≡ Some f → IsForestOf (map (λ e. e.1) events) f
    go None is s = absurd (cc)
    go (Some q) is s = nothing_over _ q.attributes q.siblings q.behind f (said_parts _ q is) s

forest_closes : (events : List (Event (List ℕ))) (f : Plain) → IsForestOf events f → option_and_then close (say_all events) ≡ Some f
unfolding close closed_said
forest_closes events f d =
    ap (λ es. option_and_then close (say_all es)) (sym (append-nil events)) ∙ ap (option_and_then close) (forest_said events f d [] [] refl)

pub forest_is_computed : (events : List (ℕ × Event (List ℕ))) (f : Plain) → IsForestOf (map (λ e. e.1) events) f
    → option_map plain (forest_of events) ≡ Some f
forest_is_computed events f d = forest_of-said events ∙ forest_closes _ f d

pub one_forest : (events : List (Event (List ℕ))) (f g : Plain) → IsForestOf events f → IsForestOf events g → f ≡ g
one_forest events f g d e = some_same f g (sym (forest_closes events f d) ∙ forest_closes events g e)
