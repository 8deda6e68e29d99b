-- Two ways to name the nodes of a document: by a key of its entry in one listing, and by a key of its entry in another that stands
-- beside the first.
use Rattle.std.specs.Prelude.{◌≡◌, Bool, true, false, List, [], ◌∷◌}
use Rattle.spec_document.specs.Forest.{Document, plain}
use Rattle.spec_document.specs.Place.{kind_of, expanded_name, written_name, string_value}
use Rattle.spec_document.specs.Order.{Entry}

-- two that stand at the same index of two lists
pub data Beside {A B : Type 0} : List A → List B → A → B → Type 0 where
  first : {x : A} {y : B} {xs : List A} {ys : List B} → Beside (x ∷ xs) (y ∷ ys) x y
  later : {x z : A} {y w : B} {xs : List A} {ys : List B} → Beside xs ys x y → Beside (z ∷ xs) (w ∷ ys) x y

-- the two are keys of entries that stand beside one another
pub record Names {L M K J : Type 0} (key : Entry L → K) (also : Entry M → J) (entries : List (Entry L)) (others : List (Entry M)) (k : K) (j : J) : Type 0 where
  pub entry : Entry L
  pub other : Entry M
  pub beside : Beside entries others entry other
  pub named : key entry ≡ k
  pub also_named : also other ≡ j

-- two entries that nothing tells apart but their labels
pub record Alike {L M : Type 0} (e : Entry L) (f : Entry M) : Type 0 where
  pub place : e.place ≡ f.place
  pub number : e.number ≡ f.number
  pub kind : kind_of e.item ≡ kind_of f.item
  pub name : expanded_name e.item ≡ expanded_name f.item
  pub written : written_name e.item ≡ written_name f.item
  pub text : string_value e.item ≡ string_value f.item

-- each key is the same as itself, and another than the keys of all that stand behind
abbrev pub AllDiffer : {A K : Type 0} → (A → K) → (K → K → Bool) → A → List A → Type 0
AllDiffer key same x [] = Unit {0}
AllDiffer key same x (y ∷ ys) = (same (key x) (key y) ≡ false) × (same (key y) (key x) ≡ false) × AllDiffer key same x ys

abbrev pub AreApart : {A K : Type 0} → (A → K) → (K → K → Bool) → List A → Type 0
AreApart key same [] = Unit {0}
AreApart key same (x ∷ xs) = (same (key x) (key x) ≡ true) × AllDiffer key same x xs × AreApart key same xs

-- the document without its labels
abbrev pub unlabelled : {L : Type 0} → Document L → Document (Unit {0})
unlabelled document = record { root = tt; nodes = plain document.nodes }
