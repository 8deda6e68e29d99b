-- Siblings by their numbers and those below them, and what changes of siblings keep.
use Rattle.std.proofs.Common.{◌≡◌, ◌<◌, arith, ℕ, ◌==◌, List, [], ◌∷◌, ◌++◌, map, drop, refl, sym, ap, ◌∙◌, append_assoc}
use Rattle.spec_document.specs.Forest.{Content, Element, Text, Comment, Instruction, Forest, Empty, Node, labels, followed}
use Rattle.spec_edit.specs.Splice.{text_before, last_before, met}
use Rattle.spec_change.specs.Change.{sibling_labels}
use Rattle.spec_edit.proofs.Numbers.{occurs, occurs-append}

-- a sibling's number, and the numbers below it in document order
pub record Branch : Type 0 where
  pub number : ℕ
  pub below : List ℕ

abbrev pub branch : ℕ → Forest ℕ → Branch
branch number children = record { number = number; below = labels children }

abbrev pub branches : Forest ℕ → List Branch
branches Empty = []
branches (Node label content children siblings) = branch label children ∷ branches siblings

-- all their numbers in document order
abbrev pub flat : List Branch → List ℕ
flat [] = []
flat (b ∷ bs) = b.number ∷ b.below ++ flat bs

pub flat-branches : (f : Forest ℕ) → flat (branches f) ≡ labels f
flat-branches Empty = refl
flat-branches (Node l c f s) = ap (λ ns. l ∷ labels f ++ ns) (flat-branches s)

pub flat-append : (xs ys : List Branch) → flat (xs ++ ys) ≡ flat xs ++ flat ys
flat-append [] ys = refl
flat-append (b ∷ bs) ys =
    ap (λ ns. b.number ∷ b.below ++ ns) (flat-append bs ys) ∙ ap (λ ns. b.number ∷ ns) (sym (append_assoc b.below (flat bs) (flat ys)))

pub number-branches : (f : Forest ℕ) → map (λ (b : Branch). b.number) (branches f) ≡ sibling_labels f
number-branches Empty = refl
number-branches (Node l c f s) = ap (λ ns. l ∷ ns) (number-branches s)

pub branches-followed : (f g : Forest ℕ) → branches (followed f g) ≡ branches f ++ branches g
branches-followed Empty g = refl
branches-followed (Node l c f s) g = ap (λ bs. branch l f ∷ bs) (branches-followed s g)

-- ---- Texts that meet

-- siblings and others after them, where the first of the others may have joined a text before it
pub data Meets (fs gs : List Branch) : List Branch → Type 0 where
  beside : Meets fs gs (fs ++ gs)
  joins : (b : Branch) → (rest : List Branch) → gs ≡ b ∷ rest → Meets fs gs (fs ++ rest)

text-meets : (l : ℕ) (text : List ℕ) (children others : Forest ℕ)
    → Meets (branch l children ∷ []) (branches others) (branches (text_before l text children others))
text-meets l text children Empty = beside
text-meets l text children (Node k (Element n a) f s) = beside
text-meets l text children (Node k (Text t) f s) = joins (branch k f) (branches s) refl
text-meets l text children (Node k (Comment t) f s) = beside
text-meets l text children (Node k (Instruction n t) f s) = beside

last-meets : (l : ℕ) (c : Content) (children others : Forest ℕ)
    → Meets (branch l children ∷ []) (branches others) (branches (last_before l c children others))
last-meets l (Element n a) children others = beside
last-meets l (Text t) children others = text-meets l t children others
last-meets l (Comment t) children others = beside
last-meets l (Instruction n t) children others = beside

one-more : (b : Branch) (fs gs hs : List Branch) → Meets fs gs hs → Meets (b ∷ fs) gs (b ∷ hs)
one-more b fs gs _ beside = beside
one-more b fs gs _ (joins next rest e) = joins next rest e

pub meets : (f g : Forest ℕ) → Meets (branches f) (branches g) (branches (met f g))
meets Empty g = beside
meets (Node l c f Empty) g = last-meets l c f g
meets (Node l c f (Node k d h s)) g = one-more (branch l f) (branches (Node k d h s)) (branches g) (branches (met (Node k d h s) g)) (meets (Node k d h s) g)

-- ---- Siblings that are the same before and after but for some between them

pub record Parted (first : ℕ) (old new : List Branch) : Type 0 where
  pub front : List Branch
  pub gone : List Branch
  pub brought : List Branch
  pub behind : List Branch
  pub old_is : old ≡ front ++ (gone ++ behind)
  pub new_is : new ≡ front ++ (brought ++ behind)
  -- what is brought has numbers from the first on
  pub fresh : (n : ℕ) → n < first → occurs (λ m. m == n) (flat brought) ≡ 0

pub none_parted : (first : ℕ) (all : List Branch) → Parted first all all
none_parted first all =
    record { front = []; gone = []; brought = []; behind = all; old_is = refl; new_is = refl; fresh = λ n h. refl }

pub deletion_parted : (first : ℕ) (before : List Branch) (b : Branch) (after new : List Branch) → Meets before after new
    → Parted first (before ++ (b ∷ after)) new
deletion_parted first before b after _ beside =
    record { front = before; gone = b ∷ []; brought = []; behind = after; old_is = refl; new_is = refl; fresh = λ n h. refl }
deletion_parted first before b after _ (joins next rest e) =
    record {
      front = before;
      gone = b ∷ next ∷ [];
      brought = [];
      behind = rest;
      old_is = ap (λ bs. before ++ (b ∷ bs)) e;
      new_is = refl;
      fresh = λ n h. refl;
    }

pub renewal_parted : (first : ℕ) (before : List Branch) (b : Branch) (new after : List Branch)
    → ((n : ℕ) → n < first → occurs (λ m. m == n) (flat new) ≡ 0) → Parted first (before ++ (b ∷ after)) (before ++ (new ++ after))
renewal_parted first before b new after fresh =
    record { front = before; gone = b ∷ []; brought = new; behind = after; old_is = refl; new_is = refl; fresh = fresh }

later-fresh : (k : Branch) (ks : List Branch) (n : ℕ) → occurs (λ m. m == n) (flat (k ∷ ks)) ≡ 0 → occurs (λ m. m == n) (flat ks) ≡ 0
later-fresh k ks n none = let both = occurs-append (λ m. m == n) k.below (flat ks) in omega arith

tail_same : (x y : Branch) (xs ys : List Branch) → x ∷ xs ≡ y ∷ ys → xs ≡ ys
tail_same x y xs ys e = ap (drop 1) e

-- where what comes after meets nothing before it, and where its first joins what is before
inner_parted : (first : ℕ) (before nodes after others : List Branch)
    → ((n : ℕ) → n < first → occurs (λ m. m == n) (flat nodes) ≡ 0)
    → Meets nodes after others → Parted first (before ++ after) (before ++ others)
inner_parted first before nodes after _ fresh beside =
    record { front = before; gone = []; brought = nodes; behind = after; old_is = refl; new_is = refl; fresh = fresh }
inner_parted first before nodes after _ fresh (joins b rest e) =
    record {
      front = before;
      gone = b ∷ [];
      brought = nodes;
      behind = rest;
      old_is = ap (λ bs. before ++ bs) e;
      new_is = refl;
      fresh = fresh;
    }

outer_parted : (first : ℕ) (before nodes after others : List Branch) (m : Branch) (ms : List Branch)
    → ((n : ℕ) → n < first → occurs (λ m. m == n) (flat nodes) ≡ 0)
    → Meets nodes after others → others ≡ m ∷ ms → Parted first (before ++ after) (before ++ ms)
outer_parted first before [] after _ m ms fresh beside e =
    record {
      front = before;
      gone = m ∷ [];
      brought = [];
      behind = ms;
      old_is = ap (λ bs. before ++ bs) e;
      new_is = refl;
      fresh = λ n h. refl;
    }
outer_parted first before (k ∷ ks) after _ m ms fresh beside e =
    record {
      front = before;
      gone = [];
      brought = ks;
      behind = after;
      old_is = refl;
      new_is = ap (λ bs. before ++ bs) (sym (tail_same k m (ks ++ after) ms e));
      fresh = λ n h. later-fresh k ks n (fresh n h);
    }
outer_parted first before [] after _ m ms fresh (joins b rest f) e =
    record {
      front = before;
      gone = b ∷ m ∷ [];
      brought = [];
      behind = ms;
      old_is = ap (λ bs. before ++ bs) (f ∙ ap (λ bs. b ∷ bs) e);
      new_is = refl;
      fresh = λ n h. refl;
    }
outer_parted first before (k ∷ ks) after _ m ms fresh (joins b rest f) e =
    record {
      front = before;
      gone = b ∷ [];
      brought = ks;
      behind = rest;
      old_is = ap (λ bs. before ++ bs) f;
      new_is = ap (λ bs. before ++ bs) (sym (tail_same k m (ks ++ rest) ms e));
      fresh = λ n h. later-fresh k ks n (fresh n h);
    }

pub insertion_parted : (first : ℕ) (before nodes after others new : List Branch)
    → ((n : ℕ) → n < first → occurs (λ m. m == n) (flat nodes) ≡ 0)
    → Meets nodes after others → Meets before others new → Parted first (before ++ after) new
insertion_parted first before nodes after others _ fresh inner beside = inner_parted first before nodes after others fresh inner
insertion_parted first before nodes after others _ fresh inner (joins m ms e) = outer_parted first before nodes after others m ms fresh inner e
