-- What stands directly under a root: one element, and no text.
use Rattle.std.proofs.Common.{◌≡◌, ◌≤◌, arith, ℕ, ◌+◌, refl, sym, ap, ◌∙◌, subst}
use Rattle.spec_document.specs.Forest.{Content, Element, Text, Comment, Instruction, Forest, Empty, Node, plain, size, numbered, followed}
use Rattle.spec_document.specs.Top.{without_texts}
use Rattle.spec_edit.specs.Splice.{first_siblings, later_siblings, last_before, met, inserted}
use Rattle.spec_edit.specs.Edit.{element_count, without_lines}
use Rattle.spec_edit.proofs.Around.{first-later}
use Rattle.spec_edit.proofs.Faultless.{one_of, elements-followed, elements-met}
use Rattle.spec_move.proofs.Moving.{Rearranged, is_later, is_earlier}

abbrev pub AreNoTexts : {L : Type 0} → Forest L → Type 0
AreNoTexts Empty = Unit {0}
AreNoTexts (Node l (Element m a) f s) = AreNoTexts s
AreNoTexts (Node l (Text t) f s) = ⊥
AreNoTexts (Node l (Comment t) f s) = AreNoTexts s
AreNoTexts (Node l (Instruction m t) f s) = AreNoTexts s

size-texts : {L : Type 0} (f : Forest L) → size (without_texts f) ≤ size f
size-texts Empty = omega arith
size-texts (Node l (Element m a) f s) = let rest = size-texts s in omega arith
size-texts (Node l (Text t) f s) = let rest = size-texts s in omega arith
size-texts (Node l (Comment t) f s) = let rest = size-texts s in omega arith
size-texts (Node l (Instruction m t) f s) = let rest = size-texts s in omega arith

pub no-texts-of : {L : Type 0} (f : Forest L) → without_texts f ≡ f → AreNoTexts f
no-texts-of Empty e = tt
no-texts-of (Node l (Element m a) f s) e = no-texts-of s (cc)
no-texts-of (Node l (Text t) f s) e = let less = size-texts s in let same = ap size e in omega arith
no-texts-of (Node l (Comment t) f s) e = no-texts-of s (cc)
no-texts-of (Node l (Instruction m t) f s) e = no-texts-of s (cc)

pub no-texts-to : {L : Type 0} (f : Forest L) → AreNoTexts f → without_texts f ≡ f
no-texts-to Empty h = refl
no-texts-to (Node l (Element m a) f s) h = ap (Node l (Element m a) f) (no-texts-to s h)
no-texts-to (Node l (Text t) f s) h = absurd h
no-texts-to (Node l (Comment t) f s) h = ap (Node l (Comment t) f) (no-texts-to s h)
no-texts-to (Node l (Instruction m t) f s) h = ap (Node l (Instruction m t) f) (no-texts-to s h)

pub no-texts-without : {L : Type 0} (f : Forest L) → AreNoTexts (without_texts f)
no-texts-without Empty = tt
no-texts-without (Node l (Element m a) f s) = no-texts-without s
no-texts-without (Node l (Text t) f s) = no-texts-without s
no-texts-without (Node l (Comment t) f s) = no-texts-without s
no-texts-without (Node l (Instruction m t) f s) = no-texts-without s

pub no-texts-numbered : {L : Type 0} (n : ℕ) (f : Forest L) → AreNoTexts f → AreNoTexts (numbered n (plain f))
no-texts-numbered n Empty h = tt
no-texts-numbered n (Node l (Element m a) f s) h = no-texts-numbered (n + 1 + size (plain f)) s h
no-texts-numbered n (Node l (Text t) f s) h = h
no-texts-numbered n (Node l (Comment t) f s) h = no-texts-numbered (n + 1 + size (plain f)) s h
no-texts-numbered n (Node l (Instruction m t) f s) h = no-texts-numbered (n + 1 + size (plain f)) s h

-- one node with other siblings behind it
no-texts-more : {L : Type 0} (l : L) (c : Content) (f s r : Forest L) → AreNoTexts (Node l c f s) → AreNoTexts r → AreNoTexts (Node l c f r)
no-texts-more l (Element m a) f s r h k = k
no-texts-more l (Text t) f s r h k = h
no-texts-more l (Comment t) f s r h k = k
no-texts-more l (Instruction m t) f s r h k = k

pub no-texts-behind : {L : Type 0} (l : L) (c : Content) (f s : Forest L) → AreNoTexts (Node l c f s) → AreNoTexts s
no-texts-behind l (Element m a) f s h = h
no-texts-behind l (Text t) f s h = absurd h
no-texts-behind l (Comment t) f s h = h
no-texts-behind l (Instruction m t) f s h = h

no-texts-followed : {L : Type 0} (f g : Forest L) → AreNoTexts f → AreNoTexts g → AreNoTexts (followed f g)
no-texts-followed Empty g h k = k
no-texts-followed (Node l c f s) g h k =
    no-texts-more l c f s (followed s g) h (no-texts-followed s g (no-texts-behind l c f s h) k)

pub no-texts-parts : {L : Type 0} (f g : Forest L) → AreNoTexts (followed f g) → AreNoTexts f × AreNoTexts g
no-texts-parts Empty g h = (tt, h)
no-texts-parts (Node l c f s) g h =
    let rest = no-texts-parts s g (no-texts-behind l c f (followed s g) h) in (no-texts-more l c f (followed s g) s h rest.0, rest.1)

no-texts-last : {L : Type 0} (l : L) (c : Content) (f g : Forest L) → AreNoTexts (Node l c f Empty) → AreNoTexts g → AreNoTexts (last_before l c f g)
no-texts-last l (Element m a) f g h k = k
no-texts-last l (Text t) f g h k = absurd h
no-texts-last l (Comment t) f g h k = k
no-texts-last l (Instruction m t) f g h k = k

pub no-texts-met : {L : Type 0} (f g : Forest L) → AreNoTexts f → AreNoTexts g → AreNoTexts (met f g)
no-texts-met Empty g h k = k
no-texts-met (Node l c f Empty) g h k = no-texts-last l c f g h k
no-texts-met (Node l c f (Node m d e s)) g h k =
    no-texts-more l c f (Node m d e s) (met (Node m d e s) g) h (no-texts-met (Node m d e s) g (no-texts-behind l c f (Node m d e s) h) k)

-- ---- Elements, counted

pub elements-lines : {L : Type 0} (f : Forest L) → element_count (without_texts (without_lines f)) ≡ element_count (without_texts f)
elements-lines Empty = refl
elements-lines (Node l (Element m a) f s) = let rest = elements-lines s in omega arith
elements-lines (Node l (Text t) f s) = elements-lines s
elements-lines (Node l (Comment t) f s) = let rest = elements-lines s in omega arith
elements-lines (Node l (Instruction m t) f s) = let rest = elements-lines s in omega arith

pub elements-anew : {L : Type 0} (n : ℕ) (f : Forest L) → element_count (numbered n (plain f)) ≡ element_count f
elements-anew n Empty = refl
elements-anew n (Node l c f s) = ap (λ m. one_of c + m) (elements-anew (n + 1 + size (plain f)) s)

-- ---- A top, and what leaves it one

pub record IsTop {L : Type 0} (f : Forest L) : Type 0 where
  pub one : element_count f ≡ 1
  pub no_texts : AreNoTexts f

-- below the top nothing is asked
pub top-below : {L : Type 0} (before : Forest L) (l : L) (c : Content) (f g after : Forest L) → IsTop (followed before (Node l c f after))
    → IsTop (followed before (Node l c g after))
top-below before l c f g after t =
    let parts = no-texts-parts before (Node l c f after) t.no_texts in
    let was = elements-followed before (Node l c f after) in
    let now = elements-followed before (Node l c g after) in
    let one = t.one in
    record { one = omega arith; no_texts = no-texts-followed before (Node l c g after) parts.0 (by c parts.1) }
  where
    by : (d : Content) → AreNoTexts (Node l d f after) → AreNoTexts (Node l d g after)
    by (Element m a) h = h
    by (Text t) h = h
    by (Comment t) h = h
    by (Instruction m t) h = h

-- the node moved among its siblings
pub top-rearranged : {L : Type 0} (before : Forest L) (l : L) (c : Content) (f after whole : Forest L) → Rearranged before (Node l c f Empty) after whole
    → IsTop (followed before (Node l c f after)) → IsTop whole
top-rearranged before l c f after whole (is_later between rest e is) t =
    let node = Node l c f Empty in
    let parts = no-texts-parts before (Node l c f after) t.no_texts in
    let alone = no-texts-parts node after parts.1 in
    let later = no-texts-parts between rest (subst AreNoTexts e alone.1) in
    let was = elements-followed before (Node l c f after) in
    let behind = ap element_count e ∙ elements-followed between rest in
    let outer = elements-met before (met (met between node) rest) in
    let middle = elements-met (met between node) rest in
    let inner = elements-met between node in
    let one = t.one in
    subst IsTop (sym is) (record {
      one = omega arith;
      no_texts = no-texts-met before (met (met between node) rest) parts.0
          (no-texts-met (met between node) rest (no-texts-met between node later.0 alone.0) later.1);
    })
top-rearranged before l c f after whole (is_earlier front between e is) t =
    let node = Node l c f Empty in
    let parts = no-texts-parts before (Node l c f after) t.no_texts in
    let alone = no-texts-parts node after parts.1 in
    let earlier = no-texts-parts front between (subst AreNoTexts e parts.0) in
    let was = elements-followed before (Node l c f after) in
    let ahead = ap element_count e ∙ elements-followed front between in
    let outer = elements-met front (met (met node between) after) in
    let middle = elements-met (met node between) after in
    let inner = elements-met node between in
    let one = t.one in
    subst IsTop (sym is) (record {
      one = omega arith;
      no_texts = no-texts-met front (met (met node between) after) earlier.0
          (no-texts-met (met node between) after (no-texts-met node between alone.0 earlier.1) alone.1);
    })

-- nodes put in that are no elements
pub top-inserted : {L : Type 0} (n : ℕ) (nodes f : Forest L) → element_count nodes ≡ 0 → AreNoTexts nodes → IsTop f → IsTop (inserted n nodes f)
top-inserted n nodes f none own t =
    let before = first_siblings n f in
    let after = later_siblings n f in
    let whole = first-later n f in
    let parts = no-texts-parts before after (subst AreNoTexts (sym whole) t.no_texts) in
    let was : element_count f ≡ element_count before + element_count after = ap element_count (sym whole) ∙ elements-followed before after in
    let outer = elements-met before (met nodes after) in
    let inner = elements-met nodes after in
    let one = t.one in
    record { one = omega arith; no_texts = no-texts-met before (met nodes after) parts.0 (no-texts-met nodes after own parts.1) }
