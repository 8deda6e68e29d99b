-- What is seen of siblings of which some are others is what was seen of them, with what is seen of the others.
use Rattle.std.proofs.Common.{◌≡◌, ◌≢◌, ℕ, zero, suc, ◌+◌, ◌-◌, ◌≤◌, ◌==◌, Bool, true, false, cond, List, Option, Some, None, arith, refl, sym, ap, ◌∙◌}
use Rattle.std.proofs.lemmas.Bool.{eqb-true}
use Rattle.std.specs.Prelude.{not, ◌&&◌, if◌then◌else◌, Result, Ok, Err, IfOk, IfSome}
use Rattle.spec_document.specs.Forest.{Written, Content, Element, Text, Comment, Instruction, Forest, Empty, Node, followed}
use Rattle.spec_edit.specs.Splice.{below_changed, first_siblings, later_siblings, replaced, sibling_count}
use Rattle.spec_edit.proofs.Around.{first-later}
use Rattle.spec_seen.specs.Seen.{Around, around_in, seen_among}
use Rattle.spec_structure.specs.Inside.{is_white}
use Rattle.spec_stylesheet.specs.Sheet.{SpaceRule}
use Rattle.xt_strip.specs.Along.{shown_count}

pub unlike : (n m : ℕ) → n ≢ m → (n == m) ≡ false
unlike n m h =
    elim (n == m) as (λ b. (n == m) ≡ b → b ≡ false) [
      | true ↦ λ e. absurd (h (eqb-true n m e))
      | false ↦ λ _. refl
    ] refl

-- ---- Siblings by their number

more : (n : ℕ) → (1 + n == 0) ≡ false
more n = unlike (1 + n) 0 (λ e. omega arith)

less : (n : ℕ) → 1 + n - 1 ≡ n
less n = omega arith

pub next : (n : ℕ) → suc n ≡ 1 + n
next n = omega arith

pub first-next : (n l : ℕ) (c : Content) (f s : Forest ℕ) → first_siblings (1 + n) (Node l c f s) ≡ Node l c f (first_siblings n s)
first-next n l c f s =
    ap (λ b. cond b Empty (Node l c f (first_siblings (1 + n - 1) s))) (more n) ∙ ap (λ m. Node l c f (first_siblings m s)) (less n)

pub later-next : (n l : ℕ) (c : Content) (f s : Forest ℕ) → later_siblings (1 + n) (Node l c f s) ≡ later_siblings n s
later-next n l c f s =
    ap (λ b. cond b (Node l c f s) (later_siblings (1 + n - 1) s)) (more n) ∙ ap (λ m. later_siblings m s) (less n)

below-next : (g : Forest ℕ → Forest ℕ) (n l : ℕ) (c : Content) (f s : Forest ℕ)
    → below_changed g (1 + n + 1) (Node l c f s) ≡ Node l c f (below_changed g (n + 1) s)
below-next g n l c f s =
    let back : 1 + n + 1 - 1 ≡ n + 1 = omega arith in
    ap (λ b. cond b (Node l c (g f) s) (Node l c f (below_changed g (1 + n + 1 - 1) s))) (unlike (1 + n + 1) 1 (λ e. omega arith))
    ∙ ap (λ m. Node l c f (below_changed g m s)) back

pub first-none : (f : Forest ℕ) → first_siblings 0 f ≡ Empty
first-none Empty = refl
first-none (Node l c f s) = refl

pub later-none : (f : Forest ℕ) → later_siblings 0 f ≡ f
later-none Empty = refl
later-none (Node l c f s) = refl

first-count : (f g : Forest ℕ) → first_siblings (sibling_count f) (followed f g) ≡ f
first-count Empty g = first-none g
first-count (Node l c f s) g = first-next (sibling_count s) l c f (followed s g) ∙ ap (Node l c f) (first-count s g)

later-count : (f g : Forest ℕ) → later_siblings (sibling_count f) (followed f g) ≡ g
later-count Empty g = later-none g
later-count (Node l c f s) g = later-next (sibling_count s) l c f (followed s g) ∙ later-count s g

count-followed : (f g : Forest ℕ) → sibling_count (followed f g) ≡ sibling_count f + sibling_count g
count-followed Empty g = omega arith
count-followed (Node l c f s) g = let rest = count-followed s g in omega arith

count-first : (n : ℕ) (f : Forest ℕ) → n ≤ sibling_count f → sibling_count (first_siblings n f) ≡ n
count-first zero f h = ap sibling_count (first-none f)
count-first (suc n) Empty h = absurd (omega arith)
count-first (suc n) (Node l c f s) h =
    let rest = count-first n s (omega arith) in
    let is : suc n ≡ 1 + n = omega arith in
    ap (λ m. sibling_count (first_siblings m (Node l c f s))) is ∙ ap sibling_count (first-next n l c f s) ∙ ap (λ m. 1 + m) rest ∙ sym is

count-later : (n : ℕ) (f : Forest ℕ) → sibling_count (later_siblings n f) ≡ sibling_count f - n
count-later zero f = ap sibling_count (later-none f) ∙ is (sibling_count f)
  where
    is : (m : ℕ) → m ≡ m - 0
    is m = omega arith
count-later (suc n) Empty = omega arith
count-later (suc n) (Node l c f s) =
    let rest = count-later n s in
    let is : sibling_count s - n ≡ 1 + sibling_count s - suc n = omega arith in
    ap (λ m. sibling_count (later_siblings m (Node l c f s))) (next n) ∙ ap sibling_count (later-next n l c f s) ∙ rest ∙ is

-- the others, where they stand
pub others_are : (from to rest : ℕ) (others f g : Forest ℕ) → g ≡ replaced from to others f → from ≤ sibling_count f
    → rest ≡ (sibling_count g - from) - (sibling_count f - to) → first_siblings rest (later_siblings from g) ≡ others
others_are from to rest others f g is h r =
    let front = first_siblings from f in
    let back = later_siblings to f in
    let so_many : sibling_count front ≡ from = count-first from f h in
    let last : sibling_count back ≡ sibling_count f - to = count-later to f in
    let whole : sibling_count g ≡ sibling_count front + (sibling_count others + sibling_count back) =
    ap sibling_count is ∙ count-followed front (followed others back) ∙ ap (λ n. sibling_count front + n) (count-followed others back) in
    let own : rest ≡ sibling_count others = omega arith in
    ap (λ n. first_siblings rest (later_siblings n g)) (sym so_many)
    ∙ ap (λ x. first_siblings rest (later_siblings (sibling_count front) x)) is
    ∙ ap (first_siblings rest) (later-count front (followed others back))
    ∙ ap (λ n. first_siblings n (followed others back)) own ∙ first-count others back

-- ---- What is seen of siblings and of those behind them

if-followed : (b : Bool) (l : ℕ) (c : Content) (f s g : Forest ℕ)
    → cond b (followed s g) (Node l c f (followed s g)) ≡ followed (cond b s (Node l c f s)) g
if-followed true l c f s g = refl
if-followed false l c f s g = refl

pub seen-followed : (rules : List SpaceRule) (around : Around) (f g : Forest ℕ)
    → seen_among rules around (followed f g) ≡ followed (seen_among rules around f) (seen_among rules around g)
seen-followed rules around Empty g = refl
seen-followed rules around (Node l (Text t) f s) g =
    let b = around.strips && is_white t in
    ap (λ rest. cond b rest (Node l (Text t) f rest)) (seen-followed rules around s g)
    ∙ if-followed b l (Text t) f (seen_among rules around s) (seen_among rules around g)
seen-followed rules around (Node l (Element n a) f s) g =
    ap (Node l (Element n a) (seen_among rules (around_in rules around n a) f)) (seen-followed rules around s g)
seen-followed rules around (Node l (Comment t) f s) g = ap (Node l (Comment t) f) (seen-followed rules around s g)
seen-followed rules around (Node l (Instruction n t) f s) g = ap (Node l (Instruction n t) f) (seen-followed rules around s g)

if-count : (b : Bool) (l : ℕ) (c : Content) (f s : Forest ℕ)
    → sibling_count (cond b s (Node l c f s)) ≡ (if not b then 1 else 0) + sibling_count s
if-count true l c f s = omega arith
if-count false l c f s = refl

pub count-seen : (rules : List SpaceRule) (around : Around) (f : Forest ℕ) → sibling_count (seen_among rules around f) ≡ shown_count around f
count-seen rules around Empty = refl
count-seen rules around (Node l (Text t) f s) =
    let b = around.strips && is_white t in
    if-count b l (Text t) f (seen_among rules around s) ∙ ap (λ n. (if not b then 1 else 0) + n) (count-seen rules around s)
count-seen rules around (Node l (Element n a) f s) = ap (λ m. 1 + m) (count-seen rules around s)
count-seen rules around (Node l (Comment t) f s) = ap (λ m. 1 + m) (count-seen rules around s)
count-seen rules around (Node l (Instruction n t) f s) = ap (λ m. 1 + m) (count-seen rules around s)

seen-parts : (rules : List SpaceRule) (around : Around) (n : ℕ) (f : Forest ℕ)
    → seen_among rules around f ≡ followed (seen_among rules around (first_siblings n f)) (seen_among rules around (later_siblings n f))
seen-parts rules around n f = ap (seen_among rules around) (sym (first-later n f)) ∙ seen-followed rules around (first_siblings n f) (later_siblings n f)

-- of what is seen so many come of the first siblings, and the others of those behind them
pub seen-first : (rules : List SpaceRule) (around : Around) (n : ℕ) (f : Forest ℕ)
    → first_siblings (shown_count around (first_siblings n f)) (seen_among rules around f) ≡ seen_among rules around (first_siblings n f)
seen-first rules around n f =
    let front = seen_among rules around (first_siblings n f) in
    let back = seen_among rules around (later_siblings n f) in
    ap (λ m. first_siblings m (seen_among rules around f)) (sym (count-seen rules around (first_siblings n f)))
    ∙ ap (first_siblings (sibling_count front)) (seen-parts rules around n f) ∙ first-count front back

pub seen-later : (rules : List SpaceRule) (around : Around) (n : ℕ) (f : Forest ℕ)
    → later_siblings (shown_count around (first_siblings n f)) (seen_among rules around f) ≡ seen_among rules around (later_siblings n f)
seen-later rules around n f =
    let front = seen_among rules around (first_siblings n f) in
    let back = seen_among rules around (later_siblings n f) in
    ap (λ m. later_siblings m (seen_among rules around f)) (sym (count-seen rules around (first_siblings n f)))
    ∙ ap (later_siblings (sibling_count front)) (seen-parts rules around n f) ∙ later-count front back

-- ---- Others in place of some siblings

pub seen-replaced : (rules : List SpaceRule) (around : Around) (from to : ℕ) (others f : Forest ℕ)
    → replaced (shown_count around (first_siblings from f)) (shown_count around (first_siblings to f)) (seen_among rules around others)
    (seen_among rules around f)
    ≡ seen_among rules around (replaced from to others f)
seen-replaced rules around from to others f =
    let front = first_siblings from f in
    let back = later_siblings to f in
    let see = seen_among rules around in
    (λ i. followed (seen-first rules around from f i) (followed (see others) (seen-later rules around to f i)))
    ∙ ap (followed (see front)) (sym (seen-followed rules around others back)) ∙ sym (seen-followed rules around front (followed others back))

pub followed-assoc : (f g h : Forest ℕ) → followed (followed f g) h ≡ followed f (followed g h)
followed-assoc Empty g h = refl
followed-assoc (Node l c f s) g h = ap (Node l c f) (followed-assoc s g h)

-- made in three steps
pub all_is : (rules : List SpaceRule) (around : Around) (from to k m : ℕ) (others f s one two three : Forest ℕ) → s ≡ seen_among rules around f
    → k ≡ shown_count around (first_siblings from f) → m ≡ shown_count around (first_siblings to f)
    → one ≡ first_siblings k s → two ≡ followed one (seen_among rules around others) → three ≡ followed two (later_siblings m s)
    → three ≡ seen_among rules around (replaced from to others f)
all_is rules around from to k m others f s one two three is start end h g e =
    let other = seen_among rules around others in
    e ∙ ap (λ x. followed x (later_siblings m s)) (g ∙ ap (λ x. followed x other) h)
    ∙ followed-assoc (first_siblings k s) other (later_siblings m s)
    ∙ (λ i. replaced (start i) (end i) other (is i)) ∙ seen-replaced rules around from to others f

-- ---- On the way

abbrev changed_head : (Forest ℕ → Forest ℕ) → Forest ℕ → Forest ℕ
changed_head g Empty = Empty
changed_head g (Node l c f s) = Node l c (g f) s

abbrev below_head : Forest ℕ → Forest ℕ → Forest ℕ
below_head other Empty = other
below_head other (Node l c f s) = f

below-at : (g : Forest ℕ → Forest ℕ) (index : ℕ) (f : Forest ℕ) (l : ℕ) (c : Content) (below rest : Forest ℕ)
    → later_siblings index f ≡ Node l c below rest → below_changed g (index + 1) f ≡ followed (first_siblings index f) (Node l c (g below) rest)
below-at g zero Empty l c below rest e = absurd (cc)
below-at g (suc n) Empty l c below rest e = absurd (cc)
below-at g zero (Node k d i s) l c below rest e = ap (changed_head g) e
below-at g (suc n) (Node k d i s) l c below rest e =
    let is : suc n ≡ 1 + n = omega arith in
    ap (λ m. below_changed g (m + 1) (Node k d i s)) is ∙ below-next g n k d i s
    ∙ ap (Node k d i) (below-at g n s l c below rest (sym (later-next n k d i s) ∙ ap (λ m. later_siblings m (Node k d i s)) (sym is) ∙ e))
    ∙ ap (λ x. followed x (Node l c (g below) rest)) (sym (first-next n k d i s))
    ∙ ap (λ m. followed (first_siblings m (Node k d i s)) (Node l c (g below) rest)) (sym is)

-- an element, and how its children are seen
pub children_seen : (rules : List SpaceRule) (around inside : Around) (name : List ℕ) (attributes : List Written) (c : Content) (l m : ℕ) (d : Content)
    (was below rest behind : Forest ℕ) → c ≡ Element name attributes → inside ≡ around_in rules around name attributes
    → Node m d below behind ≡ seen_among rules around (Node l c was rest) → below ≡ seen_among rules inside was
children_seen rules around inside name attributes c l m d was below rest behind is within e =
    ap (below_head Empty) (e ∙ ap (λ x. seen_among rules around (Node l x was rest)) is) ∙ ap (λ a. seen_among rules a was) (sym within)

pub in_element : (rules : List SpaceRule) (around inside : Around) (name : List ℕ) (attributes : List Written) (c : Content) (l m : ℕ) (d : Content)
    (was new below now rest behind : Forest ℕ) → c ≡ Element name attributes → inside ≡ around_in rules around name attributes
    → Node m d below behind ≡ seen_among rules around (Node l c was rest) → now ≡ seen_among rules inside new
    → Node m d now behind ≡ seen_among rules around (Node l c new rest)
in_element rules around inside name attributes c l m d was new below now rest behind is within e seen =
    ap (changed_head (λ _. now)) (e ∙ ap (λ x. seen_among rules around (Node l x was rest)) is)
    ∙ ap (λ x. Node l (Element name attributes) x (seen_among rules around rest)) (seen ∙ ap (λ a. seen_among rules a new) within)
    ∙ ap (λ x. seen_among rules around (Node l x new rest)) (sym is)

-- what was found, where one is told
pub if_found : {A E : Type 0} (r : Result (Option A) E) {P Q : A → Type 0} → ((x : A) → P x → Q x) → IfOk r (λ o. IfSome o P) → IfOk r (λ o. IfSome o Q)
if_found (Ok None) go h = h
if_found (Ok (Some x)) go h = go x h
if_found (Err e) go h = h

-- and siblings of which one is changed below
pub step : (rules : List SpaceRule) (around : Around) (g : Forest ℕ → Forest ℕ) (index position k : ℕ) (f s : Forest ℕ)
    (l : ℕ) (c : Content) (was rest : Forest ℕ) (m : ℕ) (d : Content) (below behind now result : Forest ℕ)
    → position ≡ index + 1 → later_siblings index f ≡ Node l c was rest → k ≡ shown_count around (first_siblings index f)
    → s ≡ seen_among rules around f → later_siblings k s ≡ Node m d below behind
    → (Node m d below behind ≡ seen_among rules around (Node l c was rest) → Node m d now behind ≡ seen_among rules around (Node l c (g was) rest))
    → result ≡ followed (first_siblings k s) (Node m d now behind)
    → result ≡ seen_among rules around (below_changed g position f)
step rules around g index position k f s l c was rest m d below behind now result p at count is shown go made =
    let see = seen_among rules around in
    let front : first_siblings k s ≡ see (first_siblings index f) = (λ i. first_siblings (count i) (is i)) ∙ seen-first rules around index f in
    let back : later_siblings k s ≡ see (later_siblings index f) = (λ i. later_siblings (count i) (is i)) ∙ seen-later rules around index f in
    let node : Node m d below behind ≡ see (Node l c was rest) = sym shown ∙ back ∙ ap see at in
    made ∙ (λ i. followed (front i) (go node i))
    ∙ sym (seen-followed rules around (first_siblings index f) (Node l c (g was) rest))
    ∙ ap see (sym (below-at g index f l c was rest at)) ∙ ap (λ q. see (below_changed g q f)) (sym p)
