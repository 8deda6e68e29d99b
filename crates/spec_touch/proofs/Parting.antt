-- Siblings before an edit and after it: those that stay, and between them those that go or come.
use Rattle.std.proofs.Common.{◌≡◌, ◌≤◌, ◌<◌, arith, ℕ, ◌+◌, ◌==◌, Bool, true, false, cond, not, List, [], ◌∷◌, Option}
use Rattle.std.proofs.Common.{None, Some, refl, sym, ap, ◌∙◌}
use Rattle.std.specs.Prelude.{◌&&◌, nat_lt}
use Rattle.std.specs.List.{list_all, filter}
use Rattle.std.proofs.lemmas.Bool.{eqb-true, ltb-true, ltb-false}
use Rattle.spec_document.specs.declared.parent.Parent.{Parent}
use Rattle.spec_document.specs.Place.{Found}
use Rattle.spec_edit.specs.Edit.{parent_by}
use Rattle.spec_edit.proofs.Around.{IsChild}
use Rattle.spec_document.specs.Forest.{Written, Content, Element, Text, Comment, Instruction, Forest, Empty, Node}
use Rattle.spec_document.specs.Forest.{labels, followed}
use Rattle.spec_edit.specs.Splice.{text_before, last_before, met}
use Rattle.spec_edit.proofs.Numbers.{one_if, occurs, occurs-labels, stands, none-among}
use Rattle.spec_change.specs.Change.{is_among, without}
use Rattle.spec_change.proofs.Gone.{some-among}
use Rattle.spec_touch.specs.Leads.{Rewrites, text_rewritten, Parts, at_end, stays, rewritten, goes, comes}
use Rattle.spec_touch.proofs.Positions.{self}

-- what comes has numbers that are not used
pub data Split (Used : ℕ → Type 0) : (old new : Forest ℕ) → Type 0 where
  split_end : Split Used Empty Empty
  split_stays : {label : ℕ} {content : Content} {children old new : Forest ℕ} → Split Used old new
      → Split Used (Node label content children old) (Node label content children new)
  split_rewritten : {label : ℕ} {content other : Content} {children old new : Forest ℕ} → Rewrites content other → Split Used old new
      → Split Used (Node label content children old) (Node label other children new)
  split_goes : {label : ℕ} {content : Content} {children old new : Forest ℕ} → Split Used old new
      → Split Used (Node label content children old) new
  split_comes : {label : ℕ} {content : Content} {children old new : Forest ℕ}
      → ((k : ℕ) → Used k → one_if (label == k) + stands (λ m. m == k) children ≡ 0) → Split Used old new
      → Split Used old (Node label content children new)

pub unsplit : (Used : ℕ → Type 0) (f : Forest ℕ) → Split Used f f
unsplit Used Empty = split_end
unsplit Used (Node l c f s) = split_stays (unsplit Used s)

-- ---- Texts that meet

drop-new : {Used : ℕ → Type 0} {old new : Forest ℕ} (l : ℕ) (c : Content) (f : Forest ℕ) → Split Used old (Node l c f new) → Split Used old new
drop-new l c f (split_stays r) = split_goes r
drop-new l c f (split_rewritten w r) = split_goes r
drop-new l c f (split_goes r) = split_goes (drop-new l c f r)
drop-new l c f (split_comes h r) = r

text-kept : {Used : ℕ → Type 0} {old : Forest ℕ} (l : ℕ) (text : List ℕ) (f : Forest ℕ) (new : Forest ℕ) → Split Used old new
    → Split Used (Node l (Text text) f old) (text_before l text f new)
text-kept l text f Empty r = split_stays r
text-kept l text f (Node k (Text more) g s) r = split_rewritten text_rewritten (drop-new k (Text more) g r)
text-kept l text f (Node k (Element n w) g s) r = split_stays r
text-kept l text f (Node k (Comment t) g s) r = split_stays r
text-kept l text f (Node k (Instruction n t) g s) r = split_stays r

pub last-kept : {Used : ℕ → Type 0} {old new : Forest ℕ} (l : ℕ) (c : Content) (f : Forest ℕ) → Split Used old new
    → Split Used (Node l c f old) (last_before l c f new)
last-kept l (Element n w) f r = split_stays r
last-kept {new = new} l (Text t) f r = text-kept l t f new r
last-kept l (Comment t) f r = split_stays r
last-kept l (Instruction n t) f r = split_stays r

-- siblings before others that are parted
pub met-split : {Used : ℕ → Type 0} {old new : Forest ℕ} (before : Forest ℕ) → Split Used old new
    → Split Used (followed before old) (met before new)
met-split Empty r = r
met-split (Node l c f Empty) r = last-kept l c f r
met-split (Node l c f (Node k d g s)) r = split_stays (met-split (Node k d g s) r)

pub followed-split : {Used : ℕ → Type 0} {old new : Forest ℕ} (before : Forest ℕ) → Split Used old new
    → Split Used (followed before old) (followed before new)
followed-split Empty r = r
followed-split (Node l c f s) r = split_stays (followed-split s r)

-- ---- Siblings that come

abbrev IsFresh : (ℕ → Type 0) → Forest ℕ → Type 0
IsFresh Used f = (k : ℕ) → Used k → stands (λ m. m == k) f ≡ 0

text-come : {Used : ℕ → Type 0} {old : Forest ℕ} (l : ℕ) (text : List ℕ) (f after : Forest ℕ)
    → ((k : ℕ) → Used k → one_if (l == k) + stands (λ m. m == k) f ≡ 0) → Split Used old after → Split Used old (text_before l text f after)
text-come l text f Empty h r = split_comes h r
text-come l text f (Node k (Text more) g s) h r = split_comes h (drop-new k (Text more) g r)
text-come l text f (Node k (Element n w) g s) h r = split_comes h r
text-come l text f (Node k (Comment t) g s) h r = split_comes h r
text-come l text f (Node k (Instruction n t) g s) h r = split_comes h r

last-come : {Used : ℕ → Type 0} {old : Forest ℕ} (l : ℕ) (c : Content) (f after : Forest ℕ)
    → ((k : ℕ) → Used k → one_if (l == k) + stands (λ m. m == k) f ≡ 0) → Split Used old after → Split Used old (last_before l c f after)
last-come l (Element n w) f after h r = split_comes h r
last-come l (Text t) f after h r = text-come l t f after h r
last-come l (Comment t) f after h r = split_comes h r
last-come l (Instruction n t) f after h r = split_comes h r

-- before siblings that are parted
pub come-met : {Used : ℕ → Type 0} {old : Forest ℕ} (nodes after : Forest ℕ) → IsFresh Used nodes → Split Used old after
    → Split Used old (met nodes after)
come-met Empty after h r = r
come-met (Node l c f Empty) after h r = last-come l c f after (λ k low. (let all = h k low in omega arith)) r
come-met (Node l c f (Node j d g s)) after h r =
    split_comes (λ k low. (let all = h k low in omega arith)) (come-met (Node j d g s) after (λ k low. (let all = h k low in omega arith)) r)

pub come-split : {Used : ℕ → Type 0} (nodes after : Forest ℕ) → IsFresh Used nodes → Split Used after (met nodes after)
come-split {Used} nodes after h = come-met nodes after h (unsplit Used after)

pub come-followed : {Used : ℕ → Type 0} (nodes after : Forest ℕ) → IsFresh Used nodes → Split Used after (followed nodes after)
come-followed {Used} Empty after h = unsplit Used after
come-followed (Node l c f s) after h =
    split_comes (λ k low. (let all = h k low in omega arith)) (come-followed s after (λ k low. (let all = h k low in omega arith)))

-- ---- How often numbers stay, go and come

abbrev pub kept_count : {Used : ℕ → Type 0} {old new : Forest ℕ} → (ℕ → Bool) → Split Used old new → ℕ
kept_count p split_end = 0
kept_count p (split_stays {label = l} {children = f} r) = one_if (p l) + stands p f + kept_count p r
kept_count p (split_rewritten {label = l} {children = f} w r) = one_if (p l) + stands p f + kept_count p r
kept_count p (split_goes r) = kept_count p r
kept_count p (split_comes h r) = kept_count p r

abbrev pub gone_count : {Used : ℕ → Type 0} {old new : Forest ℕ} → (ℕ → Bool) → Split Used old new → ℕ
gone_count p split_end = 0
gone_count p (split_stays r) = gone_count p r
gone_count p (split_rewritten w r) = gone_count p r
gone_count p (split_goes {label = l} {children = f} r) = one_if (p l) + stands p f + gone_count p r
gone_count p (split_comes h r) = gone_count p r

abbrev pub brought_count : {Used : ℕ → Type 0} {old new : Forest ℕ} → (ℕ → Bool) → Split Used old new → ℕ
brought_count p split_end = 0
brought_count p (split_stays r) = brought_count p r
brought_count p (split_rewritten w r) = brought_count p r
brought_count p (split_goes r) = brought_count p r
brought_count p (split_comes {label = l} {children = f} h r) = one_if (p l) + stands p f + brought_count p r

pub old-counted : {Used : ℕ → Type 0} {old new : Forest ℕ} (p : ℕ → Bool) (r : Split Used old new) → stands p old ≡ kept_count p r + gone_count p r
old-counted p split_end = refl
old-counted p (split_stays r) = let rest = old-counted p r in omega arith
old-counted p (split_rewritten w r) = let rest = old-counted p r in omega arith
old-counted p (split_goes r) = let rest = old-counted p r in omega arith
old-counted p (split_comes h r) = old-counted p r

pub new-counted : {Used : ℕ → Type 0} {old new : Forest ℕ} (p : ℕ → Bool) (r : Split Used old new)
    → stands p new ≡ kept_count p r + brought_count p r
new-counted p split_end = refl
new-counted p (split_stays r) = let rest = new-counted p r in omega arith
new-counted p (split_rewritten w r) = let rest = new-counted p r in omega arith
new-counted p (split_goes r) = new-counted p r
new-counted p (split_comes h r) = let rest = new-counted p r in omega arith

pub brought-fresh : {Used : ℕ → Type 0} {old new : Forest ℕ} (k : ℕ) (r : Split Used old new) → Used k → brought_count (λ m. m == k) r ≡ 0
brought-fresh k split_end low = refl
brought-fresh k (split_stays r) low = brought-fresh k r low
brought-fresh k (split_rewritten w r) low = brought-fresh k r low
brought-fresh k (split_goes r) low = brought-fresh k r low
brought-fresh k (split_comes h r) low = let rest = brought-fresh k r low in let own = h k low in omega arith

-- ---- The numbers that are gone and brought

pub all-from : (test : ℕ → Bool) (ns : List ℕ) → ((k : ℕ) → 1 ≤ occurs (λ m. m == k) ns → test k ≡ true) → list_all test ns ≡ true
all-from test [] h = refl
all-from test (n ∷ ns) h =
    let own : one_if (n == n) ≡ 1 = ap one_if (self n) in
    (λ i. h n (omega arith) i && list_all test ns) ∙ all-from test ns (λ k some. h k (omega arith))

tree-from : (test : ℕ → Bool) (l : ℕ) (f : Forest ℕ) → ((k : ℕ) → 1 ≤ one_if (l == k) + stands (λ m. m == k) f → test k ≡ true)
    → list_all test (l ∷ labels f) ≡ true
tree-from test l f h = all-from test (l ∷ labels f) (λ k some. h k (let all = occurs-labels (λ m. m == k) f in omega arith))

pub parted : {Used : ℕ → Type 0} {old new : Forest ℕ} (away arriving : List ℕ) (r : Split Used old new)
    → ((k : ℕ) → 1 ≤ gone_count (λ m. m == k) r → is_among away k ≡ true) → ((k : ℕ) → 1 ≤ brought_count (λ m. m == k) r
    → is_among arriving k ≡ true)
    → Parts away arriving old new
parted away arriving split_end g b = at_end
parted away arriving (split_stays r) g b = stays (parted away arriving r g b)
parted away arriving (split_rewritten w r) g b = rewritten w (parted away arriving r g b)
parted away arriving (split_goes {label = l} {children = f} r) g b =
    goes (tree-from (is_among away) l f (λ k some. g k (omega arith))) (parted away arriving r (λ k some. g k (omega arith)) b)
parted away arriving (split_comes {label = l} {children = f} h r) g b =
    comes (tree-from (is_among arriving) l f (λ k some. b k (omega arith))) (parted away arriving r g (λ k some. b k (omega arith)))

pub filter-keeps : (n : ℕ) (test : ℕ → Bool) → test n ≡ true → (ns : List ℕ)
    → occurs (λ m. m == n) (filter test ns) ≡ occurs (λ m. m == n) ns
filter-keeps n test t [] = refl
filter-keeps n test t (k ∷ ks) = by (test k) (k == n) refl refl (filter-keeps n test t ks)
  where
    p : ℕ → Bool
    p m = m == n

    by : (b c : Bool) → test k ≡ b → (k == n) ≡ c → occurs (λ m. m == n) (filter test ks) ≡ occurs (λ m. m == n) ks
        → occurs (λ m. m == n) (cond (test k) (k ∷ filter test ks) (filter test ks)) ≡ one_if (k == n) + occurs (λ m. m == n) ks
    by true c e f h = (λ i. occurs (λ m. m == n) (cond (e i) (k ∷ filter test ks) (filter test ks))) ∙ ap (λ m. one_if (k == n) + m) h
    by false true e f h = absurd (let g : true ≡ false = sym t ∙ ap test (sym (eqb-true k n f)) ∙ e in cc)
    by false false e f h =
        (λ i. occurs (λ m. m == n) (cond (e i) (k ∷ filter test ks) (filter test ks))) ∙ h ∙
        (let z : one_if (k == n) ≡ 0 = ap one_if f in omega arith)

pub still-among : (n : ℕ) (others ns : List ℕ) → 1 ≤ occurs (λ m. m == n) ns → occurs (λ m. m == n) others ≡ 0
    → is_among (without others ns) n ≡ true
still-among n others ns some none =
    let apart : not (is_among others n) ≡ true = ap not (none-among n others none) in
    let same = filter-keeps n (λ number. not (is_among others number)) apart ns in
    some-among n (without others ns) (omega arith)

-- where the numbers were distinct, and all used
pub parts-used : (Used : ℕ → Type 0) (old new : Forest ℕ) (r : Split Used old new) → ((k : ℕ) → stands (λ m. m == k) old ≤ 1)
    → ((k : ℕ) → 1 ≤ stands (λ m. m == k) old → Used k)
    → Parts (without (labels new) (labels old)) (without (labels old) (labels new)) old new
parts-used Used old new r once used =
    parted (without (labels new) (labels old)) (without (labels old) (labels new)) r gone-by (λ k some. brought-by k some (nat_lt 0 (here k)) refl)
  where
    here : ℕ → ℕ
    here k = stands (λ m. m == k) old

    gone-by : (k : ℕ) → 1 ≤ gone_count (λ m. m == k) r → is_among (without (labels new) (labels old)) k ≡ true
    gone-by k some =
        let was = old-counted (λ m. m == k) r in
        let now = new-counted (λ m. m == k) r in
        let most = once k in
        let none = brought-fresh k r (used k (omega arith)) in
        let olds = occurs-labels (λ m. m == k) old in
        let news = occurs-labels (λ m. m == k) new in
        still-among k (labels new) (labels old) (omega arith) (omega arith)

    brought-by : (k : ℕ) → 1 ≤ brought_count (λ m. m == k) r → (b : Bool) → nat_lt 0 (here k) ≡ b
        → is_among (without (labels old) (labels new)) k ≡ true
    brought-by k some true e = absurd (let own = ltb-true 0 (here k) e in let none = brought-fresh k r (used k (omega arith)) in omega arith)
    brought-by k some false e =
        let none = ltb-false 0 (here k) e in
        let now = new-counted (λ m. m == k) r in
        let olds = occurs-labels (λ m. m == k) old in
        let news = occurs-labels (λ m. m == k) new in
        still-among k (labels old) (labels new) (omega arith) (omega arith)

-- the numbers below the first that is free
abbrev pub IsUnder : ℕ → ℕ → Type 0
IsUnder first k = k < first

pub under-by : (first k n : ℕ) → (first ≤ k → n ≡ 0) → 1 ≤ n → (b : Bool) → nat_lt k first ≡ b → k < first
under-by first k n low some true e = ltb-true k first e
under-by first k n low some false e = absurd (let none = low (ltb-false k first e) in omega arith)

-- where the numbers were distinct, and all below the first
pub parts-of : (first : ℕ) (old new : Forest ℕ) (r : Split (IsUnder first) old new) → ((k : ℕ) → stands (λ m. m == k) old ≤ 1)
    → ((k : ℕ) → first ≤ k → stands (λ m. m == k) old ≡ 0)
    → Parts (without (labels new) (labels old)) (without (labels old) (labels new)) old new
parts-of first old new r once low =
    parts-used (IsUnder first) old new r once (λ k some. under-by first k (stands (λ m. m == k) old) (low k) some (nat_lt k first) refl)

pub told-itself : (ns : List ℕ) → list_all (is_among ns) ns ≡ true
told-itself ns = all-from (is_among ns) ns (λ k some. some-among k ns some)

-- ---- Nodes that may have children

pub data Holds (x : Found ℕ) : Type 0 where
  is_root : x.content ≡ None → Holds x
  is_element : (name : List ℕ) → (written : List Written) → x.content ≡ Some (Element name written) → Holds x
  has_children : (x.children ≡ Empty → ⊥) → Holds x

followed-some : (before : Forest ℕ) (l : ℕ) (c : Content) (f s : Forest ℕ) → followed before (Node l c f s) ≡ Empty → ⊥
followed-some Empty l c f s e = absurd (cc)
followed-some (Node k d g b) l c f s e = absurd (cc)

pub child-holds : (y : Found ℕ) (p : ℕ) (x : Found ℕ) → IsChild y.above y.children p x → Holds y
child-holds y p x i = has_children (λ e. followed-some i.before i.label i.content i.children i.after (sym i.whole ∙ e))

pub parent-holds : (content : Option Content) (x : Found ℕ) (parent : Parent) → x.content ≡ content
    → parent_by content x ≡ Some parent → Holds x
parent-holds None x parent e h = is_root e
parent-holds (Some (Element n w)) x parent e h = is_element n w e
parent-holds (Some (Text t)) x parent e h = absurd (cc)
parent-holds (Some (Comment t)) x parent e h = absurd (cc)
parent-holds (Some (Instruction n t)) x parent e h = absurd (cc)
