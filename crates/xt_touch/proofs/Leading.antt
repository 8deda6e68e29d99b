-- Where a change leads from one document to another, whatever one of them has and the other has not stands below the node of the change.
use Rattle.std.proofs.Common.{◌≡◌, ℕ, Bool, true, false, not, List, [], ◌∷◌, ◌++◌, Option, None, Some, is_some, refl, sym, ap, ◌∙◌, eq-eqb, append-nil}
use Rattle.std.specs.Prelude.{◌&&◌, ◌||◌, ◌==◌, nat_lt, if◌then◌else◌}
use Rattle.std.specs.List.{list_all, filter}
use Rattle.std.specs.Option.{option_or}
use Rattle.std.proofs.lemmas.Bool.{and_parts, eqb-true}
use Rattle.std.proofs.lemmas.List.Elements.{filter-append}
use Rattle.spec_document.specs.Forest.{Content, Document, Forest, Empty, Node, labels}
use Rattle.spec_change.specs.Change.{Change, is_among, without}
use Rattle.spec_touch.specs.Leads.{Rewrites, text_rewritten, comment_rewritten, instruction_rewritten, Parts, at_end, stays, rewritten, goes, comes}
use Rattle.spec_touch.specs.Leads.{ChangesIn, children, attributes, inside, further, Leads, at_root, below_root, seen_change}
use Rattle.spec_touch.proofs.Parting.{told-itself}
use Rattle.spec_document.specs.Numbering.{number_limit}
use Rattle.xt_tree.specs.Numbers.{are_distinct, IsNumbered}
use Rattle.xt_tree.specs.View.{Tree, first_tree}
use Rattle.xt_tree.proofs.Distinct.{apart, distinct_parts, head_apart, not_before, not_false, or_left, or_right}
use Rattle.xt_touch.specs.Missing.{below, children_of, missing_among}
use Rattle.xt_touch.proofs.Members.{All, all_parts, among_append}
use Rattle.xt_touch.proofs.Missing.{found-among}

-- ---- Numbers that are all among others, and numbers of which none is

kept_none : (test : ℕ → Bool) (n : ℕ) (ns : List ℕ) → test n ≡ false → filter test (n ∷ ns) ≡ filter test ns
kept_none test n ns h = ap (λ b. if b then n ∷ filter test ns else filter test ns) h

kept_one : (test : ℕ → Bool) (n : ℕ) (ns : List ℕ) → test n ≡ true → filter test (n ∷ ns) ≡ n ∷ filter test ns
kept_one test n ns h = ap (λ b. if b then n ∷ filter test ns else filter test ns) h

none_without : (numbers ns : List ℕ) → All numbers ns → without numbers ns ≡ []
none_without numbers [] h = refl
none_without numbers (n ∷ ns) h =
    let parts = and_parts (is_among numbers n) (list_all (is_among numbers) ns) h in
    kept_none (λ m. not (is_among numbers m)) n ns (ap not parts.0) ∙ none_without numbers ns parts.1

-- none of those that are gone is among the numbers
abbrev NoneOf : (numbers gone : List ℕ) → Type 0
NoneOf numbers gone = (k : ℕ) → is_among gone k ≡ true → is_among numbers k ≡ false

all_without : (numbers gone ns : List ℕ) → NoneOf numbers gone → All gone ns → without numbers ns ≡ ns
all_without numbers gone [] none h = refl
all_without numbers gone (n ∷ ns) none h =
    let parts = and_parts (is_among gone n) (list_all (is_among gone) ns) h in
    kept_one (λ m. not (is_among numbers m)) n ns (ap not (none n parts.0)) ∙ ap (λ list. n ∷ list) (all_without numbers gone ns none parts.1)

one_not_kept : (test : ℕ → Bool) (k n : ℕ) (ns : List ℕ) → test k ≡ false → is_among (filter test ns) k ≡ false
    → (b e : Bool) → test n ≡ b → (n == k) ≡ e → is_among (if b then n ∷ filter test ns else filter test ns) k ≡ false
one_not_kept test k n ns h others false e t q = others
one_not_kept test k n ns h others true false t q = λ i. q i || others i
one_not_kept test k n ns h others true true t q = absurd (apart (test n) t (ap test (eqb-true n k q) ∙ h))

not_kept : (test : ℕ → Bool) (k : ℕ) → test k ≡ false → (ns : List ℕ) → is_among (filter test ns) k ≡ false
not_kept test k h [] = refl
not_kept test k h (n ∷ ns) = one_not_kept test k n ns h (not_kept test k h ns) (test n) (n == k) refl refl

-- ---- Siblings of which some stay, some go and some come

-- one sibling that is there, before others
one_there : (numbers : List ℕ) (l : ℕ) (c : Content) (f g : Forest ℕ) → is_among numbers l ≡ true → All numbers (labels f)
    → without numbers (labels g) ≡ missing_among numbers g → without numbers (labels (Node l c f g)) ≡ missing_among numbers (Node l c f g)
one_there numbers l c f g here under others =
    let none : without numbers (l ∷ labels f) ≡ [] = none_without numbers (l ∷ labels f) (ap (λ b. b && list_all (is_among numbers) (labels f)) here ∙ under) in
    filter-append (λ m. not (is_among numbers m)) (l ∷ labels f) (labels g) ∙ (λ i. none i ++ others i)
    ∙ ap (λ b. (if b then [] else l ∷ labels f) ++ missing_among numbers g) (sym here)

-- one that is not
one_gone : (numbers : List ℕ) (l : ℕ) (c : Content) (f g : Forest ℕ) → is_among numbers l ≡ false → without numbers (l ∷ labels f) ≡ l ∷ labels f
    → without numbers (labels g) ≡ missing_among numbers g → without numbers (labels (Node l c f g)) ≡ missing_among numbers (Node l c f g)
one_gone numbers l c f g away all others =
    filter-append (λ m. not (is_among numbers m)) (l ∷ labels f) (labels g) ∙ (λ i. all i ++ others i)
    ∙ ap (λ b. (if b then [] else l ∷ labels f) ++ missing_among numbers g) (sym away)

lost_of : (numbers : List ℕ) {gone brought : List ℕ} {old new : Forest ℕ} → NoneOf numbers gone → All numbers (labels new) → Parts gone brought old new
    → without numbers (labels old) ≡ missing_among numbers old
lost_of numbers none all at_end = refl
lost_of numbers none all (stays {label = l} {content = c} {children = f} {old = o} {new = n} p) =
    let parts = and_parts (is_among numbers l) (list_all (is_among numbers) (labels f ++ labels n)) all in
    let rest = all_parts numbers (labels f) (labels n) parts.1 in
    one_there numbers l c f o parts.0 rest.0 (lost_of numbers none rest.1 p)
lost_of numbers none all (rewritten {label = l} {content = c} {children = f} {old = o} {new = n} r p) =
    let parts = and_parts (is_among numbers l) (list_all (is_among numbers) (labels f ++ labels n)) all in
    let rest = all_parts numbers (labels f) (labels n) parts.1 in
    one_there numbers l c f o parts.0 rest.0 (lost_of numbers none rest.1 p)
lost_of numbers {gone = gone} none all (goes {label = l} {content = c} {children = f} {old = o} {new = n} h p) =
    let parts = and_parts (is_among gone l) (list_all (is_among gone) (labels f)) h in
    one_gone numbers l c f o (none l parts.0) (all_without numbers gone (l ∷ labels f) none h) (lost_of numbers none all p)
lost_of numbers none all (comes {label = l} {children = f} {new = n} h p) =
    lost_of numbers none (all_parts numbers (l ∷ labels f) (labels n) all).1 p

rewrites_back : {c d : Content} → Rewrites c d → Rewrites d c
rewrites_back text_rewritten = text_rewritten
rewrites_back comment_rewritten = comment_rewritten
rewrites_back instruction_rewritten = instruction_rewritten

parts_back : {gone brought : List ℕ} {old new : Forest ℕ} → Parts gone brought old new → Parts brought gone new old
parts_back at_end = at_end
parts_back (stays p) = stays (parts_back p)
parts_back (rewritten r p) = rewritten (rewrites_back r) (parts_back p)
parts_back (goes h p) = comes h (parts_back p)
parts_back (comes h p) = goes h (parts_back p)

parts_same : {gone brought : List ℕ} (f : Forest ℕ) → Parts gone brought f f
parts_same Empty = at_end
parts_same (Node l c f g) = stays (parts_same g)

-- ---- Siblings of which one is the node of this number or has it below it, where its children differ

data Alters (number : ℕ) (gone brought : List ℕ) : (old new : Forest ℕ) → Type 0 where
  here : {label : ℕ} {content other : Content} {old new siblings : Forest ℕ} → label ≡ number → Parts gone brought old new
      → Alters number gone brought (Node label content old siblings) (Node label other new siblings)
  under : {label : ℕ} {content : Content} {old new siblings : Forest ℕ} → Alters number gone brought old new
      → Alters number gone brought (Node label content old siblings) (Node label content new siblings)
  behind : {label : ℕ} {content : Content} {first old new : Forest ℕ} → Alters number gone brought old new
      → Alters number gone brought (Node label content first old) (Node label content first new)

alters_of : {change : Change} {above : List ℕ} {old new : Forest ℕ} → ChangesIn change above old new
    → Alters change.node change.gone change.brought old new
alters_of (children h) = here (sym h.node) h.parts
alters_of (attributes {below = f} h) = here (sym h.node) (parts_same f)
alters_of (inside d) = under (alters_of d)
alters_of (further d) = behind (alters_of d)

alters_back : {number : ℕ} {gone brought : List ℕ} {old new : Forest ℕ} → Alters number gone brought old new → Alters number brought gone new old
alters_back (here e p) = here e (parts_back p)
alters_back (under d) = under (alters_back d)
alters_back (behind d) = behind (alters_back d)

stands : {number : ℕ} {gone brought : List ℕ} {old new : Forest ℕ} → Alters number gone brought old new → is_among (labels old) number ≡ true
stands {number = n} (here {label = l} {old = f} {siblings = g} e p) = or_left (l == n) (is_among (labels f ++ labels g) n) (eq-eqb l n e)
stands {number = n} (under {label = l} {old = f} {siblings = g} d) =
    or_right (l == n) (is_among (labels f ++ labels g) n)
    (among_append (labels f) (labels g) n ∙ or_left (is_among (labels f) n) (is_among (labels g) n) (stands d))
stands {number = n} (behind {label = l} {first = f} {old = g} d) =
    or_right (l == n) (is_among (labels f ++ labels g) n)
    (among_append (labels f) (labels g) n ∙ or_right (is_among (labels f) n) (is_among (labels g) n) (stands d))

-- what is not missing around a list
around : (numbers : List ℕ) (l : ℕ) (f g : List ℕ) → is_among numbers l ≡ true → All numbers g → without numbers (l ∷ f ++ g) ≡ without numbers f
around numbers l f g there all =
    kept_none (λ m. not (is_among numbers m)) l (f ++ g) (ap not there) ∙ filter-append (λ m. not (is_among numbers m)) f g
    ∙ ap (λ list. without numbers f ++ list) (none_without numbers g all) ∙ append-nil (without numbers f)

ahead : (numbers : List ℕ) (l : ℕ) (f g : List ℕ) → is_among numbers l ≡ true → All numbers f → without numbers (l ∷ f ++ g) ≡ without numbers g
ahead numbers l f g there all =
    kept_none (λ m. not (is_among numbers m)) l (f ++ g) (ap not there) ∙ filter-append (λ m. not (is_among numbers m)) f g
    ∙ ap (λ list. list ++ without numbers g) (none_without numbers f all)

first_of_both : (a b : Option Tree) → is_some a ≡ true → option_or a b ≡ a
first_of_both None b h = absurd (cc)
first_of_both (Some x) b h = refl

second_of_both : (a b : Option Tree) → is_some a ≡ false → option_or a b ≡ b
second_of_both None b h = refl
second_of_both (Some x) b h = absurd (cc)

-- the node of this number is found among them
located : (numbers : List ℕ) {number : ℕ} {gone brought : List ℕ} {old new : Forest ℕ} → NoneOf numbers gone → All numbers (labels new)
    → are_distinct (labels old) ≡ true → Alters number gone brought old new
    → without numbers (labels old) ≡ missing_among numbers (below (first_tree number old))
located numbers {number = n} none all distinct (here {label = l} {content = c} {old = f} {new = h} {siblings = g} e p) =
    let parts = and_parts (is_among numbers l) (list_all (is_among numbers) (labels h ++ labels g)) all in
    let rest = all_parts numbers (labels h) (labels g) parts.1 in
    around numbers l (labels f) (labels g) parts.0 rest.1 ∙ lost_of numbers none rest.0 p
    ∙ ap (λ b. missing_among numbers (below (if b then Some (record { number = l; content = c; children = f }) else option_or (first_tree n f) (first_tree n g))))
    (sym (eq-eqb l n e))
located numbers {number = n} none all distinct (under {label = l} {content = c} {old = f} {new = h} {siblings = g} d) =
    let parts = and_parts (is_among numbers l) (list_all (is_among numbers) (labels h ++ labels g)) all in
    let rest = all_parts numbers (labels h) (labels g) parts.1 in
    let apart_from = and_parts (not (is_among (labels f ++ labels g) l)) (are_distinct (labels f ++ labels g)) distinct in
    let known : is_among (labels f ++ labels g) n ≡ true =
    among_append (labels f) (labels g) n ∙ or_left (is_among (labels f) n) (is_among (labels g) n) (stands d) in
    let other : (l == n) ≡ false = head_apart l n (labels f ++ labels g) (not_false (is_among (labels f ++ labels g) l) apart_from.0) known in
    around numbers l (labels f) (labels g) parts.0 rest.1
    ∙ located numbers none rest.0 (distinct_parts (labels f) (labels g) apart_from.1).0 d
    ∙ ap (λ o. missing_among numbers (below o)) (sym (first_of_both (first_tree n f) (first_tree n g) (found-among n f ∙ stands d)))
    ∙ ap (λ b. missing_among numbers (below (if b then Some (record { number = l; content = c; children = f }) else option_or (first_tree n f) (first_tree n g))))
    (sym other)
located numbers {number = n} none all distinct (behind {label = l} {content = c} {first = f} {old = g} {new = h} d) =
    let parts = and_parts (is_among numbers l) (list_all (is_among numbers) (labels f ++ labels h)) all in
    let rest = all_parts numbers (labels f) (labels h) parts.1 in
    let apart_from = and_parts (not (is_among (labels f ++ labels g) l)) (are_distinct (labels f ++ labels g)) distinct in
    let known : is_among (labels f ++ labels g) n ≡ true =
    among_append (labels f) (labels g) n ∙ or_right (is_among (labels f) n) (is_among (labels g) n) (stands d) in
    let other : (l == n) ≡ false = head_apart l n (labels f ++ labels g) (not_false (is_among (labels f ++ labels g) l) apart_from.0) known in
    let not_first : is_some (first_tree n f) ≡ false = found-among n f ∙ not_before (labels f) (labels g) n apart_from.1 (stands d) in
    ahead numbers l (labels f) (labels g) parts.0 rest.0
    ∙ located numbers none rest.1 (distinct_parts (labels f) (labels g) apart_from.1).1 d
    ∙ ap (λ o. missing_among numbers (below o)) (sym (second_of_both (first_tree n f) (first_tree n g) not_first))
    ∙ ap (λ b. missing_among numbers (below (if b then Some (record { number = l; content = c; children = f }) else option_or (first_tree n f) (first_tree n g))))
    (sym other)

-- ---- Documents

data Differs (number : ℕ) (gone brought : List ℕ) (old new : Document ℕ) : Type 0 where
  top : old.root ≡ number → new.root ≡ number → Parts gone brought old.nodes new.nodes → Differs number gone brought old new
  lower : Alters number gone brought old.nodes new.nodes → Differs number gone brought old new

differs_of : {change : Change} {old new : Document ℕ} → Leads change old new → Differs change.node change.gone change.brought old new
differs_of (at_root same above h) = top (sym h.node) (same ∙ sym h.node) h.parts
differs_of (below_root same above d) = lower (alters_of d)

differs_back : {number : ℕ} {gone brought : List ℕ} {old new : Document ℕ} → Differs number gone brought old new → Differs number brought gone new old
differs_back (top e f p) = top f e (parts_back p)
differs_back (lower d) = lower (alters_back d)

missing_of : (number : ℕ) {gone brought : List ℕ} (old new : Document ℕ) → IsNumbered old → NoneOf (labels new.nodes) gone
    → Differs number gone brought old new
    → without (labels new.nodes) (labels old.nodes) ≡ missing_among (labels new.nodes) (children_of number old)
missing_of number old new numbered none (top e f p) =
    lost_of (labels new.nodes) none (told-itself (labels new.nodes)) p
    ∙ ap (λ b. missing_among (labels new.nodes) (if b then old.nodes else below (first_tree number old.nodes))) (sym (eq-eqb old.root number e))
missing_of number old new numbered none (lower d) =
    let distinct = (and_parts (are_distinct (old.root ∷ labels old.nodes)) (list_all (λ n. nat_lt n number_limit) (old.root ∷ labels old.nodes)) numbered).0 in
    let parts = and_parts (not (is_among (labels old.nodes) old.root)) (are_distinct (labels old.nodes)) distinct in
    let other : (old.root == number) ≡ false =
    head_apart old.root number (labels old.nodes) (not_false (is_among (labels old.nodes) old.root) parts.0) (stands d) in
    located (labels new.nodes) none (told-itself (labels new.nodes)) parts.1 d
    ∙ ap (λ b. missing_among (labels new.nodes) (if b then old.nodes else below (first_tree number old.nodes))) (sym other)

gone_not_there : (others ns : List ℕ) → NoneOf others (without others ns)
gone_not_there others ns k h = by (is_among others k) refl
  where
    by : (b : Bool) → is_among others k ≡ b → b ≡ false
    by false e = refl
    by true e = absurd (apart (is_among (without others ns) k) h (not_kept (λ m. not (is_among others m)) k (ap not e) ns))

-- what the new document lacks, and what the old one lacks
pub lacks_below : (change : Change) (old new : Document ℕ) → IsNumbered old → Leads (seen_change change old new) old new
    → without (labels new.nodes) (labels old.nodes) ≡ missing_among (labels new.nodes) (children_of change.node old)
lacks_below change old new numbered led =
    missing_of change.node old new numbered (gone_not_there (labels new.nodes) (labels old.nodes)) (differs_of led)

pub lacked_below : (change : Change) (old new : Document ℕ) → IsNumbered new → Leads (seen_change change old new) old new
    → without (labels old.nodes) (labels new.nodes) ≡ missing_among (labels old.nodes) (children_of change.node new)
lacked_below change old new numbered led =
    missing_of change.node new old numbered (gone_not_there (labels old.nodes) (labels new.nodes)) (differs_back (differs_of led))
