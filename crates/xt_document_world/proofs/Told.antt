-- What is answered of a node is what is true of its entry.
use Rattle.std.proofs.Common.{◌≡◌, ℕ, List, [], ◌∷◌, ◌++◌, Option, None, Some, is_some, true, false, refl, sym, ap, ◌∙◌, append_assoc, append-nil}
use Rattle.std.specs.Prelude.{IsSome, codes, decimal}
use Rattle.std.specs.Option.{option_map}
use Rattle.spec_document.specs.Forest.{Document}
use Rattle.spec_document.specs.Place.{Ending, Itself, AtAttribute, AtNamespace, Item, node_at, kind_of, expanded_name, written_name}
use Rattle.spec_document.specs.declared.kind.Kind.{Kind}
use Rattle.spec_document.specs.Name.{Expanded}
use Rattle.spec_document.specs.Order.{Entry, entries_of}
use Rattle.spec_meaning.specs.Question.{Answer, Gone, SomeText, Named}
use Rattle.spec_meaning.specs.Truth.{told_of, entry_named, positions_text, ending_text, identifier}
use Rattle.xt_tree.specs.Numbers.{IsNumbered}
use Rattle.xt_tree.specs.View.{item_of, IsPlaceOf}
use Rattle.spec_node.specs.declared.node_ref.NodeRef.{NodeRef}
use Rattle.spec_node.specs.Naming.{ref_of, same_ref, part_at}
use Rattle.xp_axes.proofs.Kept.{some_same}
use Rattle.xp_axes.proofs.Located.{IsEntryOf}
use Rattle.xp_axes.proofs.Reached.{entry_at}
use Rattle.xp_axes.proofs.Named.{named, gone}
use Rattle.xt_document_world.specs.View.{later_text, part_text}

pub told_gone : (document : Document ℕ) → IsNumbered document → (r : NodeRef) (answer : Entry ℕ → Answer NodeRef) → item_of document r ≡ None
    → told_of answer (entry_named ref_of same_ref (entries_of document) r) ≡ Gone
told_gone document numbers r answer none = ap (told_of answer) (gone document numbers r none)

none_of : {A : Type 0} (o : Option A) → is_some o ≡ false → o ≡ None
none_of None h = refl
none_of (Some x) h = absurd (cc)

pub told_none : (document : Document ℕ) → IsNumbered document → (r : NodeRef) (answer : Entry ℕ → Answer NodeRef)
    → is_some (item_of document r) ≡ false → told_of answer (entry_named ref_of same_ref (entries_of document) r) ≡ Gone
told_none document numbers r answer none = told_gone document numbers r answer (none_of (item_of document r) none)

-- what a function gives of the item is what it gives of the entry's
pub told : (document : Document ℕ) → IsNumbered document → (r : NodeRef) {X : Type 0} (f : Item ℕ → X) (g : X → Answer NodeRef) (x : X)
    → option_map f (item_of document r) ≡ Some x
    → told_of (λ (e : Entry ℕ). g (f e.item)) (entry_named ref_of same_ref (entries_of document) r) ≡ g x
told document numbers r {X} f g x is = by (item_of document r) refl is
  where
    by : (o : Option (Item ℕ)) → item_of document r ≡ o → option_map f o ≡ Some x
        → told_of (λ (e : Entry ℕ). g (f e.item)) (entry_named ref_of same_ref (entries_of document) r) ≡ g x
    by None e h = absurd (cc)
    by (Some item) e h =
        let n = named document numbers r item e in
        ap (told_of (λ (e : Entry ℕ). g (f e.item))) n.first ∙ ap (λ i. g (f i)) n.same ∙ ap g (some_same (f item) x h)

-- the same of an answer that is the same for all entries
pub told_any : (document : Document ℕ) → IsNumbered document → (r : NodeRef) (a : Answer NodeRef) → is_some (item_of document r) ≡ true
    → told_of (λ (e : Entry ℕ). a) (entry_named ref_of same_ref (entries_of document) r) ≡ a
told_any document numbers r a some = by (item_of document r) refl some
  where
    by : (o : Option (Item ℕ)) → item_of document r ≡ o → is_some o ≡ true
        → told_of (λ (e : Entry ℕ). a) (entry_named ref_of same_ref (entries_of document) r) ≡ a
    by None e h = absurd (cc)
    by (Some item) e h = ap (told_of (λ (e : Entry ℕ). a)) (named document numbers r item e).first

pub told_names : (document : Document ℕ) → IsNumbered document → (r : NodeRef) (k : Kind) (n : Option Expanded) (w : List ℕ)
    → option_map kind_of (item_of document r) ≡ Some k → option_map expanded_name (item_of document r) ≡ Some n
    → option_map written_name (item_of document r) ≡ Some w
    → told_of {L = ℕ} {K = NodeRef} (λ (e : Entry ℕ). Named (kind_of e.item) (expanded_name e.item) (written_name e.item))
    (entry_named ref_of same_ref (entries_of document) r) ≡ Named k n w
told_names document numbers r k n w d e f = by (item_of document r) refl d e f
  where
    by : (o : Option (Item ℕ)) → item_of document r ≡ o → option_map kind_of o ≡ Some k → option_map expanded_name o ≡ Some n
        → option_map written_name o ≡ Some w
        → told_of {L = ℕ} {K = NodeRef} (λ (e : Entry ℕ). Named (kind_of e.item) (expanded_name e.item) (written_name e.item))
        (entry_named ref_of same_ref (entries_of document) r) ≡ Named k n w
    by None is d e f = absurd (cc)
    by (Some item) is d e f =
        let found = named document numbers r item is in
        let kind = some_same (kind_of item) k d in
        let name = some_same (expanded_name item) n e in
        let written = some_same (written_name item) w f in
        ap (told_of {L = ℕ} {K = NodeRef} (λ (e : Entry ℕ). Named (kind_of e.item) (expanded_name e.item) (written_name e.item))) found.first
        ∙ ap (λ i. Named (kind_of i) (expanded_name i) (written_name i)) found.same ∙ (λ i. Named (kind i) (name i) (written i))

-- ---- Places

is_there : {A : Type 0} (o : Option A) → (o ≡ None → ⊥) → is_some o ≡ true
is_there None h = absurd (h refl)
is_there (Some x) h = refl

ending_is : (e : Ending) (n : ℕ) → ending_text e n ≡ part_text (part_at e n)
ending_is Itself n = refl
ending_is (AtAttribute k) n = refl
ending_is (AtNamespace k) n = refl

pub positions_are : (p : ℕ) (ps : List ℕ) → positions_text (p ∷ ps) ≡ decimal p ++ later_text ps
positions_are p [] = sym (append-nil (decimal p))
positions_are p (q ∷ ps) =
    ap (λ (t : List ℕ). decimal p ++ codes "c" ++ t) (positions_are q ps)
    ∙ append_assoc (decimal p) (codes "c") (decimal q ++ later_text ps)

pub identifier_is : (document : Document ℕ) (r : NodeRef) (path : List ℕ) (e : IsEntryOf document r path)
    → identifier e.entry ≡ codes "n" ++ positions_text path ++ part_text r.part
identifier_is document r path e =
    let entry = e.entry in
    (λ i. codes "n" ++ positions_text (e.positions i) ++ ending_text entry.place.ending entry.number)
    ∙ ap (λ (t : List ℕ). codes "n" ++ positions_text path ++ t)
    (ending_is entry.place.ending entry.number ∙ ap (λ (s : NodeRef). part_text s.part) e.is.name)

pub told_place : (document : Document ℕ) (r : NodeRef) (path : List ℕ) (text : List ℕ) → IsPlaceOf document r (Some path)
    → (IsSome (item_of document r) → (ps : List ℕ) → option_map (λ n. n.label) (node_at document ps) ≡ Some r.node.number → Some path ≡ Some ps)
    → text ≡ codes "n" ++ positions_text path ++ part_text r.part
    → told_of {L = ℕ} {K = NodeRef} (λ (e : Entry ℕ). SomeText (identifier e)) (entry_named ref_of same_ref (entries_of document) r) ≡ SomeText text
told_place document r path text place only is =
    let e = entry_at document r path (is_there (item_of document r) place.1) place only in
    ap (told_of {L = ℕ} {K = NodeRef} (λ (e : Entry ℕ). SomeText (identifier e))) e.first ∙ ap SomeText (identifier_is document r path e ∙ sym is)
