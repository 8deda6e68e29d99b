-- The prefixes that attributes take, and what holds after them.
use Rattle.std.proofs.Common.{◌≡◌, ◌∙◌, refl, sym, ap, ℕ, Bool, true, false, List, [], ◌∷◌, ◌++◌, Some, bytes_eq, append_assoc, append-nil, codes, subst}
use Rattle.std.specs.Prelude.{◌||◌, ◌&&◌, not, if◌then◌else◌, zero, suc, ◌+◌}
use Rattle.spec_document.specs.Character.{is_name_start, is_name_part}
use Rattle.spec_document.specs.declared.usage.AttributeUse.TheVariants.{Names}
use Rattle.spec_document.specs.Name.{is_ncname}
use Rattle.spec_document.specs.Scope.{Scope, xml_uri}
use Rattle.spec_document.specs.Declaration.{is_there, is_xml, is_xmlns, use_of}
use Rattle.spec_result.specs.Recovery.{Given}
use Rattle.spec_result.specs.Shape.{Opening, settle, needing, uri_in, is_bound_to, write, prefix_for, with_prefix}
use Rattle.spec_result.specs.Shape.{made_prefix, first_free, new_prefix, is_free, wanted_prefix, can_take, taken_prefix, with_prefixed, with_attribute, with_attributes}
use Rattle.spec_result.specs.Named.{IsPrefix, HasRoom}
use Rattle.spec_result.proofs.Qualified.{use_plain, use_prefixed}
use Rattle.spec_result.proofs.Readable.{IsReadable, AreReadable}
use Rattle.spec_result.proofs.Free.{made_is_name, made_free}
use Rattle.spec_result.proofs.Kept.{Keeps, all_kept, kept_then, itself, settle_keeps, needing_keeps, needed, write_keeps}
use Rattle.spec_result.proofs.Holding.{Holds, Means, bare, prefixed, mean_kept, mean_more, needing_holds, settle_holds}

-- a prefix that an attribute may be written with
pub record IsTaken (o : Opening) (p uri : List ℕ) : Type 0 where
  pub name : is_ncname p ≡ true
  pub other : is_xmlns p ≡ false
  pub open_to : is_bound_to o.scope p uri ≡ false → o.settled p ≡ false

picked : {X : Type 0} (P : X → Type 0) (b : Bool) (x y : X) → (b ≡ true → P x) → (b ≡ false → P y) → P (if b then x else y)
picked P true x y f g = f refl
picked P false x y f g = g refl

xml_name : is_ncname (codes "xml") ≡ true
unfolding is_name_start is_name_part
xml_name = refl

abbrev IsFit : List ℕ → Type 0
IsFit p = IsPrefix p × (is_xmlns p ≡ false)

fit : (written uri : List ℕ) → IsFit written → IsFit (prefix_for written uri)
fit written uri good =
    picked IsFit (not (is_there uri)) [] (if bytes_eq uri xml_uri then codes "xml" else written) (λ e. (tt, refl))
    (λ e. picked IsFit (bytes_eq uri xml_uri) (codes "xml") written (λ f. (xml_name, refl)) (λ f. good))

wanted_fit : (a : Given) → IsPrefix a.prefix → IsFit (wanted_prefix a)
wanted_fit a good =
    fit (if is_xmlns a.prefix then [] else a.prefix) a.uri (picked IsFit (is_xmlns a.prefix) [] a.prefix (λ e. (tt, refl)) (λ e. (good, e)))

named : (p : List ℕ) → IsPrefix p → is_there p ≡ true → is_ncname p ≡ true
named [] good t = absurd (cc)
named (c ∷ cs) good t = good

made : (P : List ℕ → Type 0) → ((k : ℕ) → P (made_prefix k)) → (scope : Scope) (uri : List ℕ) (more tried : ℕ) → P (first_free scope uri more tried)
made P all scope uri zero tried = all tried
made P all scope uri (suc more) tried =
    picked P (is_free scope (made_prefix tried) uri) (made_prefix tried) (first_free scope uri more (tried + 1)) (λ e. all tried)
    (λ e. made P all scope uri more (tried + 1))

first_part : (a b : Bool) → (a && b) ≡ true → a ≡ true
first_part true b e = refl
first_part false b e = absurd (cc)

second_part : (a b : Bool) → (a && b) ≡ true → b ≡ true
second_part true b e = e
second_part false b e = absurd (cc)

-- what can be taken is open to the attribute
open_by : (bound barred settled : Bool) → (bound || not (barred || settled)) ≡ true → bound ≡ false → settled ≡ false
open_by true barred settled e f = absurd (cc)
open_by false true settled e f = absurd (cc)
open_by false false true e f = absurd (cc)
open_by false false false e f = refl

free_by : (there bound : Bool) → (not there || bound) ≡ true → bound ≡ false → there ≡ false
free_by true true e f = absurd (cc)
free_by true false e f = absurd (cc)
free_by false bound e f = refl

unsettled : (b : Bool) → (b ≡ true → ⊥) → b ≡ false
unsettled true h = absurd (h refl)
unsettled false h = refl

pub taken : (outer : Scope) (a : Given) (o : Opening) (done : List Given) → IsPrefix a.prefix → is_there a.uri ≡ true → Holds outer o done
    → (can_take (wanted_prefix a) a.uri o ≡ false
    → (is_ncname (new_prefix o.scope a.uri) ≡ true) × (is_free o.scope (new_prefix o.scope a.uri) a.uri ≡ true))
    → IsTaken o (taken_prefix (wanted_prefix a) a.uri o) a.uri
taken outer a o done good there h finds =
    let wanted = wanted_prefix a in
    let new = new_prefix o.scope a.uri in
    let ready = wanted_fit a good in
    picked (λ p. IsTaken o p a.uri) (can_take wanted a.uri o) wanted new
    (λ e. record {
      name = named wanted ready.0 (first_part (is_there wanted) (is_bound_to o.scope wanted a.uri || not (is_xml wanted || o.settled wanted)) e);
      other = ready.1;
      open_to = open_by (is_bound_to o.scope wanted a.uri) (is_xml wanted) (o.settled wanted)
          (second_part (is_there wanted) (is_bound_to o.scope wanted a.uri || not (is_xml wanted || o.settled wanted)) e);
    })
    (λ e. let found = finds e in
    record {
      name = found.0;
      other = made (λ p. is_xmlns p ≡ false) (λ k. refl) o.scope a.uri _ 0;
      open_to = λ f. unsettled (o.settled new) (λ s.
          let some : is_there (uri_in o.scope new) ≡ true = h.bound new (made (λ p. is_there p ≡ true) (λ k. refl) o.scope a.uri _ 0) s in
          let none : is_there (uri_in o.scope new) ≡ false = free_by (is_there (uri_in o.scope new)) (is_bound_to o.scope new a.uri) found.1 f in
          let wrong : true ≡ false = sym some ∙ none in cc);
    })

-- a name with its prefix is read as these two
qualified : (p l : List ℕ) → is_ncname p ≡ true → is_ncname l ≡ true → is_xmlns p ≡ false
    → use_of (with_prefix p l) ≡ Names (record { prefix = Some p; local = l })
qualified [] l hp hl x = absurd (cc)
qualified (c ∷ cs) l hp hl x = ap use_of (append_assoc (c ∷ cs) (0x3A ∷ []) l) ∙ use_prefixed (c ∷ cs) l hp hl x

or_left : (a b : Bool) → a ≡ true → (a || b) ≡ true
or_left true b e = refl
or_left false b e = absurd (cc)

-- one attribute
pub record Goes (outer : Scope) (o n : Opening) (done : List Given) : Type 0 where
  pub holds : Holds outer n done
  pub keeps : Keeps o n

written_more : (outer : Scope) (o : Opening) (done : List Given) (name : List ℕ) (a : Given) → Holds outer o done
    → Means (write name a.value o) (record { name = name; value = a.value }) a → Goes outer o (write name a.value o) (done ++ a ∷ [])
written_more outer o done name a h means =
    record {
      holds = record {
        reads = h.reads;
        declares = h.declares;
        bound = h.bound;
        means = mean_more (write name a.value o) o.attributes done (record { name = name; value = a.value }) a
            (mean_kept o (write name a.value o) o.attributes done (write_keeps name a.value o) h.means) means;
      };
      keeps = write_keeps name a.value o;
    }

with_prefix_taken : (outer : Scope) (p : List ℕ) (a : Given) (o : Opening) (done : List Given) → is_ncname a.local ≡ true → is_there a.uri ≡ true
    → Holds outer o done → IsTaken o p a.uri → Goes outer o (with_prefixed p a o) (done ++ a ∷ [])
with_prefix_taken outer p a o done local there h t =
    let bound_here = needing p a.uri o in
    let ready = settle p bound_here in
    let is : uri_in bound_here.scope p ≡ a.uri = needed p a.uri o in
    let first = needing_holds outer p a.uri o done (prefix_of_name p t.name) (λ _. there) t.open_to h in
    let second = settle_holds outer p bound_here done (λ _. ap is_there is ∙ there) first in
    let last = written_more outer ready done (with_prefix p a.local) a second
    (prefixed p (qualified p a.local t.name local t.other) (or_left (bytes_eq p p) (bound_here.settled p) (itself p)) is there refl) in
    record { holds = last.holds; keeps = kept_then (kept_then (needing_keeps p a.uri o t.open_to) (settle_keeps p bound_here)) last.keeps }
  where
    prefix_of_name : (q : List ℕ) → is_ncname q ≡ true → IsPrefix q
    prefix_of_name [] e = tt
    prefix_of_name (c ∷ cs) e = e

no_uri : (uri : List ℕ) → is_there uri ≡ false → uri ≡ []
no_uri [] e = refl
no_uri (c ∷ cs) e = absurd (cc)

attribute_goes : (outer : Scope) (a : Given) (o : Opening) (done : List Given) → IsReadable a → Holds outer o done
    → (is_there a.uri ≡ true → can_take (wanted_prefix a) a.uri o ≡ false
    → (is_ncname (new_prefix o.scope a.uri) ≡ true) × (is_free o.scope (new_prefix o.scope a.uri) a.uri ≡ true))
    → Goes outer o (with_attribute a o) (done ++ a ∷ [])
attribute_goes outer a o done good h finds =
    picked (λ n. Goes outer o n (done ++ a ∷ [])) (is_there a.uri) (with_prefixed (taken_prefix (wanted_prefix a) a.uri o) a o) (write a.local a.value o)
    (λ there. with_prefix_taken outer (taken_prefix (wanted_prefix a) a.uri o) a o done good.local there h (taken outer a o done good.prefix there h (finds there)))
    (λ none. written_more outer o done a.local a h (bare (use_plain a.local good.local (good.other none)) (no_uri a.uri none) refl))

pub attributes_go : (outer : Scope) (all : List Given) (o : Opening) (done : List Given) → AreReadable all → HasRoom all o → Holds outer o done
    → Goes outer o (with_attributes all o) (done ++ all)
attributes_go outer [] o done good finds h = subst (λ d. Goes outer o o d) (sym (append-nil done)) (record { holds = h; keeps = all_kept o })
attributes_go outer (a ∷ more) o done good finds h =
    let one = attribute_goes outer a o done good.0 h (λ t e. (made_is_name o.scope a.uri finds.0, made_free o.scope a.uri finds.0)) in
    let rest = attributes_go outer more (with_attribute a o) (done ++ a ∷ []) good.1 finds.1 one.holds in
    subst (λ d. Goes outer o (with_attributes more (with_attribute a o)) d) (append_assoc done (a ∷ []) more)
    (record { holds = rest.holds; keeps = kept_then one.keeps rest.keeps })
