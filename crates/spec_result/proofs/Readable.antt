-- The attributes that stand of a stream have names that can be read: they are QNames, and none is a declaration.
use Rattle.std.proofs.Common.{◌≡◌, refl, ℕ, Bool, true, false, List, [], ◌∷◌, ◌++◌, Option, None, Some}
use Rattle.std.specs.Prelude.{◌&&◌, ◌||◌, not, if◌then◌else◌, is_some, unwrap_or}
use Rattle.std.specs.List.{before_first, after_first}
use Rattle.std.proofs.lemmas.Bool.{and_parts}
use Rattle.spec_document.specs.Name.{QName, is_ncname, is_colon, qname_of}
use Rattle.spec_document.specs.Declaration.{is_there, is_xmlns}
use Rattle.spec_meaning.specs.Stream.{Stream, Ended, Element, Nameless, Attribute, Namespace, Text, Comment, Instruction, Message, Hole}
use Rattle.spec_result.specs.Recovery.{Given, Standing, Nothing, AnElement, AText, AComment, AnInstruction, prefix_of, local_of, has_child, value_of, is_attribute_name, given_by, attributes_of, is_same_attribute, added_to, all_added, text_before, standing_before, standing}
use Rattle.spec_result.specs.Named.{IsPrefix}

-- a QName, which in no namespace is not `xmlns`
pub record IsReadable (a : Given) : Type 0 where
  pub prefix : IsPrefix a.prefix
  pub local : is_ncname a.local ≡ true
  pub other : is_there a.uri ≡ false → is_xmlns a.local ≡ false

abbrev pub AreReadable : List Given → Type 0
AreReadable [] = Unit {0}
AreReadable (a ∷ more) = IsReadable a × AreReadable more

abbrev pub HasReadable : Standing → Type 0
HasReadable Nothing = Unit {0}
HasReadable (AnElement prefix local uri namespaces attributes children siblings) = AreReadable attributes × HasReadable children × HasReadable siblings
HasReadable (AText text siblings) = HasReadable siblings
HasReadable (AComment text siblings) = HasReadable siblings
HasReadable (AnInstruction target text siblings) = HasReadable siblings

picked : {X : Type 0} (P : X → Type 0) (b : Bool) (x y : X) → (b ≡ true → P x) → (b ≡ false → P y) → P (if b then x else y)
picked P true x y f g = f refl
picked P false x y f g = g refl

-- ---- One attribute

prefix_named : (p : List ℕ) → is_ncname p ≡ true → IsPrefix p
prefix_named [] e = tt
prefix_named (c ∷ cs) e = e

abbrev HasParts : Option QName → Type 0
HasParts None = Unit {0}
HasParts (Some parts) = IsPrefix (unwrap_or parts.prefix []) × (is_ncname parts.local ≡ true)

has_parts : (name : List ℕ) → HasParts (qname_of name)
has_parts name =
    let before = before_first is_colon name in
    let after = after_first is_colon name in
    picked HasParts (is_ncname name) (Some (record { prefix = None; local = name }))
    (if is_ncname before && is_ncname after then Some (record { prefix = Some before; local = after }) else None) (λ e. (tt, e))
    (λ _. picked HasParts (is_ncname before && is_ncname after) (Some (record { prefix = Some before; local = after })) None
    (λ e. let both = and_parts (is_ncname before) (is_ncname after) e in (prefix_named before both.0, both.1)) (λ _. tt))

parts_read : (name : List ℕ) (o : Option QName) → is_some o ≡ true → HasParts o
    → IsPrefix (elim o [ None ↦ [] | Some parts ↦ unwrap_or parts.prefix [] ]) × (is_ncname (elim o [ None ↦ name | Some parts ↦ parts.local ]) ≡ true)
parts_read name None e has = absurd (cc)
parts_read name (Some parts) e has = has

no_xmlns : (there xmlns : Bool) → (there || not xmlns) ≡ true → there ≡ false → xmlns ≡ false
no_xmlns true xmlns e f = absurd (cc)
no_xmlns false true e f = absurd (cc)
no_xmlns false false e f = refl

given_readable : (name uri value : List ℕ) → AreReadable (given_by name uri value)
given_readable name uri value =
    picked AreReadable (is_attribute_name name uri) (record { prefix = prefix_of name; local = local_of name; uri = uri; value = value } ∷ []) []
    (λ e.
    let all = and_parts (is_some (qname_of name) && not (is_xmlns name)) (is_there uri || not (is_xmlns (local_of name))) e in
    let good = and_parts (is_some (qname_of name)) (not (is_xmlns name)) all.0 in
    let parts = parts_read name (qname_of name) good.0 (has_parts name) in
    (record { prefix = parts.0; local = parts.1; other = no_xmlns (is_there uri) (is_xmlns (local_of name)) all.1 }, tt)) (λ _. tt)

-- ---- All of them

both_readable : (xs ys : List Given) → AreReadable xs → AreReadable ys → AreReadable (xs ++ ys)
both_readable [] ys h i = i
both_readable (x ∷ xs) ys h i = (h.0, both_readable xs ys h.1 i)

added_readable : (done : List Given) (a : Given) → AreReadable done → IsReadable a → AreReadable (added_to done a)
added_readable [] a h i = (i, tt)
added_readable (b ∷ bs) a h i =
    picked AreReadable (is_same_attribute a b) (a ∷ bs) (b ∷ added_to bs a) (λ _. (i, h.1)) (λ _. (h.0, added_readable bs a h.1 i))

all_readable : (more done : List Given) → AreReadable done → AreReadable more → AreReadable (all_added done more)
all_readable [] done h i = h
all_readable (a ∷ more) done h i = all_readable more (added_to done a) (added_readable done a h i.0) i.1

unless_ended : (ended : Bool) (more : List Given) → AreReadable more → AreReadable (if ended then [] else more)
unless_ended true more h = tt
unless_ended false more h = h

attributes_readable : (s : Stream) → AreReadable (attributes_of s)
attributes_readable Ended = tt
attributes_readable (Element name uri namespaces content rest) = tt
attributes_readable (Nameless content rest) = unless_ended (has_child content) (attributes_of rest) (attributes_readable rest)
attributes_readable (Attribute name uri content rest) =
    both_readable (given_by name uri (value_of content)) (attributes_of rest) (given_readable name uri (value_of content)) (attributes_readable rest)
attributes_readable (Namespace prefix uri rest) = attributes_readable rest
attributes_readable (Text text rest) = unless_ended (is_there text) (attributes_of rest) (attributes_readable rest)
attributes_readable (Comment content rest) = tt
attributes_readable (Instruction target content rest) = tt
attributes_readable (Message content rest) = attributes_readable rest
attributes_readable (Hole rest) = attributes_readable rest

text_readable : (text : List ℕ) (s : Standing) → HasReadable s → HasReadable (text_before text s)
text_readable [] s h = h
text_readable (c ∷ cs) Nothing h = h
text_readable (c ∷ cs) (AnElement prefix local uri namespaces attributes children siblings) h = h
text_readable (c ∷ cs) (AText text siblings) h = h
text_readable (c ∷ cs) (AComment text siblings) h = h
text_readable (c ∷ cs) (AnInstruction target text siblings) h = h

before_readable : (s : Stream) (behind : Standing) → HasReadable behind → HasReadable (standing_before s behind)
before_readable Ended behind h = h
before_readable (Element name uri namespaces content rest) behind h =
    (all_readable (attributes_of content) [] tt (attributes_readable content), before_readable content Nothing tt, before_readable rest behind h)
before_readable (Nameless content rest) behind h = before_readable content (standing_before rest behind) (before_readable rest behind h)
before_readable (Attribute name uri content rest) behind h = before_readable rest behind h
before_readable (Namespace prefix uri rest) behind h = before_readable rest behind h
before_readable (Text text rest) behind h = text_readable text (standing_before rest behind) (before_readable rest behind h)
before_readable (Comment content rest) behind h = before_readable rest behind h
before_readable (Instruction target content rest) behind h = before_readable rest behind h
before_readable (Message content rest) behind h = before_readable rest behind h
before_readable (Hole rest) behind h = before_readable rest behind h

pub readable : (s : Stream) → HasReadable (standing s)
readable s = before_readable s Nothing tt
