-- What a node is called, in a mode, as a key of a map: equal ones are hashed alike.
use Rattle.std.specs.Prelude.{◌≡◌, ℕ, ◌==◌, Bool, true, false, ◌&&◌, List, ◌++◌, [], Option, None, Some, bytes_eq, refl, IsTrue, if◌then◌else◌}
use Rattle.std.specs.Bool.{Decides}
use Rattle.std.specs.Cmp.{IsEquivalence, IsPartialEquivalence, partial_equiv_from_equiv, decided}
use Rattle.std.specs.Str.{encode_utf8_all}
use Rattle.std.specs.Hash as fed
use Rattle.std.proofs.Common.{ap, sym, ◌∙◌}
use Rattle.std.proofs.lemmas.Bool.{and_parts}
use Rattle.std.proofs.lemmas.Bool.Decides.{Decides-eqb}
use Rattle.std.proofs.lemmas.Slice.Eq.{bytes_eq-Decides}
use Rattle.spec_document.specs.Name.{Expanded, same_name}
use Rattle.spec_document.specs.declared.kind.Kind.{Kind}
use Rattle.spec_document.specs.declared.kind.Kind.TheVariants as kind
use Rattle.spec_transform.specs.Choice.{same_mode}

pub record CalledIn : Type 0 where
  pub mode : Option Expanded
  pub kind : Kind
  pub name : Option Expanded

abbrev pub kind_number : Kind → ℕ
kind_number kind.Root = 0
kind_number kind.Element = 1
kind_number kind.Attribute = 2
kind_number kind.Namespace = 3
kind_number kind.Text = 4
kind_number kind.Comment = 5
kind_number kind.Instruction = 6

-- modes, and names that a node may lack, are compared alike
abbrev pub same_called : CalledIn → CalledIn → Bool
same_called a b = same_mode a.mode b.mode && kind_number a.kind == kind_number b.kind && same_mode a.name b.name

abbrev kind_of : ℕ → Kind
kind_of n =
    if n == 0 then kind.Root
    else if n == 1 then kind.Element
    else if n == 2 then kind.Attribute
    else if n == 3 then kind.Namespace
    else if n == 4 then kind.Text
    else if n == 5 then kind.Comment
    else kind.Instruction

kind_again : (k : Kind) → kind_of (kind_number k) ≡ k
kind_again kind.Root = refl
kind_again kind.Element = refl
kind_again kind.Attribute = refl
kind_again kind.Namespace = refl
kind_again kind.Text = refl
kind_again kind.Comment = refl
kind_again kind.Instruction = refl

same_kinds : (a b : Kind) → (kind_number a == kind_number b) ≡ true → a ≡ b
same_kinds a b h = sym (kind_again a) ∙ ap kind_of ((Decides-eqb (kind_number a) (kind_number b)).0 h) ∙ kind_again b

both_true : (a b : Bool) → a ≡ true → b ≡ true → (a && b) ≡ true
both_true true b e h = h
both_true false b e h = e

abbrev of_parts : List ℕ → List ℕ → Expanded
of_parts uri local = record { uri = uri; local = local }

same_names : (a b : Expanded) → same_name a b ≡ true → a ≡ b
same_names a b h =
    let parts = and_parts (bytes_eq a.uri b.uri) (bytes_eq a.local b.local) h in
    let uri = (bytes_eq-Decides a.uri b.uri).0 parts.0 in
    let local = (bytes_eq-Decides a.local b.local).0 parts.1 in
    λ i. of_parts (uri i) (local i)

name_itself : (a : Expanded) → same_name a a ≡ true
name_itself a = both_true (bytes_eq a.uri a.uri) (bytes_eq a.local a.local) ((bytes_eq-Decides a.uri a.uri).1 refl) ((bytes_eq-Decides a.local a.local).1 refl)

same_modes : (a b : Option Expanded) → same_mode a b ≡ true → a ≡ b
same_modes None None h = refl
same_modes (Some a) (Some b) h = ap (λ (n : Expanded). Some n) (same_names a b h)
same_modes None (Some b) h = absurd (cc)
same_modes (Some a) None h = absurd (cc)

mode_itself : (a : Option Expanded) → same_mode a a ≡ true
mode_itself None = refl
mode_itself (Some a) = name_itself a

called_itself : (a : CalledIn) → same_called a a ≡ true
called_itself a =
    both_true (same_mode a.mode a.mode && kind_number a.kind == kind_number a.kind) (same_mode a.name a.name)
    (both_true (same_mode a.mode a.mode) (kind_number a.kind == kind_number a.kind) (mode_itself a.mode)
    ((Decides-eqb (kind_number a.kind) (kind_number a.kind)).1 refl)) (mode_itself a.name)

pub one_called : (a b : CalledIn) → same_called a b ≡ true → a ≡ b
one_called a b h =
    let parts = and_parts (same_mode a.mode b.mode && kind_number a.kind == kind_number b.kind) (same_mode a.name b.name) h in
    let first = and_parts (same_mode a.mode b.mode) (kind_number a.kind == kind_number b.kind) parts.0 in
    let mode = same_modes a.mode b.mode first.0 in
    let kind = same_kinds a.kind b.kind first.1 in
    let name = same_modes a.name b.name parts.1 in
    λ i. record { mode = mode i; kind = kind i; name = name i }

-- they are the same exactly if they are equal
pub same_called_is : (a b : CalledIn) → Decides (same_called a b) (a ≡ b)
same_called_is a b = (one_called a b, λ e. ap (same_called a) (sym e) ∙ called_itself a)

pub same_calleds : IsEquivalence same_called
same_calleds = decided same_called same_called_is

pub same_calleds_partly : IsPartialEquivalence same_called
same_calleds_partly = partial_equiv_from_equiv same_calleds

abbrev pub fed_name : Option Expanded → List (List ℕ)
fed_name None = []
fed_name (Some name) = fed.str (encode_utf8_all name.uri) ++ fed.str (encode_utf8_all name.local)

abbrev pub fed_called : CalledIn → List (List ℕ)
fed_called called = fed_name called.mode ++ fed_name called.name

pub same_fed_called : (a b : CalledIn) → IsTrue (same_called a b) → fed_called a ≡ fed_called b
same_fed_called a b e = ap fed_called (one_called a b e)
