-- The parts of names: of a QName, and of a name that is put together of a prefix and a local part.
use Rattle.std.proofs.Common.{◌≡◌, ◌∙◌, ℕ, Bool, true, false, List, [], ◌∷◌, Option, None, Some, refl, sym, ap, subst, append_assoc}
use Rattle.std.specs.Prelude.{◌&&◌, if◌then◌else◌, unwrap_or, is_none}
use Rattle.std.specs.Option.{option_and_then}
use Rattle.std.specs.List.{before_first, after_first}
use Rattle.std.proofs.lemmas.Bool.{and_parts}
use Rattle.spec_document.specs.Name.{QName, is_ncname, is_colon, qname_of}
use Rattle.spec_document.specs.Scope.{Scope}
use Rattle.spec_document.specs.Declaration.{element_name}
use Rattle.spec_document.specs.NodeFaults.{is_wrong_element}
use Rattle.spec_result.specs.Shape.{with_prefix}
use Rattle.spec_result.specs.Named.{IsPrefix}
use Rattle.spec_result.proofs.Qualified.{qname_plain, qname_prefixed}
use Rattle.spec_named.proofs.Streams.{IsQName}

pub picked : {X : Type 0} (P : X → Type 0) (b : Bool) (x y : X) → (b ≡ true → P x) → (b ≡ false → P y) → P (if b then x else y)
picked P true x y f g = f refl
picked P false x y f g = g refl

pub prefix_named : (p : List ℕ) → is_ncname p ≡ true → IsPrefix p
prefix_named [] e = tt
prefix_named (c ∷ cs) e = e

abbrev pub HasParts : Option QName → Type 0
HasParts None = Unit {0}
HasParts (Some parts) = IsPrefix (unwrap_or parts.prefix []) × (is_ncname parts.local ≡ true)

pub has_parts : (name : List ℕ) → HasParts (qname_of name)
has_parts name =
    let before = before_first is_colon name in
    let after = after_first is_colon name in
    picked HasParts (is_ncname name) (Some (record { prefix = None; local = name }))
    (if is_ncname before && is_ncname after then Some (record { prefix = Some before; local = after }) else None) (λ e. (tt, e))
    (λ _. picked HasParts (is_ncname before && is_ncname after) (Some (record { prefix = Some before; local = after })) None
    (λ e. let both = and_parts (is_ncname before) (is_ncname after) e in (prefix_named before both.0, both.1)) (λ _. tt))

-- the name by its parts
abbrev IsQNameOf : List ℕ → Option QName → Type 0
IsQNameOf name o =
    IsPrefix (elim o [ None ↦ [] | Some parts ↦ unwrap_or parts.prefix [] ]) × (is_ncname (elim o [ None ↦ name | Some parts ↦ parts.local ]) ≡ true)

by_parts : (name : List ℕ) (q : QName) → qname_of name ≡ Some q → HasParts (Some q) → IsQName name
by_parts name q e h = subst (IsQNameOf name) (sym e) h

pub parted : (name : List ℕ) (q : QName) → qname_of name ≡ Some q → IsQName name
parted name q e = by_parts name q e (subst HasParts e (has_parts name))

pub not_wrong : (scope : Scope) (name : List ℕ) → is_wrong_element scope name ≡ false → IsQName name
not_wrong scope name h = at (qname_of name) refl h
  where
    at : (o : Option QName) → qname_of name ≡ o → is_none (option_and_then (element_name scope) o) ≡ false → IsQName name
    at None e h = absurd (cc)
    at (Some q) e h = parted name q e

pub put_together : (prefix local : List ℕ) → IsPrefix prefix → is_ncname local ≡ true → IsQName (with_prefix prefix local)
put_together [] local h g = by_parts local (record { prefix = None; local = local }) (qname_plain local g) (tt, g)
put_together (c ∷ cs) local h g =
    by_parts (with_prefix (c ∷ cs) local) (record { prefix = Some (c ∷ cs); local = local })
    (ap qname_of (append_assoc (c ∷ cs) (0x3A ∷ []) local) ∙ qname_prefixed (c ∷ cs) local h g) (h, g)
