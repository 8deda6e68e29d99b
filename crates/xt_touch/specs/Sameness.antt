-- That names of nodes are keys: equal ones are hashed alike.
use Rattle.std.specs.Prelude.{◌≡◌, ◌==◌, true, ◌&&◌, refl, IsTrue}
use Rattle.std.specs.Bool.{Decides}
use Rattle.std.specs.Cmp.{IsEquivalence, IsPartialEquivalence, partial_equiv_from_equiv, decided}
use Rattle.std.specs.Hash as fed
use Rattle.std.proofs.Common.{ap, sym, eq-eqb, ◌∙◌}
use Rattle.std.proofs.lemmas.Bool.{and_parts, eqb-true}
use Rattle.spec_node.specs.declared.node_ref.NodeRef.{NodeRef}
use Rattle.spec_node.specs.declared.node_ref.Part.{Part}
use Rattle.spec_node.specs.declared.node_ref.Part.TheVariants as part
use Rattle.spec_node.specs.Naming.{same_part, same_ref}

part_itself : (p : Part) → same_part p p ≡ true
part_itself part.Itself = refl
part_itself (part.Attribute n) = eq-eqb n n refl
part_itself (part.Namespace n) = eq-eqb n n refl

same_parts : (p q : Part) → same_part p q ≡ true → p ≡ q
same_parts part.Itself part.Itself h = refl
same_parts (part.Attribute m) (part.Attribute n) h = ap part.Attribute (eqb-true m n h)
same_parts (part.Namespace m) (part.Namespace n) h = ap part.Namespace (eqb-true m n h)
same_parts part.Itself (part.Attribute n) h = absurd (cc)
same_parts part.Itself (part.Namespace n) h = absurd (cc)
same_parts (part.Attribute m) part.Itself h = absurd (cc)
same_parts (part.Attribute m) (part.Namespace n) h = absurd (cc)
same_parts (part.Namespace m) part.Itself h = absurd (cc)
same_parts (part.Namespace m) (part.Attribute n) h = absurd (cc)

pub ref_itself : (r : NodeRef) → same_ref r r ≡ true
ref_itself r = λ i. eq-eqb r.node.number r.node.number refl i && part_itself r.part i

pub same_refs_are : (r s : NodeRef) → same_ref r s ≡ true → r ≡ s
same_refs_are r s h =
    let parts = and_parts (r.node.number == s.node.number) (same_part r.part s.part) h in
    let number = eqb-true r.node.number s.node.number parts.0 in
    let own = same_parts r.part s.part parts.1 in
    λ i. record { node = record { number = number i }; part = own i }

-- names are the same exactly if they are equal
pub same_ref_is : (r s : NodeRef) → Decides (same_ref r s) (r ≡ s)
same_ref_is r s = (same_refs_are r s, λ e. ap (same_ref r) (sym e) ∙ ref_itself r)

pub same_refs : IsEquivalence same_ref
same_refs = decided same_ref same_ref_is

pub same_refs_partly : IsPartialEquivalence same_ref
same_refs_partly = partial_equiv_from_equiv same_refs

pub same_fed_number : (r s : NodeRef) → IsTrue (same_ref r s) → fed.u64 r.node.number ≡ fed.u64 s.node.number
same_fed_number r s e = ap (λ (n : NodeRef). fed.u64 n.node.number) (same_refs_are r s e)
