-- The element that is left out of those whose units need not be asked for.
use Rattle.std.proofs.Common.{◌≡◌, inl, inr, Bool, false, List, Option, None, Some, ◌∙◌}
use Rattle.std.specs.Prelude.{IfNone, IfSome}
use Rattle.spec_node.specs.Naming.{same_ref}
use Rattle.spec_node.specs.declared.node_ref.NodeRef.{NodeRef}
use Rattle.spec_touch.specs.Marks.{is_unit_among}
use Rattle.xt_record.specs.Asked.{NoUnitIsAsked, UnitIsAsked}
use Rattle.xt_record.specs.declared.pool.Pool.{Pool}
use Rattle.xt_held.specs.Alike.{LeaveOneOut}

-- with one element more
pub still_out : (left_out : Option NodeRef) (element : NodeRef) (is : Bool) (before after : List NodeRef) → IfSome left_out (λ one. is ≡ same_ref one element)
    → ((one : NodeRef) → is ≡ same_ref one element → is_unit_among before one ≡ false → is_unit_among after one ≡ false)
    → IfSome left_out (λ one. is_unit_among before one ≡ false) → IfSome left_out (λ one. is_unit_among after one ≡ false)
still_out None element is before after that pushed h = tt
still_out (Some one) element is before after that pushed h = pushed one that h

-- it is one that the records ask for, where they ask for any
pub one_is_left_out : (records : Pool) (left_out : Option NodeRef) (units : List NodeRef)
    → IfSome left_out (λ element. UnitIsAsked element records.records.items) → IfNone left_out (NoUnitIsAsked records.records.items)
    → IfSome left_out (λ one. is_unit_among units one ≡ false) → LeaveOneOut records units
one_is_left_out records None units asked none out = inl none
one_is_left_out records (Some element) units asked none out = inr (element, asked, out)

-- nor is it among the same elements
pub out_of_same : (left_out : Option NodeRef) (units list : List NodeRef) → ((element : NodeRef) → is_unit_among units element ≡ is_unit_among list element)
    → IfSome left_out (λ one. is_unit_among list one ≡ false) → IfSome left_out (λ one. is_unit_among units one ≡ false)
out_of_same None units list same out = tt
out_of_same (Some one) units list same out = same one ∙ out
