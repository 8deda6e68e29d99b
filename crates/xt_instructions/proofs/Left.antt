-- What is left of literal result elements.
use Rattle.std.proofs.Common.{◌≡◌, ℕ, ◌+◌, ◌<◌, ◌≤◌, List, ◌∷◌, length, get_or, drop, map, Some, refl, sym, ap, ◌∙◌, arith}
use Rattle.std.specs.Option.{option_map}
use Rattle.std.specs.Prelude.{slice_get}
use Rattle.std.proofs.lemmas.List.{at_drop_more, at_drop_all, drop-map}
use Rattle.std.proofs.lemmas.Option.{slice_get-map, slice_get_read, slice_get_past}
use Rattle.spec_stylesheet.specs.Place.{Site}
use Rattle.spec_stylesheet.specs.Instruction as made
use Rattle.spec_stylesheet.specs.Instruction.{Instrs, instrs}
use Rattle.spec_meaning.specs.Question.{Question, Answer}
use Rattle.spec_run.specs.Plan.{Plan, Put}
use Rattle.spec_run.specs.Content.{Here, attribute_aliased, attributes_put, asked}
use Rattle.spec_run.specs.Passes.{stays}
use Rattle.spec_transform.specs.Expansion.{expanded}
use Rattle.xt_syntax.specs.declared.instr.Instr.{Instr}
use Rattle.xt_syntax.specs.declared.literal.LiteralAttribute.{LiteralAttribute}
use Rattle.xt_syntax.specs.declared.with_content.WithContent.{WithContent}
use Rattle.xt_syntax.specs.declared.with_content.WithContent.TheVariants as with
use Rattle.xt_syntax.specs.InstrView.{instr_of}
use Rattle.xt_syntax.specs.PartView.{with_content_of, literal_attribute_of, avt_of}
use Rattle.spec_node.specs.declared.node_ref.NodeRef.{NodeRef}
use Rattle.xt_progress.specs.View.{going_of}
use Rattle.xt_frames.specs.declared.frame.Attributes.{Attributes}
use Rattle.xt_frames.specs.declared.frame.Frame.{Frame}
use Rattle.xt_frames.specs.declared.frame.Frame.TheVariants as frames
use Rattle.xt_frames.specs.declared.run.Run.{Run}
use Rattle.xt_frames.specs.declared.run.Next.TheVariants.{Went}
use Rattle.xt_frames.specs.View.{here_of, attributes_left, attributes_left_of, left_frame}
use Rattle.xt_frames.specs.Left.{left_in, hand, steps, Performs}
use Rattle.xt_frames.proofs.Lefts.{passes_at}

-- the instruction of this number
pub instr_at : (is : List Instr) (n : ℕ) (x : Instr) → n < length is → x ≡ get_or is n x → slice_get (map instr_of is) n ≡ Some (instr_of x)
instr_at is n x lt is_x = slice_get-map instr_of is n ∙ ap (λ o. option_map instr_of o) (slice_get_read is (length is) n x refl lt is_x)

-- the instruction whose attributes are left
pub attributes_of : (a : Attributes) (x : Instr) (after : Plan NodeRef) → a.number < length a.content.value.items → x ≡ get_or a.content.value.items a.number x
    → left_frame (frames.Attributes a) after ≡ attributes_left (here_of a.here) a.next (instr_of x).site (instr_of x).form after
attributes_of a x after lt is_x =
    ap (λ o. attributes_left_of (here_of a.here) a.next o after)
    (instr_at a.content.value.items a.number x lt is_x)

pub attributes_past : (a : Attributes) (after : Plan NodeRef) → length a.content.value.items ≤ a.number → left_frame (frames.Attributes a) after ≡ after
attributes_past a after le =
    ap (λ o. attributes_left_of (here_of a.here) a.next o after)
    (slice_get-map instr_of a.content.value.items a.number ∙ ap (λ o. option_map instr_of o) (slice_get_past a.content.value.items a.number le))

-- an instruction that is no literal result element has none
pub no_literal : (w : WithContent) (h : Here NodeRef) (next : ℕ) (site : Site) (is : Instrs) (after : Plan NodeRef) → ((tag : _) → w ≡ with.Literal tag → ⊥)
    → after ≡ attributes_left h next site (made.with_content (with_content_of w) is) after
no_literal (with.Literal tag) h next site is after n = absurd (n tag refl)
no_literal (with.Element name sets) h next site is after n = refl
no_literal (with.Attribute name) h next site is after n = refl
no_literal with.Comment h next site is after n = refl
no_literal (with.ProcessingInstruction target) h next site is after n = refl
no_literal (with.Copy sets) h next site is after n = refl
no_literal (with.Variable name select) h next site is after n = refl
no_literal (with.Message ends) h next site is after n = refl

-- nothing is left of a frame that was taken off
pub none_performed : (ask : Question NodeRef → Answer NodeRef) (f : Frame) (p : Plan NodeRef) (old : Run) → left_in old ≡ p → Performs ask f p old old Went
none_performed ask f p old e =
    let s = ap (λ q. steps ask (hand old) old.room q (going_of old.going)) e in
    record { so = (passes_at e refl stays, omega (arith, s)); room = refl; supplies = refl }

-- the attributes from this one on
abbrev pub attributes_from : List LiteralAttribute → ℕ → Site → Here NodeRef → Plan NodeRef → Plan NodeRef
attributes_from list i site h after = attributes_put site h (drop i (map literal_attribute_of list)) after

pub attribute_next : (list : List LiteralAttribute) (i : ℕ) (x : LiteralAttribute) (site : Site) (h : Here NodeRef) (after : Plan NodeRef) → i < length list → x ≡ get_or list i x
    → attributes_from list i site h after ≡ asked site h (expanded (avt_of x.value)) (λ t. Put (attribute_aliased h.aliases (literal_attribute_of x) t) (attributes_from list (i + 1) site h after))
attribute_next list i x site h after lt is_x =
    ap (λ l. attributes_put site h l after) (drop-map literal_attribute_of i list)
    ∙ at_drop_more (λ rest. attributes_put site h (map literal_attribute_of rest) after) list i x lt
    ∙ ap (λ y. attributes_put site h (literal_attribute_of y ∷ map literal_attribute_of (drop (i + 1) list)) after) (sym is_x)
    ∙ ap (λ l. asked site h (expanded (avt_of x.value)) (λ t. Put (attribute_aliased h.aliases (literal_attribute_of x) t) (attributes_put site h l after))) (sym (drop-map literal_attribute_of (i + 1) list))

pub attribute_none : (list : List LiteralAttribute) (i : ℕ) (site : Site) (h : Here NodeRef) (after : Plan NodeRef) → length list ≤ i → attributes_from list i site h after ≡ after
attribute_none list i site h after le =
    ap (λ l. attributes_put site h l after) (drop-map literal_attribute_of i list) ∙ at_drop_all (λ rest. attributes_put site h (map literal_attribute_of rest) after) list i le
