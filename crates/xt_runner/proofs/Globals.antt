-- What globals hold.
use Rattle.std.proofs.Common.{◌≡◌, ℕ, suc, ◌<◌, List, [], ◌∷◌, length, map, true, false, ◌==◌, Option, None, Some, refl, sym, ap, ◌∙◌, arith}
use Rattle.std.specs.Prelude.{if◌then◌else◌}
use Rattle.std.proofs.lemmas.Bool.{ne_eqb}
use Rattle.std.specs.Option.{option_map}
use Rattle.spec_stylesheet.specs.Instruction as made
use Rattle.spec_stylesheet.specs.Instruction.{instrs}
use Rattle.spec_meaning.specs.Meaning.{meaning}
use Rattle.spec_meaning.specs.Value as value
use Rattle.spec_meaning.specs.Question.{Question, Answer}
use Rattle.spec_run.specs.Plan.{Plan, End, Yield}
use Rattle.spec_run.specs.Content.{Here, asked, is_empty, is_no_uri, held, planned}
use Rattle.spec_run.specs.Passes.{Passes, stays}
use Rattle.xt_syntax.specs.declared.expr.Expr.{Expr}
use Rattle.xt_syntax.specs.declared.instr.Instr.{Instr}
use Rattle.xt_syntax.specs.declared.instr.Binding.{Binding, out-Binding}
use Rattle.xt_syntax.specs.View.{expr_of}
use Rattle.xt_syntax.specs.PartView.{site_of}
use Rattle.xt_syntax.specs.InstrView.{instr_of, binding_of}
use Rattle.spec_node.specs.declared.node_ref.NodeRef.{NodeRef}
use Rattle.xt_tree.specs.declared.value.Value.{Value}
use Rattle.xt_tree.specs.ValueView.{value_of}
use Rattle.xt_progress.specs.View.{going_of}
use Rattle.xt_frames.specs.declared.frame.Frame.{Frame}
use Rattle.xt_frames.specs.declared.run.Run.{Run}
use Rattle.xt_frames.specs.declared.run.Next.{Next}
use Rattle.xt_frames.specs.declared.run.Next.TheVariants.{Done, Gave}
use Rattle.xt_frames.specs.View.{left_frame}
use Rattle.xt_frames.specs.Left.{left_in, hand, IsStill, Performs, Steps, StepsFrom}
use Rattle.xt_frames.proofs.Passed.{passes_then}
use Rattle.xt_frames.proofs.Lefts.{steps_at, passes_at, comes_after, moved, misses_moved}
use Rattle.xt_runner.specs.Start.{Begun}
use Rattle.xt_runner.proofs.Passed.{view-Binding, steps_as}

-- nothing is left
pub done_does : (ask : Question NodeRef → Answer NodeRef) (p : Plan NodeRef) (k : ℕ) (r : Run) → p ≡ End → Steps ask p k r r Done
done_does ask p k r e = steps_as {new = r} (sym e) (record { so = stays; room = refl; supplies = refl })

-- a global with this select
abbrev pub selected : Binding → Option Expr → made.Binding
selected x s = let b = out-Binding x in record { site = site_of b.site; name = b.name; select = option_map expr_of s; content = instrs (map instr_of b.content.value.items) }

pub own_select : (x : Binding) (e : Expr) (h : Here NodeRef) → (out-Binding x).select ≡ Some e → held (binding_of x) h ≡ asked (site_of (out-Binding x).site) h (meaning (expr_of e)) (λ v. Yield v)
own_select x e h is_e = ap (λ b. held b h) (view-Binding x ∙ ap (selected x) is_e)

empty_is : (is : List Instr) → length is ≡ 0 → is_empty (instrs (map instr_of is)) ≡ true
empty_is [] e = refl
empty_is (i ∷ is) e = absurd (omega (arith, e))

not_empty : (is : List Instr) → 0 < length is → is_empty (instrs (map instr_of is)) ≡ false
not_empty [] lt = absurd (omega (arith, lt))
not_empty (i ∷ is) lt = refl

pub own_empty : (x : Binding) (h : Here NodeRef) → (out-Binding x).select ≡ None → length (out-Binding x).content.value.items ≡ 0 → held (binding_of x) h ≡ Yield (value.Text [])
own_empty x h is_none e =
    let is = instrs (map instr_of (out-Binding x).content.value.items) in
    ap (λ b. held b h) (view-Binding x ∙ ap (selected x) is_none) ∙ ap (λ b. if b then Yield (value.Text []) else planned is h End) (empty_is _ e)

pub own_content : (x : Binding) (h : Here NodeRef) → (out-Binding x).select ≡ None → 0 < length (out-Binding x).content.value.items → held (binding_of x) h ≡ planned (instrs (map instr_of (out-Binding x).content.value.items)) h End
own_content x h is_none lt =
    let is = instrs (map instr_of (out-Binding x).content.value.items) in
    ap (λ b. held b h) (view-Binding x ∙ ap (selected x) is_none) ∙ ap (λ b. if b then Yield (value.Text []) else planned is h End) (not_empty _ lt)

-- a value is given
pub gives : (ask : Question NodeRef → Answer NodeRef) (p : Plan NodeRef) (k : ℕ) (r : Run) (v : Value) → p ≡ Yield (value_of v) → Steps ask p k r r (Gave v)
gives ask p k r v e = steps_as {new = r} (sym e) (record { so = stays; room = refl; supplies = refl })

-- the select has a value
pub evaluated : (ask : Question NodeRef → Answer NodeRef) (f : Frame) (p : Plan NodeRef) (old new : Run) (v : Value) → Passes ask (hand old) old.room p (going_of old.going) (Yield (value_of v)) (going_of new.going) → IsStill old new → Performs ask f p old new (Gave v)
evaluated ask f p old new v s still = record { so = s; room = still.room; supplies = still.supplies }

-- all frames gone, and then this one
pub begun_steps : (ask : Question NodeRef → Answer NodeRef) (f : Frame) (p : Plan NodeRef) (old low new : Run) (next : Next) → Begun End old low → low.frames.items ≡ [] → p ≡ left_frame f End → StepsFrom ask f low new next → Steps ask p (suc (length old.frames.items)) old new next
begun_steps ask f p old low new next begun none e h =
    let same : left_frame f (left_in low) ≡ p = ap (left_frame f) begun.left ∙ sym e in
    let n : length low.frames.items ≡ length {A = Frame} [] = ap length none in
    let going = ap going_of begun.going in
    let s = steps_at ask old low begun.room begun.supplies same going in
    let here = passes_at same going stays in
    comes_after ask p (left_frame f (left_in low)) _ _ old low new next h here (omega (arith, n, s)) begun.room begun.supplies (λ x d l b. record {
      passes = passes_then here (moved old low begun.room begun.supplies b.passes);
      misses = misses_moved old low begun.room begun.supplies b.misses;
    })

-- a name without a URI
pub no_uri : (t : List ℕ) → (length t == 0) ≡ is_no_uri t
no_uri [] = refl
no_uri (c ∷ cs) = ne_eqb (length (c ∷ cs)) 0 (λ e. absurd (omega (arith, e)))
