-- What sees a variable.
use Rattle.std.proofs.Common.{◌≡◌, ◌+◌, Option, Vec, Global, drop, map, ap, ◌∙◌, subst}
use Rattle.spec_document.specs.Name.{Expanded}
use Rattle.spec_expression.specs.Syntax.{Expr}
use Rattle.spec_stylesheet.specs.Place.{Site}
use Rattle.spec_stylesheet.specs.Instruction.{Instrs, instrs}
use Rattle.spec_meaning.specs.Question.{Question, Answer}
use Rattle.spec_meaning.specs.Value.{Value}
use Rattle.spec_run.specs.Plan.{Plan}
use Rattle.spec_run.specs.Content.{Here, is_empty, planned, valued, with_variable}
use Rattle.xt_syntax.specs.declared.instr.Instr.{Instr}
use Rattle.xt_syntax.specs.InstrView.{instr_of}
use Rattle.spec_node.specs.declared.node_ref.NodeRef.{NodeRef}
use Rattle.xt_frames.specs.declared.standing.Standing.{Standing}
use Rattle.xt_frames.specs.declared.frame.Body.{Body}
use Rattle.xt_frames.specs.declared.frame.Frame.TheVariants as frames
use Rattle.xt_frames.specs.declared.frame.Holder.TheVariants as holders
use Rattle.xt_frames.specs.declared.run.Run.{Run}
use Rattle.xt_frames.specs.declared.run.Next.{Next}
use Rattle.xt_frames.specs.View.{here_of, inside, following, rest_of, left_with}
use Rattle.xt_frames.specs.Left.{left_in, Performs}

-- this is the body after its next instruction, shared, and this the name
pub record IsRest (b rest shared : Body) (own name : Expanded) : Type 0 where
  pub is_rest : rest ≡ record { content = shared.content; next = shared.next + 1; here = shared.here }
  pub same_content : shared.content.value ≡ b.content.value
  pub same_next : shared.next ≡ b.next
  pub same_here : here_of shared.here ≡ here_of b.here
  pub same_name : own ≡ name

seen : (b rest shared : Body) (own name : Expanded) (v : Value NodeRef) (after : Plan NodeRef) → IsRest b rest shared own name
    → left_with (holders.Variable own rest) v after ≡ following b after (with_variable name v (here_of b.here))
seen b rest shared own name v after e =
    ap (λ (r : Body). planned (rest_of r r.next) (with_variable own v (here_of r.here)) after) e.is_rest
    ∙ ap (λ (c : Vec Instr Global). planned (instrs (map instr_of (drop (shared.next + 1) c.items))) (with_variable own v (here_of shared.here)) after) e.same_content
    ∙ ap (λ n. planned (rest_of b (n + 1)) (with_variable own v (here_of shared.here)) after) e.same_next
    ∙ ap (λ h. planned (rest_of b (b.next + 1)) (with_variable own v h) after) e.same_here
    ∙ ap (λ n. planned (rest_of b (b.next + 1)) (with_variable n v (here_of b.here)) after) e.same_name

pub rest_sees : (ask : Question NodeRef → Answer NodeRef) (site : Site) (select : Option Expr) (is : Instrs) (b rest shared : Body) (here : Standing) (own name : Expanded) (old new : Run) (next : Next)
    → here_of here ≡ here_of b.here → IsRest b rest shared own name
    → Performs ask (frames.Body b) (valued site (here_of here) select (is_empty is) (inside site.place is (here_of here)) (λ v. left_with (holders.Variable own rest) v (left_in old))) old new next
    → Performs ask (frames.Body b) (valued site (here_of b.here) select (is_empty is) (inside site.place is (here_of b.here)) (λ v. following b (left_in old) (with_variable name v (here_of b.here)))) old new next
rest_sees ask site select is b rest shared here own name old new next same e does =
    let P : Here NodeRef → Type 0 = λ h. Performs ask (frames.Body b) (valued site h select (is_empty is) (inside site.place is h) (λ v. left_with (holders.Variable own rest) v (left_in old))) old new next in
    let Q : (Value NodeRef → Plan NodeRef) → Type 0 = λ k. Performs ask (frames.Body b) (valued site (here_of b.here) select (is_empty is) (inside site.place is (here_of b.here)) k) old new next in
    subst Q (λ i v. seen b rest shared own name v (left_in old) e i) (subst P same does)
