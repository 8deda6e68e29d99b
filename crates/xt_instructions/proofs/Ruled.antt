-- What comes of xsl:apply-imports.
use Rattle.std.specs.Prelude.{Vec}
use Rattle.std.specs.Global.{Global}
use Rattle.std.proofs.Common.{◌≡◌, ℕ, Bool, true, false, Option, None, suc, length, refl, sym, ap, subst, if◌then◌else◌}
use Rattle.spec_stylesheet.specs.Place.{Site}
use Rattle.spec_stylesheet.specs.Instruction.{ApplyImports}
use Rattle.spec_meaning.specs.Question.{Question, Answer}
use Rattle.spec_meaning.specs.Program.{CurrentRule, Rule, Ruled, current_in}
use Rattle.spec_run.specs.Plan.{Plan, Use}
use Rattle.spec_run.specs.Direct.{Known}
use Rattle.spec_run.specs.Going.{Going, Saw, noted}
use Rattle.spec_run.specs.Passes.{Passes, stays, uses}
use Rattle.spec_run.specs.Content.{Here, imports_applied, planned_without}
use Rattle.spec_node.specs.declared.node_ref.NodeRef.{NodeRef}
use Rattle.xt_questions.specs.View.{supplies_of}
use Rattle.xt_frames.specs.declared.run.Run.{Run}
use Rattle.xt_frames.specs.declared.run.Next.{Next}
use Rattle.xt_frames.specs.View.{after_body}
use Rattle.xt_frames.specs.declared.frame.Body.{Body}
use Rattle.xt_frames.specs.declared.frame.Frame.{Frame}
use Rattle.xt_frames.specs.Left.{left_in, hand, Does, IsStill}
use Rattle.xt_frames.proofs.Performs.{left_still}
use Rattle.xt_progress.specs.View.{going_of}
use Rattle.xt_instructions.proofs.Asked.{passed}

-- where this says whether the rule of the instantiation is the current one
abbrev imports_by : Bool → Site → Here NodeRef → Plan NodeRef → Plan NodeRef
imports_by ruled site h after =
    if ruled then Use Rule h.depth site.place (λ g. imports_applied site h (current_in g) after) else imports_applied site h None after

pub none_is_current : {ask : Question NodeRef → Answer NodeRef} (r : Run) {g : Going NodeRef} (site : Site) (h : Here NodeRef) (after : Plan NodeRef) → h.ruled ≡ false
    → Passes ask (hand r) r.room (planned_without site h ApplyImports after) g (imports_applied site h None after) g
none_is_current {ask = ask} r {g = g} site h after e =
    let P : Bool → Type 0 = λ ruled. Passes ask (hand r) r.room (imports_by ruled site h after) g (imports_applied site h None after) g in
    subst P (sym e) stays

-- the rule of the instantiation is what the run supplies
pub one_is_current : {ask : Question NodeRef → Answer NodeRef} (r : Run) {g later : Going NodeRef} (site : Site) (h : Here NodeRef) (after : Plan NodeRef) (rule : Option CurrentRule) → h.ruled ≡ true → rule ≡ (supplies_of r.supplies).rule
    → later ≡ noted (Saw Rule h.depth site.place (Known (Ruled (supplies_of r.supplies).rule))) g → Passes ask (hand r) r.room (planned_without site h ApplyImports after) g (imports_applied site h rule after) later
one_is_current {ask = ask} r {g = g} {later = later} site h after rule e same is_later =
    let P : Bool → Type 0 = λ ruled. Passes ask (hand r) r.room (imports_by ruled site h after) g (imports_applied site h rule after) later in
    let Q : Option CurrentRule → Type 0 = λ o. Passes ask (hand r) r.room (imports_by true site h after) g (imports_applied site h o after) later in
    let R : Going NodeRef → Type 0 = λ i. Passes ask (hand r) r.room (imports_by true site h after) g (imports_applied site h (supplies_of r.supplies).rule after) i in
    subst P (sym e) (subst Q (sym same) (subst R (sym is_later) (uses refl stays)))

-- what comes of it once the current rule is known
pub once_known : (ask : Question NodeRef → Answer NodeRef) (p q : Plan NodeRef → Plan NodeRef) (b : Body) (old mid new : Run) (next : Next) → Passes ask (hand old) old.room (p (after_body b (left_in old))) (going_of old.going) (q (after_body b (left_in old))) (going_of mid.going) → IsStill old mid
    → Does ask (q (after_body b (left_in mid))) (suc (length mid.frames.items)) mid new next → Does ask (p (after_body b (left_in old))) (suc (length old.frames.items)) old new next
once_known ask p q b old mid new next s still does =
    let P : Plan NodeRef → Type 0 = λ l. Does ask (q (after_body b l)) (suc (length mid.frames.items)) mid new next in
    let Q : ℕ → Type 0 = λ k. Does ask (q (after_body b (left_in old))) k mid new next in
    let there : Does ask (q (after_body b (left_in old))) (suc (length old.frames.items)) mid new next =
    subst Q (ap (λ (f : Vec Frame Global). suc (length f.items)) still.frames) (subst P (left_still still) does) in
    passed ask _ _ _ old mid new next s still.room still.supplies there
