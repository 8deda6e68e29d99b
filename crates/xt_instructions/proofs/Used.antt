-- What is left of attribute sets, and what comes first in a sink that was begun.
use Rattle.std.proofs.Common.{◌≡◌, ℕ, suc, ◌+◌, ◌<◌, ◌≤◌, List, [], ◌∷◌, ◌++◌, length, get_or, drop, map, true, Vec, Global, refl, sym, ap, ◌∙◌, append_assoc, arith}
use Rattle.std.specs.List.{flat_map}
use Rattle.std.proofs.lemmas.List.{at_drop_more, at_drop_all}
use Rattle.std.specs.Prelude.{if◌then◌else◌}
use Rattle.spec_document.specs.Name.{Expanded, same_name}
use Rattle.spec_stylesheet.specs.Place.{Place}
use Rattle.spec_meaning.specs.Question.{Question, Answer}
use Rattle.spec_run.specs.Plan.{Plan, End, Begin, Enter, Wrap}
use Rattle.spec_run.specs.Going.{begun}
use Rattle.spec_run.specs.Passes.{stays, begins}
use Rattle.spec_run.specs.Content.{Here, elements_named, set_call, sets_entered, sets_used}
use Rattle.xt_syntax.specs.PartView.{place_of}
use Rattle.spec_node.specs.declared.node_ref.NodeRef.{NodeRef}
use Rattle.xt_questions.specs.declared.answer.NamedSets.{NamedSets}
use Rattle.xt_questions.specs.View.{sets_of}
use Rattle.xt_engine.specs.declared.wrapping.Wrapping.{Wrapping}
use Rattle.xt_engine.specs.View.{wrapping_of}
use Rattle.xt_progress.specs.View.{going_of}
use Rattle.xt_frames.specs.declared.frame.Body.{Body}
use Rattle.xt_frames.specs.declared.frame.Frame.{Frame}
use Rattle.xt_frames.specs.declared.frame.Frame.TheVariants as frames
use Rattle.xt_frames.specs.declared.frame.Sets.{Sets}
use Rattle.xt_frames.specs.declared.run.Run.{Run}
use Rattle.xt_frames.specs.declared.run.Next.{Next}
use Rattle.xt_frames.specs.declared.run.Next.TheVariants.{Went}
use Rattle.xt_frames.specs.View.{here_of, after_body, left_frame, left_over}
use Rattle.xt_frames.specs.Left.{left_in, Does, Steps, Pushed}
use Rattle.xt_frames.proofs.Lefts.{pushed, one_more, steps_at, passes_at, comes_after}
use Rattle.xt_instructions.specs.Over.{IsOver, Precedes, HasBegun}

-- ---- Attribute sets

pub set_next : (s : Sets) (x : NodeRef) (after : Plan NodeRef) → s.next < length s.elements.items → x ≡ get_or s.elements.items s.next x
    → left_frame (frames.Sets s) after ≡ Enter (set_call (place_of s.place) (here_of s.here) x) s.here.depth (sets_entered (place_of s.place) (here_of s.here) (drop (s.next + 1) s.elements.items) after)
set_next s x after lt is_x =
    at_drop_more (λ rest. sets_entered (place_of s.place) (here_of s.here) rest after) s.elements.items s.next x lt
    ∙ ap (λ y. Enter (set_call (place_of s.place) (here_of s.here) y) s.here.depth (sets_entered (place_of s.place) (here_of s.here) (drop (s.next + 1) s.elements.items) after)) (sym is_x)

pub sets_none : (s : Sets) (after : Plan NodeRef) → length s.elements.items ≤ s.next → left_frame (frames.Sets s) after ≡ after
sets_none s after le = at_drop_all (λ rest. sets_entered (place_of s.place) (here_of s.here) rest after) s.elements.items s.next le

-- the elements of one name more
pub name_more : (f : Expanded → List NodeRef) (done next : List NodeRef) (names : List Expanded) (i : ℕ) (x : Expanded) (all : List NodeRef) → i < length names → x ≡ get_or names i x → next ≡ done ++ f x
    → done ++ flat_map f (drop i names) ≡ all → next ++ flat_map f (drop (i + 1) names) ≡ all
name_more f done next names i x all lt is_x e h =
    let more = flat_map f (drop (i + 1) names) in
    let here : flat_map f (drop i names) ≡ f x ++ more = at_drop_more (flat_map f) names i x lt ∙ ap (λ y. f y ++ more) (sym is_x) in
    ap (λ l. l ++ more) e ∙ append_assoc done (f x) more ∙ ap (λ l. done ++ l) (sym here) ∙ h

-- the same steps with one frame more
pub steps_more : (ask : Question NodeRef → Answer NodeRef) (p : Plan NodeRef) (old new : Run) (next : Next) → Does ask p (length old.frames.items) old new next → Steps ask p (suc (length old.frames.items)) old new next
steps_more ask p old new next does = comes_after ask p p _ _ old old new next does stays (omega arith) refl refl (λ n d l x. absurd x)

-- ---- Frames

pub pushed_over : (f : Frame) (old new : Run) → Pushed f old new → IsOver f old new
pushed_over f old new h =
    let n = one_more old.frames.items new.frames.items f h.frames in
    record { left = pushed old new f h.frames; frames = omega (arith, n); going = h.going; room = h.room; supplies = h.supplies }

pub nothing_over : (f : Frame) (r : Run) → left_frame f (left_in r) ≡ left_in r → IsOver f r r
nothing_over f r e = record { left = sym e; frames = omega arith; going = refl; room = refl; supplies = refl }

-- a sink that ends so, before the rest of a body
pub has_begun : (end : Wrapping) (b rest : Body) (old one two new : Run) → rest ≡ record { content = b.content; next = b.next + 1; here = b.here } → Pushed (frames.Body rest) old one → Pushed (frames.Wrap end) one two
    → new.frames ≡ two.frames → new.room ≡ two.room → new.supplies ≡ two.supplies → going_of new.going ≡ begun (going_of two.going) → HasBegun end b old new
has_begun end b rest old one two new is_rest p q same room supplies going =
    let i = one_more old.frames.items one.frames.items (frames.Body rest) p.frames in
    let j = one_more one.frames.items two.frames.items (frames.Wrap end) q.frames in
    let n : length new.frames.items ≡ length two.frames.items = ap (λ (fs : Vec Frame Global). length fs.items) same in
    let one_left : left_in one ≡ after_body b (left_in old) = pushed old one (frames.Body rest) p.frames ∙ ap (λ (r : Body). left_frame (frames.Body r) (left_in old)) is_rest in
    record {
      left = ap (λ (fs : Vec Frame Global). left_over fs.items End) same ∙ pushed one two (frames.Wrap end) q.frames ∙ ap (Wrap (wrapping_of end)) one_left;
      frames = omega (arith, i, j, n);
      going = going ∙ ap (λ g. begun (going_of g)) (q.going ∙ p.going);
      room = room ∙ q.room ∙ p.room;
      supplies = supplies ∙ q.supplies ∙ p.supplies;
    }

-- in a sink that was begun
pub after_begun : (ask : Question NodeRef → Answer NodeRef) (first : Plan NodeRef → Plan NodeRef) (end : Wrapping) (b : Body) (old mid new : Run) → HasBegun end b old mid → Precedes first 2 mid new
    → Does ask (Begin (first (Wrap (wrapping_of end) (after_body b (left_in old))))) (suc (length old.frames.items)) old new Went
after_begun ask first end b old mid new h s =
    let after = first (Wrap (wrapping_of end) (after_body b (left_in old))) in
    let left : left_in new ≡ after = s.left ∙ ap first h.left in
    let going : going_of new.going ≡ begun (going_of old.going) = ap going_of s.going ∙ h.going in
    let room = s.room ∙ h.room in
    let supplies = s.supplies ∙ h.supplies in
    let k = h.frames in
    let l = s.frames in
    let m = steps_at ask old new {q = left_in new} {r = after} {g = going_of new.going} {h = begun (going_of old.going)} room supplies left going in
    record { so = (passes_at left going (begins stays), omega (arith, k, l, m)); room = room; supplies = supplies }

-- a frame, and over it the attribute sets of these names
pub sets_before : (f : Frame) (s : Sets) (by : Place) (h : Here NodeRef) (names : List Expanded) (old mid new : Run) → Pushed f old mid → IsOver (frames.Sets s) mid new
    → place_of s.place ≡ by → here_of s.here ≡ h → drop s.next s.elements.items ≡ flat_map (elements_named h.sets) names → Precedes (λ p. sets_used by h names (left_frame f p)) 2 old new
sets_before f s by h names old mid new p over place here elements =
    let i = one_more old.frames.items mid.frames.items f p.frames in
    let l = over.frames in
    let F : Place → Here NodeRef → List NodeRef → Plan NodeRef = λ q k es. sets_entered q k es (left_frame f (left_in old)) in
    let e : F (place_of s.place) (here_of s.here) (drop s.next s.elements.items) ≡ F by h (flat_map (elements_named h.sets) names) = λ i. F (place i) (here i) (elements i) in
    record {
      left = over.left ∙ ap (left_frame (frames.Sets s)) (pushed old mid f p.frames) ∙ e;
      frames = omega (arith, i, l);
      going = over.going ∙ p.going;
      room = over.room ∙ p.room;
      supplies = over.supplies ∙ p.supplies;
    }

-- ---- The elements of one name

pub set_here : (sets : List NamedSets) (i : ℕ) (x : NamedSets) (name : Expanded) (all : List NodeRef) → i < length sets → x ≡ get_or sets i x → elements_named (map sets_of (drop i sets)) name ≡ all → same_name x.name name ≡ true → all ≡ x.elements.items
set_here sets i x name all lt is_x h e =
    let here : elements_named (map sets_of (drop i sets)) name ≡ elements_named (sets_of x ∷ map sets_of (drop (i + 1) sets)) name =
    at_drop_more (λ rest. elements_named (map sets_of rest) name) sets i x lt ∙ ap (λ y. elements_named (sets_of y ∷ map sets_of (drop (i + 1) sets)) name) (sym is_x) in
    sym h ∙ here ∙ ap (λ b. if b then x.elements.items else elements_named (map sets_of (drop (i + 1) sets)) name) e

pub no_set : (sets : List NamedSets) (i : ℕ) (name : Expanded) (all : List NodeRef) → length sets ≤ i → elements_named (map sets_of (drop i sets)) name ≡ all → all ≡ []
no_set sets i name all le h = sym h ∙ at_drop_all (λ rest. elements_named (map sets_of rest) name) sets i le

-- no names
pub none_used : (by : Place) (h : Here NodeRef) (names : List Expanded) (after : Plan NodeRef) → length names ≡ 0 → after ≡ sets_used by h names after
none_used by h [] after e = refl
none_used by h (x ∷ xs) after e = absurd (omega (arith, e))
