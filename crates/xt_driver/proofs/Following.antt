-- Where a run stands elsewhere, turn by turn.
use Rattle.std.specs.declared.rc.Rc.{Rc}
use Rattle.std.specs.declared.alloc.Global.{Global as Allocator}
use Rattle.std.proofs.Common.{◌≡◌, ℕ, zero, suc, ◌-◌, ◌≤◌, List, Option, Some, None, Ok, refl, sym, ap, subst, ◌∙◌, arith}
use Rattle.std.specs.Prelude.{Bool}
use Rattle.spec_document.specs.Name.{Expanded}
use Rattle.spec_meaning.specs.Stream.{Stream, filled}
use Rattle.spec_meaning.specs.Question.{Question, Answer}
use Rattle.spec_meaning.specs.Program.{Valued}
use Rattle.spec_meaning.specs.Supplies.{Supplies, at_hand}
use Rattle.spec_run.specs.Plan.{Refused, Call}
use Rattle.spec_run.specs.Direct.{Known, Ending, Finished, Gave, Halted, Outcome}
use Rattle.spec_run.specs.Going.{Going, at_start, given, opened, closed, Owned, owned, unless_halted, own, whole}
use Rattle.spec_run.specs.Hold.{GoesOn}
use Rattle.spec_run.specs.Passes.{Passes}
use Rattle.spec_run.specs.Content.{plan_of}
use Rattle.spec_run.specs.Meaning.{Setting, Past, referred, meaning}
use Rattle.spec_run.proofs.Trails.{own_went}
use Rattle.xt_syntax.specs.PartView.{place_of}
use Rattle.xt_base.specs.declared.place.Place.{Place as CodePlace}
use Rattle.spec_node.specs.declared.node_ref.NodeRef.{NodeRef}
use Rattle.spec_node.specs.Naming.{same_ref}
use Rattle.xt_tree.specs.ValueView.{value_of}
use Rattle.xt_engine.specs.View.{call_of}
use Rattle.xt_engine.specs.declared.call.Call.{Call as CodeCall}
use Rattle.xt_engine.specs.declared.event.Ran.{Ran}
use Rattle.xt_engine.specs.declared.turn.Entered.{Entered}
use Rattle.xt_engine.specs.declared.turn.Entered.TheVariants as entered
use Rattle.xt_engine.specs.declared.turn.Turn.TheVariants.{Want, WantGlobal, Done}
use Rattle.xt_engine.specs.Progress.{Waiting, ForNothing, ForCall, ForGlobal, Progress, Gift, Streamed, Evaluated, RefusedAs, IsUnderWay, Start, Goes, Halts, received, started, supplied_with}
use Rattle.xt_engine.specs.Advances.{Advances, AdvancesSo, Made, ran_of, ends, gift_of}
use Rattle.xt_driver.specs.View.{gift_for}
use Rattle.xt_driver.specs.Stands.{Agrees, Level, supply_of, nested_of, StandsSo, Stands, at_other, FollowsSo, Follows, Elsewhere}
use Rattle.xt_driver.specs.Remembered.{Entry, Suits, Lasts, GivesAlways}
use Rattle.xt_driver.proofs.Less.{referred_less, referred_at}
use Rattle.xt_driver.proofs.Given.{agrees_begun, agrees_with}
use Rattle.xt_driver.proofs.Owns.{own_passes, passes_streams}
use Rattle.xt_driver.proofs.Passing.{GoesFrom, went_from, passes_height, passes_there}
use Rattle.xt_driver.proofs.Remembering.{More, suits_more}
use Rattle.xt_driver.proofs.Standing.{means_all, own_ends, in_room}
use Rattle.spec_run.proofs.More.{meaning_at}

abbrev Ask : Type 0
Ask = Question NodeRef → Answer NodeRef

abbrev all_of : Level → Owned NodeRef
all_of l = own l.setting.ask (supply_of l) (nested_of l) l.below (plan_of l.setting.same l.call) at_start

abbrev height_of : Start NodeRef → ℕ
height_of (Goes g s) = g.height
height_of (Halts why g) = g.height

-- what is received takes no height
received_height : (w : Waiting NodeRef) (g : Going NodeRef) (s : Supplies NodeRef) (gift : Option (Gift NodeRef)) → height_of (received w g s gift) ≡ g.height
received_height ForNothing g s gift = refl
received_height (ForCall c d) g s None = refl
received_height (ForCall c d) g s (Some (Streamed t)) = refl
received_height (ForCall c d) g s (Some (Evaluated v)) = refl
received_height (ForCall c d) g s (Some (RefusedAs why t)) = refl
received_height (ForCall c d) g s (Some IsUnderWay) = refl
received_height (ForGlobal n d l) g s None = refl
received_height (ForGlobal n d l) g s (Some (Streamed t)) = refl
received_height (ForGlobal n d l) g s (Some (Evaluated v)) = refl
received_height (ForGlobal n d l) g s (Some (RefusedAs why t)) = refl
received_height (ForGlobal n d l) g s (Some IsUnderWay) = refl

-- at the start
follows_begun : (l : Level) (p : Progress) (room : ℕ) → l.setting.same ≡ same_ref → p ≡ started l.call room → Follows l p None
follows_begun l p room same e =
    let P : Progress → Type 0 = λ q. Follows l q None in
    let begun : own l.setting.ask (supply_of l) (nested_of l) l.below (plan_of same_ref l.call) at_start ≡ all_of l
    = ap (λ (same : NodeRef → NodeRef → Bool). own l.setting.ask (supply_of l) (nested_of l) l.below (plan_of same l.call) at_start) (sym same) in
    subst P (sym e) (record { so = (begun, agrees_begun l.call (referred l.setting (meaning l.setting l.below) l.past)) })

pub elsewhere_begun : (l : Level) (all : List (Entry NodeRef)) (spare : ℕ) (p : Progress) → l.setting.same ≡ same_ref → p ≡ started l.call l.below → Elsewhere l all spare p None
elsewhere_begun l all spare p same e = record { so = λ below past low high suits. follows_begun (at_other l below past) p l.below same e }

follows_of : {l : Level} {q : Progress} {next : Option (Gift NodeRef)} (st : Start NodeRef) (w : Waiting NodeRef) (s : Supplies NodeRef)
    → q.waits ≡ w → q.supplies ≡ s → received w q.going s next ≡ st → FollowsSo l q.left st → Follows l q next
follows_of {l = l} {q = q} {next = next} st w s e f same so =
    let is : received q.waits q.going q.supplies next ≡ st = ap (λ x. received x q.going q.supplies next) e ∙ ap (λ x. received w q.going x next) f ∙ same in
    let P : Start NodeRef → Type 0 = λ x. FollowsSo l q.left x in
    record { so = subst P (sym is) so }

-- ---- After an instantiation that it enters

-- what is left after it, by what comes of it
abbrev after : Level → Progress → Call NodeRef → ℕ → Outcome NodeRef → Owned NodeRef
after l q k d o =
    unless_halted (own l.setting.ask (supply_of l) (nested_of l) l.below q.left (given o.content (opened k d q.going))) (given o.content (opened k d q.going)) o.ending

follows_after : (l : Level) (q : Progress) (next : Option (Gift NodeRef)) (s : Supplies NodeRef) (k : Call NodeRef) (d : ℕ) (o : Outcome NodeRef)
    → (GoesOn o.ending → after l q k d o ≡ all_of l) → Agrees (supply_of l) (at_hand s) → q.waits ≡ ForCall k d → q.supplies ≡ s → next ≡ Some (gift_for o.content o.ending) → Follows l q next
follows_after l q next s k d o left agrees e f n = by_ending o.content o.ending left n
  where
    by_ending : (t : Stream) (x : Ending NodeRef) → (GoesOn x → after l q k d (record { content = t; ending = x }) ≡ all_of l) → next ≡ Some (gift_for t x) → Follows l q next
    by_ending t Finished left n = follows_of (Goes (given t (opened k d q.going)) s) (ForCall k d) s e f (ap (received (ForCall k d) q.going s) n) (left tt, agrees)
    by_ending t (Gave v) left n = follows_of (Goes (given t (opened k d q.going)) s) (ForCall k d) s e f (ap (received (ForCall k d) q.going s) n) (left tt, agrees)
    by_ending t (Halted why) left n = follows_of (Halts why (given t (opened k d q.going))) (ForCall k d) s e f (ap (received (ForCall k d) q.going s) n) tt

pub elsewhere_entered : (l : Level) (m n : List (Entry NodeRef)) (spare fewer less : ℕ) (p q : Progress) (gift next : Option (Gift NodeRef)) (w : Rc CodeCall Allocator) (d left : ℕ) (k : Call NodeRef) (o : Outcome NodeRef)
    → Elsewhere l m spare p gift → Advances l.setting.ask gift p q (Ok (Want w d)) → More m n → fewer ≤ spare → fewer ≤ less
    → left ≡ l.below - d → ((r : ℕ) (past : Past NodeRef) → nested_of (at_other l r past) d (call_of w.value) ≡ meaning l.setting r past d k)
    → Lasts l.setting l.past (left - less) n k o → next ≡ Some (gift_for o.content o.ending) → Elsewhere l n fewer q next
elsewhere_entered l m n spare fewer less p q gift next w d left k o h a f i j room same lasts is = record { so = there }
  where
    there : (below : ℕ) (past : Past NodeRef) → l.below - fewer ≤ below → q.going.height ≤ below → Suits l.past.values n past → Follows (at_other l below past) q next
    there below past low high suits = go (received p.waits p.going p.supplies gift) refl a.so
      where
        go : (st : Start NodeRef) → received p.waits p.going p.supplies gift ≡ st → AdvancesSo l.setting.ask p st q (Ok (Want w d)) → Follows (at_other l below past) q next
        go (Halts why g) at adv = absurd adv
        go (Goes g s) at adv =
            let x = at_other l below past in
            let taller = passes_height adv.0 in
            let so_high : p.going.height ≡ g.height = sym (received_height p.waits p.going p.supplies gift) ∙ ap height_of at in
            let before = h.so below past (omega (arith, low, i)) (omega (arith, high, taller, so_high)) (suits_more f suits) in
            let F : Start NodeRef → Type 0 = λ y. FollowsSo x p.left y in
            let so = subst F at before.so in
            let passes = passes_there below adv.0 tt high in
            let means : GoesOn o.ending → nested_of x d (call_of w.value) ≡ o = λ on. same below past ∙ meaning_at l.setting below past d k ∙ lasts.so on (below - d) past (omega (arith, low, j, room)) suits in
            follows_after x q next s (call_of w.value) d o
            (λ on. ap (after x q (call_of w.value) d) (sym (means on)) ∙ sym (own_passes x.setting.ask (supply_of x) (nested_of x) x.below so.1 passes) ∙ so.0) so.1 adv.2 adv.1 is

-- ---- After a global that an expression needs

-- what is given there too, where it is a value
abbrev pub HoldsThere : Level → List (Entry NodeRef) → Expanded → ℕ → Entered → Type 0
HoldsThere l n name levels (entered.Value v) = GivesAlways l.setting l.past.values n name levels (value_of v)
HoldsThere l n name levels (entered.Stream content) = ⊥
HoldsThere l n name levels (entered.Refused why content) = Unit {0}
HoldsThere l n name levels entered.UnderWay = Unit {0}

pub elsewhere_referred : (l : Level) (m n : List (Entry NodeRef)) (spare fewer less : ℕ) (p q : Progress) (gift : Option (Gift NodeRef)) (name : Expanded) (d left : ℕ) (place : CodePlace) (e : Entered)
    → Elsewhere l m spare p gift → Advances l.setting.ask gift p q (Ok (WantGlobal name d place)) → More m n → fewer ≤ spare → fewer ≤ less
    → left ≡ l.below - d → HoldsThere l n name (left - less) e → Elsewhere l n fewer q (gift_of (Some e))
elsewhere_referred l m n spare fewer less p q gift name d left place e h a f i j room holds = record { so = there }
  where
    there : (below : ℕ) (past : Past NodeRef) → l.below - fewer ≤ below → q.going.height ≤ below → Suits l.past.values n past → Follows (at_other l below past) q (gift_of (Some e))
    there below past low high suits = go (received p.waits p.going p.supplies gift) refl a.so
      where
        go : (st : Start NodeRef) → received p.waits p.going p.supplies gift ≡ st → AdvancesSo l.setting.ask p st q (Ok (WantGlobal name d place)) → Follows (at_other l below past) q (gift_of (Some e))
        go (Halts why g) at adv = absurd adv
        go (Goes g s) at adv = by_given e holds
          where
            by_given : (y : Entered) → HoldsThere l n name (left - less) y → Follows (at_other l below past) q (gift_of (Some y))
            by_given (entered.Stream t) k = absurd k
            by_given (entered.Value v) k =
                let x = at_other l below past in
                let V = value_of v in
                let taller = passes_height adv.0 in
                let so_high : p.going.height ≡ g.height = sym (received_height p.waits p.going p.supplies gift) ∙ ap height_of at in
                let before = h.so below past (omega (arith, low, i)) (omega (arith, high, taller, so_high)) (suits_more f suits) in
                let F : Start NodeRef → Type 0 = λ z. FollowsSo x p.left z in
                let so = subst F at before.so in
                let passes = passes_there below adv.0 (went_from adv.1.passes tt) high in
                let supply : referred l.setting (meaning l.setting below) past name d (place_of place) ≡ Known (Valued V)
                = sym (referred_at l.setting below past name d (below - d) (place_of place) refl) ∙ k (below - d) past (place_of place) (omega (arith, low, j, room)) suits in
                let agrees = agrees_with l.call (referred l.setting (meaning l.setting below) past) s name d V (λ c z less. referred_less l.setting below past name d c (place_of place) z (Valued V) less supply) so.1 in
                follows_of (Goes q.going (supplied_with name d V s)) (ForGlobal name d (place_of place)) s adv.3 adv.2 refl
                (sym (own_passes x.setting.ask (supply_of x) (nested_of x) x.below so.1 passes) ∙ so.0, agrees)
            by_given (entered.Refused why t) k = follows_of (Halts _ q.going) (ForGlobal name d (place_of place)) s adv.3 adv.2 refl tt
            by_given entered.UnderWay k = follows_of (Halts _ q.going) (ForGlobal name d (place_of place)) s adv.3 adv.2 refl tt

-- ---- At the end

goes_from_end : (e : Ending NodeRef) → GoesOn e → GoesFrom (ends e)
goes_from_end Finished h = tt
goes_from_end (Gave v) h = tt
goes_from_end (Halted why) h = absurd h

pub lasts_done : (l : Level) (m : List (Entry NodeRef)) (spare least : ℕ) (p q : Progress) (gift : Option (Gift NodeRef)) (ss : List Stream) (ran : Ran) (o : Outcome NodeRef)
    → Stands l p gift ss → Elsewhere l m spare p gift → Advances l.setting.ask gift p q (Ok (Done ran)) → least ≤ spare → least ≤ l.below - (ran_of ran).height
    → o ≡ record { content = filled (ran_of ran).content ss; ending = (ran_of ran).ending } → Lasts l.setting l.past (suc l.below - least) m l.call o
lasts_done l m spare least p q gift ss ran o h other a i j is = record { so = λ on r past low suits. at_room (subst G is on) r past low suits }
  where
    G : Outcome NodeRef → Type 0
    G x = GoesOn x.ending

    made : Outcome NodeRef
    made = record { content = filled (ran_of ran).content ss; ending = (ran_of ran).ending }

    there : GoesOn (ran_of ran).ending → (below : ℕ) (past : Past NodeRef) → l.below - least ≤ below → Suits l.past.values m past → meaning l.setting (suc below) past 0 l.call ≡ made
    there on below past low suits = go (received p.waits p.going p.supplies gift) refl h.so a.so
      where
        go : (st : Start NodeRef) → received p.waits p.going p.supplies gift ≡ st → StandsSo l p.left ss st → AdvancesSo l.setting.ask p st q (Ok (Done ran)) → meaning l.setting (suc below) past 0 l.call ≡ made
        go (Halts why g) at so adv = absurd adv
        go (Goes g s) at so adv =
            let x = at_other l below past in
            let e = (ran_of ran).ending in
            let inside = adv.passes in
            let here : Passes l.setting.ask (at_hand s) l.below p.left g (ends e) adv.last = in_room h.room inside in
            let ended : all_of l ≡ owned adv.last e = sym so.0 ∙ own_passes l.setting.ask (supply_of l) (nested_of l) l.below so.1 here ∙ own_ends l e adv.last in
            let W : Owned NodeRef → Type 0 = λ y. GoesOn y.ending in
            let went = own_went l.setting.ask (supply_of l) (nested_of l) l.below (plan_of l.setting.same l.call) at_start (subst W (sym ended) on) (omega arith) in
            let fits = went.fits in
            let tall : (all_of l).going.height ≡ adv.last.height = ap (λ (y : Owned NodeRef). y.going.height) ended in
            let same_height : adv.last.height ≡ (ran_of ran).height = ap (λ (y : Made NodeRef). y.height) adv.same in
            let taller = passes_height inside in
            let so_high : p.going.height ≡ g.height = sym (received_height p.waits p.going p.supplies gift) ∙ ap height_of at in
            let high : adv.last.height ≤ below = omega (arith, low, j, fits, tall, same_height) in
            let before = other.so below past (omega (arith, low, i)) (omega (arith, high, taller, so_high)) suits in
            let F : Start NodeRef → Type 0 = λ z. FollowsSo x p.left z in
            let follows = subst F at before.so in
            let passes = passes_there below inside (goes_from_end e on) high in
            let streams : adv.last.streams ≡ ss = passes_streams inside ∙ so.2 in
            let content : closed adv.last ≡ (ran_of ran).content = ap (λ (y : Made NodeRef). y.content) adv.same in
            sym (means_all x) ∙ ap whole (sym follows.0 ∙ own_passes x.setting.ask (supply_of x) (nested_of x) x.below follows.1 passes ∙ own_ends x e adv.last)
            ∙ ap (λ xs. record { content = filled (closed adv.last) xs; ending = e }) streams ∙ ap (λ t. record { content = filled t ss; ending = e }) content

    at_room : GoesOn (ran_of ran).ending → (r : ℕ) (past : Past NodeRef) → suc l.below - least ≤ r → Suits l.past.values m past → meaning l.setting r past 0 l.call ≡ o
    at_room on zero past low suits = absurd (omega (arith, low, j))
    at_room on (suc below) past low suits = there on below past (omega (arith, low)) suits ∙ sym is

pub lasts_refused : (s : Setting NodeRef) (past : Past NodeRef) (levels : ℕ) (m : List (Entry NodeRef)) (c : Call NodeRef) (o : Outcome NodeRef) (content : Stream) (why : Refused)
    → o ≡ record { content = content; ending = Halted why } → Lasts s past levels m c o
lasts_refused s past levels m c o content why is = let G : Outcome NodeRef → Type 0 = λ x. GoesOn x.ending in record { so = λ on. absurd (subst G is on) }
