-- Two instantiations side by side: what the first does is what the second does, and then what is left to do.
use Rattle.std.proofs.Common.{◌≡◌, ℕ, zero, suc, ◌+◌, ◌-◌, List, [], ◌∷◌, Bool, true, false, cond, Option, None, Some, refl, sym, ap, subst, ◌∙◌, arith}
use Rattle.std.specs.Prelude.{nat_lt, unwrap_or}
use Rattle.std.specs.Option.{option_or}
use Rattle.std.specs.List.{list_any}
use Rattle.std.proofs.lemmas.Bool.{ltb-true, ltb-false, lt-ltb, le-ltb}
use Rattle.spec_document.specs.Name.{Expanded, same_name}
use Rattle.spec_stylesheet.specs.Place.{Place}
use Rattle.spec_meaning.specs.Stream as stream
use Rattle.spec_meaning.specs.Stream.{Stream, followed, filled}
use Rattle.spec_meaning.specs.Context.{Bound}
use Rattle.spec_meaning.specs.Question.{Question, Answer}
use Rattle.spec_meaning.specs.Program.{CurrentRule, Wanted, Position, Size, Rule, Global, Given, Counted, Ruled, Program}
use Rattle.spec_run.specs.Plan.{Refused, Target, Ruling, SameRule, RuleIs, Call, Wrapping, wrapped, aside_of, Plan, End, Stop, Inquire, Use, Put, Begin, Wrap}
use Rattle.spec_run.specs.Plan.{Take, Deep, Enter, lift}
use Rattle.spec_run.specs.Direct.{quiet, Supplied, Known, Failed, Ending, Finished, Gave, Halted, Outcome, closed_in, ends, if_known, unless_refused, too_deep, direct}
use Rattle.spec_run.specs.Content.{item_call, plan_of}
use Rattle.spec_run.specs.Meaning.{Setting, Past, going_into, held_by, global_call, element_named, refer, evaluated, referred, current_by, supplied, ruling_in, settled, meaning}
use Rattle.spec_run.proofs.Streams.{followed_end, followed_assoc}
use Rattle.spec_run.proofs.More.{meaning_at}
use Rattle.spec_items.proofs.Follow as follow
use Rattle.spec_items.proofs.Follow.{View, own, item, Shares, Tells, Follow, Counts, said, both_want, told}
use Rattle.spec_items.specs.Fits.{OfNoUnit, with_answers, OldTarget}

-- what the second was entered with
abbrev pub Side : {N : Type 0} → View → Call N → Call N → Type 0
Side own c d = (d.position ≡ c.position) × (d.size ≡ c.size) × (d.ruling ≡ c.ruling)
Side (item p z) c d = (d.position ≡ Some p) × (d.size ≡ Some z) × (d.ruling ≡ RuleIs None)

-- Two worlds in which the elements of the one mean what they mean in the other, with so many levels; and in each an instantiation, of which the
-- second stands so deep below the first
pub record Scene {N : Type 0} (s : Setting N) (other : Question N → Answer N) (Old : N → Type 0) (past : Past N) : Type 0 where
  pub room : ℕ
  pub left : ℕ
  pub below : ℕ
  pub view : View
  pub call : Call N
  pub its : Call N
  pub room_is : room ≡ below + left
  pub side : Side view call its
  pub asks : (q : Question N) → OfNoUnit q → s.ask q ≡ other q
  pub means : (pasts : Past N) (d : ℕ) (c : Call N) → OldTarget Old c.target → meaning s room pasts d c ≡ meaning (with_answers s other) room pasts d c
  pub globals : (name : Expanded) (element : N) → element_named name s.globals ≡ Some element → Old element

abbrev pub here_runs : {N : Type 0} {s : Setting N} {other : Question N → Answer N} {Old : N → Type 0} {past : Past N} → Scene s other Old past
    → Plan N → Stream → List Stream → Outcome N
here_runs {s = s} {past = past} S =
    direct s.ask (supplied S.call (referred s (meaning s S.room) past)) (λ depth inner. meaning s S.room past depth (settled S.call inner)) S.room

abbrev pub there_runs : {N : Type 0} {s : Setting N} {other : Question N → Answer N} {Old : N → Type 0} {past : Past N} → Scene s other Old past
    → Plan N → Stream → List Stream → Outcome N
there_runs {s = s} {other = other} {past = past} S =
    direct other (supplied S.its (referred (with_answers s other) (meaning (with_answers s other) S.left) past))
    (λ depth inner. meaning (with_answers s other) S.left past depth (settled S.its inner)) S.left

-- what is left to do behind the first: a plan, with what was put before it, and the sinks around
pub record Tail (N : Type 0) : Type 0 where
  pub top : Stream
  pub outer : List Stream
  pub more : Plan N

abbrev pub after_it : {N : Type 0} {s : Setting N} {other : Question N → Answer N} {Old : N → Type 0} {past : Past N} → Scene s other Old past → Tail N
    → Outcome N → Outcome N
after_it S T o = unless_refused (here_runs S T.more (followed T.top o.content) T.outer) (followed T.top o.content) T.outer o.ending

-- the sinks of the second, so many around the innermost, and those of the first
pub data Under {N : Type 0} (T : Tail N) : ℕ → Stream → List Stream → Stream → List Stream → Type 0 where
  bottom : {b : Stream} → Under T zero b [] (followed T.top b) T.outer
  above : {n : ℕ} {x y z : Stream} {ys zs : List Stream} → Under T n y ys z zs → Under T (suc n) x (y ∷ ys) x (z ∷ zs)

pub under_put : {N : Type 0} {T : Tail N} {n : ℕ} {x z : Stream} {ys zs : List Stream} → Under T n x ys z zs → (f : Stream)
    → Under T n (followed x f) ys (followed z f) zs
under_put {T = T} (bottom {b = b}) f = subst (λ z. Under T zero (followed b f) [] z T.outer) (sym (followed_assoc T.top b f)) bottom
under_put (above h) f = above h

closed_under : {N : Type 0} {T : Tail N} (n : ℕ) {x z : Stream} {ys zs : List Stream} → Under T n x ys z zs
    → closed_in z zs ≡ closed_in (followed T.top (closed_in x ys)) T.outer
closed_under zero bottom = refl
closed_under (suc n) (above {x = x} h) = closed_under n (under_put h (aside_of x))

abbrev pub Runs : {N : Type 0} {s : Setting N} {other : Question N → Answer N} {Old : N → Type 0} {past : Past N} → Scene s other Old past → Tail N → ℕ → Plan N → Plan N → Type 0
Runs S T n p q = (x z : Stream) (ys zs : List Stream) → Under T n x ys z zs → here_runs S p z zs ≡ after_it S T (there_runs S q x ys)

-- it ends without a value of its own, as all do but globals
abbrev pub IsNoValue : {N : Type 0} → Ending N → Type 0
IsNoValue Finished = Unit {0}
IsNoValue (Gave v) = ⊥
IsNoValue (Halted why) = Unit {0}

-- the first does what the second does, and then the rest
pub record Rel {N : Type 0} {s : Setting N} {other : Question N → Answer N} {Old : N → Type 0} {past : Past N} (S : Scene s other Old past) (T : Tail N) (n : ℕ) (p q : Plan N) : Type 0 where
  pub runs : Runs S T n p q
  pub no_value : (x : Stream) (ys : List Stream) → IsNoValue (there_runs S q x ys).ending

-- ---- what is at hand
-- a call means the same from a content that stands so deep
deep_means : {N : Type 0} {s : Setting N} {other : Question N → Answer N} {Old : N → Type 0} {past : Past N} (S : Scene s other Old past) (d k : ℕ)
    → d ≡ S.below + k → (pasts : Past N) (c : Call N) → OldTarget Old c.target → meaning s S.room pasts d c ≡ meaning (with_answers s other) S.left pasts k c
deep_means {s = s} {other = other} S d k e pasts c old =
    let t = with_answers s other in
    let r = S.room_is in
    let l : S.room - d ≡ S.left - k = omega (arith, e, r) in
    S.means pasts d c old ∙ meaning_at t S.room pasts d c ∙ ap (λ n. meaning t n pasts zero c) l ∙ sym (meaning_at t S.left pasts k c)

global_same : {N : Type 0} {s : Setting N} {other : Question N → Answer N} {Old : N → Type 0} {past : Past N} (S : Scene s other Old past) (d k : ℕ)
    → d ≡ S.below + k → (name : Expanded) (place : Place) → referred s (meaning s S.room) past name d place
    ≡ referred (with_answers s other) (meaning (with_answers s other) S.left) past name k place
global_same {N = N} {s = s} {other = other} {past = past} S d k e name place = refer_same past.values (now (element_named name s.globals) refl)
  where
    is_under : Bool
    is_under = list_any (same_name name) past.under

    now : (o : Option N) → element_named name s.globals ≡ o
        → evaluated s (meaning s S.room) past name d place o ≡ evaluated (with_answers s other) (meaning (with_answers s other) S.left) past name k place o
    now None h = refl
    now (Some element) h = ap held_by (deep_means S d k e (going_into name past) (global_call s.root element place) (S.globals name element h))

    refer_same : (bs : List (Bound N)) {a b : Supplied N} → a ≡ b → refer name place bs is_under a ≡ refer name place bs is_under b
    refer_same bs h = ap (refer name place bs is_under) h

-- what both are given
by_view : {N : Type 0} (V : View) (c c' : Call N) → Side V c c' → (globals also : Expanded → ℕ → Place → Supplied N) (d k : ℕ) (place : Place)
    → ((name : Expanded) → globals name d place ≡ also name k place) → (w : Wanted) → Shares V w → supplied c globals w d place ≡ supplied c' also w k place
by_view own c c' side globals also d k place same Position h = ap (λ o. Known (Counted (unwrap_or o 1))) (sym side.0)
by_view own c c' side globals also d k place same Size h = ap (λ o. Known (Counted (unwrap_or o 1))) (sym side.1)
by_view own c c' side globals also d k place same Rule h = ap (λ o. Known (Ruled (current_by o))) (sym side.2)
by_view own c c' side globals also d k place same (Global name) h = same name
by_view (item p z) c c' side globals also d k place same Position h = absurd h
by_view (item p z) c c' side globals also d k place same Size h = absurd h
by_view (item p z) c c' side globals also d k place same Rule h = absurd h
by_view (item p z) c c' side globals also d k place same (Global name) h = same name

pub supply_same : {N : Type 0} {s : Setting N} {other : Question N → Answer N} {Old : N → Type 0} {past : Past N} (S : Scene s other Old past) (d k : ℕ)
    → d ≡ S.below + k → (w : Wanted) → Shares S.view w → (place : Place) → supplied S.call (referred s (meaning s S.room) past) w d place
    ≡ supplied S.its (referred (with_answers s other) (meaning (with_answers s other) S.left) past) w k place
supply_same {s = s} {other = other} {past = past} S d k e w h place =
    by_view S.view S.call S.its S.side (referred s (meaning s S.room) past) (referred (with_answers s other) (meaning (with_answers s other) S.left) past) d k place
    (λ name. global_same S d k e name place) w h

-- what the second alone is given
pub told_by_view : {N : Type 0} (V : View) (c c' : Call N) → Side V c c' → (globals : Expanded → ℕ → Place → Supplied N) (k : ℕ) (place : Place) (w : Wanted)
    (n : ℕ) → Tells V w n → supplied c' globals w k place ≡ Known (Counted n)
told_by_view own c c' side globals k place w n h = absurd h
told_by_view (item p z) c c' side globals k place Position n h =
    ap (λ o. Known (Counted (unwrap_or o 1))) side.0 ∙ ap (λ m. Known (Counted m)) (sym h)
told_by_view (item p z) c c' side globals k place Size n h = ap (λ o. Known (Counted (unwrap_or o 1))) side.1 ∙ ap (λ m. Known (Counted m)) (sym h)
told_by_view (item p z) c c' side globals k place Rule n h = absurd h
told_by_view (item p z) c c' side globals k place (Global name) n h = absurd h

-- ---- plans
pub rel_end : {N : Type 0} {s : Setting N} {other : Question N → Answer N} {Old : N → Type 0} {past : Past N} (S : Scene s other Old past) (T : Tail N) → Rel S T zero T.more End
rel_end {N = N} S T = record { runs = go; no_value = λ x ys. tt }
  where
    go : Runs S T zero T.more End
    go x z ys zs bottom = refl

pub rel_stop : {N : Type 0} {s : Setting N} {other : Question N → Answer N} {Old : N → Type 0} {past : Past N} (S : Scene s other Old past) (T : Tail N) (n : ℕ) (why : Refused) → Rel S T n (Stop why) (Stop why)
rel_stop S T n why = record { runs = λ x z ys zs u. ap (λ c. record { content = c; ending = Halted why }) (closed_under n u); no_value = λ x ys. tt }

pub rel_ask : {N : Type 0} {s : Setting N} {other : Question N → Answer N} {Old : N → Type 0} {past : Past N} (S : Scene s other Old past) (T : Tail N) (n : ℕ)
    {q : Question N} {k l : Answer N → Plan N} → OfNoUnit q → Rel S T n (k (s.ask q)) (l (s.ask q)) → Rel S T n (Inquire q k) (Inquire q l)
rel_ask {s = s} S T n {q = q} {k = k} {l = l} h next =
    record {
      runs = λ x z ys zs u. next.runs x z ys zs u ∙ ap (λ a. after_it S T (there_runs S (l a) x ys)) (S.asks q h);
      no_value = λ x ys. subst (λ a. IsNoValue (there_runs S (l a) x ys).ending) (S.asks q h) (next.no_value x ys);
    }

pub rel_put : {N : Type 0} {s : Setting N} {other : Question N → Answer N} {Old : N → Type 0} {past : Past N} (S : Scene s other Old past) (T : Tail N) (n : ℕ)
    {items : Stream} {p q : Plan N} → Rel S T n p q → Rel S T n (Put items p) (Put items q)
rel_put S T n {items = items} next = record { runs = λ x z ys zs u. next.runs _ _ ys zs (under_put u (filled items [])); no_value = λ x ys. next.no_value _ ys }

pub rel_nothing : {N : Type 0} {s : Setting N} {other : Question N → Answer N} {Old : N → Type 0} {past : Past N} (S : Scene s other Old past) (T : Tail N) (n : ℕ)
    {p q : Plan N} → Rel S T n p q → Rel S T n p (Put stream.Ended q)
rel_nothing S T n {q = q} next =
    record { runs = λ x z ys zs u. next.runs x z ys zs u ∙ ap (λ y. after_it S T (there_runs S q y ys)) (sym (followed_end x)); no_value = λ x ys. next.no_value _ ys }

pub rel_begin : {N : Type 0} {s : Setting N} {other : Question N → Answer N} {Old : N → Type 0} {past : Past N} (S : Scene s other Old past) (T : Tail N) (n : ℕ)
    {p q : Plan N} → Rel S T (suc n) p q → Rel S T n (Begin p) (Begin q)
rel_begin S T n next = record { runs = λ x z ys zs u. next.runs stream.Ended stream.Ended (x ∷ ys) (z ∷ zs) (above u); no_value = λ x ys. next.no_value stream.Ended (x ∷ ys) }

pub rel_wrap : {N : Type 0} {s : Setting N} {other : Question N → Answer N} {Old : N → Type 0} {past : Past N} (S : Scene s other Old past) (T : Tail N) (n : ℕ)
    (how : Wrapping) {p q : Plan N} → Rel S T n p q → Rel S T (suc n) (Wrap how p) (Wrap how q)
rel_wrap S T n how {p = p} {q = q} next = record { runs = go; no_value = λ x ys. next.no_value _ _ }
  where
    go : Runs S T (suc n) (Wrap how p) (Wrap how q)
    go x z ys zs (above u) = next.runs _ _ _ _ (under_put u (wrapped how x))

pub rel_take : {N : Type 0} {s : Setting N} {other : Question N → Answer N} {Old : N → Type 0} {past : Past N} (S : Scene s other Old past) (T : Tail N) (n : ℕ)
    {k l : Stream → Plan N} → ((a : Stream) → Rel S T n (k a) (l a)) → Rel S T (suc n) (Take k) (Take l)
rel_take S T n {k = k} {l = l} next = record { runs = go; no_value = λ x ys. (next (quiet x)).no_value _ _ }
  where
    go : Runs S T (suc n) (Take k) (Take l)
    go x z ys zs (above u) = (next (quiet x)).runs _ _ _ _ (under_put u (aside_of x))

-- a choice that both make
pub rel_either : {N : Type 0} {s : Setting N} {other : Question N → Answer N} {Old : N → Type 0} {past : Past N} (S : Scene s other Old past) (T : Tail N) (n : ℕ)
    (b : Bool) {p q v w : Plan N} → Rel S T n p v → Rel S T n q w → Rel S T n (cond b p q) (cond b v w)
rel_either S T n true h g = h
rel_either S T n false h g = g

levels_same : (room below left d k : ℕ) → room ≡ below + left → d ≡ below + k → nat_lt room d ≡ nat_lt left k
levels_same room below left d k r e = go (nat_lt left k) refl
  where
    go : (b : Bool) → nat_lt left k ≡ b → nat_lt room d ≡ nat_lt left k
    go true h = let l = ltb-true left k h in lt-ltb room d (omega (arith, l, r, e)) ∙ sym h
    go false h = let l = ltb-false left k h in le-ltb room d (omega (arith, l, r, e)) ∙ sym h

pub rel_deep : {N : Type 0} {s : Setting N} {other : Question N → Answer N} {Old : N → Type 0} {past : Past N} (S : Scene s other Old past) (T : Tail N) (n : ℕ)
    (d k : ℕ) → d ≡ S.below + k → (place : Place) {p q : Plan N} → Rel S T n p q → Rel S T n (Deep d place p) (Deep k place q)
rel_deep S T n d k e place {p = p} {q = q} next =
    record {
      runs = λ x z ys zs u. go x z ys zs u (nat_lt S.room d)
          ∙ ap (λ b. after_it S T (cond b (ends x ys (Halted (too_deep place))) (there_runs S q x ys))) (levels_same S.room S.below S.left d k S.room_is e);
      no_value = λ x ys. no x ys (nat_lt S.left k);
    }
  where
    no : (x : Stream) (ys : List Stream) (b : Bool) → IsNoValue (cond b (ends x ys (Halted (too_deep place))) (there_runs S q x ys)).ending
    no x ys true = tt
    no x ys false = next.no_value x ys

    go : (x z : Stream) (ys zs : List Stream) → Under T n x ys z zs → (b : Bool)
        → cond b (ends z zs (Halted (too_deep place))) (here_runs S p z zs) ≡ after_it S T (cond b (ends x ys (Halted (too_deep place))) (there_runs S q x ys))
    go x z ys zs u true = (rel_stop S T n (too_deep place)).runs x z ys zs u
    go x z ys zs u false = next.runs x z ys zs u

-- what the run gives both alike
pub rel_use : {N : Type 0} {s : Setting N} {other : Question N → Answer N} {Old : N → Type 0} {past : Past N} (S : Scene s other Old past) (T : Tail N) (n : ℕ)
    (d k : ℕ) → d ≡ S.below + k → (w : Wanted) → Shares S.view w → (place : Place) {p q : Given N → Plan N} → ((g : Given N) → Rel S T n (p g) (q g))
    → Rel S T n (Use w d place p) (Use w k place q)
rel_use {N = N} {s = s} {other = other} {past = past} S T n d k e w h place {p = p} {q = q} next =
    record {
      runs = λ x z ys zs u. go x z ys zs u (supplied S.call (referred s (meaning s S.room) past) w d place)
          ∙ ap (λ g. after_it S T (if_known (λ given. there_runs S (q given) x ys) x ys g)) (supply_same S d k e w h place);
      no_value = λ x ys. no x ys (supplied S.its (referred (with_answers s other) (meaning (with_answers s other) S.left) past) w k place);
    }
  where
    no : (x : Stream) (ys : List Stream) (g : Supplied N) → IsNoValue (if_known (λ given. there_runs S (q given) x ys) x ys g).ending
    no x ys (Known given) = (next given).no_value x ys
    no x ys (Failed why) = tt

    go : (x z : Stream) (ys zs : List Stream) → Under T n x ys z zs → (g : Supplied N)
        → if_known (λ given. here_runs S (p given) z zs) z zs g ≡ after_it S T (if_known (λ given. there_runs S (q given) x ys) x ys g)
    go x z ys zs u (Known given) = (next given).runs x z ys zs u
    go x z ys zs u (Failed why) = (rel_stop S T n why).runs x z ys zs u

-- what the second alone asks for
pub rel_know : {N : Type 0} {s : Setting N} {other : Question N → Answer N} {Old : N → Type 0} {past : Past N} (S : Scene s other Old past) (T : Tail N) (n : ℕ)
    (k : ℕ) (w : Wanted) (count : ℕ) → Tells S.view w count → (place : Place) {p : Plan N} {q : Given N → Plan N} → Rel S T n p (q (Counted count))
    → Rel S T n p (Use w k place q)
rel_know {N = N} {s = s} {other = other} {past = past} S T n k w count h place {q = q} next =
    let globals = referred (with_answers s other) (meaning (with_answers s other) S.left) past in
    record {
      runs = λ x z ys zs u. next.runs x z ys zs u
          ∙ ap (λ (g : Supplied N). after_it S T (if_known (λ given. there_runs S (q given) x ys) x ys g)) (sym (told_by_view S.view S.call S.its S.side globals k place w count h));
      no_value = λ x ys. subst (λ (g : Supplied N). IsNoValue (if_known (λ given. there_runs S (q given) x ys) x ys g).ending)
          (sym (told_by_view S.view S.call S.its S.side globals k place w count h)) (next.no_value x ys);
    }

-- where no template rule is the current one
pub rel_unruled : {N : Type 0} {s : Setting N} {other : Question N → Answer N} {Old : N → Type 0} {past : Past N} (S : Scene s other Old past) (T : Tail N) (n : ℕ)
    (k : ℕ) → S.its.ruling ≡ RuleIs None → (place : Place) {p : Plan N} {q : Given N → Plan N} → Rel S T n p (q (Ruled None))
    → Rel S T n p (Use Rule k place q)
rel_unruled S T n k h place {q = q} next =
    record {
      runs = λ x z ys zs u. next.runs x z ys zs u ∙ ap (λ (r : Ruling). after_it S T (there_runs S (q (Ruled (current_by r))) x ys)) (sym h);
      no_value = λ x ys. subst (λ (r : Ruling). IsNoValue (there_runs S (q (Ruled (current_by r))) x ys).ending) (sym h) (next.no_value x ys);
    }

-- what a program asks and needs
pub rel_lift : {N : Type 0} {s : Setting N} {other : Question N → Answer N} {Old : N → Type 0} {past : Past N} {A : Type 0} (S : Scene s other Old past) (T : Tail N) (n : ℕ)
    (d k : ℕ) → d ≡ S.below + k → (place : Place) {p q : Program N A} → Follow S.view p q → {f g : A → Plan N} → ((a : A) → Rel S T n (f a) (g a))
    → Rel S T n (lift place d p f) (lift place k q g)
unfolding lift
rel_lift S T n d k e place follow.gives next = next _
rel_lift S T n d k e place follow.refuses next = rel_stop S T n _
rel_lift S T n d k e place (follow.asks h more) next = rel_ask S T n h (rel_lift S T n d k e place (more _) next)
rel_lift S T n d k e place (follow.needs {w = w} h more) next = rel_use S T n d k e w h place (λ x. rel_lift S T n d k e place (more x) next)
rel_lift S T n d k e place (follow.knows {w = w} count h more) next = rel_know S T n k w count h place (rel_lift S T n d k e place more next)

-- ---- what is entered in both
abbrev pub IsItem : View → Type 0
IsItem own = ⊥
IsItem (item p z) = Unit {0}

pub data Rulings (W : View) : Ruling → Ruling → Type 0 where
  both_are : {rule : Option CurrentRule} → Rulings W (RuleIs rule) (RuleIs rule)
  both_same : Shares W Rule → Rulings W SameRule SameRule
  not_ruled : IsItem W → Rulings W (RuleIs None) SameRule

pub data Calls {N : Type 0} (W : View) : Call N → Call N → Type 0 where
  calls : {t : Target N} {n : N} {bs : List (Bound N)} {p q o r : Option ℕ} {x y : Ruling} {by : Place}
      → Counts W Position p q → Counts W Size o r → Rulings W x y
      → Calls W (record { target = t; node = n; parameters = bs; position = p; size = o; ruling = x; by = by })
      (record { target = t; node = n; parameters = bs; position = q; size = r; ruling = y; by = by })

position_settled : {N : Type 0} (W : View) (c d : Call N) → Side W c d → {p q : Option ℕ} → Counts W Position p q
    → option_or p c.position ≡ option_or q d.position
position_settled W c d side said = refl
position_settled own c d side (both_want h) = sym side.0
position_settled own c d side (told h) = absurd h
position_settled (item p z) c d side (both_want h) = absurd h
position_settled (item p z) c d side (told h) = ap Some h ∙ sym side.0

size_settled : {N : Type 0} (W : View) (c d : Call N) → Side W c d → {p q : Option ℕ} → Counts W Size p q → option_or p c.size ≡ option_or q d.size
size_settled W c d side said = refl
size_settled own c d side (both_want h) = sym side.1
size_settled own c d side (told h) = absurd h
size_settled (item p z) c d side (both_want h) = absurd h
size_settled (item p z) c d side (told h) = ap Some h ∙ sym side.1

ruling_settled : {N : Type 0} (W : View) (c d : Call N) → Side W c d → {x y : Ruling} → Rulings W x y → ruling_in c.ruling x ≡ ruling_in d.ruling y
ruling_settled W c d side both_are = refl
ruling_settled own c d side (both_same h) = sym side.2
ruling_settled own c d side (not_ruled h) = absurd h
ruling_settled (item p z) c d side (both_same h) = absurd h
ruling_settled (item p z) c d side (not_ruled h) = sym side.2

pub settled_same : {N : Type 0} (W : View) (c d : Call N) → Side W c d → {x y : Call N} → Calls W x y → settled c x ≡ settled d y
settled_same W c d side (calls {t = t} {n = n} {bs = bs} {by = by} p o r) =
    λ i. record {
      target = t;
      node = n;
      parameters = bs;
      position = position_settled W c d side p i;
      size = size_settled W c d side o i;
      ruling = ruling_settled W c d side r i;
      by = by;
    }

-- after what was entered
entered : {N : Type 0} {s : Setting N} {other : Question N → Answer N} {Old : N → Type 0} {past : Past N} (S : Scene s other Old past) (T : Tail N) (n : ℕ)
    {p q : Plan N} → Rel S T n p q → (x z : Stream) (ys zs : List Stream) → Under T n x ys z zs → (content : Stream) (ending : Ending N)
    → unless_refused (here_runs S p (followed z content) zs) (followed z content) zs ending
    ≡ after_it S T (unless_refused (there_runs S q (followed x content) ys) (followed x content) ys ending)
entered S T n next x z ys zs u content Finished = next.runs _ _ ys zs (under_put u content)
entered S T n next x z ys zs u content (Gave v) = next.runs _ _ ys zs (under_put u content)
entered S T n next x z ys zs u content (Halted why) = (rel_stop S T n why).runs _ _ ys zs (under_put u content)

entered_so : {N : Type 0} {s : Setting N} {other : Question N → Answer N} {Old : N → Type 0} {past : Past N} (S : Scene s other Old past) (q : Plan N)
    → ((x : Stream) (ys : List Stream) → IsNoValue (there_runs S q x ys).ending) → (x : Stream) (ys : List Stream) (content : Stream) (ending : Ending N)
    → IsNoValue (unless_refused (there_runs S q (followed x content) ys) (followed x content) ys ending).ending
entered_so S q next x ys content Finished = next _ ys
entered_so S q next x ys content (Gave v) = next _ ys
entered_so S q next x ys content (Halted why) = tt

pub rel_enter : {N : Type 0} {s : Setting N} {other : Question N → Answer N} {Old : N → Type 0} {past : Past N} (S : Scene s other Old past) (T : Tail N) (n : ℕ)
    (d k : ℕ) → d ≡ S.below + k → {c c' : Call N} → OldTarget Old c.target → Calls S.view c c' → {p q : Plan N} → Rel S T n p q
    → Rel S T n (Enter c d p) (Enter c' k q)
rel_enter {N = N} {s = s} {other = other} {past = past} S T n d k e {c = c} {c' = c'} old alike {p = p} {q = q} next =
    let o = meaning s S.room past d (settled S.call c) in
    let same : o ≡ meaning (with_answers s other) S.left past k (settled S.its c') =
    deep_means S d k e past (settled S.call c) old ∙ ap (meaning (with_answers s other) S.left past k) (settled_same S.view S.call S.its S.side alike) in
    record {
      runs = λ x z ys zs u. entered S T n next x z ys zs u o.content o.ending
          ∙ ap (λ (v : Outcome N). after_it S T (unless_refused (there_runs S q (followed x v.content) ys) (followed x v.content) ys v.ending)) same;
      no_value = λ x ys. let v = meaning (with_answers s other) S.left past k (settled S.its c') in entered_so S q next.no_value x ys v.content v.ending;
    }

-- an item: its content where it stands, and its template
pub rel_item : {N : Type 0} {s : Setting N} {other : Question N → Answer N} {Old : N → Type 0} {past : Past N} (S : Scene s other Old past) (T : Tail N) (n : ℕ)
    (d k : ℕ) → d ≡ S.below + k → (place : Place) (element node : N) (parameters : List (Bound N)) (position size : ℕ) (content : Plan N)
    → ((supply : Wanted → ℕ → Place → Supplied N) (nested : ℕ → Call N → Outcome N) (room : ℕ)
    → direct other supply nested room (plan_of s.same (item_call place element parameters size node position)) stream.Ended []
    ≡ direct other supply nested room content stream.Ended [])
    → {p more q : Plan N}
    → ((I : Scene s other Old past) (U : Tail N) → I.view ≡ item position size → I.below ≡ suc d → I.its.ruling ≡ RuleIs None → U.more ≡ more → Rel I U zero p content)
    → Rel S T n more q → Rel S T n (Deep (suc d) place p) (Enter (item_call place element parameters size node position) k q)
rel_item {N = N} {s = s} {other = other} {Old = Old} {past = past} S T n d k e place element node parameters position size content enters {p = p} {more = more} {q = q} inner next =
    record {
      runs = λ x z ys zs u. by_levels x z ys zs u (S.left - k) refl
          ∙ ap (λ (v : Outcome N). after_it S T (unless_refused (there_runs S q (followed x v.content) ys) (followed x v.content) ys v.ending)) (sym (meaning_at t S.left past k call));
      no_value = λ x ys. let v = meaning t S.left past k call in entered_so S q next.no_value x ys v.content v.ending;
    }
  where
    t : Setting N
    t = with_answers s other

    call : Call N
    call = item_call place element parameters size node position

    Goal : (x z : Stream) (ys zs : List Stream) → Outcome N → Type 0
    Goal x z ys zs o = cond (nat_lt S.room (suc d)) (ends z zs (Halted (too_deep place))) (here_runs S p z zs)
        ≡ after_it S T (unless_refused (there_runs S q (followed x o.content) ys) (followed x o.content) ys o.ending)

    by_levels : (x z : Stream) (ys zs : List Stream) → Under T n x ys z zs → (m : ℕ) → S.left - k ≡ m → Goal x z ys zs (meaning t m past zero call)
    by_levels x z ys zs u zero l =
        let r = S.room_is in
        let b : nat_lt S.room (suc d) ≡ true = lt-ltb S.room (suc d) (omega (arith, l, r, e)) in
        ap (λ b. cond b (ends z zs (Halted (too_deep place))) (here_runs S p z zs)) b
        ∙ ap (λ y. ends y zs (Halted (too_deep place))) (sym (followed_end z))
        ∙ entered S T n next x z ys zs u stream.Ended (Halted (too_deep place))
    by_levels x z ys zs u (suc m) l =
        let r = S.room_is in
        let b : nat_lt S.room (suc d) ≡ false = le-ltb S.room (suc d) (omega (arith, l, r, e)) in
        let I : Scene s other Old past = record {
          room = S.room;
          left = m;
          below = suc d;
          view = item position size;
          call = S.call;
          its = call;
          room_is = omega (arith, l, r, e);
          side = (refl, refl, refl);
          asks = S.asks;
          means = S.means;
          globals = S.globals;
        } in
        let U : Tail N = record { top = z; outer = zs; more = more } in
        let o = meaning t (suc m) past zero call in
        let same : o ≡ there_runs I content stream.Ended [] =
        enters (supplied call (referred t (meaning t m) past)) (λ depth inner. meaning t m past depth (settled call inner)) m in
        ap (λ b. cond b (ends z zs (Halted (too_deep place))) (here_runs S p z zs)) b
        ∙ ap (λ y. here_runs S p y zs) (sym (followed_end z))
        ∙ (inner I U refl refl refl refl).runs stream.Ended (followed z stream.Ended) [] zs bottom
        ∙ ap (after_it I U) (sym same)
        ∙ entered S T n next x z ys zs u o.content o.ending
