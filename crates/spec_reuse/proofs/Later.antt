-- What comes to its end at two places of a run, with any levels left, any globals under way, and at the second the turns of more globals past, does
-- the same at both.
use Rattle.std.proofs.Common.{◌≡◌, ℕ, zero, suc, ◌-◌, List, [], ◌∷◌, Bool, true, false, cond, refl, sym, ap, subst, ◌∙◌}
use Rattle.std.proofs.Math.Path.{fun_ext}
use Rattle.std.specs.Prelude.{Option, None, Some}
use Rattle.std.specs.List.{list_any}
use Rattle.spec_document.specs.Name.{Expanded, same_name}
use Rattle.spec_stylesheet.specs.Place.{Place}
use Rattle.spec_meaning.specs.Stream as stream
use Rattle.spec_meaning.specs.Value.{Value}
use Rattle.spec_meaning.specs.Program.{Wanted, Position, Size, Rule, Global, Given, Valued}
use Rattle.spec_meaning.specs.Context.{Bound, binding_of}
use Rattle.spec_run.specs.Plan.{Call}
use Rattle.spec_run.specs.Direct.{Supplied, Known, Failed, Outcome, direct}
use Rattle.spec_run.specs.Going.{at_start, own, whole}
use Rattle.spec_run.specs.Hold.{GoesOn}
use Rattle.spec_run.specs.Content.{plan_of}
use Rattle.spec_run.specs.Meaning.{Setting, Past, held_by, global_call, element_named, needs_itself, refer, evaluated, referred, supplied}
use Rattle.spec_run.specs.Meaning.{settled, meaning}
use Rattle.spec_run.proofs.Fill.{filled_whole}
use Rattle.spec_run.proofs.More.{meaning_at, held_known}
use Rattle.spec_reuse.specs.Instantiation.{Instantiation, given_to, meant_below, own_of}
use Rattle.spec_reuse.proofs.Lockstep.{lockstep}

pub known_same : {N : Type 0} {u v : Given N} → Known u ≡ Known v → u ≡ v
known_same {N = N} {u = u} e = let P : Supplied N → Type 0 = λ x. elim x as (λ _. Type 0) [ Known t ↦ (u ≡ t) | Failed f ↦ ⊥ ] in subst P e refl

-- ---- The element that enters it changes nothing of what a call does

abbrev pub entered_by : {N : Type 0} → Place → Call N → Call N
entered_by place c =
    record { target = c.target; node = c.node; parameters = c.parameters; position = c.position; size = c.size; ruling = c.ruling; by = place }

supplied_by : {N : Type 0} (place : Place) (c : Call N) (globals : Expanded → ℕ → Place → Supplied N)
    → supplied (entered_by place c) globals ≡ supplied c globals
supplied_by {N = N} place c globals = fun_ext each
  where
    each : (w : Wanted) → supplied (entered_by place c) globals w ≡ supplied c globals w
    each Position = refl
    each Size = refl
    each Rule = refl
    each (Global name) = refl

pub meaning_by : {N : Type 0} (s : Setting N) (levels : ℕ) (past : Past N) (depth : ℕ) (c : Call N) (place : Place)
    → GoesOn (meaning s levels past depth c).ending → meaning s levels past depth (entered_by place c) ≡ meaning s levels past depth c
meaning_by s zero past depth c place h = absurd h
meaning_by s (suc room) past zero c place h =
    ap (λ supply. direct s.ask supply (λ depth inner. meaning s room past depth (settled c inner)) room (plan_of s.same c) stream.Ended [])
    (supplied_by place c (referred s (meaning s room) past))
meaning_by s (suc room) past (suc depth) c place h = meaning_by s room past depth c place h

pub own_by : {N : Type 0} (s : Setting N) (below : ℕ) (past : Past N) (c : Call N) (place : Place)
    → own_of s (record { call = entered_by place c; below = below; past = past }) ≡ own_of s (record { call = c; below = below; past = past })
own_by s below past c place =
    ap (λ supply. own s.ask supply (λ depth inner. meaning s below past depth (settled c inner)) below (plan_of s.same c) at_start)
    (supplied_by place c (referred s (meaning s below) past))

-- ---- A reference, by whether the turn of its global is past

abbrev pub by_turn : {N : Type 0} → Place → Option (Value N) → Bool → Supplied N → Supplied N
by_turn place None is_under now = cond is_under (needs_itself place) now
by_turn place (Some v) is_under now = Known (Valued v)

pub refer_by_turn : {N : Type 0} (name : Expanded) (place : Place) (bs : List (Bound N)) (is_under : Bool) (now : Supplied N)
    → refer name place bs is_under now ≡ by_turn place (binding_of name bs) is_under now
refer_by_turn name place [] is_under now = refl
refer_by_turn {N = N} name place (b ∷ bs) is_under now = go (same_name b.name name) (refer_by_turn name place bs is_under now)
  where
    go : (t : Bool) → refer name place bs is_under now ≡ by_turn place (binding_of name bs) is_under now
        → cond t (Known (Valued b.value)) (refer name place bs is_under now) ≡ by_turn place (cond t (Some b.value) (binding_of name bs)) is_under now
    go true e = refl
    go false e = e

abbrev pub past_with : {N : Type 0} → List (Bound N) → List Expanded → Past N
past_with values under = record { values = values; under = under }

-- what an evaluation gives, of the global of this name
abbrev pub evaluated_at : {N : Type 0} → Setting N → ℕ → Past N → Expanded → ℕ → Place → Supplied N
evaluated_at s levels past name depth place = evaluated s (meaning s levels) past name depth place (element_named name s.globals)

-- more turns are past: what was past has its value still, and a new value is what its global comes to before, wherever it comes to one
pub record Agrees {N : Type 0} (s : Setting N) (vs ws : List (Bound N)) : Type 0 where
  pub known : (name : Expanded) (v : Value N) → binding_of name vs ≡ Some v → binding_of name ws ≡ Some v
  pub new : (name : Expanded) (v : Value N) → binding_of name vs ≡ None → binding_of name ws ≡ Some v
      → (levels : ℕ) (under : List Expanded) (depth : ℕ) (place : Place) (x : Given N)
      → evaluated_at s levels (past_with vs under) name depth place ≡ Known x → x ≡ Valued v

both_known : {N : Type 0} (place : Place) (o p : Option (Value N)) (i j : Bool) (x y : Supplied N) (u v : Given N)
    → ((w : Value N) → o ≡ Some w → p ≡ Some w) → ((w : Value N) → o ≡ None → p ≡ Some w → x ≡ Known u → u ≡ Valued w)
    → (x ≡ Known u → y ≡ Known v → u ≡ v)
    → by_turn place o i x ≡ Known u → by_turn place p j y ≡ Known v → u ≡ v
both_known place (Some w) p i j x y u v f g h a b = known_same (sym a ∙ sym (ap (λ t. by_turn place t j y) (f w refl)) ∙ b)
both_known place None (Some w) true j x y u v f g h a b = absurd (cc)
both_known place None (Some w) false j x y u v f g h a b = g w refl refl a ∙ known_same b
both_known place None None true j x y u v f g h a b = absurd (cc)
both_known place None None false true x y u v f g h a b = absurd (cc)
both_known place None None false false x y u v f g h a b = h a b

-- ---- One instantiation

-- what calls mean at both places
abbrev pub MeanAlike : {N : Type 0} → Setting N → (vs ws : List (Bound N)) → (room left : ℕ) → Type 0
MeanAlike {N = N} s vs ws room left = (p q : List Expanded) (d e : ℕ) (c : Call N) → GoesOn (meaning s room (past_with vs p) d c).ending
    → GoesOn (meaning s left (past_with ws q) e c).ending → meaning s left (past_with ws q) e c ≡ meaning s room (past_with vs p) d c

pub evaluated_alike : {N : Type 0} (s : Setting N) (vs ws : List (Bound N)) (room left : ℕ) (under unders : List Expanded) → MeanAlike s vs ws room left
    → (name : Expanded) (d : ℕ) (l : Place) (element : Option N) (u v : Given N)
    → evaluated s (meaning s room) (past_with vs under) name d l element ≡ Known u
    → evaluated s (meaning s left) (past_with ws unders) name d l element ≡ Known v → u ≡ v
evaluated_alike s vs ws room left under unders f name d l None u v a b = known_same (sym a ∙ b)
evaluated_alike {N = N} s vs ws room left under unders f name d l (Some element) u v a b =
    let c = global_call s.root element l in
    let one = meaning s room (past_with vs (name ∷ under)) d c in
    let two = meaning s left (past_with ws (name ∷ unders)) d c in
    let same : two ≡ one = f (name ∷ under) (name ∷ unders) d d c (held_known one u a) (held_known two v b) in
    known_same (sym a ∙ sym (ap (λ (o : Outcome N). held_by o) same) ∙ b)

pub own_later : {N : Type 0} (s : Setting N) (vs ws : List (Bound N)) (room left : ℕ) (under unders : List Expanded) (c : Call N) → Agrees s vs ws
    → MeanAlike s vs ws room left
    → GoesOn (own_of s (record { call = c; below = room; past = past_with vs under })).ending
    → GoesOn (own_of s (record { call = c; below = left; past = past_with ws unders })).ending
    → own_of s (record { call = c; below = left; past = past_with ws unders }) ≡ own_of s
    (record { call = c; below = room; past = past_with vs under })
own_later {N = N} s vs ws room left under unders c w f a b =
    let i : Instantiation N = record { call = c; below = room; past = past_with vs under } in
    let j : Instantiation N = record { call = c; below = left; past = past_with ws unders } in
    lockstep s.ask (given_to s i) (given_to s j) (meant_below s i) (meant_below s j) room left supplies
    (λ d inner g h. f under unders d d (settled c inner) g h)
    (plan_of s.same c) at_start a b
  where
    globals : (name : Expanded) (d : ℕ) (l : Place) (u v : Given N) → referred s (meaning s room) (past_with vs under) name d l ≡ Known u
        → referred s (meaning s left) (past_with ws unders) name d l ≡ Known v → u ≡ v
    globals name d l u v g h =
        let x = evaluated_at s room (past_with vs under) name d l in
        let y = evaluated_at s left (past_with ws unders) name d l in
        both_known l (binding_of name vs) (binding_of name ws) (list_any (same_name name) under) (list_any (same_name name) unders) x y u v
        (w.known name)
        (λ z e k r. w.new name z e k room under d l u r) (evaluated_alike s vs ws room left under unders f name d l (element_named name s.globals)
        u v)
        (sym (refer_by_turn name l vs (list_any (same_name name) under) x)
        ∙ g) (sym (refer_by_turn name l ws (list_any (same_name name) unders) y) ∙ h)

    supplies : (x : Wanted) (d : ℕ) (l : Place) (u v : Given N) → supplied c (referred s (meaning s room) (past_with vs under)) x d l ≡ Known u
        → supplied c (referred s (meaning s left) (past_with ws unders)) x d l ≡ Known v → u ≡ v
    supplies Position d l u v g h = known_same (sym g ∙ h)
    supplies Size d l u v g h = known_same (sym g ∙ h)
    supplies Rule d l u v g h = known_same (sym g ∙ h)
    supplies (Global name) d l u v g h = globals name d l u v g h

means_later : {N : Type 0} (s : Setting N) (vs ws : List (Bound N)) (room left : ℕ) (under unders : List Expanded) (c : Call N) → Agrees s vs ws
    → MeanAlike s vs ws room left
    → GoesOn (meaning s (suc room) (past_with vs under) zero c).ending → GoesOn (meaning s (suc left) (past_with ws unders) zero c).ending
    → meaning s (suc left) (past_with ws unders) zero c ≡ meaning s (suc room) (past_with vs under) zero c
means_later {N = N} s vs ws room left under unders c w f a b =
    let i : Instantiation N = record { call = c; below = room; past = past_with vs under } in
    let j : Instantiation N = record { call = c; below = left; past = past_with ws unders } in
    let one = filled_whole s.ask (given_to s i) (meant_below s i) room (plan_of s.same c) in
    let two = filled_whole s.ask (given_to s j) (meant_below s j) left (plan_of s.same c) in
    let G : Outcome N → Type 0 = λ o. GoesOn o.ending in
    sym two ∙ ap whole (own_later s vs ws room left under unders c w f (subst G (sym one) a) (subst G (sym two) b)) ∙ one

-- with any levels left
pub meaning_later : {N : Type 0} (s : Setting N) (vs ws : List (Bound N)) (room there : ℕ) (under unders : List Expanded) (depth below : ℕ)
    (c : Call N) → Agrees s vs ws
    → GoesOn (meaning s room (past_with vs under) depth c).ending → GoesOn (meaning s there (past_with ws unders) below c).ending
    → meaning s there (past_with ws unders) below c ≡ meaning s room (past_with vs under) depth c
meaning_later s vs ws zero there under unders depth below c w h i = absurd h
meaning_later {N = N} s vs ws (suc room) there under unders zero below c w h i =
    at_room (there - below) (meaning_at s there (past_with ws unders) below c)
    (λ left k. means_later s vs ws room left under unders c w (λ p q d e inner a b. meaning_later s vs ws room left p q d e inner w a b) h k)
  where
    at_room : (n : ℕ) → meaning s there (past_with ws unders) below c ≡ meaning s n (past_with ws unders) zero c
        → ((left : ℕ) → GoesOn (meaning s (suc left) (past_with ws unders) zero c).ending
        → meaning s (suc left) (past_with ws unders) zero c ≡ meaning s (suc room) (past_with vs under) zero c)
        → meaning s there (past_with ws unders) below c ≡ meaning s (suc room) (past_with vs under) zero c
    at_room zero e f = let P : Outcome N → Type 0 = λ o. GoesOn o.ending in absurd (subst P e i)
    at_room (suc left) e f = let P : Outcome N → Type 0 = λ o. GoesOn o.ending in e ∙ f left (subst P e i)
meaning_later s vs ws (suc room) there under unders (suc depth) below c w h i = meaning_later s vs ws room there under unders depth below c w h i
