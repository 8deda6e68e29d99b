-- What came to its end in a run serves wherever else in it the same call comes to its end.
use Rattle.std.proofs.Common.{◌≡◌, ℕ, zero, suc, ◌⊎◌, inl, inr, List, [], ◌∷◌, ◌++◌, Bool, true, false, cond, refl, sym, ap, subst, ◌∙◌, arith}
use Rattle.std.specs.Prelude.{Option, None, Some, ◌&&◌, bytes_eq}
use Rattle.std.specs.List.{list_any}
use Rattle.std.proofs.lemmas.Slice.Eq.{bytes_eq-Decides}
use Rattle.spec_document.specs.Name.{Expanded, same_name}
use Rattle.spec_stylesheet.specs.Place.{Place}
use Rattle.spec_meaning.specs.Stream.{Stream}
use Rattle.spec_meaning.specs.Value.{Value}
use Rattle.spec_meaning.specs.Question.{Question, Answer}
use Rattle.spec_meaning.specs.Program.{Wanted, Position, Size, Rule, Global, Given, Valued}
use Rattle.spec_meaning.specs.Context.{Bound, binding_of}
use Rattle.spec_run.specs.Plan.{Call, nowhere}
use Rattle.spec_run.specs.Direct.{Supplied, Known, Failed, Ending, Finished, Gave, Halted, Outcome}
use Rattle.spec_run.specs.Going.{Event, Asked, Saw, Entered, Held, Owned, at_start, whole}
use Rattle.spec_run.specs.Hold.{GoesOn, Hold}
use Rattle.spec_run.specs.Trail.{kept_as, Trail, IsTrue}
use Rattle.spec_run.specs.Content.{plan_of}
use Rattle.spec_run.specs.Meaning.{NamedGlobal, Setting, Past, going_into, held_by, global_call, element_named, evaluated, settled, meaning}
use Rattle.spec_run.specs.Meaning.{at_turn, value_of}
use Rattle.spec_run.specs.Meaning.{levels_of_a_run, root_call}
use Rattle.spec_run.proofs.Fill.{filled_whole}
use Rattle.spec_run.proofs.Trails.{Went, own_went, trail_trace}
use Rattle.spec_run.proofs.More.{held_known}
use Rattle.spec_reuse.specs.Among.{IsIn}
use Rattle.spec_reuse.specs.Instantiation.{Instantiation, given_to, meant_below, own_of, kept_of, entered_along, unless_past, for_element}
use Rattle.spec_reuse.specs.Instantiation.{for_reference, entered}
use Rattle.spec_reuse.specs.Instantiation.{meaning_of, after_turn, entered_by_run, instantiations}
use Rattle.spec_reuse.specs.Serving.{PassAlike, ReadsHold, Serves}
use Rattle.spec_reuse.specs.Record.{IsRecordOf}
use Rattle.spec_reuse.specs.Cost.{Repeats}
use Rattle.spec_reuse.proofs.Later.{known_same, entered_by, meaning_by, own_by, past_with, evaluated_at, Agrees, own_later, meaning_later}

-- ---- Names

abbrev of_parts : List ℕ → List ℕ → Expanded
of_parts uri local = record { uri = uri; local = local }

first_of : (a b : Bool) → (a && b) ≡ true → a ≡ true
first_of true b e = refl
first_of false b e = e

second_of : (a b : Bool) → (a && b) ≡ true → b ≡ true
second_of true b e = e
second_of false b e = absurd (cc)

pub equal_names : (a b : Expanded) → same_name a b ≡ true → a ≡ b
equal_names a b e =
    let uri = (bytes_eq-Decides a.uri b.uri).0 (first_of (bytes_eq a.uri b.uri) (bytes_eq a.local b.local) e) in
    let local = (bytes_eq-Decides a.local b.local).0 (second_of (bytes_eq a.uri b.uri) (bytes_eq a.local b.local) e) in
    λ i. of_parts (uri i) (local i)

-- ---- All that a call enters has the same globals past

pub in_append : {A : Type 0} (x : A) (xs ys : List A) → IsIn x (xs ++ ys) → IsIn x xs ⊎ IsIn x ys
in_append x [] ys h = inr h
in_append x (y ∷ xs) ys (inl e) = inl (inl e)
in_append x (y ∷ xs) ys (inr h) = on (in_append x xs ys h)
  where
    on : IsIn x xs ⊎ IsIn x ys → ((x ≡ y) ⊎ IsIn x xs) ⊎ IsIn x ys
    on (inl k) = inl (inr k)
    on (inr k) = inr k

-- what holds of what is entered for each call and for each reference holds of all
pub along_all : {N : Type 0} (P : Instantiation N → Type 0) (for_call : ℕ → Call N → List (Instantiation N))
    (for_global : Expanded → ℕ → Place → List (Instantiation N))
    → ((d : ℕ) (c : Call N) (i : Instantiation N) → IsIn i (for_call d c) → P i)
    → ((n : Expanded) (d : ℕ) (l : Place) (i : Instantiation N) → IsIn i (for_global n d l) → P i)
    → (es : List (Event N)) (i : Instantiation N) → IsIn i (entered_along for_call for_global es) → P i
along_all P f g p q [] i h = absurd h
along_all P f g p q (Asked question answer ∷ es) i h = along_all P f g p q es i h
along_all P f g p q (Saw Position d l x ∷ es) i h = along_all P f g p q es i h
along_all P f g p q (Saw Size d l x ∷ es) i h = along_all P f g p q es i h
along_all P f g p q (Saw Rule d l x ∷ es) i h = along_all P f g p q es i h
along_all P f g p q (Saw (Global name) d l x ∷ es) i h =
    elim (in_append i (g name d l) (entered_along f g es) h) [ inl k ↦ q name d l i k | inr k ↦ along_all P f g p q es i k ]
along_all P f g p q (Held first contents ∷ es) i h = along_all P f g p q es i h
along_all P f g p q (Entered c d ∷ es) i h =
    elim (in_append i (f d c) (entered_along f g es) h) [ inl k ↦ p d c i k | inr k ↦ along_all P f g p q es i k ]

pub in_unless : {N : Type 0} (name : Expanded) (bs : List (Bound N)) (is_under : Bool) (is : List (Instantiation N)) (i : Instantiation N)
    → IsIn i (unless_past name bs is_under is) → IsIn i is
in_unless name [] true is i h = absurd h
in_unless name [] false is i h = h
in_unless {N = N} name (b ∷ bs) is_under is i h = go (same_name b.name name) (in_unless name bs is_under is i) h
  where
    go : (t : Bool) → (IsIn i (unless_past name bs is_under is) → IsIn i is) → IsIn i (cond t [] (unless_past name bs is_under is)) → IsIn i is
    go true f k = absurd k
    go false f k = f k

pub in_element : {N : Type 0} (P : Instantiation N → Type 0) (f : N → List (Instantiation N)) (o : Option N)
    → ((n : N) (i : Instantiation N) → IsIn i (f n) → P i)
    → (i : Instantiation N) → IsIn i (for_element f o) → P i
in_element P f None p i h = absurd h
in_element P f (Some n) p i h = p n i h

pub entered_values : {N : Type 0} (s : Setting N) (room : ℕ) (past : Past N) (depth : ℕ) (c : Call N) (i : Instantiation N)
    → IsIn i (entered s room past depth c) → i.past.values ≡ past.values
entered_values s zero past depth c i h = absurd h
entered_values {N = N} s (suc room) past zero c i h =
    let me : Instantiation N = record { call = c; below = room; past = past } in
    let for_call : ℕ → Call N → List (Instantiation N) = λ d inner. entered s room past d (settled c inner) in
    let for_global = for_reference s (entered s room) past in
    elim (in_append i (entered_along for_call for_global (own_of s me).going.trace) (me ∷ []) h) [
      | inl k ↦ along_all (λ j. j.past.values ≡ past.values) for_call for_global (λ d inner j l. entered_values s room past d (settled c inner) j l)
          (λ name d place j l. in_element (λ j. j.past.values ≡ past.values) (λ element. entered s room (going_into name past) d
          (global_call s.root element place))
          (element_named name s.globals) (λ element j l. entered_values s room (going_into name past) d (global_call s.root element place) j l) j
          (in_unless name past.values (list_any (same_name name) past.under)
          (for_element (λ element. entered s room (going_into name past) d (global_call s.root element place)) (element_named name s.globals)) j l))
          (own_of s me).going.trace i k
      | inr k ↦ last k
    ]
  where
    last : (i ≡ record { call = c; below = room; past = past }) ⊎ ⊥ → i.past.values ≡ past.values
    last (inl e) = ap (λ (j : Instantiation N). j.past.values) e
    last (inr k) = absurd k
entered_values s (suc room) past (suc depth) c i h = entered_values s room past depth c i h

-- ---- The turns of a run

-- what is not past yet is found among those to come
abbrev pub IsToCome : {N : Type 0} → Setting N → List (NamedGlobal N) → List (Bound N) → Type 0
IsToCome s gs ws = (name : Expanded) → binding_of name ws ≡ None → element_named name s.globals ≡ element_named name gs

abbrev or_else : {N : Type 0} → Option (Value N) → Option (Value N) → Option (Value N)
or_else None o = o
or_else (Some v) o = Some v

binding_more : {N : Type 0} (name : Expanded) (ws : List (Bound N)) (b : Bound N)
    → binding_of name (ws ++ b ∷ []) ≡ or_else (binding_of name ws) (binding_of name (b ∷ []))
binding_more name [] b = refl
binding_more {N = N} name (k ∷ ws) b = go (same_name k.name name) (binding_more name ws b)
  where
    go : (t : Bool) → binding_of name (ws ++ b ∷ []) ≡ or_else (binding_of name ws) (binding_of name (b ∷ []))
        → cond t (Some k.value) (binding_of name (ws ++ b ∷ [])) ≡ or_else (cond t (Some k.value) (binding_of name ws)) (binding_of name (b ∷ []))
    go true e = refl
    go false e = e

to_come_later : {N : Type 0} (s : Setting N) (g : NamedGlobal N) (gs : List (NamedGlobal N)) (ws : List (Bound N)) (v : Value N)
    → IsToCome s (g ∷ gs) ws
    → IsToCome s gs (ws ++ record { name = g.name; value = v } ∷ [])
to_come_later {N = N} s g gs ws v w name e = go (binding_of name ws) (w name) (sym (binding_more name ws (record { name = g.name; value = v })) ∙ e)
  where
    at_name : (t : Bool) → (element_named name s.globals ≡ cond t (Some g.element) (element_named name gs)) → cond t (Some v) None ≡ None
        → element_named name s.globals ≡ element_named name gs
    at_name true f k = absurd (cc)
    at_name false f k = f

    go : (o : Option (Value N)) → (o ≡ None → element_named name s.globals ≡ cond (same_name g.name name) (Some g.element) (element_named name gs))
        → or_else o (cond (same_name g.name name) (Some v) None) ≡ None → element_named name s.globals ≡ element_named name gs
    go (Some z) f k = absurd (cc)
    go None f k = at_name (same_name g.name name) (f refl) k

pub agrees_self : {N : Type 0} (s : Setting N) (vs : List (Bound N)) → Agrees s vs vs
agrees_self s vs = record { known = λ name v e. e; new = λ name v e k levels under depth place x h. absurd (cc) }

-- what a global comes to is a value
held_valued : {N : Type 0} (o : Outcome N) (x : Given N) → held_by o ≡ Known x → x ≡ Valued (value_of x)
held_valued {N = N} o x h = go o.ending h
  where
    valued : (v : Value N) → Known (Valued v) ≡ Known x → x ≡ Valued (value_of x)
    valued v e = let P : Given N → Type 0 = λ y. y ≡ Valued (value_of y) in subst P (known_same e) refl

    go : (e : Ending N) → held_by (record { content = o.content; ending = e }) ≡ Known x → x ≡ Valued (value_of x)
    go Finished k = valued _ k
    go (Gave v) k = valued v k
    go (Halted why) k = absurd (cc)

-- the turn of one more
agrees_more : {N : Type 0} (s : Setting N) (vs ws : List (Bound N)) (levels : ℕ) (g : NamedGlobal N) (gs : List (NamedGlobal N)) (x : Given N)
    → Agrees s vs ws → IsToCome s (g ∷ gs) ws
    → held_by (meaning s levels (going_into g.name (at_turn ws)) 0 (global_call s.root g.element nowhere)) ≡ Known x
    → Agrees s vs (ws ++ record { name = g.name; value = value_of x } ∷ [])
agrees_more {N = N} s vs ws levels g gs x w to_come turn = record {
  known =
      λ name v e. binding_more name ws (record { name = g.name; value = value_of x })
      ∙ ap (λ o. or_else o (binding_of name (record { name = g.name; value = value_of x } ∷ []))) (w.known name v e);
  new = λ name v e k room under depth place y h.
      go name v e room under depth place y h (binding_of name ws) refl (sym (binding_more name ws (record { name = g.name; value = value_of x }))
      ∙ k);
}
  where
    now : (name : Expanded) → g.name ≡ name → element_named name s.globals ≡ Some g.element
        → (room : ℕ) (under : List Expanded) (depth : ℕ) (place : Place) (y : Given N)
        → evaluated_at s room (past_with vs under) name depth place ≡ Known y → y ≡ x
    now name same element room under depth place y h =
        let P : Option N → Type 0 = λ o. evaluated s (meaning s room) (past_with vs under) name depth place o ≡ Known y in
        let here = subst P element h in
        let c = global_call s.root g.element place in
        let one = meaning s room (past_with vs (name ∷ under)) depth c in
        let two = meaning s levels (past_with ws (g.name ∷ [])) 0 c in
        let at = meaning s levels (past_with ws (g.name ∷ [])) 0 (global_call s.root g.element nowhere) in
        let moved : two ≡ at = meaning_by s levels (past_with ws (g.name ∷ [])) 0 (global_call s.root g.element nowhere) place
        (held_known at x turn) in
        let G : Outcome N → Type 0 = λ o. GoesOn o.ending in
        let later : two ≡ one = meaning_later s vs ws room levels (name ∷ under) (g.name ∷ []) depth 0 c w (held_known one y here)
        (subst G (sym moved) (held_known at x turn)) in
        known_same (sym here ∙ ap (λ (o : Outcome N). held_by o) (sym later ∙ moved) ∙ turn)

    go : (name : Expanded) (v : Value N) → binding_of name vs ≡ None → (room : ℕ) (under : List Expanded) (depth : ℕ) (place : Place) (y : Given N)
        → evaluated_at s room (past_with vs under) name depth place ≡ Known y → (o : Option (Value N)) → binding_of name ws ≡ o
        → or_else o (cond (same_name g.name name) (Some (value_of x)) None) ≡ Some v → y ≡ Valued v
    go name v e room under depth place y h (Some z) f k = w.new name v e (f ∙ k) room under depth place y h
    go name v e room under depth place y h None f k =
        at_name (same_name g.name name) (λ t. equal_names g.name name t) (to_come name f) k
      where
        at_name : (t : Bool) → (t ≡ true → g.name ≡ name) → element_named name s.globals ≡ cond t (Some g.element) (element_named name gs)
            → cond t (Some (value_of x)) None ≡ Some v → y ≡ Valued v
        at_name true same element is =
            let value : value_of x ≡ v = cc in
            now name (same refl) element room under depth place y h
            ∙ held_valued (meaning s levels (going_into g.name (at_turn ws)) 0 (global_call s.root g.element nowhere)) x turn
            ∙ ap (λ z. Valued z) value
        at_name false same element is = absurd (cc)

-- what is past at a turn agrees with what is past wherever the run comes after it
agrees_run : {N : Type 0} (s : Setting N) (levels : ℕ) (gs : List (NamedGlobal N)) (ws : List (Bound N)) (c : Call N) (vs : List (Bound N))
    → Agrees s vs ws → IsToCome s gs ws
    → (i : Instantiation N) → IsIn i (entered_by_run s levels gs ws c) → Agrees s vs i.past.values
agrees_run {N = N} s levels [] ws c vs w to_come i h =
    let A : List (Bound N) → Type 0 = λ l. Agrees s vs l in
    subst A (sym (entered_values s levels (at_turn ws) 0 c i h)) w
agrees_run {N = N} s levels (g ∷ gs) ws c vs w to_come i h =
    let past = going_into g.name (at_turn ws) in
    let call = global_call s.root g.element nowhere in
    let o = meaning s levels past 0 call in
    let A : List (Bound N) → Type 0 = λ l. Agrees s vs l in
    elim (in_append i (entered s levels past 0 call) (after_turn (λ x. entered_by_run s levels gs
    (ws ++ record { name = g.name; value = value_of x } ∷ []) c) (held_by o)) h) [
      | inl k ↦ subst A (sym (entered_values s levels past 0 call i k)) w
      | inr k ↦ turned (held_by o) refl
          (λ x e l. agrees_run s levels gs (ws ++ record { name = g.name; value = value_of x } ∷ []) c vs
          (agrees_more s vs ws levels g gs x w to_come e)
          (to_come_later s g gs ws (value_of x) to_come) i l) k
    ]
  where
    turned : (x : Supplied N) → held_by (meaning s levels (going_into g.name (at_turn ws)) 0 (global_call s.root g.element nowhere)) ≡ x
        → ((y : Given N) → held_by (meaning s levels (going_into g.name (at_turn ws)) 0 (global_call s.root g.element nowhere)) ≡ Known y
        → IsIn i (entered_by_run s levels gs (ws ++ record { name = g.name; value = value_of y } ∷ []) c) → Agrees s vs i.past.values)
        → IsIn i (after_turn (λ x. entered_by_run s levels gs (ws ++ record { name = g.name; value = value_of x } ∷ []) c) x)
        → Agrees s vs i.past.values
    turned (Known x) e f k = f x e k
    turned (Failed why) e f k = absurd k

-- what is entered for a global at its turn, and after it, where it comes to this
abbrev at_its_turn : {N : Type 0} → Setting N → ℕ → NamedGlobal N → List (Bound N) → List (Instantiation N)
at_its_turn s levels g ws = entered s levels (going_into g.name (at_turn ws)) 0 (global_call s.root g.element nowhere)

abbrev behind_turn : {N : Type 0} → Setting N → ℕ → NamedGlobal N → List (NamedGlobal N) → List (Bound N) → Call N → Supplied N
    → List (Instantiation N)
behind_turn s levels g gs ws c x = after_turn (λ x. entered_by_run s levels gs (ws ++ record { name = g.name; value = value_of x } ∷ []) c) x

-- of any two in a run the one is no later than the other
abbrev pub AgreeEither : {N : Type 0} → Setting N → (i j : Instantiation N) → Type 0
AgreeEither s i j = Agrees s i.past.values j.past.values ⊎ Agrees s j.past.values i.past.values

pub agree_in_run : {N : Type 0} (s : Setting N) (levels : ℕ) (gs : List (NamedGlobal N)) (ws : List (Bound N)) (c : Call N) → IsToCome s gs ws
    → (i j : Instantiation N) → IsIn i (entered_by_run s levels gs ws c) → IsIn j (entered_by_run s levels gs ws c) → AgreeEither s i j
agree_in_run {N = N} s levels [] ws c to_come i j h k =
    let A : List (Bound N) → Type 0 = λ l. Agrees s l j.past.values in
    let B : List (Bound N) → Type 0 = λ l. Agrees s ws l in
    inl (subst A (sym (entered_values s levels (at_turn ws) 0 c i h)) (subst B (sym (entered_values s levels (at_turn ws) 0 c j k))
    (agrees_self s ws)))
agree_in_run {N = N} s levels (g ∷ gs) ws c to_come i j h k =
    parts (held_by (meaning s levels (going_into g.name (at_turn ws)) 0 (global_call s.root g.element nowhere))) refl
    (in_append i (entered s levels (going_into g.name (at_turn ws)) 0 (global_call s.root g.element nowhere)) _ h)
    (in_append j (entered s levels (going_into g.name (at_turn ws)) 0 (global_call s.root g.element nowhere)) _ k)
    (λ x l m. agree_in_run s levels gs (ws ++ record { name = g.name; value = value_of x } ∷ []) c (to_come_later s g gs ws (value_of x) to_come)
    i j l m)
  where
    values_of : (a : Instantiation N) → IsIn a (at_its_turn s levels g ws) → a.past.values ≡ ws
    values_of a l = entered_values s levels (going_into g.name (at_turn ws)) 0 (global_call s.root g.element nowhere) a l

    after : (x : Supplied N) → held_by (meaning s levels (going_into g.name (at_turn ws)) 0 (global_call s.root g.element nowhere)) ≡ x
        → (a b : Instantiation N) → IsIn a (at_its_turn s levels g ws) → IsIn b (behind_turn s levels g gs ws c x)
        → Agrees s a.past.values b.past.values
    after (Known x) e a b l m =
        let A : List (Bound N) → Type 0 = λ l. Agrees s l b.past.values in
        subst A (sym (values_of a l)) (agrees_run s levels gs (ws ++ record { name = g.name; value = value_of x } ∷ []) c ws
        (agrees_more s ws ws levels g gs x (agrees_self s ws) to_come e) (to_come_later s g gs ws (value_of x) to_come) b m)
    after (Failed why) e a b l m = absurd m

    both_after : (x : Supplied N)
        → ((y : Given N) → IsIn i (behind_turn s levels g gs ws c (Known y)) → IsIn j (behind_turn s levels g gs ws c (Known y)) → AgreeEither s i j)
        → IsIn i (behind_turn s levels g gs ws c x) → IsIn j (behind_turn s levels g gs ws c x) → AgreeEither s i j
    both_after (Known x) f l m = f x l m
    both_after (Failed why) f l m = absurd l

    parts : (x : Supplied N) → held_by (meaning s levels (going_into g.name (at_turn ws)) 0 (global_call s.root g.element nowhere)) ≡ x
        → IsIn i (at_its_turn s levels g ws) ⊎ IsIn i (behind_turn s levels g gs ws c x)
        → IsIn j (at_its_turn s levels g ws) ⊎ IsIn j (behind_turn s levels g gs ws c x)
        → ((y : Given N) → IsIn i (behind_turn s levels g gs ws c (Known y)) → IsIn j (behind_turn s levels g gs ws c (Known y)) → AgreeEither s i j)
        → AgreeEither s i j
    parts x e (inl l) (inl m) f =
        let A : List (Bound N) → Type 0 = λ l. Agrees s l j.past.values in
        let B : List (Bound N) → Type 0 = λ l. Agrees s ws l in
        inl (subst A (sym (values_of i l)) (subst B (sym (values_of j m)) (agrees_self s ws)))
    parts x e (inl l) (inr m) f = inl (after x e i j l m)
    parts x e (inr l) (inl m) f = inr (after x e j i m l)
    parts x e (inr l) (inr m) f = both_after x f l m

-- ---- Two of one call

-- the call of the one in place of that of the other
abbrev pub in_place_of : {N : Type 0} → Instantiation N → Instantiation N → Instantiation N
in_place_of i j = record { call = i.call; below = j.below; past = j.past }

-- at any place of a run
pub own_again : {N : Type 0} (s : Setting N) (i j : Instantiation N) → AgreeEither s i j → Repeats s i j → own_of s j ≡ own_of s i
own_again {N = N} s i j agree r = moved ∙ go agree
  where
    is_call : j.call ≡ entered_by j.call.by i.call
    is_call = λ k. record {
      target = sym r.target k;
      node = sym r.node k;
      parameters = sym r.parameters k;
      position = sym r.position k;
      size = sym r.size k;
      ruling = sym r.ruling k;
      by = j.call.by;
    }

    moved : own_of s j ≡ own_of s (in_place_of i j)
    moved = ap (λ c. own_of s (record { call = c; below = j.below; past = j.past })) is_call ∙ own_by s j.below j.past i.call j.call.by

    other_ends : GoesOn (own_of s (in_place_of i j)).ending
    other_ends = let G : Owned N → Type 0 = λ o. GoesOn o.ending in subst G moved r.other_ends

    go : AgreeEither s i j → own_of s (in_place_of i j) ≡ own_of s i
    go (inl w) =
        own_later s i.past.values j.past.values i.below j.below i.past.under j.past.under i.call w
        (λ p q d e c a b. meaning_later s i.past.values j.past.values i.below j.below p q d e c w a b) r.one_ends other_ends
    go (inr w) =
        sym (own_later s j.past.values i.past.values j.below i.below j.past.under i.past.under i.call w
        (λ p q d e c a b. meaning_later s j.past.values i.past.values j.below i.below p q d e c w a b) other_ends r.one_ends)

pub reads_hold : {N : Type 0} (ask : Question N → Answer N) (supply : Wanted → ℕ → Place → Supplied N)
    (nested : ℕ → Call N → Outcome N) (streams : List Stream) (es : List (Event N))
    → Hold ask supply nested streams es → ReadsHold ask supply nested streams es
reads_hold ask supply nested streams [] h = tt
reads_hold ask supply nested streams (Asked question answer ∷ es) h = (h.0, reads_hold ask supply nested streams es h.1)
reads_hold ask supply nested streams (Saw wanted depth place x ∷ es) h = (h.0, reads_hold ask supply nested streams es h.1)
reads_hold ask supply nested streams (Entered call depth ∷ es) h = λ on. reads_hold ask supply nested (streams ++ (nested depth call).content ∷ []) es h.1
reads_hold ask supply nested streams (Held first contents ∷ es) h = (h.0, reads_hold ask supply nested streams es h.1)

pub went : {N : Type 0} (s : Setting N) (i : Instantiation N) → GoesOn (own_of s i).ending
    → Went s.ask (given_to s i) (meant_below s i) i.below (plan_of s.same i.call) at_start (own_of s i)
went s i h = own_went s.ask (given_to s i) (meant_below s i) i.below (plan_of s.same i.call) at_start h (omega arith)

pub pass_alike : {N : Type 0} (names : List Expanded) {one other : List (Bound N)} → one ≡ other → PassAlike names one other
pass_alike [] e = tt
pass_alike (name ∷ names) e = (ap (binding_of name) e, pass_alike names e)

-- what is kept goes along its plan
pub kept_lasts : {N : Type 0} (s : Setting N) (i : Instantiation N) → GoesOn (own_of s i).ending → IsTrue s.same (kept_of s i)
kept_lasts {N = N} s i h =
    let m = went s i h in
    let o = own_of s i in
    let P : List (Event N) → Type 0 = λ es. Trail (plan_of s.same i.call) at_start es o.going o.ending in
    record { last = o.going; trail = subst P (sym (trail_trace m.trail)) m.trail; is = refl }

pub serves : {N : Type 0} (s : Setting N) (i j : Instantiation N) → AgreeEither s i j → Repeats s i j → Serves s j (kept_of s i)
serves {N = N} s i j agree r =
    let same : own_of s j ≡ own_of s i = own_again s i j agree r in
    let m = went s j r.other_ends in
    let levels = m.fits in
    let height : (own_of s j).going.height ≡ (own_of s i).going.height = ap (λ (o : Owned N). o.going.height) same in
    let trace : m.events ≡ (own_of s i).going.trace = sym (trail_trace m.trail) ∙ ap (λ (o : Owned N). o.going.trace) same in
    let R : List (Event N) → Type 0 = λ es. ReadsHold s.ask (given_to s j) (meant_below s j) [] es in
    record {
      fits = record {
        lasting = kept_lasts s i r.one_ends;
        of_call = record { target = r.target; node = r.node; parameters = pass_alike _ r.parameters };
        levels = omega (arith, levels, height);
      };
      reads = subst R trace (reads_hold s.ask (given_to s j) (meant_below s j) [] m.events m.hold);
    }

pub in_one_run : {N : Type 0} (s : Setting N) (i j : Instantiation N) → IsIn i (instantiations s) → IsIn j (instantiations s) → AgreeEither s i j
in_one_run s i j h k = agree_in_run s levels_of_a_run s.globals [] (root_call s) (λ name e. refl) i j h k

pub serves_again : {N : Type 0} (s : Setting N) (i j : Instantiation N) → IsIn i (instantiations s) → IsIn j (instantiations s) → Repeats s i j
    → Serves s j (kept_of s i)
serves_again s i j h k r = serves s i j (in_one_run s i j h k) r

-- what is kept of the one is what is kept of the other
pub same_record : {N : Type 0} (s : Setting N) (i j : Instantiation N) → IsIn i (instantiations s) → IsIn j (instantiations s) → Repeats s i j
    → IsRecordOf s j (kept_of s i)
same_record {N = N} s i j h k r =
    let same = own_again s i j (in_one_run s i j h k) r in
    record {
      of_call = record { target = r.target; node = r.node; parameters = pass_alike _ r.parameters };
      same = ap (λ (o : Owned N). kept_as j.call o.going o.ending) (sym same);
    }

pub same_meaning : {N : Type 0} (s : Setting N) (i j : Instantiation N) → IsIn i (instantiations s) → IsIn j (instantiations s) → Repeats s i j
    → meaning_of s j ≡ meaning_of s i
same_meaning s i j h k r =
    sym (filled_whole s.ask (given_to s j) (meant_below s j) j.below (plan_of s.same j.call))
    ∙ ap whole (own_again s i j (in_one_run s i j h k) r)
    ∙ filled_whole s.ask (given_to s i) (meant_below s i) i.below (plan_of s.same i.call)
