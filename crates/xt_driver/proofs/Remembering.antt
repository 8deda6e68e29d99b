-- What is remembered goes on to hold while more is remembered.
use Rattle.std.proofs.Common.{◌≡◌, ℕ, ◌≤◌, List, [], ◌∷◌, ◌++◌, Bool, true, false, cond, refl, sym, ap, subst, ◌∙◌, append_assoc}
use Rattle.std.specs.Prelude.{◌||◌, Option, None, Some, if◌then◌else◌}
use Rattle.std.specs.List.{list_any}
use Rattle.std.proofs.lemmas.List.{append-nil}
use Rattle.spec_document.specs.Name.{Expanded, same_name}
use Rattle.spec_stylesheet.specs.Place.{Place}
use Rattle.spec_meaning.specs.Value.{Value}
use Rattle.spec_meaning.specs.Context.{Bound}
use Rattle.spec_meaning.specs.Program.{Valued}
use Rattle.spec_run.specs.Direct.{Supplied, Known, Outcome}
use Rattle.spec_run.specs.Hold.{GoesOn}
use Rattle.spec_run.specs.Meaning.{Setting, Past, going_into, global_call, held_by, element_named, evaluated, needs_itself, refer, referred, meaning}
use Rattle.spec_run.proofs.More.{held_known}
use Rattle.xt_driver.specs.Remembered.{Entry, first_named, IsIfThere, Fits, Suits, Comes, HoldsAt, Holds, AllHold, Remembers, Keeps, Lasts, GivesAlways, IsAnew, Unnamed, IsAside, all_aside, none_aside}
use Rattle.xt_driver.proofs.Less.{elsewhere}

-- where the one fits, the other does
abbrev pub More : {N : Type 0} → List (Entry N) → List (Entry N) → Type 0
More {N = N} old new = (past : Past N) → Fits new past → Fits old past

neither : (a b : Bool) → (a || b) ≡ false → (a ≡ false) × (b ≡ false)
neither true b e = absurd (cc)
neither false b e = (refl, e)

-- ---- Where it fits

pub fits_left : {N : Type 0} (m n : List (Entry N)) (past : Past N) → Fits (m ++ n) past → Fits m past
fits_left [] n past h = tt
fits_left (e ∷ m) n past h = (h.0, fits_left m n past h.1)

pub fits_right : {N : Type 0} (m n : List (Entry N)) (past : Past N) → Fits (m ++ n) past → Fits n past
fits_right [] n past h = h
fits_right (e ∷ m) n past h = fits_right m n past h.1

pub fits_both : {N : Type 0} (m n : List (Entry N)) (past : Past N) → Fits m past → Fits n past → Fits (m ++ n) past
fits_both [] n past h k = k
fits_both (e ∷ m) n past h k = (h.0, fits_both m n past h.1 k)

-- inside an evaluation and around it
pub fits_out : {N : Type 0} (m : List (Entry N)) (name : Expanded) (past : Past N) → Fits m (going_into name past) → Fits m past
fits_out [] name past h = tt
fits_out (e ∷ m) name past h = (((neither (same_name e.name name) (list_any (same_name e.name) past.under) h.0.0).1, h.0.1), fits_out m name past h.1)

pub unnamed_inside : {N : Type 0} (m : List (Entry N)) (name : Expanded) (past : Past N) → Fits m (going_into name past) → Unnamed name m
unnamed_inside [] name past h = tt
unnamed_inside (e ∷ m) name past h = ((neither (same_name e.name name) (list_any (same_name e.name) past.under) h.0.0).0, unnamed_inside m name past h.1)

pub fits_in : {N : Type 0} (m : List (Entry N)) (name : Expanded) (past : Past N) → Unnamed name m → Fits m past → Fits m (going_into name past)
fits_in [] name past h k = tt
fits_in (e ∷ m) name past h k =
    let P : Bool → Type 0 = λ b. (b || list_any (same_name e.name) past.under) ≡ false in
    ((subst P (sym h.0) k.0.0, k.0.1), fits_in m name past h.1 k.1)

pub suits_more : {N : Type 0} {m n : List (Entry N)} {values : List (Bound N)} {past : Past N} → More m n → Suits values n past → Suits values m past
suits_more {past = past} f h = record { more = h.more; same = h.same; fits = f past h.fits }

pub suits_here : {N : Type 0} {all : List (Entry N)} {past : Past N} → Fits all past → Suits past.values all past
suits_here {past = past} h = record { more = []; same = sym (append-nil past.values); fits = h }

-- ---- What holds

hold_one : {N : Type 0} (s : Setting N) (values more : List (Bound N)) (m n : List (Entry N)) (e : Entry N) → ((past : Past N) → Suits more n past → Suits values m past) → Holds s values m e → Holds s more n e
hold_one {N = N} s values more m n e f h = record { element_is = h.element_is; at = go e.element h.at }
  where
    go : (element : Option N) → HoldsAt s values m e element → HoldsAt s more n e element
    go None k = k
    go (Some element) k = λ r past place l suits. k r past place l (f past suits)

hold_where : {N : Type 0} (s : Setting N) (values more : List (Bound N)) (m n es : List (Entry N)) → ((past : Past N) → Suits more n past → Suits values m past) → AllHold s values m es → AllHold s more n es
hold_where s values more m n [] f h = tt
hold_where s values more m n (e ∷ es) f h = (hold_one s values more m n e f h.0, hold_where s values more m n es f h.1)

pub hold_more : {N : Type 0} (s : Setting N) (values : List (Bound N)) (m n es : List (Entry N)) → More m n → AllHold s values m es → AllHold s values n es
hold_more s values m n es f h = hold_where s values values m n es (λ past suits. suits_more f suits) h

-- after one turn more
pub hold_later : {N : Type 0} (s : Setting N) (values : List (Bound N)) (b : Bound N) (m es : List (Entry N)) → AllHold s values m es → AllHold s (values ++ b ∷ []) m es
hold_later s values b m es h = hold_where s values (values ++ b ∷ []) m m es
    (λ past suits. record { more = b ∷ suits.more; same = suits.same ∙ append_assoc values (b ∷ []) suits.more; fits = suits.fits }) h

pub hold_both : {N : Type 0} (s : Setting N) (values : List (Bound N)) (all es fs : List (Entry N)) → AllHold s values all es → AllHold s values all fs → AllHold s values all (es ++ fs)
hold_both s values all [] fs h k = k
hold_both s values all (e ∷ es) fs h k = (h.0, hold_both s values all es fs h.1 k)

pub nothing_remembered : {N : Type 0} (s : Setting N) (past : Past N) → Remembers s past []
nothing_remembered s past = record { hold = tt; fits = tt }

pub keeps_all : {N : Type 0} {s : Setting N} {past : Past N} {m : List (Entry N)} → Remembers s past m → Keeps s past m m
keeps_all h = record { remembers = h; more = λ other k. k }

pub keeps_on : {N : Type 0} {s : Setting N} {past : Past N} {l m n : List (Entry N)} → Keeps s past l m → Keeps s past m n → Keeps s past l n
keeps_on f g = record { remembers = g.remembers; more = λ other k. f.more other (g.more other k) }

-- ---- What a reference gives

abbrev pub given_first : {N : Type 0} → Option (Value N) → Supplied N → Supplied N
given_first None now = now
given_first (Some v) now = Known (Valued v)

pub refer_first : {N : Type 0} (name : Expanded) (place : Place) (bs : List (Bound N)) (is_under : Bool) (now : Supplied N)
    → refer name place bs is_under now ≡ given_first (first_named name bs) (if is_under then needs_itself place else now)
refer_first name place [] is_under now = refl
refer_first {N = N} name place (b ∷ bs) is_under now = go (same_name b.name name) (refer_first name place bs is_under now)
  where
    rest : Supplied N
    rest = if is_under then needs_itself place else now

    go : (t : Bool) → refer name place bs is_under now ≡ given_first (first_named name bs) rest
        → cond t (Known (Valued b.value)) (refer name place bs is_under now) ≡ given_first (cond t (Some b.value) (first_named name bs)) rest
    go true k = refl
    go false k = k

pub first_append : {N : Type 0} (name : Expanded) (bs cs : List (Bound N)) (v : Value N) → first_named name bs ≡ Some v → first_named name (bs ++ cs) ≡ Some v
first_append name [] cs v h = absurd (cc)
first_append {N = N} name (b ∷ bs) cs v h = go (same_name b.name name) (first_append name bs cs v) h
  where
    go : (t : Bool) → (first_named name bs ≡ Some v → first_named name (bs ++ cs) ≡ Some v) → cond t (Some b.value) (first_named name bs) ≡ Some v → cond t (Some b.value) (first_named name (bs ++ cs)) ≡ Some v
    go true k e = e
    go false k e = k e

-- what is past is given whatever is being evaluated
pub gives_past : {N : Type 0} (s : Setting N) (values : List (Bound N)) (all : List (Entry N)) (name : Expanded) (levels : ℕ) (v : Value N) → first_named name values ≡ Some v → GivesAlways s values all name levels v
gives_past s values all name levels v found r past place l suits =
    let now = evaluated s (meaning s r) past name 0 place (element_named name s.globals) in
    let under = list_any (same_name name) past.under in
    let there = ap (first_named name) suits.same ∙ first_append name values suits.more v found in
    refer_first name place past.values under now ∙ ap (λ o. given_first o (if under then needs_itself place else now)) there

-- what holds is given
pub gives_held : {N : Type 0} (s : Setting N) (values : List (Bound N)) (all : List (Entry N)) (e : Entry N) → More (e ∷ []) all → Holds s values all e → GivesAlways s values all e.name e.levels e.value
gives_held {N = N} s values all e f h r past place l suits =
    refer_first e.name place past.values under now ∙ ap (λ b. given_first (first_named e.name past.values) (if b then needs_itself place else now)) fits.0.0 ∙ by_first (first_named e.name past.values) fits.0.1
  where
    now : Supplied N
    now = evaluated s (meaning s r) past e.name 0 place (element_named e.name s.globals)

    under : Bool
    under = list_any (same_name e.name) past.under

    fits : Fits (e ∷ []) past
    fits = f past suits.fits

    by_element : (element : Option N) → HoldsAt s values all e element → evaluated s (meaning s r) past e.name 0 place element ≡ Known (Valued e.value)
    by_element None k = ap (λ x. Known (Valued x)) (sym k)
    by_element (Some element) k = (k r past place l suits).held

    by_first : (o : Option (Value N)) → IsIfThere o e.value → given_first o now ≡ Known (Valued e.value)
    by_first None k = ap (evaluated s (meaning s r) past e.name 0 place) h.element_is ∙ by_element e.element h.at
    by_first (Some v) k = ap (λ x. Known (Valued x)) k

-- ---- The evaluation of a global

-- a reference to it evaluates it
pub referred_here : {N : Type 0} (s : Setting N) (r : ℕ) (past : Past N) (name : Expanded) (node : N) (place : Place)
    → IsAnew s past name node → referred s (meaning s r) past name 0 place ≡ held_by (meaning s r (going_into name past) 0 (global_call s.root node place))
referred_here s r past name node place anew =
    let now = evaluated s (meaning s r) past name 0 place (element_named name s.globals) in
    let under = list_any (same_name name) past.under in
    refer_first name place past.values under now
    ∙ ap (λ b. given_first (first_named name past.values) (if b then needs_itself place else now)) anew.apart
    ∙ ap (λ o. given_first o now) anew.not_past
    ∙ ap (evaluated s (meaning s r) past name 0 place) anew.element_is

-- what it came to is what it comes to
pub holds_anew : {N : Type 0} (s : Setting N) (past : Past N) (n all : List (Entry N)) (name : Expanded) (node : N) (levels : ℕ) (v : Value N) (place : Place) (o : Outcome N)
    → element_named name s.globals ≡ Some node → More n all → Fits n (going_into name past)
    → Lasts s (going_into name past) levels n (global_call s.root node place) o → held_by o ≡ Known (Valued v)
    → Holds s past.values all (record { name = name; element = Some node; levels = levels; value = v; content = o.content })
holds_anew {N = N} s past n all name node levels v place o is f apart lasts holds = record { element_is = is; at = there }
  where
    there : (r : ℕ) (other : Past N) (at : Place) → levels ≤ r → Suits past.values all other
        → Comes (record { name = name; element = Some node; levels = levels; value = v; content = o.content }) (meaning s r (going_into name other) 0 (global_call s.root node at))
    there r other at low suits =
        let on = held_known o (Valued v) holds in
        let inner = going_into name other in
        let here : Suits past.values n inner = record { more = suits.more; same = suits.same; fits = fits_in n name other (unnamed_inside n name past apart) (f other suits.fits) } in
        let same = lasts.so on r inner low here in
        let G : Outcome N → Type 0 = λ x. GoesOn x.ending in
        let all_same = elsewhere s r inner 0 node place at (subst G (sym same) on) ∙ same in
        record { held = ap held_by all_same ∙ holds; content = ap (λ (x : Outcome N). x.content) all_same }

-- what stays is remembered in the evaluation
pub remembers_inside : {N : Type 0} (s : Setting N) (past : Past N) (name : Expanded) {aside old new : List (Entry N)} → IsAside name aside old new → Remembers s past old → Remembers s (going_into name past) new
remembers_inside s past name all_aside h = nothing_remembered s (going_into name past)
remembers_inside s past name (none_aside {old = old} apart) h = record { hold = h.hold; fits = fits_in old name past apart h.fits }

-- and after it all is there again, with what is remembered of the evaluation
aside_more : {N : Type 0} {name : Expanded} {aside old mid : List (Entry N)} (new last : List (Entry N)) → IsAside name aside old mid → More mid new → More old ((new ++ aside) ++ last)
aside_more {aside = aside} new last all_aside f past h = fits_right new aside past (fits_left (new ++ aside) last past h)
aside_more {aside = aside} new last (none_aside apart) f past h = f past (fits_left new aside past (fits_left (new ++ aside) last past h))

aside_holds : {N : Type 0} (s : Setting N) (values : List (Bound N)) {name : Expanded} {aside old mid : List (Entry N)} → IsAside name aside old mid → AllHold s values old old → AllHold s values old aside
aside_holds s values all_aside h = h
aside_holds s values (none_aside apart) h = tt

aside_fits : {N : Type 0} {name : Expanded} {aside old mid : List (Entry N)} (past : Past N) → IsAside name aside old mid → Fits old past → Fits aside past
aside_fits past all_aside h = h
aside_fits past (none_aside apart) h = tt

pub keeps_evaluated : {N : Type 0} (s : Setting N) (past : Past N) (name : Expanded) (aside old mid new last : List (Entry N))
    → IsAside name aside old mid → Remembers s past old → Keeps s (going_into name past) mid new
    → AllHold s past.values ((new ++ aside) ++ last) last → Fits last past → Keeps s past old ((new ++ aside) ++ last)
keeps_evaluated s past name aside old mid new last is h k holds fits =
    let end = (new ++ aside) ++ last in
    let old_more = aside_more new last is k.more in
    let new_more : More new end = λ other a. fits_left new aside other (fits_left (new ++ aside) last other a) in
    record {
      remembers = record {
        hold = hold_both s past.values end (new ++ aside) last
            (hold_both s past.values end new aside (hold_more s past.values new end new new_more k.remembers.hold) (hold_more s past.values old end aside old_more (aside_holds s past.values is h.hold))) holds;
        fits = fits_both (new ++ aside) last past (fits_both new aside past (fits_out new name past k.remembers.fits) (aside_fits past is h.fits)) fits;
      };
      more = old_more;
    }
