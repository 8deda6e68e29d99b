-- What a run enters never looks at the name of a node.
use Rattle.std.proofs.Common.{◌≡◌, ℕ, zero, suc, List, [], ◌∷◌, Bool, true, false, cond, inl, inr, refl, sym, subst}
use Rattle.std.specs.Prelude.{Option, None, nat_lt}
use Rattle.std.specs.List.{list_any}
use Rattle.spec_document.specs.Name.{Expanded, same_name}
use Rattle.spec_stylesheet.specs.Place.{Place}
use Rattle.spec_meaning.specs.Stream.{Stream}
use Rattle.spec_meaning.specs.Question.{Question, Answer}
use Rattle.spec_meaning.specs.Program.{Wanted, Position, Size, Rule, Global, Given}
use Rattle.spec_meaning.specs.Context.{Bound}
use Rattle.spec_meaning.specs.Related.{Each, none, more, Both, neither, both, choices, Questions, Answers, Values, text, fragment, Givens}
use Rattle.spec_meaning.specs.Related.{counted, ruled, valued}
use Rattle.spec_meaning.specs.Related.{Bindings, bound, Worlds}
use Rattle.spec_meaning.proofs.Matching.{each_append}
use Rattle.spec_run.specs.Plan.{nowhere, Target, UnitOf, BuiltIn, Call, Wrapping, Plan}
use Rattle.spec_run.specs.Direct.{Supplied, Ending, Outcome}
use Rattle.spec_run.specs.Going as going
use Rattle.spec_run.specs.Going.{Event, Going, at_start, noted, put, begun, wrap, of_top, taken, aside, deepened, opened, given, Owned}
use Rattle.spec_run.specs.Going.{owned, if_known, unless_halted, own}
use Rattle.spec_run.specs.Meaning.{NamedGlobal, Setting, Past, going_into, held_by, global_call, element_named, refer, evaluated, referred}
use Rattle.spec_run.specs.Meaning.{supplied, settled, meaning}
use Rattle.spec_run.specs.Meaning.{value_of, levels_of_a_run}
use Rattle.spec_run.proofs.Related as related
use Rattle.spec_run.proofs.Related.{units_of, built_in_both, Calls, calls, Plans, yields, stops, inquires, uses, puts, begins, wraps, takes}
use Rattle.spec_run.proofs.Related.{deepens, enters}
use Rattle.spec_run.proofs.Related.{Supplies, both_know, both_fail, Endings, finished, gave, halted, Come, come, Globals, global, Pasts, pasts}
use Rattle.spec_run.proofs.Alike.{either_both, plan_of_alike, rule_call_alike}
use Rattle.spec_run.proofs.Meanings.{Provisions, Nestings, Settings, meaning_alike}
use Rattle.spec_reuse.specs.Among.{IsIn}
use Rattle.spec_reuse.specs.Instantiation.{Instantiation, entered_along, unless_past, for_element, for_reference, entered, after_turn, entered_by_run}
use Rattle.spec_reuse.specs.Instantiation.{instantiations}
use Rattle.spec_reuse.specs.Alike.{GlobalsAlike, SettingsAlike, TargetsAlike, EnterAlike, IsOneOf, NamesOnly, IsOneOfTarget}

-- ---- What an instantiation does by itself

data Events {N M : Type 0} (R : N → M → Type 0) : Event N → Event M → Type 0 where
  asked : {q : Question N} {r : Question M} {x : Answer N} {y : Answer M} → Questions R q r → Answers R x y
      → Events R (going.Asked q x) (going.Asked r y)
  saw : {w : Wanted} {depth : ℕ} {place : Place} {x : Supplied N} {y : Supplied M} → Supplies R x y
      → Events R (going.Saw w depth place x) (going.Saw w depth place y)
  entered_both : {c : Call N} {d : Call M} {depth : ℕ} → Calls R c d → Events R (going.Entered c depth) (going.Entered d depth)
  held : {first : ℕ} {contents : List Stream} → Events R (going.Held first contents) (going.Held first contents)

data Goings {N M : Type 0} (R : N → M → Type 0) : Going N → Going M → Type 0 where
  goings : {top : Stream} {outer : List Stream} {height : ℕ} {streams : List Stream} {es : List (Event N)} {fs : List (Event M)}
      → Each (Events R) es fs
      → Goings R (record { top = top; outer = outer; trace = es; height = height; streams = streams })
      (record { top = top; outer = outer; trace = fs; height = height; streams = streams })

data Owneds {N M : Type 0} (R : N → M → Type 0) : Owned N → Owned M → Type 0 where
  owneds : {g : Going N} {h : Going M} {e : Ending N} {f : Ending M} → Goings R g h → Endings R e f → Owneds R (owned g e) (owned h f)

noted_alike : {N M : Type 0} {R : N → M → Type 0} {g : Going N} {h : Going M} {e : Event N} {f : Event M} → Goings R g h → Events R e f
    → Goings R (noted e g) (noted f h)
noted_alike (goings es) e = goings (each_append es (more e none))

put_alike : {N M : Type 0} {R : N → M → Type 0} (items : Stream) {g : Going N} {h : Going M} → Goings R g h → Goings R (put items g) (put items h)
put_alike items (goings es) = goings es

begun_alike : {N M : Type 0} {R : N → M → Type 0} {g : Going N} {h : Going M} → Goings R g h → Goings R (begun g) (begun h)
begun_alike (goings es) = goings es

wrap_alike : {N M : Type 0} {R : N → M → Type 0} (how : Wrapping) {g : Going N} {h : Going M} → Goings R g h → Goings R (wrap how g) (wrap how h)
wrap_alike how (goings es) = goings es

aside_alike : {N M : Type 0} {R : N → M → Type 0} {g : Going N} {h : Going M} → Goings R g h → Goings R (aside g) (aside h)
aside_alike (goings es) = goings (each_append es (more held none))

taken_alike : {N M : Type 0} {R : N → M → Type 0} {g : Going N} {h : Going M} → Goings R g h → taken g ≡ taken h
taken_alike (goings es) = refl

deepened_alike : {N M : Type 0} {R : N → M → Type 0} (depth : ℕ) {g : Going N} {h : Going M} → Goings R g h
    → Goings R (deepened depth g) (deepened depth h)
deepened_alike depth (goings es) = goings es

opened_alike : {N M : Type 0} {R : N → M → Type 0} {c : Call N} {d : Call M} (depth : ℕ) (content : Stream) {g : Going N} {h : Going M}
    → Calls R c d → Goings R g h
    → Goings R (given content (opened c depth g)) (given content (opened d depth h))
opened_alike depth content e (goings es) = goings (each_append es (more (entered_both e) none))

known_alike : {N M : Type 0} {R : N → M → Type 0} {f : Supplied N → Given N → Owned N} {k : Supplied M → Given M → Owned M}
    {g : Supplied N → Going N} {h : Supplied M → Going M}
    → ((x : Supplied N) (y : Supplied M) → Supplies R x y → Goings R (g x) (h y))
    → ((x : Supplied N) (y : Supplied M) → Supplies R x y → (v : Given N) (w : Given M) → Givens R v w → Owneds R (f x v) (k y w))
    → {x : Supplied N} {y : Supplied M} → Supplies R x y → Owneds R (if_known (f x) (g x) x) (if_known (k y) (h y) y)
known_alike at later (both_know e) = later _ _ (both_know e) _ _ e
known_alike at later both_fail = owneds (at _ _ both_fail) halted

either_own : {N M : Type 0} {R : N → M → Type 0} (b : Bool) {o p : Owned N} {q r : Owned M} → Owneds R o q → Owneds R p r
    → Owneds R (cond b o p) (cond b q r)
either_own true h g = h
either_own false h g = g

-- after what is entered
after_alike : {N M : Type 0} {R : N → M → Type 0} {f : Stream → Owned N} {k : Stream → Owned M} {g : Stream → Going N} {h : Stream → Going M}
    → ((s : Stream) → Owneds R (f s) (k s)) → ((s : Stream) → Goings R (g s) (h s)) → {o : Outcome N} {p : Outcome M} → Come R o p
    → Owneds R (unless_halted (f o.content) (g o.content) o.ending) (unless_halted (k p.content) (h p.content) p.ending)
after_alike later at (come {content = content} finished) = later content
after_alike later at (come {content = content} (gave v)) = later content
after_alike later at (come {content = content} halted) = owneds (at content) halted

own_alike : {N M : Type 0} (R : N → M → Type 0) (ask : Question N → Answer N) (other : Question M → Answer M)
    (supply : Wanted → ℕ → Place → Supplied N) (others : Wanted → ℕ → Place → Supplied M) (nested : ℕ → Call N → Outcome N)
    (among : ℕ → Call M → Outcome M)
    (room : ℕ) → Worlds R ask other → Provisions R supply others → Nestings R nested among
    → (p : Plan N) (q : Plan M) → Plans R p q → (g : Going N) (h : Going M) → Goings R g h
    → Owneds R (own ask supply nested room p g) (own other others among room q h)
own_alike R ask other supply others nested among room w s m _ _ related.ends g h k = owneds k finished
own_alike R ask other supply others nested among room w s m _ _ (yields e) g h k = owneds k (gave e)
own_alike R ask other supply others nested among room w s m _ _ stops g h k = owneds k halted
own_alike R ask other supply others nested among room w s m _ _ (inquires {q = q} {r = r} e next) g h k =
    own_alike R ask other supply others nested among room w s m _ _ (next (ask q) (other r) (w q r e)) _ _ (noted_alike k (asked e (w q r e)))
own_alike {N = N} {M = M} R ask other supply others nested among room w s m _ _ (uses {wanted = wanted} {depth = depth} {place = place} {k = k}
    {l = l} next) g h at =
    known_alike {f = λ x v. own ask supply nested room (k v) (noted (going.Saw wanted depth place x) g)}
    {k = λ y v. own other others among room (l v) (noted (going.Saw wanted depth place y) h)}
    {g = λ x. noted (going.Saw wanted depth place x) g} {h = λ y. noted (going.Saw wanted depth place y) h}
    (λ x y e. noted_alike at (saw e))
    (λ x y e a b same. own_alike R ask other supply others nested among room w s m _ _ (next a b same) _ _ (noted_alike at (saw e)))
    (s wanted depth place)
own_alike R ask other supply others nested among room w s m _ _ (puts {items = items} p) g h k =
    own_alike R ask other supply others nested among room w s m _ _ p _ _ (put_alike items k)
own_alike R ask other supply others nested among room w s m _ _ (begins p) g h k =
    own_alike R ask other supply others nested among room w s m _ _ p _ _ (begun_alike k)
own_alike R ask other supply others nested among room w s m _ _ (wraps {how = how} p) g h k =
    own_alike R ask other supply others nested among room w s m _ _ p _ _ (wrap_alike how k)
own_alike R ask other supply others nested among room w s m _ _ (takes {k = next} {l = also} p) g h k =
    subst (λ t. Owneds R (own ask supply nested room (next (taken g)) (aside g)) (own other others among room (also t) (aside h))) (taken_alike k)
    (own_alike R ask other supply others nested among room w s m _ _ (p (taken g)) _ _ (aside_alike k))
own_alike R ask other supply others nested among room w s m _ _ (deepens {depth = depth} p) g h k =
    either_own (nat_lt room depth) (owneds k halted) (own_alike R ask other supply others nested among room w s m _ _ p _ _ (deepened_alike depth k))
own_alike R ask other supply others nested among room w s m _ _ (enters {c = c} {d = d} {depth = depth} {p = p} {q = q} e next) g h k =
    after_alike {f = λ t. own ask supply nested room p (given t (opened c depth g))}
    {k = λ t. own other others among room q (given t (opened d depth h))}
    {g = λ t. given t (opened c depth g)} {h = λ t. given t (opened d depth h)}
    (λ t. own_alike R ask other supply others nested among room w s m _ _ next _ _ (opened_alike depth t e k)) (λ t. opened_alike depth t e k)
    (m depth c d e)

trace_alike : {N M : Type 0} {R : N → M → Type 0} {o : Owned N} {p : Owned M} → Owneds R o p → Each (Events R) o.going.trace p.going.trace
trace_alike (owneds (goings es) e) = es

-- ---- Globals

held_alike : {N M : Type 0} {R : N → M → Type 0} {o : Outcome N} {p : Outcome M} → Come R o p → Supplies R (held_by o) (held_by p)
held_alike (come finished) = both_know (valued fragment)
held_alike (come (gave h)) = both_know (valued h)
held_alike (come halted) = both_fail

either_supply : {N M : Type 0} {R : N → M → Type 0} (b : Bool) {s t : Supplied N} {u v : Supplied M} → Supplies R s u → Supplies R t v
    → Supplies R (cond b s t) (cond b u v)
either_supply true h g = h
either_supply false h g = g

refer_alike : {N M : Type 0} {R : N → M → Type 0} (name : Expanded) (place : Place) {bs : List (Bound N)} {ds : List (Bound M)}
    → Each (Bindings R) bs ds
    → (is_under : Bool) {s : Supplied N} {t : Supplied M} → Supplies R s t
    → Supplies R (refer name place bs is_under s) (refer name place ds is_under t)
refer_alike name place none is_under now = either_supply is_under both_fail now
refer_alike name place (more (bound {name = own} h) hs) is_under now =
    either_supply (same_name own name) (both_know (valued h)) (refer_alike name place hs is_under now)

element_alike : {N M : Type 0} {R : N → M → Type 0} (name : Expanded) {gs : List (NamedGlobal N)} {fs : List (NamedGlobal M)} → Each (Globals R) gs fs
    → Both R (element_named name gs) (element_named name fs)
element_alike name none = neither
element_alike name (more (global {name = own} h) hs) = either_both (same_name own name) (both h) (element_alike name hs)

going_into_alike : {N M : Type 0} {R : N → M → Type 0} (name : Expanded) {p : Past N} {q : Past M} → Pasts R p q
    → Pasts R (going_into name p) (going_into name q)
going_into_alike name (pasts h) = pasts h

-- a global's call at an element
global_alike : {N M : Type 0} {R : N → M → Type 0} {s : Setting N} {t : Setting M} → Settings R s t → {n : N} {m : M} → R n m → (place : Place)
    → Calls R (global_call s.root n place) (global_call t.root m place)
global_alike settings h place = calls (units_of h) settings.roots none

-- what follows is said of calls at these levels
module _ {N M : Type 0} {R : N → M → Type 0} {s : Setting N} {t : Setting M} (settings : Settings R s t) (levels : ℕ) where
  evaluated_alike : {p : Past N} {q : Past M} → Pasts R p q → (name : Expanded) (depth : ℕ) (place : Place) {n : Option N} {m : Option M} → Both R n m
      → Supplies R (evaluated s (meaning s levels) p name depth place n) (evaluated t (meaning t levels) q name depth place m)
  evaluated_alike past name depth place neither = both_know (valued text)
  evaluated_alike past name depth place (both h) =
      held_alike (meaning_alike settings levels _ _ (going_into_alike name past) depth _ _ (global_alike settings h place))

  referred_alike : {p : Past N} {q : Past M} → Pasts R p q → (name : Expanded) (depth : ℕ) (place : Place)
      → Supplies R (referred s (meaning s levels) p name depth place) (referred t (meaning t levels) q name depth place)
  referred_alike (pasts {under = under} h) name depth place =
      refer_alike name place h (list_any (same_name name) under) (evaluated_alike (pasts {under = under} h) name depth place
      (element_alike name settings.globals))

  supplied_alike : {c : Call N} {d : Call M} → Calls R c d → {p : Past N} {q : Past M} → Pasts R p q
      → Provisions R (supplied c (referred s (meaning s levels) p)) (supplied d (referred t (meaning t levels) q))
  supplied_alike (calls u n bs) past Position depth place = both_know counted
  supplied_alike (calls u n bs) past Size depth place = both_know counted
  supplied_alike (calls u n bs) past Rule depth place = both_know ruled
  supplied_alike (calls u n bs) past (Global name) depth place = referred_alike past name depth place

settled_alike : {N M : Type 0} {R : N → M → Type 0} {c e : Call N} {d f : Call M} → Calls R c d → Calls R e f → Calls R (settled c e) (settled d f)
settled_alike (calls t n bs) (calls u m ds) = calls u m ds

-- ---- What is entered

data Instantiations {N M : Type 0} (R : N → M → Type 0) : Instantiation N → Instantiation M → Type 0 where
  instantiation : {c : Call N} {d : Call M} {below : ℕ} {p : Past N} {q : Past M} → Calls R c d
      → Instantiations R (record { call = c; below = below; past = p }) (record { call = d; below = below; past = q })

along_alike : {N M : Type 0} {R : N → M → Type 0} {for_call : ℕ → Call N → List (Instantiation N)} {also : ℕ → Call M → List (Instantiation M)}
    {for_global : Expanded → ℕ → Place → List (Instantiation N)} {too : Expanded → ℕ → Place → List (Instantiation M)}
    → ((depth : ℕ) (c : Call N) (d : Call M) → Calls R c d → Each (Instantiations R) (for_call depth c) (also depth d))
    → ((name : Expanded) (depth : ℕ) (place : Place) → Each (Instantiations R) (for_global name depth place) (too name depth place))
    → {es : List (Event N)} {fs : List (Event M)} → Each (Events R) es fs
    → Each (Instantiations R) (entered_along for_call for_global es) (entered_along also too fs)
along_alike f g none = none
along_alike f g (more (asked q a) es) = along_alike f g es
along_alike f g (more (saw {w = Position} x) es) = along_alike f g es
along_alike f g (more (saw {w = Size} x) es) = along_alike f g es
along_alike f g (more (saw {w = Rule} x) es) = along_alike f g es
along_alike f g (more (saw {w = Global name} {depth = depth} {place = place} x) es) = each_append (g name depth place) (along_alike f g es)
along_alike f g (more (entered_both {c = c} {d = d} {depth = depth} e) es) = each_append (f depth c d e) (along_alike f g es)
along_alike f g (more held es) = along_alike f g es

either_list : {A B : Type 0} {S : A → B → Type 0} (b : Bool) {xs zs : List A} {ys ws : List B} → Each S xs ys → Each S zs ws
    → Each S (cond b xs zs) (cond b ys ws)
either_list true h g = h
either_list false h g = g

unless_alike : {N M : Type 0} {R : N → M → Type 0} (name : Expanded) {bs : List (Bound N)} {ds : List (Bound M)} → Each (Bindings R) bs ds
    → (is_under : Bool)
    → {is : List (Instantiation N)} {js : List (Instantiation M)} → Each (Instantiations R) is js
    → Each (Instantiations R) (unless_past name bs is_under is) (unless_past name ds is_under js)
unless_alike name none is_under k = either_list is_under none k
unless_alike name (more (bound {name = own} h) hs) is_under k = either_list (same_name own name) none (unless_alike name hs is_under k)

element_entered : {N M : Type 0} {R : N → M → Type 0} {f : N → List (Instantiation N)} {g : M → List (Instantiation M)}
    → ((n : N) (m : M) → R n m → Each (Instantiations R) (f n) (g m)) → {o : Option N} {p : Option M} → Both R o p
    → Each (Instantiations R) (for_element f o) (for_element g p)
element_entered k neither = none
element_entered k (both h) = k _ _ h

reference_alike : {N M : Type 0} {R : N → M → Type 0} {s : Setting N} {t : Setting M} → Settings R s t
    → {enters : Past N → ℕ → Call N → List (Instantiation N)} {also : Past M → ℕ → Call M → List (Instantiation M)}
    → ((p : Past N) (q : Past M) → Pasts R p q → (depth : ℕ) (c : Call N) (d : Call M) → Calls R c d
    → Each (Instantiations R) (enters p depth c) (also q depth d))
    → {p : Past N} {q : Past M} → Pasts R p q → (name : Expanded) (depth : ℕ) (place : Place)
    → Each (Instantiations R) (for_reference s enters p name depth place) (for_reference t also q name depth place)
reference_alike settings alike (pasts {under = under} h) name depth place =
    unless_alike name h (list_any (same_name name) under)
    (element_entered (λ n m e. alike _ _ (going_into_alike name (pasts {under = under} h)) depth _ _ (global_alike settings e place))
    (element_alike name settings.globals))

entered_alike : {N M : Type 0} {R : N → M → Type 0} {s : Setting N} {t : Setting M} → Settings R s t → (levels : ℕ)
    → (p : Past N) (q : Past M) → Pasts R p q → (depth : ℕ) (c : Call N) (d : Call M) → Calls R c d
    → Each (Instantiations R) (entered s levels p depth c) (entered t levels q depth d)
entered_alike settings zero p q past depth c d call = none
entered_alike {R = R} {s = s} {t = t} settings (suc room) p q past zero c d call =
    each_append
    (along_alike (λ depth e f inner. entered_alike settings room p q past depth (settled c e) (settled d f) (settled_alike call inner))
    (reference_alike settings (entered_alike settings room) past)
    (trace_alike (own_alike R s.ask t.ask _ _ _ _ room settings.worlds (supplied_alike settings room call past)
    (λ depth e f inner. meaning_alike settings room p q past depth (settled c e) (settled d f) (settled_alike call inner))
    _ _ (plan_of_alike s.same t.same settings.told call) at_start at_start (goings none))))
    (more (instantiation call) none)
entered_alike settings (suc room) p q past (suc depth) c d call = entered_alike settings room p q past depth c d call

-- ---- The run

value_alike : {N M : Type 0} {R : N → M → Type 0} {x : Given N} {y : Given M} → Givens R x y → Values R (value_of x) (value_of y)
value_alike counted = text
value_alike ruled = text
value_alike (valued h) = h

turn_alike : {N M : Type 0} {R : N → M → Type 0} {k : Given N → List (Instantiation N)} {l : Given M → List (Instantiation M)}
    → ((x : Given N) (y : Given M) → Givens R x y → Each (Instantiations R) (k x) (l y)) → {x : Supplied N} {y : Supplied M} → Supplies R x y
    → Each (Instantiations R) (after_turn k x) (after_turn l y)
turn_alike later (both_know e) = later _ _ e
turn_alike later both_fail = none

run_alike : {N M : Type 0} {R : N → M → Type 0} {s : Setting N} {t : Setting M} → Settings R s t → (levels : ℕ)
    → {gs : List (NamedGlobal N)} {fs : List (NamedGlobal M)} → Each (Globals R) gs fs → {bs : List (Bound N)} {ds : List (Bound M)}
    → Each (Bindings R) bs ds
    → {c : Call N} {d : Call M} → Calls R c d → Each (Instantiations R) (entered_by_run s levels gs bs c) (entered_by_run t levels fs ds d)
run_alike settings levels none values call = entered_alike settings levels _ _ (pasts values) 0 _ _ call
run_alike {s = s} {t = t} settings levels (more (global {name = name} {n = n} {m = m} h) hs) values call =
    let past = going_into_alike name (pasts {under = []} values) in
    each_append (entered_alike settings levels _ _ past 0 _ _ (global_alike settings h nowhere))
    (turn_alike (λ x y e. run_alike settings levels hs (each_append values (more (bound {name = name} (value_alike e)) none)) call)
    (held_alike (meaning_alike settings levels _ _ past 0 _ _ (global_alike settings h nowhere))))

instantiations_alike : {N M : Type 0} {R : N → M → Type 0} (s : Setting N) (t : Setting M) → Settings R s t
    → Each (Instantiations R) (instantiations s) (instantiations t)
instantiations_alike s t settings =
    run_alike settings levels_of_a_run settings.globals none (rule_call_alike nowhere None none refl settings.roots 1
    (settings.worlds _ _ (choices settings.roots)))

-- ---- In the words of the laws

each_wider : {A B : Type 0} {S T : A → B → Type 0} → ((x : A) (y : B) → S x y → T x y) → {xs : List A} {ys : List B} → Each S xs ys → Each T xs ys
each_wider f none = none
each_wider f (more h hs) = more (f _ _ h) (each_wider f hs)

global_of : {N M : Type 0} {R : N → M → Type 0} (g : NamedGlobal N) (f : NamedGlobal M) → GlobalsAlike R g f → Globals R g f
global_of {R = R} g f e =
    let G : Expanded → Type 0 = λ name. Globals R g (record { name = name; element = f.element }) in
    subst G e.0 (global {name = g.name} {n = g.element} {m = f.element} e.1)

enter_alike : {N M : Type 0} {R : N → M → Type 0} (i : Instantiation N) (j : Instantiation M) → Instantiations R i j → EnterAlike R i j
enter_alike _ _ (instantiation (calls (units_of e) n bs)) =
    record { target = e; node = n; parameters = bs; position = refl; size = refl; ruling = refl; below = refl }
enter_alike _ _ (instantiation (calls built_in_both n bs)) =
    record { target = refl; node = n; parameters = bs; position = refl; size = refl; ruling = refl; below = refl }

settings_of : {N M : Type 0} {R : N → M → Type 0} {s : Setting N} {t : Setting M} → SettingsAlike R s t → Settings R s t
settings_of a = record { worlds = a.worlds; told = a.told; roots = a.roots; globals = each_wider global_of a.globals }

pub runs_enter_alike : {N M : Type 0} (R : N → M → Type 0) (s : Setting N) (t : Setting M) → SettingsAlike R s t
    → Each (EnterAlike R) (instantiations s) (instantiations t)
runs_enter_alike R s t a = each_wider enter_alike (instantiations_alike s t (settings_of a))

-- ---- Nodes of one world

globals_each : {N : Type 0} (P : N → Type 0) (gs : List (NamedGlobal N)) → ((g : NamedGlobal N) → IsIn g gs → P g.element)
    → Each (GlobalsAlike (IsOneOf P)) gs gs
globals_each P [] f = none
globals_each P (g ∷ gs) f = more (refl, (refl, f g (inl refl))) (globals_each P gs (λ h k. f h (inr k)))

abbrev AreOneOf : {N : Type 0} → (N → Type 0) → Instantiation N → Type 0
AreOneOf P i = IsOneOfTarget P i.call.target × P i.call.node

one_of : {N : Type 0} {P : N → Type 0} (i j : Instantiation N) → EnterAlike (IsOneOf P) i j → AreOneOf P i
one_of {N = N} {P = P} i j e = (go i.call.target j.call.target e.target, e.node.1)
  where
    go : (t u : Target N) → TargetsAlike (IsOneOf P) t u → IsOneOfTarget P t
    go (UnitOf n) (UnitOf m) h = h.1
    go (UnitOf n) (BuiltIn mode) h = absurd h
    go (BuiltIn mode) u h = tt

in_each : {A : Type 0} {S : A → A → Type 0} {P : A → Type 0} → ((x y : A) → S x y → P x) → {xs ys : List A} → Each S xs ys → (x : A) → IsIn x xs → P x
in_each f none x h = absurd h
in_each {P = P} f (more {x = y} e es) x (inl h) = subst P (sym h) (f _ _ e)
in_each f (more e es) x (inr h) = in_each f es x h

pub run_enters_only : {N : Type 0} (P : N → Type 0) (s : Setting N) → NamesOnly P s → (i : Instantiation N) → IsIn i (instantiations s) → AreOneOf P i
run_enters_only P s a =
    in_each one_of (runs_enter_alike (IsOneOf P) s s (record {
      worlds = a.world;
      told = λ n o m p h k. λ i. s.same (h.0 i) (k.0 i);
      roots = (refl, a.root);
      globals = globals_each P s.globals a.globals;
    }))
