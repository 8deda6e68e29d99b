-- What calls mean, and whole runs, never look at the name of a node.
use Rattle.std.proofs.Common.{◌≡◌, ℕ, zero, suc, List, [], ◌∷◌, ◌++◌, Bool, true, false, cond, Option, None, Some, refl}
use Rattle.std.specs.Prelude.{nat_lt}
use Rattle.std.specs.List.{list_any}
use Rattle.spec_document.specs.Name.{Expanded, same_name}
use Rattle.spec_stylesheet.specs.Place.{Place}
use Rattle.spec_meaning.specs.Stream as stream
use Rattle.spec_meaning.specs.Stream.{Stream, followed, filled}
use Rattle.spec_meaning.specs.Question.{Question, Answer}
use Rattle.spec_meaning.specs.Program.{Wanted, Position, Size, Rule, Global, Given}
use Rattle.spec_meaning.specs.Context.{Bound}
use Rattle.spec_meaning.specs.Related.{Each, none, more, Both, neither, both, choices, Values, text, fragment, Givens, counted, ruled, valued, Bindings, bound, Worlds}
use Rattle.spec_meaning.proofs.Matching.{each_append}
use Rattle.spec_result.specs.Recovery.{messages_of}
use Rattle.spec_run.specs.Plan.{Call, Plan, wrapped, aside_of, nowhere}
use Rattle.spec_run.specs.Direct.{quiet, Supplied, Outcome, top_after, outer_after, if_known, unless_refused, direct}
use Rattle.spec_run.specs.Meaning.{NamedGlobal, Setting, Past, going_into, held_by, element_named, refer, evaluated, referred, supplied, settled}
use Rattle.spec_run.specs.Meaning.{meaning, Whole, refusal_of, after_turn, value_of, run, levels_of_a_run, run_of}
use Rattle.spec_run.proofs.Related.{units_of, Calls, calls, Plans, yields, stops, inquires, uses, puts, begins, wraps, takes, deepens, enters}
use Rattle.spec_run.proofs.Related as related
use Rattle.spec_run.proofs.Related.{Supplies, both_know, both_fail, Endings, finished, gave, halted, Come, come, Globals, global, Pasts, pasts}
use Rattle.spec_run.proofs.Chosen.{TellAlike}
use Rattle.spec_run.proofs.Alike.{either_both, plan_of_alike, rule_call_alike}

-- ---- one instantiation
if_known_alike : {N M : Type 0} {R : N → M → Type 0} {f : Given N → Outcome N} {g : Given M → Outcome M}
    → ((x : Given N) (y : Given M) → Givens R x y → Come R (f x) (g y)) → (top : Stream) (outer : List Stream) {s : Supplied N} {t : Supplied M} → Supplies R s t
    → Come R (if_known f top outer s) (if_known g top outer t)
if_known_alike later top outer (both_know e) = later _ _ e
if_known_alike later top outer both_fail = come halted

either_come : {N M : Type 0} {R : N → M → Type 0} (b : Bool) {o p : Outcome N} {q r : Outcome M} → Come R o q → Come R p r → Come R (cond b o p) (cond b q r)
either_come true h g = h
either_come false h g = g

-- after what is entered
entered_alike : {N M : Type 0} {R : N → M → Type 0} {f : Stream → Outcome N} {g : Stream → Outcome M} → ((s : Stream) → Come R (f s) (g s))
    → (top : Stream) (outer : List Stream) {o : Outcome N} {p : Outcome M} → Come R o p
    → Come R (unless_refused (f (followed top o.content)) (followed top o.content) outer o.ending)
    (unless_refused (g (followed top p.content)) (followed top p.content) outer p.ending)
entered_alike later top outer (come {content = content} finished) = later (followed top content)
entered_alike later top outer (come {content = content} (gave h)) = later (followed top content)
entered_alike later top outer (come halted) = come halted

-- what the runs give, and what calls mean
abbrev pub Provisions : {N M : Type 0} → (N → M → Type 0) → (Wanted → ℕ → Place → Supplied N) → (Wanted → ℕ → Place → Supplied M) → Type 0
Provisions R supply others = (wanted : Wanted) (depth : ℕ) (place : Place) → Supplies R (supply wanted depth place) (others wanted depth place)

abbrev pub Nestings : {N M : Type 0} → (N → M → Type 0) → (ℕ → Call N → Outcome N) → (ℕ → Call M → Outcome M) → Type 0
Nestings {N = N} {M = M} R nested among = (depth : ℕ) (c : Call N) (d : Call M) → Calls R c d → Come R (nested depth c) (among depth d)

pub direct_alike : {N M : Type 0} (R : N → M → Type 0) (ask : Question N → Answer N) (other : Question M → Answer M)
    (supply : Wanted → ℕ → Place → Supplied N) (others : Wanted → ℕ → Place → Supplied M) (nested : ℕ → Call N → Outcome N) (among : ℕ → Call M → Outcome M)
    (room : ℕ) → Worlds R ask other → Provisions R supply others → Nestings R nested among
    → (p : Plan N) (q : Plan M) → Plans R p q → (top : Stream) (outer : List Stream)
    → Come R (direct ask supply nested room p top outer) (direct other others among room q top outer)
direct_alike R ask other supply others nested among room w s m _ _ related.ends top outer = come finished
direct_alike R ask other supply others nested among room w s m _ _ (yields h) top outer = come (gave h)
direct_alike R ask other supply others nested among room w s m _ _ stops top outer = come halted
direct_alike R ask other supply others nested among room w s m _ _ (inquires {q = q} {r = r} h next) top outer =
    direct_alike R ask other supply others nested among room w s m _ _ (next (ask q) (other r) (w q r h)) top outer
direct_alike R ask other supply others nested among room w s m _ _ (uses {wanted = wanted} {depth = depth} {place = place} next) top outer =
    if_known_alike (λ x y e. direct_alike R ask other supply others nested among room w s m _ _ (next x y e) top outer) top outer (s wanted depth place)
direct_alike R ask other supply others nested among room w s m _ _ (puts {items = items} h) top outer =
    direct_alike R ask other supply others nested among room w s m _ _ h (followed top (filled items [])) outer
direct_alike R ask other supply others nested among room w s m _ _ (begins h) top outer =
    direct_alike R ask other supply others nested among room w s m _ _ h stream.Ended (top ∷ outer)
direct_alike R ask other supply others nested among room w s m _ _ (wraps {how = how} h) top outer =
    direct_alike R ask other supply others nested among room w s m _ _ h (top_after (wrapped how top) top outer) (outer_after outer)
direct_alike R ask other supply others nested among room w s m _ _ (takes next) top outer =
    direct_alike R ask other supply others nested among room w s m _ _ (next (quiet top)) (top_after (aside_of top) top outer) (outer_after outer)
direct_alike R ask other supply others nested among room w s m _ _ (deepens {depth = depth} h) top outer =
    either_come (nat_lt room depth) (come halted) (direct_alike R ask other supply others nested among room w s m _ _ h top outer)
direct_alike R ask other supply others nested among room w s m _ _ (enters {c = c} {d = d} {depth = depth} e h) top outer =
    entered_alike (λ t. direct_alike R ask other supply others nested among room w s m _ _ h t outer) top outer (m depth c d e)

-- ---- globals
held_alike : {N M : Type 0} {R : N → M → Type 0} {o : Outcome N} {p : Outcome M} → Come R o p → Supplies R (held_by o) (held_by p)
held_alike (come finished) = both_know (valued fragment)
held_alike (come (gave h)) = both_know (valued h)
held_alike (come halted) = both_fail

either_supply : {N M : Type 0} {R : N → M → Type 0} (b : Bool) {s t : Supplied N} {u v : Supplied M} → Supplies R s u → Supplies R t v
    → Supplies R (cond b s t) (cond b u v)
either_supply true h g = h
either_supply false h g = g

refer_alike : {N M : Type 0} {R : N → M → Type 0} (name : Expanded) (place : Place) {bs : List (Bound N)} {ds : List (Bound M)} → Each (Bindings R) bs ds
    → (is_under : Bool) {s : Supplied N} {t : Supplied M} → Supplies R s t → Supplies R (refer name place bs is_under s) (refer name place ds is_under t)
refer_alike name place none is_under now = either_supply is_under both_fail now
refer_alike name place (more (bound {name = own} h) hs) is_under now =
    either_supply (same_name own name) (both_know (valued h)) (refer_alike name place hs is_under now)

element_alike : {N M : Type 0} {R : N → M → Type 0} (name : Expanded) {gs : List (NamedGlobal N)} {fs : List (NamedGlobal M)} → Each (Globals R) gs fs
    → Both R (element_named name gs) (element_named name fs)
element_alike name none = neither
element_alike name (more (global {name = own} h) hs) = either_both (same_name own name) (both h) (element_alike name hs)

going_into_alike : {N M : Type 0} {R : N → M → Type 0} (name : Expanded) {p : Past N} {q : Past M} → Pasts R p q → Pasts R (going_into name p) (going_into name q)
going_into_alike name (pasts h) = pasts h

-- what calls mean in two settings
abbrev Means : {N M : Type 0} → (N → M → Type 0) → (Past N → ℕ → Call N → Outcome N) → (Past M → ℕ → Call M → Outcome M) → Type 0
Means {N = N} {M = M} R means also =
    (p : Past N) (q : Past M) → Pasts R p q → (depth : ℕ) (c : Call N) (d : Call M) → Calls R c d → Come R (means p depth c) (also q depth d)

-- settings whose worlds answer related questions alike and tell names apart alike, with related roots and globals
pub record Settings {N M : Type 0} (R : N → M → Type 0) (s : Setting N) (t : Setting M) : Type 0 where
  pub worlds : Worlds R s.ask t.ask
  pub told : TellAlike R s.same t.same
  pub roots : R s.root t.root
  pub globals : Each (Globals R) s.globals t.globals

evaluated_alike : {N M : Type 0} {R : N → M → Type 0} {s : Setting N} {t : Setting M} → Settings R s t
    → {means : Past N → ℕ → Call N → Outcome N} {also : Past M → ℕ → Call M → Outcome M} → Means R means also
    → {p : Past N} {q : Past M} → Pasts R p q → (name : Expanded) (depth : ℕ) (place : Place) {n : Option N} {m : Option M} → Both R n m
    → Supplies R (evaluated s means p name depth place n) (evaluated t also q name depth place m)
evaluated_alike settings alike past name depth place neither = both_know (valued text)
evaluated_alike settings alike past name depth place (both h) =
    held_alike (alike _ _ (going_into_alike name past) depth _ _ (calls (units_of h) settings.roots none))

referred_alike : {N M : Type 0} {R : N → M → Type 0} {s : Setting N} {t : Setting M} → Settings R s t
    → {means : Past N → ℕ → Call N → Outcome N} {also : Past M → ℕ → Call M → Outcome M} → Means R means also
    → {p : Past N} {q : Past M} → Pasts R p q → (name : Expanded) (depth : ℕ) (place : Place)
    → Supplies R (referred s means p name depth place) (referred t also q name depth place)
referred_alike settings alike (pasts {under = under} h) name depth place =
    refer_alike name place h (list_any (same_name name) under) (evaluated_alike settings alike (pasts {under = under} h) name depth place (element_alike name settings.globals))

supplied_alike : {N M : Type 0} {R : N → M → Type 0} {c : Call N} {d : Call M} → Calls R c d
    → {globals : Expanded → ℕ → Place → Supplied N} {also : Expanded → ℕ → Place → Supplied M}
    → ((name : Expanded) (depth : ℕ) (place : Place) → Supplies R (globals name depth place) (also name depth place))
    → Provisions R (supplied c globals) (supplied d also)
supplied_alike (calls t n bs) alike Position depth place = both_know counted
supplied_alike (calls t n bs) alike Size depth place = both_know counted
supplied_alike (calls t n bs) alike Rule depth place = both_know ruled
supplied_alike (calls t n bs) alike (Global name) depth place = alike name depth place

-- ---- calls
settled_alike : {N M : Type 0} {R : N → M → Type 0} {c e : Call N} {d f : Call M} → Calls R c d → Calls R e f → Calls R (settled c e) (settled d f)
settled_alike (calls t n bs) (calls u m ds) = calls u m ds

-- a call means the same
pub meaning_alike : {N M : Type 0} {R : N → M → Type 0} {s : Setting N} {t : Setting M} → Settings R s t → (levels : ℕ)
    → Means R (meaning s levels) (meaning t levels)
meaning_alike settings zero p q past depth _ _ (calls t n bs) = come halted
meaning_alike {s = s} {t = t} settings (suc room) p q past zero c d call =
    direct_alike _ s.ask t.ask _ _ _ _ room settings.worlds
    (supplied_alike call (referred_alike settings (meaning_alike settings room) past))
    (λ depth e f inner. meaning_alike settings room p q past depth (settled c e) (settled d f) (settled_alike call inner))
    _ _ (plan_of_alike s.same t.same settings.told call) stream.Ended []
meaning_alike settings (suc room) p q past (suc depth) c d call = meaning_alike settings room p q past depth c d call

-- ---- the run
value_alike : {N M : Type 0} {R : N → M → Type 0} {x : Given N} {y : Given M} → Givens R x y → Values R (value_of x) (value_of y)
value_alike counted = text
value_alike ruled = text
value_alike (valued h) = h

-- the turn of a global, after what its content means
turn_alike : {N M : Type 0} {R : N → M → Type 0} {k : List (List ℕ) → Given N → Whole} {l : List (List ℕ) → Given M → Whole}
    → ((told : List (List ℕ)) (x : Given N) (y : Given M) → Givens R x y → k told x ≡ l told y) → (told : List (List ℕ)) {o : Outcome N} {p : Outcome M} → Come R o p
    → after_turn (k (told ++ messages_of o.content)) (told ++ messages_of o.content) (held_by o)
    ≡ after_turn (l (told ++ messages_of p.content)) (told ++ messages_of p.content) (held_by p)
turn_alike later told (come {content = content} finished) = later (told ++ messages_of content) _ _ (valued fragment)
turn_alike later told (come {content = content} (gave h)) = later (told ++ messages_of content) _ _ (valued h)
turn_alike later told (come halted) = refl

-- the call after the globals
abbrev last_of : {N : Type 0} → List (List ℕ) → Outcome N → Whole
last_of told o = record { content = o.content; messages = told ++ messages_of o.content; refusal = refusal_of o.ending }

last_alike : {N M : Type 0} {R : N → M → Type 0} (told : List (List ℕ)) {o : Outcome N} {p : Outcome M} → Come R o p → last_of told o ≡ last_of told p
last_alike told (come finished) = refl
last_alike told (come (gave h)) = refl
last_alike told (come halted) = refl

run_alike : {N M : Type 0} {R : N → M → Type 0} {s : Setting N} {t : Setting M} → Settings R s t → (levels : ℕ)
    → {gs : List (NamedGlobal N)} {fs : List (NamedGlobal M)} → Each (Globals R) gs fs → {bs : List (Bound N)} {ds : List (Bound M)} → Each (Bindings R) bs ds
    → (told : List (List ℕ)) {c : Call N} {d : Call M} → Calls R c d → run s levels gs bs told c ≡ run t levels fs ds told d
run_alike settings levels none values told call = last_alike told (meaning_alike settings levels _ _ (pasts values) 0 _ _ call)
run_alike {s = s} {t = t} settings levels (more {xs = gs} {ys = fs} (global {name = name} {n = n} {m = m} h) hs) {bs = bs} {ds = ds} values told {c = c} {d = d} call =
    turn_alike (λ told x y e. run_alike settings levels hs (each_append values (more (bound {name = name} (value_alike e)) none)) told call) told
    (meaning_alike settings levels _ _ (going_into_alike name (pasts {under = []} values)) 0 _ _
    (calls {position = Some 1} {size = Some 1} {by = nowhere} (units_of h) settings.roots none))

-- runs in such settings come to the same
pub same_run : {N M : Type 0} {R : N → M → Type 0} (s : Setting N) (t : Setting M) → Settings R s t → run_of s ≡ run_of t
same_run s t settings =
    run_alike settings levels_of_a_run settings.globals none []
    (rule_call_alike nowhere None none refl settings.roots 1 (settings.worlds _ _ (choices settings.roots)))
