-- Where the nodes of a source and the elements of a stylesheet are named in two ways, all questions are answered alike.
use Rattle.std.proofs.Common.{◌≡◌, ℕ, zero, suc, List, [], ◌∷◌, map, filter, Bool, true, false, cond, Option, None, Some, refl, sym, ap, subst, ◌∙◌}
use Rattle.std.specs.Prelude.{◌||◌, slice_get}
use Rattle.std.specs.List.{list_any, find, flat_map}
use Rattle.std.specs.Option.{ForSome}
use Rattle.spec_document.specs.Name.{Expanded}
use Rattle.spec_document.specs.Order.{Entry}
use Rattle.spec_stylesheet.specs.Place.{Place}
use Rattle.spec_stylesheet.specs.Sheet.{Unit as Piece, Declared, Sheet, Rule}
use Rattle.spec_meaning.specs.Stream.{Stream}
use Rattle.spec_meaning.specs.Question as question
use Rattle.spec_meaning.specs.Question.{Answer, ChosenRule, NamedTemplate, NamedSets, ResolvedUnit, Candidates}
use Rattle.spec_meaning.specs.Program as program
use Rattle.spec_meaning.specs.Program.{Said, Gives, Refuses, Lacks, Position, Size, Global, outcome_of}
use Rattle.spec_meaning.specs.Truth.{answer_by, entry_named, told_of}
use Rattle.spec_meaning.specs.Related.{Each, none, more, Both, both, neither, counted, ruled, SuppliesAlike, Templates, template, Sets, sets, Units, resolved, Rules, rule, steps, texts, names, places, orders, keys}
use Rattle.spec_meaning.specs.Related.{choices, copies, units, externals, Answers, gone, refused, some_nodes, some_text, named, chosen, copied, some_unit, passed}
use Rattle.spec_meaning.specs.Related.{Outcomes, both_give, both_refuse, both_lack, Worlds}
use Rattle.spec_meaning.specs.Naming.{Beside, first, later, Names, Alike, AllDiffer, AreApart}
use Rattle.spec_meaning.proofs.Matching.{Same, each_append, matching}
use Rattle.spec_meaning.proofs.Named.{worlds}
use Rattle.spec_transform.specs.Choice as choice
use Rattle.spec_transform.specs.Choice.{context_for}
use Rattle.spec_transform.specs.Key.{no_globals, keys_named}
use Rattle.spec_run.specs.World.{last_element, template_by, templates_called, is_template, called_in_unit, is_set, sets_used, used_in_unit, unit_by, unit_at, keyed_at, chosen_in}
use Rattle.spec_run.specs.World.{chosen_by, rule_by, rule_at, is_global, global_in, global_by, globals_of, source_by, truth_by}
use Rattle.spec_run.specs.Documents.{Parameters}
use Rattle.spec_run.proofs.Related.{Globals, global}
use Rattle.spec_run.proofs.Meanings.{Settings}
use Rattle.spec_run.proofs.Copies.{CopiedAlike}
use Rattle.spec_run.proofs.Chosen.{TellAlike, chosen_match}
use Rattle.spec_run.proofs.Keyed.{Entries, indexed_match, keyed_match}

-- ---- entries told by their keys
beside_alike : {L M : Type 0} {S : Entry L → Entry M → Type 0} {es : List (Entry L)} {fs : List (Entry M)} {e : Entry L} {f : Entry M} → Each S es fs
    → Beside es fs e f → S e f
beside_alike none b = elim b [ ]
beside_alike (more h hs) first = h
beside_alike (more h hs) (later b) = beside_alike hs b

turned : {A B : Type 0} {xs : List A} {ys : List B} {x : A} {y : B} → Beside xs ys x y → Beside ys xs y x
turned first = first
turned (later b) = later (turned b)

differs : {A B K : Type 0} (key : A → K) (same : K → K → Bool) (x : A) {xs : List A} {ys : List B} {d : A} {g : B}
    → AllDiffer key same x xs → Beside xs ys d g → (same (key x) (key d) ≡ false) × (same (key d) (key x) ≡ false)
differs key same x h first = (h.0, h.1)
differs key same x h (later b) = differs key same x h.2 b

found : {A B K : Type 0} (key : A → K) (same : K → K → Bool) {xs : List A} {ys : List B} {d : A} {g : B} → AreApart key same xs → Beside xs ys d g
    → find (λ x. same (key d) (key x)) xs ≡ Some d
found key same h (first {x = x} {xs = xs}) = ap (λ b. cond b (Some x) (find (λ z. same (key x) (key z)) xs)) h.0
found key same h (later {x = x} {z = z} {xs = xs} b) =
    ap (λ t. cond t (Some z) (find (λ y. same (key x) (key y)) xs)) (differs key same z h.1 b).1 ∙ found key same h.2 b

told_alike : {A B K J : Type 0} (key : A → K) (same : K → K → Bool) (also : B → J) (like : J → J → Bool) {xs : List A} {ys : List B} {e d : A} {f g : B}
    → AreApart key same xs → AreApart also like ys → Beside xs ys e f → Beside xs ys d g → same (key e) (key d) ≡ like (also f) (also g)
told_alike key same also like h k first first = h.0 ∙ sym k.0
told_alike key same also like h k (first {x = x} {y = y}) (later b) = (differs key same x h.1 b).0 ∙ sym (differs also like y k.1 (turned b)).0
told_alike key same also like h k (later b) (first {x = x} {y = y}) = (differs key same x h.1 b).1 ∙ sym (differs also like y k.1 (turned b)).1
told_alike key same also like h k (later a) (later b) = told_alike key same also like h.2 k.2 a b

-- what holds of the keys of entries that stand beside one another holds of all that name one node
at_names : {L M K J : Type 0} (key : Entry L → K) (also : Entry M → J) {es : List (Entry L)} {fs : List (Entry M)} (P : K → J → Type 0)
    → ((e : Entry L) (f : Entry M) → Beside es fs e f → P (key e) (also f)) → {k : K} {j : J} → Names key also es fs k j → P k j
at_names key also P h {j = j} n = subst (λ x. P x j) n.named (subst (λ y. P (key n.entry) y) n.also_named (h n.entry n.other n.beside))

-- ---- elements of units
pub data OfUnit : List Piece → Place → Type 0 where
  this : {u : Piece} {us : List Piece} → OfUnit (u ∷ us) u.site.place
  that : {u : Piece} {us : List Piece} {p : Place} → OfUnit us p → OfUnit (u ∷ us) p

of_index : (us : List Piece) (k : ℕ) (u : Piece) → slice_get us k ≡ Some u → OfUnit us u.site.place
of_index [] k u e = absurd (cc)
of_index (x ∷ us) zero u e = let is : x ≡ u = cc in subst (λ (y : Piece). OfUnit (x ∷ us) y.site.place) is this
of_index (x ∷ us) (suc k) u e = that (of_index us k u e)

-- the names of elements are none of these keys
abbrev pub AreStrangers : {A K : Type 0} → (A → K) → (K → K → Bool) → (Place → K) → List Piece → List A → Type 0
AreStrangers key same naming us [] = Unit {0}
AreStrangers key same naming us (x ∷ xs) =
    ((p : Place) → OfUnit us p → (same (naming p) (key x) ≡ false) × (same (key x) (naming p) ≡ false)) × AreStrangers key same naming us xs

stranger : {A B K : Type 0} (key : A → K) (same : K → K → Bool) (naming : Place → K) (us : List Piece) {xs : List A} {ys : List B} {x : A} {y : B}
    → AreStrangers key same naming us xs → Beside xs ys x y → (p : Place) → OfUnit us p
    → (same (naming p) (key x) ≡ false) × (same (key x) (naming p) ≡ false)
stranger key same naming us h first = h.0
stranger key same naming us h (later b) = stranger key same naming us h.1 b

not_listed : {A K : Type 0} (key : A → K) (same : K → K → Bool) (naming : Place → K) (us : List Piece) (xs : List A) → AreStrangers key same naming us xs
    → (p : Place) → OfUnit us p → find (λ x. same (naming p) (key x)) xs ≡ None
not_listed key same naming us [] h p k = refl
not_listed key same naming us (x ∷ xs) h p k =
    ap (λ b. cond b (Some x) (find (λ y. same (naming p) (key y)) xs)) (h.0 p k).0 ∙ not_listed key same naming us xs h.1 p k

no_unit : (test : Place → Bool) (us : List Piece) → ((p : Place) → OfUnit us p → test p ≡ false) → find (λ u. test u.site.place) us ≡ None
no_unit test [] h = refl
no_unit test (u ∷ us) h = ap (λ b. cond b (Some u) (find (λ v. test v.site.place) us)) (h _ this) ∙ no_unit test us (λ p k. h p (that k))

same_unit : (test other : Place → Bool) (us : List Piece) → ((p : Place) → OfUnit us p → test p ≡ other p)
    → find (λ u. test u.site.place) us ≡ find (λ u. other u.site.place) us
same_unit test other [] h = refl
same_unit test other (u ∷ us) h = λ i. cond (h _ this i) (Some u) (same_unit test other us (λ p k. h p (that k)) i)

last_of_unit : (all : List Piece) (test : Declared → Bool) (sofar : Option Place) (us : List Piece) → ((p : Place) → OfUnit us p → OfUnit all p)
    → ForSome sofar (OfUnit all) → ForSome (last_element test sofar us) (OfUnit all)
last_of_unit all test sofar [] h k = k
last_of_unit all test sofar (u ∷ us) h k =
    last_of_unit all test (cond (test u.declared) (Some u.site.place) sofar) us (λ p e. h p (that e)) (either (test u.declared))
  where
    either : (b : Bool) → ForSome (cond b (Some u.site.place) sofar) (OfUnit all)
    either true p e = let is : u.site.place ≡ p = cc in subst (OfUnit all) is (h _ this)
    either false p e = k p e

-- ---- answers of a wider relation
each_wider : {A B : Type 0} {R S : A → B → Type 0} → ((a : A) (b : B) → R a b → S a b) → {xs : List A} {ys : List B} → Each R xs ys → Each S xs ys
each_wider w none = none
each_wider w (more h hs) = more (w _ _ h) (each_wider w hs)

templates_wider : {N M : Type 0} {R S : N → M → Type 0} → ((n : N) (m : M) → R n m → S n m) → (t : NamedTemplate N) (u : NamedTemplate M) → Templates R t u
    → Templates S t u
templates_wider w _ _ (template h) = template (w _ _ h)

sets_wider : {N M : Type 0} {R S : N → M → Type 0} → ((n : N) (m : M) → R n m → S n m) → (t : NamedSets N) (u : NamedSets M) → Sets R t u → Sets S t u
sets_wider w _ _ (sets h) = sets (each_wider w h)

units_wider : {N M : Type 0} {R S : N → M → Type 0} → ((n : N) (m : M) → R n m → S n m) → {u : ResolvedUnit N} {v : ResolvedUnit M} → Units R u v → Units S u v
units_wider w (resolved ts ss) = resolved (each_wider (templates_wider w) ts) (each_wider (sets_wider w) ss)

rules_wider : {N M : Type 0} {R S : N → M → Type 0} → ((n : N) (m : M) → R n m → S n m) → (r : ChosenRule N) (s : ChosenRule M) → Rules R r s → Rules S r s
rules_wider w _ _ (rule h) = rule (w _ _ h)

both_wider : {A B : Type 0} {R S : A → B → Type 0} → ((a : A) (b : B) → R a b → S a b) → {x : Option A} {y : Option B} → Both R x y → Both S x y
both_wider w neither = neither
both_wider w (both h) = both (w _ _ h)

answers_wider : {N M : Type 0} {R S : N → M → Type 0} → ((n : N) (m : M) → R n m → S n m) → {x : Answer N} {y : Answer M} → Answers R x y → Answers S x y
answers_wider w gone = gone
answers_wider w refused = refused
answers_wider w (some_nodes h) = some_nodes (each_wider w h)
answers_wider w some_text = some_text
answers_wider w named = named
answers_wider w (chosen h) = chosen (both_wider (rules_wider w) h)
answers_wider w copied = copied
answers_wider w (some_unit h) = some_unit (units_wider w h)
answers_wider w passed = passed

-- ---- two namings
-- the names of one node of the source, or of the element of one unit
pub data Called {L M K J : Type 0} (key : Entry L → K) (also : Entry M → J) (naming : Place → K) (calling : Place → J) (us : List Piece) (es : List (Entry L))
    (fs : List (Entry M)) : K → J → Type 0 where
  in_source : {k : K} {j : J} → Names key also es fs k j → Called key also naming calling us es fs k j
  in_module : {p : Place} → OfUnit us p → Called key also naming calling us es fs (naming p) (calling p)

same_said : {A : Type 0} {o p : Said A} → Outcomes Same o p → o ≡ p
same_said (both_give h) = ap (λ x. Gives x) h
same_said both_refuse = refl
same_said both_lack = refl

supplied_alike : {K J : Type 0} {R : K → J → Type 0} → SuppliesAlike R (no_globals {N = K}) (no_globals {N = J})
supplied_alike Position = both counted
supplied_alike Size = both counted
supplied_alike program.Rule = both ruled
supplied_alike (Global name) = neither

module _ {L M K J : Type 0} (key : Entry L → K) (same : K → K → Bool) (naming : Place → K) (also : Entry M → J) (like : J → J → Bool) (calling : Place → J)
    (s : Sheet) (parameters : Parameters) (es : List (Entry L)) (fs : List (Entry M))
    (alike : Each Alike es fs) (copied_alike : Each CopiedAlike es fs)
    (apart : AreApart key same es) (apart_too : AreApart also like fs)
    (strangers : AreStrangers key same naming s.units es) (strangers_too : AreStrangers also like calling s.units fs)
    (told : (p q : Place) → OfUnit s.units p → OfUnit s.units q → same (naming p) (naming q) ≡ like (calling p) (calling q)) where
  abbrev OneNode : K → J → Type 0
  OneNode = Names key also es fs

  abbrev One : K → J → Type 0
  One = Called key also naming calling s.units es fs

  -- ---- nodes in document order
  picked_one : (b : Bool) (x : Entry L) (y : Entry M) (xs : List (Entry L)) (ys : List (Entry M)) → Beside es fs x y → Each One (map key xs) (map also ys)
      → Each One (map key (cond b (x ∷ xs) xs)) (map also (cond b (y ∷ ys) ys))
  picked_one true x y xs ys b h = more (in_source (record { entry = x; other = y; beside = b; named = refl; also_named = refl })) h
  picked_one false x y xs ys b h = h

  each_picked : (p : Entry L → Bool) (q : Entry M → Bool) {xs : List (Entry L)} {ys : List (Entry M)} → Each Alike xs ys
      → ((x : Entry L) (y : Entry M) → Beside xs ys x y → Beside es fs x y) → ((x : Entry L) (y : Entry M) → Beside xs ys x y → p x ≡ q y)
      → Each One (map key (filter p xs)) (map also (filter q ys))
  each_picked p q none there equal = none
  each_picked p q (more {x = x} {y = y} {xs = xs} {ys = ys} h hs) there equal =
      rw (equal x y first) (picked_one (q y) x y (filter p xs) (filter q ys) (there x y first)
      (each_picked p q hs (λ d g b. there d g (later b)) (λ d g b. equal d g (later b))))

  tells : {k : K} {j : J} → One k j → (d : Entry L) (g : Entry M) → Beside es fs d g → same k (key d) ≡ like j (also g)
  tells (in_source n) d g b = at_names key also (λ x y. same x (key d) ≡ like y (also g)) (λ e f a. told_alike key same also like apart apart_too a b) n
  tells (in_module {p = p} h) d g b =
      (stranger key same naming s.units strangers b p h).0 ∙ sym (stranger also like calling s.units strangers_too (turned b) p h).0

  any_alike : {ns : List K} {ms : List J} → Each One ns ms → (d : Entry L) (g : Entry M) → Beside es fs d g
      → list_any (λ k. same k (key d)) ns ≡ list_any (λ j. like j (also g)) ms
  any_alike none d g b = refl
  any_alike (more h hs) d g b = λ i. tells h d g b i || any_alike hs d g b i

  -- ---- units
  template_alike : (name : Expanded) (o : Option Place) → ForSome o (OfUnit s.units) → Each (Templates One) (template_by naming name o) (template_by calling name o)
  template_alike name None h = none
  template_alike name (Some p) h = more (template (in_module (h p refl))) none

  templates_alike : (wanted : List Expanded) → Each (Templates One) (templates_called naming s.units wanted) (templates_called calling s.units wanted)
  templates_alike [] = none
  templates_alike (name ∷ wanted) =
      each_append (template_alike name (last_element (is_template name) None s.units) (last_of_unit s.units (is_template name) None s.units (λ p h. h) (λ p e. absurd (cc))))
      (templates_alike wanted)

  -- the elements of some units
  picked_unit : (b : Bool) (u : Piece) (us : List Piece) → OfUnit s.units u.site.place
      → Each One (map (λ v. naming v.site.place) us) (map (λ v. calling v.site.place) us)
      → Each One (map (λ v. naming v.site.place) (cond b (u ∷ us) us)) (map (λ v. calling v.site.place) (cond b (u ∷ us) us))
  picked_unit true u us h k = more (in_module h) k
  picked_unit false u us h k = k

  units_picked : (test : Declared → Bool) (us : List Piece) → ((p : Place) → OfUnit us p → OfUnit s.units p)
      → Each One (map (λ u. naming u.site.place) (filter (λ u. test u.declared) us)) (map (λ u. calling u.site.place) (filter (λ u. test u.declared) us))
  units_picked test [] h = none
  units_picked test (u ∷ us) h =
      picked_unit (test u.declared) u (filter (λ v. test v.declared) us) (h _ this) (units_picked test us (λ p k. h p (that k)))

  sets_alike : (wanted : List Expanded) → Each (Sets One) (sets_used naming s.units wanted) (sets_used calling s.units wanted)
  sets_alike [] = none
  sets_alike (name ∷ wanted) = more (sets (units_picked (is_set name) s.units (λ p h. h))) (sets_alike wanted)

  unit_alike : (o : Option Piece) → Answers One (unit_by naming s.aliases s.units o) (unit_by calling s.aliases s.units o)
  unit_alike None = gone
  unit_alike (Some u) = some_unit (resolved (templates_alike (called_in_unit u.declared)) (sets_alike (used_in_unit u.declared)))

  -- ---- globals
  -- that of a unit, unless one of those after it is one of its name too
  global_alike : (u : Piece) (us : List Piece) → OfUnit s.units u.site.place → (name : Expanded)
      → Each (Globals One) (global_by naming u us name) (global_by calling u us name)
  global_alike u us h name = by (list_any (λ later. is_global name later.declared) us)
    where
      by : (b : Bool)
          → Each (Globals One) (cond b [] (record { name = name; element = naming u.site.place } ∷ []))
          (cond b [] (record { name = name; element = calling u.site.place } ∷ []))
      by true = none
      by false = more (global (in_module h)) none

  own_alike : (u : Piece) (us : List Piece) → OfUnit s.units u.site.place → (own : List Expanded)
      → Each (Globals One) (flat_map (global_by naming u us) own) (flat_map (global_by calling u us) own)
  own_alike u us h [] = none
  own_alike u us h (name ∷ own) = each_append (global_alike u us h name) (own_alike u us h own)

  all_alike : (us : List Piece) → ((p : Place) → OfUnit us p → OfUnit s.units p) → Each (Globals One) (globals_of naming us) (globals_of calling us)
  all_alike [] h = none
  all_alike (u ∷ us) h = each_append (own_alike u us (h _ this) (global_in u.declared)) (all_alike us (λ p k. h p (that k)))

  pub globals_alike : Each (Globals One) (globals_of naming s.units) (globals_of calling s.units)
  globals_alike = all_alike s.units (λ p h. h)

  -- ---- rules
  unit_chosen : (r : Rule) (k : ℕ) (o : Option Piece) → slice_get s.units k ≡ o → Both (Rules One) (chosen_in naming r o) (chosen_in calling r o)
  unit_chosen r k None e = neither
  unit_chosen r k (Some u) e = both (rule (in_module (of_index s.units k u e)))

  rule_chosen : (o : Option Rule) → Both (Rules One) (chosen_by naming s.units o) (chosen_by calling s.units o)
  rule_chosen None = neither
  rule_chosen (Some r) = unit_chosen r r.unit (slice_get s.units r.unit) refl

  rule_alike : (o : Said (Option ℕ)) → Answers One (rule_by naming s o) (rule_by calling s o)
  rule_alike (Gives None) = chosen neither
  rule_alike (Gives (Some k)) = chosen (rule_chosen (slice_get s.rules.rules k))
  rule_alike (Refuses why) = chosen neither
  rule_alike (Lacks wanted) = chosen neither

  tree : Worlds OneNode (answer_by key same es) (answer_by also like fs)
  tree = worlds key same also like es fs alike apart apart_too

  -- ---- keys
  listed : {xs : List (Entry L)} {ys : List (Entry M)} → Each Alike xs ys → ((x : Entry L) (y : Entry M) → Beside xs ys x y → Beside es fs x y)
      → Each OneNode (map key xs) (map also ys)
  listed none there = none
  listed (more {x = x} {y = y} h hs) there =
      more (record { entry = x; other = y; beside = there x y first; named = refl; also_named = refl }) (listed hs (λ d g b. there d g (later b)))

  tell_alike : TellAlike OneNode same like
  tell_alike a b c d g h =
      at_names key also (λ x y. same x b ≡ like y d)
      (λ e f i. at_names key also (λ x y. same (key e) x ≡ like (also f) y) (λ v w j. told_alike key same also like apart apart_too i j) h) g

  -- no element is a node of the source
  pub all_told : TellAlike One same like
  all_told a b c d (in_source n) (in_source o) = tell_alike a b c d n o
  all_told a _ c _ (in_source n) (in_module {p = p} h) =
      at_names key also (λ x y. same x (naming p) ≡ like y (calling p))
      (λ e f i. (stranger key same naming s.units strangers i p h).1 ∙ sym (stranger also like calling s.units strangers_too (turned i) p h).1) n
  all_told _ b _ d (in_module {p = p} h) (in_source n) =
      at_names key also (λ x y. same (naming p) x ≡ like (calling p) y)
      (λ e f i. (stranger key same naming s.units strangers i p h).0 ∙ sym (stranger also like calling s.units strangers_too (turned i) p h).0) n
  all_told _ _ _ _ (in_module {p = p} h) (in_module {p = q} k) = told p q h k

  pub keyed_alike : (name : Expanded) (text : List ℕ)
      → Answers OneNode (keyed_at same s.units (answer_by key same es) (map key es) name text) (keyed_at like s.units (answer_by also like fs) (map also fs) name text)
  keyed_alike name text =
      let of_all = listed alike (λ x y b. b) in
      let entries = matching OneNode (Each (Entries OneNode)) (answer_by key same es) (answer_by also like fs) no_globals no_globals 0 tree supplied_alike _ _
      (indexed_match same like tell_alike (keys_named name s.units) of_all none) in
      keyed_match same like tell_alike of_all text entries.0

  -- the tree of the source, with its keys
  pub source : Worlds OneNode (source_by key same s es) (source_by also like s fs)
  source _ _ (keys {name = name} {text = text}) = keyed_alike name text
  source _ _ (steps n) = tree _ _ (steps n)
  source _ _ (texts n) = tree _ _ (texts n)
  source _ _ (names n) = tree _ _ (names n)
  source _ _ (places n) = tree _ _ (places n)
  source _ _ (orders ns) = tree _ _ (orders ns)
  source _ _ (choices n) = gone
  source _ _ (copies n) = gone
  source _ _ (units n) = gone
  source _ _ externals = gone

  -- ---- choices
  choice_alike : (mode : Option Expanded) (candidates : Candidates) (k : K) (j : J) → OneNode k j
      → Answers One (rule_at naming same s (source_by key same s es) k mode candidates) (rule_at calling like s (source_by also like s fs) j mode candidates)
  choice_alike mode candidates k j n =
      let one = matching OneNode Same (source_by key same s es) (source_by also like s fs) no_globals no_globals 0 source supplied_alike _ _
      (chosen_match same like tell_alike s.units mode candidates s.rules.rules k j n) in
      subst (λ o. Answers One (rule_at naming same s (source_by key same s es) k mode candidates) (rule_by calling s o)) (same_said one.0)
      (rule_alike (outcome_of (source_by key same s es) no_globals (choice.chosen same (context_for s.units k) k mode candidates s.rules.rules)))

  -- ---- all
  absent : (f : Entry L → Answer K) (g : Entry M → Answer J) {o : Option (Entry L)} {p : Option (Entry M)} → o ≡ None → p ≡ None
      → Answers One (told_of f o) (told_of g p)
  absent f g e h = rw (e, h) gone

  no_entry : (p : Place) → OfUnit s.units p → (f : Entry L → Answer K) (g : Entry M → Answer J)
      → Answers One (told_of f (entry_named key same es (naming p))) (told_of g (entry_named also like fs (calling p)))
  no_entry p h f g = absent f g (not_listed key same naming s.units es strangers p h) (not_listed also like calling s.units fs strangers_too p h)

  copy_alike : {t u : Stream} → t ≡ u → Answers One (question.Copied t) (question.Copied u)
  copy_alike {t = t} e = subst (λ u. Answers One (question.Copied t) (question.Copied u)) e copied

  pub truths : Worlds One (truth_by key same naming s parameters es) (truth_by also like calling s parameters fs)
  truths _ _ (steps (in_source n)) = answers_wider (λ k j h. in_source h) (tree _ _ (steps n))
  truths _ _ (steps (in_module {p = p} h)) = no_entry p h _ _
  truths _ _ (texts (in_source n)) = answers_wider (λ k j h. in_source h) (tree _ _ (texts n))
  truths _ _ (texts (in_module {p = p} h)) = no_entry p h _ _
  truths _ _ (names (in_source n)) = answers_wider (λ k j h. in_source h) (tree _ _ (names n))
  truths _ _ (names (in_module {p = p} h)) = no_entry p h _ _
  truths _ _ (places (in_source n)) = answers_wider (λ k j h. in_source h) (tree _ _ (places n))
  truths _ _ (places (in_module {p = p} h)) = no_entry p h _ _
  truths _ _ (orders ns) = some_nodes (each_picked _ _ alike (λ d g b. b) (λ d g b. any_alike ns d g b))
  truths _ _ (keys {name = name} {text = text}) = answers_wider (λ k j h. in_source h) (keyed_alike name text)
  truths _ _ (choices {mode = mode} {candidates = candidates} (in_source n)) =
      at_names key also
      (λ x y. Answers One (truth_by key same naming s parameters es (question.Choice x mode candidates))
      (truth_by also like calling s parameters fs (question.Choice y mode candidates)))
      (λ e f b. rw (found key same apart b, found also like apart_too (turned b)) (choice_alike mode candidates (key e) (also f)
      (record { entry = e; other = f; beside = b; named = refl; also_named = refl }))) n
  truths _ _ (choices (in_module {p = p} h)) = no_entry p h _ _
  truths _ _ (copies (in_source n)) =
      at_names key also
      (λ x y. Answers One (truth_by key same naming s parameters es (question.Copy x)) (truth_by also like calling s parameters fs (question.Copy y)))
      (λ e f b. rw (found key same apart b, found also like apart_too (turned b)) (copy_alike (beside_alike copied_alike b).copies)) n
  truths _ _ (copies (in_module {p = p} h)) = no_entry p h _ _
  truths _ _ (units (in_source n)) =
      at_names key also (λ x y. Answers One (unit_at naming same s.aliases s.units x) (unit_at calling like s.aliases s.units y))
      (λ e f b. rw (
        no_unit (λ p. same (key e) (naming p)) s.units (λ p h. (stranger key same naming s.units strangers b p h).1),
        no_unit (λ p. like (also f) (calling p)) s.units (λ p h. (stranger also like calling s.units strangers_too (turned b) p h).1),
      ) gone) n
  truths _ _ (units (in_module {p = p} h)) =
      subst (λ o. Answers One (unit_at naming same s.aliases s.units (naming p)) (unit_by calling s.aliases s.units o))
      (same_unit (λ q. same (naming p) (naming q)) (λ q. like (calling p) (calling q)) s.units (λ q k. told p q h k))
      (unit_alike (find (λ u. same (naming p) (naming u.site.place)) s.units))
  truths _ _ externals = passed

  -- settings of these worlds, with roots of one name and the globals of the stylesheet
  pub settings : {k : K} {j : J} → One k j
      → Settings One (record { ask = truth_by key same naming s parameters es; same = same; root = k; globals = globals_of naming s.units })
      (record { ask = truth_by also like calling s parameters fs; same = like; root = j; globals = globals_of calling s.units })
  settings h = record { worlds = truths; told = all_told; roots = h; globals = globals_alike }
