-- Where no link leads to a module of a greater number, none that leads to a lesser one leads back.
use Rattle.std.proofs.Common.{◌≡◌, ◌<◌, ◌≤◌, ◌&&◌, ◌||◌, ◌++◌, append_assoc, ℕ, Bool, true, false, List, [], ◌∷◌, map, IsSome, is_some, Option, None, Some, Result, Ok, Err, IfOk, nat_lt, not, bytes_eq, refl, sym, ap, subst, ◌∙◌, arith}
use Rattle.std.proofs.lemmas.List.{get_or_past, map-append}
use Rattle.std.proofs.lemmas.List.Elements.{All-push}
use Rattle.std.specs.List.{All, Contains}
use Rattle.std.specs.Prelude.{position}
use Rattle.std.specs.Map.{lookup}
use Rattle.std.specs.declared.alloc.Global.{Global}
use Rattle.std.specs.declared.vec.Vec.{Vec}
use borrow.Author.Tests.{ltb-false, ltb-true}
use Rattle.spec_structure.specs.Modules as spec
use Rattle.spec_structure.specs.Modules.{Modules, Reads, Reaches, itself, through, is_among, FirstFault}
use Rattle.spec_structure.specs.Structure.{Link}
use Rattle.xt_structure.specs.declared.links.Link as sheet
use Rattle.xt_structure.specs.declared.fault.Fault as found
use Rattle.xt_structure.specs.View.{faults_in, link_in, links_in}
use Rattle.xt_import.specs.declared.listed.ListedModule.{ListedModule}
use Rattle.xt_import.specs.Tree.{IsJudged, names_in}
use Rattle.xt_import.specs.View.{is_name}
use Rattle.xt_import.specs.Table.{Entry, name_of, names_of, lists_of, none_rise, none_rises, number_by, number_in, NoneFallsBack, IsKnown, AreKnown}
use Rattle.xt_import.proofs.Keys.{equal, is_equal}
use Rattle.xt_import.proofs.Reaching.{closed, is_module, member, no_member, not_read, there}
use Rattle.xt_import.proofs.Rows.{found_among, found_links, its_own, of_others}
use Rattle.xt_import.proofs.Standing.{no_module}

first_true : (a b : Bool) → (a && b) ≡ true → a ≡ true
first_true true b h = refl
first_true false b h = absurd (cc)

second_true : (a b : Bool) → (a && b) ≡ true → b ≡ true
second_true true b h = h
second_true false b h = absurd (cc)

no_more : (a b : ℕ) → not (nat_lt a b) ≡ true → b ≤ a
no_more a b h = by (nat_lt a b) refl h
  where
    by : (t : Bool) → nat_lt a b ≡ t → not t ≡ true → b ≤ a
    by true e k = absurd (cc)
    by false e k = ltb-false a b e

not_above : (number : List ℕ → ℕ) (own : ℕ) (items : List sheet.Link) → none_rises number own items ≡ true
    → (l : Link) → Contains (links_in items) l → number l.href ≤ own
not_above number own [] h l c = absurd (no_member l c)
not_above number own (i ∷ is) h l c =
    member (λ (k : Link). number k.href ≤ own) (link_in i) (links_in is) l c
    (no_more own (number i.href) (first_true (not (nat_lt own (number i.href))) (none_rises number own is) h))
    (not_above number own is (second_true (not (nat_lt own (number i.href))) (none_rises number own is) h) l)

-- one module after another is looked through
looked : (number : List ℕ → ℕ) (now rest : List Entry) (e : Entry) (own : ℕ) (links : List sheet.Link) (r : Bool) → now ≡ e ∷ rest → own ≡ number (name_of e)
    → links ≡ e.1.items → r ≡ none_rises number own links → none_rise number now ≡ (r && none_rise number rest)
looked number now rest e own links r n o l is =
    ap (none_rise number) n
    ∙ ap (λ (b : Bool). b && none_rise number rest) (ap (λ (k : ℕ). none_rises number k e.1.items) (sym o) ∙ ap (none_rises number own) (sym l) ∙ sym is)

pub looks_on : (number : List ℕ → ℕ) (all now rest : List Entry) (e : Entry) (own : ℕ) (links : List sheet.Link) (r : Bool) → now ≡ e ∷ rest → own ≡ number (name_of e)
    → links ≡ e.1.items → r ≡ none_rises number own links → r ≡ true → none_rise number now ≡ none_rise number all → none_rise number rest ≡ none_rise number all
looks_on number all now rest e own links r n o l is t h =
    sym (looked number now rest e own links r n o l is ∙ ap (λ (b : Bool). b && none_rise number rest) t) ∙ h

pub rises : (number : List ℕ → ℕ) (all now rest : List Entry) (e : Entry) (own : ℕ) (links : List sheet.Link) (r : Bool) → now ≡ e ∷ rest → own ≡ number (name_of e)
    → links ≡ e.1.items → r ≡ none_rises number own links → r ≡ false → none_rise number now ≡ none_rise number all → false ≡ none_rise number all
rises number all now rest e own links r n o l is f h =
    sym (looked number now rest e own links r n o l is ∙ ap (λ (b : Bool). b && none_rise number rest) f) ∙ h

-- without numbers, all have 0

unnumbered : (o : Option ℕ) → number_by [] o ≡ 0
unnumbered None = refl
unnumbered (Some place) = get_or_past [] place 0 (omega arith)

none_less : (n m : ℕ) → m ≡ 0 → not (nat_lt n m) ≡ true
none_less n m z = by (nat_lt n m) refl
  where
    by : (t : Bool) → nat_lt n m ≡ t → not t ≡ true
    by true e = let l = ltb-true n m e in absurd (omega (arith, l, z))
    by false e = refl

both_true : (a b : Bool) → a ≡ true → b ≡ true → (a && b) ≡ true
both_true true b e f = f
both_true false b e f = absurd (cc)

level_links : (all : List Entry) (own : ℕ) (items : List sheet.Link) → none_rises (number_in all []) own items ≡ true
level_links all own [] = refl
level_links all own (i ∷ is) =
    both_true (not (nat_lt own (number_in all [] i.href))) (none_rises (number_in all []) own is)
    (none_less own (number_in all [] i.href) (unnumbered (position (is_name i.href) (map (λ e. e.0) all)))) (level_links all own is)

pub all_unnumbered : (all es : List Entry) → none_rise (number_in all []) es ≡ true
all_unnumbered all [] = refl
all_unnumbered all (e ∷ es) =
    both_true (none_rises (number_in all []) (number_in all [] (name_of e)) e.1.items) (none_rise (number_in all []) es)
    (level_links all (number_in all [] (name_of e)) e.1.items) (all_unnumbered all es)

-- each link of each module that was read leads to one of no greater number
all_level : (modules : Modules) (number : List ℕ → ℕ) (es : List Entry) → none_rise number es ≡ true
    → lists_of es ≡ map (spec.links_in modules) (names_of es)
    → (x : List ℕ) → is_among x (names_of es) ≡ true → (l : Link) → Contains (spec.links_in modules x) l → number l.href ≤ number x
all_level modules number [] h e x a l c = absurd (cc)
all_level modules number (e ∷ es) h same x a l c =
    by (bytes_eq x (name_of e)) refl a
    (λ g. all_level modules number es (second_true (none_rises number (number (name_of e)) e.1.items) (none_rise number es) h) (of_others modules e es same)
    x g l c)
  where
    by : (b : Bool) → bytes_eq x (name_of e) ≡ b → (b || is_among x (names_of es)) ≡ true → (is_among x (names_of es) ≡ true → number l.href ≤ number x)
        → number l.href ≤ number x
    by true k g later =
        let is : x ≡ name_of e = equal x (name_of e) k in
        subst (λ (n : List ℕ). number l.href ≤ number n) (sym is)
        (not_above number (number (name_of e)) e.1.items (first_true (none_rises number (number (name_of e)) e.1.items) (none_rise number es) h) l
        (subst (λ (ls : List Link). Contains ls l) (sym (its_own modules e es same)) (subst (λ (n : List ℕ). Contains (spec.links_in modules n) l) is c)))
    by false k g later = later g

lower : {modules : Modules} {main : List ℕ} {names : List (List ℕ)} (number : List ℕ → ℕ) → Reads modules [] main names
    → ((x : List ℕ) → is_among x names ≡ true → (l : Link) → Contains (spec.links_in modules x) l → number l.href ≤ number x)
    → {a b : List ℕ} → Reaches modules a b → is_among a names ≡ true → IsSome (modules b) → number b ≤ number a
lower number o falls itself h s = omega arith
lower number o falls {a = a} {b = b} (through l c r) h s =
    let k = lower number o falls r (closed o a h refl l c (is_module r s)) s in
    let f = falls a h l c in
    omega (arith, k, f)

none_falls_back : {modules : Modules} {main : List ℕ} {names : List (List ℕ)} (number : List ℕ → ℕ) → Reads modules [] main names
    → ((x : List ℕ) → is_among x names ≡ true → (l : Link) → Contains (spec.links_in modules x) l → number l.href ≤ number x)
    → (x : List ℕ) → is_among x names ≡ true → NoneFallsBack modules number x (spec.links_in modules x)
none_falls_back number o falls x h l c less (s, r) =
    let k = lower number o falls r (closed o x h refl l c s) (there o x h refl) in
    let f : number l.href < number x = ltb-true _ _ less in
    absurd (omega (arith, k, f))

-- ---- What is known of the modules of a table

or_first : (a b : Bool) → a ≡ true → (a || b) ≡ true
or_first true b h = refl
or_first false b h = absurd (cc)

or_second : (a b : Bool) → b ≡ true → (a || b) ≡ true
or_second true b h = refl
or_second false b h = h

each_known : (modules : Modules) (number : List ℕ → ℕ) (names : List (List ℕ)) → ((x : List ℕ) → is_among x names ≡ true → IsSome (modules x))
    → ((x : List ℕ) → is_among x names ≡ true → NoneFallsBack modules number x (spec.links_in modules x))
    → (es : List Entry) → ((x : List ℕ) → is_among x (names_of es) ≡ true → is_among x names ≡ true)
    → lists_of es ≡ map (spec.links_in modules) (names_of es) → AreKnown modules number es
each_known modules number names held back [] among same = tt
each_known modules number names held back (e ∷ es) among same =
    let name = name_of e in
    let own : links_in e.1.items ≡ spec.links_in modules name = its_own modules e es same in
    let here = among name (or_first (bytes_eq name name) (is_among name (names_of es)) (is_equal name name refl)) in (
      (own, held name here, subst (NoneFallsBack modules number name) (sym own) (back name here)),
      each_known modules number names held back es (λ x h. among x (or_second (bytes_eq x name) (is_among x (names_of es)) h)) (of_others modules e es same),
    )

pub back_where : {modules : Modules} {main : List ℕ} (number : List ℕ → ℕ) (es : List Entry) → Reads modules [] main (names_of es)
    → lists_of es ≡ map (spec.links_in modules) (names_of es) → none_rise number es ≡ true
    → (x : List ℕ) → is_among x (names_of es) ≡ true → NoneFallsBack modules number x (spec.links_in modules x)
back_where {modules} number es o same rise = none_falls_back number o (all_level modules number es rise same)

pub all_known : {modules : Modules} {main : List ℕ} (number : List ℕ → ℕ) (es : List Entry) → Reads modules [] main (names_of es)
    → lists_of es ≡ map (spec.links_in modules) (names_of es) → none_rise number es ≡ true → AreKnown modules number es
all_known {modules} number es o same rise =
    each_known modules number (names_of es) (λ x h. there o x h refl) (back_where number es o same rise) es (λ x h. h) same

-- ---- The fault of a module of a table

pub fault_of : {E : Type 0} (modules : Modules) (name : List ℕ) (number : List ℕ → ℕ) (es : List Entry) (links : Vec sheet.Link Global) (items : List sheet.Link)
    (r : Result (Option found.Fault) E) → lookup (is_name name) es ≡ Some links → items ≡ links.items
    → IfOk r (λ fault. IsSome (modules name) → NoneFallsBack modules number name (links_in items) → FirstFault modules name (links_in items) (faults_in fault))
    → IfOk r (λ fault. Reads modules [] name (names_of es) → lists_of es ≡ map (spec.links_in modules) (names_of es) → none_rise number es ≡ true
    → FirstFault modules name (spec.links_in modules name) (faults_in fault))
fault_of modules name number es links items (Ok fault) f e h = λ o same rise.
    let own : links_in items ≡ spec.links_in modules name = ap links_in e ∙ found_links modules name es links f same in
    let here : is_among name (names_of es) ≡ true = sym (found_among name es) ∙ ap is_some f in
    subst (λ (ls : List Link). FirstFault modules name ls (faults_in fault)) own
    (h (there o name here refl) (subst (NoneFallsBack modules number name) (sym own) (back_where number es o same rise name here)))
fault_of modules name number es links items (Err why) f e h = tt

pub no_links : (modules : Modules) (name : List ℕ) (es : List Entry) → lookup (is_name name) es ≡ None → Reads modules [] name (names_of es)
    → FirstFault modules name (spec.links_in modules name) None
no_links modules name es f o = no_module modules name (not_read o (sym (found_among name es) ∙ ap is_some f))

-- ---- One module after another

pub judged_more : (modules : Modules) (number : List ℕ → ℕ) (all now rest : List Entry) (e : Entry) (listed after : List ListedModule) (m : ListedModule)
    → now ≡ e ∷ rest → after ≡ listed ++ m ∷ [] → m.name ≡ name_of e → (IsKnown modules number (name_of e) (links_in e.1.items) → IsJudged modules m)
    → (AreKnown modules number all → AreKnown modules number now × All (IsJudged modules) listed)
    → AreKnown modules number all → AreKnown modules number rest × All (IsJudged modules) after
judged_more modules number all now rest e listed after m n a i judge so_far known =
    let before = so_far known in
    let first : AreKnown modules number (e ∷ rest) = subst (AreKnown modules number) n before.0 in
    (first.1, subst (All (IsJudged modules)) (sym a) (All-push (IsJudged modules) listed m before.1 (judge first.0)))

pub named_more : (all now rest : List Entry) (e : Entry) (listed after : List ListedModule) (m : ListedModule)
    → now ≡ e ∷ rest → after ≡ listed ++ m ∷ [] → m.name ≡ name_of e → names_in listed ++ names_of now ≡ names_of all
    → names_in after ++ names_of rest ≡ names_of all
named_more all now rest e listed after m n a i h =
    ap (λ ms. names_in ms ++ names_of rest) a
    ∙ ap (λ ns. ns ++ names_of rest) (map-append (λ (x : ListedModule). x.name) listed (m ∷ []) ∙ ap (λ x. names_in listed ++ x ∷ []) i)
    ∙ append_assoc (names_in listed) (name_of e ∷ []) (names_of rest)
    ∙ ap (λ es. names_in listed ++ names_of es) (sym n) ∙ h
