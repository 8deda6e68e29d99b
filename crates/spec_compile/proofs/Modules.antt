-- The first fault of the names of other modules is one, and so are what a module gathers and the stylesheets in the order of precedence.
use Rattle.std.proofs.Common.{◌≡◌, ℕ, List, [], ◌∷◌, ◌++◌, length, Option, None, Some, refl, sym, ap, subst, ◌∙◌, arith}
use Rattle.std.specs.List.{Contains}
use Rattle.spec_document.specs.Forest.{Plain}
use Rattle.spec_expression.specs.declared.code.StaticCode.{StaticCode}
use Rattle.spec_expression.specs.declared.code.StaticCode.TheVariants as code
use Rattle.spec_structure.specs.Structure.{Fault, Link}
use Rattle.spec_structure.specs.Modules.{Modules, links_by, Reaches, itself, through, HasCode, FirstFault, no_fault, later, first, Part, Gathers, gathers, GathersAll, gathered, own, imports, includes, TopLevel, top_levels_of, Stylesheet, IsOrdered, ordered, AreOrdered, none_ordered, each_ordered}

pub some_same : {X : Type 0} (x y : X) → Some x ≡ Some y → x ≡ y
some_same x y e = ap (λ o. elim o [ None ↦ x | Some z ↦ z ]) e

-- ---- Faults of names

-- from a name that is no module's no module is reached
none_reached : {modules : Modules} {from to : List ℕ} (tree : Plain) → Reaches modules from to → modules from ≡ None → modules to ≡ Some tree → ⊥
none_reached tree itself none there = let n : None ≡ Some tree = sym none ∙ there in absurd (cc)
none_reached tree (through l among reach) none there =
    let n : Contains (links_by None) l = subst (λ (o : Option Plain). Contains (links_by o) l) none among in omega (arith, n.1)

-- a code that stands at a link
data Stands (modules : Modules) (name : List ℕ) (l : Link) : StaticCode → Type 0 where
  missing : modules l.href ≡ None → Stands modules name l code.NoSuchModule
  in_cycle : Reaches modules l.href name → Stands modules name l code.ImportCycle

stands : (modules : Modules) (name : List ℕ) (l : Link) (c : StaticCode) → HasCode modules name l (Some c) → Stands modules name l c
stands modules name l code.NoSuchModule h = missing h
stands modules name l code.ImportCycle h = in_cycle h
stands modules name l _ h = absurd h

one_code : {modules : Modules} {name : List ℕ} {l : Link} {c d : StaticCode} (tree : Plain) → modules name ≡ Some tree
    → Stands modules name l c → Stands modules name l d → c ≡ d
one_code tree is (missing h) (missing g) = refl
one_code tree is (missing h) (in_cycle g) = absurd (none_reached tree g h is)
one_code tree is (in_cycle h) (missing g) = absurd (none_reached tree h g is)
one_code tree is (in_cycle h) (in_cycle g) = refl

not_both : {modules : Modules} {name : List ℕ} {l : Link} {c : StaticCode} → HasCode modules name l None → Stands modules name l c → ⊥
not_both h (missing none) = let n : None ≡ Some h.0 = sym none ∙ h.1 in absurd (cc)
not_both h (in_cycle reach) = h.2 reach

-- of a name that is a module's
pub one_fault : {modules : Modules} {name : List ℕ} {ls : List Link} {a b : Option Fault} (tree : Plain) → modules name ≡ Some tree
    → FirstFault modules name ls a → FirstFault modules name ls b → a ≡ b
one_fault tree is no_fault no_fault = refl
one_fault tree is (later h hs) (later g gs) = one_fault tree is hs gs
one_fault {modules} {name} tree is (later {l = l} h hs) (first {c = c} g) = absurd (not_both h (stands modules name l c g))
one_fault {modules} {name} tree is (first {l = l} {c = c} h) (later g gs) = absurd (not_both g (stands modules name l c h))
one_fault {modules} {name} tree is (first {l = l} {c = c} h) (first {c = d} g) =
    ap (λ (x : StaticCode). Some (record { code = x; path = l.path })) (one_code tree is (stands modules name l c h) (stands modules name l d g))

-- ---- Stylesheets

-- the names and the parts that are gathered
record Same (imports others : List (List ℕ)) (own more : List Part) : Type 0 where
  names : imports ≡ others
  parts : own ≡ more

mutual
  one_gathering : {modules : Modules} {name : List ℕ} {names others : List (List ℕ)} {parts more : List Part} → Gathers modules name names parts
      → Gathers modules name others more → Same names others parts more
  one_gathering {modules} {name} {names} {others} {parts} {more} (gathers tree e h) (gathers other f g) =
      one_gathering_of_all h
      (subst (λ (t : Plain). GathersAll modules name (top_levels_of 1 t) others more) (some_same other tree (sym f ∙ e)) g)

  one_gathering_of_all : {modules : Modules} {name : List ℕ} {ts : List TopLevel} {names others : List (List ℕ)} {parts more : List Part}
      → GathersAll modules name ts names parts → GathersAll modules name ts others more → Same names others parts more
  one_gathering_of_all gathered gathered = record { names = refl; parts = refl }
  one_gathering_of_all {name = name} (own {path = path} h) (own g) =
      let same = one_gathering_of_all h g in
      record { names = same.names; parts = ap (λ (ps : List Part). record { module_name = name; path = path } ∷ ps) same.parts }
  one_gathering_of_all (imports {href = href} h) (imports g) =
      let same = one_gathering_of_all h g in record { names = ap (λ (ns : List (List ℕ)). href ∷ ns) same.names; parts = same.parts }
  one_gathering_of_all (includes h hs) (includes g gs) =
      let same = one_gathering h g in
      let rest = one_gathering_of_all hs gs in
      record { names = λ i. same.names i ++ rest.names i; parts = λ i. same.parts i ++ rest.parts i }

mutual
  pub one_order : {modules : Modules} {name : List ℕ} {a b : List Stylesheet} → IsOrdered modules name a → IsOrdered modules name b → a ≡ b
  one_order {modules} (ordered {names = names} {parts = parts} {below = below} h hs) (ordered {names = others} {parts = more} {below = under} g gs) =
      let same = one_gathering h g in
      let rest = one_order_of_all hs (subst (λ (ns : List (List ℕ)). AreOrdered modules ns under) (sym same.names) gs) in
      λ i. rest i ++ record { parts = same.parts i; imported = length (rest i) } ∷ []

  one_order_of_all : {modules : Modules} {names : List (List ℕ)} {a b : List Stylesheet} → AreOrdered modules names a → AreOrdered modules names b
      → a ≡ b
  one_order_of_all none_ordered none_ordered = refl
  one_order_of_all (each_ordered h hs) (each_ordered g gs) = let same = one_order h g in let rest = one_order_of_all hs gs in λ i. same i ++ rest i
