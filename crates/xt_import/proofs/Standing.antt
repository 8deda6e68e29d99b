-- Codes at links.
use Rattle.std.proofs.Common.{◌≡◌, ◌<◌, ◌≤◌, ◌+◌, ℕ, zero, suc, Bool, true, false, List, [], ◌∷◌, length, drop, get_or, is_some, Option, None, Some, refl, sym, ap, subst, ◌∙◌, arith}
use Rattle.std.proofs.lemmas.List.{drop_all, drop_more}
use Rattle.std.proofs.lemmas.List.Elements.{Contains-append_left, Contains-append_right, Contains-push}
use Rattle.std.specs.Bool.{Decides}
use Rattle.std.specs.List.{Contains}
use Rattle.std.specs.Option.{option_map, option_copied}
use Rattle.spec_document.specs.Forest.{Plain}
use Rattle.spec_expression.specs.declared.code.StaticCode.{StaticCode}
use Rattle.spec_structure.specs.Modules as spec
use Rattle.spec_structure.specs.Modules.{Modules, Reaches, HasCode, FirstFault, no_fault, later, first}
use Rattle.spec_structure.specs.Structure.{Fault, Link}
use Rattle.xt_structure.specs.declared.links.Link as sheet
use Rattle.xt_structure.specs.View.{link_in, links_in}
use Rattle.xt_import.specs.Table.{LeadsBack}
use denote.Ref.{Bor}

pub same_there : {X Y : Type 0} (f : X → Y) (r : Option (Bor X)) (o : Option X) → option_copied r ≡ o → is_some r ≡ is_some (option_map f o)
same_there f None o e = ap (λ p. is_some (option_map f p)) e
same_there f (Some x) o e = ap (λ p. is_some (option_map f p)) e

pub none_there : {X : Type 0} (o : Option X) → is_some o ≡ false → o ≡ None
none_there None e = refl
none_there (Some x) e = absurd (cc)

clear : (o : Option Plain) (R : Type 0) → is_some o ≡ true → (R → ⊥) → (tree : Plain) × (o ≡ Some tree) × (R → ⊥)
clear None R e n = absurd (cc)
clear (Some tree) R e n = (tree, refl, n)

-- a link where it is certain that none leads back
pub never_back : (modules : Modules) (name : List ℕ) (l : Link) → is_some (modules l.href) ≡ true → (LeadsBack modules name l → ⊥)
    → HasCode modules name l None
never_back modules name l h n = clear (modules l.href) (Reaches modules l.href name) h (λ r. n (h, r))

-- the link at a place is one of them
pub stands_among : (links : List sheet.Link) (i : ℕ) (item : sheet.Link) → i < length links → item ≡ get_or links i item
    → Contains (links_in links) (link_in item)
stands_among [] i item h is = absurd (omega (arith, h))
stands_among (l ∷ ls) zero item h is =
    subst (λ (x : sheet.Link). Contains (links_in (l ∷ ls)) (link_in x)) (sym is)
    (Contains-append_left (link_in l ∷ []) (links_in ls) (link_in l) (Contains-push [] (link_in l)))
stands_among (l ∷ ls) (suc i) item h is =
    Contains-append_right (link_in l ∷ []) (links_in ls) (link_in item) (stands_among ls i item (omega (arith, h)) is)

pub no_code : (modules : Modules) (name : List ℕ) (l : Link) (leads : Bool) → is_some (modules l.href) ≡ true → leads ≡ false
    → Decides leads (Reaches modules l.href name) → HasCode modules name l None
no_code modules name l leads h f d = clear (modules l.href) (Reaches modules l.href name) h (λ r. let e = d.1 r in absurd (cc))

-- ---- The first fault of links, one link after another

-- none is left
pub at_end : (modules : Modules) (name : List ℕ) (links : List sheet.Link) (i : ℕ) → length links ≤ i → FirstFault modules name (links_in (drop i links)) None
at_end modules name links i h = subst (λ (ls : List sheet.Link). FirstFault modules name (links_in ls) None) (sym (drop_all i links h)) no_fault

opened : (links : List sheet.Link) (i : ℕ) (item : sheet.Link) → i < length links → item ≡ get_or links i item → item ∷ drop (i + 1) links ≡ drop i links
opened links i item h is = ap (λ x. x ∷ drop (i + 1) links) is ∙ sym (drop_more links i item h)

-- one without a fault
pub goes_on : (modules : Modules) (name : List ℕ) (links : List sheet.Link) (i : ℕ) (item : sheet.Link) (fault : Option Fault) → i < length links
    → item ≡ get_or links i item → HasCode modules name (link_in item) None → FirstFault modules name (links_in (drop (i + 1) links)) fault
    → FirstFault modules name (links_in (drop i links)) fault
goes_on modules name links i item fault h is none rest =
    subst (λ (ls : List sheet.Link). FirstFault modules name (links_in ls) fault) (opened links i item h is) (later none rest)

-- one with a fault
pub stops : (modules : Modules) (name : List ℕ) (links : List sheet.Link) (i : ℕ) (item : sheet.Link) (c : StaticCode) (path : List ℕ) → i < length links
    → item ≡ get_or links i item → HasCode modules name (link_in item) (Some c) → path ≡ item.path
    → FirstFault modules name (links_in (drop i links)) (Some (record { code = c; path = path }))
stops modules name links i item c path h is some same =
    subst (λ (p : List ℕ). FirstFault modules name (links_in (drop i links)) (Some (record { code = c; path = p }))) (sym same)
    (subst (λ (ls : List sheet.Link). FirstFault modules name (links_in ls) (Some (record { code = c; path = item.path }))) (opened links i item h is)
    (first some))

-- ---- A module's, where there is one

pub no_module : (modules : Modules) (name : List ℕ) → modules name ≡ None → FirstFault modules name (spec.links_in modules name) None
no_module modules name e = subst (λ (o : Option Plain). FirstFault modules name (spec.links_by o) None) (sym e) no_fault
