-- A stylesheet that modules are whose elements have names is such that its runs write well, and so are the results of documents.
use Rattle.std.proofs.Common.{ℕ, ◌+◌, ◌-◌, Bool, List, [], ◌∷◌, map, Option, None, Some, Result, Ok, Err, sym, subst}
use Rattle.std.specs.Prelude.{bytes_eq}
use Rattle.std.specs.List.{filter, flat_map, list_any}
use Rattle.spec_stylesheet.specs.Sheet as sheet
use Rattle.spec_stylesheet.specs.Sheet.{Alias, Sheet}
use Rattle.spec_structure.specs.Structure.{Fault}
use Rattle.spec_structure.specs.Modules.{Modules, Part, Stylesheet}
use Rattle.spec_compile.specs.Scoping.{Ranked, violations_of}
use Rattle.spec_compile.specs.Unit.{Declaration, ATemplate, AGlobal, ASet, AKey, ASpaceRule, AnOutput, AnAlias, TopLevel}
use Rattle.spec_compile.specs.Sheet.{answer_by, IsRead, Said, Refusal, with_said, AreRead, none_left, faulty, well, said_by, is_at, part_of, ranked}
use Rattle.spec_compile.specs.Sheet.{ranked_from, unit_by, alias_in, is_alias_of, last_aliases, sheet_of, first_violation, checked, IsSheet, refused}
use Rattle.spec_compile.specs.Sheet.{read}
use Rattle.spec_result.specs.Named.{IsPrefix}
use Rattle.spec_named.proofs.Documents.{AllHaveNames}
use Rattle.spec_named.proofs.Names.{picked}
use Rattle.spec_named.proofs.Plans.{IsWellDeclared, AreWellAliases}
use Rattle.spec_named.proofs.Copies.{All, all_append}
use Rattle.spec_named.proofs.Worlds.{IsWellSheet}
use Rattle.spec_named.proofs.Readings.{comes, OkIs, ok, err}
use Rattle.spec_named.proofs.Modules.{IsWellDeclaration, IsWellTop, module_well}

-- ---- Lists

all_filter : {A : Type 0} (P : A → Type 0) (test : A → Bool) (xs : List A) → All P xs → All P (filter test xs)
all_filter P test [] h = tt
all_filter P test (x ∷ xs) h =
    let rest = all_filter P test xs h.1 in picked (All P) (test x) (x ∷ filter test xs) (filter test xs) (λ _. (h.0, rest)) (λ _. rest)

all_flat : {A B : Type 0} (P : A → Type 0) (Q : B → Type 0) (f : A → List B) → ((x : A) → P x → All Q (f x)) → (xs : List A) → All P xs
    → All Q (flat_map f xs)
all_flat P Q f g [] h = tt
all_flat P Q f g (x ∷ xs) h = all_append Q (f x) (flat_map f xs) (g x h.0) (all_flat P Q f g xs h.1)

all_any : {A : Type 0} (xs : List A) → All (λ (x : A). Unit {0}) xs
all_any [] = tt
all_any (x ∷ xs) = (tt, all_any xs)

-- ---- The modules, one after another

from_ok : {A R : Type 0} {P : A → Type 0} {a : A} → OkIs {R = R} P (Ok a) → P a
from_ok (ok h) = h

answer_well : {P : List TopLevel → Type 0} (o : Option Fault) {r : Result (List TopLevel) Fault} → OkIs P r → OkIs P (answer_by o r)
answer_well None h = h
answer_well (Some fault) h = err

one_well : {modules : Modules} {name : List ℕ} {says : List TopLevel} → AllHaveNames modules → IsRead modules name (Ok says) → All IsWellTop says
one_well {name = name} named h =
    from_ok (subst (OkIs (All IsWellTop)) (sym h.whole) (answer_well _ (comes (module_well name 1 h.tree (named name h.tree h.is)) h.reading)))

abbrev IsWellSaid : Said → Type 0
IsWellSaid s = All IsWellTop s.top_levels

said_more : (name : List ℕ) (says : List TopLevel) → All IsWellTop says → {r : Result (List Said) Refusal} → OkIs (All IsWellSaid) r
    → OkIs (All IsWellSaid) (with_said name says r)
said_more name says h (ok g) = ok (h, g)
said_more name says h err = err

read_well : {modules : Modules} → AllHaveNames modules → {names : List (List ℕ)} {r : Result (List Said) Refusal} → AreRead modules names r
    → OkIs (All IsWellSaid) r
read_well named none_left = ok tt
read_well named (faulty h) = err
read_well named (well {name = name} {says = says} h hs) = said_more name says (one_well named h) (read_well named hs)

-- ---- Units and aliases

said_well : (name : List ℕ) (said : List Said) → All IsWellSaid said → All IsWellTop (said_by name said)
said_well name [] h = tt
said_well name (s ∷ more) h = picked (All IsWellTop) (bytes_eq s.module_name name) s.top_levels (said_by name more) (λ _. h.0)
    (λ _. said_well name more h.1)

abbrev IsWellRanked : Ranked → Type 0
IsWellRanked r = IsWellTop r.top_level

all_ranked : (precedence imported : ℕ) (ts : List TopLevel) → All IsWellTop ts → All IsWellRanked (map (ranked precedence imported) ts)
all_ranked precedence imported [] h = tt
all_ranked precedence imported (t ∷ ts) h = (h.0, all_ranked precedence imported ts h.1)

ranked_well : (said : List Said) → All IsWellSaid said → (precedence : ℕ) (sheets : List Stylesheet)
    → All IsWellRanked (ranked_from said precedence sheets)
ranked_well said h precedence [] = tt
ranked_well said h precedence (s ∷ more) =
    all_append IsWellRanked (map (ranked precedence (precedence - s.imported)) (flat_map (part_of said) s.parts)) (ranked_from said
    (precedence + 1) more)
    (all_ranked precedence (precedence - s.imported) (flat_map (part_of said) s.parts)
    (all_flat (λ (p : Part). Unit {0}) IsWellTop (part_of said)
    (λ p e. all_filter IsWellTop (is_at p.path) (said_by p.module_name said) (said_well p.module_name said h)) s.parts (all_any s.parts)))
    (ranked_well said h (precedence + 1) more)

unit_well : (r : Ranked) (d : Declaration) → IsWellDeclaration d → All (λ (u : sheet.Unit). IsWellDeclared u.declared) (unit_by r d)
unit_well r (ATemplate t pattern priority mode) h = (h, tt)
unit_well r (AGlobal g) h = (h, tt)
unit_well r (ASet s) h = (h, tt)
unit_well r (AKey k) h = (tt, tt)
unit_well r (ASpaceRule strips tests) h = tt
unit_well r (AnOutput method) h = tt
unit_well r (AnAlias a) h = tt

alias_well : (d : Declaration) → IsWellDeclaration d → All (λ (a : Alias). IsPrefix a.prefix) (alias_in d)
alias_well (ATemplate t pattern priority mode) h = tt
alias_well (AGlobal g) h = tt
alias_well (ASet s) h = tt
alias_well (AKey k) h = tt
alias_well (ASpaceRule strips tests) h = tt
alias_well (AnOutput method) h = tt
alias_well (AnAlias a) h = (h, tt)

last_well : (aliases : List Alias) → All (λ (a : Alias). IsPrefix a.prefix) aliases → AreWellAliases (last_aliases aliases)
last_well [] h = tt
last_well (a ∷ more) h =
    let rest = last_well more h.1 in
    picked AreWellAliases (list_any (is_alias_of a) more) (last_aliases more) (a ∷ last_aliases more) (λ _. rest) (λ _. (h.0, rest))

sheet_of_well : (rs : List Ranked) → All IsWellRanked rs → IsWellSheet (sheet_of rs)
sheet_of_well rs h = record {
  units = all_flat IsWellRanked (λ (u : sheet.Unit). IsWellDeclared u.declared) (λ r. unit_by r r.top_level.declaration)
      (λ r w. unit_well r r.top_level.declaration w) rs h;
  aliases = last_well (flat_map (λ r. alias_in r.top_level.declaration) rs)
      (all_flat IsWellRanked (λ (a : Alias). IsPrefix a.prefix) (λ r. alias_in r.top_level.declaration)
      (λ r w. alias_well r.top_level.declaration w) rs h);
}

-- ---- The stylesheet

checked_well : (order : List (List ℕ)) (rs : List Ranked) → All IsWellRanked rs → OkIs IsWellSheet (checked order rs)
checked_well order rs h = by (first_violation order (violations_of rs))
  where
    by : (o : Option Refusal) → OkIs IsWellSheet (elim o [ None ↦ Ok (sheet_of rs) | Some why ↦ Err why ])
    by None = ok (sheet_of_well rs h)
    by (Some why) = err

whole_well : {modules : Modules} {main : List ℕ} → AllHaveNames modules → {r : Result Sheet Refusal} → IsSheet modules main r → OkIs IsWellSheet r
whole_well named (refused o h) = err
whole_well named (read {order = order} {said = said} {stylesheets = stylesheets} o h q) =
    checked_well order (ranked_from said 0 stylesheets) (ranked_well said (from_ok (read_well named h)) 0 stylesheets)

pub sheet_well : {modules : Modules} {main : List ℕ} {s : Sheet} → AllHaveNames modules → IsSheet modules main (Ok s) → IsWellSheet s
sheet_well named h = from_ok (whole_well named h)
