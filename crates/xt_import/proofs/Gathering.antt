-- Gathering one element of a module after another.
use Rattle.std.proofs.Common.{◌≡◌, ◌+◌, ◌-◌, ◌<◌, ℕ, zero, suc, true, false, List, [], ◌∷◌, ◌++◌, Option, None, Some, refl, sym, ap, subst, ◌∙◌, arith}
use Rattle.std.proofs.lemmas.List.{append-nil, append_assoc, map-append}
use Rattle.spec_document.specs.Forest.{Plain}
use Rattle.spec_structure.specs.Modules.{Modules, Part, TopLevel, Own, Imports, Includes, Gathers, gathers, GathersAll, gathered, own, imports, includes, top_levels_of}
use Rattle.xt_import.specs.declared.gather.Target.{Target}
use Rattle.xt_import.specs.declared.gather.Pending.{Pending}
use Rattle.xt_import.specs.declared.gather.Pending.TheVariants as pending
use Rattle.xt_import.specs.declared.precedence.Part as code
use Rattle.xt_import.specs.Gathering.{targets_in, parts_in, pendings_by, Comes, all_done, next_own, next_imports, next_includes, levels_cost, cost_by, cost, pendings_cost, targets_cost}
use Rattle.xt_import.specs.Gathering.{LevelsFit, FitsBy, Fits, PendingsFit, TargetsFit, IsEntered, IsDone, IsGathered, IsUnderway}
use Rattle.xt_import.specs.Parts.{part_in}

-- ---- A module is entered

-- what a module says is gathered, and then the rest
record Parted (modules : Modules) (names to : List (List ℕ)) (parts all : List Part) (name : List ℕ) (levels : List TopLevel) (rest : List Pending) : Type 0 where
  its : List (List ℕ)
  more : List Part
  here : GathersAll modules name levels its more
  comes : Comes modules (names ++ its) (parts ++ more) rest to all

parted : {modules : Modules} {names to : List (List ℕ)} {parts all : List Part} (name : List ℕ) (depth : ℕ) (levels : List TopLevel) (rest : List Pending)
    → Comes modules names parts (pendings_by name depth levels ++ rest) to all → Parted modules names to parts all name levels rest
parted {modules} {names} {to} {parts} {all} name depth [] rest c =
    record {
      its = [];
      more = [];
      here = gathered;
      comes = subst (λ (ns : List (List ℕ)). Comes modules ns (parts ++ []) rest to all) (sym (append-nil names))
          (subst (λ (ps : List Part). Comes modules names ps rest to all) (sym (append-nil parts)) c);
    }
parted {modules} {names} {to} {parts} {all} name depth (Own path ∷ levels) rest (next_own c) =
    let p = parted name depth levels rest c in
    let part : Part = record { module_name = name; path = path } in
    record {
      its = p.its;
      more = part ∷ p.more;
      here = own p.here;
      comes = subst (λ (ps : List Part). Comes modules (names ++ p.its) ps rest to all) (append_assoc parts (part ∷ []) p.more) p.comes;
    }
parted {modules} {names} {to} {parts} {all} name depth (Imports href ∷ levels) rest (next_imports c) =
    let p = parted name depth levels rest c in
    record {
      its = href ∷ p.its;
      more = p.more;
      here = imports p.here;
      comes = subst (λ (ns : List (List ℕ)). Comes modules ns (parts ++ p.more) rest to all) (append_assoc names (href ∷ []) p.its) p.comes;
    }
parted {modules} {names} {to} {parts} {all} name depth (Includes href ∷ levels) rest (next_includes {its = its} {own = more} g c) =
    let p = parted name depth levels rest c in
    record {
      its = its ++ p.its;
      more = more ++ p.more;
      here = includes g p.here;
      comes = subst (λ (ns : List (List ℕ)). Comes modules ns (parts ++ (more ++ p.more)) rest to all) (append_assoc names its p.its)
          (subst (λ (ps : List Part). Comes modules ((names ++ its) ++ p.its) ps rest to all) (append_assoc parts more p.more) p.comes);
    }

-- how much it leaves to be done
pushed : (modules : Modules) (name : List ℕ) (depth : ℕ) (levels : List TopLevel) (rest : List Pending)
    → pendings_cost modules (pendings_by name depth levels ++ rest) ≡ levels_cost (cost modules depth) levels + pendings_cost modules rest
pushed modules name depth [] rest = omega arith
pushed modules name depth (Own path ∷ levels) rest = let e = pushed modules name depth levels rest in omega (arith, e)
pushed modules name depth (Imports href ∷ levels) rest = let e = pushed modules name depth levels rest in omega (arith, e)
pushed modules name depth (Includes href ∷ levels) rest = let e = pushed modules name depth levels rest in omega (arith, e)

unrolled : (modules : Modules) (depth : ℕ) (name : List ℕ) (tree : Plain) → 0 < depth → modules name ≡ Some tree
    → cost modules depth name ≡ 2 + levels_cost (cost modules (depth - 1)) (top_levels_of 1 tree)
unrolled modules zero name tree more is = absurd (omega (arith, more))
unrolled modules (suc depth) name tree more is =
    let e : depth ≡ suc depth - 1 = omega arith in
    ap (λ (o : Option Plain). 2 + cost_by (cost modules depth) o) is ∙ ap (λ (d : ℕ). 2 + levels_cost (cost modules d) (top_levels_of 1 tree)) e

-- what fits
fit_below : (modules : Modules) (depth : ℕ) (name : List ℕ) (tree : Plain) → modules name ≡ Some tree → Fits modules depth name
    → LevelsFit (Fits modules (depth - 1)) (top_levels_of 1 tree)
fit_below modules zero name tree is f = absurd f
fit_below modules (suc depth) name tree is f =
    let e : depth ≡ suc depth - 1 = omega arith in
    subst (λ (d : ℕ). LevelsFit (Fits modules d) (top_levels_of 1 tree)) e (subst (λ (o : Option Plain). FitsBy (Fits modules depth) o) is f)

fit_there : (modules : Modules) (name : List ℕ) (depth : ℕ) (levels : List TopLevel) (rest : List Pending) → LevelsFit (Fits modules depth) levels
    → PendingsFit modules rest → PendingsFit modules (pendings_by name depth levels ++ rest)
fit_there modules name depth [] rest fs gs = gs
fit_there modules name depth (Own path ∷ levels) rest fs gs = (tt, fit_there modules name depth levels rest fs.1 gs)
fit_there modules name depth (Imports href ∷ levels) rest fs gs = (fs.0, fit_there modules name depth levels rest fs.1 gs)
fit_there modules name depth (Includes href ∷ levels) rest fs gs = (fs.0, fit_there modules name depth levels rest fs.1 gs)

not_there : (modules : Modules) (depth : ℕ) (name : List ℕ) → modules name ≡ None → Fits modules depth name → ⊥
not_there modules zero name is f = f
not_there modules (suc depth) name is f = subst (λ (o : Option Plain). FitsBy (Fits modules depth) o) is f

pub not_held : (modules : Modules) (target : Target) (before : List Pending) → modules target.name ≡ None → IsEntered modules target false before before
not_held modules target before is =
    record {
      comes = λ e. absurd (cc);
      less = λ e. absurd (cc);
      fits = λ f. absurd (not_there modules target.depth target.name is f);
    }

pub entered : (modules : Modules) (target : Target) (before after : List Pending) (levels : List TopLevel) (tree : Plain) → 0 < target.depth
    → modules target.name ≡ Some tree → levels ≡ top_levels_of 1 tree → after ≡ pendings_by target.name (target.depth - 1) levels ++ before
    → IsEntered modules target true before after
entered modules target before after levels tree deep is said put =
    let at : after ≡ pendings_by target.name (target.depth - 1) (top_levels_of 1 tree) ++ before
    = put ∙ ap (λ (ls : List TopLevel). pendings_by target.name (target.depth - 1) ls ++ before) said in
    let much = ap (pendings_cost modules) at ∙ pushed modules target.name (target.depth - 1) (top_levels_of 1 tree) before in
    let all = unrolled modules target.depth target.name tree deep is in
    record {
      comes = λ e {names} {to} {parts} {all} c.
          let p = parted target.name (target.depth - 1) (top_levels_of 1 tree) before (subst (λ (ps : List Pending). Comes modules names parts ps to all) at c) in
          next_includes (gathers tree is p.here) p.comes;
      less = λ e. omega (arith, much, all);
      fits = λ f. (
        refl,
        λ g. subst (PendingsFit modules) (sym at)
            (fit_there modules target.name (target.depth - 1) (top_levels_of 1 tree) before (fit_below modules target.depth target.name tree is f) g),
      );
    }

-- ---- One element

one_more : (modules : Modules) (targets : List Target) (t : Target) → targets_cost modules (targets ++ t ∷ []) ≡ targets_cost modules targets + cost modules t.depth t.name
one_more modules [] t = omega arith
one_more modules (x ∷ xs) t = let e = one_more modules xs t in omega (arith, e)

one_more_fits : (modules : Modules) (targets : List Target) (t : Target) → TargetsFit modules targets → Fits modules t.depth t.name
    → TargetsFit modules (targets ++ t ∷ [])
one_more_fits modules [] t fs f = (f, tt)
one_more_fits modules (x ∷ xs) t fs f = (fs.0, one_more_fits modules xs t fs.1 f)

pub takes_own : (modules : Modules) (sought : List Target) (parts now : List code.Part) (before : List Pending) (first : Pending) (part : code.Part)
    → first ≡ pending.Own part → now ≡ parts ++ part ∷ [] → IsDone modules true sought sought parts now (first ∷ before) before
takes_own modules sought parts now before first part is put =
    subst (λ (f : Pending). IsDone modules true sought sought parts now (f ∷ before) before) (sym is)
    (record {
      comes = λ e {to} {all} c.
          next_own (subst (λ (ps : List Part). Comes modules (targets_in sought) ps before to all) (ap parts_in put ∙ map-append part_in parts (part ∷ [])) c);
      less = λ e. omega arith;
      smaller = λ e. omega arith;
      fits = λ f. (refl, f.1, λ g. g);
    })

pub takes_import : (modules : Modules) (sought now : List Target) (parts : List code.Part) (before : List Pending) (first : Pending) (target : Target)
    → first ≡ pending.Imports target → now ≡ sought ++ target ∷ [] → IsDone modules true sought now parts parts (first ∷ before) before
takes_import modules sought now parts before first target is put =
    let much = ap (targets_cost modules) put ∙ one_more modules sought target in
    subst (λ (f : Pending). IsDone modules true sought now parts parts (f ∷ before) before) (sym is)
    (record {
      comes = λ e {to} {all} c.
          next_imports (subst (λ (ns : List (List ℕ)). Comes modules ns (parts_in parts) before to all) (ap targets_in put ∙ map-append (λ (t : Target). t.name) sought (target ∷ [])) c);
      less = λ e. omega (arith, much);
      smaller = λ e. omega arith;
      fits = λ f. (refl, f.1, λ g. subst (TargetsFit modules) (sym put) (one_more_fits modules sought target g f.0));
    })

-- ---- The loop

only : {modules : Modules} {target : Target} {to : List (List ℕ)} {all : List Part} → Comes modules [] [] (pending.Includes target ∷ []) to all
    → Gathers modules target.name to all
only (next_includes g all_done) = g

pub finished : (modules : Modules) (target : Target) (sought : List Target) (parts : List code.Part) (left : List Pending) → left ≡ []
    → IsUnderway modules target sought parts left → IsGathered modules target sought parts
finished modules target sought parts left none u =
    let l = u.less in
    record {
      gathers = only (u.comes (subst (λ (ps : List Pending). Comes modules (targets_in sought) (parts_in parts) ps (targets_in sought) (parts_in parts)) (sym none) all_done));
      less = omega (arith, l);
      fits = λ f. (u.fits f).1;
    }
