-- Putting one stylesheet after another in the order of their precedence.
use Rattle.std.proofs.Common.{◌≡◌, ◌+◌, ◌-◌, ℕ, Bool, true, false, List, [], ◌∷◌, ◌++◌, length, map, reverse, Vec, refl, sym, ap, subst, ◌∙◌, arith}
use Rattle.std.proofs.lemmas.List.{append-nil, append_assoc, length-append, length-map, map-append, reverse-append}
use Rattle.std.specs.declared.alloc.Global.{Global}
use Rattle.spec_structure.specs.Modules as spec
use Rattle.spec_structure.specs.Modules.{Modules, IsOrdered, ordered, AreOrdered, none_ordered, each_ordered}
use Rattle.xt_import.specs.declared.gather.Target.{Target}
use Rattle.xt_import.specs.declared.precedence.Part.{Part}
use Rattle.xt_import.specs.declared.precedence.Stylesheet.{Stylesheet}
use Rattle.xt_import.specs.declared.precedence.Task.{Task}
use Rattle.xt_import.specs.declared.precedence.Task.TheVariants as task
use Rattle.xt_import.specs.Gathering.{targets_in, parts_in, orders_of, Walks, at_end, next_ordered, next_closed, targets_cost, tasks_cost, Fits, TargetsFit, TasksFit, IsGathered, IsTaken, IsOnTheWay}
use Rattle.xt_import.specs.Parts.{stylesheet_in}

-- ---- A stylesheet with those that it imports

record Parted (modules : Modules) (sheets to : List spec.Stylesheet) (names : List (List ℕ)) (rest : List Task) : Type 0 where
  below : List spec.Stylesheet
  are : AreOrdered modules names below
  walks : Walks modules (sheets ++ below) rest to

parted : {modules : Modules} {sheets to : List spec.Stylesheet} (targets : List Target) (rest : List Task)
    → Walks modules sheets (orders_of targets ++ rest) to → Parted modules sheets to (targets_in targets) rest
parted {modules} {sheets} {to} [] rest w =
    record { below = []; are = none_ordered; walks = subst (λ (ss : List spec.Stylesheet). Walks modules ss rest to) (sym (append-nil sheets)) w }
parted {modules} {sheets} {to} (t ∷ ts) rest (next_ordered {its = its} o w) =
    let p = parted ts rest w in
    record {
      below = its ++ p.below;
      are = each_ordered o p.are;
      walks = subst (λ (ss : List spec.Stylesheet). Walks modules ss rest to) (append_assoc sheets its p.below) p.walks;
    }

-- what is closed has those before it that were put there since
close : {modules : Modules} {to : List spec.Stylesheet} (sheets below : List spec.Stylesheet) {parts : Vec Part Global} {start : ℕ} {rest : List Task} → start ≡ length sheets
    → Walks modules (sheets ++ below) (task.Close parts start ∷ rest) to
    → Walks modules (sheets ++ (below ++ record { parts = parts_in parts.items; imported = length below } ∷ [])) rest to
close {modules} {to} sheets below {parts} {start} {rest} at (next_closed w) =
    let long = length-append sheets below in
    let many : length (sheets ++ below) - start ≡ length below = omega (arith, long, at) in
    subst (λ (ss : List spec.Stylesheet). Walks modules ss rest to) (append_assoc sheets below (record { parts = parts_in parts.items; imported = length below } ∷ []))
    (subst (λ (n : ℕ). Walks modules ((sheets ++ below) ++ record { parts = parts_in parts.items; imported = n } ∷ []) rest to) many w)

pushed : (modules : Modules) (targets : List Target) (rest : List Task) → tasks_cost modules (orders_of targets ++ rest) ≡ targets_cost modules targets + tasks_cost modules rest
pushed modules [] rest = omega arith
pushed modules (t ∷ ts) rest = let e = pushed modules ts rest in omega (arith, e)

fit_there : (modules : Modules) (targets : List Target) (rest : List Task) → TargetsFit modules targets → TasksFit modules rest
    → TasksFit modules (orders_of targets ++ rest)
fit_there modules [] rest fs gs = gs
fit_there modules (t ∷ ts) rest fs gs = (fs.0, fit_there modules ts rest fs.1 gs)

-- the tasks after a module was gathered
put_on : (targets : List Target) (left before after : List Task) (last : Task) → left ≡ before ++ last ∷ [] → reverse after ≡ orders_of targets ++ reverse left
    → reverse after ≡ orders_of targets ++ last ∷ reverse before
put_on targets left before after last put on = on ∙ ap (λ (ts : List Task). orders_of targets ++ ts) (ap reverse put ∙ reverse-append before (last ∷ []))

pub orders : (modules : Modules) (target : Target) (imports : List Target) (parts : Vec Part Global) (sheets : List Stylesheet) (start : ℕ) (first : Task) (left before after : List Task)
    → first ≡ task.Order target → IsGathered modules target imports parts.items → start ≡ length sheets → left ≡ before ++ task.Close parts start ∷ []
    → reverse after ≡ orders_of imports ++ reverse left
    → IsTaken modules true (map stylesheet_in sheets) (map stylesheet_in sheets) (first ∷ reverse before) (reverse after)
orders modules target imports parts sheets start first left before after is g at put on =
    let next = put_on imports left before after (task.Close parts start) put on in
    let from : start ≡ length (map stylesheet_in sheets) = at ∙ sym (length-map sheets stylesheet_in) in
    let much = ap (tasks_cost modules) next ∙ pushed modules imports (task.Close parts start ∷ reverse before) in
    let few = g.less in
    subst (λ (f : Task). IsTaken modules true (map stylesheet_in sheets) (map stylesheet_in sheets) (f ∷ reverse before) (reverse after)) (sym is)
    (record {
      walks = λ e {to} w.
          let p = parted imports (task.Close parts start ∷ reverse before)
          (subst (λ (ts : List Task). Walks modules (map stylesheet_in sheets) ts to) next w) in
          next_ordered (ordered g.gathers p.are) (close (map stylesheet_in sheets) p.below from p.walks);
      less = λ e. omega (arith, much, few);
      fits = λ f. (
        refl,
        subst (TasksFit modules) (sym next) (fit_there modules imports (task.Close parts start ∷ reverse before) (g.fits f.0) (tt, f.1)),
      );
    })

-- ---- A stylesheet is closed

pub closes : (modules : Modules) (sheets now : List Stylesheet) (parts : Vec Part Global) (start imported : ℕ) (first : Task) (before : List Task)
    → first ≡ task.Close parts start → imported ≡ length sheets - start → now ≡ sheets ++ record { parts = parts; imported = imported } ∷ []
    → IsTaken modules true (map stylesheet_in sheets) (map stylesheet_in now) (first ∷ before) before
closes modules sheets now parts start imported first before is many put =
    let from : imported ≡ length (map stylesheet_in sheets) - start = many ∙ ap (λ n. n - start) (sym (length-map sheets stylesheet_in)) in
    let seen : map stylesheet_in now ≡ map stylesheet_in sheets ++ record { parts = parts_in parts.items; imported = length (map stylesheet_in sheets) - start } ∷ []
    = ap (map stylesheet_in) put ∙ map-append stylesheet_in sheets (record { parts = parts; imported = imported } ∷ [])
    ∙ ap (λ (n : ℕ). map stylesheet_in sheets ++ record { parts = parts_in parts.items; imported = n } ∷ []) from in
    subst (λ (f : Task). IsTaken modules true (map stylesheet_in sheets) (map stylesheet_in now) (f ∷ before) before) (sym is)
    (record {
      walks = λ e {to} w. next_closed (subst (λ (ss : List spec.Stylesheet). Walks modules ss before to) seen w);
      less = λ e. omega arith;
      fits = λ f. (refl, f.1);
    })

-- ---- The loop

only : {modules : Modules} {target : Target} {to : List spec.Stylesheet} → Walks modules [] (task.Order target ∷ []) to → IsOrdered modules target.name to
only (next_ordered o at_end) = o

-- a list of tasks from which the last was taken
pub popped : (tasks rest : List Task) (last : Task) → tasks ≡ rest ++ last ∷ [] → reverse tasks ≡ last ∷ reverse rest
popped tasks rest last e = ap reverse e ∙ reverse-append rest (last ∷ [])

pub begins : (modules : Modules) (main : List ℕ) (depth : ℕ) (target : Target) (sheets : List Stylesheet) (empty left : List Task) → sheets ≡ [] → empty ≡ []
    → left ≡ empty ++ task.Order target ∷ [] → target.name ≡ main → target.depth ≡ depth → IsOnTheWay modules main depth (map stylesheet_in sheets) (reverse left)
begins modules main depth target sheets empty left none bare put named deep =
    let at : reverse left ≡ task.Order target ∷ [] = ap reverse put ∙ ap (λ (ts : List Task). reverse (ts ++ task.Order target ∷ [])) bare in
    record {
      walks = λ {to} w.
          subst (λ (n : List ℕ). IsOrdered modules n to) named
          (only (subst (λ (ts : List Task). Walks modules [] ts to) at (subst (λ (ss : List Stylesheet). Walks modules (map stylesheet_in ss) (reverse left) to) none w)));
      fits = λ f.
          subst (TasksFit modules) (sym at)
          (subst (λ (n : List ℕ). Fits modules target.depth n) (sym named) (subst (λ (d : ℕ). Fits modules d main) (sym deep) f), tt);
    }

pub finished : (modules : Modules) (main : List ℕ) (depth : ℕ) (sheets : List spec.Stylesheet) (left : List Task) → left ≡ [] → IsOnTheWay modules main depth sheets left
    → IsOrdered modules main sheets
finished modules main depth sheets left none u = u.walks (subst (λ (ts : List Task). Walks modules sheets ts sheets) (sym none) at_end)

-- a task that needs what is not held does not fit
pub lost : (modules : Modules) (main : List ℕ) (depth : ℕ) (sheets now : List spec.Stylesheet) (tasks rest : List Task) (last : Task) (after : List Task) (held : Bool)
    → IsOnTheWay modules main depth sheets (reverse tasks) → tasks ≡ rest ++ last ∷ [] → IsTaken modules held sheets now (last ∷ reverse rest) after → held ≡ false
    → Fits modules depth main → ⊥
lost modules main depth sheets now tasks rest last after held u put d out f =
    let h = d.fits (subst (TasksFit modules) (popped tasks rest last put) (u.fits f)) in
    let e : held ≡ true = h.0 in
    absurd (cc)
