-- Reading modules one after another.
use Rattle.std.proofs.Common.{◌≡◌, ℕ, true, false, List, [], ◌∷◌, ◌++◌, reverse, None, Some, sym, ap, subst, ◌∙◌}
use Rattle.std.proofs.lemmas.List.{reverse-append, reverse-reverse}
use Rattle.spec_document.specs.Forest.{Plain}
use Rattle.spec_structure.specs.Modules.{Modules, Reads, ReadsLinks, read_already, not_there, reads, no_link, link, is_among}
use Rattle.spec_structure.specs.Structure.{Link, links_of}
use Rattle.xt_import.specs.Pending.{ReadsAll, none_left, next, GoesOn}
use Rattle.xt_import.specs.View.{hrefs_of}

-- names are read in two goes
pub record Parted (modules : Modules) (xs ys done after : List (List ℕ)) : Type 0 where
  pub between : List (List ℕ)
  pub first : ReadsAll modules done xs between
  pub rest : ReadsAll modules between ys after

pub parted : {modules : Modules} (xs : List (List ℕ)) {ys done after : List (List ℕ)} → ReadsAll modules done (xs ++ ys) after
    → Parted modules xs ys done after
parted [] r = record { between = _; first = none_left; rest = r }
parted (x ∷ xs) (next r rs) = let p = parted xs rs in record { between = p.between; first = next r p.first; rest = p.rest }

pub as_links : {modules : Modules} (ls : List Link) {done after : List (List ℕ)} → ReadsAll modules done (hrefs_of ls) after → ReadsLinks modules done ls after
as_links [] none_left = no_link
as_links (l ∷ ls) (next r rs) = link r (as_links ls rs)

pub single : {modules : Modules} {name : List ℕ} {done after : List (List ℕ)} → ReadsAll modules done (name ∷ []) after → Reads modules done name after
single (next r none_left) = r

pub skips : {modules : Modules} {name : List ℕ} {done names : List (List ℕ)} → is_among name done ≡ true → GoesOn modules done names done (name ∷ names)
skips e after r = next (read_already e) r

-- a name that was read, or is no module's
pub passes : {modules : Modules} {name : List ℕ} {done names : List (List ℕ)} → is_among name done ≡ false → modules name ≡ None
    → GoesOn modules done names done (name ∷ names)
passes e f after r = next (not_there e f) r

goes_in : {modules : Modules} {name : List ℕ} {done names : List (List ℕ)} (tree : Plain) → is_among name done ≡ false → modules name ≡ Some tree
    → GoesOn modules (done ++ name ∷ []) (hrefs_of (links_of 1 tree) ++ names) done (name ∷ names)
goes_in tree e f after r = let p = parted (hrefs_of (links_of 1 tree)) r in next (reads tree e f (as_links (links_of 1 tree) p.first)) p.rest

-- the stack after a module was read
pub stacked : (pending hrefs : List (List ℕ)) → reverse (pending ++ reverse hrefs) ≡ hrefs ++ reverse pending
stacked pending hrefs = reverse-append pending (reverse hrefs) ∙ ap (λ xs. xs ++ reverse pending) (reverse-reverse hrefs)

pub takes : {modules : Modules} {name : List ℕ} {done now left : List (List ℕ)} (pending : List (List ℕ)) (tree : Plain) → is_among name done ≡ false → modules name ≡ Some tree
    → now ≡ done ++ name ∷ [] → left ≡ pending ++ reverse (hrefs_of (links_of 1 tree)) → GoesOn modules now (reverse left) done (name ∷ reverse pending)
takes {modules} {name} {done} {now} {left} pending tree e f n l after r =
    goes_in tree e f after
    (subst (λ (xs : List (List ℕ)). ReadsAll modules (done ++ name ∷ []) xs after) (ap reverse l ∙ stacked pending (hrefs_of (links_of 1 tree)))
    (subst (λ (d : List (List ℕ)). ReadsAll modules d (reverse left) after) n r))

-- at the end of the loop
pub ends : {modules : Modules} {main : List ℕ} {names pending : List (List ℕ)} → pending ≡ [] → GoesOn modules names (reverse pending) [] (main ∷ [])
    → Reads modules [] main names
ends {modules} {main} {names} {pending} p goes =
    single (goes names (subst (λ (xs : List (List ℕ)). ReadsAll modules names xs names) (sym (ap reverse p)) none_left))

-- and at its begin
pub begins : {modules : Modules} {main : List ℕ} {names pending : List (List ℕ)} → names ≡ [] → pending ≡ main ∷ []
    → GoesOn modules names (reverse pending) [] (main ∷ [])
begins {modules} {main} {names} {pending} n p after r =
    subst (λ (done : List (List ℕ)). ReadsAll modules done (main ∷ []) after) n
    (subst (λ (xs : List (List ℕ)). ReadsAll modules names xs after) (ap reverse p) r)
