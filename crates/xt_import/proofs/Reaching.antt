-- The modules that are read from a name on are those that are reached from it.
use Rattle.std.proofs.Common.{◌≡◌, ◌||◌, ℕ, Bool, true, false, List, [], ◌∷◌, ◌++◌, IsSome, is_some, Option, None, Some, bytes_eq, refl, sym, ap, subst, ◌∙◌, inl, inr, ◌⊎◌, arith}
use Rattle.std.proofs.lemmas.List.Elements.{Contains-append_left, Contains-append_right, Contains-append_cases, Contains-push, Contains-push_cases}
use Rattle.std.proofs.lemmas.List.Folds.{list_any-append}
use Rattle.std.specs.Bool.{Decides}
use Rattle.std.specs.List.{Contains}
use Rattle.spec_document.specs.Forest.{Plain}
use Rattle.spec_structure.specs.Modules.{Modules, Reads, ReadsLinks, read_already, not_there, reads, no_link, link, is_among, Reaches, itself, through, links_in, links_by}
use Rattle.spec_structure.specs.Structure.{Link, links_of}
use Rattle.xt_import.proofs.Keys.{equal, is_equal}
use Rattle.xt_import.proofs.Unread.{kept, added}

-- a name among those read and one more
either_of : (a b : Bool) → (a || (b || false)) ≡ true → a ≡ false → b ≡ true
either_of true b h f = absurd (cc)
either_of false true h f = refl
either_of false false h f = absurd (cc)

last_is : (x name : List ℕ) (done : List (List ℕ)) → is_among x (done ++ name ∷ []) ≡ true → is_among x done ≡ false → x ≡ name
last_is x name done h f =
    equal x name (either_of (is_among x done) (bytes_eq x name) (sym (list_any-append (bytes_eq x) done (name ∷ [])) ∙ h) f)

its_links : (modules : Modules) (name : List ℕ) (tree : Plain) → modules name ≡ Some tree → links_in modules name ≡ links_of 1 tree
its_links modules name tree f = ap links_by f

split : (P : Type 0) (b : Bool) → (b ≡ true → P) → (b ≡ false → P) → P
split P true f g = f refl
split P false f g = g refl

-- ---- What is read is reached

record Leads (modules : Modules) (ls : List Link) (x : List ℕ) : Type 0 where
  pub by : Link
  pub member : Contains ls by
  pub reaches : Reaches modules by.href x

in_turn : (modules : Modules) (done : List (List ℕ)) (name x : List ℕ) (tree : Plain) → modules name ≡ Some tree → is_among x done ≡ false
    → (is_among x (done ++ name ∷ []) ≡ false → Leads modules (links_of 1 tree) x) → Reaches modules name x
in_turn modules done name x tree f d more = at (is_among x (done ++ name ∷ [])) refl
  where
    at : (b : Bool) → is_among x (done ++ name ∷ []) ≡ b → Reaches modules name x
    at true h = subst (λ (y : List ℕ). Reaches modules name y) (sym (last_is x name done h d)) itself
    at false h =
        let w = more h in
        through w.by (subst (λ (ls : List Link). Contains ls w.by) (sym (its_links modules name tree f)) w.member) w.reaches

in_links : (modules : Modules) (l : Link) (ls : List Link) (between : List (List ℕ)) (x : List ℕ)
    → (is_among x between ≡ true → Reaches modules l.href x) → (is_among x between ≡ false → Leads modules ls x) → Leads modules (l ∷ ls) x
in_links modules l ls between x here later = at (is_among x between) refl
  where
    at : (b : Bool) → is_among x between ≡ b → Leads modules (l ∷ ls) x
    at true h = record { by = l; member = Contains-append_left (l ∷ []) ls l (Contains-push [] l); reaches = here h }
    at false h = let w = later h in record { by = w.by; member = Contains-append_right (l ∷ []) ls w.by w.member; reaches = w.reaches }

mutual
  sound : {modules : Modules} {done after : List (List ℕ)} {name : List ℕ} → Reads modules done name after → (x : List ℕ)
      → is_among x after ≡ true → is_among x done ≡ false → Reaches modules name x
  sound (read_already e) x a d = absurd (cc)
  sound (not_there e f) x a d = absurd (cc)
  sound {modules} {done} {after} {name} (reads tree e f rs) x a d = in_turn modules done name x tree f d (λ h. sound_links rs x a h)

  sound_links : {modules : Modules} {done after : List (List ℕ)} {ls : List Link} → ReadsLinks modules done ls after → (x : List ℕ)
      → is_among x after ≡ true → is_among x done ≡ false → Leads modules ls x
  sound_links no_link x a d = absurd (cc)
  sound_links {modules} (link {between = between} {l = l} {ls = ls} r rs) x a d =
      in_links modules l ls between x (λ h. sound r x h d) (λ h. sound_links rs x a h)

-- ---- What is read is a module

mutual
  pub there : {modules : Modules} {done after : List (List ℕ)} {name : List ℕ} → Reads modules done name after → (x : List ℕ)
      → is_among x after ≡ true → is_among x done ≡ false → IsSome (modules x)
  there (read_already e) x a d = absurd (cc)
  there (not_there e f) x a d = absurd (cc)
  there {modules} {done} {after} {name} (reads tree e f rs) x a d =
      split (IsSome (modules x)) (is_among x (done ++ name ∷ []))
      (λ h. subst (λ (y : List ℕ). IsSome (modules y)) (sym (last_is x name done h d)) (ap is_some f)) (λ h. there_links rs x a h)

  there_links : {modules : Modules} {done after : List (List ℕ)} {ls : List Link} → ReadsLinks modules done ls after → (x : List ℕ)
      → is_among x after ≡ true → is_among x done ≡ false → IsSome (modules x)
  there_links no_link x a d = absurd (cc)
  there_links {modules} (link {between = between} r rs) x a d =
      split (IsSome (modules x)) (is_among x between) (λ h. there r x h d) (λ h. there_links rs x a h)

-- ---- What is reached is read

mutual
  keeps : {modules : Modules} {done after : List (List ℕ)} {name : List ℕ} → Reads modules done name after → (x : List ℕ)
      → is_among x done ≡ true → is_among x after ≡ true
  keeps (read_already e) x d = d
  keeps (not_there e f) x d = d
  keeps {modules} {done} {after} {name} (reads tree e f rs) x d = keeps_links rs x (kept x name done d)

  keeps_links : {modules : Modules} {done after : List (List ℕ)} {ls : List Link} → ReadsLinks modules done ls after → (x : List ℕ)
      → is_among x done ≡ true → is_among x after ≡ true
  keeps_links no_link x d = d
  keeps_links (link r rs) x d = keeps_links rs x (keeps r x d)

no_tree : (o : Option Plain) → is_some o ≡ false → o ≡ None
no_tree None e = refl
no_tree (Some tree) e = absurd (cc)

lands : {modules : Modules} {done after : List (List ℕ)} {name : List ℕ} → Reads modules done name after → IsSome (modules name)
    → is_among name after ≡ true
lands (read_already e) s = e
lands (not_there e f) s = let g = sym (ap is_some f) ∙ s in absurd (cc)
lands {modules} {done} {after} {name} (reads tree e f rs) s = keeps_links rs name (added name name done (is_equal name name refl))

-- a module that was not read where it was sought first is none
pub not_read : {modules : Modules} {name : List ℕ} {names : List (List ℕ)} → Reads modules [] name names → is_among name names ≡ false
    → modules name ≡ None
not_read {modules} {name} {names} o h =
    split (modules name ≡ None) (is_some (modules name)) (λ s. let e = lands o s in absurd (cc)) (λ n. no_tree (modules name) n)

pub member : (P : Link → Type 0) (l0 : Link) (ls : List Link) (l : Link) → Contains (l0 ∷ ls) l → P l0 → (Contains ls l → P l) → P l
member P l0 ls l c p more = at (Contains-append_cases (l0 ∷ []) ls l c)
  where
    only : Contains [] l ⊎ (l0 ≡ l) → P l
    only (inl (k, below, e)) = absurd (omega (arith, below))
    only (inr e) = subst P e p

    at : Contains (l0 ∷ []) l ⊎ Contains ls l → P l
    at (inl a) = only (Contains-push_cases [] l0 l a)
    at (inr b) = more b

pub no_member : (l : Link) → Contains [] l → ⊥
no_member l (k, below, e) = absurd (omega (arith, below))

lands_among : {modules : Modules} {done after : List (List ℕ)} {ls : List Link} → ReadsLinks modules done ls after → (l : Link) → Contains ls l
    → IsSome (modules l.href) → is_among l.href after ≡ true
lands_among no_link l c s = absurd (no_member l c)
lands_among {modules} {done} {after} (link {l = l0} {ls = ls} r rs) l c s =
    member (λ (k : Link). IsSome (modules k.href) → is_among k.href after ≡ true) l0 ls l c (λ t. keeps_links rs l0.href (lands r t))
    (λ d t. lands_among rs l d t) s

mutual
  pub closed : {modules : Modules} {done after : List (List ℕ)} {name : List ℕ} → Reads modules done name after → (x : List ℕ)
      → is_among x after ≡ true → is_among x done ≡ false → (l : Link) → Contains (links_in modules x) l → IsSome (modules l.href)
      → is_among l.href after ≡ true
  closed (read_already e) x a d l c s = absurd (cc)
  closed (not_there e f) x a d l c s = absurd (cc)
  closed {modules} {done} {after} {name} (reads tree e f rs) x a d l c s =
      split (is_among l.href after ≡ true) (is_among x (done ++ name ∷ []))
      (λ h. lands_among rs l (subst (λ (ls : List Link). Contains ls l) (ap (links_in modules) (last_is x name done h d) ∙ its_links modules name tree f) c) s)
      (λ h. closed_links rs x a h l c s)

  closed_links : {modules : Modules} {done after : List (List ℕ)} {ls : List Link} → ReadsLinks modules done ls after → (x : List ℕ)
      → is_among x after ≡ true → is_among x done ≡ false → (l : Link) → Contains (links_in modules x) l → IsSome (modules l.href)
      → is_among l.href after ≡ true
  closed_links no_link x a d l c s = absurd (cc)
  closed_links {modules} {done} {after} (link {between = between} r rs) x a d l c s =
      split (is_among l.href after ≡ true) (is_among x between) (λ h. keeps_links rs l.href (closed r x h d l c s))
      (λ h. closed_links rs x a h l c s)

none_linked : (o : Option Plain) (l : Link) → Contains (links_by o) l → IsSome o
none_linked None l c = absurd (no_member l c)
none_linked (Some tree) l c = refl

pub is_module : {modules : Modules} {a b : List ℕ} → Reaches modules a b → IsSome (modules b) → IsSome (modules a)
is_module itself s = s
is_module {modules} {a} {b} (through l c r) s = none_linked (modules a) l c

complete : {modules : Modules} {main : List ℕ} {names : List (List ℕ)} → Reads modules [] main names → {a b : List ℕ} → Reaches modules a b
    → is_among a names ≡ true → IsSome (modules b) → is_among b names ≡ true
complete o itself h s = h
complete o {a = a} (through l c r) h s = complete o r (closed o a h refl l c (is_module r s)) s

pub decides : {modules : Modules} {main name : List ℕ} {names : List (List ℕ)} → Reads modules [] main names → IsSome (modules name)
    → Decides (is_among name names) (Reaches modules main name)
decides {modules} {main} {name} o s = ((λ h. sound o name h refl), (λ r. complete o r (lands o (is_module r s)) s))
