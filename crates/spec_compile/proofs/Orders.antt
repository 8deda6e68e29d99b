-- Of modules that are finitely many there is a reading order; and with a module what it names stands in it.
use Rattle.std.proofs.Common.{◌≡◌, ◌≤◌, ℕ, zero, suc, true, false, List, [], ◌∷◌, ◌++◌, length, Option, None, Some, refl, sym, ap, subst, ◌∙◌, inl, inr, ◌⊎◌, arith}
use Rattle.std.proofs.lemmas.List.Elements.{Contains-append_cases, Contains-push_cases}
use Rattle.std.specs.List.{Contains}
use Rattle.spec_document.specs.Forest.{Plain}
use Rattle.spec_structure.specs.Structure.{Link, links_of}
use Rattle.spec_structure.specs.Modules.{Modules, Reads, ReadsLinks, read_already, not_there, reads, no_link, link, is_among, links_in, links_by}
use Rattle.spec_compile.proofs.Names.{split, not_equal, last_is, kept, added, among_fewer, without, shorter, left_among}

-- each module that is not read yet is among those that are left
abbrev Covers : Modules → List (List ℕ) → List (List ℕ) → Type 0
Covers modules left done = (x : List ℕ) (tree : Plain) → modules x ≡ Some tree → is_among x done ≡ false → is_among x left ≡ true

abbrev Goes : Modules → List (List ℕ) → List ℕ → Type 0
Goes modules done name = (after : List (List ℕ)) × Reads modules done name after

abbrev GoesOn : Modules → List (List ℕ) → List Link → Type 0
GoesOn modules done ls = (after : List (List ℕ)) × ReadsLinks modules done ls after

-- ---- What was read before stays

mutual
  keeps : {modules : Modules} {done after : List (List ℕ)} {name : List ℕ} → Reads modules done name after → (x : List ℕ)
      → is_among x done ≡ true → is_among x after ≡ true
  keeps (read_already e) x d = d
  keeps (not_there e f) x d = d
  keeps {modules} {done} {after} {name} (reads tree e f rs) x d = keeps_links rs x (kept x name done d)

  keeps_links : {modules : Modules} {done after : List (List ℕ)} {ls : List Link} → ReadsLinks modules done ls after → (x : List ℕ)
      → is_among x done ≡ true → is_among x after ≡ true
  keeps_links no_link x d = d
  keeps_links (link r rs) x d = keeps_links rs x (keeps r x d)

-- ---- There is an order

go_on : (modules : Modules) (left : List (List ℕ)) → ((done : List (List ℕ)) (name : List ℕ) → Covers modules left done → Goes modules done name)
    → (ls : List Link) (done : List (List ℕ)) → Covers modules left done → GoesOn modules done ls
go_on modules left go [] done cover = (done, no_link)
go_on modules left go (l ∷ ls) done cover =
    let r = go done l.href cover in
    let rs = go_on modules left go ls r.0 (λ x tree is d. cover x tree is (among_fewer (is_among x done) (is_among x r.0) (keeps r.1 x) d)) in
    (rs.0, link r.1 rs.1)

turn : (modules : Modules) (done : List (List ℕ)) (name : List ℕ)
    → ((tree : Plain) → is_among name done ≡ false → modules name ≡ Some tree → GoesOn modules (done ++ name ∷ []) (links_of 1 tree)) → Goes modules done name
turn modules done name next = split (Goes modules done name) (is_among name done) (λ e. (done, read_already e)) (λ e. by e (modules name) refl)
  where
    by : is_among name done ≡ false → (o : Option Plain) → modules name ≡ o → Goes modules done name
    by e None f = (done, not_there e f)
    by e (Some tree) f = let rs = next tree e f in (rs.0, reads tree e f rs.1)

covers_more : (modules : Modules) (left done : List (List ℕ)) (name : List ℕ) → Covers modules left done
    → Covers modules (without name left) (done ++ name ∷ [])
covers_more modules left done name cover x tree is d =
    left_among x name left (cover x tree is (among_fewer (is_among x done) (is_among x (done ++ name ∷ [])) (kept x name done) d))
    (not_equal name x (λ same. let a : is_among x (done ++ name ∷ []) ≡ true = subst (λ (y : List ℕ). is_among y (done ++ name ∷ []) ≡ true) same (added name done) in absurd (cc)))

go : (modules : Modules) (fuel : ℕ) (left : List (List ℕ)) → length left ≤ fuel → (done : List (List ℕ)) (name : List ℕ) → Covers modules left done
    → Goes modules done name
go modules zero left bound done name cover =
    turn modules done name (λ tree e f. let s = shorter name left (cover name tree f e) in absurd (omega (arith, s, bound)))
go modules (suc fuel) left bound done name cover =
    turn modules done name (λ tree e f.
    let s = shorter name left (cover name tree f e) in
    let fewer : length (without name left) ≤ fuel = omega (arith, s, bound) in
    go_on modules (without name left) (λ d n c. go modules fuel (without name left) fewer d n c) (links_of 1 tree) (done ++ name ∷ [])
    (covers_more modules left done name cover))

pub some_order : (modules : Modules) (names : List (List ℕ)) (main : List ℕ)
    → ((x : List ℕ) (tree : Plain) → modules x ≡ Some tree → is_among x names ≡ true) → (order : List (List ℕ)) × Reads modules [] main order
some_order modules names main finite = go modules (length names) names (omega (arith)) [] main (λ x tree is d. finite x tree is)

-- ---- All in it are modules

abbrev pub AreModules : Modules → List (List ℕ) → Type 0
AreModules modules [] = Unit {0}
AreModules modules (x ∷ xs) = ((tree : Plain) × (modules x ≡ Some tree)) × AreModules modules xs

one_more : (modules : Modules) (done : List (List ℕ)) (name : List ℕ) (tree : Plain) → modules name ≡ Some tree → AreModules modules done
    → AreModules modules (done ++ name ∷ [])
one_more modules [] name tree is ms = ((tree, is), tt)
one_more modules (x ∷ xs) name tree is ms = (ms.0, one_more modules xs name tree is ms.1)

mutual
  pub are_modules : {modules : Modules} {done after : List (List ℕ)} {name : List ℕ} → Reads modules done name after → AreModules modules done
      → AreModules modules after
  are_modules (read_already e) ms = ms
  are_modules (not_there e f) ms = ms
  are_modules {modules} {done} {after} {name} (reads tree e f rs) ms = are_modules_on rs (one_more modules done name tree f ms)

  are_modules_on : {modules : Modules} {done after : List (List ℕ)} {ls : List Link} → ReadsLinks modules done ls after → AreModules modules done
      → AreModules modules after
  are_modules_on no_link ms = ms
  are_modules_on (link r rs) ms = are_modules_on rs (are_modules r ms)

-- ---- With a module what it names

pub no_member : {X : Type 0} (x : X) → Contains [] x → ⊥
no_member x (k, below, e) = absurd (omega (arith, below))

pub member : {X : Type 0} (P : X → Type 0) (y : X) (xs : List X) (x : X) → Contains (y ∷ xs) x → P y → (Contains xs x → P x) → P x
member {X} P y xs x c p more = at (Contains-append_cases (y ∷ []) xs x c)
  where
    only : Contains [] x ⊎ (y ≡ x) → P x
    only (inl n) = absurd (no_member x n)
    only (inr e) = subst P e p

    at : Contains (y ∷ []) x ⊎ Contains xs x → P x
    at (inl a) = only (Contains-push_cases [] y x a)
    at (inr b) = more b

pub lands : {modules : Modules} {done after : List (List ℕ)} {name : List ℕ} → Reads modules done name after → (tree : Plain)
    → modules name ≡ Some tree → is_among name after ≡ true
lands (read_already e) tree is = e
lands (not_there e f) tree is = let n : None ≡ Some tree = sym f ∙ is in absurd (cc)
lands {modules} {done} {after} {name} (reads other e f rs) tree is = keeps_links rs name (added name done)

lands_among : {modules : Modules} {done after : List (List ℕ)} {ls : List Link} → ReadsLinks modules done ls after → (l : Link) → Contains ls l
    → (tree : Plain) → modules l.href ≡ Some tree → is_among l.href after ≡ true
lands_among no_link l c tree is = absurd (no_member l c)
lands_among {modules} {done} {after} (link {l = l0} {ls = ls} r rs) l c tree is =
    member (λ (k : Link). modules k.href ≡ Some tree → is_among k.href after ≡ true) l0 ls l c (λ t. keeps_links rs l0.href (lands r tree t))
    (λ d t. lands_among rs l d tree t) is

mutual
  pub closed : {modules : Modules} {done after : List (List ℕ)} {name : List ℕ} → Reads modules done name after → (x : List ℕ)
      → is_among x after ≡ true → is_among x done ≡ false → (l : Link) → Contains (links_in modules x) l → (tree : Plain)
      → modules l.href ≡ Some tree → is_among l.href after ≡ true
  closed (read_already e) x a d l c tree is = absurd (cc)
  closed (not_there e f) x a d l c tree is = absurd (cc)
  closed {modules} {done} {after} {name} (reads own e f rs) x a d l c tree is =
      split (is_among l.href after ≡ true) (is_among x (done ++ name ∷ []))
      (λ h. lands_among rs l (subst (λ (ls : List Link). Contains ls l) (ap (links_in modules) (last_is x name done h d) ∙ ap links_by f) c) tree is)
      (λ h. closed_links rs x a h l c tree is)

  closed_links : {modules : Modules} {done after : List (List ℕ)} {ls : List Link} → ReadsLinks modules done ls after → (x : List ℕ)
      → is_among x after ≡ true → is_among x done ≡ false → (l : Link) → Contains (links_in modules x) l → (tree : Plain)
      → modules l.href ≡ Some tree → is_among l.href after ≡ true
  closed_links no_link x a d l c tree is = absurd (cc)
  closed_links {modules} {done} {after} (link {between = between} r rs) x a d l c tree is =
      split (is_among l.href after ≡ true) (is_among x between) (λ h. keeps_links rs l.href (closed r x h d l c tree is))
      (λ h. closed_links rs x a h l c tree is)
