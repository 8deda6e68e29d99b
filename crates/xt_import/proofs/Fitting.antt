-- A module that has no fault, and leads to none with one, is held with all that it leads to, and none is deeper than there are modules.
use Rattle.std.proofs.Common.{◌≡◌, ◌+◌, ◌≤◌, ℕ, zero, suc, Bool, true, false, cond, if◌then◌else◌, List, [], ◌∷◌, ◌++◌, length, map, IsSome, is_some, Option, None, Some, bytes_eq, string_bytes, ◌||◌, refl, sym, ap, subst, arith}
use Rattle.std.proofs.lemmas.List.{length-map}
use Rattle.std.proofs.lemmas.List.Elements.{Contains-append_left, Contains-append_right, Contains-push}
use Rattle.std.specs.List.{All, Contains}
use Rattle.std.specs.Map.{lookup}
use Rattle.std.specs.Option.{option_map}
use Rattle.std.specs.Str.{chars}
use Rattle.std.specs.declared.alloc.Global.{Global}
use Rattle.std.specs.declared.string.String.{String}
use Rattle.spec_document.specs.Forest as spec
use Rattle.spec_document.specs.Forest.{Document, Written, Forest, Empty, Node, Plain}
use Rattle.spec_structure.specs.declared.element.XsltElement.TheVariants as xsl
use Rattle.spec_structure.specs.declared.content.ContentKind.TheVariants as content
use Rattle.spec_structure.specs.Inside.{Inside, outside, inside_of, Role, OfXslt, OfExtension, OfOther, role_of}
use Rattle.spec_structure.specs.Structure.{Link, fault_of, document_fault, fault_with, stylesheet_code, no_stylesheet, is_stylesheet, links_of, links_below, links_among, link_of, link_by, href_in}
use Rattle.spec_structure.specs.Modules.{Modules, links_in, links_by, is_among, Reads, Reaches, itself, through, HasCode, FirstFault, no_fault, later, Imports, Includes, top_level_of, top_levels_among, top_levels_below, top_levels_of, href_by}
use Rattle.xt_import.specs.Gathering.{LevelFits, LevelsFit, FitsBy, Fits}
use Rattle.xt_import.specs.Parts.{IsFaultless}
use Rattle.xt_import.specs.View.{is_name, modules_in, plain_of}
use Rattle.xt_import.proofs.Keys.{equal}
use Rattle.xt_import.proofs.Names.{not_equal, without, shorter, left_among}
use Rattle.xt_import.proofs.Reaching.{decides, member, no_member}

-- ---- What the top-level elements name, links name

abbrev Linked : (List ℕ → Type 0) → List Link → Type 0
Linked P ls = (l : Link) → Contains ls l → P l.href

import_fits : (P : List ℕ → Type 0) (path : List ℕ) (o : Option (List ℕ)) → Linked P (link_by path true o) → LevelFits P (href_by Imports path o)
import_fits P path None linked = tt
import_fits P path (Some href) linked =
    let l : Link = record { path = path; is_import = true; href = href } in linked l (Contains-push [] l)

include_fits : (P : List ℕ → Type 0) (path : List ℕ) (o : Option (List ℕ)) → Linked P (link_by path false o) → LevelFits P (href_by Includes path o)
include_fits P path None linked = tt
include_fits P path (Some href) linked =
    let l : Link = record { path = path; is_import = false; href = href } in linked l (Contains-push [] l)

level_fits : (P : List ℕ → Type 0) (inside : Inside) (path : List ℕ) (attributes : List Written) (role : Role)
    → Linked P (link_of inside path attributes role) → LevelFits P (top_level_of inside path attributes role)
level_fits P inside path attributes (OfXslt (Some xsl.Import)) linked = import_fits P path (href_in inside.scope attributes) linked
level_fits P inside path attributes (OfXslt (Some xsl.Include)) linked = include_fits P path (href_in inside.scope attributes) linked
level_fits P inside path attributes _ linked = tt

fit_among : (P : List ℕ → Type 0) (inside : Inside) (path : List ℕ) (position : ℕ) (f : Plain)
    → Linked P (links_among inside path position f) → LevelsFit P (top_levels_among inside path position f)
fit_among P inside path position Empty linked = tt
fit_among P inside path position (Node label (spec.Text text) children siblings) linked = fit_among P inside path (position + 1) siblings linked
fit_among P inside path position (Node label (spec.Comment text) children siblings) linked = fit_among P inside path (position + 1) siblings linked
fit_among P inside path position (Node label (spec.Instruction target text) children siblings) linked =
    fit_among P inside path (position + 1) siblings linked
fit_among P inside path position (Node label (spec.Element name attributes) children siblings) linked =
    let inner = inside_of inside name attributes in
    let here = link_of inner (path ++ position ∷ []) attributes (role_of inner name) in
    let more = links_among inside path (position + 1) siblings in (
      level_fits P inner (path ++ position ∷ []) attributes (role_of inner name) (λ l c. linked l (Contains-append_left here more l c)),
      fit_among P inside path (position + 1) siblings (λ l c. linked l (Contains-append_right here more l c)),
    )

fit_below : (P : List ℕ → Type 0) (inside : Inside) (path : List ℕ) (role : Role) (attributes : List Written) (children : Plain)
    → document_fault inside path role attributes children ≡ None → Linked P (links_below inside path role children)
    → LevelsFit P (top_levels_below inside path role children)
fit_below P inside path (OfXslt None) attributes children sound linked = absurd (cc)
fit_below P inside path (OfXslt (Some element)) attributes children sound linked = by (is_stylesheet element) sound linked
  where
    by : (b : Bool) → (if b then fault_with inside content.Imports path (stylesheet_code inside element attributes) children else no_stylesheet path) ≡ None
        → Linked P (if b then links_among inside path 1 children else []) → LevelsFit P (top_levels_among inside path 1 children)
    by true sound linked = fit_among P inside path 1 children linked
    by false sound linked = absurd (cc)
fit_below P inside path OfExtension attributes children sound linked = (tt, tt)
fit_below P inside path (OfOther uri) attributes children sound linked = (tt, tt)

fit_all : (P : List ℕ → Type 0) (position : ℕ) (f : Plain) → fault_of position f ≡ None → Linked P (links_of position f)
    → LevelsFit P (top_levels_of position f)
fit_all P position Empty sound linked = tt
fit_all P position (Node label (spec.Text text) children siblings) sound linked = fit_all P (position + 1) siblings sound linked
fit_all P position (Node label (spec.Comment text) children siblings) sound linked = fit_all P (position + 1) siblings sound linked
fit_all P position (Node label (spec.Instruction target text) children siblings) sound linked = fit_all P (position + 1) siblings sound linked
fit_all P position (Node label (spec.Element name attributes) children siblings) sound linked =
    let inner = inside_of outside name attributes in fit_below P inner (position ∷ []) (role_of inner name) attributes children sound linked

-- ---- Links without a fault

no_code : {modules : Modules} {name : List ℕ} {ls : List Link} → FirstFault modules name ls None → (l : Link) → Contains ls l → HasCode modules name l None
no_code no_fault l c = absurd (no_member l c)
no_code {modules} {name} (later {l = l0} {ls = ls} h hs) l c =
    member (λ (k : Link). HasCode modules name k None) l0 ls l c h (λ d. no_code hs l d)

in_module : {modules : Modules} {name : List ℕ} (w : IsFaultless modules name) (l : Link) → Contains (links_of 1 w.tree) l → Contains (links_in modules name) l
in_module w l c = subst (λ (o : Option Plain). Contains (links_by o) l) (sym w.is) c

of_module : {modules : Modules} {name : List ℕ} (w : IsFaultless modules name) (l : Link) → Contains (links_in modules name) l → Contains (links_of 1 w.tree) l
of_module w l c = subst (λ (o : Option Plain). Contains (links_by o) l) w.is c

-- ---- All that is reached is without a fault

abbrev AllFaultless : Modules → List ℕ → Type 0
AllFaultless modules name = (x : List ℕ) → Reaches modules name x → IsFaultless modules x

one_of : (P : List ℕ → Type 0) (x : List ℕ) (names : List (List ℕ)) → All P names → is_among x names ≡ true → P x
one_of P x [] all h = absurd (cc)
one_of P x (n ∷ ns) all h = by (bytes_eq x n) refl h (one_of P x ns (λ k d below. all (suc k) d (omega (arith, below))))
  where
    by : (b : Bool) → bytes_eq x n ≡ b → (b || is_among x ns) ≡ true → (is_among x ns ≡ true → P x) → P x
    by true e h more = subst P (sym (equal x n e)) (all 0 x (omega arith))
    by false e h more = more h

leads_on : {modules : Modules} {from to : List ℕ} → Reaches modules from to → (l : Link) → Contains (links_in modules to) l → Reaches modules from l.href
leads_on itself l c = through l c itself
leads_on (through k d r) l c = through k d (leads_on r l c)

there : (o : Option Plain) (tree : Plain) → o ≡ Some tree → IsSome o
there o tree is = ap is_some is

faultless : {modules : Modules} {main a x : List ℕ} {names : List (List ℕ)} → Reads modules [] main names → All (IsFaultless modules) names
    → Reaches modules main a → IsSome (modules a) → Reaches modules a x → IsFaultless modules x
faultless {modules} {main} {a} {x} {names} order all to_a s itself = one_of (IsFaultless modules) a names all ((decides order s).1 to_a)
faultless {modules} {main} {a} {x} {names} order all to_a s (through l c r) =
    let w = one_of (IsFaultless modules) a names all ((decides order s).1 to_a) in
    let h = no_code w.links l (of_module w l c) in
    faultless order all (leads_on to_a l c) (there (modules l.href) h.0 h.1) r

-- ---- Nothing is deeper than there are modules

abbrev Covered : Modules → List (List ℕ) → List ℕ → Type 0
Covered modules left name = (x : List ℕ) → Reaches modules name x → is_among x left ≡ true

fits_within : (modules : Modules) (depth : ℕ) (left : List (List ℕ)) → length left ≤ depth → (name : List ℕ) → Covered modules left name
    → AllFaultless modules name → Fits modules depth name
fits_within modules zero left bound name cover well = let s = shorter name left (cover name itself) in absurd (omega (arith, s, bound))
fits_within modules (suc depth) left bound name cover well =
    let w = well name itself in
    let s = shorter name left (cover name itself) in
    let fewer : length (without name left) ≤ depth = omega (arith, s, bound) in
    subst (λ (o : Option Plain). FitsBy (Fits modules depth) o) (sym w.is)
    (fit_all (Fits modules depth) 1 w.tree w.structure
    (λ l c. fits_within modules depth (without name left) fewer l.href
    (λ x r. left_among x name left (cover x (through l (in_module w l c) r))
    (not_equal name x (λ same. (no_code w.links l c).2 (subst (λ (y : List ℕ). Reaches modules l.href y) (sym same) r))))
    (λ x r. well x (through l (in_module w l c) r))))

abbrev keys : List (String Global × Document ℕ) → List (List ℕ)
keys entries = map (λ e. chars (string_bytes e.0)) entries

among_keys : (entries : List (String Global × Document ℕ)) (x : List ℕ) (tree : Plain) → modules_in entries x ≡ Some tree → is_among x (keys entries) ≡ true
among_keys [] x tree is = absurd (cc)
among_keys (e ∷ es) x tree is = by (is_name x e.0) is (among_keys es x tree)
  where
    by : (b : Bool) → option_map plain_of (cond b (Some e.1) (lookup (is_name x) es)) ≡ Some tree
        → (modules_in es x ≡ Some tree → is_among x (keys es) ≡ true) → (b || is_among x (keys es)) ≡ true
    by true is more = refl
    by false is more = more is

pub all_fit : (entries : List (String Global × Document ℕ)) (main : List ℕ) (names : List (List ℕ)) → Reads (modules_in entries) [] main names
    → All (IsFaultless (modules_in entries)) names → IsSome (modules_in entries main) → Fits (modules_in entries) (length entries) main
all_fit entries main names order all s =
    let modules = modules_in entries in
    let well : (x : List ℕ) → Reaches modules main x → IsFaultless modules x = λ x r. faultless order all itself s r in
    let long : length (keys entries) ≡ length entries = length-map entries (λ e. chars (string_bytes e.0)) in
    fits_within modules (length entries) (keys entries) (omega (arith, long)) main
    (λ x r. let w = well x r in among_keys entries x w.tree w.is) well
