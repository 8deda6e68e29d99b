-- The globals of a stylesheet, one unit after another.
use Rattle.std.proofs.Common.{◌≡◌, ℕ, arith, List, [], ◌∷◌, ◌++◌, Bool, true, false, cond, length, refl, sym, ap, ◌∙◌}
use Rattle.std.specs.Prelude.{◌||◌, not}
use Rattle.std.specs.List.{flat_map, list_any}
use Rattle.std.specs.declared.rc.Rc.{Rc}
use Rattle.std.specs.Global.{Global}
use Rattle.std.proofs.lemmas.List.{append_assoc, map-append}
use Rattle.spec_stylesheet.specs.Place.{Place}
use Rattle.spec_stylesheet.specs.Sheet.{Unit as Piece, Declared, AGlobal, GlobalBinding}
use Rattle.spec_document.specs.Name.{same_name}
use Rattle.spec_run.specs.World.{global_by, global_in, is_global}
use Rattle.xt_syntax.specs.SheetView.{unit_of}
use Rattle.xt_syntax.specs.declared.unit.Unit.{Unit}
use Rattle.xt_world.specs.Indexed.{AreNamed, is_among, is_name}
use Rattle.xt_world.specs.Numbered.{element_called}
use Rattle.xt_world.specs.Units.{global_before, plain_units}
use Rattle.xt_world.specs.declared.key.NameKey.{NameKey}

either : (numbers : Place → ℕ) (u : Piece) (later : List Piece) (g : GlobalBinding) (b : Bool) → u.declared ≡ AGlobal g
    → list_any (λ other. is_global g.binding.name other.declared) later ≡ b
    → global_before numbers u later ≡ cond b [] (record { name = g.binding.name; element = element_called numbers u.site.place } ∷ []) ++ []
either numbers u later g b is h =
    ap (λ (d : Declared). flat_map (global_by (element_called numbers) u later) (global_in d)) is
    ∙ ap (λ b. cond b [] (record { name = g.binding.name; element = element_called numbers u.site.place } ∷ []) ++ []) h

-- one that a later one hides
pub hidden : (numbers : Place → ℕ) (u : Piece) (later : List Piece) (g : GlobalBinding) → u.declared ≡ AGlobal g
    → list_any (λ other. is_global g.binding.name other.declared) later ≡ true → global_before numbers u later ≡ []
hidden numbers u later g is h = either numbers u later g true is h

-- the last of its name
pub last : (numbers : Place → ℕ) (u : Piece) (later : List Piece) (g : GlobalBinding) → u.declared ≡ AGlobal g
    → list_any (λ other. is_global g.binding.name other.declared) later ≡ false
    → global_before numbers u later ≡ record { name = g.binding.name; element = element_called numbers u.site.place } ∷ []
last numbers u later g is h = either numbers u later g false is h

-- ---- From the last on

pub none_named : (keys : List NameKey) → keys ≡ [] → AreNamed keys []
none_named keys e key = ap (λ (ks : List NameKey). is_among ks key) e

pub parted : (us : List Piece) (left before : List (Rc Unit Global)) (rest : List Piece) (u : Rc Unit Global) → left ≡ before ++ u ∷ []
    → plain_units left ++ rest ≡ us → plain_units before ++ unit_of u.value ∷ rest ≡ us
parted us left before rest u last whole =
    sym (append_assoc (plain_units before) (unit_of u.value ∷ []) rest)
    ∙ ap (λ (l : List Piece). l ++ rest) (sym (map-append (λ (r : Rc Unit Global). unit_of r.value) before (u ∷ [])) ∙ ap plain_units (sym last))
    ∙ whole

pub all_left : (us : List Piece) (left : List (Rc Unit Global)) (rest : List Piece) → length left ≡ 0 → plain_units left ++ rest ≡ us → rest ≡ us
all_left us [] rest none whole = whole
all_left us (u ∷ left) rest none whole = absurd (omega (arith, none))

either_way : (b c : Bool) → cond b true c ≡ (b || c)
either_way true c = refl
either_way false c = refl

-- a global, whose name is added
pub one_named : (old new : List NameKey) (key : NameKey) (u : Piece) (rest : List Piece) (g : GlobalBinding) → u.declared ≡ AGlobal g
    → key.name.now ≡ g.binding.name → ((q : NameKey) → is_among new q ≡ cond (is_name key q) true (is_among old q)) → AreNamed old rest
    → AreNamed new (u ∷ rest)
one_named old new key u rest g is name added named q =
    let after = list_any (λ (other : Piece). is_global q.name.now other.declared) rest in
    added q ∙ (λ i. cond (is_name key q) true (named q i)) ∙ either_way (is_name key q) after
    ∙ ap (λ n. same_name n q.name.now || after) name
    ∙ ap (λ (d : Declared). is_global q.name.now d || after) (sym is)

-- whether it is the last of its name
pub is_later : (old : List NameKey) (key : NameKey) (rest : List Piece) (g : GlobalBinding) (b : Bool) → key.name.now ≡ g.binding.name
    → AreNamed old rest → b ≡ not (is_among old key) → list_any (λ other. is_global g.binding.name other.declared) rest ≡ not b
is_later old key rest g b name named new =
    ap (λ n. list_any (λ (other : Piece). is_global n other.declared) rest) (sym name) ∙ sym (named key) ∙ twice (is_among old key) ∙ sym (ap not new)
  where
    twice : (c : Bool) → c ≡ not (not c)
    twice true = refl
    twice false = refl
