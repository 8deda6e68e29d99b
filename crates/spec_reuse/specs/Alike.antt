-- What relates two runs whose nodes are named by an N and by an M, and what they enter: nothing but the names of nodes may differ.
use Rattle.std.specs.Prelude.{◌≡◌}
use Rattle.spec_meaning.specs.Related.{Each, Bindings, Worlds}
use Rattle.spec_run.specs.Plan.{Target, UnitOf, BuiltIn}
use Rattle.spec_run.specs.Meaning.{NamedGlobal, Setting}
use Rattle.spec_reuse.specs.Among.{IsIn}
use Rattle.spec_reuse.specs.Instantiation.{Instantiation}

abbrev pub GlobalsAlike : {N M : Type 0} → (N → M → Type 0) → NamedGlobal N → NamedGlobal M → Type 0
GlobalsAlike R g f = (g.name ≡ f.name) × R g.element f.element

-- worlds that answer related questions alike and tell nodes apart alike, with related roots and globals
pub record SettingsAlike {N M : Type 0} (R : N → M → Type 0) (s : Setting N) (t : Setting M) : Type 0 where
  pub worlds : Worlds R s.ask t.ask
  pub told : (n o : N) (m p : M) → R n m → R o p → s.same n o ≡ t.same m p
  pub roots : R s.root t.root
  pub globals : Each (GlobalsAlike R) s.globals t.globals

abbrev pub TargetsAlike : {N M : Type 0} → (N → M → Type 0) → Target N → Target M → Type 0
TargetsAlike R (UnitOf n) (UnitOf m) = R n m
TargetsAlike R (BuiltIn mode) (BuiltIn other) = mode ≡ other
TargetsAlike R _ _ = ⊥

pub record EnterAlike {N M : Type 0} (R : N → M → Type 0) (i : Instantiation N) (j : Instantiation M) : Type 0 where
  pub target : TargetsAlike R i.call.target j.call.target
  pub node : R i.call.node j.call.node
  pub parameters : Each (Bindings R) i.call.parameters j.call.parameters
  pub position : i.call.position ≡ j.call.position
  pub size : i.call.size ≡ j.call.size
  pub ruling : i.call.ruling ≡ j.call.ruling
  pub below : i.below ≡ j.below

-- ---- Nodes of one world

-- one node, and one of these
abbrev pub IsOneOf : {N : Type 0} → (N → Type 0) → N → N → Type 0
IsOneOf P n m = (n ≡ m) × P n

-- a world that, asked of these nodes, names no others, whose root and globals are of these too
pub record NamesOnly {N : Type 0} (P : N → Type 0) (s : Setting N) : Type 0 where
  pub world : Worlds (IsOneOf P) s.ask s.ask
  pub root : P s.root
  pub globals : (g : NamedGlobal N) → IsIn g s.globals → P g.element

abbrev pub IsOneOfTarget : {N : Type 0} → (N → Type 0) → Target N → Type 0
IsOneOfTarget P (UnitOf element) = P element
IsOneOfTarget P (BuiltIn mode) = Unit {0}
