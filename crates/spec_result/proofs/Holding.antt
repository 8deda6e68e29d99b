-- What holds of an element's start at each step: its declarations are read as its scope, and its attributes mean what they are to mean.
use Rattle.std.proofs.Common.{◌≡◌, ◌∙◌, refl, sym, ap, ℕ, Bool, true, false, List, [], ◌∷◌, ◌++◌, None, Some, bytes_eq}
use Rattle.std.specs.Prelude.{◌||◌}
use Rattle.spec_document.specs.declared.usage.AttributeUse.TheVariants.{Declares, Names, NoName}
use Rattle.spec_document.specs.Scope.{Scope, bound}
use Rattle.spec_document.specs.Declaration.{PlainUse, is_there, use_of, declared, declared_all}
use Rattle.spec_document.specs.Forest.{Written}
use Rattle.spec_result.specs.Recovery.{NamespaceNode, Given}
use Rattle.spec_result.specs.Shape.{Opening, begun, declaration, declare, settle, needing, with_node, with_nodes, uri_in, is_bound_to}
use Rattle.spec_result.specs.Named.{IsPrefix, AreNodes}
use Rattle.spec_result.proofs.Qualified.{use_default, use_declares}
use Rattle.spec_result.proofs.Kept.{Keeps, all_kept, kept_then, same, uri_now, uri_kept, apart, chosen, settle_keeps, declare_keeps, node_keeps}

-- ---- Declarations

abbrev pub IsDeclaring : Written → Type 0
IsDeclaring d = (prefix : List ℕ) × (use_of d.name ≡ Declares prefix)

abbrev pub AllDeclare : List Written → Type 0
AllDeclare [] = Unit {0}
AllDeclare (d ∷ ds) = IsDeclaring d × AllDeclare ds

declare_more : (ds : List Written) (d : Written) → AllDeclare ds → IsDeclaring d → AllDeclare (ds ++ d ∷ [])
declare_more [] d h new = (new, tt)
declare_more (e ∷ ds) d h new = (h.0, declare_more ds d h.1 new)

declared_more : (ds : List Written) (d : Written) (s : Scope) → declared_all (ds ++ d ∷ []) s ≡ declared d (declared_all ds s)
declared_more [] d s = refl
declared_more (e ∷ ds) d s = declared_more ds d (declared e s)

declaration_reads : (p u : List ℕ) → IsPrefix p → use_of (declaration p u).name ≡ Declares p
declaration_reads [] u good = use_default
declaration_reads (c ∷ cs) u good = use_declares (c ∷ cs) good

abbrev declared_by : PlainUse → List ℕ → Scope → Scope
declared_by what value scope = elim what [ Declares prefix ↦ bound scope prefix value | Names name ↦ scope | NoName ↦ scope ]

declared_is : (p u : List ℕ) (s : Scope) → IsPrefix p → declared (declaration p u) s ≡ bound s p u
declared_is p u s good = ap (λ x. declared_by x u s) (declaration_reads p u good)

-- ---- Attributes

pub data Means (o : Opening) (w : Written) (a : Given) : Type 0 where
  bare : use_of w.name ≡ Names (record { prefix = None; local = a.local }) → a.uri ≡ [] → w.value ≡ a.value → Means o w a
  prefixed : (p : List ℕ) → use_of w.name ≡ Names (record { prefix = Some p; local = a.local }) → o.settled p ≡ true → uri_in o.scope p ≡ a.uri
      → is_there a.uri ≡ true → w.value ≡ a.value → Means o w a

abbrev pub AllMean : Opening → List Written → List Given → Type 0
AllMean o [] [] = Unit {0}
AllMean o (w ∷ ws) (a ∷ given) = Means o w a × AllMean o ws given
AllMean o _ _ = ⊥

means_kept : {o n : Opening} {w : Written} {a : Given} → Keeps o n → Means o w a → Means n w a
means_kept k (bare names none value) = bare names none value
means_kept k (prefixed p names settled uri there value) = prefixed p names (k.settled p settled) (k.uri p settled ∙ uri) there value

pub mean_kept : (o n : Opening) (ws : List Written) (given : List Given) → Keeps o n → AllMean o ws given → AllMean n ws given
mean_kept o n [] [] k h = tt
mean_kept o n (w ∷ ws) (a ∷ given) k h = (means_kept k h.0, mean_kept o n ws given k h.1)
mean_kept o n [] (a ∷ given) k h = absurd h
mean_kept o n (w ∷ ws) [] k h = absurd h

pub mean_more : (o : Opening) (ws : List Written) (given : List Given) (w : Written) (a : Given) → AllMean o ws given → Means o w a
    → AllMean o (ws ++ w ∷ []) (given ++ a ∷ [])
mean_more o [] [] w a h new = (new, tt)
mean_more o (v ∷ ws) (b ∷ given) w a h new = (h.0, mean_more o ws given w a h.1 new)
mean_more o [] (b ∷ given) w a h new = absurd h
mean_more o (v ∷ ws) [] w a h new = absurd h

-- ---- The start of an element

pub record Holds (outer : Scope) (o : Opening) (done : List Given) : Type 0 where
  pub reads : declared_all o.declarations outer ≡ o.scope
  pub declares : AllDeclare o.declarations
  pub bound : (p : List ℕ) → is_there p ≡ true → o.settled p ≡ true → is_there (uri_in o.scope p) ≡ true
  pub means : AllMean o o.attributes done

pub begun_holds : (outer : Scope) → Holds outer (begun outer) []
begun_holds outer = record { reads = refl; declares = tt; bound = λ p t h. absurd (cc); means = tt }

either : (P : Type 0) (a b : Bool) → (a || b) ≡ true → (a ≡ true → P) → (a ≡ false → b ≡ true → P) → P
either P true b e f g = f refl
either P false b e f g = g refl e

declare_holds : (outer : Scope) (p u : List ℕ) (o : Opening) (done : List Given) → IsPrefix p → (is_there p ≡ true → is_there u ≡ true)
    → o.settled p ≡ false → Holds outer o done → Holds outer (declare p u o) done
declare_holds outer p u o done good there n h =
    record {
      reads = declared_more o.declarations (declaration p u) outer ∙ ap (declared (declaration p u)) h.reads ∙ declared_is p u o.scope good;
      declares = declare_more o.declarations (declaration p u) h.declares (p, declaration_reads p u good);
      bound = λ q t s. either (is_there (uri_in (bound o.scope p u) q) ≡ true) (bytes_eq p q) (o.settled q) s
          (λ e. let is : p ≡ q = same p q e in
          ap (λ x. is_there (uri_in (bound o.scope p u) x)) (sym is) ∙ ap is_there (uri_now o.scope p u) ∙ there (ap is_there is ∙ t))
          (λ e settled. ap is_there (uri_kept o.scope p u q (apart p q o n settled)) ∙ h.bound q t settled);
      means = mean_kept o (declare p u o) o.attributes done (declare_keeps p u o n) h.means;
    }

pub needing_holds : (outer : Scope) (p u : List ℕ) (o : Opening) (done : List Given) → IsPrefix p → (is_there p ≡ true → is_there u ≡ true)
    → (is_bound_to o.scope p u ≡ false → o.settled p ≡ false) → Holds outer o done → Holds outer (needing p u o) done
needing_holds outer p u o done good there n h =
    chosen (λ x. Holds outer x done) (is_bound_to o.scope p u) o (declare p u o) (λ e. h) (λ e. declare_holds outer p u o done good there (n e) h)

pub settle_holds : (outer : Scope) (p : List ℕ) (o : Opening) (done : List Given) → (is_there p ≡ true → is_there (uri_in o.scope p) ≡ true)
    → Holds outer o done → Holds outer (settle p o) done
settle_holds outer p o done there h =
    record {
      reads = h.reads;
      declares = h.declares;
      bound = λ q t s. either (is_there (uri_in o.scope q) ≡ true) (bytes_eq p q) (o.settled q) s
          (λ e. let is : p ≡ q = same p q e in ap (λ x. is_there (uri_in o.scope x)) (sym is) ∙ there (ap is_there is ∙ t))
          (λ e settled. h.bound q t settled);
      means = mean_kept o (settle p o) o.attributes done (settle_keeps p o) h.means;
    }

neither : (a b : Bool) → (a || b) ≡ false → b ≡ false
neither true b e = absurd (cc)
neither false b e = e

node_holds : (outer : Scope) (node : NamespaceNode) (o : Opening) (done : List Given) → IsPrefix node.0 → (is_there node.0 ≡ true → is_there node.1 ≡ true)
    → Holds outer o done → Holds outer (with_node node o) done
node_holds outer node o done good there h =
    chosen (λ x. Holds outer x done) (is_bound_to o.scope node.0 node.1 || o.settled node.0) o (declare node.0 node.1 o) (λ e. h)
    (λ e. declare_holds outer node.0 node.1 o done good there (neither (is_bound_to o.scope node.0 node.1) (o.settled node.0) e) h)

pub nodes_hold : (outer : Scope) (nodes : List NamespaceNode) (o : Opening) (done : List Given) → AreNodes nodes → Holds outer o done
    → Holds outer (with_nodes nodes o) done
nodes_hold outer [] o done good h = h
nodes_hold outer (node ∷ nodes) o done good h = nodes_hold outer nodes (with_node node o) done good.2 (node_holds outer node o done good.0 good.1 h)

pub nodes_keep : (nodes : List NamespaceNode) (o : Opening) → Keeps o (with_nodes nodes o)
nodes_keep [] o = all_kept o
nodes_keep (node ∷ nodes) o = kept_then (node_keeps node o) (nodes_keep nodes (with_node node o))
