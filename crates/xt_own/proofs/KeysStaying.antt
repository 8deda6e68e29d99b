-- Keys that stay.
use Rattle.std.proofs.Common.{◌≡◌, ◌<◌, ℕ, Bool, true, false, not, ◌||◌, List, [], ◌∷◌, ◌++◌, map, length, get_or, Option, None, Some, zero, suc, refl, sym, ap, subst, ◌∙◌, arith}
use Rattle.std.specs.Prelude.{bytes_eq, IfOk, IfSome, Result, Ok, Err, Vec}
use Rattle.std.specs.Global.{Global}
use Rattle.std.specs.declared.rc.Rc.{Rc}
use Rattle.std.specs.List.{list_any}
use Rattle.std.proofs.lemmas.Bool.{and_parts}
use Rattle.std.proofs.lemmas.Slice.Eq.{bytes_eq-Decides}
use Rattle.spec_document.specs.Forest.{Document}
use Rattle.spec_document.specs.Name.{Expanded, same_name}
use Rattle.spec_document.specs.Order.{entries_of}
use Rattle.spec_meaning.specs.Question.{Step, Text, Name, Place, Order, Key, Choice, Copy, Unit as UnitOf, External, SomeNodes}
use Rattle.spec_run.specs.Documents.{Parameters}
use Rattle.spec_node.specs.Naming.{ref_of}
use Rattle.spec_node.specs.declared.node_ref.NodeRef.{NodeRef}
use Rattle.xt_keys.specs.View.{AreNodesApart}
use Rattle.xt_touch.specs.View.{since_of}
use Rattle.xt_touch.specs.declared.since.Since.{Since}
use Rattle.xt_world.specs.View.{truth_in}
use Rattle.xt_world.specs.declared.stylesheet.Stylesheet.{Stylesheet}
use Rattle.xt_spared.specs.View.{Ask, Agrees, KeysStay, is_text_among, stays_at}
use Rattle.xt_spared.specs.declared.spared.KeyThatStays.{KeyThatStays}
use Rattle.xt_own.specs.Keys.{AllKeys, AnswersStay, AreNodesOf, Goes, IsKeyOf, Stays, having_in, nodes_of}
use Rattle.xt_own.specs.declared.own_key.OwnKey.{OwnKey}
use Rattle.xt_own.specs.declared.own_node.OwnNode.{OwnNode}
use Rattle.xt_own.specs.declared.stay.KeptKey.{KeptKey}
use Rattle.xt_own.proofs.KeyAnswers.{answers_so}
use Rattle.xt_own.proofs.SideBySide.{all_passed}

-- all nodes of now are passed, and none of before is left
pub key_stays : (s : Stylesheet) (p : Parameters) (d : Document ℕ) (since : Since) (was : Ask) (old new : OwnKey) (but : List (List ℕ)) → new.name ≡ old.name
    → nodes_of new.nodes.items ≡ map ref_of (entries_of d) → AreNodesApart (map ref_of (entries_of d))
    → Goes s d since old.name [] old.nodes.items [] but [] new.nodes.items
    → IsKeyOf s was old → Agrees was (truth_in s p d) (since_of since) → Stays s was (truth_in s p d) new but
key_stays s p d since was old new but named all apart goes known agrees =
    let ask : Ask = truth_in s p d in
    let answer : List ℕ → List NodeRef = λ text. having_in text old.nodes.items in
    let passed = goes was p answer agrees (record { old = known.nodes; new = tt; same = λ text other. refl }) in
    let P : Expanded → Type 0 = λ n. AreNodesOf s ask n new.nodes.items in
    let nodes : AreNodesOf s ask new.name new.nodes.items = subst P (sym named) passed.new in
    let answers = answers_so s p d new.name new.nodes.items all apart nodes in
    record {
      known = record { nodes = nodes; answers = answers };
      answers = λ text other.
          answers text
          ∙ ap (λ (ns : List NodeRef). SomeNodes ns) (sym (all_passed s was ask old.name answer but new.nodes.items passed text other))
          ∙ sym (known.answers text)
          ∙ ap (λ (n : Expanded). was (Key n text)) (sym named);
    }

pub key_stays_so : (s : Stylesheet) (p : Parameters) (d : Document ℕ) (since : Since) (was : Ask) (old new : OwnKey) (but others : Vec (List ℕ) Global)
    (nodes : List NodeRef) (before : List (Rc OwnNode Global)) (found : Vec (Rc OwnNode Global) Global) → new.name ≡ old.name → new.nodes ≡ found → others ≡ but
    → before ≡ old.nodes.items → nodes_of found.items ≡ nodes → nodes ≡ map ref_of (entries_of d) → AreNodesApart nodes
    → Goes s d since old.name [] before [] but.items [] found.items → IsKeyOf s was old → Agrees was (truth_in s p d) (since_of since)
    → Stays s was (truth_in s p d) new others.items
key_stays_so s p d since was old new but others nodes before found named held values slice same all apart goes known agrees =
    let A : List NodeRef → Type 0 = AreNodesApart in
    let B : List (Rc OwnNode Global) → Type 0 = λ l. Goes s d since old.name [] l [] but.items [] found.items in
    let F : Vec (Rc OwnNode Global) Global → Type 0 = λ v. Goes s d since old.name [] old.nodes.items [] but.items [] v.items in
    let V : Vec (List ℕ) Global → Type 0 = λ v. Stays s was (truth_in s p d) new v.items in
    subst V (sym values)
    (key_stays s p d since was old new but.items named (ap (λ (v : Vec (Rc OwnNode Global) Global). nodes_of v.items) held ∙ same ∙ all) (subst A all apart)
    (subst F (sym held) (subst B slice goes)) known agrees)

-- ---- Some keys

pub key_among : (s : Stylesheet) (was : Ask) (keys : List OwnKey) (i : ℕ) (key : OwnKey) → AllKeys s was keys → i < length keys → key ≡ get_or keys i key → IsKeyOf s was key
key_among s was [] i key all within is = absurd (omega (arith, within))
key_among s was (k ∷ keys) zero key all within is = let P : OwnKey → Type 0 = IsKeyOf s was in subst P (sym is) all.0
key_among s was (k ∷ keys) (suc i) key all within is = key_among s was keys i key all.1 (omega (arith, within)) is

names_same : (a b : Expanded) → same_name a b ≡ true → a ≡ b
names_same a b h =
    let parts = and_parts (bytes_eq a.uri b.uri) (bytes_eq a.local b.local) h in
    λ i. record { uri = (bytes_eq-Decides a.uri b.uri).0 parts.0 i; local = (bytes_eq-Decides a.local b.local).0 parts.1 i }

not_true : (b : Bool) → not b ≡ true → b ≡ false
not_true true h = absurd (cc)
not_true false h = refl

-- one key that stays
one_stays_at : (was ask : Ask) (k : KeyThatStays) → AnswersStay was ask k.name k.but.items → (name : Expanded) (value : List ℕ) → stays_at name value k ≡ true
    → ask (Key name value) ≡ was (Key name value)
one_stays_at was ask k stays name value h =
    let parts = and_parts (same_name name k.name) (not (is_text_among value k.but.items)) h in
    let same = names_same name k.name parts.0 in
    ap (λ (n : Expanded). ask (Key n value)) same ∙ stays value (not_true _ parts.1) ∙ ap (λ (n : Expanded). was (Key n value)) (sym same)

more_stay_at : (was ask : Ask) (keys : List KeyThatStays) (k : KeyThatStays) (name : Expanded) (value : List ℕ)
    → (list_any (stays_at name value) keys ≡ true → ask (Key name value) ≡ was (Key name value)) → AnswersStay was ask k.name k.but.items
    → list_any (stays_at name value) (keys ++ k ∷ []) ≡ true → ask (Key name value) ≡ was (Key name value)
more_stay_at was ask [] k name value stay stays h = one_stays_at was ask k stays name value (only (stays_at name value k) h)
  where
    only : (b : Bool) → (b || false) ≡ true → b ≡ true
    only true h = refl
    only false h = absurd (cc)
more_stay_at was ask (x ∷ keys) k name value stay stays h = by (stays_at name value x) stay (more_stay_at was ask keys k name value) h
  where
    by : (b : Bool) → ((b || list_any (stays_at name value) keys) ≡ true → ask (Key name value) ≡ was (Key name value))
        → ((list_any (stays_at name value) keys ≡ true → ask (Key name value) ≡ was (Key name value)) → AnswersStay was ask k.name k.but.items
        → list_any (stays_at name value) (keys ++ k ∷ []) ≡ true → ask (Key name value) ≡ was (Key name value))
        → (b || list_any (stays_at name value) (keys ++ k ∷ [])) ≡ true → ask (Key name value) ≡ was (Key name value)
    by true stay rest h = stay refl
    by false stay rest h = rest stay stays h

-- with one more, all stay that stayed, and what is asked of it
pub one_more_stays : (was ask : Ask) (keys : List KeyThatStays) (k : KeyThatStays) → KeysStay was ask keys → AnswersStay was ask k.name k.but.items
    → KeysStay was ask (keys ++ k ∷ [])
one_more_stays was ask keys k stay stays (Step node axis test) e = absurd (cc)
one_more_stays was ask keys k stay stays (Text node) e = absurd (cc)
one_more_stays was ask keys k stay stays (Name node) e = absurd (cc)
one_more_stays was ask keys k stay stays (Place node) e = absurd (cc)
one_more_stays was ask keys k stay stays (Order nodes) e = absurd (cc)
one_more_stays was ask keys k stay stays (Key name value) e = more_stay_at was ask keys k name value (stay (Key name value)) stays e
one_more_stays was ask keys k stay stays (Choice node mode candidates) e = absurd (cc)
one_more_stays was ask keys k stay stays (Copy node) e = absurd (cc)
one_more_stays was ask keys k stay stays (UnitOf element) e = absurd (cc)
one_more_stays was ask keys k stay stays (External name) e = absurd (cc)

-- no key is one of none
pub no_keys : (was ask : Ask) → KeysStay was ask []
no_keys was ask (Step node axis test) h = absurd (cc)
no_keys was ask (Text node) h = absurd (cc)
no_keys was ask (Name node) h = absurd (cc)
no_keys was ask (Place node) h = absurd (cc)
no_keys was ask (Order nodes) h = absurd (cc)
no_keys was ask (Key name value) h = absurd (cc)
no_keys was ask (Choice node mode candidates) h = absurd (cc)
no_keys was ask (Copy node) h = absurd (cc)
no_keys was ask (UnitOf element) h = absurd (cc)
no_keys was ask (External name) h = absurd (cc)

-- what is so of each that has this name, these nodes and these values
pub all_kept : {E : Type 0} {P : KeptKey → Type 0} (r : Result (Option KeptKey) E) (name : Expanded) (nodes : Vec (Rc OwnNode Global) Global) (but : Vec (List ℕ) Global)
    → ((kept : KeptKey) → kept.key.name ≡ name → kept.key.nodes ≡ nodes → kept.but ≡ but → P kept)
    → IfOk r (λ o. IfSome o (λ kept. kept.key.name ≡ name)) → IfOk r (λ o. IfSome o (λ kept. kept.key.nodes ≡ nodes))
    → IfOk r (λ o. IfSome o (λ kept. kept.but ≡ but)) → IfOk r (λ o. IfSome o P)
all_kept (Ok (Some kept)) name nodes but so named held values = so kept named held values
all_kept (Ok None) name nodes but so named held values = tt
all_kept (Err e) name nodes but so named held values = tt
