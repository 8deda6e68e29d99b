-- Programs that go on with entries, and what a run of them says of the entries before.
use Rattle.std.proofs.Common.{◌≡◌, ◌<◌, ℕ, ◌+◌, Bool, List, [], ◌∷◌, ◌++◌, map, length, drop, get_or, cond, Result, Ok, Err, refl, sym, ap, subst, ◌∙◌}
use Rattle.spec_document.specs.Name.{Expanded, same_name}
use Rattle.spec_meaning.specs.Question.{Refusal}
use Rattle.spec_meaning.specs.Program.{Wanted, Supply, Program, Give, Refuse, Ask, Need, then, State, Said, Gives, Refuses, Lacks, Ending, run}
use Rattle.spec_transform.specs.Key.{KeyAt, Entry, entry, indexed, indexed_by, key_in, values_at}
use Rattle.spec_node.specs.declared.node_ref.NodeRef.{NodeRef}
use Rattle.spec_node.specs.Naming.{same_ref}
use Rattle.xt_syntax.specs.SheetView.{declared_of, unit_of}
use Rattle.xt_syntax.specs.declared.unit.Key.{Key}
use Rattle.xt_syntax.specs.declared.unit.Unit.{Unit}
use Rattle.xt_syntax.specs.declared.unit.Declared.TheVariants as forms
use Rattle.xt_questions.specs.declared.fault.EvalFault.{EvalFault}
use Rattle.xt_questions.specs.declared.fault.EvalFault.TheVariants.{Memory, Refused, Wants}
use Rattle.xt_questions.specs.Runs.{Runs, Continues, itself}
use Rattle.xt_questions.proofs.Steps.{follow, run-then, runs_gives, goes_on, next_turn}
use Rattle.xt_match.proofs.Together.{then_then, continues_as, runs_as}
use Rattle.xt_keys.specs.View.{Fills, all_texts, key_at}

pub given_on : {N A B : Type 0} (v : A) (k : A → Program N B) → then (Give v) k ≡ k v
unfolding then
given_on v k = refl

pub then_give : {N A : Type 0} (p : Program N A) → then p (λ x. Give x) ≡ p
unfolding then
then_give (Give v) = refl
then_give (Refuse w) = refl
then_give (Ask q next) = λ i. Ask q (λ a. then_give (next a) i)
then_give (Need w next) = λ i. Need w (λ g. then_give (next g) i)

-- a value that is made of what was made of another
pub made_of : {N A B C : Type 0} (p : Program N A) (f : A → B) (g : B → C) → then (then p (λ x. Give (f x))) (λ y. Give (g y)) ≡ then p (λ x. Give (g (f x)))
made_of p f g = then_then p (λ x. Give (f x)) (λ y. Give (g y)) ∙ (λ i. then p (λ x. given_on (f x) (λ y. Give (g y)) i))

-- some keys, and then others
pub indexed_append : {N : Type 0} (same : N → N → Bool) (ks ls : List KeyAt) (nodes : List N) (done : List (Entry N))
    → indexed same (ks ++ ls) nodes done ≡ then (indexed same ks nodes done) (λ more. indexed same ls nodes more)
indexed_append same [] ls nodes done = sym (given_on done (λ more. indexed same ls nodes more))
indexed_append same (k ∷ ks) ls nodes done =
    (λ i. then (indexed_by same k nodes done) (λ more. indexed_append same ks ls nodes more i))
    ∙ sym (then_then (indexed_by same k nodes done) (λ more. indexed same ks nodes more) (λ more. indexed same ls nodes more))

-- ---- A program whose value is made of another ended with that one

pub record EndsWith {N A B : Type 0} (supply : Supply N) (depth : ℕ) (p : Program N A) (f : A → B) (s t : State N) (v : B) : Type 0 where
  pub value : A
  pub ran : run supply depth p s ≡ record { said = Gives value; state = t }
  pub is : f value ≡ v

abbrev value_or : {A : Type 0} → A → Said A → A
value_or d (Gives v) = v
value_or d (Refuses w) = d
value_or d (Lacks w) = d

follows : {N A B : Type 0} (supply : Supply N) (depth : ℕ) (p : Program N A) (k : A → Program N B) (s : State N) (said : Said A) (u : State N) (e : Ending N B)
    → run supply depth p s ≡ record { said = said; state = u } → run supply depth (then p k) s ≡ e → follow supply depth k said u ≡ e
follows {N} {A} supply depth p k s said u e first all =
    sym (run-then supply depth p k s ∙ ap (λ (d : Ending N A). follow supply depth k d.said d.state) first) ∙ all

pub ends_with : {N A B : Type 0} (supply : Supply N) (depth : ℕ) (p : Program N A) (f : A → B) (s t : State N) (v : B)
    → run supply depth (then p (λ x. Give (f x))) s ≡ record { said = Gives v; state = t } → EndsWith supply depth p f s t v
ends_with {N} {A} {B} supply depth p f s t v h = by (run supply depth p s).said (run supply depth p s).state refl
  where
    by : (said : Said A) (u : State N) → run supply depth p s ≡ record { said = said; state = u } → EndsWith supply depth p f s t v
    by (Gives x) u first =
        let both = follows supply depth p (λ x. Give (f x)) s (Gives x) u _ first h in
        record {
          value = x;
          ran = first ∙ ap (λ (d : Ending N B). record { said = Gives x; state = d.state }) both;
          is = ap (λ (d : Ending N B). value_or (f x) d.said) both;
        }
    by (Refuses w) u first =
        let apart : ◌≡◌ {A = Said B} (Refuses w) (Gives v) = ap (λ (d : Ending N B). d.said) (follows supply depth p (λ x. Give (f x)) s (Refuses w) u _ first h) in absurd (cc)
    by (Lacks w) u first =
        let apart : ◌≡◌ {A = Said B} (Lacks w) (Gives v) = ap (λ (d : Ending N B). d.said) (follows supply depth p (λ x. Give (f x)) s (Lacks w) u _ first h) in absurd (cc)

-- the same where it is refused, or lacks something
abbrev refusal_or : {A : Type 0} → Refusal → Said A → Refusal
refusal_or d (Gives v) = d
refusal_or d (Refuses w) = w
refusal_or d (Lacks w) = d

abbrev wanted_or : {A : Type 0} → Wanted → Said A → Wanted
wanted_or d (Gives v) = d
wanted_or d (Refuses w) = d
wanted_or d (Lacks w) = w

refused_before : {N A B : Type 0} (supply : Supply N) (depth : ℕ) (p : Program N A) (f : A → B) (s t : State N) (why : Refusal)
    → run supply depth (then p (λ x. Give (f x))) s ≡ record { said = Refuses why; state = t } → run supply depth p s ≡ record { said = Refuses why; state = t }
refused_before {N} {A} {B} supply depth p f s t why h = by (run supply depth p s).said (run supply depth p s).state refl
  where
    by : (said : Said A) (u : State N) → run supply depth p s ≡ record { said = said; state = u } → run supply depth p s ≡ record { said = Refuses why; state = t }
    by (Gives x) u first =
        let apart : ◌≡◌ {A = Said B} (Gives (f x)) (Refuses why) = ap (λ (d : Ending N B). d.said) (follows supply depth p (λ x. Give (f x)) s (Gives x) u _ first h) in absurd (cc)
    by (Refuses w) u first =
        let both = follows supply depth p (λ x. Give (f x)) s (Refuses w) u _ first h in
        first ∙ ap (λ (d : Ending N B). record { said = Refuses (refusal_or w d.said); state = d.state }) both
    by (Lacks w) u first =
        let apart : ◌≡◌ {A = Said B} (Lacks w) (Refuses why) = ap (λ (d : Ending N B). d.said) (follows supply depth p (λ x. Give (f x)) s (Lacks w) u _ first h) in absurd (cc)

lacked_before : {N A B : Type 0} (supply : Supply N) (depth : ℕ) (p : Program N A) (f : A → B) (s t : State N) (wanted : Wanted)
    → run supply depth (then p (λ x. Give (f x))) s ≡ record { said = Lacks wanted; state = t } → run supply depth p s ≡ record { said = Lacks wanted; state = t }
lacked_before {N} {A} {B} supply depth p f s t wanted h = by (run supply depth p s).said (run supply depth p s).state refl
  where
    by : (said : Said A) (u : State N) → run supply depth p s ≡ record { said = said; state = u } → run supply depth p s ≡ record { said = Lacks wanted; state = t }
    by (Gives x) u first =
        let apart : ◌≡◌ {A = Said B} (Gives (f x)) (Lacks wanted) = ap (λ (d : Ending N B). d.said) (follows supply depth p (λ x. Give (f x)) s (Gives x) u _ first h) in absurd (cc)
    by (Refuses w) u first =
        let apart : ◌≡◌ {A = Said B} (Refuses w) (Lacks wanted) = ap (λ (d : Ending N B). d.said) (follows supply depth p (λ x. Give (f x)) s (Refuses w) u _ first h) in absurd (cc)
    by (Lacks w) u first =
        let both = follows supply depth p (λ x. Give (f x)) s (Lacks w) u _ first h in
        first ∙ ap (λ (d : Ending N B). record { said = Lacks (wanted_or w d.said); state = d.state }) both

pub stopped_before : {A B X Y : Type 0} {v : X → A} {w : Y → B} {supply : Supply NodeRef} {depth : ℕ} {p : Program NodeRef A} (f : A → B) {s t : State NodeRef} (e : EvalFault)
    → Runs w supply depth (then p (λ x. Give (f x))) s t (Err e) → Runs v supply depth p s t (Err e)
stopped_before {supply = supply} {depth = depth} {p = p} f {s = s} {t = t} (Refused why) h = record { so = refused_before supply depth p f s t _ h.so }
stopped_before {supply = supply} {depth = depth} {p = p} f {s = s} {t = t} (Wants name) h = record { so = lacked_before supply depth p f s t _ h.so }
stopped_before f Memory h = record { so = h.so }

-- ---- The runs of loops: what was found so far is of some entries, and what is left is asked with those

pub record Filled {A : Type 0} (supply : Supply NodeRef) (left : List (Entry NodeRef) → Program NodeRef A) (nodes : List NodeRef) (found : List (List (List ℕ)))
    (s : State NodeRef) (q : Program NodeRef A) (t : State NodeRef) : Type 0 where
  pub done : List (Entry NodeRef)
  pub texts : found ≡ all_texts nodes done
  pub same : Continues supply 0 (left done) s q t

-- what is left of one key, and of some
abbrev pub left_of_key : List NodeRef → KeyAt → List NodeRef → List (Entry NodeRef) → Program NodeRef (List (List (List ℕ)))
left_of_key nodes key rest done = then (indexed_by same_ref key rest done) (λ entries. Give (all_texts nodes entries))

abbrev pub left_of_keys : List NodeRef → List KeyAt → List (Entry NodeRef) → Program NodeRef (List (List (List ℕ)))
left_of_keys nodes keys done = then (indexed same_ref keys nodes done) (λ entries. Give (all_texts nodes entries))

-- one node more
pub node_turn : {supply : Supply NodeRef} (nodes : List NodeRef) (key : KeyAt) (i : ℕ) (d : NodeRef) (done : List (Entry NodeRef)) {s t : State NodeRef}
    {q : Program NodeRef (List (List (List ℕ)))} → i < length nodes → Continues supply 0 (left_of_key nodes key (drop i nodes) done) s q t
    → Continues supply 0 (then (values_at same_ref key (get_or nodes i d)) (λ ts. left_of_key nodes key (drop (i + 1) nodes) (done ++ map (entry (get_or nodes i d)) ts))) s q t
node_turn nodes key i d done within left =
    continues_as
    (then_then (values_at same_ref key (get_or nodes i d)) (λ ts. indexed_by same_ref key (drop (i + 1) nodes) (done ++ map (entry (get_or nodes i d)) ts))
    (λ entries. Give (all_texts nodes entries)))
    (next_turn (λ rest. left_of_key nodes key rest done) nodes i d within left)

-- the keys of one unit more
pub keys_turn : {supply : Supply NodeRef} (nodes : List NodeRef) (ks ls : List KeyAt) (done : List (Entry NodeRef)) {s t : State NodeRef}
    {q : Program NodeRef (List (List (List ℕ)))} → Continues supply 0 (left_of_keys nodes (ks ++ ls) done) s q t
    → Continues supply 0 (then (indexed same_ref ks nodes done) (λ more. left_of_keys nodes ls more)) s q t
keys_turn nodes ks ls done left =
    continues_as
    (ap (λ p. then p (λ entries. Give (all_texts nodes entries))) (indexed_append same_ref ks ls nodes done)
    ∙ then_then (indexed same_ref ks nodes done) (λ more. indexed same_ref ls nodes more) (λ entries. Give (all_texts nodes entries))) left

pub keys_done : {X : Type 0} {x : X} {supply : Supply NodeRef} (nodes : List NodeRef) (ks ls : List KeyAt) (found after : List (List (List ℕ))) {s t u : State NodeRef}
    {q : Program NodeRef (List (List (List ℕ)))} → Filled supply (left_of_keys nodes (ks ++ ls)) nodes found s q t
    → Fills supply (indexed same_ref ks nodes) nodes found after s u (Ok x) → Filled supply (left_of_keys nodes ls) nodes after u q t
keys_done {supply = supply} nodes ks ls found after {s = s} {u = u} before by_unit =
    let ended = ends_with supply 0 (indexed same_ref ks nodes before.done) (all_texts nodes) s u after (by_unit.runs before.done before.texts).so in
    record {
      done = ended.value;
      texts = sym ended.is;
      same = goes_on {X = List (Entry NodeRef)} {v = itself} (λ more. left_of_keys nodes ls more) (keys_turn nodes ks ls before.done before.same) (record { so = ended.ran });
    }

-- ---- The keys of one unit: one, or none

pub fills_one : {X : Type 0} {r : Result X EvalFault} {supply : Supply NodeRef} (nodes : List NodeRef) (key : KeyAt) (ks : List KeyAt) {old new : List (List (List ℕ))}
    {s t : State NodeRef} → ks ≡ key ∷ [] → Fills supply (indexed_by same_ref key nodes) nodes old new s t r → Fills supply (indexed same_ref ks nodes) nodes old new s t r
fills_one nodes key ks is h = record {
  runs = λ done texts.
      runs_as (ap (λ p. then p (λ entries. Give (all_texts nodes entries))) (sym (then_give (indexed_by same_ref key nodes done)))
      ∙ ap (λ keys. left_of_keys nodes keys done) (sym is)) (h.runs done texts);
}

pub fills_none : {X : Type 0} {x : X} {supply : Supply NodeRef} (nodes : List NodeRef) (ks : List KeyAt) {old : List (List (List ℕ))} {s : State NodeRef}
    → ks ≡ [] → Fills supply (indexed same_ref ks nodes) nodes old old s s (Ok x)
fills_none nodes ks is = record {
  runs = λ done texts.
      runs_as (sym (given_on done (λ entries. Give (all_texts nodes entries))) ∙ ap (λ keys. left_of_keys nodes keys done) (sym is)) (runs_gives texts);
}

pub its_key : (name : Expanded) (unit : Unit) (key : Key) (b : Bool) → unit.declared ≡ forms.Key key → same_name key.name name ≡ b
    → key_in name (unit_of unit) (unit_of unit).declared ≡ cond b (key_at unit.site key ∷ []) []
its_key name unit key b is named =
    ap (λ d. key_in name (unit_of unit) (declared_of d)) is ∙ ap (λ same. cond same (key_at unit.site key ∷ []) []) named

pub fills_at : {X : Type 0} {r : Result X EvalFault} {supply : Supply NodeRef} (nodes : List NodeRef) (name : Expanded) {unit other : Unit} {old new : List (List (List ℕ))}
    {s t : State NodeRef} → unit ≡ other → Fills supply (indexed same_ref (key_in name (unit_of unit) (unit_of unit).declared) nodes) nodes old new s t r
    → Fills supply (indexed same_ref (key_in name (unit_of other) (unit_of other).declared) nodes) nodes old new s t r
fills_at {r = r} {supply = supply} nodes name {old = old} {new = new} {s = s} {t = t} is h =
    let At : Unit → Type 0 = λ u. Fills supply (indexed same_ref (key_in name (unit_of u) (unit_of u).declared) nodes) nodes old new s t r in subst At is h
