-- What is held of keys changes no answer.
use Rattle.std.proofs.Common.{◌≡◌, ℕ, List, [], ◌∷◌, ◌++◌, Bool, true, false, cond, Some, None, Result, Ok, Err, refl, ap, ◌∙◌}
use Rattle.std.specs.Prelude.{OnOk, OnErr, bytes_eq}
use Rattle.std.proofs.lemmas.Bool.{and_parts}
use Rattle.std.proofs.lemmas.Slice.Eq.{bytes_eq-Decides}
use Rattle.spec_document.specs.Name.{Expanded, same_name}
use Rattle.spec_document.specs.Forest.{Document}
use Rattle.spec_meaning.specs.Program.{State, asked}
use Rattle.spec_meaning.specs.Question as question
use Rattle.spec_meaning.specs.Question.{Question, Answer}
use Rattle.spec_node.specs.declared.node_ref.NodeRef.{NodeRef}
use Rattle.xt_match.specs.Context.{units_in}
use Rattle.xt_world.specs.KeyView.{answer_found, found_for, keyed_in}
use Rattle.xt_world.specs.SourceView.{AreFound, answer_or, keyed_by, source_in}
use Rattle.xt_world.specs.declared.found.FoundKeys.{FoundKeys}
use Rattle.xt_world.specs.declared.stylesheet.Stylesheet.{Stylesheet}

names_same : (a b : Expanded) → same_name a b ≡ true → a ≡ b
names_same a b h =
    let parts = and_parts (bytes_eq a.uri b.uri) (bytes_eq a.local b.local) h in
    λ i. record { uri = (bytes_eq-Decides a.uri b.uri).0 parts.0 i; local = (bytes_eq-Decides a.local b.local).0 parts.1 i }

-- one more at the end, which is right
one_more : (other : Expanded → Answer NodeRef) (name : Expanded) (text : List ℕ) (k : FoundKeys) → answer_found k.found text ≡ other k.name
    → (keys : List FoundKeys) → answer_or (other name) text (found_for (keys ++ k ∷ []) name) ≡ answer_or (other name) text (found_for keys name)
one_more other name text k right [] = by (same_name k.name name) refl
  where
    by : (b : Bool) → same_name k.name name ≡ b → answer_or (other name) text (cond b (Some k.found) None) ≡ other name
    by true e = right ∙ ap other (names_same k.name name e)
    by false e = refl
one_more other name text k right (x ∷ xs) = either (same_name x.name name) (one_more other name text k right xs)
  where
    either : (b : Bool) → answer_or (other name) text (found_for (xs ++ k ∷ []) name) ≡ answer_or (other name) text (found_for xs name)
        → answer_or (other name) text (cond b (Some x.found) (found_for (xs ++ k ∷ []) name)) ≡ answer_or (other name) text (cond b (Some x.found) (found_for xs name))
    either true rest = refl
    either false rest = rest

pub more_held : (s : Stylesheet) (document : Document ℕ) (keys : List FoundKeys) (k : FoundKeys)
    → ((text : List ℕ) → answer_found k.found text ≡ keyed_in (units_in s.units.items) document k.name text)
    → source_in s document (keys ++ k ∷ []) ≡ source_in s document keys
more_held s document keys k right = λ i q. by q i
  where
    by : (q : Question NodeRef) → source_in s document (keys ++ k ∷ []) q ≡ source_in s document keys q
    by (question.Key name text) = one_more (λ n. keyed_in (units_in s.units.items) document n text) name text k (right text) keys
    by (question.Step node axis test) = refl
    by (question.Text node) = refl
    by (question.Name node) = refl
    by (question.Place node) = refl
    by (question.Order nodes) = refl
    by (question.Choice node mode candidates) = refl
    by (question.Copy node) = refl
    by (question.Unit element) = refl
    by (question.External name) = refl

-- keys by which each value is answered as without them
pub found_before : (s : Stylesheet) (document : Document ℕ) (keys : List FoundKeys) → AreFound s document keys → source_in s document keys ≡ source_in s document []
found_before s document keys found = λ i q. by q i
  where
    by : (q : Question NodeRef) → source_in s document keys q ≡ source_in s document [] q
    by (question.Key name text) = found name text
    by (question.Step node axis test) = refl
    by (question.Text node) = refl
    by (question.Name node) = refl
    by (question.Place node) = refl
    by (question.Order nodes) = refl
    by (question.Choice node mode candidates) = refl
    by (question.Copy node) = refl
    by (question.Unit element) = refl
    by (question.External name) = refl

-- so it is of none
pub none_found : (s : Stylesheet) (document : Document ℕ) (keys : List FoundKeys) → keys ≡ [] → AreFound s document keys
none_found s document keys e = λ name text. ap (λ (ks : List FoundKeys). keyed_by s document ks name text) e

-- and of one more that answers truly
pub one_more_found : (s : Stylesheet) (document : Document ℕ) (keys : List FoundKeys) (k : FoundKeys)
    → ((text : List ℕ) → answer_found k.found text ≡ keyed_in (units_in s.units.items) document k.name text)
    → AreFound s document keys → AreFound s document (keys ++ k ∷ [])
one_more_found s document keys k right found = λ name text.
    one_more (λ n. keyed_in (units_in s.units.items) document n text) name text k (right text) keys ∙ found name text

-- what is true after a question is what was true before, whether it was answered or not
pub truth_stays : {A E : Type 0} (r : Result A E) (q : Question NodeRef) (old new : Question NodeRef → Answer NodeRef)
    → OnOk r (◌≡◌ {A = State NodeRef} (record { truth = new; reads = None }) (asked q (record { truth = old; reads = None })))
    → OnErr r (new ≡ old) → new ≡ old
truth_stays (Ok a) q old new h k = ap (λ (s : State NodeRef). s.truth) h
truth_stays (Err e) q old new h k = k

-- what holds at any result
pub always_ok : {A E P : Type 0} (r : Result A E) → P → OnOk r P
always_ok (Ok a) p = p
always_ok (Err e) p = tt

pub always_err : {A E P : Type 0} (r : Result A E) → P → OnErr r P
always_err (Ok a) p = tt
always_err (Err e) p = p

-- worlds that keep no reads, and of which the same is true
pub one_state : {truth other : Question NodeRef → Answer NodeRef} → truth ≡ other
    → ◌≡◌ {A = State NodeRef} (record { truth = truth; reads = None }) (record { truth = other; reads = None })
one_state e = λ i. record { truth = e i; reads = None }
