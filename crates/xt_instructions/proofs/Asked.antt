-- What a run does after it asked.
use Rattle.std.proofs.Common.{◌≡◌, ℕ, ◌+◌, ◌<◌, ◌≤◌, List, [], ◌∷◌, ◌++◌, length, get_or, drop, refl, sym, ap, ◌∙◌, subst, arith}
use Rattle.std.proofs.lemmas.List.{at_drop_more, at_drop_all}
use Rattle.spec_document.specs.Name.{Expanded}
use Rattle.spec_stylesheet.specs.Place.{Place}
use Rattle.spec_meaning.specs.Question.{Question, Answer, Name, Text, local_in, text_in}
use Rattle.spec_meaning.specs.Program.{Supply}
use Rattle.spec_run.specs.Plan.{Plan, Inquire}
use Rattle.spec_run.specs.Going.{Going, noted, Asked}
use Rattle.spec_run.specs.Passes.{Passes, stays, asks}
use Rattle.spec_run.specs.Content.{namespaces_read}
use Rattle.xt_names.specs.View.{Entry}
use Rattle.spec_node.specs.declared.node_ref.NodeRef.{NodeRef}
use Rattle.xt_progress.specs.View.{going_of}
use Rattle.xt_frames.specs.declared.run.Run.{Run}
use Rattle.xt_frames.specs.declared.run.Next.{Next}
use Rattle.xt_frames.specs.Left.{hand, Comes}
use Rattle.xt_frames.proofs.Passed.{passes_then}
use Rattle.xt_frames.proofs.Lefts.{steps_at, comes_after}
use Rattle.xt_frames.proofs.Performs.{fewer}

pub comes_in : {needs : Expanded → ℕ → Place → Type 0} {t u : Question NodeRef → Answer NodeRef} {p : Plan NodeRef} {k : ℕ} {old new : Run} {next : Next} → t ≡ u → Comes needs t p k old new next → Comes needs u p k old new next
comes_in {needs = needs} {p = p} {k = k} {old = old} {new = new} {next = next} e h = let P : (Question NodeRef → Answer NodeRef) → Type 0 = λ t. Comes needs t p k old new next in subst P e h

pub passes_in : {t u : Question NodeRef → Answer NodeRef} {hand : ℕ → Supply NodeRef} {room : ℕ} {p q : Plan NodeRef} {g h : Going NodeRef} → t ≡ u → Passes t hand room p g q h → Passes u hand room p g q h
passes_in {hand = hand} {room = room} {p = p} {q = q} {g = g} {h = h} e s = let P : (Question NodeRef → Answer NodeRef) → Type 0 = λ t. Passes t hand room p g q h in subst P e s

pub passed : {needs : Expanded → ℕ → Place → Type 0} (ask : Question NodeRef → Answer NodeRef) (p q : Plan NodeRef) (k : ℕ) (old mid new : Run) (next : Next) → Passes ask (hand old) old.room p (going_of old.going) q (going_of mid.going) → mid.room ≡ old.room → mid.supplies ≡ old.supplies
    → Comes needs ask q k mid new next → Comes needs ask p k old new next
passed ask p q k old mid new next s room supplies does =
    let e = steps_at ask old mid {q = q} {r = q} {g = going_of mid.going} {h = going_of mid.going} room supplies refl refl in
    let l = fewer s in
    comes_after ask p q k k old mid new next does s (omega (arith, e, l)) room supplies (λ n d l x. x)

-- one question more
pub asked_more : {t u : Question NodeRef → Answer NodeRef} {hand : ℕ → Supply NodeRef} {room : ℕ} {p : Plan NodeRef} {q : Question NodeRef} {next : Answer NodeRef → Plan NodeRef} {a : Answer NodeRef} {g h i : Going NodeRef} → t ≡ u → a ≡ t q → i ≡ noted (Asked q (t q)) h
    → Passes u hand room p g (Inquire q next) h → Passes u hand room p g (next a) i
asked_more {t = t} {u = u} {hand = hand} {room = room} {p = p} {q = q} {next = next} {a = a} {g = g} {h = h} {i = i} e f n s =
    let P : Answer NodeRef → Type 0 = λ b. Passes u hand room p g (next b) (noted (Asked q b) h) in
    let Q : Going NodeRef → Type 0 = λ j. Passes u hand room p g (next a) j in
    let same : u q ≡ t q = ap (λ v. v q) (sym e) in
    let back : Passes u hand room p g (next (u q)) (noted (Asked q (u q)) h) = passes_then s (asks stays) in
    let there : Passes u hand room p g (next a) (noted (Asked q a) h) = subst P (same ∙ sym f) back in
    subst Q (ap (λ b. noted (Asked q b) h) f ∙ sym n) there

-- one namespace node more
pub namespace_more : {t u : Question NodeRef → Answer NodeRef} (hand : ℕ → Supply NodeRef) (room : ℕ) (k : List Entry → Plan NodeRef) (ns : List NodeRef) (i : ℕ) (d : NodeRef) (done more : List Entry) (entry : Entry) {p : Plan NodeRef} {g h j : Going NodeRef}
    → t ≡ u → i < length ns → more ≡ done ++ entry ∷ [] → Passes u hand room p g (namespaces_read (drop i ns) done k) h
    → ((l : Entry → Plan NodeRef) → Passes t hand room (Inquire (Name (get_or ns i d)) (λ name. Inquire (Text (get_or ns i d)) (λ uri. l (local_in name, text_in uri)))) h (l entry) j)
    → Passes u hand room p g (namespaces_read (drop (i + 1) ns) more k) j
namespace_more {t = t} {u = u} hand room k ns i d done more entry {p = p} {g = g} {h = h} {j = j} e lt is_more s read =
    let n = get_or ns i d in
    let l : Entry → Plan NodeRef = λ x. namespaces_read (drop (i + 1) ns) (done ++ x ∷ []) k in
    let same : namespaces_read (drop i ns) done k ≡ Inquire (Name n) (λ name. Inquire (Text n) (λ uri. l (local_in name, text_in uri))) =
    at_drop_more (λ rest. namespaces_read rest done k) ns i d lt in
    let P : Plan NodeRef → Type 0 = λ q. Passes u hand room p g q h in
    let Q : (Question NodeRef → Answer NodeRef) → Type 0 = λ v. Passes v hand room (Inquire (Name n) (λ name. Inquire (Text n) (λ uri. l (local_in name, text_in uri)))) h (l entry) j in
    let R : List Entry → Type 0 = λ x. Passes u hand room p g (namespaces_read (drop (i + 1) ns) x k) j in
    subst R (sym is_more) (passes_then (subst P same s) (subst Q e (read l)))

pub namespaces_end : {u : Question NodeRef → Answer NodeRef} (hand : ℕ → Supply NodeRef) (room : ℕ) (k : List Entry → Plan NodeRef) (ns : List NodeRef) (i : ℕ) (done : List Entry) {p : Plan NodeRef} {g h : Going NodeRef}
    → length ns ≤ i → Passes u hand room p g (namespaces_read (drop i ns) done k) h → Passes u hand room p g (k done) h
namespaces_end {u = u} hand room k ns i done {p = p} {g = g} {h = h} le s =
    let P : Plan NodeRef → Type 0 = λ q. Passes u hand room p g q h in
    subst P (at_drop_all (λ rest. namespaces_read rest done k) ns i le) s
