-- A session as it is served, turn after turn.
use Rattle.std.proofs.Common.{◌≡◌, ℕ, ◌≤◌, List, [], ◌++◌, take, Option, None, Some, refl, sym, ◌∙◌, ap, subst, arith}
use Rattle.std.proofs.Common.{append_assoc, append-nil}
use Rattle.std.specs.Prelude.{IfSome, IsSomeAnd}
use Rattle.spec_lines.specs.Lines.{Reader, TakesUpTo}
use Rattle.spec_lines.specs.Outside.{Appends}
use Rattle.spec_session.specs.Command.{session_of}
use Rattle.spec_node.specs.declared.node_ref.NodeRef.{NodeRef}
use Rattle.spec_stylesheet.specs.Place.{Place}
use Rattle.spec_cost.specs.Past.{nothing_past}
use Rattle.spec_session.specs.Machine.{initial}
use Rattle.spec_session.specs.Served.{IsCutShort, TakesAtMost, Serves}
use Rattle.xt_session.specs.Progress.{IsDone, IsCut}
use Rattle.xt_held.specs.PastView.{IsPast}
use Rattle.xt_held.specs.declared.held.Held.{Held}
use Rattle.xt_session.specs.State.{state_of}
use Rattle.xt_session.specs.Turn.{IsAnswered}
use Rattle.xt_session.proofs.Running.{HasCome, reader_at_start, come_at_start, come_on, come_served, come_cut, come_prefix, come_takes}

-- what is written, piece after piece
appends_none : (written : Option (List ℕ)) → Appends written written []
appends_none None = tt
appends_none (Some bytes) = sym (append-nil bytes)

appends_both : (a b c : Option (List ℕ)) (x y : List ℕ) → Appends a b x → Appends b c y → Appends a c (x ++ y)
appends_both a b None x y g h = tt
appends_both a None (Some w) x y g h = absurd h
appends_both None (Some v) (Some w) x y g h = absurd g
appends_both (Some u) (Some v) (Some w) x y g h = h ∙ ap (λ (l : List ℕ). l ++ y) g ∙ append_assoc u x y

if_some : {P : List ℕ → Type 0} (o : Option (List ℕ)) → ((bytes : List ℕ) → o ≡ Some bytes → P bytes) → IfSome o P
if_some None f = tt
if_some (Some bytes) f = f bytes refl

-- how far a call has come
pub record IsServing (limit : ℕ) (before : Option (List ℕ)) (a : Reader) (p : Option (List ℕ)) (held : Held)
    (written now : Option (List ℕ)) : Type 0 where
  pub text : List ℕ
  pub appends : Appends written now text
  pub come : (bytes : List ℕ) → before ≡ Some bytes → HasCome limit bytes a p held text

pub serving_at_start : (limit : ℕ) (before written : Option (List ℕ)) (reader : Reader) (held : Held) → reader ≡ reader_at_start limit
    → state_of held ≡ initial → ((called : Place → NodeRef) → IsPast (nothing_past called) held)
    → IsServing limit before reader before held written written
serving_at_start limit before written reader held is empty past = record {
  text = [];
  appends = appends_none written;
  come = λ bytes e.
      subst (λ (o : Option (List ℕ)). HasCome limit bytes reader o held []) (sym e)
      (subst (λ (r : Reader). HasCome limit bytes r (Some bytes) held []) (sym is) (come_at_start limit bytes held empty past));
}

pub serving_on : {limit : ℕ} {before p r written now then : Option (List ℕ)} {a c : Reader} {held next : Held} {more : List ℕ}
    → IsServing limit before a p held written now → IsAnswered a p held more c r next → Appends now then more
    → IsServing limit before c r next written then
serving_on {written = written} {now = now} {then = then} {more = more} serving answered appends = record {
  text = serving.text ++ more;
  appends = appends_both written now then serving.text more serving.appends appends;
  come = λ bytes e. come_on (serving.come bytes e) answered;
}

-- the bytes taken in all
serving_takes : {limit extra : ℕ} {before p r written now : Option (List ℕ)} {a c : Reader} {held : Held}
    → IsServing limit before a p held written now → TakesUpTo extra a p c r → extra ≤ 1
    → IfSome before (λ bytes. IsSomeAnd r (λ rest. TakesAtMost limit bytes rest))
serving_takes {before = before} serving takes few = if_some before (λ bytes e. come_takes (serving.come bytes e) takes few)

pub serves_stopped : {limit status : ℕ} {before p r written now then : Option (List ℕ)} {a c : Reader} {held : Held}
    → IsServing limit before a p held written now → IsDone session_of a p status c r → then ≡ now → Serves limit before r written then status
serves_stopped {limit = limit} {before = before} {written = written} {then = then} serving done same =
    let kind = done.kind in
    record {
      served = λ is. if_some before (λ bytes e. (serving.text, come_served (serving.come bytes e) done, all));
      cut_short = λ is. absurd (omega arith);
      prefix = λ is. absurd (omega arith);
      nothing = λ is. absurd (omega arith);
      takes = serving_takes serving done.takes (omega arith);
      no_other = omega arith;
    }
  where
    all : Appends written then serving.text
    all = subst (λ (o : Option (List ℕ)). Appends written o serving.text) (sym same) serving.appends

pub serves_cut : {limit : ℕ} {before p r written now then : Option (List ℕ)} {a c : Reader} {held : Held}
    → IsServing limit before a p held written now → IsCut session_of a p c r → then ≡ now → Serves limit before r written then 1
serves_cut {limit = limit} {before = before} {r = r} {written = written} {then = then} serving cut same = record {
  served = λ is. absurd (omega arith);
  cut_short = λ is. if_some before (λ bytes e. told bytes r (come_cut (serving.come bytes e) cut));
  prefix = λ is. absurd (omega arith);
  nothing = λ is. absurd (omega arith);
  takes = serving_takes serving cut.takes (omega arith);
  no_other = omega arith;
}
  where
    all : Appends written then serving.text
    all = subst (λ (o : Option (List ℕ)). Appends written o serving.text) (sym same) serving.appends

    told : (bytes : List ℕ) (o : Option (List ℕ)) → IsSomeAnd o (λ rest. IsCutShort limit bytes rest serving.text)
        → IsSomeAnd o (λ rest. (text : List ℕ) × IsCutShort limit bytes rest text × Appends written then text)
    told bytes None e = absurd e
    told bytes (Some rest) e = (serving.text, e, all)

pub serves_prefix : {limit : ℕ} {before p r written now then : Option (List ℕ)} {a c : Reader} {held next : Held} {more : List ℕ} (count : ℕ)
    → IsServing limit before a p held written now → IsAnswered a p held more c r next → Appends now then (take count more)
    → Serves limit before r written then 2
serves_prefix {before = before} {written = written} {now = now} {then = then} {more = more} count serving answered appends = record {
  served = λ is. absurd (omega arith);
  cut_short = λ is. absurd (omega arith);
  prefix = λ is. if_some before (λ bytes e. (
    serving.text ++ take count more,
    come_prefix count (serving.come bytes e) answered,
    appends_both written now then serving.text (take count more) serving.appends appends,
  ));
  nothing = λ is. absurd (omega arith);
  takes = serving_takes serving answered.given.takes (omega arith);
  no_other = omega arith;
}
