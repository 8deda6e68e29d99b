-- How the steps of a reader of lines add up: what it has passed over and what it keeps, from the state before a call on.
use Rattle.std.proofs.Common.{◌≡◌, ℕ, ◌+◌, ◌<◌, ◌≤◌, Bool, true, false, List, [], ◌∷◌, ◌++◌, length, take, drop, Option}
use Rattle.std.proofs.Common.{Some, None, IfSome, IsSomeAnd, refl, sym, ◌∙◌, ap, subst, inl, inr, arith, append-nil, length-append}
use Rattle.std.specs.Option.{option_map}
use Rattle.std.specs.Str.Lines.{strip_carriage_return}
use Rattle.std.proofs.lemmas.List.{append_assoc, take_at, take-append-drop, take-append-le}
use Rattle.std.specs.Prelude.{Result, Ok, Err, IfOk}
use Rattle.spec_lines.specs.Outside.{Takes}
use Rattle.spec_lines.specs.Lines.{Reader, BeginsWith, BeginsWithEnded, ahead, allowance, HasNoNewline, GivesLine, IsFinished, IsOver, IsKept, TakesUpTo}
use Rattle.xt_io.specs.Steps.{Reads, TakesNoNewline}
use Rattle.xt_io.proofs.Newlines.{HasNoNewline-append}

abbrev pub reader : List ℕ → ℕ → Bool → Reader
reader kept room at_end = record { kept = kept; room = room; at_end = at_end }

pub record Passed (old : Reader) (before : Option (List ℕ)) (passed : List ℕ) (new : Reader) (after : Option (List ℕ)) : Type 0 where
  pub taken : List ℕ
  pub read : Reads before taken after
  pub kept : old.kept ++ taken ≡ passed ++ new.kept
  pub room : length taken + new.room ≡ old.room
  pub at_end : new.at_end ≡ old.at_end
  pub none : HasNoNewline passed
  pub still : old.at_end ≡ true → taken ≡ []

Reads-nothing : (left : Option (List ℕ)) → Reads left [] left
Reads-nothing None = refl
Reads-nothing (Some bytes) = refl

Reads-both : (a b c : Option (List ℕ)) (p q : List ℕ) → Reads a p b → Reads b q c → Reads a (p ++ q) c
Reads-both None b c p q h k = subst (λ (o : Option (List ℕ)). Reads o q c) h k
Reads-both (Some x) None c p q h k = absurd h
Reads-both (Some x) (Some y) None p q h k = absurd k
Reads-both (Some x) (Some y) (Some z) p q h k = h ∙ ap (λ bytes. p ++ bytes) k ∙ sym (append_assoc p q z)

pub begin : (old : Reader) (before : Option (List ℕ)) → Passed old before [] old before
begin old before = record {
  taken = [];
  read = Reads-nothing before;
  kept = append-nil old.kept;
  room = omega arith;
  at_end = refl;
  none = refl;
  still = λ _. refl;
}

-- more bytes are kept
pub more : (old : Reader) (before : Option (List ℕ)) (passed piece : List ℕ) (cur new : Reader) (now after : Option (List ℕ))
    → Passed old before passed cur now → Reads now piece after → new.kept ≡ cur.kept ++ piece → length piece + new.room ≡ cur.room
    → cur.at_end ≡ false → new.at_end ≡ false → Passed old before passed new after
more old before passed piece cur new now after p read grown counted asked going = record {
  taken = p.taken ++ piece;
  read = Reads-both before now after p.taken piece p.read read;
  kept = sym (append_assoc old.kept p.taken piece) ∙ ap (λ bytes. bytes ++ piece) p.kept ∙ append_assoc passed cur.kept piece
      ∙ ap (λ bytes. passed ++ bytes) (sym grown);
  room = omega (arith, p.room, length-append p.taken piece);
  at_end = going ∙ sym asked ∙ p.at_end;
  none = p.none;
  still = λ e. absurd (let h = p.at_end in cc);
}

-- bytes are passed over
pub pass : (old : Reader) (before : Option (List ℕ)) (passed piece : List ℕ) (cur new : Reader) (now : Option (List ℕ))
    → Passed old before passed cur now → HasNoNewline piece → cur.kept ≡ piece ++ new.kept → new.room ≡ cur.room → new.at_end ≡ cur.at_end
    → Passed old before (passed ++ piece) new now
pass old before passed piece cur new now p none e room at_end = record {
  taken = p.taken;
  read = p.read;
  kept = p.kept ∙ ap (λ bytes. passed ++ bytes) e ∙ sym (append_assoc passed piece new.kept);
  room = omega (arith, p.room, room);
  at_end = at_end ∙ p.at_end;
  none = HasNoNewline-append passed piece p.none none;
  still = p.still;
}

takes_in : (before after : Option (List ℕ)) (taken : List ℕ) (room rest : ℕ) → Reads before taken after → length taken + rest ≡ room
    → IfSome before (λ left. IsSomeAnd after (λ more. (t : List ℕ) × (left ≡ t ++ more) × (length t + rest ≤ room + 0)))
takes_in None after taken room rest read e = tt
takes_in (Some left) None taken room rest read e = absurd read
takes_in (Some left) (Some more) taken room rest read e = (taken, read, omega arith)

pub takes : (old : Reader) (before : Option (List ℕ)) (passed : List ℕ) (cur new : Reader) (after : Option (List ℕ))
    → Passed old before passed cur after → new.room ≡ cur.room → TakesUpTo 0 old before new after
takes old before passed cur new after p room = record { bytes = takes_in before after p.taken old.room new.room p.read (omega (arith, p.room, room)) }

same_in : (k t k2 : List ℕ) (e f : Bool) (b a : Option (List ℕ)) (r s : ℕ) → k ++ t ≡ k2 → f ≡ e → (e ≡ true → t ≡ []) → Reads b t a
    → ahead (reader k2 s f) a ≡ ahead (reader k r e) b
same_in k t k2 true true b a r s h g still read = ap (λ bytes. Some bytes) (sym h ∙ ap (λ bytes. k ++ bytes) (still refl) ∙ append-nil k)
same_in k t k2 false false None a r s h g still read = ap (λ o. option_map (λ bytes. k2 ++ bytes) o) read
same_in k t k2 false false (Some x) None r s h g still read = absurd read
same_in k t k2 false false (Some x) (Some y) r s h g still read =
    ap (λ bytes. Some bytes) (ap (λ bytes. bytes ++ y) (sym h) ∙ append_assoc k t y ∙ ap (λ bytes. k ++ bytes) (sym read))
same_in k t k2 true false b a r s h g still read = absurd (cc)
same_in k t k2 false true b a r s h g still read = absurd (cc)

pub all_kept : (old : Reader) (before : Option (List ℕ)) (new : Reader) (after : Option (List ℕ)) → Passed old before [] new after
    → IsKept old before new after
all_kept old before new after p = record {
  same = same_in old.kept p.taken new.kept old.at_end new.at_end before after old.room new.room p.kept p.at_end p.still p.read;
  as_much = omega (arith, p.room, length-append old.kept p.taken, ap length p.kept);
  not_at_end = λ h. sym p.at_end ∙ h;
}

unended_in : (kept taken : List ℕ) (before after : Option (List ℕ)) → Reads before taken after → HasNoNewline (kept ++ taken)
    → IfSome before (λ left. IsSomeAnd after (λ rest. (t : List ℕ) × (left ≡ t ++ rest) × HasNoNewline (kept ++ t)))
unended_in kept taken None after read none = tt
unended_in kept taken (Some x) None read none = absurd read
unended_in kept taken (Some x) (Some y) read none = (taken, read, none)

pub unended : (old : Reader) (before : Option (List ℕ)) (passed : List ℕ) (new : Reader) (after : Option (List ℕ))
    → Passed old before passed new after → HasNoNewline new.kept → TakesNoNewline old before after
unended old before passed new after p none =
    unended_in old.kept p.taken before after p.read (subst HasNoNewline (sym p.kept) (HasNoNewline-append passed new.kept p.none none))

weaken : (o p : Option (List ℕ)) (P Q : List ℕ → List ℕ → Type 0) → ((x y : List ℕ) → P x y → Q x y)
    → IfSome o (λ x. IsSomeAnd p (λ y. P x y)) → IfSome o (λ x. IsSomeAnd p (λ y. Q x y))
weaken None p P Q f h = tt
weaken (Some x) None P Q f h = absurd h
weaken (Some x) (Some y) P Q f h = f x y h

cut_in : (bytes raw more line : List ℕ) → HasNoNewline raw → line ≡ strip_carriage_return raw → bytes ≡ raw ++ 10 ∷ more
    → BeginsWithEnded bytes line more
cut_in bytes raw more line none strip whole = record { raw = raw; one_line = none; cut = whole; line_is = strip }

line_in : (k t raw rest : List ℕ) (line : List ℕ) (e f : Bool) (b a : Option (List ℕ)) (r s : ℕ) → HasNoNewline raw
    → line ≡ strip_carriage_return raw → k ++ t ≡ raw ++ 10 ∷ rest → f ≡ e → (e ≡ true → t ≡ []) → Reads b t a
    → length t + s ≡ r → IfSome (ahead (reader k r e) b)
    (λ bytes. IsSomeAnd (ahead (reader rest s f) a)
    (λ more. BeginsWithEnded bytes line more × (length bytes + (length rest + s) ≡ length more + (length k + r))))
line_in k t raw rest line true true b a r s none strip h g still read room =
    let gone : t ≡ [] = still refl in
    let whole : k ≡ raw ++ 10 ∷ rest = sym (append-nil k) ∙ ap (λ bytes. k ++ bytes) (sym gone) ∙ h in
    (cut_in _ _ _ _ none strip whole, omega (arith, ap length gone))
line_in k t raw rest line false false None a r s none strip h g still read room = tt
line_in k t raw rest line false false (Some x) None r s none strip h g still read room = absurd read
line_in k t raw rest line false false (Some x) (Some y) r s none strip h g still read room =
    let whole : k ++ x ≡ raw ++ 10 ∷ (rest ++ y) =
    ap (λ bytes. k ++ bytes) read ∙ sym (append_assoc k t y) ∙ ap (λ bytes. bytes ++ y) h ∙ append_assoc raw (10 ∷ rest) y in
    (cut_in _ _ _ _ none strip whole, omega (arith, length-append k x, length-append rest y, length-append t y, ap length read))
line_in k t raw rest line true false b a r s none strip h g still read room = absurd (cc)
line_in k t raw rest line false true b a r s none strip h g still read room = absurd (cc)

-- an LF was found after what was passed over
pub line : (old : Reader) (before : Option (List ℕ)) (passed raw given : List ℕ) (cur new : Reader) (now : Option (List ℕ))
    → Passed old before passed cur now → HasNoNewline raw → cur.kept ≡ raw ++ 10 ∷ new.kept → given ≡ strip_carriage_return (passed ++ raw)
    → new.room ≡ cur.room → new.at_end ≡ cur.at_end → GivesLine old before given new now
line old before passed raw given cur new now p none e strip room at_end =
    let whole : old.kept ++ p.taken ≡ (passed ++ raw) ++ 10 ∷ new.kept =
    p.kept ∙ ap (λ bytes. passed ++ bytes) e ∙ sym (append_assoc passed raw (10 ∷ new.kept)) in
    let both = line_in old.kept p.taken (passed ++ raw) new.kept given old.at_end new.at_end before now old.room new.room
    (HasNoNewline-append passed raw p.none none) strip whole (at_end ∙ p.at_end) p.still p.read (omega (arith, p.room, room)) in
    record {
      begins = weaken (ahead old before) (ahead new now) _
          (λ bytes more. BeginsWith bytes given more × (length bytes + allowance new ≡ length more + allowance old)) (λ x y h. (inl h.0, h.1)) both;
      fewer = omega (arith, p.room, room, length-append old.kept p.taken, length-append (passed ++ raw) (10 ∷ new.kept), ap length whole);
      not_last = λ h. (
        sym p.at_end ∙ sym at_end
            ∙ h,
        weaken (ahead old before) (ahead new now) _ (λ bytes more. BeginsWithEnded bytes given more) (λ x y h. h.0) both,
      );
    }

-- the source ended: nothing is left of it
pub record Ends (at_end : Bool) (now after : Option (List ℕ)) : Type 0 where
  pub unread : at_end ≡ true → after ≡ now
  pub bytes : at_end ≡ false → IfSome now (λ left. (left ≡ []) × IsSomeAnd after (λ rest. rest ≡ []))

-- all bytes ahead, where none is left of the source
whole_in : (k t all : List ℕ) (e f : Bool) (b a after : Option (List ℕ)) (r : ℕ) → k ++ t ≡ all → f ≡ e → (e ≡ true → t ≡ [])
    → Reads b t a → Ends f a after → IfSome (ahead (reader k r e) b) (λ bytes. bytes ≡ all)
whole_in k t all true true b a after r h g still read ends = sym (append-nil k) ∙ ap (λ bytes. k ++ bytes) (sym (still refl)) ∙ h
whole_in k t all false false None a after r h g still read ends = tt
whole_in k t all false false (Some x) None after r h g still read ends = absurd read
whole_in k t all false false (Some x) (Some y) after r h g still read ends =
    ap (λ bytes. k ++ bytes) (read ∙ ap (λ bytes. t ++ bytes) (ends.bytes refl).0 ∙ append-nil t) ∙ h
whole_in k t all true false b a after r h g still read ends = absurd (cc)
whole_in k t all false true b a after r h g still read ends = absurd (cc)

last_in : (o : Option (List ℕ)) (all : List ℕ) (r s m : ℕ) → IfSome o (λ bytes. bytes ≡ all) → HasNoNewline all → 0 < length all
    → length all + s ≡ m
    → IfSome o (λ bytes. IsSomeAnd (Some []) (λ more. BeginsWith bytes all more × (length bytes + (0 + s) ≡ length more + m)))
last_in None all r s m h none some count = tt
last_in (Some bytes) all r s m h none some count = (
  inr (record { one_line = subst HasNoNewline (sym h) none; some = omega (arith, ap length h); line_is = sym h; nothing = refl }),
  omega (arith, ap length h),
)

-- what was passed over and is kept is the last line
last_at : (old : Reader) (before : Option (List ℕ)) (passed : List ℕ) (cur : Reader) (now after : Option (List ℕ))
    → Passed old before passed cur now → HasNoNewline cur.kept → 0 < length (passed ++ cur.kept) → Ends cur.at_end now after
    → GivesLine old before (passed ++ cur.kept) (reader [] cur.room true) after
last_at old before passed cur now after p none some ends = record {
  begins = last_in (ahead old before) (passed ++ cur.kept) old.room cur.room (allowance old)
      (whole_in old.kept p.taken _ old.at_end cur.at_end before now after old.room p.kept p.at_end p.still p.read ends)
      (HasNoNewline-append passed cur.kept p.none none) some (omega (arith, p.room, length-append old.kept p.taken, ap length p.kept));
  fewer = omega (arith, p.room, length-append old.kept p.taken, ap length p.kept);
  not_last = λ h. absurd (cc);
}

same_reader : (new : Reader) (room : ℕ) → new.kept ≡ [] → new.room ≡ room → new.at_end ≡ true → reader [] room true ≡ new
same_reader new room k r e = λ i. reader (sym k i) (sym r i) (sym e i)

pub last_line : (old : Reader) (before : Option (List ℕ)) (passed given : List ℕ) (cur new : Reader) (now after : Option (List ℕ))
    → Passed old before passed cur now → HasNoNewline cur.kept → 0 < length (passed ++ cur.kept) → Ends cur.at_end now after
    → given ≡ passed ++ cur.kept → new.kept ≡ [] → new.room ≡ cur.room → new.at_end ≡ true → GivesLine old before given new after
last_line old before passed given cur new now after p none some ends is k r e =
    subst (λ (x : Reader). GivesLine old before given x after) (same_reader new cur.room k r e)
    (subst (λ xs. GivesLine old before xs (reader [] cur.room true) after) (sym is) (last_at old before passed cur now after p none some ends))

-- nothing was passed over and nothing is kept
pub finished : (old : Reader) (before : Option (List ℕ)) (passed : List ℕ) (cur : Reader) (now after : Option (List ℕ))
    → Passed old before passed cur now → passed ++ cur.kept ≡ [] → Ends cur.at_end now after → IsFinished old before
finished old before passed cur now after p e ends =
    whole_in old.kept p.taken [] old.at_end cur.at_end before now after old.room (p.kept ∙ e) p.at_end p.still p.read ends

takes_end_in : (b a after : Option (List ℕ)) (t : List ℕ) (f : Bool) (room rest : ℕ) → Reads b t a → Ends f a after → length t + rest ≡ room
    → IfSome b (λ left. IsSomeAnd after (λ more. (taken : List ℕ) × (left ≡ taken ++ more) × (length taken + rest ≤ room + 0)))
takes_end_in None a after t f room rest read ends e = tt
takes_end_in (Some x) None after t f room rest read ends e = absurd read
takes_end_in (Some x) (Some y) after t true room rest read ends e =
    subst (λ (o : Option (List ℕ)). IsSomeAnd o (λ more. (taken : List ℕ) × (x ≡ taken ++ more) × (length taken + rest ≤ room + 0)))
    (sym (ends.unread refl)) (t, read, omega arith)
takes_end_in (Some x) (Some y) after t false room rest read ends e = go after (ends.bytes refl)
  where
    go : (o : Option (List ℕ)) → (y ≡ []) × IsSomeAnd o (λ rest. rest ≡ [])
        → IsSomeAnd o (λ more. (taken : List ℕ) × (x ≡ taken ++ more) × (length taken + rest ≤ room + 0))
    go None h = absurd h.1
    go (Some z) h = (t, read ∙ ap (λ bytes. t ++ bytes) (h.0 ∙ sym h.1), omega arith)

-- the end takes no byte
pub takes_end : (old : Reader) (before : Option (List ℕ)) (passed : List ℕ) (cur new : Reader) (now after : Option (List ℕ))
    → Passed old before passed cur now → Ends cur.at_end now after → new.room ≡ cur.room → TakesUpTo 0 old before new after
takes_end old before passed cur new now after p ends room =
    record { bytes = takes_end_in before now after p.taken cur.at_end old.room new.room p.read ends (omega (arith, p.room, room)) }

abbrev pub GoesOn : Option (List ℕ) → Option (List ℕ) → Type 0
GoesOn now after = IfSome now (λ left. IsSomeAnd after (λ rest. (taken : List ℕ) × (left ≡ taken ++ rest) × (length taken ≡ 1)))

over_in : (k t all : List ℕ) (b a after : Option (List ℕ)) (r : ℕ) → k ++ t ≡ all → HasNoNewline all → length t ≡ r → Reads b t a
    → GoesOn a after → IfSome (ahead (reader k r false) b) (λ bytes. HasNoNewline (take (length k + r) bytes) × (length k + r < length bytes))
over_in k t all None a after r h none room read on = tt
over_in k t all (Some x) None after r h none room read on = absurd read
over_in k t all (Some x) (Some y) None r h none room read on = absurd on
over_in k t all (Some x) (Some y) (Some z) r h none room read on =
    let whole : k ++ x ≡ all ++ y = ap (λ bytes. k ++ bytes) read ∙ sym (append_assoc k t y) ∙ ap (λ bytes. bytes ++ y) h in
    let long : length all ≡ length k + r = omega (arith, ap length h, length-append k t) in
    let front : take (length k + r) (k ++ x) ≡ all = ap (λ bytes. take (length k + r) bytes) whole ∙ take_at all y (length k + r) long in
    (subst HasNoNewline (sym front) none, omega (arith, ap length whole, length-append all y, ap length on.1, length-append on.0 z, on.2))

over_with : (old : Reader) (before : Option (List ℕ)) (passed : List ℕ) (e : Bool) (cur : Reader) (now after : Option (List ℕ)) → old.at_end ≡ e
    → Passed old before passed cur now → HasNoNewline cur.kept → cur.room ≡ 0 → cur.at_end ≡ false → GoesOn now after
    → IsOver (reader old.kept old.room e) before
over_with old before passed true cur now after same p none full going on = absurd (let h = p.at_end in cc)
over_with old before passed false cur now after same p none full going on =
    over_in old.kept p.taken (passed ++ cur.kept) before now after old.room p.kept (HasNoNewline-append passed cur.kept p.none none)
    (omega (arith, p.room, full)) p.read on

-- the room is used up, and the source goes on
pub over : (old : Reader) (before : Option (List ℕ)) (passed : List ℕ) (cur : Reader) (now after : Option (List ℕ))
    → Passed old before passed cur now → HasNoNewline cur.kept → cur.room ≡ 0 → cur.at_end ≡ false → GoesOn now after → IsOver old before
over old before passed cur now after p none full going on = over_with old before passed old.at_end cur now after refl p none full going on

takes_over_in : (b a after : Option (List ℕ)) (t : List ℕ) (room rest : ℕ) → Reads b t a → GoesOn a after → length t ≡ room → rest ≡ 0
    → IfSome b (λ left. IsSomeAnd after (λ more. (taken : List ℕ) × (left ≡ taken ++ more) × (length taken + rest ≤ room + 1)))
takes_over_in None a after t room rest read on e f = tt
takes_over_in (Some x) None after t room rest read on e f = absurd read
takes_over_in (Some x) (Some y) None t room rest read on e f = absurd on
takes_over_in (Some x) (Some y) (Some z) t room rest read on e f =
    (t ++ on.0, read ∙ ap (λ bytes. t ++ bytes) on.1 ∙ sym (append_assoc t on.0 z), omega (arith, length-append t on.0, on.2))

-- one byte more was taken
pub takes_over : (old : Reader) (before : Option (List ℕ)) (passed : List ℕ) (cur : Reader) (now after : Option (List ℕ)) (new : Reader)
    → Passed old before passed cur now → cur.room ≡ 0 → new.room ≡ 0 → GoesOn now after → TakesUpTo 1 old before new after
takes_over old before passed cur now after new p full room on =
    record { bytes = takes_over_in before now after p.taken old.room new.room p.read on (omega (arith, p.room, full)) room }

reads_front : (before after : Option (List ℕ)) (count : ℕ) (into rest : List ℕ) → Takes before count into after → count ≤ length into
    → Reads before (take count (into ++ rest)) after
reads_front None after count into rest took le = took
reads_front (Some left) None count into rest took le = absurd took.2
reads_front (Some left) (Some more) count into rest took le =
    sym (take-append-drop count left) ∙ ap (λ xs. xs ++ drop count left) (sym took.1 ∙ sym (take-append-le count into rest le))
    ∙ ap (λ xs. take count (into ++ rest) ++ xs) (sym took.2)

-- what a read into the front of a piece gives
pub reads : {E : Type 0} (result : Result ℕ E) (before after : Option (List ℕ)) (into rest : List ℕ) (size : ℕ)
    → IfOk result (λ count. count ≤ size) → length into ≡ size → IfOk result (λ count. Takes before count into after)
    → IfOk result (λ count. Reads before (take count (into ++ rest)) after)
reads (Ok count) before after into rest size le same took = reads_front before after count into rest took (omega arith)
reads (Err e) before after into rest size le same took = tt
