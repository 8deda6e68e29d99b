-- A forest with others in place of some of its nodes: what stands before the place and behind it stays.
use Rattle.std.proofs.Common.{◌≡◌, ℕ, ◌-◌, ◌<◌, ◌≤◌, ◌==◌, true, false, cond, List, [], ◌∷◌, ◌++◌, length, Option, Some, None, refl}
use Rattle.std.proofs.Common.{sym, ap, ◌∙◌, subst, arith, append_assoc, length-append}
use Rattle.std.proofs.Common.{⊎_elim}
use Rattle.std.specs.Prelude.{nat_lt}
use Rattle.std.specs.List.{list_all}
use Rattle.std.proofs.lemmas.List.{map-append}
use Rattle.std.proofs.lemmas.Bool.{eqb-true, and_parts}
use Rattle.std.proofs.lemmas.List.Folds.{list_any-append}
use Rattle.spec_document.specs.Forest as spec
use Rattle.spec_document.specs.Forest.{Content, Forest, followed, labels, size}
use Rattle.spec_document.specs.Numbering.{number_limit}
use Rattle.spec_edit.specs.Splice.{below_changed, children_changed, first_siblings, later_siblings, replaced}
use Rattle.xt_tree.specs.Keys.{Rises, has_number, key_limit, last_key}
use Rattle.xt_tree.specs.Kept.{AreNames}
use Rattle.xt_tree.specs.Numbers.{IsDocument, IsNumbered, are_distinct}
use Rattle.xt_tree.specs.Room.{AreBeside, AreKeyed, Between, IsRoom, between, first_key, room_below, room_of}
use Rattle.xt_tree.proofs.Apart.{apart_nodes, are_few, has-among, length-labels}
use Rattle.xt_tree.proofs.Bools.{not_both, not_true, unlike}
use Rattle.xt_tree.proofs.Distinct.{distinct_parts, is_among, none_some, not_before, not_false, or_left, some_same}
use Rattle.xt_tree.proofs.Entries.{AllNamed, Entry, Kept, entries, entries-followed, entry, found-named, named-append, named-found}
use Rattle.xt_tree.proofs.Entries.{named-parts, names-below, names-of, numbers, numbers-entries, suit-named}
use Rattle.xt_tree.proofs.Named.{no_names}
use Rattle.xt_tree.proofs.Rising.{Agree, Sorted, final, final-above, final-append, final-from, final-labels, final-same, labels-rise}
use Rattle.xt_tree.proofs.Rising.{sorted-append, sorted-from, sorted-labels, sorted-parts, sorted-same, start, start-above, start-append}
use Rattle.xt_tree.proofs.Rising.{start-most, start-same}

-- the entries of a forest before others came in and behind that, and the room for their keys
pub record IsParted (key : ℕ → ℕ) (low high : ℕ) (new : Forest ℕ) (old made : List Entry) (room : Between) : Type 0 where
  pub above : List Content
  pub before : List Entry
  pub gone : List Entry
  pub after : List Entry
  pub old_is : old ≡ before ++ (gone ++ after)
  pub made_is : made ≡ before ++ (entries above new ++ after)
  pub low_is : room.low ≡ final key low (numbers before)
  pub high_is : room.high ≡ start key high (numbers after)

-- ---- At the place

-- what stands before the later siblings
pub record IsFront (whole after : List Entry) : Type 0 where
  pub front : List Entry
  pub is : whole ≡ front ++ after

later-front : (n : ℕ) (above : List Content) (f : Forest ℕ) → IsFront (entries above f) (entries above (later_siblings n f))
later-front n above spec.Empty = record { front = []; is = refl }
later-front n above (spec.Node l c f g) =
    elim (n == 0) as (λ b. IsFront (entries above (spec.Node l c f g)) (entries above (cond b (spec.Node l c f g) (later_siblings (n - 1) g)))) [
      | true ↦ record { front = []; is = refl }
      | false ↦ let rest = later-front (n - 1) above g in
          record {
            front = entry above l c ∷ entries (c ∷ above) f ++ rest.front;
            is = ap (λ es. entry above l c ∷ entries (c ∷ above) f ++ es) rest.is
                ∙ ap (λ es. entry above l c ∷ es) (sym (append_assoc (entries (c ∷ above) f) rest.front (entries above (later_siblings (n - 1) g))));
          }
    ]

-- what stands between the first and the later siblings
pub record IsMiddle (whole before after : List Entry) : Type 0 where
  pub gone : List Entry
  pub is : whole ≡ before ++ (gone ++ after)

middle : (from to : ℕ) (above : List Content) (f : Forest ℕ) → from ≤ to
    → IsMiddle (entries above f) (entries above (first_siblings from f)) (entries above (later_siblings to f))
middle from to above spec.Empty h = record { gone = []; is = refl }
middle from to above (spec.Node l c f g) h =
    elim (from == 0) as (λ b. (from == 0) ≡ b → IsMiddle (entries above (spec.Node l c f g))
    (entries above (cond b spec.Empty (spec.Node l c f (first_siblings (from - 1) g)))) (entries above (later_siblings to (spec.Node l c f g)))) [
      | true ↦ λ _. let rest = later-front to above (spec.Node l c f g) in record { gone = rest.front; is = rest.is }
      | false ↦ λ e. let some = unlike from 0 e in
          elim (to == 0) as (λ b. (to == 0) ≡ b → IsMiddle (entries above (spec.Node l c f g)) (entries above (spec.Node l c f (first_siblings (from - 1) g)))
          (entries above (cond b (spec.Node l c f g) (later_siblings (to - 1) g)))) [
            | true ↦ λ d. absurd (let is : to ≡ 0 = eqb-true to 0 d in some (omega arith))
            | false ↦ λ _. let rest = middle (from - 1) (to - 1) above g (omega arith) in
                record {
                  gone = rest.gone;
                  is = ap (λ es. entry above l c ∷ entries (c ∷ above) f ++ es) rest.is
                      ∙ ap (λ es. entry above l c ∷ es) (sym (append_assoc (entries (c ∷ above) f) (entries above (first_siblings (from - 1) g))
                      (rest.gone ++ entries above (later_siblings (to - 1) g))));
                }
          ] refl
    ] refl

first-key-is : (key : ℕ → ℕ) (high : ℕ) (above : List Content) (f : Forest ℕ) → first_key key high f ≡ start key high (numbers (entries above f))
first-key-is key high above spec.Empty = refl
first-key-is key high above (spec.Node l c f g) = refl

last-key-is : (key : ℕ → ℕ) (low : ℕ) (above : List Content) (f : Forest ℕ) → last_key key low f ≡ final key low (numbers (entries above f))
last-key-is key low above f = sym (final-labels key low f) ∙ ap (final key low) (sym (numbers-entries above f))

parted-here : (key : ℕ → ℕ) (from to low high : ℕ) (new : Forest ℕ) (above : List Content) (f : Forest ℕ) → from ≤ to
    → IsParted key low high new (entries above f) (entries above (replaced from to new f))
    (between (last_key key low (first_siblings from f)) (first_key key high (later_siblings to f)))
parted-here key from to low high new above f h =
    let first = first_siblings from f in
    let later = later_siblings to f in
    let m = middle from to above f h in
    record {
      above = above;
      before = entries above first;
      gone = m.gone;
      after = entries above later;
      old_is = m.is;
      made_is = entries-followed above first (followed new later) ∙ ap (λ es. entries above first ++ es) (entries-followed above new later);
      low_is = last-key-is key low above first;
      high_is = first-key-is key high above later;
    }

-- ---- On the way there

numbers-append : (xs ys : List Entry) → numbers (xs ++ ys) ≡ numbers xs ++ numbers ys
numbers-append xs ys = map-append (λ e. e.number) xs ys

regrouped : (xs ys zs rest : List Entry) → (xs ++ (ys ++ zs)) ++ rest ≡ xs ++ (ys ++ (zs ++ rest))
regrouped xs ys zs rest = append_assoc xs (ys ++ zs) rest ∙ ap (λ es. xs ++ es) (append_assoc ys zs rest)

parted-below : (key : ℕ → ℕ) (low high : ℕ) (new : Forest ℕ) (above : List Content) (l : ℕ) (c : Content) (f h g : Forest ℕ) (room : Between)
    → IsParted key (key l) (first_key key high g) new (entries (c ∷ above) f) (entries (c ∷ above) h) room
    → IsParted key low high new (entries above (spec.Node l c f g)) (entries above (spec.Node l c h g)) room
parted-below key low high new above l c f h g room p =
    let behind = entries above g in
    record {
      above = p.above;
      before = entry above l c ∷ p.before;
      gone = p.gone;
      after = p.after ++ behind;
      old_is = ap (λ es. entry above l c ∷ es ++ behind) p.old_is ∙ ap (λ es. entry above l c ∷ es) (regrouped p.before p.gone p.after behind);
      made_is = ap (λ es. entry above l c ∷ es ++ behind) p.made_is
          ∙ ap (λ es. entry above l c ∷ es) (regrouped p.before (entries p.above new) p.after behind);
      low_is = p.low_is;
      high_is = p.high_is ∙ ap (λ k. start key k (numbers p.after)) (first-key-is key high above g)
          ∙ sym (start-append key high (numbers p.after) (numbers behind)) ∙ ap (start key high) (sym (numbers-append p.after behind));
    }

parted-behind : (key : ℕ → ℕ) (low high : ℕ) (new : Forest ℕ) (above : List Content) (l : ℕ) (c : Content) (f g h : Forest ℕ) (room : Between)
    → IsParted key (last_key key (key l) f) high new (entries above g) (entries above h) room
    → IsParted key low high new (entries above (spec.Node l c f g)) (entries above (spec.Node l c f h)) room
parted-behind key low high new above l c f g h room p =
    let below = entries (c ∷ above) f in
    record {
      above = p.above;
      before = entry above l c ∷ below ++ p.before;
      gone = p.gone;
      after = p.after;
      old_is = ap (λ es. entry above l c ∷ below ++ es) p.old_is
          ∙ ap (λ es. entry above l c ∷ es) (sym (append_assoc below p.before (p.gone ++ p.after)));
      made_is = ap (λ es. entry above l c ∷ below ++ es) p.made_is
          ∙ ap (λ es. entry above l c ∷ es) (sym (append_assoc below p.before (entries p.above new ++ p.after)));
      low_is = p.low_is ∙ ap (λ k. final key k (numbers p.before)) (last-key-is key (key l) (c ∷ above) f)
          ∙ sym (final-append key (key l) (numbers below) (numbers p.before)) ∙ ap (final key (key l)) (sym (numbers-append below p.before));
      high_is = p.high_is;
    }

parted-among : (key : ℕ → ℕ) (room : ℕ → Forest ℕ → ℕ → Option Between) (change : Forest ℕ → Forest ℕ) (new : Forest ℕ)
    → ((above : List Content) (low : ℕ) (f : Forest ℕ) (high : ℕ) (r : Between) → room low f high ≡ Some r
    → IsParted key low high new (entries above f) (entries above (change f)) r)
    → (p : ℕ) (above : List Content) (low : ℕ) (f : Forest ℕ) (high : ℕ) (r : Between) → room_below key room p f high ≡ Some r
    → IsParted key low high new (entries above f) (entries above (below_changed change p f)) r
parted-among key room change new below p above low spec.Empty high r e = absurd (none_some r e)
parted-among key room change new below p above low (spec.Node l c f g) high r e =
    elim (p == 1) as (λ b. cond b (room (key l) f (first_key key high g)) (room_below key room (p - 1) g high) ≡ Some r
    → IsParted key low high new (entries above (spec.Node l c f g))
    (entries above (cond b (spec.Node l c (change f) g) (spec.Node l c f (below_changed change (p - 1) g)))) r) [
      | true ↦ λ e. parted-below key low high new above l c f (change f) g r (below (c ∷ above) (key l) f (first_key key high g) r e)
      | false ↦ λ e. parted-behind key low high new above l c f g (below_changed change (p - 1) g) r
          (parted-among key room change new below (p - 1) above (last_key key (key l) f) g high r e)
    ] e

pub parted : (key : ℕ → ℕ) (from to : ℕ) (new : Forest ℕ) (ps : List ℕ) → from ≤ to
    → (above : List Content) (low : ℕ) (f : Forest ℕ) (high : ℕ) (r : Between) → room_of key from to ps low f high ≡ Some r
    → IsParted key low high new (entries above f) (entries above (children_changed (replaced from to new) ps f)) r
parted key from to new [] h above low f high r e =
    subst (IsParted key low high new (entries above f) (entries above (replaced from to new f)))
    (some_same (between (last_key key low (first_siblings from f)) (first_key key high (later_siblings to f))) r e)
    (parted-here key from to low high new above f h)
parted key from to new (p ∷ ps) h above low f high r e =
    parted-among key (room_of key from to ps) (children_changed (replaced from to new) ps) new
    (λ above low f high r e. parted key from to new ps h above low f high r e) p above low f high r e

-- where the positions lead to no node
nothing-among : (key : ℕ → ℕ) (room : ℕ → Forest ℕ → ℕ → Option Between) (change : Forest ℕ → Forest ℕ)
    → ((low : ℕ) (f : Forest ℕ) (high : ℕ) → room low f high ≡ None → change f ≡ f)
    → (p : ℕ) (f : Forest ℕ) (high : ℕ) → room_below key room p f high ≡ None → below_changed change p f ≡ f
nothing-among key room change below p spec.Empty high e = refl
nothing-among key room change below p (spec.Node l c f g) high e =
    elim (p == 1) as (λ b. cond b (room (key l) f (first_key key high g)) (room_below key room (p - 1) g high) ≡ None
    → cond b (spec.Node l c (change f) g) (spec.Node l c f (below_changed change (p - 1) g)) ≡ spec.Node l c f g) [
      | true ↦ λ e. ap (λ h. spec.Node l c h g) (below (key l) f (first_key key high g) e)
      | false ↦ λ e. ap (spec.Node l c f) (nothing-among key room change below (p - 1) g high e)
    ] e

pub nothing_changed : (key : ℕ → ℕ) (from to : ℕ) (new : Forest ℕ) (ps : List ℕ) (low : ℕ) (f : Forest ℕ) (high : ℕ)
    → room_of key from to ps low f high ≡ None → children_changed (replaced from to new) ps f ≡ f
nothing_changed key from to new [] low f high e = absurd (none_some _ (sym e))
nothing_changed key from to new (p ∷ ps) low f high e =
    nothing-among key (room_of key from to ps) (children_changed (replaced from to new) ps)
    (λ low f high e. nothing_changed key from to new ps low f high e) p f high e

-- ---- Keys

labels-parted : (before after : List Entry) (above : List Content) (new made : Forest ℕ) → entries [] made ≡ before ++ (entries above new ++ after)
    → labels made ≡ numbers before ++ (labels new ++ numbers after)
labels-parted before after above new made e =
    sym (numbers-entries [] made) ∙ ap numbers e ∙ numbers-append before (entries above new ++ after)
    ∙ ap (λ ns. numbers before ++ ns) (numbers-append (entries above new) after)
    ∙ ap (λ ns. numbers before ++ (ns ++ numbers after)) (numbers-entries above new)

-- the keys before and behind a place
record AreAround (key : ℕ → ℕ) (low high : ℕ) (before after : List ℕ) : Type 0 where
  first : Sorted key 0 before
  bound : ℕ
  last : Sorted key bound after
  end : final key bound after < high
  some : low ≤ bound
  low_is : low ≡ final key 0 before

around : (key : ℕ → ℕ) (new f made : Forest ℕ) (room : Between) → Rises key 0 f → last_key key 0 f < key_limit
    → (p : IsParted key 0 key_limit new (entries [] f) (entries [] made) room) → AreAround key room.low key_limit (numbers p.before) (numbers p.after)
around key new f made room rises limit p =
    let before = numbers p.before in
    let gone = numbers p.gone in
    let after = numbers p.after in
    let is : labels f ≡ before ++ (gone ++ after) = sym (numbers-entries [] f) ∙ ap numbers p.old_is ∙ numbers-append p.before (p.gone ++ p.after)
    ∙ ap (λ ns. before ++ ns) (numbers-append p.gone p.after) in
    let sorted = sorted-parts key 0 before (gone ++ after) (subst (Sorted key 0) is (sorted-labels key 0 f rises)) in
    let rest = sorted-parts key (final key 0 before) gone after sorted.1 in
    let bound = final key (final key 0 before) gone in
    let whole : last_key key 0 f ≡ final key bound after = sym (final-labels key 0 f) ∙ ap (final key 0) is ∙ final-append key 0 before (gone ++ after)
    ∙ final-append key (final key 0 before) gone after in
    let above = final-above key (final key 0 before) gone rest.0 in
    record {
      first = sorted.0;
      bound = bound;
      last = rest.1;
      end = omega (arith, limit, whole);
      some = omega (arith, above, p.low_is);
      low_is = p.low_is;
    }

-- no number stands twice
record AreSeparate (before new after : List ℕ) : Type 0 where
  own : are_distinct new ≡ true
  first : (n : ℕ) → is_among n before ≡ true → is_among n new ≡ false
  last : (n : ℕ) → is_among n after ≡ true → is_among n new ≡ false

separate : (before new after : List ℕ) → are_distinct (before ++ (new ++ after)) ≡ true → AreSeparate before new after
separate before new after h =
    let parts = distinct_parts before (new ++ after) h in
    let rest = distinct_parts new after parts.1 in
    record {
      own = rest.0;
      first = λ n e. not_true (is_among n new) (λ d. not_both (is_among n before) e
          (not_before before (new ++ after) n h (list_any-append (λ m. m == n) new after ∙ or_left (is_among n new) (is_among n after) d)));
      last = λ n e. not_before new after n parts.1 e;
    }

keyed-parted : (key own : ℕ → ℕ) (low : ℕ) (before after : List ℕ) (new made : Forest ℕ) → labels made ≡ before ++ (labels new ++ after)
    → AreAround key low key_limit before after → AreSeparate before (labels new) after
    → ((n : ℕ) → has_number n new ≡ false → own n ≡ key n) → Rises own low new → last_key own low new < start key key_limit after → AreKeyed own made
keyed-parted key own low before after new made is a s same rises less =
    let agree_before : Agree key own before = λ n e. same n (has-among n new ∙ s.first n e) in
    let agree_after : Agree key own after = λ n e. same n (has-among n new ∙ s.last n e) in
    let last = last_key own low new in
    let begin : final own 0 before ≡ low = final-same key own 0 before agree_before ∙ sym a.low_is in
    let above : last < start own key_limit after = subst (λ k. last < k) (sym (start-same key own key_limit after agree_after)) less in
    let behind = sorted-from own a.bound last key_limit after (sorted-same key own a.bound after agree_after a.last) above in
    let end : final own last after < key_limit = final-from own a.bound last key_limit after
    (subst (λ k. k < key_limit) (sym (final-same key own a.bound after agree_after)) a.end) above in
    let inner = sorted-append own low (labels new) after (sorted-labels own low new rises)
    (subst (λ k. Sorted own k after) (sym (final-labels own low new)) behind) in
    let whole = sorted-append own 0 before (labels new ++ after) (sorted-same key own 0 before agree_before a.first)
    (subst (λ k. Sorted own k (labels new ++ after)) (sym begin) inner) in
    let final_is : last_key own 0 made ≡ final own last after = sym (final-labels own 0 made) ∙ ap (final own 0) is
    ∙ final-append own 0 before (labels new ++ after)
    ∙ ap (λ k. final own k (labels new ++ after)) begin ∙ final-append own low (labels new) after ∙ ap (λ k. final own k after) (final-labels own low new) in
    record {
      rises = labels-rise own 0 made (subst (Sorted own 0) (sym is) whole);
      limit = subst (λ k. k < key_limit) (sym final_is) end;
    }

few-parted : (before after : List ℕ) (new made : Forest ℕ) → labels made ≡ before ++ (labels new ++ after) → size new ≤ size made
few-parted before after new made is =
    omega (arith, length-labels new, length-labels made, ap length is, length-append before (labels new ++ after), length-append (labels new) after)

distinct_nodes : (root : ℕ) (f : Forest ℕ) → IsNumbered (record { root = root; nodes = f }) → are_distinct (labels f) ≡ true
distinct_nodes root f h =
    let parts = and_parts (are_distinct (root ∷ labels f)) (list_all (λ n. nat_lt n number_limit) (root ∷ labels f)) h in
    (and_parts _ (are_distinct (labels f)) parts.0).1

root_apart : (root : ℕ) (f : Forest ℕ) → IsNumbered (record { root = root; nodes = f }) → has_number root f ≡ false
root_apart root f h =
    let parts = and_parts (are_distinct (root ∷ labels f)) (list_all (λ n. nat_lt n number_limit) (root ∷ labels f)) h in
    has-among root f ∙ not_false _ (and_parts _ (are_distinct (labels f)) parts.0).0

pub room_is : (key : ℕ → ℕ) (kept : Kept) (root from to : ℕ) (new : Forest ℕ) (ps : List ℕ) (f made : Forest ℕ) (room : Between)
    → IsDocument key kept (record { root = root; nodes = f }) → IsNumbered (record { root = root; nodes = made })
    → made ≡ children_changed (replaced from to new) ps f → from ≤ to → room_of key from to ps 0 f key_limit ≡ Some room
    → IsRoom key room.low room.high new made
room_is key kept root from to new ps f made room d numbered is order there =
    let p : IsParted key 0 key_limit new (entries [] f) (entries [] made) room =
    subst (λ g. IsParted key 0 key_limit new (entries [] f) (entries [] g) room) (sym is) (parted key from to new ps order [] 0 f key_limit room there) in
    let before = numbers p.before in
    let after = numbers p.after in
    let labels_is = labels-parted p.before p.after p.above new made p.made_is in
    let a = around key new f made room d.rises d.limit p in
    let s = separate before (labels new) after (subst (λ ns. are_distinct ns ≡ true) labels_is (distinct_nodes root made numbered)) in
    let few = (are_few root made numbered).size in
    let less = few-parted before after new made labels_is in
    let above = start-above key a.bound key_limit after a.last a.end in
    record {
      apart = apart_nodes new s.own;
      few = omega arith;
      some = omega (arith, above, a.some, p.high_is);
      limit = subst (λ k. k ≤ key_limit) (sym p.high_is) (start-most key a.bound key_limit after a.last a.end);
      keyed = λ own same rises less. keyed-parted key own room.low before after new made labels_is a s same rises
          (subst (λ k. last_key own room.low new < k) p.high_is less);
    }

-- ---- Names

pub names_stay : (key : ℕ → ℕ) (kept own : Kept) (root from to : ℕ) (new : Forest ℕ) (ps : List ℕ) (f made : Forest ℕ) (room : Between)
    → IsDocument key kept (record { root = root; nodes = f })
    → made ≡ children_changed (replaced from to new) ps f → from ≤ to → room_of key from to ps 0 f key_limit ≡ Some room
    → AreBeside kept own new → AreNames own (record { root = root; nodes = made })
names_stay key kept own root from to new ps f made room d is order there beside =
    ⊎_elim (λ none. no_names own _ none)
    (λ shared.
    let p = parted key from to new ps order [] 0 f key_limit room there in
    let found = names-below kept root f (root_apart root f d.numbers) d.names in
    let all = named-found kept [] f (apart_nodes f (distinct_nodes root f d.numbers)) found in
    let old = named-parts kept p.before (p.gone ++ p.after) (subst (AllNamed kept) p.old_is all) in
    let rest = named-parts kept p.gone p.after old.1 in
    let whole = named-append kept p.before (entries p.above new ++ p.after) old.0
    (named-append kept (entries p.above new) p.after (suit-named kept p.above new shared.1) rest.1) in
    let here : AllNamed kept (entries [] made) = subst (λ g. AllNamed kept (entries [] g)) (sym is) (subst (AllNamed kept) (sym p.made_is) whole) in
    let same : kept ≡ own = λ i n. sym (shared.0 n) i in
    subst (λ k. AreNames k (record { root = root; nodes = made })) same (names-of kept root f made d.names (found-named kept [] made here))) beside

-- ---- The same keys and names by other tables

pub same_document : (key own : ℕ → ℕ) (kept names : Kept) (root : ℕ) (f : Forest ℕ) → ((n : ℕ) → own n ≡ key n) → ((n : ℕ) → names n ≡ kept n)
    → IsDocument key kept (record { root = root; nodes = f }) → IsDocument own names (record { root = root; nodes = f })
same_document key own kept names root f keys_are names_are d =
    let keys_same : key ≡ own = λ i n. sym (keys_are n) i in
    let names_same : kept ≡ names = λ i n. sym (names_are n) i in
    subst (λ k. IsDocument own k (record { root = root; nodes = f })) names_same
    (subst (λ k. IsDocument k kept (record { root = root; nodes = f })) keys_same d)

-- keys that rise from a number rise from any below it
pub lower : (key : ℕ → ℕ) (low start high : ℕ) (f : Forest ℕ) → low < high → low ≤ start → Rises key start f → last_key key start f < high
    → Rises key low f × (last_key key low f < high)
lower key low start high spec.Empty h le r lt = (tt, h)
lower key low start high (spec.Node l c f g) h le r lt = ((omega (arith, r.0), r.1, r.2), lt)
