-- Nodes of before and of now that are passed side by side.
use Rattle.std.proofs.Common.{◌≡◌, ◌<◌, ◌≤◌, ℕ, ◌+◌, Bool, true, false, cond, List, [], ◌∷◌, ◌++◌, length, drop, take, get_or, Option, None, Some, Result, Ok, Err, refl, sym, ap, subst, ◌∙◌, append_assoc}
use Rattle.std.specs.Prelude.{IfOk, IfSome, ◌||◌, bytes_eq, if◌then◌else◌}
use Rattle.std.proofs.lemmas.Slice.Eq.{bytes_eq-Decides}
use Rattle.std.specs.Global.{Global}
use Rattle.std.specs.declared.rc.Rc.{Rc}
use Rattle.std.proofs.lemmas.List.{append-nil, drop_all, drop_more, map_push, take_more}
use Rattle.spec_document.specs.Name.{Expanded}
use Rattle.spec_node.specs.declared.node_ref.NodeRef.{NodeRef}
use Rattle.xt_keys.specs.View.{having}
use Rattle.xt_world.specs.declared.stylesheet.Stylesheet.{Stylesheet}
use Rattle.xt_spared.specs.View.{Ask, is_text_among}
use Rattle.xt_own.specs.Keys.{AreNodesOf, Covers, IsNodeOf, Passed, Skips, having_in, lists_of, nodes_of}
use Rattle.xt_own.specs.declared.own_node.OwnNode.{OwnNode}

-- ---- Which of some nodes have a text

-- one that has not is left out
none_had : (text : List ℕ) (n : NodeRef) (ts : List (List ℕ)) (ns : List NodeRef) (lists : List (List (List ℕ))) → is_text_among text ts ≡ false
    → having text (n ∷ ns) (ts ∷ lists) ≡ having text ns lists
none_had text n ts ns lists h = ap (λ b. if b then n ∷ having text ns lists else having text ns lists) h

-- the first, and the others
having_first : (text : List ℕ) (own : Rc OwnNode Global) (owns : List (Rc OwnNode Global))
    → having_in text (own ∷ owns) ≡ having_in text (own ∷ []) ++ having_in text owns
having_first text own owns = by (is_text_among text own.value.texts.items)
  where
    by : (b : Bool) → cond b (own.value.node ∷ having_in text owns) (having_in text owns) ≡ cond b (own.value.node ∷ []) [] ++ having_in text owns
    by true = refl
    by false = refl

-- and the last
having_more : (text : List ℕ) (owns : List (Rc OwnNode Global)) (own : Rc OwnNode Global)
    → having_in text (owns ++ own ∷ []) ≡ having_in text owns ++ having_in text (own ∷ [])
having_more text [] own = refl
having_more text (x ∷ owns) own = by (is_text_among text x.value.texts.items) (having_more text owns own)
  where
    by : (b : Bool) → having_in text (owns ++ own ∷ []) ≡ having_in text owns ++ having_in text (own ∷ [])
        → cond b (x.value.node ∷ having_in text (owns ++ own ∷ [])) (having_in text (owns ++ own ∷ []))
        ≡ cond b (x.value.node ∷ having_in text owns) (having_in text owns) ++ having_in text (own ∷ [])
    by true rest = ap (λ l. x.value.node ∷ l) rest
    by false rest = rest

pub nodes_more : (s : Stylesheet) (ask : Ask) (name : Expanded) (own : Rc OwnNode Global) (owns : List (Rc OwnNode Global)) → AreNodesOf s ask name owns
    → IsNodeOf s ask name own.value → AreNodesOf s ask name (owns ++ own ∷ [])
nodes_more s ask name own [] known is = (is, tt)
nodes_more s ask name own (x ∷ owns) known is = (known.0, nodes_more s ask name own owns known.1 is)

pub none_known : (s : Stylesheet) (ask : Ask) (name : Expanded) (owns : List (Rc OwnNode Global)) → owns ≡ [] → AreNodesOf s ask name owns
none_known s ask name owns e = let P : List (Rc OwnNode Global) → Type 0 = AreNodesOf s ask name in subst P (sym e) tt

pub one_more_known : (s : Stylesheet) (ask : Ask) (name : Expanded) (owns more : List (Rc OwnNode Global)) (own : Rc OwnNode Global) → more ≡ owns ++ own ∷ []
    → AreNodesOf s ask name owns → IsNodeOf s ask name own.value → AreNodesOf s ask name more
one_more_known s ask name owns more own e known is =
    let P : List (Rc OwnNode Global) → Type 0 = AreNodesOf s ask name in subst P (sym e) (nodes_more s ask name own owns known is)

-- ---- Values that are added

never : {A : Type 0} (b : Bool) → b ≡ true → b ≡ false → A
never true h k = absurd (cc)
never false h k = absurd (cc)

among_front : (text : List ℕ) (but more : List (List ℕ)) → is_text_among text (but ++ more) ≡ false → is_text_among text but ≡ false
among_front text [] more h = refl
among_front text (t ∷ but) more h = by (bytes_eq t text) (λ k. among_front text but more k) h
  where
    by : (b : Bool) → (is_text_among text (but ++ more) ≡ false → is_text_among text but ≡ false) → (b || is_text_among text (but ++ more)) ≡ false
        → (b || is_text_among text but) ≡ false
    by true rest h = h
    by false rest h = rest h

among_back : (text : List ℕ) (but more : List (List ℕ)) → is_text_among text (but ++ more) ≡ false → is_text_among text more ≡ false
among_back text [] more h = h
among_back text (t ∷ but) more h = by (bytes_eq t text) (λ k. among_back text but more k) h
  where
    by : (b : Bool) → (is_text_among text (but ++ more) ≡ false → is_text_among text more ≡ false) → (b || is_text_among text (but ++ more)) ≡ false
        → is_text_among text more ≡ false
    by true rest h = never true refl h
    by false rest h = rest h

among_neither : (text : List ℕ) (but more : List (List ℕ)) → is_text_among text but ≡ false → is_text_among text more ≡ false
    → is_text_among text (but ++ more) ≡ false
among_neither text [] more h k = k
among_neither text (t ∷ but) more h k = by (bytes_eq t text) (λ h. among_neither text but more h k) h
  where
    by : (b : Bool) → (is_text_among text but ≡ false → is_text_among text (but ++ more) ≡ false) → (b || is_text_among text but) ≡ false
        → (b || is_text_among text (but ++ more)) ≡ false
    by true rest h = h
    by false rest h = rest h

-- a text that is not among them is none that is
among_not : (value text : List ℕ) (but : List (List ℕ)) → is_text_among value but ≡ true → is_text_among text but ≡ false
    → is_text_among text (value ∷ []) ≡ false
among_not value text but is none = by (bytes_eq value text) refl
  where
    by : (b : Bool) → bytes_eq value text ≡ b → (b || false) ≡ false
    by false e = refl
    by true e =
        let P : List ℕ → Type 0 = λ t. is_text_among t but ≡ true in
        never (is_text_among text but) (subst P ((bytes_eq-Decides value text).0 e) is) none

-- one more of the values is covered: it is added, or there already
pub covers_added : (first but more values : List (List ℕ)) (i : ℕ) (value : List ℕ) → i < length values → value ≡ get_or values i value
    → more ≡ but ++ value ∷ [] → Covers first but × Covers (take i values) but → Covers first more × Covers (take (i + 1) values) more
covers_added first but more values i value within is e both =
    let before : Covers first more = λ text h. both.0 text (among_front text but (value ∷ []) (ap (is_text_among text) (sym e) ∙ h)) in
    let V : List (List ℕ) → Type 0 = λ vs. Covers vs more in
    let front : Covers (take i values ++ value ∷ []) more
    = λ text h.
    let other : is_text_among text (but ++ value ∷ []) ≡ false = ap (is_text_among text) (sym e) ∙ h in
    among_neither text (take i values) (value ∷ []) (both.1 text (among_front text but (value ∷ []) other)) (among_back text but (value ∷ []) other) in
    (before, subst V (ap (λ v. take i values ++ v ∷ []) is ∙ sym (take_more values i value within)) front)

pub covers_there : (first but values : List (List ℕ)) (i : ℕ) (value : List ℕ) → i < length values → value ≡ get_or values i value
    → is_text_among value but ≡ true → Covers first but × Covers (take i values) but → Covers first but × Covers (take (i + 1) values) but
covers_there first but values i value within is there both =
    let V : List (List ℕ) → Type 0 = λ vs. Covers vs but in
    let front : Covers (take i values ++ value ∷ []) but
    = λ text h. among_neither text (take i values) (value ∷ []) (both.1 text h) (among_not value text but there h) in
    (both.0, subst V (ap (λ v. take i values ++ v ∷ []) is ∙ sym (take_more values i value within)) front)

-- ---- Steps

module _ (s : Stylesheet) (was ask : Ask) (name : Expanded) (answer : List ℕ → List NodeRef) where
  -- a node is passed in both
  pub both_passed : (but : List (List ℕ)) (old new : Rc OwnNode Global) (rest found : List (Rc OwnNode Global)) → new.value ≡ old.value
      → (IsNodeOf s was name old.value → IsNodeOf s ask name old.value) → Passed s was ask name answer but (old ∷ rest) found
      → Passed s was ask name answer but rest (found ++ new ∷ [])
  both_passed but old new rest found is stays passed = record {
    old = passed.old.1;
    new = nodes_more s ask name new found passed.new (subst (λ (n : OwnNode). IsNodeOf s ask name n) (sym is) (stays passed.old.0));
    same = λ text other.
        passed.same text other
        ∙ ap (λ l. having_in text found ++ l) (having_first text old rest)
        ∙ sym (append_assoc (having_in text found) (having_in text (old ∷ [])) (having_in text rest))
        ∙ ap (λ l. l ++ having_in text rest)
        (ap (λ (n : OwnNode). having_in text found ++ having text (n.node ∷ []) (n.texts.items ∷ [])) (sym is)
        ∙ sym (having_more text found new));
  }

  -- a node of now alone, whose values are added
  pub new_passed : (but after : List (List ℕ)) (new : Rc OwnNode Global) (left found : List (Rc OwnNode Global)) → Covers but after
      → Covers new.value.texts.items after → IsNodeOf s ask name new.value → Passed s was ask name answer but left found
      → Passed s was ask name answer after left (found ++ new ∷ [])
  new_passed but after new left found covers values known passed = record {
    old = passed.old;
    new = nodes_more s ask name new found passed.new known;
    same = λ text other.
        passed.same text (covers text other)
        ∙ ap (λ l. l ++ having_in text left)
        (sym (append-nil (having_in text found))
        ∙ ap (λ l. having_in text found ++ l) (sym (none_had text new.value.node new.value.texts.items [] [] (values text other)))
        ∙ sym (having_more text found new));
  }

  -- a node of before alone, whose values are added
  pub old_passed : (but after : List (List ℕ)) (old : Rc OwnNode Global) (rest found : List (Rc OwnNode Global)) → Covers but after
      → Covers old.value.texts.items after → Passed s was ask name answer but (old ∷ rest) found → Passed s was ask name answer after rest found
  old_passed but after old rest found covers values passed = record {
    old = passed.old.1;
    new = passed.new;
    same = λ text other.
        passed.same text (covers text other)
        ∙ ap (λ l. having_in text found ++ l) (none_had text old.value.node old.value.texts.items (nodes_of rest) (lists_of rest) (values text other));
  }

  -- after the last of before
  pub all_passed : (but : List (List ℕ)) (found : List (Rc OwnNode Global)) → Passed s was ask name answer but [] found → (text : List ℕ)
      → is_text_among text but ≡ false → answer text ≡ having_in text found
  all_passed but found passed text other = passed.same text other ∙ append-nil (having_in text found)

-- ---- What is said of a call that may find nothing

pub ok_some_weaker : {X E : Type 0} {P Q : X → Type 0} (r : Result (Option X) E) → ((x : X) → P x → Q x) → IfOk r (λ o. IfSome o P) → IfOk r (λ o. IfSome o Q)
ok_some_weaker (Ok (Some x)) f h = f x h
ok_some_weaker (Ok None) f h = tt
ok_some_weaker (Err e) f h = tt

-- what is so of a node is so of one that is this
pub node_told : {E : Type 0} (r : Result (Option (Rc OwnNode Global)) E) (own : OwnNode) (P : OwnNode → Type 0) → P own
    → IfOk r (λ o. IfSome o (λ n. n.value ≡ own)) → IfOk r (λ o. IfSome o (λ n. P n.value))
node_told (Ok (Some n)) own P h is = subst P (sym is) h
node_told (Ok None) own P h is = tt
node_told (Err e) own P h is = tt

-- with one more at the end
pub both_goes : (s : Stylesheet) (was ask : Ask) (name : Expanded) (answer : List ℕ → List NodeRef) (but : List (List ℕ)) (old new : Rc OwnNode Global)
    (rest found more : List (Rc OwnNode Global)) → more ≡ found ++ new ∷ [] → new.value ≡ old.value
    → (IsNodeOf s was name old.value → IsNodeOf s ask name old.value) → Passed s was ask name answer but (old ∷ rest) found
    → Passed s was ask name answer but rest more
both_goes s was ask name answer but old new rest found more e is stays passed =
    let P : List (Rc OwnNode Global) → Type 0 = Passed s was ask name answer but rest in
    subst P (sym e) (both_passed s was ask name answer but old new rest found is stays passed)

pub new_goes : (s : Stylesheet) (was ask : Ask) (name : Expanded) (answer : List ℕ → List NodeRef) (but after : List (List ℕ)) (new : Rc OwnNode Global)
    (left found more : List (Rc OwnNode Global)) → more ≡ found ++ new ∷ [] → Covers but after → Covers new.value.texts.items after
    → IsNodeOf s ask name new.value → Passed s was ask name answer but left found → Passed s was ask name answer after left more
new_goes s was ask name answer but after new left found more e before values known passed =
    let P : List (Rc OwnNode Global) → Type 0 = Passed s was ask name answer after left in
    subst P (sym e) (new_passed s was ask name answer but after new left found before values known passed)

pub nodes_push : (owns more : List (Rc OwnNode Global)) (own : Rc OwnNode Global) (node : NodeRef) → more ≡ owns ++ own ∷ [] → own.value.node ≡ node
    → nodes_of more ≡ nodes_of owns ++ node ∷ []
nodes_push owns more own node e is =
    ap nodes_of e ∙ map_push (λ (o : Rc OwnNode Global). o.value.node) owns own ∙ ap (λ (n : NodeRef). nodes_of owns ++ n ∷ []) is

pub front_passed : (s : Stylesheet) (was ask : Ask) (name : Expanded) (answer : List ℕ → List NodeRef) (but : List (List ℕ)) (before found : List (Rc OwnNode Global))
    (i : ℕ) (old : Rc OwnNode Global) → i < length before → old ≡ get_or before i old → Passed s was ask name answer but (drop i before) found
    → Passed s was ask name answer but (old ∷ drop (i + 1) before) found
front_passed s was ask name answer but before found i old within is passed =
    let P : List (Rc OwnNode Global) → Type 0 = λ l. Passed s was ask name answer but l found in
    subst P (drop_more before i old within ∙ ap (λ (o : Rc OwnNode Global). o ∷ drop (i + 1) before) (sym is)) passed

-- behind the last of before
pub all_skipped : (but after : List (List ℕ)) (all before : List (Rc OwnNode Global)) (i n : ℕ) → length before ≤ i → length before ≤ n
    → Skips but all after (drop i before) → Skips but all after (drop n before)
all_skipped but after all before i n le ends skips = λ s was ask name answer found passed.
    let P : List (Rc OwnNode Global) → Type 0 = λ l. Passed s was ask name answer after l found in
    subst P (drop_all i before le ∙ sym (drop_all n before ends)) (skips s was ask name answer found passed)

pub none_left : (but after : List (List ℕ)) (all before : List (Rc OwnNode Global)) (i : ℕ) → length before ≤ i
    → Skips but all after (drop i before) → Skips but all after []
none_left but after all before i le skips = λ s was ask name answer found passed.
    let P : List (Rc OwnNode Global) → Type 0 = λ l. Passed s was ask name answer after l found in
    subst P (drop_all i before le) (skips s was ask name answer found passed)

-- the next of before
pub next_skipped : (first but after : List (List ℕ)) (all before : List (Rc OwnNode Global)) (i : ℕ) (old : Rc OwnNode Global) → i < length before
    → old ≡ get_or before i old → Covers but after → Covers old.value.texts.items after → Skips first all but (drop i before)
    → Skips first all after (drop (i + 1) before)
next_skipped first but after all before i old within is covers values skips = λ s was ask name answer found passed.
    old_passed s was ask name answer but after old (drop (i + 1) before) found covers values
    (front_passed s was ask name answer but before found i old within is (skips s was ask name answer found passed))

-- what is said of what was found
pub some_is : {X : Type 0} {o : Option X} {x : X} (P : X → Type 0) → o ≡ Some x → IfSome o P → P x
some_is {X} P e h = let Q : Option X → Type 0 = λ o. IfSome o P in subst Q e h

-- one node of now more
pub one_more_node : (nodes : List NodeRef) (i : ℕ) (d : NodeRef) (before more : List NodeRef) → i < length nodes → before ≡ take i nodes → more ≡ before ++ get_or nodes i d ∷ []
    → more ≡ take (i + 1) nodes
one_more_node nodes i d before more within so_far e = e ∙ ap (λ (l : List NodeRef). l ++ get_or nodes i d ∷ []) so_far ∙ sym (take_more nodes i d within)
