-- Siblings that are the same before and after but for some between them, where what is brought has numbers that none had before.
use Rattle.std.proofs.Common.{◌≡◌, ◌≤◌, arith, ℕ, zero, suc, ◌+◌, ◌==◌, Bool, not, cond, List, [], ◌∷◌, ◌++◌, reverse, drop}
use Rattle.std.proofs.Common.{refl, sym, ap, ◌∙◌, eq-eqb, subst}
use Rattle.std.specs.List.{filter}
use Rattle.std.proofs.lemmas.List.{append-nil, reverse-append, reverse-reverse}
use Rattle.std.proofs.lemmas.List.Elements.{filter-append}
use Rattle.spec_edit.proofs.Numbers.{one_if, occurs-append, unlike, none-among}
use Rattle.spec_change.specs.Change.{is_among, without}
use Rattle.spec_change.proofs.Branches.{Branch, flat, flat-append, Meets, beside, joins}
use Rattle.spec_change.proofs.Gone.{some-among}
use Rattle.xt_edit.specs.Telling.{Rests, past_common, reversed, before_common, differing}
use Rattle.xt_edit.proofs.Reordering.{filter-all, filter-none, times, times-append}

-- ---- In three parts

-- numbers of the one do not stand in the other
abbrev pub AreApart : (xs ys : List Branch) → Type 0
AreApart xs ys = (n : ℕ) → 1 ≤ times n xs → times n ys ≡ 0

pub record Parts (old new : List Branch) : Type 0 where
  pub front : List Branch
  pub gone : List Branch
  pub brought : List Branch
  pub behind : List Branch
  pub old_is : old ≡ front ++ (gone ++ behind)
  pub new_is : new ≡ front ++ (brought ++ behind)
  pub apart : AreApart old brought

nothing-apart : (bs : List Branch) → AreApart bs []
nothing-apart bs n some = refl

pub deletion-parts : (before : List Branch) (b : Branch) (after new : List Branch) → Meets before after new → Parts (before ++ (b ∷ after)) new
deletion-parts before b after _ beside =
    record {
      front = before;
      gone = b ∷ [];
      brought = [];
      behind = after;
      old_is = refl;
      new_is = refl;
      apart = nothing-apart (before ++ (b ∷ after));
    }
deletion-parts before b after _ (joins next rest e) =
    record {
      front = before;
      gone = b ∷ next ∷ [];
      brought = [];
      behind = rest;
      old_is = ap (λ bs. before ++ (b ∷ bs)) e;
      new_is = refl;
      apart = nothing-apart (before ++ (b ∷ after));
    }

-- where what comes after meets nothing before it, and where its first joins what is before
inner-parts : (before nodes after others : List Branch) → AreApart (before ++ after) nodes → Meets nodes after others
    → Parts (before ++ after) (before ++ others)
inner-parts before nodes after _ apart beside =
    record { front = before; gone = []; brought = nodes; behind = after; old_is = refl; new_is = refl; apart = apart }
inner-parts before nodes after _ apart (joins b rest e) =
    record {
      front = before;
      gone = b ∷ [];
      brought = nodes;
      behind = rest;
      old_is = ap (λ bs. before ++ bs) e;
      new_is = refl;
      apart = apart;
    }

later-apart : (bs : List Branch) (k : Branch) (ks : List Branch) → AreApart bs (k ∷ ks) → AreApart bs ks
later-apart bs k ks apart n some =
    let none = apart n some in let both = occurs-append (λ m. m == n) k.below (flat ks) in omega arith

tail-same : (x y : Branch) (xs ys : List Branch) → x ∷ xs ≡ y ∷ ys → xs ≡ ys
tail-same x y xs ys e = ap (drop 1) e

outer-parts : (before nodes after others : List Branch) (m : Branch) (ms : List Branch) → AreApart (before ++ after) nodes
    → Meets nodes after others → others ≡ m ∷ ms → Parts (before ++ after) (before ++ ms)
outer-parts before [] after _ m ms apart beside e =
    record {
      front = before;
      gone = m ∷ [];
      brought = [];
      behind = ms;
      old_is = ap (λ bs. before ++ bs) e;
      new_is = refl;
      apart = nothing-apart (before ++ after);
    }
outer-parts before (k ∷ ks) after _ m ms apart beside e =
    record {
      front = before;
      gone = [];
      brought = ks;
      behind = after;
      old_is = refl;
      new_is = ap (λ bs. before ++ bs) (sym (tail-same k m (ks ++ after) ms e));
      apart = later-apart (before ++ after) k ks apart;
    }
outer-parts before [] after _ m ms apart (joins b rest f) e =
    record {
      front = before;
      gone = b ∷ m ∷ [];
      brought = [];
      behind = ms;
      old_is = ap (λ bs. before ++ bs) (f ∙ ap (λ bs. b ∷ bs) e);
      new_is = refl;
      apart = nothing-apart (before ++ after);
    }
outer-parts before (k ∷ ks) after _ m ms apart (joins b rest f) e =
    record {
      front = before;
      gone = b ∷ [];
      brought = ks;
      behind = rest;
      old_is = ap (λ bs. before ++ bs) f;
      new_is = ap (λ bs. before ++ bs) (sym (tail-same k m (ks ++ rest) ms e));
      apart = later-apart (before ++ after) k ks apart;
    }

pub insertion-parts : (before nodes after others new : List Branch) → AreApart (before ++ after) nodes → Meets nodes after others
    → Meets before others new → Parts (before ++ after) new
insertion-parts before nodes after others _ apart inner beside = inner-parts before nodes after others apart inner
insertion-parts before nodes after others _ apart inner (joins m ms e) = outer-parts before nodes after others m ms apart inner e

-- ---- What is gone and brought

pub three : (n : ℕ) (f g s : List Branch) → times n (f ++ (g ++ s)) ≡ times n f + (times n g + times n s)
three n f g s = let outer = times-append n f (g ++ s) in let inner = times-append n g s in omega arith

-- of a list in three parts those that pass, where these are the middle
middle : (test : ℕ → Bool) (f g s : List ℕ) → filter test f ≡ [] → filter test g ≡ g → filter test s ≡ [] → filter test (f ++ (g ++ s)) ≡ g
middle test f g s none all last =
    filter-append test f (g ++ s) ∙ ap (λ ks. filter test f ++ ks) (filter-append test g s)
    ∙ (λ i. none i ++ (all i ++ last i)) ∙ append-nil g

flat-three : (f g s : List Branch) → flat (f ++ (g ++ s)) ≡ flat f ++ (flat g ++ flat s)
flat-three f g s = flat-append f (g ++ s) ∙ ap (λ ns. flat f ++ ns) (flat-append g s)

module _ (f g b s : List Branch) (once : (n : ℕ) → times n (f ++ (g ++ s)) ≤ 1) (apart : AreApart (f ++ (g ++ s)) b) where
  are-gone : without (flat (f ++ (b ++ s))) (flat (f ++ (g ++ s))) ≡ flat g
  are-gone =
      ap (without (flat (f ++ (b ++ s)))) (flat-three f g s)
      ∙ middle (λ n. not (is_among (flat (f ++ (b ++ s))) n)) (flat f) (flat g) (flat s)
      (filter-none _ (flat f) (λ n some. (let new = three n f b s in ap not (some-among n (flat (f ++ (b ++ s))) (omega arith)))))
      (filter-all _ (flat g) (λ n some. (
      let old = three n f g s in
      let new = three n f b s in
      let most = once n in
      let none = apart n (omega arith) in
      ap not (none-among n (flat (f ++ (b ++ s))) (omega arith))
      )))
      (filter-none _ (flat s) (λ n some. (let new = three n f b s in ap not (some-among n (flat (f ++ (b ++ s))) (omega arith)))))

  -- what is brought had no number before
  unlike-old : (n : ℕ) → 1 ≤ times n b → (k : ℕ) → times n (f ++ (g ++ s)) ≡ k → times n (f ++ (g ++ s)) ≡ 0
  unlike-old n some zero e = e
  unlike-old n some (suc k) e = absurd (let none = apart n (omega arith) in omega arith)

  are-brought : without (flat (f ++ (g ++ s))) (flat (f ++ (b ++ s))) ≡ flat b
  are-brought =
      ap (without (flat (f ++ (g ++ s)))) (flat-three f b s)
      ∙ middle (λ n. not (is_among (flat (f ++ (g ++ s))) n)) (flat f) (flat b) (flat s)
      (filter-none _ (flat f) (λ n some. (let old = three n f g s in ap not (some-among n (flat (f ++ (g ++ s))) (omega arith)))))
      (filter-all _ (flat b) (λ n some. ap not (none-among n (flat (f ++ (g ++ s))) (unlike-old n some (times n (f ++ (g ++ s))) refl))))
      (filter-none _ (flat s) (λ n some. (let old = three n f g s in ap not (some-among n (flat (f ++ (g ++ s))) (omega arith)))))

-- ---- The siblings that differ

abbrev pub rests : {X : Type 0} → List X → List X → Rests X
rests old new = record { old = old; new = new }

abbrev pub number_in : Branch → ℕ
number_in b = b.number

past-front : (f xs ys : List Branch) → past_common number_in (f ++ xs) (f ++ ys) ≡ past_common number_in xs ys
past-front [] xs ys = refl
past-front (b ∷ f) xs ys =
    (λ i. cond (eq-eqb b.number b.number refl i) (past_common number_in (f ++ xs) (f ++ ys)) (rests (b ∷ (f ++ xs)) (b ∷ (f ++ ys)))) ∙ past-front f xs ys

past-same : (s : List Branch) → past_common number_in s s ≡ rests [] []
past-same s = (λ i. past_common number_in (sym (append-nil s) i) (sym (append-nil s) i)) ∙ past-front s [] []

head-some : (x : Branch) (xs : List Branch) → 1 ≤ times x.number (x ∷ xs)
head-some x xs = let here : one_if (x.number == x.number) ≡ 1 = ap one_if (eq-eqb x.number x.number refl) in omega arith

-- siblings whose numbers are apart differ at once
past-apart : (xs ys : List Branch) → AreApart xs ys → past_common number_in xs ys ≡ rests xs ys
past-apart [] ys apart = refl
past-apart (x ∷ xs) [] apart = refl
past-apart (x ∷ xs) (y ∷ ys) apart =
    λ i. cond (unlike x.number y.number (λ same. (
    let none = apart x.number (head-some x xs) in
    let some : 1 ≤ times x.number (y ∷ ys) = subst (λ n. 1 ≤ times n (y ∷ ys)) (sym same) (head-some y ys) in
    omega arith
    )) i) (past_common number_in xs ys) (rests (x ∷ xs) (y ∷ ys))

times-reverse : (n : ℕ) (xs : List Branch) → times n (reverse xs) ≡ times n xs
times-reverse n [] = refl
times-reverse n (x ∷ xs) =
    let is : times n (reverse (x ∷ xs)) ≡ times n (reverse xs ++ x ∷ []) = ap (times n) (reverse-append (x ∷ []) xs) in
    let parts = times-append n (reverse xs) (x ∷ []) in
    let whole = times-append n (x ∷ []) xs in
    let rest = times-reverse n xs in
    omega arith

-- from the end
ends-apart : (g b s : List Branch) → AreApart g b → before_common number_in (rests (g ++ s) (b ++ s)) ≡ rests g b
ends-apart g b s apart =
    ap reversed (
    (λ i. past_common number_in (reverse-append g s i) (reverse-append b s i)) ∙ past-front (reverse s) (reverse g) (reverse b)
    ∙ past-apart (reverse g) (reverse b) (λ n some. (
    let old = times-reverse n g in let new = times-reverse n b in let none = apart n (omega arith) in omega arith
    ))
    )
    ∙ (λ i. rests (reverse-reverse g i) (reverse-reverse b i))

-- and from the front, where those that are gone are not behind
past-middle : (g b s : List Branch) → AreApart (g ++ s) b → ((n : ℕ) → times n g + times n s ≤ 1)
    → before_common number_in (past_common number_in (g ++ s) (b ++ s)) ≡ rests g b
past-middle [] [] s apart once = ap (before_common number_in) (past-same s)
past-middle (x ∷ xs) [] s apart once =
    ap (before_common number_in) (past-gone s once) ∙ ends-apart (x ∷ xs) [] s (λ n some. refl)
  where
    past-gone : (zs : List Branch) → ((n : ℕ) → times n (x ∷ xs) + times n zs ≤ 1) → past_common number_in (x ∷ (xs ++ s)) zs ≡ rests (x ∷ (xs ++ s)) zs
    past-gone [] once = refl
    past-gone (z ∷ zs) once =
        λ i. cond (unlike x.number z.number (λ same. (
        let most = once x.number in
        let one = head-some x xs in
        let some : 1 ≤ times x.number (z ∷ zs) = subst (λ n. 1 ≤ times n (z ∷ zs)) (sym same) (head-some z zs) in
        omega arith
        )) i) (past_common number_in (xs ++ s) zs) (rests (x ∷ (xs ++ s)) (z ∷ zs))
past-middle g (y ∷ ys) s apart once =
    ap (before_common number_in) (past-new (g ++ s) apart)
    ∙ ends-apart g (y ∷ ys) s (λ n some. (let parts = times-append n g s in apart n (omega arith)))
  where
    past-new : (zs : List Branch) → AreApart zs (y ∷ ys) → past_common number_in zs (y ∷ (ys ++ s)) ≡ rests zs (y ∷ (ys ++ s))
    past-new [] apart = refl
    past-new (z ∷ zs) apart =
        λ i. cond (unlike z.number y.number (λ same. (
        let none = apart z.number (head-some z zs) in
        let some : 1 ≤ times z.number (y ∷ ys) = subst (λ n. 1 ≤ times n (y ∷ ys)) (sym same) (head-some y ys) in
        omega arith
        )) i) (past_common number_in zs (ys ++ s)) (rests (z ∷ zs) (y ∷ (ys ++ s)))

pub differing-parts : (f g b s : List Branch) → ((n : ℕ) → times n (f ++ (g ++ s)) ≤ 1) → AreApart (f ++ (g ++ s)) b
    → differing number_in (f ++ (g ++ s)) (f ++ (b ++ s)) ≡ rests g b
differing-parts f g b s once apart =
    ap (before_common number_in) (past-front f (g ++ s) (b ++ s))
    ∙ past-middle g b s (λ n some. (let parts = times-append n f (g ++ s) in apart n (omega arith)))
    (λ n. (let all = three n f g s in let most = once n in omega arith))

-- the siblings that differ are those that are gone and brought
module _ (old new : List Branch) (p : Parts old new) (once : (n : ℕ) → times n old ≤ 1) where
  all-once : (n : ℕ) → times n (p.front ++ (p.gone ++ p.behind)) ≤ 1
  all-once n = let same = ap (times n) p.old_is in let most = once n in omega arith

  all-apart : AreApart (p.front ++ (p.gone ++ p.behind)) p.brought
  all-apart n some = p.apart n (let same = ap (times n) p.old_is in omega arith)

  pub parts-differ : differing number_in old new ≡ rests p.gone p.brought
  parts-differ =
      (λ i. differing number_in (p.old_is i) (p.new_is i)) ∙ differing-parts p.front p.gone p.brought p.behind all-once all-apart

  pub gone-is : flat p.gone ≡ without (flat new) (flat old)
  gone-is =
      sym (are-gone p.front p.gone p.brought p.behind all-once all-apart) ∙ (λ i. without (flat (sym p.new_is i)) (flat (sym p.old_is i)))

  pub brought-is : flat p.brought ≡ without (flat old) (flat new)
  brought-is =
      sym (are-brought p.front p.gone p.brought p.behind all-once all-apart) ∙ (λ i. without (flat (sym p.old_is i)) (flat (sym p.new_is i)))
