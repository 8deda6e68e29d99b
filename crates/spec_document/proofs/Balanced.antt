-- Whether events are balanced, found from the left: what stands to the right of each place decides the same.
use Rattle.std.proofs.Common.{◌≡◌, ℕ, Bool, true, false, cond, List, [], ◌∷◌, ◌++◌, map, drop, arith, Option, None, Some, refl, sym, ap}
use Rattle.std.proofs.Common.{subst, ◌∙◌, append_assoc, append-nil}
use Rattle.std.specs.Prelude.{◌&&◌, ◌||◌, bytes_eq, is_some, IsSome, if◌then◌else◌}
use Rattle.std.specs.Option.{option_and_then, is_none}
use Rattle.std.proofs.lemmas.Bool.Decides.{same_from_decides}
use Rattle.std.proofs.lemmas.Slice.Eq.{bytes_eq-Decides}
use Rattle.spec_document.specs.declared.event.Event.{Event}
use Rattle.spec_document.specs.declared.event.Event.TheVariants.{Start, Attribute, Data, Instruction as InstructionEvent, End, Comment as CommentEvent}
use Rattle.spec_document.specs.Forest.{Written, Element, Instruction, Comment, Forest, Empty, Node, joined}
use Rattle.spec_document.specs.Balance.{LineNumbers, Rest, with_event, started, rest_of, closed, forest_of, alone, open_behind, takes_attributes}
use Rattle.spec_document.specs.Balance.{is_innermost, may_follow, unbalanced_line, CanGoOn, IsUnbalanced, refused, unended}

-- ---- From the left

-- 0 where an end is missing
abbrev pub missing : List (List ℕ) → Option ℕ
missing [] = None
missing (name ∷ names) = Some 0

-- the line of the first event that may not follow what stands before it, or 0; none where the events are balanced
abbrev pub scan : Option (Event (List ℕ)) → List (List ℕ) → List (ℕ × Event (List ℕ)) → Option ℕ
scan before names [] = missing names
scan before names (e ∷ events) = if may_follow before names e.1 then scan (Some e.1) (open_behind e.1 names) events else Some e.0

scan_is_line : (before : Option (Event (List ℕ))) (names : List (List ℕ)) (events : List (ℕ × Event (List ℕ))) (line : ℕ)
    → scan before names events ≡ Some line → unbalanced_line before names events ≡ line
scan_is_line before [] [] line h = absurd (cc)
scan_is_line before (name ∷ names) [] line h = cc
scan_is_line before names (e ∷ events) line h =
    elim (may_follow before names e.1) as (λ m. cond m (scan (Some e.1) (open_behind e.1 names) events) (Some e.0) ≡ Some line
    → cond m (unbalanced_line (Some e.1) (open_behind e.1 names) events) e.0 ≡ line) [
      | true ↦ λ h. scan_is_line (Some e.1) (open_behind e.1 names) events line h
      | false ↦ λ h. cc
    ] h

-- ---- From the right

abbrev same_names : List (List ℕ) → List (List ℕ) → Bool
same_names [] [] = true
same_names [] (b ∷ bs) = false
same_names (a ∷ others) [] = false
same_names (a ∷ others) (b ∷ bs) = bytes_eq a b && same_names others bs

abbrev none_left : List (ℕ × Written) → Bool
none_left [] = true
none_left (a ∷ more) = false

-- whether the rest may follow where elements of these names are open, and attributes may follow or not
abbrev fits : Bool → List (List ℕ) → Option Rest → Bool
fits takes names None = false
fits takes names (Some rest) = same_names names (map (λ end. end.0) rest.behind) && (takes || none_left rest.attributes)

and_or : (s t : Bool) → (s && true) ≡ (s && (t || true))
and_or s true = refl
and_or s false = refl

and_false : (s : Bool) → (s && false) ≡ false
and_false true = refl
and_false false = refl

name_comm : (a b : List ℕ) → bytes_eq a b ≡ bytes_eq b a
name_comm a b =
    same_from_decides (bytes_eq a b) (bytes_eq b a) (bytes_eq-Decides a b)
    (λ e. sym ((bytes_eq-Decides b a).0 e), λ e. (bytes_eq-Decides b a).1 (sym e))

start_step : (line : ℕ) (name : List ℕ) (more : List (ℕ × Written)) (f : Forest LineNumbers) (behind : List (List ℕ × Forest LineNumbers))
    (takes : Bool) (names : List (List ℕ))
    → (same_names (name ∷ names) (map (λ end. end.0) behind) && true) ≡ fits takes names (started line name more f behind)
start_step line name more f [] takes names = refl
start_step line name more f (end ∷ behind) takes names =
    elim (bytes_eq name end.0) as (λ t. ((t && same_names names (map (λ end. end.0) behind)) && true)
    ≡ fits takes names (cond t
    (Some (record {
      attributes = [];
      siblings =
          Node (record { first = line; attributes = map (λ a. a.0) more }) (Element name (map (λ a. a.1) more)) f end.1;
      behind = behind;
    })) None)) [
      | true ↦ and_or (same_names names (map (λ end. end.0) behind)) takes
      | false ↦ refl
    ]

attribute_step : (s takes : Bool) → cond takes (s && true) false ≡ (s && (takes || false))
attribute_step s true = refl
attribute_step s false = sym (and_false s)

leaf_step : (more : List (ℕ × Written)) (front : Rest) (takes : Bool) (names : List (List ℕ)) → front.attributes ≡ more
    → (same_names names (map (λ end. end.0) front.behind) && none_left more)
    ≡ fits takes names (elim more [ [] ↦ Some front | a ∷ others ↦ None ])
leaf_step [] front takes names e =
    and_or (same_names names (map (λ end. end.0) front.behind)) takes
    ∙ ap (λ attributes. same_names names (map (λ end. end.0) front.behind) && (takes || none_left attributes)) (sym e)
leaf_step (a ∷ more) front takes names e = and_false (same_names names (map (λ end. end.0) front.behind))

end_step : (name : List ℕ) (more : List (ℕ × Written)) (f : Forest LineNumbers) (behind : List (List ℕ × Forest LineNumbers)) (takes : Bool)
    (names : List (List ℕ))
    → cond (is_innermost name names) (same_names (drop 1 names) (map (λ end. end.0) behind) && none_left more) false
    ≡ fits takes names (elim more [ [] ↦ Some (record { attributes = []; siblings = Empty; behind = (name, f) ∷ behind }) | a ∷ others ↦ None ])
end_step name [] f behind takes [] = refl
end_step name (a ∷ more) f behind takes [] = refl
end_step name [] f behind takes (n ∷ names) =
    elim (bytes_eq name n) as (λ t. bytes_eq name n ≡ t → cond t (s && true) false ≡ ((bytes_eq n name && s) && (takes || true))) [
      | true ↦ λ e. and_or s takes ∙ ap (λ t. (t && s) && (takes || true)) (sym (name_comm n name ∙ e))
      | false ↦ λ e. ap (λ t. (t && s) && (takes || true)) (sym (name_comm n name ∙ e))
    ] refl
  where
    s : Bool
    s = same_names names (map (λ end. end.0) behind)
end_step name (a ∷ more) f behind takes (n ∷ names) =
    elim (bytes_eq name n) as (λ t. cond t (same_names names (map (λ end. end.0) behind) && false) false ≡ false) [
      | true ↦ and_false (same_names names (map (λ end. end.0) behind))
      | false ↦ refl
    ]

event_step : (line : ℕ) (e : Event (List ℕ)) (before : Option (Event (List ℕ))) (names : List (List ℕ)) (r : Rest)
    → cond (may_follow before names e) (fits (takes_attributes (Some e)) (open_behind e names) (Some r)) false
    ≡ fits (takes_attributes before) names (with_event line e r)
event_step line (Start name) before names r = start_step line name r.attributes r.siblings r.behind (takes_attributes before) names
event_step line (Attribute name value) before names r = attribute_step (same_names names (map (λ end. end.0) r.behind)) (takes_attributes before)
event_step line (Data text) before names r =
    leaf_step r.attributes (record r { siblings = joined (alone line) text r.siblings }) (takes_attributes before) names refl
event_step line (InstructionEvent target text) before names r =
    leaf_step r.attributes (record r { siblings = Node (alone line) (Instruction target text) Empty r.siblings }) (takes_attributes before) names refl
event_step line (End name) before names r = end_step name r.attributes r.siblings r.behind (takes_attributes before) names
event_step line (CommentEvent text) before names r =
    leaf_step r.attributes (record r { siblings = Node (alone line) (Comment text) Empty r.siblings }) (takes_attributes before) names refl

option_step : (line : ℕ) (e : Event (List ℕ)) (before : Option (Event (List ℕ))) (names : List (List ℕ)) (r : Option Rest)
    → cond (may_follow before names e) (fits (takes_attributes (Some e)) (open_behind e names) r) false
    ≡ fits (takes_attributes before) names (option_and_then (with_event line e) r)
option_step line e before names None = neither (may_follow before names e)
  where
    neither : (t : Bool) → cond t false false ≡ false
    neither true = refl
    neither false = refl
option_step line e before names (Some r) = event_step line e before names r

-- ---- Both are one

nothing_open : (names : List (List ℕ)) (takes : Bool)
    → is_none (missing names) ≡ fits takes names (Some (record { attributes = []; siblings = Empty; behind = [] }))
nothing_open [] takes = and_or true takes
nothing_open (name ∷ names) takes = refl

scan_fits : (before : Option (Event (List ℕ))) (names : List (List ℕ)) (events : List (ℕ × Event (List ℕ)))
    → is_none (scan before names events) ≡ fits (takes_attributes before) names (rest_of events)
scan_fits before names [] = nothing_open names (takes_attributes before)
scan_fits before names (e ∷ events) =
    first (may_follow before names e.1) (scan (Some e.1) (open_behind e.1 names) events)
    ∙ ap (λ t. cond (may_follow before names e.1) t false) (scan_fits (Some e.1) (open_behind e.1 names) events)
    ∙ option_step e.0 e.1 before names (rest_of events)
  where
    first : (t : Bool) (o : Option ℕ) → is_none (cond t o (Some e.0)) ≡ cond t (is_none o) false
    first true o = refl
    first false o = refl

closed_fits : (attributes : List (ℕ × Written)) (siblings : Forest LineNumbers) (behind : List (List ℕ × Forest LineNumbers))
    → is_some (closed attributes siblings behind) ≡ (same_names [] (map (λ end. end.0) behind) && none_left attributes)
closed_fits [] siblings [] = refl
closed_fits [] siblings (end ∷ behind) = refl
closed_fits (a ∷ more) siblings [] = refl
closed_fits (a ∷ more) siblings (end ∷ behind) = refl

forest_fits : (r : Option Rest) → is_some (option_and_then (λ rest. closed rest.attributes rest.siblings rest.behind) r) ≡ fits false [] r
forest_fits None = refl
forest_fits (Some r) = closed_fits r.attributes r.siblings r.behind

pub balanced : (events : List (ℕ × Event (List ℕ))) → scan None [] events ≡ None → is_some (forest_of events) ≡ true
balanced events h = forest_fits (rest_of events) ∙ sym (scan_fits None [] events) ∙ ap is_none h

pub not_balanced : (events : List (ℕ × Event (List ℕ))) (line : ℕ) → scan None [] events ≡ Some line
    → (forest_of events ≡ None) × (unbalanced_line None [] events ≡ line)
not_balanced events line h =
    (none (forest_of events) (forest_fits (rest_of events) ∙ sym (scan_fits None [] events) ∙ ap is_none h), scan_is_line None [] events line h)
  where
    none : (o : Option (Forest LineNumbers)) → is_some o ≡ false → o ≡ None
    none None e = refl
    none (Some f) e = absurd (cc)

-- ---- The first that may not follow

ended : (names : List (List ℕ)) (before : Option (Event (List ℕ))) → scan before names (map (λ name. (0, End name)) names) ≡ None
ended [] before = refl
ended (name ∷ names) before =
    ap (λ t. cond t (scan (Some (End name)) names (map (λ name. (0, End name)) names)) (Some 0)) ((bytes_eq-Decides name name).1 refl)
    ∙ ended names (Some (End name))

-- what stands before a place leaves these names open
pub record Leaves (ps : List (ℕ × Event (List ℕ))) (before : Option (Event (List ℕ))) (names : List (List ℕ)) : Type 0 where
  pub scanned : (es : List (ℕ × Event (List ℕ))) → scan None [] (ps ++ es) ≡ scan before names es
  pub lines : (es : List (ℕ × Event (List ℕ))) → unbalanced_line None [] (ps ++ es) ≡ unbalanced_line before names es

goes_on : (ps : List (ℕ × Event (List ℕ))) (before : Option (Event (List ℕ))) (names : List (List ℕ)) → Leaves ps before names → CanGoOn ps
goes_on ps before names h =
    let more = map (λ name. (0, End name)) names in
    (more, (balanced (ps ++ more) (h.scanned more ∙ ended names before)))

one_more : (ps : List (ℕ × Event (List ℕ))) (before : Option (Event (List ℕ))) (names : List (List ℕ)) (e : ℕ × Event (List ℕ))
    → Leaves ps before names
    → may_follow before names e.1 ≡ true → Leaves (ps ++ e ∷ []) (Some e.1) (open_behind e.1 names)
one_more ps before names e h follows = record {
  scanned = λ es. ap (scan None []) (append_assoc ps (e ∷ []) es) ∙ h.scanned (e ∷ es)
      ∙ ap (λ t. cond t (scan (Some e.1) (open_behind e.1 names) es) (Some e.0)) follows;
  lines = λ es. ap (unbalanced_line None []) (append_assoc ps (e ∷ []) es) ∙ h.lines (e ∷ es)
      ∙ ap (λ t. cond t (unbalanced_line (Some e.1) (open_behind e.1 names) es) e.0) follows;
}

none_there : {A : Type 0} (o : Option A) → o ≡ None → IsSome o → ⊥
none_there None e h = cc
none_there (Some x) e h = cc

stops : (ps : List (ℕ × Event (List ℕ))) (before : Option (Event (List ℕ))) (names : List (List ℕ)) (e : ℕ × Event (List ℕ))
    → Leaves ps before names
    → may_follow before names e.1 ≡ false → CanGoOn (ps ++ e ∷ []) → ⊥
stops ps before names e h bad can =
    let all = ap (scan None []) (append_assoc ps (e ∷ []) can.0) ∙ h.scanned (e ∷ can.0)
    ∙ ap (λ t. cond t (scan (Some e.1) (open_behind e.1 names) can.0) (Some e.0)) bad in
    none_there (forest_of ((ps ++ e ∷ []) ++ can.0)) (not_balanced ((ps ++ e ∷ []) ++ can.0) e.0 all).0 can.1

first_from : (ps : List (ℕ × Event (List ℕ))) (before : Option (Event (List ℕ))) (names : List (List ℕ)) (es : List (ℕ × Event (List ℕ)))
    → Leaves ps before names
    → IsUnbalanced (ps ++ es) (unbalanced_line before names es)
first_from ps before names [] h = unended refl (subst CanGoOn (sym (append-nil ps)) (goes_on ps before names h))
first_from ps before names (e ∷ es) h =
    elim (may_follow before names e.1) as (λ t. may_follow before names e.1 ≡ t
    → IsUnbalanced (ps ++ e ∷ es) (cond t (unbalanced_line (Some e.1) (open_behind e.1 names) es) e.0)) [
      | true ↦ λ follows. subst (λ (all : List (ℕ × Event (List ℕ))). IsUnbalanced all (unbalanced_line (Some e.1) (open_behind e.1 names) es))
          (append_assoc ps (e ∷ []) es)
          (first_from (ps ++ e ∷ []) (Some e.1) (open_behind e.1 names) es (one_more ps before names e h follows))
      | false ↦ λ bad. refused ps es e.1 refl (goes_on ps before names h) (stops ps before names e h bad)
    ] refl

pub first_unbalanced : (events : List (ℕ × Event (List ℕ))) → IsUnbalanced events (unbalanced_line None [] events)
first_unbalanced events = first_from [] None [] events (record { scanned = λ es. refl; lines = λ es. refl })
