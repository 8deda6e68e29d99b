-- The elements of stylesheets put in place, one part after another.
use Rattle.std.proofs.Common.{◌≡◌, ℕ, ◌+◌, ◌-◌, ◌<◌, ◌≤◌, List, [], ◌∷◌, ◌++◌, map, length, take, drop, get_or, Result, Ok, Err, IfOk, OnOk, sym, ap, ◌∙◌, append_assoc}
use Rattle.std.specs.declared.alloc.Global.{Global}
use Rattle.std.specs.declared.vec.Vec.{Vec}
use Rattle.std.specs.List.{flat_map}
use Rattle.std.proofs.lemmas.Grind.{flat_map-append}
use Rattle.std.proofs.lemmas.List.{append-nil, map-append, take_more, at_drop_more, at_drop_all}
use Rattle.spec_structure.specs.Modules.{Modules, Part, Stylesheet}
use Rattle.spec_compile.specs.Scoping as plain
use Rattle.spec_compile.specs.Unit as unit
use Rattle.spec_compile.specs.Sheet as spec
use Rattle.spec_compile.specs.Sheet.{Said}
use Rattle.xt_import.specs.Parts.{part_in, stylesheet_in}
use Rattle.xt_import.specs.declared.precedence.Stylesheet as program_sheet
use Rattle.xt_import.specs.declared.precedence.Part as program
use Rattle.xt_scoping.specs.View.{ranked_in}
use Rattle.xt_scoping.specs.declared.violation.Ranked.{Ranked}
use Rattle.xt_top_level.specs.View.{top_levels_in, top_level_in}
use Rattle.xt_top_level.specs.declared.top_level.TopLevel.{TopLevel}
use Rattle.xt_compile.specs.Placed.{IsPlacing, Places}
use Rattle.xt_text.specs.declared.memory.Memory.{Memory}
use Rattle.xt_compile.specs.Stock.{Says}
use Rattle.xt_compile.specs.declared.placing.Placing.{Placing}

pub no_parts : (modules : Modules) (precedence imported : ℕ) (p : Placing) (rs : List Ranked) → Places modules precedence imported [] p p rs rs
no_parts modules precedence imported p rs = record {
  stays = λ said says placing. placing;
  added = λ said says placing. sym (append-nil (map ranked_in rs));
}

all_added : (ranked : unit.TopLevel → plain.Ranked) (said : List Said) (parts : List Part) (part : Part) (before : List plain.Ranked)
    → (before ++ map ranked (flat_map (spec.part_of said) parts)) ++ map ranked (spec.part_of said part)
    ≡ before ++ map ranked (flat_map (spec.part_of said) (parts ++ part ∷ []))
all_added ranked said parts part before =
    append_assoc before (map ranked (flat_map (spec.part_of said) parts)) (map ranked (spec.part_of said part))
    ∙ ap (λ (rs : List plain.Ranked). before ++ rs)
    (sym (map-append ranked (flat_map (spec.part_of said) parts) (spec.part_of said part))
    ∙ ap (map ranked) (ap (λ (ts : List unit.TopLevel). flat_map (spec.part_of said) parts ++ ts) (sym (append-nil (spec.part_of said part)))
    ∙ sym (flat_map-append (spec.part_of said) parts (part ∷ []))))

pub one_more : (modules : Modules) (precedence imported : ℕ) (parts : List Part) (part : Part) (old mid new : Placing) (before half after : List Ranked) (ts : List unit.TopLevel)
    → Places modules precedence imported parts old mid before half
    → ((said : List Said) → Says modules said → IsPlacing said mid → ts ≡ spec.part_of said part)
    → ((said : List Said) → Says modules said → IsPlacing said mid → IsPlacing said new)
    → map ranked_in after ≡ map ranked_in half ++ map (spec.ranked precedence imported) ts
    → Places modules precedence imported (parts ++ part ∷ []) old new before after
one_more modules precedence imported parts part old mid new before half after ts places found stays more = record {
  stays = λ said says placing. stays said says (places.stays said says placing);
  added = λ said says placing.
      more
      ∙ (λ i. places.added said says placing i ++ map (spec.ranked precedence imported) (found said says (places.stays said says placing) i))
      ∙ all_added (spec.ranked precedence imported) said parts part (map ranked_in before);
}

-- one more behind those that are ranked
pub one_ranked : (precedence imported : ℕ) (ranked : List Ranked) (t : TopLevel) (left : List TopLevel) (r : Ranked) → ranked_in r ≡ spec.ranked precedence imported (top_level_in t)
    → map ranked_in (ranked ++ r ∷ []) ++ map (spec.ranked precedence imported) (top_levels_in left)
    ≡ map ranked_in ranked ++ map (spec.ranked precedence imported) (top_levels_in (t ∷ left))
one_ranked precedence imported ranked t left r e =
    ap (λ (rs : List plain.Ranked). rs ++ map (spec.ranked precedence imported) (top_levels_in left)) (map-append ranked_in ranked (r ∷ []))
    ∙ append_assoc (map ranked_in ranked) (ranked_in r ∷ []) (map (spec.ranked precedence imported) (top_levels_in left))
    ∙ ap (λ (x : plain.Ranked). map ranked_in ranked ++ x ∷ map (spec.ranked precedence imported) (top_levels_in left)) e

-- one stylesheet more
pub one_sheet : (said : List Said) (n : ℕ) (s : Stylesheet) (left : List Stylesheet) (before after : List Ranked)
    → map ranked_in after ≡ map ranked_in before ++ map (spec.ranked n (n - s.imported)) (flat_map (spec.part_of said) s.parts)
    → map ranked_in after ++ spec.ranked_from said (n + 1) left ≡ map ranked_in before ++ spec.ranked_from said n (s ∷ left)
one_sheet said n s left before after e =
    ap (λ (rs : List plain.Ranked). rs ++ spec.ranked_from said (n + 1) left) e
    ∙ append_assoc (map ranked_in before) (map (spec.ranked n (n - s.imported)) (flat_map (spec.part_of said) s.parts)) (spec.ranked_from said (n + 1) left)

pub next_part : (parts : List program.Part) (i : ℕ) (part : program.Part) → i < length parts → part ≡ get_or parts i part
    → map part_in (take i parts) ++ part_in part ∷ [] ≡ map part_in (take (i + 1) parts)
next_part parts i part h e =
    sym (ap (map part_in) (take_more parts i part h ∙ ap (λ (p : program.Part). take i parts ++ p ∷ []) (sym e)) ∙ map-append part_in (take i parts) (part ∷ []))

at_drop : {X : Type 0} (xs : List X) (i : ℕ) (x : X) → i < length xs → x ≡ get_or xs i x → drop i xs ≡ x ∷ drop (i + 1) xs
at_drop {X} xs i x h e = at_drop_more (λ (ys : List X). ys) xs i x h ∙ ap (λ (y : X). y ∷ drop (i + 1) xs) (sym e)

pub next_sheet : (said : List Said) (n : ℕ) (s : program_sheet.Stylesheet) (sheets : List program_sheet.Stylesheet) (before after : List Ranked) (all : List plain.Ranked) → n < length sheets → s ≡ get_or sheets n s
    → map ranked_in after ≡ map ranked_in before ++ map (spec.ranked n (n - s.imported)) (flat_map (spec.part_of said) (map part_in s.parts.items))
    → map ranked_in before ++ spec.ranked_from said n (map stylesheet_in (drop n sheets)) ≡ all
    → map ranked_in after ++ spec.ranked_from said (n + 1) (map stylesheet_in (drop (n + 1) sheets)) ≡ all
next_sheet said n s sheets before after all h e added whole =
    one_sheet said n (stylesheet_in s) (map stylesheet_in (drop (n + 1) sheets)) before after added
    ∙ ap (λ (ss : List program_sheet.Stylesheet). map ranked_in before ++ spec.ranked_from said n (map stylesheet_in ss)) (sym (at_drop sheets n s h e)) ∙ whole

pub last_sheet : (said : List Said) (n : ℕ) (sheets : List program_sheet.Stylesheet) (ranked : List Ranked) (all : List plain.Ranked) → length sheets ≤ n
    → map ranked_in ranked ++ spec.ranked_from said n (map stylesheet_in (drop n sheets)) ≡ all → map ranked_in ranked ≡ all
last_sheet said n sheets ranked all h whole =
    sym (append-nil (map ranked_in ranked))
    ∙ sym (at_drop_all (λ (ss : List program_sheet.Stylesheet). map ranked_in ranked ++ spec.ranked_from said n (map stylesheet_in ss)) sheets n h) ∙ whole

-- ---- After a part was looked for at hand

pub found_on : (modules : Modules) (r : Result (Vec TopLevel Global) Memory) (old mid : Placing) (part : Part) → ((said : List Said) → IsPlacing said old → IsPlacing said mid)
    → IfOk r (λ ts. (said : List Said) → Says modules said → IsPlacing said mid → top_levels_in ts.items ≡ spec.part_of said part)
    → IfOk r (λ ts. (said : List Said) → Says modules said → IsPlacing said old → top_levels_in ts.items ≡ spec.part_of said part)
found_on modules (Ok ts) old mid part stays h = λ said says placing. h said says (stays said placing)
found_on modules (Err why) old mid part stays h = tt

pub stays_on : (modules : Modules) (r : Result (Vec TopLevel Global) Memory) (old mid new : Placing) → ((said : List Said) → IsPlacing said old → IsPlacing said mid)
    → OnOk r ((said : List Said) → Says modules said → IsPlacing said mid → IsPlacing said new)
    → OnOk r ((said : List Said) → Says modules said → IsPlacing said old → IsPlacing said new)
stays_on modules (Ok ts) old mid new stays h = λ said says placing. h said says (stays said placing)
stays_on modules (Err why) old mid new stays h = tt
