-- Attributes that are taken out one after another.
use Rattle.std.proofs.Common.{◌≡◌, ℕ, List, [], Option, None, Some, false, bytes_eq, codes, ap, refl, sym, ◌∙◌, if◌then◌else◌, unwrap_or}
use Rattle.std.specs.Option.{option_and_then}
use Rattle.spec_stylesheet.specs.Instruction as made
use Rattle.spec_stylesheet.specs.Instruction.{NumberSource}
use Rattle.spec_stylesheet.specs.declared.number_level.NumberLevel.TheVariants as level
use Rattle.spec_expression.specs.Syntax.{Expr}
use Rattle.spec_compile.specs.Value.{Entry, Value, at, avt_in, expr_in, pattern_in, text_in}
use Rattle.spec_compile.specs.Content.{fixed, is_text_at, made_name, source_of}
use Rattle.xt_content.specs.Kind.{counting}
use Rattle.xt_content.specs.View.{Keeps}

-- what is said of another attribute stays
pub kept_at : {A : Type 0} (part : Value → Option A) (name other : List ℕ) (old new : List Entry) → Keeps name old new → bytes_eq name other ≡ false → at part other new ≡ at part other old
kept_at part name other old new k h = ap (option_and_then part) (k other h)

-- ---- Names that are made

pub made_name_kept : (name : List ℕ) (old new : List Entry) → Keeps name old new → bytes_eq name (codes "name") ≡ false → bytes_eq name (codes "namespace") ≡ false
    → made_name new ≡ made_name old
made_name_kept name old new k h g = λ i. record {
  name = unwrap_or (kept_at avt_in name (codes "name") old new k h i) (fixed []);
  namespace = kept_at avt_in name (codes "namespace") old new k g i;
}

-- ---- Numbers

is_text_kept : (name other text : List ℕ) (old new : List Entry) → Keeps name old new → bytes_eq name other ≡ false → is_text_at other text new ≡ is_text_at other text old
is_text_kept name other text old new k h =
    λ i. elim (kept_at text_in name other old new k h i) [ None ↦ false | Some given ↦ bytes_eq given text ]

pub counting_kept : (name : List ℕ) (old new : List Entry) → Keeps name old new → bytes_eq name (codes "level") ≡ false → bytes_eq name (codes "count") ≡ false
    → bytes_eq name (codes "from") ≡ false → counting new ≡ counting old
counting_kept name old new k h g f = λ i. record {
  level = if is_text_kept name (codes "level") (codes "multiple") old new k h i then level.Multiple
      else (if is_text_kept name (codes "level") (codes "any") old new k h i then level.Any else level.Single);
  count = kept_at pattern_in name (codes "count") old new k g i;
  from = kept_at pattern_in name (codes "from") old new k f i;
}

-- where the numbers are from, by the value that there may be
abbrev pub source_by : Option Expr → made.Count → NumberSource
source_by (Some e) count = made.FromValue e
source_by None count = made.FromCount count

source_by_is : (o : Option Expr) (count : made.Count) → (elim o [ Some e ↦ made.FromValue e | None ↦ made.FromCount count ]) ≡ source_by o count
source_by_is (Some e) count = refl
source_by_is None count = refl

pub source_is : (entries : List Entry) → source_of entries ≡ source_by (at expr_in (codes "value") entries) (counting entries)
source_is entries = source_by_is (at expr_in (codes "value") entries) (counting entries)

pub source_kept : (name : List ℕ) (old new : List Entry) → Keeps name old new → bytes_eq name (codes "value") ≡ false → bytes_eq name (codes "level") ≡ false
    → bytes_eq name (codes "count") ≡ false → bytes_eq name (codes "from") ≡ false → source_of new ≡ source_of old
source_kept name old new k v h g f =
    source_is new ∙ (λ i. source_by (kept_at expr_in name (codes "value") old new k v i) (counting_kept name old new k h g f i)) ∙ sym (source_is old)
