-- What is seen of forests.
use Rattle.std.specs.Prelude.{◌≡◌, ℕ, Bool, true, false, not, ◌&&◌, ◌||◌, List, [], ◌∷◌, Option, None, Some, if◌then◌else◌}
use Rattle.std.specs.List.{list_any}
use Rattle.std.proofs.Common.{refl, ap, ◌∙◌}
use Rattle.spec_document.specs.Scope.{Scope}
use Rattle.std.specs.Option.{option_and_then}
use Rattle.spec_document.specs.Name.{Expanded, qname_of}
use Rattle.spec_document.specs.Declaration.{declared_all, element_name}
use Rattle.spec_document.specs.Forest.{Written, Element, Text, Comment, Instruction, Forest, Empty, Node, plain}
use Rattle.spec_stylesheet.specs.Sheet.{SpaceRule}
use Rattle.spec_structure.specs.Inside.{value_of, space_name, space_by, is_white}
use Rattle.spec_seen.specs.Seen.{takes_name, counts_more, greater, rule_for, strips_by, strips}
use Rattle.spec_seen.specs.Seen.{Around, around_by, around_in, seen_among, LosesTexts, at_end, loses, keeps}

both : {A B C : Type 0} (f : A → B → C) {a b : A} {x y : B} → a ≡ b → x ≡ y → f a x ≡ f b y
both f {b = b} {x = x} h g = ap (λ a. f a x) h ∙ ap (f b) g

-- ---- Labels

if_plain : {L : Type 0} (b : Bool) (f g : Forest L) → plain (if b then f else g) ≡ (if b then plain f else plain g)
if_plain true f g = refl
if_plain false f g = refl

pub plain_seen : {L : Type 0} (rules : List SpaceRule) (around : Around) (f : Forest L)
    → plain (seen_among rules around f) ≡ seen_among rules around (plain f)
plain_seen rules around Empty = refl
plain_seen rules around (Node label (Text text) children siblings) =
    if_plain (around.strips && is_white text) _ _
    ∙ ap (λ rest. if around.strips && is_white text then rest else Node tt (Text text) (plain children) rest) (plain_seen rules around siblings)
plain_seen rules around (Node label (Element name attributes) children siblings) =
    both (Node tt (Element name attributes)) (plain_seen rules (around_in rules around name attributes) children) (plain_seen rules around siblings)
plain_seen rules around (Node label (Comment text) children siblings) =
    ap (Node tt (Comment text) (plain children)) (plain_seen rules around siblings)
plain_seen rules around (Node label (Instruction target text) children siblings) =
    ap (Node tt (Instruction target text) (plain children)) (plain_seen rules around siblings)

-- ---- What is lost

same : {L : Type 0} (f : Forest L) → LosesTexts f f
same Empty = at_end
same (Node label content children siblings) = keeps (same children) (same siblings)

text_lost : {L : Type 0} (b : Bool) {label : L} {text : List ℕ} {children siblings rest : Forest L} → LosesTexts siblings rest
    → LosesTexts (Node label (Text text) children siblings) (if b then rest else Node label (Text text) children rest)
text_lost true h = loses h
text_lost false {children = children} h = keeps (same children) h

pub texts_lost : {L : Type 0} (rules : List SpaceRule) (around : Around) (f : Forest L) → LosesTexts f (seen_among rules around f)
texts_lost rules around Empty = at_end
texts_lost rules around (Node label (Text text) children siblings) = text_lost (around.strips && is_white text) (texts_lost rules around siblings)
texts_lost rules around (Node label (Element name attributes) children siblings) =
    keeps (texts_lost rules (around_in rules around name attributes) children) (texts_lost rules around siblings)
texts_lost rules around (Node label (Comment text) children siblings) = keeps (same children) (texts_lost rules around siblings)
texts_lost rules around (Node label (Instruction target text) children siblings) = keeps (same children) (texts_lost rules around siblings)

-- ---- Where no rule strips, nothing is stripped

-- no rule strips
abbrev pub NoneStrips : List SpaceRule → Type 0
NoneStrips rules = list_any (λ rule. rule.strips) rules ≡ false

-- neither of two rules strips, nor does the one that counts for more
neither : (b : Bool) (earlier later : SpaceRule) → earlier.strips ≡ false → later.strips ≡ false
    → (if b then earlier else later).strips ≡ false
neither true earlier later e l = e
neither false earlier later e l = l

greater_not : (found : Option SpaceRule) (rule : SpaceRule) → strips_by found ≡ false → rule.strips ≡ false → (greater found rule).strips ≡ false
greater_not None rule h r = r
greater_not (Some earlier) rule h r = neither (counts_more earlier rule) earlier rule h r

taken_not : (b : Bool) (found : Option SpaceRule) (rule : SpaceRule) → strips_by found ≡ false → rule.strips ≡ false
    → strips_by (if b then Some (greater found rule) else found) ≡ false
taken_not true found rule h r = greater_not found rule h r
taken_not false found rule h r = h

-- of two truths of which neither holds
first_not : (a b : Bool) → (a || b) ≡ false → a ≡ false
first_not true b h = h
first_not false b h = refl

second_not : (a b : Bool) → (a || b) ≡ false → b ≡ false
second_not true b h = absurd (cc)
second_not false b h = h

rule_not : (name : Expanded) (found : Option SpaceRule) (rules : List SpaceRule) → strips_by found ≡ false → NoneStrips rules
    → strips_by (rule_for name found rules) ≡ false
rule_not name found [] h none = h
rule_not name found (rule ∷ rules) h none =
    let rest = list_any (λ rule. rule.strips) rules in
    rule_not name (if takes_name rule.test name then Some (greater found rule) else found) rules
    (taken_not (takes_name rule.test name) found rule h (first_not rule.strips rest none)) (second_not rule.strips rest none)

never : (rules : List SpaceRule) (b : Bool) (name : Option Expanded) → NoneStrips rules → (b && strips rules name) ≡ false
never rules true None none = refl
never rules true (Some name) none = rule_not name None rules refl none
never rules false name none = refl

none_by : (rules : List SpaceRule) (scope : Scope) (preserves : Bool) (name : List ℕ) → NoneStrips rules
    → (around_by rules scope preserves name).strips ≡ false
none_by rules scope preserves name none = never rules (not preserves) (option_and_then (element_name scope) (qname_of name)) none

none_in : (rules : List SpaceRule) (around : Around) (name : List ℕ) (attributes : List Written) → NoneStrips rules
    → (around_in rules around name attributes).strips ≡ false
none_in rules around name attributes none =
    let scope = declared_all attributes around.scope in
    none_by rules scope (space_by around.preserves (value_of scope space_name attributes)) name none

unstripped : {L : Type 0} (b : Bool) (text : List ℕ) → b ≡ false → (f g : Forest L) → (if b && is_white text then f else g) ≡ g
unstripped b text e f g = ap (λ s. if s && is_white text then f else g) e

pub all_seen : {L : Type 0} (rules : List SpaceRule) (around : Around) → NoneStrips rules → around.strips ≡ false → (f : Forest L)
    → seen_among rules around f ≡ f
all_seen rules around none e Empty = refl
all_seen rules around none e (Node label (Text text) children siblings) =
    unstripped around.strips text e (seen_among rules around siblings) _
    ∙ ap (Node label (Text text) children) (all_seen rules around none e siblings)
all_seen rules around none e (Node label (Element name attributes) children siblings) =
    both (Node label (Element name attributes))
    (all_seen rules (around_in rules around name attributes) none (none_in rules around name attributes none) children)
    (all_seen rules around none e siblings)
all_seen rules around none e (Node label (Comment text) children siblings) =
    ap (Node label (Comment text) children) (all_seen rules around none e siblings)
all_seen rules around none e (Node label (Instruction target text) children siblings) =
    ap (Node label (Instruction target text) children) (all_seen rules around none e siblings)
