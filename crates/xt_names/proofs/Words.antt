-- Texts that are compared with words of the standard, and what follows from the comparisons.
use Rattle.std.proofs.Common.{◌≡◌, ℕ, suc, ◌<◌, ◌==◌, Bool, true, false, ◌&&◌, List, [], ◌∷◌, map, codes, bytes_eq, Decides, refl, sym, ap, ◌∙◌, arith}
use Rattle.std.specs.Prelude.{◌||◌, not}
use Rattle.std.specs.Char.{to_ascii_lowercase}
use Rattle.std.specs.Str.{chars, IsUtf8, IsAscii}
use Rattle.std.proofs.lemmas.Bool.Decides.{nat_tests, same_from_decides}
use Rattle.std.proofs.lemmas.Slice.Eq.{bytes_eq-Decides}
use Rattle.std.proofs.lemmas.Str.{chars-IsAscii, encodes-chars, encodes-IsAscii}
use Rattle.std.proofs.lemmas.Str.Ascii.{IsAscii-nil, IsAscii-cons}
use lib.Utf8.{encodes}
use mathlib.Core.Bool.{beq}
use Rattle.spec_document.specs.Scope.{xml_uri, xmlns_uri}
use Rattle.spec_document.specs.Declaration.{is_either, is_reserved_target}

pub xml_chars : chars (codes "xml") ≡ codes "xml"
unfolding chars
xml_chars = refl

pub xmlns_chars : chars (codes "xmlns") ≡ codes "xmlns"
unfolding chars
xmlns_chars = refl

pub xml_uri_chars : chars xml_uri ≡ xml_uri
unfolding chars
xml_uri_chars = refl

pub xmlns_uri_chars : chars xmlns_uri ≡ xmlns_uri
unfolding chars
xmlns_uri_chars = refl

-- ---- `xml` in any case

x_lower : (c : ℕ) → is_either 0x78 0x58 c ≡ (to_ascii_lowercase c == 0x78)
x_lower c = grind (arith, nat_tests)

m_lower : (c : ℕ) → is_either 0x6D 0x4D c ≡ (to_ascii_lowercase c == 0x6D)
m_lower c = grind (arith, nat_tests)

l_lower : (c : ℕ) → is_either 0x6C 0x4C c ≡ (to_ascii_lowercase c == 0x6C)
l_lower c = grind (arith, nat_tests)

same_and : (a b c d e f : Bool) → a ≡ d → b ≡ e → c ≡ f → (a && b && c) ≡ (d && (e && (f && true)))
same_and a b c true true true p q r = cc
same_and a b c true true false p q r = cc
same_and a b c true false f p q r = cc
same_and a b c false e f p q r = cc

lowered : (cs : List ℕ) → is_reserved_target cs ≡ bytes_eq (map to_ascii_lowercase cs) (codes "xml")
lowered [] = refl
lowered (x ∷ []) = grind (arith, nat_tests)
lowered (x ∷ m ∷ []) = grind (arith, nat_tests)
lowered (x ∷ m ∷ l ∷ []) = same_and _ _ _ _ _ _ (x_lower x) (m_lower m) (l_lower l)
lowered (x ∷ m ∷ l ∷ c ∷ cs) = grind (arith, nat_tests)

below : (c : ℕ) → to_ascii_lowercase c < 128 → c < 128
below c h = grind (arith, nat_tests)

ascii_lowered : (bs : List ℕ) → IsAscii (map to_ascii_lowercase bs) → IsAscii bs
ascii_lowered [] h = IsAscii-nil
ascii_lowered (b ∷ bs) h = IsAscii-cons b bs (below b (h 0)) (ascii_lowered bs (λ i. h (suc i)))

xml_ascii : IsAscii (codes "xml")
xml_ascii = IsAscii-cons 0x78 (0x6D ∷ 0x6C ∷ []) (omega arith) (IsAscii-cons 0x6D (0x6C ∷ []) (omega arith) (IsAscii-cons 0x6C [] (omega arith) IsAscii-nil))

lowered_ascii : (bs : List ℕ) → map to_ascii_lowercase bs ≡ codes "xml" → IsAscii bs
lowered_ascii bs e = ascii_lowered bs (rw e xml_ascii)

pub reserved : (bs cs : List ℕ) (r : Bool) → IsUtf8 bs → chars bs ≡ cs → Decides r (map to_ascii_lowercase bs ≡ codes "xml") → r ≡ is_reserved_target cs
reserved bs cs r u e d =
    let there : map to_ascii_lowercase bs ≡ codes "xml" → map to_ascii_lowercase cs ≡ codes "xml" =
    λ h. ap (map to_ascii_lowercase) (sym e ∙ chars-IsAscii bs (lowered_ascii bs h)) ∙ h in
    let back : map to_ascii_lowercase cs ≡ codes "xml" → map to_ascii_lowercase bs ≡ codes "xml" =
    λ h. ap (map to_ascii_lowercase) (sym (encodes-chars bs u) ∙ ap encodes e ∙ encodes-IsAscii cs (lowered_ascii cs h)) ∙ h in
    let at = bytes_eq-Decides (map to_ascii_lowercase cs) (codes "xml") in
    same_from_decides r (bytes_eq (map to_ascii_lowercase cs) (codes "xml")) (λ t. there (d.0 t), λ h. d.1 (back h)) at ∙ sym (lowered cs)

-- ---- Comparisons that are put together

pub or-left : (a b r : Bool) → r ≡ a → r ≡ true → r ≡ (a || b)
or-left true b r e h = e
or-left false b r e h = absurd (cc)

pub or-right : (a b r : Bool) → a ≡ false → r ≡ b → r ≡ (a || b)
or-right true b r e h = absurd (cc)
or-right false b r e h = h

both : (p q : Bool) → not (beq p q) ≡ ((p && not q) || (not p && q))
both true true = refl
both true false = refl
both false true = refl
both false false = refl

pub unlike : (a b p q : Bool) → a ≡ p → b ≡ q → not (beq a b) ≡ ((p && not q) || (not p && q))
unlike a b p q e h = rw (e, h) (both p q)
