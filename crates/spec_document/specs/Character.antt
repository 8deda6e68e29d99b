-- Characters, as their codes (XML 1.0, fifth edition, productions 2 to 4a).
use Rattle.std.specs.Prelude.{ℕ, Bool, ◌&&◌, ◌||◌, ◌==◌, nat_le}

-- from low to high, both included
abbrev pub is_between : ℕ → ℕ → ℕ → Bool
is_between low high c = nat_le low c && nat_le c high

-- white space
abbrev pub is_space : ℕ → Bool
is_space c = (c == 0x20) || (c == 0x9) || (c == 0xD) || (c == 0xA)

-- an XML Char
unfoldable pub is_char : ℕ → Bool
is_char c = (c == 0x9) || (c == 0xA) || (c == 0xD) || is_between 0x20 0xD7FF c || is_between 0xE000 0xFFFD c || is_between 0x1_0000 0x10_FFFF c

-- what an NCName may begin with
unfoldable pub is_name_start : ℕ → Bool
is_name_start c =
    is_between 0x41 0x5A c || (c == 0x5F) || is_between 0x61 0x7A c || is_between 0xC0 0xD6 c || is_between 0xD8 0xF6 c || is_between 0xF8 0x2FF c
    || is_between 0x370 0x37D c || is_between 0x37F 0x1FFF c || is_between 0x200C 0x200D c || is_between 0x2070 0x218F c || is_between 0x2C00 0x2FEF c
    || is_between 0x3001 0xD7FF c || is_between 0xF900 0xFDCF c || is_between 0xFDF0 0xFFFD c || is_between 0x1_0000 0xE_FFFF c

-- what may follow in an NCName: also `-`, `.`, digits, the middle dot and combining characters
unfoldable pub is_name_part : ℕ → Bool
is_name_part c =
    is_name_start c || (c == 0x2D) || (c == 0x2E) || is_between 0x30 0x39 c || (c == 0xB7) || is_between 0x300 0x36F c || is_between 0x203F 0x2040 c
