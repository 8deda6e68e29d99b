-- The names that links have, seen as the program's and as the definition's.
use Rattle.std.proofs.Common.{◌≡◌, List, [], ◌∷◌, refl, ap, ◌∙◌}
use Rattle.spec_structure.specs.Structure.{Link}
use Rattle.xt_structure.specs.declared.links.Link as sheet
use Rattle.xt_structure.specs.View.{links_in}
use Rattle.xt_import.specs.View.{hrefs_of, hrefs_in}

same_hrefs : (links : List sheet.Link) → hrefs_in links ≡ hrefs_of (links_in links)
same_hrefs [] = refl
same_hrefs (l ∷ ls) = ap (λ hs. l.href ∷ hs) (same_hrefs ls)

pub named_alike : (links items : List sheet.Link) (meant : List Link) → links ≡ items → links_in items ≡ meant → hrefs_in links ≡ hrefs_of meant
named_alike links items meant e f = same_hrefs links ∙ ap (λ ls. hrefs_of (links_in ls)) e ∙ ap hrefs_of f
