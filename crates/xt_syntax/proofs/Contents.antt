-- Lists inside the trees of instructions.
use Rattle.std.proofs.Common.{◌≡◌, List, [], ◌∷◌, Option, refl, ap, ◌∙◌}
use Rattle.spec_document.specs.Name.{Expanded}
use Rattle.spec_expression.specs.Syntax.{Expr}
use Rattle.spec_stylesheet.specs.Place.{Site}
use Rattle.spec_stylesheet.specs.Instruction.{Form, Instrs, Instr, Branch, Binding, instrs, branches, bindings}

same_instr : (x y : Instr) → x.site ≡ y.site → x.form ≡ y.form → x ≡ y
same_instr x y p f =
    let by_site : Site → Instr = λ a. record { site = a; form = x.form } in
    let by_form : Form → Instr = λ a. record { site = y.site; form = a } in
    ap by_site p ∙ ap by_form f

same_branch : (x y : Branch) → x.site ≡ y.site → x.test ≡ y.test → x.content ≡ y.content → x ≡ y
same_branch x y p t c =
    let by_site : Site → Branch = λ a. record { site = a; test = x.test; content = x.content } in
    let by_test : Option Expr → Branch = λ a. record { site = y.site; test = a; content = x.content } in
    let by_content : Instrs → Branch = λ a. record { site = y.site; test = y.test; content = a } in
    ap by_site p ∙ ap by_test t ∙ ap by_content c

same_binding : (x y : Binding) → x.site ≡ y.site → x.name ≡ y.name → x.select ≡ y.select → x.content ≡ y.content → x ≡ y
same_binding x y p n s c =
    let by_site : Site → Binding = λ a. record { site = a; name = x.name; select = x.select; content = x.content } in
    let by_name : Expanded → Binding = λ a. record { site = y.site; name = a; select = x.select; content = x.content } in
    let by_select : Option Expr → Binding = λ a. record { site = y.site; name = y.name; select = a; content = x.content } in
    let by_content : Instrs → Binding = λ a. record { site = y.site; name = y.name; select = y.select; content = a } in
    ap by_site p ∙ ap by_name n ∙ ap by_select s ∙ ap by_content c

pub same_instrs : (xs ys : List Instr) → instrs xs ≡ instrs ys → xs ≡ ys
same_instrs [] [] h = refl
same_instrs [] (y ∷ ys) h = cc
same_instrs (x ∷ xs) [] h = cc
same_instrs (x ∷ xs) (y ∷ ys) h = let t : instrs xs ≡ instrs ys = cc in let r = same_instrs xs ys t in let p : x.site ≡ y.site = cc in
    let f : x.form ≡ y.form = cc in let e = same_instr x y p f in cc

pub same_branches : (xs ys : List Branch) → branches xs ≡ branches ys → xs ≡ ys
same_branches [] [] h = refl
same_branches [] (y ∷ ys) h = cc
same_branches (x ∷ xs) [] h = cc
same_branches (x ∷ xs) (y ∷ ys) h = let t : branches xs ≡ branches ys = cc in let r = same_branches xs ys t in let p : x.site ≡ y.site = cc in
    let s : x.test ≡ y.test = cc in let c : x.content ≡ y.content = cc in let e = same_branch x y p s c in cc

pub same_bindings : (xs ys : List Binding) → bindings xs ≡ bindings ys → xs ≡ ys
same_bindings [] [] h = refl
same_bindings [] (y ∷ ys) h = cc
same_bindings (x ∷ xs) [] h = cc
same_bindings (x ∷ xs) (y ∷ ys) h = let t : bindings xs ≡ bindings ys = cc in let r = same_bindings xs ys t in let p : x.site ≡ y.site = cc in
    let n : x.name ≡ y.name = cc in let s : x.select ≡ y.select = cc in let c : x.content ≡ y.content = cc in let e = same_binding x y p n s c in cc
