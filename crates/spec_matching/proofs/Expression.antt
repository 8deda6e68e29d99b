-- What a pattern is read as gives what the expression gives, where that gives nodes.
use Rattle.std.proofs.Common.{◌≡◌, ℕ, ◌+◌, Bool, true, cond, List, [], ◌∷◌, ◌++◌, length, Option, None, Some, refl, sym, ap, ◌∙◌}
use Rattle.spec_document.specs.declared.axis.Axis.{Axis}
use Rattle.spec_document.specs.declared.axis.Axis.TheVariants as axis
use Rattle.spec_document.specs.Name.{Expanded, QName, qname_of}
use Rattle.spec_document.specs.Scope.{Scope}
use Rattle.spec_document.specs.Declaration.{attribute_name}
use Rattle.spec_expression.specs.declared.code.DynCode.TheVariants as code
use Rattle.spec_expression.specs.Syntax.{Test, Expr, Exprs, no_exprs, expr, Steps, no_steps, step}
use Rattle.spec_stylesheet.specs.declared.pattern.Start.{Start}
use Rattle.spec_stylesheet.specs.Pattern.{Alternative, Pattern}
use Rattle.spec_meaning.specs.Value as value
use Rattle.spec_meaning.specs.Value.{Value}
use Rattle.spec_meaning.specs.Question as question
use Rattle.spec_meaning.specs.Question.{Question, Answer, nodes_in}
use Rattle.spec_meaning.specs.Program.{Given, Program, Give, Refuse, Ask, Need, Supply, Gives, Lacks, if_given, outcome_of, then}
use Rattle.spec_meaning.specs.Context.{Context, at_node}
use Rattle.spec_meaning.specs.Convert.{to_nodes}
use Rattle.spec_meaning.specs.Call.{arranged, name_meant, nodes_or_refused, nodes_of_key}
use Rattle.spec_meaning.specs.Meaning.{keeps, kept, stepped, meaning, kept_by, along}
use Rattle.spec_transform.specs.Match.{caught, is_kept, all_kept, matches}
use Rattle.spec_matching.specs.Asked.{is_among, nodes_on}
use Rattle.spec_matching.specs.Tree.{is_there, IsTree}
use Rattle.spec_matching.specs.Given.{IsOneOf, AreAlternatives}
use Rattle.spec_matching.specs.AsExpression.{steps_read, all_kept_by, led_along, started_at, nodes_given, standing_at, StartsWith, anywhere, at_root, by_id, by_key, followed_by, Reads, reads}
use Rattle.spec_matching.proofs.Alone.{then_gave, then_gives}
use Rattle.spec_matching.proofs.Above.{matched_where_given}

-- ---- Predicates

caught_gives : {N : Type 0} (ask : Question N → Answer N) (supply : Supply N) (p : Program N Bool) (b : Bool) → outcome_of ask supply p ≡ Gives b
    → outcome_of ask supply (caught p) ≡ Gives b
unfolding caught
caught_gives ask supply (Give v) b h = h
caught_gives ask supply (Refuse why) b h = absurd (cc)
caught_gives ask supply (Ask q next) b h = caught_gives ask supply (next (ask q)) b h
caught_gives {N} ask supply (Need w next) b h = go (supply w) (λ g. caught_gives ask supply (next g) b) h
  where
    go : (o : Option (Given N)) → ((g : Given N) → outcome_of ask supply (next g) ≡ Gives b → outcome_of ask supply (caught (next g)) ≡ Gives b)
        → if_given (λ g. outcome_of ask supply (next g)) (Lacks w) o ≡ Gives b → if_given (λ g. outcome_of ask supply (caught (next g))) (Lacks w) o ≡ Gives b
    go None more g = absurd (cc)
    go (Some x) more g = more x g

kept_gives : {N : Type 0} (ask : Question N → Answer N) (supply : Supply N) (p : Expr) (c : Context N) (above : N) (size position : ℕ) (done ns ms : List N)
    → outcome_of ask supply (kept (meaning p) (standing_at c above) size position done ns) ≡ Gives ms
    → outcome_of ask supply (all_kept p c size position done ns) ≡ Gives ms
kept_gives ask supply p c above size position done [] ms h = h
kept_gives ask supply p c above size position done (n ∷ ns) ms h =
    let next = then_gave ask supply (meaning p (at_node c n position size))
    (λ v. kept (meaning p) (standing_at c above) size (position + 1) (cond (keeps v position) (done ++ n ∷ []) done) ns) ms h in
    let own = then_gives ask supply (meaning p (at_node c n position size)) (λ v. Give (keeps v position)) next.0 (Gives (keeps next.0 position)) next.1 refl in
    then_gives ask supply (is_kept p c size position n) (λ b. all_kept p c size (position + 1) (cond b (done ++ n ∷ []) done) ns) (keeps next.0 position)
    (Gives ms)
    (caught_gives ask supply (then (meaning p (at_node c n position size)) (λ v. Give (keeps v position))) (keeps next.0 position) own)
    (kept_gives ask supply p c above size (position + 1) (cond (keeps next.0 position) (done ++ n ∷ []) done) ns ms next.2)

kept_by_gives : {N : Type 0} (ask : Question N → Answer N) (supply : Supply N) (ps : Exprs) (c : Context N) (above : N) (ns ms : List N)
    → outcome_of ask supply (kept_by ps (standing_at c above) ns) ≡ Gives ms → outcome_of ask supply (all_kept_by ps c ns) ≡ Gives ms
kept_by_gives ask supply no_exprs c above ns ms h = h
kept_by_gives ask supply (expr p ps) c above ns ms h =
    let next = then_gave ask supply (kept (meaning p) (standing_at c above) (length ns) 1 [] ns) (λ xs. kept_by ps (standing_at c above) xs) ms h in
    then_gives ask supply (all_kept p c (length ns) 1 [] ns) (λ xs. all_kept_by ps c xs) next.0 (Gives ms)
    (kept_gives ask supply p c above (length ns) 1 [] ns next.0 next.1) (kept_by_gives ask supply ps c above next.0 ms next.2)

-- ---- Steps

stepped_gives : {N : Type 0} (ask : Question N → Answer N) (supply : Supply N) (f g : List N → Program N (List N))
    → ((xs ys : List N) → outcome_of ask supply (f xs) ≡ Gives ys → outcome_of ask supply (g xs) ≡ Gives ys) → (x : Axis) (test : Test)
    (done ns ms : List N) → outcome_of ask supply (stepped f x test done ns) ≡ Gives ms → outcome_of ask supply (stepped g x test done ns) ≡ Gives ms
stepped_gives ask supply f g so x test done [] ms h = h
stepped_gives ask supply f g so x test done (n ∷ ns) ms h =
    let these = nodes_in (ask (question.Step n x test)) in
    let next = then_gave ask supply (f these) (λ ys. stepped f x test (done ++ ys) ns) ms h in
    then_gives ask supply (g these) (λ ys. stepped g x test (done ++ ys) ns) next.0 (Gives ms) (so these next.0 next.1)
    (stepped_gives ask supply f g so x test (done ++ next.0) ns ms next.2)

along_gives : {N : Type 0} (ask : Question N → Answer N) (supply : Supply N) (ss : Steps) (c : Context N) (above : N) (ns ms : List N)
    → outcome_of ask supply (along ss (standing_at c above) ns) ≡ Gives ms → outcome_of ask supply (led_along ss c ns) ≡ Gives ms
along_gives ask supply no_steps c above ns ms h = h
along_gives ask supply (step x test ps more) c above ns ms h =
    let d = standing_at c above in
    let next = then_gave ask supply (stepped (kept_by ps d) x test [] ns) (λ found. then (arranged ns x found) (λ xs. along more d xs)) ms h in
    let last = then_gave ask supply (arranged ns x next.0) (λ xs. along more d xs) ms next.2 in
    then_gives ask supply (stepped (all_kept_by ps c) x test [] ns) (λ found. then (arranged ns x found) (λ xs. led_along more c xs)) next.0 (Gives ms)
    (stepped_gives ask supply (kept_by ps d) (all_kept_by ps c) (λ xs ys e. kept_by_gives ask supply ps c above xs ys e) x test [] ns next.0 next.1)
    (then_gives ask supply (arranged ns x next.0) (λ xs. led_along more c xs) last.0 (Gives ms) last.1 (along_gives ask supply more c above last.0 ms last.2))

-- ---- The start

abbrev by_expanded : {N : Type 0} → Option Expanded → Program N Expanded
by_expanded name = elim name [ None ↦ Refuse (question.Here code.BadName) | Some expanded ↦ Give expanded ]

abbrev by_qname : {N : Type 0} → Scope → Option QName → Program N Expanded
by_qname scope written = elim written [ None ↦ Refuse (question.Here code.BadName) | Some name ↦ by_expanded (attribute_name scope name) ]

-- a name that is written so
name_is : {N : Type 0} (scope : Scope) (written : List ℕ) (qname : QName) (name : Expanded) → qname_of written ≡ Some qname
    → attribute_name scope qname ≡ Some name → name_meant {N = N} scope written ≡ Give name
name_is {N} scope written qname name q e =
    ap (λ (o : Option QName). by_qname {N = N} scope o) q ∙ ap (λ (o : Option Expanded). by_expanded {N = N} o) e

unless_refused : {N : Type 0} (ask : Question N → Answer N) (supply : Supply N) (a : Answer N) (ns : List N)
    → outcome_of ask supply (nodes_or_refused a) ≡ Gives ns → nodes_in a ≡ ns
unless_refused ask supply (question.Refused why) ns h = absurd (cc)
unless_refused ask supply question.Gone ns h = cc
unless_refused ask supply (question.SomeNodes nodes) ns h = cc
unless_refused ask supply (question.SomeText text) ns h = cc
unless_refused ask supply (question.Named kind name written) ns h = cc
unless_refused ask supply (question.Chosen rule) ns h = cc
unless_refused ask supply (question.Copied stream) ns h = cc
unless_refused ask supply (question.Resolved unit) ns h = cc
unless_refused ask supply (question.Passed text) ns h = cc

-- the call of key(), where its name is known
key_gives : {N : Type 0} (ask : Question N → Answer N) (supply : Supply N) (scope : Scope) (written : List ℕ) (name : Expanded) (text : List ℕ) (ns : List N)
    → name_meant {N = N} scope written ≡ Give name
    → outcome_of ask supply (then (name_meant scope written) (λ n. then (nodes_of_key n text) (λ ms. Give (value.Nodes ms)))) ≡ Gives (value.Nodes ns)
    → nodes_in (ask (question.Key name text)) ≡ ns
key_gives {N} ask supply scope written name text ns is h =
    let next = then_gave ask supply (name_meant scope written) (λ n. then (nodes_of_key n text) (λ ms. Give (value.Nodes ms))) (value.Nodes ns) h in
    let said = sym (ap (outcome_of ask supply) is) ∙ next.1 in
    let alike : name ≡ next.0 = cc in
    let last = then_gave ask supply (nodes_of_key next.0 text) (λ ms. Give (value.Nodes ms)) (value.Nodes ns) next.2 in
    let nodes = unless_refused ask supply (ask (question.Key next.0 text)) last.0 last.1 in
    let end = last.2 in
    let given : last.0 ≡ ns = cc in
    ap (λ (n : Expanded). nodes_in (ask (question.Key n text))) alike ∙ nodes ∙ given

start_gives : {N : Type 0} (ask : Question N → Answer N) (supply : Supply N) (c : Context N) (above : N) (start : Start (List ℕ) Expanded) (e : Expr)
    (ns : List N) → StartsWith c.scope start e → outcome_of ask supply (meaning e (standing_at c above)) ≡ Gives (value.Nodes ns)
    → outcome_of ask supply (started_at start above) ≡ Gives ns
unfolding then
start_gives ask supply c above _ _ ns anywhere h = cc
start_gives ask supply c above _ _ ns at_root h = cc
start_gives ask supply c above _ _ ns by_id h = cc
start_gives {N} ask supply c above _ _ ns (by_key {written = written} {qname = qname} {name = name} {value = text} q e) h =
    ap Gives (key_gives ask supply c.scope written name text ns (name_is {N = N} c.scope written qname name q e) h)

-- ---- All of it

to_nodes_gives : {N : Type 0} (ask : Question N → Answer N) (supply : Supply N) (v : Value N) (ns : List N)
    → outcome_of ask supply (to_nodes v) ≡ Gives ns → v ≡ value.Nodes ns
to_nodes_gives ask supply (value.Nodes nodes) ns h = let same : nodes ≡ ns = cc in ap value.Nodes same
to_nodes_gives ask supply (value.Number n) ns h = absurd (cc)
to_nodes_gives ask supply (value.Text t) ns h = absurd (cc)
to_nodes_gives ask supply (value.Boolean b) ns h = absurd (cc)
to_nodes_gives ask supply (value.Fragment s) ns h = absurd (cc)

-- the nodes from which the steps lead
path_gave : {N : Type 0} (ask : Question N → Answer N) (supply : Supply N) (e : Expr) (ss : Steps) (d : Context N) (nodes : List N)
    → outcome_of ask supply (meaning (followed_by e ss) d) ≡ Gives (value.Nodes nodes)
    → (ns : List N) × (outcome_of ask supply (meaning e d) ≡ Gives (value.Nodes ns)) × (outcome_of ask supply (along ss d ns) ≡ Gives nodes)
path_gave ask supply e no_steps d nodes h = (nodes, h, refl)
path_gave ask supply e (step x test ps more) d nodes h =
    let ss = step x test ps more in
    let first = then_gave ask supply (meaning e d) (λ v. then (to_nodes v) (λ ns. then (along ss d ns) (λ ms. Give (value.Nodes ms)))) (value.Nodes nodes) h in
    let second = then_gave ask supply (to_nodes first.0) (λ ns. then (along ss d ns) (λ ms. Give (value.Nodes ms))) (value.Nodes nodes) first.2 in
    let third = then_gave ask supply (along ss d second.0) (λ ms. Give (value.Nodes ms)) (value.Nodes nodes) second.2 in
    let end = third.2 in
    let same : third.0 ≡ nodes = cc in
    (second.0, first.1 ∙ ap Gives (to_nodes_gives ask supply first.0 second.0 second.1), third.1 ∙ ap Gives same)

read_gives : {N : Type 0} (ask : Question N → Answer N) (supply : Supply N) (c : Context N) (a : Alternative) (above : N) (e : Expr) (nodes : List N)
    → StartsWith c.scope a.start e → outcome_of ask supply (meaning (followed_by e (steps_read a.steps)) (standing_at c above)) ≡ Gives (value.Nodes nodes)
    → outcome_of ask supply (nodes_given c a above) ≡ Gives nodes
read_gives ask supply c a above e nodes s h =
    let all = path_gave ask supply e (steps_read a.steps) (standing_at c above) nodes h in
    then_gives ask supply (started_at a.start above) (λ ns. led_along (steps_read a.steps) c ns) all.0 (Gives nodes)
    (start_gives ask supply c above a.start e all.0 s all.1) (along_gives ask supply (steps_read a.steps) c above all.0 nodes all.2)

pub expression_gives : {N : Type 0} (c : Context N) (a : Alternative) (e : Expr) (above : N) (ask : Question N → Answer N) (supply : Supply N) (nodes : List N)
    → Reads c.scope a e → outcome_of ask supply (meaning e (standing_at c above)) ≡ Gives (value.Nodes nodes)
    → outcome_of ask supply (nodes_given c a above) ≡ Gives nodes
expression_gives c a _ above ask supply nodes (reads {e = e} s) h = read_gives ask supply c a above e nodes s h

-- a node that the expression of an alternative gives from above matches
pub matched_by_expression : {N : Type 0} (same : N → N → Bool) (ask : Question N → Answer N) (supply : Supply N) (c : Context N) (pattern : Pattern) (n : N)
    (alternative : Alternative) (e : Expr) (above : N) (nodes : List N) → IsTree same ask → is_there ask n ≡ true
    → AreAlternatives ask supply c pattern.alternatives → IsOneOf alternative pattern.alternatives → Reads c.scope alternative e
    → is_among same above (nodes_on ask axis.AncestorOrSelf n) ≡ true → outcome_of ask supply (meaning e (standing_at c above)) ≡ Gives (value.Nodes nodes)
    → is_among same n nodes ≡ true → outcome_of ask supply (matches same c pattern n) ≡ Gives true
matched_by_expression same ask supply c pattern n alternative e above nodes tree there are is_one read up gives has =
    matched_where_given same ask supply c pattern n tree there are
    (record {
      above = above;
      is_above = up;
      alternative = alternative;
      is_one = is_one;
      nodes = nodes;
      gives = expression_gives c alternative e above ask supply nodes read gives;
      has = has;
    })
