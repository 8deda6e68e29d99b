use Rattle.std.proofs.Common.{[], List, ap, sym, ◌∙◌, subst}
use Rattle.xt_touch.specs.View.{since_of}
use Rattle.xt_spared.specs.View.{owns_of}
use Rattle.xt_world.proofs.Holding.{none_found}
use Rattle.xt_world.specs.SourceView.{AreFound}
use Rattle.xt_world.specs.View.{truth_in}
use Rattle.xt_world.specs.declared.found.FoundKeys.{FoundKeys}
use Rattle.xt_own.specs.Keys.{AllKeys}
use Rattle.xt_own.specs.declared.own_key.OwnKey.{OwnKey}
use Rattle.xt_own.proofs.KeysStaying.{no_keys}
use Rattle.xt_own.proofs.Preparing.{prepared, some_world}
use Rattle.xt_own.proofs.own_reads.OwnReads.prepare.Goals as goal

pub returns-then-not-keeps_stylesheet-clause-spares : goal.returns-then-not-keeps_stylesheet-clause-spares
returns-then-not-keeps_stylesheet-clause-spares c = λ was parameters own agrees.
    let s = c.args.stylesheet.now in
    let ask = truth_in s parameters c.args.document.now in
    let k = c.nothing_kept.ensures in
    let known = subst (λ (ks : List OwnKey). AllKeys s ask ks) (sym k.keys) tt in
    prepared c.nothing_kept.result s was parameters c.args.document.now (since_of c.args.since.now) [] [] [] (ap since_of k.since)
    k.names k.choices k.made_now agrees (no_keys was ask) tt tt (λ own among. absurd among) known

pub returns-then-not-keeps_stylesheet-clause-found : goal.returns-then-not-keeps_stylesheet-clause-found
returns-then-not-keeps_stylesheet-clause-found c = λ was parameters own agrees. none_found c.args.stylesheet.now c.args.document.now _ c.new.ensures.items

pub returns-clause-spares : goal.returns-clause-spares
returns-clause-spares c = λ was parameters own agrees.
    let s = c.args.stylesheet.now in
    let document = c.args.document.now in
    let ask = truth_in s parameters document in
    let mine = own (sym c.keeps_stylesheet.ensures ∙ c.if-not-keeps_stylesheet.false) in
    let keys = subst (λ (ks : List OwnKey). AllKeys s was ks) (sym c.as_slice.ensures.value) mine.keys in
    let made = c.in_ok-made_now.ensures in
    let after = c.in-Ok.ensures was parameters keys agrees in
    let k = c.with_keys.ensures in
    prepared c.with_keys.result.0 s was parameters document (since_of c.args.since.now) c.in-Ok.after.stay.items
    (owns_of c.args.self.now.choices) (owns_of c.in_ok-made_now.made_now) (ap since_of k.since) k.stay k.choices k.made_now
    agrees after.stay mine.choices (made.decided parameters)
    (some_world s was c.args.self.now.gathered (owns_of c.in_ok-made_now.made_now) mine.world made.none)
    (subst (λ (ks : List OwnKey). AllKeys s ask ks) (sym k.keys) after.keys)

pub returns-clause-found : goal.returns-clause-found
returns-clause-found c = λ was parameters own agrees.
    let s = c.args.stylesheet.now in
    let mine = own (sym c.keeps_stylesheet.ensures ∙ c.if-not-keeps_stylesheet.false) in
    let keys = subst (λ (ks : List OwnKey). AllKeys s was ks) (sym c.as_slice.ensures.value) mine.keys in
    let after = c.in-Ok.ensures was parameters keys agrees in
    subst (λ (ks : List FoundKeys). AreFound s c.args.document.now ks) (sym c.with_keys.ensures.found) after.found
