use Rattle.std.proofs.Common.{List, subst, sym}
use Rattle.xt_spared.specs.View.{KeysStay}
use Rattle.xt_spared.specs.declared.spared.KeyThatStays.{KeyThatStays}
use Rattle.xt_world.specs.View.{truth_in}
use Rattle.spec_document.specs.Name.{Expanded}
use Rattle.xt_own.specs.Keys.{AllKeys, AnswersStay}
use Rattle.xt_own.specs.declared.own_key.OwnKey.{OwnKey}
use Rattle.xt_own.proofs.Keeping.{all_keys_and}
use Rattle.xt_own.proofs.KeysStaying.{one_more_stays}
use Rattle.xt_own.proofs.stay.add_kept.Goals as goal

pub returns : goal.returns
returns c = λ s was parameters document after stays.
    let ask = truth_in s parameters document in
    let k = c.args.kept in
    let one : KeyThatStays = record { name = c.in_ok-name.name; but = k.but } in
    let Named : Expanded → Type 0 = λ n. AnswersStay was ask n k.but.items in
    record {
      stay = subst (λ (ks : List KeyThatStays). KeysStay was ask ks) (sym c.in_ok-push.ensures.items)
          (one_more_stays was ask c.args.after.now.stay.items one after.stay (subst Named (sym c.in_ok-name.ensures) stays.answers));
      keys = subst (λ (ks : List OwnKey). AllKeys s ask ks) (sym c.in_ok-push-2.ensures.items)
          (all_keys_and s ask c.args.after.now.keys.items k.key after.keys stays.known);
      found = c.in_ok-add_found.ensures s parameters document after.found stays.known;
    }
