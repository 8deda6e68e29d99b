-- Lists of choices and of keys.
use Rattle.std.proofs.Common.{◌≡◌, List, [], ◌∷◌, ◌++◌, Option, None, Some, Result, Ok, Err, Vec, sym, subst}
use Rattle.std.specs.Prelude.{IfOk, IfSome, OnOk}
use Rattle.std.specs.Global.{Global}
use Rattle.std.specs.Option.{option_map}
use Rattle.std.specs.declared.rc.Rc.{Rc}
use Rattle.xt_text.specs.declared.memory.Memory.{Memory}
use Rattle.xt_spared.specs.View.{Ask, Own, own_of, owns_of}
use Rattle.xt_spared.specs.declared.choices.OwnChoice.{OwnChoice}
use Rattle.xt_spared.specs.declared.choices.OwnChoices.{OwnChoices}
use Rattle.xt_world.specs.declared.stylesheet.Stylesheet.{Stylesheet}
use Rattle.xt_own.specs.Keys.{AllKeys, IsKeyOf}
use Rattle.xt_own.specs.View.{AllDecide, IsDecided, IsWorld, OwnDecides}
use Rattle.xt_own.specs.declared.own_reads.OwnReads.{OwnReads}
use Rattle.xt_own.specs.declared.own_key.OwnKey.{OwnKey}

pub all_decide_and : (s : Stylesheet) (was : Ask) (owns : List Own) (own : Own) → AllDecide s was owns → IsDecided s was own → AllDecide s was (owns ++ own ∷ [])
all_decide_and s was [] own are is = (is, tt)
all_decide_and s was (x ∷ xs) own are is = (are.0, all_decide_and s was xs own are.1 is)

pub all_keys_and : (s : Stylesheet) (was : Ask) (keys : List OwnKey) (key : OwnKey) → AllKeys s was keys → IsKeyOf s was key → AllKeys s was (keys ++ key ∷ [])
all_keys_and s was [] key are is = (is, tt)
all_keys_and s was (x ∷ xs) key are is = (are.0, all_keys_and s was xs key are.1 is)

-- one more choice was added
pub added : {X : Type 0} (r : Result X Memory) (s : Stylesheet) (was : Ask) (before after : List Own) (own : Own) → OnOk r (after ≡ before ++ own ∷ [])
    → AllDecide s was before → IsDecided s was own → OnOk r (AllDecide s was after)
added (Ok x) s was before after own e are is = subst (AllDecide s was) (sym e) (all_decide_and s was before own are is)
added (Err x) s was before after own e are is = tt

-- a choice that is shared is decided where it was
pub shared_decided : (r : Result (Option (Rc OwnChoice Global)) Memory) (o : Option OwnChoice) (s : Stylesheet) (was : Ask)
    → IfOk r (λ p. option_map (λ shared. shared.value) p ≡ o) → IfSome o (λ own. IsDecided s was (own_of own))
    → IfOk r (λ p. IfSome p (λ own. IsDecided s was (own_of own.value)))
shared_decided (Ok None) o s was e is = tt
shared_decided (Ok (Some shared)) o s was e is = subst (λ (o : Option OwnChoice). IfSome o (λ own. IsDecided s was (own_of own))) (sym e) is
shared_decided (Err x) o s was e is = tt

pub carried_decided : (r : Result (Option (Rc OwnChoice Global)) Memory) (own : OwnChoice) (s : Stylesheet) (was : Ask)
    → IfOk r (λ p. IfSome p (λ shared. shared.value ≡ own)) → IsDecided s was (own_of own)
    → IfOk r (λ p. IfSome p (λ own. IsDecided s was (own_of own.value)))
carried_decided (Ok None) own s was e is = tt
carried_decided (Ok (Some shared)) own s was e is = subst (λ (o : OwnChoice). IsDecided s was (own_of o)) (sym e) is
carried_decided (Err x) own s was e is = tt

-- choices and keys together, of a run in a world
pub together : (r : Result OwnReads Memory) (choices : Result OwnChoices Memory) (keys : Result (Vec OwnKey Global) Memory) (s : Stylesheet) (was : Ask)
    → IfOk r (λ own. choices ≡ Ok own.choices) → IfOk r (λ own. keys ≡ Ok own.keys)
    → IfOk choices (λ c. AllDecide s was (owns_of c)) → IfOk keys (λ k. AllKeys s was k.items) → IsWorld s was → IfOk r (OwnDecides s was)
together (Ok own) choices keys s was e f decide known world = record {
  choices = subst (λ (c : Result OwnChoices Memory). IfOk c (λ c. AllDecide s was (owns_of c))) e decide;
  keys = subst (λ (k : Result (Vec OwnKey Global) Memory). IfOk k (λ k. AllKeys s was k.items)) f known;
  world = λ gathered. world;
}
together (Err x) choices keys s was e f decide known world = tt
