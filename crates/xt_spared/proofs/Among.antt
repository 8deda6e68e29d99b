-- What is among choices.
use Rattle.std.proofs.Common.{◌≡◌, ℕ, zero, suc, ◌<◌, inl, inr, List, [], ◌∷◌, ◌++◌, map, length, get_or, ap, arith}
use Rattle.std.specs.declared.rc.Rc.{Rc}
use Rattle.std.specs.declared.alloc.Global.{Global}
use Rattle.xt_spared.specs.View.{IsAmong, Own, own_of}
use Rattle.xt_spared.specs.declared.choices.OwnChoice.{OwnChoice}

-- what stands at a place is among them
pub among_at : (list : List (Rc OwnChoice Global)) (i : ℕ) (own : Rc OwnChoice Global) → i < length list → own ≡ get_or list i own
    → IsAmong (own_of own.value) (map (λ (o : Rc OwnChoice Global). own_of o.value) list)
among_at [] i own lt at = absurd (omega arith)
among_at (x ∷ list) zero own lt at = inl (ap (λ (o : Rc OwnChoice Global). own_of o.value) at)
among_at (x ∷ list) (suc i) own lt at = inr (among_at list i own (omega arith) at)

-- what is among the first or the second is among both
pub among_first : (owns others : List Own) (own : Own) → IsAmong own owns → IsAmong own (owns ++ others)
among_first [] others own among = absurd among
among_first (x ∷ owns) others own (inl e) = inl e
among_first (x ∷ owns) others own (inr among) = inr (among_first owns others own among)

pub among_second : (owns others : List Own) (own : Own) → IsAmong own others → IsAmong own (owns ++ others)
among_second [] others own among = among
among_second (x ∷ owns) others own among = inr (among_second owns others own among)
