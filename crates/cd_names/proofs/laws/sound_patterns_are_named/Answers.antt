use Rattle.std.proofs.Common.{[], ◌∷◌, inl, inr}
use Rattle.cd_names.proofs.NamedPatterns.{tree_named}
use Rattle.cd_names.proofs.laws.sound_patterns_are_named.Goals as goal

pub returns : goal.returns
returns c types scope pattern sound = tree_named scope (types ∷ []) (types ∷ []) pattern
    (λ fault is. sound fault (inr is)) (λ fault is. sound fault (inl is))
