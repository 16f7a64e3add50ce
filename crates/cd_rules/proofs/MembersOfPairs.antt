-- A clause of pairs whose need is met has a member: the pair of elements that meet the two questions of a way.
use Rattle.std.proofs.Common.{◌≡◌, List, [], ◌∷◌, map, refl, subst}
use Rattle.cd_model.specs.Thing as thing
use Rattle.cd_model.specs.AllOf.{AllOf, AnyOf}
use Rattle.cd_model.specs.Formula.{Graph}
use Rattle.cd_model.specs.Membership.{answers}
use Rattle.cd_rules.specs.Clauses.{Pair, Pairs}
use Rattle.cd_rules.specs.Needs.{Way, Need, pair_way, splits}
use Rattle.cd_rules.specs.Members.{HasElement, HasMember, IsMet, HasAllNeeds}
use Rattle.cd_model.proofs.Ones.{one_picked}
use Rattle.cd_rules.proofs.PairsBack.{pairs_back}

-- where all needs are met, and there is one need whose ways are made of a list, all questions of a way have elements
pub way_picked : {X : Type 0} (graph : Graph) (way_of : X → Way) (sides : List X) (needs : List Need)
    → needs ≡ map way_of sides ∷ [] → AllOf (IsMet (HasElement graph)) needs
    → (given : X) × AnyOf (λ other. other ≡ given) sides × AllOf (HasElement graph) (way_of given)
way_picked graph way_of sides needs same met =
    one_picked way_of (AllOf (HasElement graph)) sides (subst (AllOf (IsMet (HasElement graph))) same met).0

-- a clause of pairs has a member
pub pairs_have : (graph : Graph) (wanted refused : List Pair)
    → HasAllNeeds (HasElement graph) (Pairs wanted refused) → HasMember graph (Pairs wanted refused)
pairs_have graph wanted refused has =
    let way = way_picked graph (pair_way wanted) (splits refused) has.0 has.1 has.2 in
    let first = way.2.0 in
    let second = way.2.1.0 in
    let back = pairs_back (answers graph first.0) (answers graph second.0) wanted refused way.0 way.1 first.2 second.2 in
    (thing.Pair first.0 second.0, (first.1, second.1), (refl, back.0, back.1))
