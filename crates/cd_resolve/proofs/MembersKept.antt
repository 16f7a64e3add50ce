-- What holds of each member holds of each that is left in a union and in a meet, and of lists that go on.
use Rattle.std.proofs.Common.{Bool, true, false, List, [], ◌∷◌, ◌++◌, if◌then◌else◌}
use Rattle.cd_sets.specs.declared.node_id.NodeId.{NodeId}
use Rattle.cd_model.specs.AllOf.{AllOf}
use Rattle.cd_resolve.specs.Inner.Members.{adds_nothing, joined_to, union_of, Sign, takes_nothing, met_with, meet_of}

-- of one more
pub each_more : {X : Type 0} (fact : X → Type 0) (xs : List X) (x : X) → AllOf fact xs → fact x
    → AllOf fact (xs ++ x ∷ [])
each_more fact [] x each is = (is, tt)
each_more fact (y ∷ xs) x each is = (each.0, each_more fact xs x each.1 is)

-- of those that were there, or of them and one more
each_unless : {X : Type 0} (fact : X → Type 0) (so : Bool) (xs : List X) (x : X) → AllOf fact xs → fact x
    → AllOf fact (if so then xs else xs ++ x ∷ [])
each_unless fact true xs x each is = each
each_unless fact false xs x each is = each_more fact xs x each is

joined_keeps : (fact : NodeId → Type 0) (members ids : List NodeId) → AllOf fact members → AllOf fact ids
    → AllOf fact (joined_to members ids)
joined_keeps fact members [] each more = each
joined_keeps fact members (id ∷ rest) each more =
    joined_keeps fact (if adds_nothing members id then members else members ++ id ∷ []) rest
    (each_unless fact (adds_nothing members id) members id each more.0) more.1

pub union_keeps : (fact : NodeId → Type 0) (ids : List NodeId) → AllOf fact ids → AllOf fact (union_of ids)
union_keeps fact ids each = joined_keeps fact [] ids tt each

met_keeps : (fact : Sign → Type 0) (signs more : List Sign) → AllOf fact signs → AllOf fact more
    → AllOf fact (met_with signs more)
met_keeps fact signs [] each more = each
met_keeps fact signs (sign ∷ rest) each more =
    met_keeps fact (if takes_nothing signs sign then signs else signs ++ sign ∷ []) rest
    (each_unless fact (takes_nothing signs sign) signs sign each more.0) more.1

pub meet_keeps : (fact : Sign → Type 0) (signs : List Sign) → AllOf fact signs → AllOf fact (meet_of signs)
meet_keeps fact signs each = met_keeps fact [] signs tt each
