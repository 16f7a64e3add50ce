-- Lists all of whose things are among those of another list.
use Rattle.std.proofs.Common.{◌≡◌, List, [], ◌∷◌, ◌++◌, map, inl, inr, refl, sym, ap, subst}
use Rattle.cd_sets.specs.declared.node_id.NodeId.{NodeId}
use Rattle.cd_model.specs.AllOf.{AllOf, AnyOf}
use Rattle.cd_rules.specs.Family.{AreAmong}
use Rattle.cd_rules.specs.Needs.{set_of}
use Rattle.cd_rules.proofs.Asking.{each_of_map, each_of_set}
use Rattle.cd_rules.proofs.Answered.{set_of_each}
use Rattle.cd_model.proofs.Ones.{each_weaker, one_weaker, one_of_map, one_on_left, one_leads, one_with_each}

-- what is so of each of a list is so of one of it
pub of_each : {X : Type 0} (fact : X → Type 0) (all : List X) (x : X) → AllOf fact all → AnyOf (λ other. other ≡ x) all → fact x
of_each {X} fact all x each is = one_leads (λ (other : X). (other ≡ x) × fact other) (λ other both. subst fact both.0 both.1) all
    (one_with_each (λ other. other ≡ x) fact all is each)

-- and what is so of each one of it is so of each
pub each_of_its : {X : Type 0} (fact : X → Type 0) (all : List X) → ((x : X) → AnyOf (λ other. other ≡ x) all → fact x) → AllOf fact all
each_of_its fact [] is = tt
each_of_its fact (x ∷ all) is = (is x (inl refl), each_of_its fact all (λ one there. is one (inr there)))

-- what is so of each of a list is so of each of a list that is among it
pub each_of_among : {X : Type 0} (fact : X → Type 0) (some all : List X) → AreAmong some all → AllOf fact all → AllOf fact some
each_of_among {X} fact some all among each =
    each_weaker (λ x. AnyOf (λ (other : X). other ≡ x) all) fact (λ x is. of_each fact all x each is) some among

-- what is so of one of a list that is among another one is so of one of that
pub one_of_among : {X : Type 0} (fact : X → Type 0) (some all : List X) → AreAmong some all → AnyOf fact some → AnyOf fact all
one_of_among fact [] all among is = elim is [ ]
one_of_among {X} fact (x ∷ some) all among (inl is) = one_weaker (λ (other : X). other ≡ x) fact
    (λ other same. subst fact (sym same) is) all among.0
one_of_among fact (x ∷ some) all among (inr later) = one_of_among fact some all among.1 later

-- what is among a list is among a longer one
pub among_more : {X : Type 0} (x : X) (some all : List X) → AreAmong some all → AreAmong some (x ∷ all)
among_more {X} x some all among =
    each_weaker (λ one. AnyOf (λ (other : X). other ≡ one) all) (λ one. AnyOf (λ other. other ≡ one) (x ∷ all)) (λ one is. inr is) some among

pub among_both : {X : Type 0} (x : X) (some all : List X) → AreAmong some all → AreAmong (x ∷ some) (x ∷ all)
among_both x some all among = (inl refl, among_more x some all among)

-- each list is among itself
pub among_itself : {X : Type 0} (all : List X) → AreAmong all all
among_itself [] = tt
among_itself (x ∷ all) = among_both x all all (among_itself all)

-- and among what it begins
pub among_longer : {X : Type 0} (list more : List X) → AreAmong list (list ++ more)
among_longer {X} list more = each_of_its (λ x. AnyOf (λ (other : X). other ≡ x) (list ++ more)) list
    (λ x is. one_on_left (λ (other : X). other ≡ x) list more is)

-- a list among one that is among a third is among that
pub among_on : {X : Type 0} (some others all : List X) → AreAmong some others → AreAmong others all → AreAmong some all
among_on {X} some others all among on = each_of_among (λ x. AnyOf (λ (other : X). other ≡ x) all) some others among on

-- what is made of a list that is among another one is among what is made of that
pub among_map : {X Y : Type 0} (f : X → Y) (some all : List X) → AreAmong some all → AreAmong (map f some) (map f all)
among_map {X} {Y} f some all among = each_of_map f (λ y. AnyOf (λ (other : Y). other ≡ y) (map f all)) some
    (each_weaker (λ x. AnyOf (λ (other : X). other ≡ x) all) (λ x. AnyOf (λ other. other ≡ f x) (map f all)) (λ x is. made x is) some among)
  where
    made : (x : X) → AnyOf (λ other. other ≡ x) all → AnyOf (λ other. other ≡ f x) (map f all)
    made x is = one_of_map f (λ other. other ≡ f x) all
        (one_weaker (λ other. other ≡ x) (λ other. f other ≡ f x) (λ other same. ap f same) all is)

-- nodes are among their set, and that is among them
pub among_set : (ids : List NodeId) → AreAmong ids (set_of ids)
among_set ids = set_of_each (λ id. AnyOf (λ other. other ≡ id) (set_of ids)) ids (among_itself (set_of ids))

pub set_among : (ids : List NodeId) → AreAmong (set_of ids) ids
set_among ids = each_of_set (λ id. AnyOf (λ other. other ≡ id) ids) ids (among_itself ids)

-- so sets are among one another where nodes are
pub among_sets : (some all : List NodeId) → AreAmong some all → AreAmong (set_of some) (set_of all)
among_sets some all among = among_on (set_of some) some (set_of all) (set_among some) (among_on some all (set_of all) among (among_set all))
