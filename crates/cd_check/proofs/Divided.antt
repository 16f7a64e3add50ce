-- What is matched, divided among patterns.
use Rattle.std.proofs.Common.{◌≡◌, ◌<◌, ap, sym, subst, ◌⊎◌, inl, inr, List, [], ◌∷◌, ◌++◌, length, map, append_assoc, Option, Some, None}
use Rattle.cd_sets.specs.declared.node_id.NodeId.{NodeId}
use Rattle.cd_syntax.specs.Name.{Name}
use Rattle.cd_syntax.specs.TypeTree.{Tree}
use Rattle.cd_model.specs.Formula.{Graph, IsGraph}
use Rattle.cd_model.specs.Scope.{Scope}
use Rattle.cd_model.specs.Thing.{Thing, IsElement}
use Rattle.cd_matching.specs.Captures.{Captures}
use Rattle.cd_matching.specs.Takes.{WrittenTakes}
use Rattle.cd_program.specs.Expr.{Expr, Branches, NoBranch, ABranch}
use Rattle.cd_meaning.specs.Sets.{◌⊆◌, elements_of}
use Rattle.cd_names.specs.ProgramFaults.{patterns}
use Rattle.cd_typing.specs.Branches.{Cover, IsTaken}
use Rattle.cd_typing.specs.Later.{IsLater}
use Rattle.cd_typing.proofs.Later.{later_in, earlier_in, below_later, later_still}
use Rattle.cd_sites.proofs.SitesStay.{site_stays}
use Rattle.cd_sites.proofs.WrittenTaken.{takes_once}
use Rattle.cd_sites.specs.Sites.{IsSite}
use Rattle.cd_sites.specs.declared.site.Site.{Site}
use Rattle.cd_sites.specs.TakenElements.{left_of}
use Rattle.cd_check.specs.declared.sites.Coming.{Coming}
use Rattle.cd_check.specs.declared.sites.Sited.{Sited}
use Rattle.cd_check.specs.Inner.Bodies.{Decides}
use Rattle.cd_check.specs.Inner.Divided.{IsSited, AreSited, Come, coming_pattern, sited_pattern}
use Rattle.cd_check.proofs.Decided.{site_decides}

abbrev IsNone : Option (Captures Name) → Type 0
IsNone None = Unit {0}
IsNone (Some captures) = ⊥

abbrev IsSome : List Tree → Type 0
IsSome [] = ⊥
IsSome (one ∷ rest) = Unit {0}

abbrev first_or : Tree → List Tree → Tree
first_or other [] = other
first_or other (one ∷ rest) = one

abbrev rest_or : List Tree → List Tree
rest_or [] = []
rest_or (one ∷ rest) = rest

pub head_same : {one other : Tree} {ones others : List Tree} → one ∷ ones ≡ other ∷ others → one ≡ other
head_same {one} same = ap (first_or one) same

pub rest_same : {one other : Tree} {ones others : List Tree} → one ∷ ones ≡ other ∷ others → ones ≡ others
rest_same same = ap rest_or same

module _ (graph later : Graph) (is : IsLater graph later) (scope : Scope) where
  pub sited_later : (sited : Sited) → IsSited graph scope sited → IsSited later scope sited
  sited_later sited sound = record {
    site = subst (λ whole. IsSite whole scope (sited_pattern sited) sited.site) (sym is.is)
        (site_stays graph is.more (subst IsGraph is.is is.sound) sited.site scope (sited_pattern sited) sound.site);
    bound = sound.bound;
  }

  pub all_sited_later : (all : List Sited) → AreSited graph scope all → AreSited later scope all
  all_sited_later [] sited = tt
  all_sited_later (one ∷ rest) sited = (sited_later one sited.0, all_sited_later rest sited.1)

  pub come_later : IsGraph graph → (matched : NodeId) (comings : List Coming) (rest : NodeId) → Come graph scope matched comings rest
      → Come later scope matched comings rest
  come_later sound matched [] rest come = (below_later graph later is matched come.0, come.1)
  come_later sound matched (coming ∷ comings) rest come = (
    come.0,
    below_later graph later is matched come.1,
    sited_later coming.sited.now come.2,
    come.3,
    λ e element inside fails. later_in graph later is sound come.3 (first_below come.3 comings come.5) e element
        (come.4 e element (earlier_in graph later is sound matched come.1 e element inside) fails),
    come_later sound come.3 comings rest come.5,
    λ e element inside. let here = come.6 e element (earlier_in graph later is sound come.3 (first_below come.3 comings come.5) e element inside) in
        (later_in graph later is sound matched come.1 e element here.0, here.1),
  )
    where
      first_below : (next : NodeId) (comings : List Coming) → Come graph scope next comings rest → next.0 < length graph
      first_below next [] more = more.0
      first_below next (one ∷ others) more = more.1

module _ (graph : Graph) (scope : Scope) where
  pub first_node : (matched : NodeId) (comings : List Coming) (rest : NodeId) → Come graph scope matched comings rest
      → matched.0 < length graph
  first_node matched [] rest come = come.0
  first_node matched (coming ∷ comings) rest come = come.1

  pub last_node : (matched : NodeId) (comings : List Coming) (rest : NodeId) → Come graph scope matched comings rest
      → rest.0 < length graph
  last_node matched [] rest come = subst (λ (id : NodeId). id.0 < length graph) (sym come.1) come.0
  last_node matched (coming ∷ comings) rest come = last_node come.3 comings rest come.5

  -- branches cover where nothing is left
  pub they_cover : (branches : Branches) (matched : NodeId) (comings : List Coming) (rest : NodeId)
      → map coming_pattern comings ≡ patterns branches → Come graph scope matched comings rest
      → ((e : Thing) → IsElement e → elements_of graph rest e → ⊥) → Cover scope branches (elements_of graph matched)
  they_cover NoBranch matched [] rest same come none = λ e element inside.
      none e element (subst (λ (id : NodeId). elements_of graph id e) (sym come.1) inside)
  they_cover NoBranch matched (coming ∷ comings) rest same come none = absurd (no_patterns coming comings same)
    where
      no_patterns : (coming : Coming) (comings : List Coming) → map coming_pattern (coming ∷ comings) ≡ [] → ⊥
      no_patterns coming comings never = subst (λ (all : List Tree). IsSome all) never tt
  they_cover (ABranch pattern body more) matched [] rest same come none = absurd (subst (λ (all : List Tree). IsSome all) (sym same) tt)
  they_cover (ABranch pattern body more) matched (coming ∷ comings) rest same come none = λ e element inside.
      by e element inside (they_cover more come.3 comings rest (rest_same same) come.5 none)
      (subst (λ (one : Tree). Decides scope one) (head_same same) (site_decides graph scope (coming_pattern coming) coming.sited.now.site come.2.site) e element)
    where
      by : (e : Thing) → IsElement e → elements_of graph matched e → Cover scope more (elements_of graph come.3)
          → ((captures : Captures Name) × WrittenTakes scope pattern e (Some captures)) ⊎ WrittenTakes scope pattern e None
          → IsTaken scope (ABranch pattern body more) e
      by e element inside further (inl takes) = inl takes
      by e element inside further (inr fails) = inr (further e element
          (come.4 e element inside (subst (λ (one : Tree). WrittenTakes scope one e None) (sym (head_same same)) fails)))

module _ (graph : Graph) (scope : Scope) where
  -- what a pattern leaves it does not take
  pub left_untaken : (pattern : Tree) (site : Site) → IsSite graph scope pattern site → (e : Thing) → IsElement e
      → WrittenTakes scope pattern e None → (captures : Captures Name) → WrittenTakes scope pattern e (Some captures) → ⊥
  left_untaken pattern site is e element fails captures takes =
      subst IsNone (takes_once graph scope pattern site is e None (Some captures) element fails takes) tt

  -- what is left is of what is matched, and no branch takes it
  pub none_takes : (branches : Branches) (matched : NodeId) (comings : List Coming) (rest : NodeId)
      → map coming_pattern comings ≡ patterns branches → Come graph scope matched comings rest
      → (e : Thing) → IsElement e → elements_of graph rest e → elements_of graph matched e × (IsTaken scope branches e → ⊥)
  none_takes NoBranch matched [] rest same come e element inside =
      (subst (λ (id : NodeId). elements_of graph id e) come.1 inside, λ none. none)
  none_takes NoBranch matched (coming ∷ comings) rest same come e element inside = absurd (subst (λ (all : List Tree). IsSome all) same tt)
  none_takes (ABranch pattern body more) matched [] rest same come e element inside =
      absurd (subst (λ (all : List Tree). IsSome all) (sym same) tt)
  none_takes (ABranch pattern body more) matched (coming ∷ comings) rest same come e element inside =
      let further = none_takes more come.3 comings rest (rest_same same) come.5 e element inside in
      let here = come.6 e element further.0 in (here.0, by here.1 further.1)
    where
      by : WrittenTakes scope (coming_pattern coming) e None → (IsTaken scope more e → ⊥) → IsTaken scope (ABranch pattern body more) e → ⊥
      by fails none (inl takes) = left_untaken (coming_pattern coming) coming.sited.now.site come.2.site e element fails takes.0
          (subst (λ (one : Tree). WrittenTakes scope one e (Some takes.0)) (sym (head_same same)) takes.1)
      by fails none (inr others) = none others

-- the same of what was matched in an older graph
pub none_takes_earlier : (old graph : Graph) → IsLater old graph → IsGraph old → (matched : NodeId) → matched.0 < length old → (scope : Scope)
    (branches : Branches) (at : NodeId) → at ≡ matched → (comings : List Coming) (rest : NodeId)
    → map coming_pattern comings ≡ patterns branches → Come graph scope at comings rest
    → (e : Thing) → IsElement e → elements_of graph rest e → elements_of old matched e × (IsTaken scope branches e → ⊥)
none_takes_earlier old graph is sound matched below scope branches at is_matched comings rest same come e element inside =
    let left = none_takes graph scope branches at comings rest same come e element inside in
    (earlier_in old graph is sound matched below e element (subst (λ (id : NodeId). elements_of graph id e) is_matched left.0), left.1)

-- and of one pattern
pub one_untaken : (graph later : Graph) → IsLater graph later → IsGraph graph → (scope : Scope) (pattern : Tree) (site : Site)
    → IsSite graph scope pattern site → (matched : NodeId) → matched.0 < length graph → (left : NodeId)
    → elements_of later left ⊆ left_of scope pattern (elements_of graph matched) → (body : Expr)
    → (e : Thing) → IsElement e → elements_of later left e → elements_of later matched e × (IsTaken scope (ABranch pattern body NoBranch) e → ⊥)
one_untaken graph later is sound scope pattern site is_site matched below left only body e element inside =
    let here = only e element inside in (later_in graph later is sound matched below e element here.0, by here.1)
  where
    by : WrittenTakes scope pattern e None → IsTaken scope (ABranch pattern body NoBranch) e → ⊥
    by fails (inl takes) = left_untaken graph scope pattern site is_site e element fails takes.0 takes.1
    by fails (inr none) = none

-- these come to the first patterns, and this is left for more
abbrev pub ComeFurther : Graph → Scope → (matched : NodeId) → List Coming → (left : NodeId) → Type 0
ComeFurther graph scope matched done left = (later : Graph) → IsLater graph later → (more : List Coming) (rest : NodeId)
    → Come later scope left more rest → Come later scope matched (done ++ more) rest

pub none_yet : (graph : Graph) (scope : Scope) (matched : NodeId) → ComeFurther graph scope matched [] matched
none_yet graph scope matched later is more rest come = come

-- one pattern more, which leaves this in a longer graph
pub one_comes : (graph new : Graph) → IsLater graph new → IsGraph graph → (scope : Scope) (matched left next : NodeId) (done : List Coming)
    → left.0 < length graph → (sited : Sited) (coming : Coming) → coming.sited.now ≡ sited → coming.matched ≡ left
    → IsSited graph scope sited → next.0 < length new
    → left_of scope (sited_pattern sited) (elements_of graph left) ⊆ elements_of new next
    → elements_of new next ⊆ left_of scope (sited_pattern sited) (elements_of graph left)
    → ComeFurther graph scope matched done left → ComeFurther new scope matched (done ++ coming ∷ []) next
one_comes graph new is sound scope matched left next done below sited coming same at site next_below all_left no_more before =
    λ later further more rest come. subst (λ comings. Come later scope matched comings rest) (sym (append_assoc done (coming ∷ []) more))
    (before later (later_still graph new later is further) (coming ∷ more) rest (
      at,
      below_later graph later (later_still graph new later is further) left below,
      subst (IsSited later scope) (sym same) (sited_later graph later (later_still graph new later is further) scope sited site),
      next,
      λ e element inside fails. later_in new later further is.sound next next_below e element (all_left e element (
        earlier_in graph later (later_still graph new later is further) sound left below e element inside,
        subst (λ one. WrittenTakes scope (sited_pattern one) e None) same fails,
      )),
      come,
      λ e element inside. let here = no_more e element (earlier_in new later further is.sound next next_below e element inside) in (
        later_in graph later (later_still graph new later is further) sound left below e element here.0,
        subst (λ one. WrittenTakes scope (sited_pattern one) e None) (sym same) here.1,
      ),
    ))
