-- A loop over the bodies of branches, with what comes to each of them.
use Rattle.std.proofs.Common.{◌≡◌, ◌<◌, ◌≤◌, ◌+◌, ℕ, Bor, sym, subst, ap, ◌∙◌, List, [], ◌∷◌, ◌++◌, length, map, drop, get_or, Option, Some, None}
use Rattle.std.specs.Slice.{IsItemAt}
use Rattle.std.proofs.lemmas.List.{drop_all}
use Rattle.cd_sets.specs.declared.node_id.NodeId.{NodeId}
use Rattle.cd_syntax.specs.TypeTree.{Tree}
use Rattle.cd_model.specs.Formula.{Graph}
use Rattle.cd_model.specs.Thing.{Thing}
use Rattle.cd_program.specs.Expr.{Branches, ABranch, branches_of}
use Rattle.cd_program.specs.PlainExpr.{plain_branch}
use Rattle.cd_program.specs.declared.expr.Branch.{Branch as CodeBranch}
use Rattle.cd_meaning.specs.Sets.{elements_of}
use Rattle.cd_empty.specs.Seen.{Seen, graph_of}
use Rattle.cd_names.specs.ProgramFaults.{names_of, patterns}
use Rattle.cd_typing.specs.Typ.{typ}
use Rattle.cd_check.specs.declared.base.Base.{Base}
use Rattle.cd_check.specs.declared.bodies.Limit.{Limit}
use Rattle.cd_check.specs.declared.sites.Coming.{Coming}
use Rattle.cd_check.specs.declared.sites.Division.{Division}
use Rattle.cd_check.specs.Inner.Bodies.{Leaves, LeavesNoMore, BodyGives, BodiesGoOn}
use Rattle.cd_check.specs.Inner.BodyFaults.{BodyLeast, BodiesLeast}
use Rattle.cd_check.specs.Inner.Failing.{BodyFails, BranchesFail}
use Rattle.cd_check.specs.declared.fault.CheckError.{CheckError}
use Rattle.cd_check.specs.Inner.Divided.{IsSited, IsDivision, Come, coming_pattern}
use Rattle.cd_check.specs.Inner.Environment.{Nodes}
use Rattle.cd_check.specs.Inner.Giving.{BodiesGive}
use Rattle.cd_check.specs.Inner.GoingOn.{listed}
use Rattle.cd_check.specs.Inner.Limits.{IsLimit, AreWithin, IsOneWithin}
use Rattle.cd_check.specs.Inner.Ready.{IsReady, IsAfter, program_of, names_seen, scope_of, seen_by}
use Rattle.cd_check.specs.Inner.SoundNames.{IsSound, BranchesAreSound}
use Rattle.cd_check.proofs.After.{after_none, after_both}
use Rattle.cd_check.proofs.BodiesChecked.{limit_later, within_later, one_more_within, none_within}
use Rattle.cd_check.proofs.BodiesKnown.{BodiesKnown, none_known, all_known, one_known, one_fails}
use Rattle.cd_check.proofs.BodiesLooped.{one_body}
use Rattle.cd_check.proofs.BodiesTyped.{bodies_start, bodies_end}
use Rattle.cd_check.proofs.Divided.{come_later, first_node, head_same, rest_same}
use Rattle.cd_check.proofs.Loops.{left_is}
use Rattle.cd_check.proofs.SoundAt.{body_at}

-- the bodies of so many branches are checked, and the rest comes to those that are left
pub record Done (base : Base) (locals : Nodes) (start : Seen) (division : Division) (branches : Branches) (items : List CodeBranch)
    (limit : Option Limit) (world : Seen) (number : ℕ) (results : List NodeId) : Type 0 where
  pub after : IsAfter base locals start world
  pub next : NodeId
  pub comes : Come (graph_of world) (scope_of base) next (drop number division.comings.items) division.rest
  pub same : map coming_pattern (drop number division.comings.items) ≡ patterns (branches_of (map plain_branch (drop number items)))
  pub goes : BodiesGoOn (scope_of base) (graph_of start) (seen_by base locals) (typ (graph_of start) division.matched) (graph_of world) branches
      (branches_of (map plain_branch (drop number items))) (typ (graph_of world) next) results
  pub within : AreWithin (graph_of world) limit results
  pub known : BodiesKnown (scope_of base) (graph_of start) (seen_by base locals) (elements_of (graph_of start) division.matched) limit (graph_of world) branches
      (branches_of (map plain_branch (drop number items))) (elements_of (graph_of world) next) results

abbrev IsSome : List Tree → Type 0
IsSome [] = ⊥
IsSome (one ∷ rest) = Unit {0}

-- what a look at a place says
pub there : (comings : List Coming) (number : ℕ) (found : Option (Bor Coming)) (one : Bor Coming) → IsItemAt comings number found
    → found ≡ Some one → (one.now ≡ get_or comings number one.now) × (number < length comings)
there comings number found one at is = let here = subst (λ (some : Option (Bor Coming)). IsItemAt comings number some) is at in
    (here.1, here.3.0)

pub past : (comings : List Coming) (number : ℕ) (found : Option (Bor Coming)) → IsItemAt comings number found
    → found ≡ None → length comings ≤ number
past comings number found at is = (subst (λ (some : Option (Bor Coming)). IsItemAt comings number some) is at).3

module _ (base : Base) (locals : Nodes) (start : Seen) (ready : IsReady base (graph_of start) locals) (division : Division) (branches : Branches)
    (items : List CodeBranch) (limit : Option Limit) where
  abbrev old : Graph
  old = graph_of start

  pub none_done : branches_of (map plain_branch items) ≡ branches → IsDivision old (scope_of base) division
      → map coming_pattern division.comings.items ≡ patterns branches → Done base locals start division branches items limit start 0 []
  none_done are is same = record {
    after = after_none base locals start ready;
    next = division.matched;
    comes = is;
    same = same ∙ ap patterns (sym are);
    goes = subst (λ left. BodiesGoOn (scope_of base) old (seen_by base locals) (typ old division.matched) old branches left
        (typ old division.matched) []) (sym are)
        (bodies_start (scope_of base) old ready.sound (seen_by base locals) ready.nodes (typ old division.matched) division.matched branches);
    within = none_within old limit;
    known = subst (λ left. BodiesKnown (scope_of base) old (seen_by base locals) (elements_of old division.matched) limit old branches left
        (elements_of old division.matched) []) (sym are)
        (none_known (scope_of base) old (seen_by base locals) (elements_of old division.matched) limit branches);
  }

  pub all_done : (world : Seen) (number : ℕ) (results : List NodeId)
      → Done base locals start division branches items limit world number results → length items ≤ number
      → BodiesGive base old locals (graph_of world) branches division.matched results
  all_done world number results done over = record {
    are_nodes = done.goes.are_nodes;
    have_types = bodies_end (scope_of base) old ready.sound (seen_by base locals) ready.nodes (typ old division.matched) (graph_of world)
        done.after.ready.sound branches (typ (graph_of world) done.next) results
        (subst (λ left. BodiesGoOn (scope_of base) old (seen_by base locals) (typ old division.matched) (graph_of world) branches
        (branches_of (map plain_branch left)) (typ (graph_of world) done.next) results) (drop_all number items over) done.goes);
  }

  pub all_done_least : (world : Seen) (number : ℕ) (results : List NodeId)
      → Done base locals start division branches items limit world number results → length items ≤ number
      → BodiesLeast (scope_of base) old (seen_by base locals) (graph_of world) branches (elements_of old division.matched) results
  all_done_least world number results done over = all_known (scope_of base) old (seen_by base locals) (elements_of old division.matched) limit (graph_of world)
      done.after.ready.sound branches (elements_of (graph_of world) done.next) results
      (subst (λ left. BodiesKnown (scope_of base) old (seen_by base locals) (elements_of old division.matched) limit (graph_of world) branches
      (branches_of (map plain_branch left)) (elements_of (graph_of world) done.next) results) (drop_all number items over) done.known)

  module _ (world : Seen) (number : ℕ) (results : List NodeId)
      (done : Done base locals start division branches items limit world number results) (item : CodeBranch)
      (at : item ≡ get_or items number item) (below : number < length items) where
    abbrev graph : Graph
    graph = graph_of world

    abbrev rest : Branches
    rest = branches_of (map plain_branch (drop (number + 1) items))

    same_left : map coming_pattern (drop number division.comings.items) ≡ (plain_branch item).pattern ∷ patterns rest
    same_left = done.same ∙ ap (λ left. patterns (branches_of (map plain_branch left))) (left_is items number item at below)

    pub something_comes : length division.comings.items ≤ number → ⊥
    something_comes over = subst (λ (all : List Tree). IsSome all)
        (sym same_left ∙ ap (map coming_pattern) (drop_all number division.comings.items over)) tt

    module _ (coming : Coming) (is : coming ≡ get_or division.comings.items number coming)
        (within : number < length division.comings.items) where
      abbrev left : List Coming
      left = drop (number + 1) division.comings.items

      first : drop number division.comings.items ≡ coming ∷ left
      first = left_is division.comings.items number coming is within

      here : Come graph (scope_of base) done.next (coming ∷ left) division.rest
      here = subst (λ all. Come graph (scope_of base) done.next all division.rest) first done.comes

      same_all : map coming_pattern (coming ∷ left) ≡ (plain_branch item).pattern ∷ patterns rest
      same_all = ap (map coming_pattern) (sym first) ∙ same_left

      same_here : coming_pattern coming ≡ (plain_branch item).pattern
      same_here = head_same same_all

      known_here : BodiesKnown (scope_of base) old (seen_by base locals) (elements_of old division.matched) limit graph branches
          (ABranch (plain_branch item).pattern (plain_branch item).body rest) (elements_of graph done.next) results
      known_here = subst (λ more. BodiesKnown (scope_of base) old (seen_by base locals) (elements_of old division.matched) limit graph branches
          (branches_of (map plain_branch more)) (elements_of graph done.next) results) (left_is items number item at below) done.known

      pub is_sited : IsSited graph (scope_of base) coming.sited.now
      is_sited = here.2

      pub matched_below : coming.matched.0 < length graph
      matched_below = subst (λ (id : NodeId). id.0 < length graph) (sym here.0) here.1

      pub is_sound : branches_of (map plain_branch items) ≡ branches → BranchesAreSound (program_of base) (names_seen base locals) branches
          → IsSound (program_of base) (names_of (coming_pattern coming) ++ names_seen base locals) (plain_branch item).body
      is_sound are sound = subst (λ (pattern : Tree). IsSound (program_of base) (names_of pattern ++ names_seen base locals)
          (plain_branch item).body) (sym same_here)
          (body_at (program_of base) (names_seen base locals) items number item at below
          (subst (λ all. BranchesAreSound (program_of base) (names_seen base locals) all) (sym are) sound))

      pub one_done : IsLimit old limit → (further : Seen) (found : Option NodeId) → IsAfter base locals world further
          → BodyGives (scope_of base) graph (seen_by base locals) (graph_of further) (elements_of graph coming.matched) (coming_pattern coming)
          (plain_branch item).body found → IsOneWithin (graph_of further) limit found
          → BodyLeast (scope_of base) graph (seen_by base locals) (graph_of further) (elements_of graph coming.matched) (coming_pattern coming)
          (plain_branch item).body found
          → Done base locals start division branches items limit further (number + 1) (results ++ listed found)
      one_done is_limit further found after gives fits least = record {
        after = after_both base locals start world further done.after after;
        next = here.3;
        comes = come_later graph (graph_of further) after.later (scope_of base) done.after.ready.sound here.3 left division.rest here.5;
        same = rest_same same_all;
        goes = one_body (scope_of base) old ready.sound (seen_by base locals) ready.nodes (typ old division.matched) graph (graph_of further)
            done.after.later after.later branches items number item at below done.next here.3
            (first_node graph (scope_of base) here.3 left division.rest here.5) results found done.goes
            (subst (λ (id : NodeId). BodyGives (scope_of base) graph (seen_by base locals) (graph_of further) (elements_of graph id)
            (plain_branch item).pattern (plain_branch item).body found) here.0
            (subst (λ (pattern : Tree). BodyGives (scope_of base) graph (seen_by base locals) (graph_of further) (elements_of graph coming.matched)
            pattern (plain_branch item).body found) same_here gives))
            (subst (λ (pattern : Tree). Leaves (scope_of base) pattern (elements_of graph done.next) (elements_of graph here.3)) same_here here.4);
        within = one_more_within (graph_of further) limit results found
            (within_later graph (graph_of further) after.later done.after.ready.sound limit (limit_later old graph done.after.later limit is_limit) results
            done.goes.are_nodes done.within) fits;
        known = one_known (scope_of base) old (seen_by base locals) (elements_of old division.matched) limit ready.sound ready.nodes graph
            done.after.later branches (plain_branch item).pattern (plain_branch item).body rest (elements_of graph done.next) results known_here (graph_of further)
            after.later here.3 (first_node graph (scope_of base) here.3 left division.rest here.5)
            (subst (λ (pattern : Tree). Leaves (scope_of base) pattern (elements_of graph done.next) (elements_of graph here.3)) same_here here.4)
            (subst (λ (pattern : Tree). LeavesNoMore (scope_of base) pattern (elements_of graph done.next) (elements_of graph here.3)) same_here
            here.6)
            found
            (subst (λ (id : NodeId). BodyLeast (scope_of base) graph (seen_by base locals) (graph_of further) (elements_of graph id) (plain_branch item).pattern
            (plain_branch item).body found) here.0
            (subst (λ (pattern : Tree). BodyLeast (scope_of base) graph (seen_by base locals) (graph_of further) (elements_of graph coming.matched) pattern
            (plain_branch item).body found) same_here least));
      }

      -- a fault of this body is one of all
      pub one_failed : IsLimit old limit → (table : List Thing) (error : CheckError)
          → BodyFails base graph locals table coming.matched limit (coming_pattern coming) (plain_branch item).body error
          → BranchesFail base old locals table division.matched limit branches error
      one_failed is_limit table error fails = one_fails (scope_of base) old (seen_by base locals) (elements_of old division.matched) limit ready.sound
          ready.nodes graph done.after.later branches (plain_branch item).pattern (plain_branch item).body rest (elements_of graph done.next) results
          known_here is_limit table error
          (subst (λ (id : NodeId). BodyFails base graph locals table id limit (plain_branch item).pattern (plain_branch item).body error) here.0
          (subst (λ (pattern : Tree). BodyFails base graph locals table coming.matched limit pattern (plain_branch item).body error) same_here fails))
