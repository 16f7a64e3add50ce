-- The nodes for the sites of a program, as types that are kept for them.
use Rattle.std.proofs.Common.{◌≡◌, List, [], ◌∷◌, ◌++◌}
use Rattle.cd_sets.specs.declared.node_id.NodeId.{NodeId}
use Rattle.cd_model.specs.BuiltIns.{built_ins}
use Rattle.cd_model.specs.Formula.{Graph, IsGraph}
use Rattle.cd_model.specs.Scope.{Scope}
use Rattle.cd_program.specs.Expr.{Program}
use Rattle.cd_typing.specs.Kept.{Only}
use Rattle.cd_typing.specs.Sites.{Site, all_sites, AreMatched, kept_sites}
use Rattle.cd_typing.specs.Typed.{scope_of}
use Rattle.cd_typing.proofs.TypesKept.{typed_within}
use Rattle.cd_safety.specs.Accepted.{IsAccepted}
use Rattle.cd_safety.specs.ComesWithin.{KeepsTypes, StaysWithin}
use Rattle.cd_safety.proofs.ProgramSafe.{stays_within}

module _ (graph more : Graph) (begins : graph ≡ built_ins ++ more) (sound : IsGraph graph) where
  sites_are_types : (scope : Scope) (sites : List Site) (ids : List NodeId) → AreMatched scope graph sites ids
      → KeepsTypes (Only (kept_sites graph sites ids))
  sites_are_types scope [] ids matched = tt
  sites_are_types scope (one ∷ sites) [] matched = tt
  sites_are_types scope (one ∷ sites) (id ∷ ids) matched = (
    record { more = more; begins = begins; sound = sound; is_node = matched.0.node },
    sites_are_types scope sites ids matched.1,
  )

  pub stays_in_sites : (program : Program) (ids : List NodeId) → AreMatched (scope_of program) graph (all_sites program) ids
      → IsAccepted program → StaysWithin (Only (kept_sites graph (all_sites program) ids)) program
  stays_in_sites program ids matched accepted = stays_within (Only (kept_sites graph (all_sites program) ids)) program
      (sites_are_types (scope_of program) (all_sites program) ids matched) accepted
      (typed_within program graph ids matched accepted.typed)
