-- Functions promise what the nodes of their interfaces say.
use Rattle.std.proofs.Common.{◌≡◌, ◌++◌, true, List, [], ◌∷◌, refl, sym, subst}
use Rattle.std.proofs.lemmas.Bool.{true≢false}
use Rattle.cd_sets.specs.declared.node_id.NodeId.{NodeId}
use Rattle.cd_model.specs.AllOf.{AllOf}
use Rattle.cd_model.specs.BuiltIns.{built_ins, EMPTY, ANY}
use Rattle.cd_model.specs.Formula.{Graph, Formula, IsGraph, in_node}
use Rattle.cd_model.specs.Membership.{holds, reader}
use Rattle.cd_model.specs.Scope.{Scope}
use Rattle.cd_model.specs.Thing.{Thing, Pairs}
use Rattle.cd_model.proofs.Ones.{each_weaker}
use Rattle.cd_program.specs.Expr.{Signature, FunctionTree, function}
use Rattle.cd_meaning.specs.Functions.{MapsInto}
use Rattle.cd_meaning.specs.Sets.{◌⊆◌, elements_of}
use Rattle.cd_names.specs.Arrows.{AreArrows}
use Rattle.cd_typing.specs.Interfaces.{AreWritten, AllArrows}
use Rattle.cd_forms.proofs.ArrowsHold.{interface_has, interface_only}
use Rattle.cd_evaluation.specs.ProgramInterfaces.{interface_of}
use Rattle.cd_meet.specs.Meets.{IsMeet}
use Rattle.cd_resolved.specs.Interfaces.{HasInterface}
use Rattle.cd_resolved.specs.Resolved.{HasNodes, function_of}
use Rattle.cd_resolved.specs.declared.function_nodes.FunctionNodes.{FunctionNodes}
use Rattle.cd_check.specs.Inner.Promises.{arrows_in, IsPromise, HasPromise, IsPromised}

module _ (scope : Scope) (graph more : Graph) (begins : graph ≡ built_ins ++ more) (sound : IsGraph graph) where
  -- the arrows that are written, where nodes stand for their types
  arrows_written : (interface : List Signature) (arrows : List (NodeId × NodeId)) → AreArrows scope graph interface arrows
      → AreWritten scope interface (arrows_in graph arrows)
  arrows_written [] [] stand = tt
  arrows_written [] (arrow ∷ arrows) stand = absurd stand
  arrows_written (one ∷ rest) [] stand = absurd stand
  arrows_written (one ∷ rest) (arrow ∷ arrows) stand = (
    (record { more = stand.0.begins.0; begins = stand.0.begins.1; sound = sound; is_node = stand.0.is_node }, stand.0),
    (record { more = stand.1.begins.0; begins = stand.1.begins.1; sound = sound; is_node = stand.1.is_node }, stand.1),
    arrows_written rest arrows stand.2,
  )

  -- each function leads from nothing to anything
  none_empty : (d : Thing) → in_node graph d EMPTY true → ⊥
  none_empty d inside = true≢false (subst (λ (g : Graph). in_node g d EMPTY true) begins inside)

  all_any : (d : Thing) → in_node graph d ANY true
  all_any d = subst (λ (g : Graph). in_node g d ANY true) (sym begins) refl

  leads_anywhere : (pairs : Pairs) → MapsInto pairs (elements_of graph EMPTY) (elements_of graph ANY)
  leads_anywhere pairs = record {
    total = λ from fails inside. none_empty from inside;
    into = λ from to has inside. all_any to;
  }

  -- the meet of these holds the functions that are in all of them
  module _ (arrows : List (NodeId × NodeId)) (whole : NodeId) (meet : IsMeet graph arrows whole) where
    within_arrows : elements_of graph whole ⊆ AllArrows (arrows_in graph arrows)
    within_arrows e element inside =
        let found = interface_only graph (EMPTY, ANY) arrows e
        (subst (λ (f : Formula). holds (reader graph e) f true) meet.formula inside) in (found.0, found.1, found.2.1)

    all_arrows : AllArrows (arrows_in graph arrows) ⊆ elements_of graph whole
    all_arrows e element all = subst (λ (f : Formula). holds (reader graph e) f true) (sym meet.formula)
        (interface_has graph ((EMPTY, ANY) ∷ arrows) e (all.0, all.1, (leads_anywhere all.0, all.2)))

  promise_made : (interface : List Signature) (arrows : List (NodeId × NodeId)) (whole : NodeId)
      → HasInterface scope graph interface arrows whole → IsPromise scope graph interface arrows whole
  promise_made interface arrows whole has = record {
    written = arrows_written interface arrows has.arrows_stand;
    is_whole = record {
      is_type = record { more = more; begins = begins; sound = sound; is_node = has.is_meet.is_node };
      within = within_arrows arrows whole has.is_meet;
      whole = all_arrows arrows whole has.is_meet;
    };
  }

  has_promise : (f : FunctionTree) (arrows : List (NodeId × NodeId)) (whole : NodeId)
      → HasInterface scope graph (interface_of f) arrows whole → HasPromise scope graph f arrows whole
  has_promise (function at name name_at interface branches) arrows whole has = promise_made interface arrows whole has

  pub nodes_promise : (all : List FunctionNodes) → AllOf (HasNodes scope graph) all → AllOf (IsPromised scope graph) all
  nodes_promise = each_weaker (HasNodes scope graph) (IsPromised scope graph)
      (λ one. has_promise (function_of one) one.arrows.items one.whole)
