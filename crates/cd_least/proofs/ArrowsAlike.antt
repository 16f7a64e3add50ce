-- Arrows that stand for the same written ones are alike, and so are their intersections.
use Rattle.std.proofs.Common.{true, List, [], ◌∷◌, subst}
use Rattle.cd_syntax.specs.TypeTree.{Tree}
use Rattle.cd_model.specs.AllOf.{AllOf}
use Rattle.cd_model.specs.Scope.{Scope}
use Rattle.cd_model.specs.Thing.{IsElement, Pairs, ArePairs}
use Rattle.cd_program.specs.Expr.{Signature}
use Rattle.cd_meaning.specs.Sets.{◌⊆◌}
use Rattle.cd_meaning.specs.Functions.{MapsInto}
use Rattle.cd_meaning.proofs.FunctionsMapping.{maps_same}
use Rattle.cd_typing.specs.Typ.{Typ, In}
use Rattle.cd_typing.specs.Interfaces.{Arrow, IsWritten, AreWritten, IsIntersection}

module _ (scope : Scope) where
  -- two types of one written type hold the same elements
  pub written_within : (written : Tree) (t s : Typ) → IsWritten scope written t → IsWritten scope written s → In t ⊆ In s
  written_within written t s one other d element inside = (other.1.elements d true element).1 ((one.1.elements d true element).0 inside)

  arrows_within : (signatures : List Signature) (arrows others : List Arrow) → AreWritten scope signatures arrows
      → AreWritten scope signatures others → (pairs : Pairs) → ArePairs pairs
      → AllOf (λ arrow. MapsInto pairs (In arrow.argument) (In arrow.result)) arrows
      → AllOf (λ arrow. MapsInto pairs (In arrow.argument) (In arrow.result)) others
  arrows_within [] [] [] one other pairs are all = tt
  arrows_within [] [] (last ∷ others) one other pairs are all = absurd other
  arrows_within [] (first ∷ arrows) others one other pairs are all = absurd one
  arrows_within (signature ∷ signatures) [] others one other pairs are all = absurd one
  arrows_within (signature ∷ signatures) (first ∷ arrows) [] one other pairs are all = absurd other
  arrows_within (signature ∷ signatures) (first ∷ arrows) (last ∷ others) one other pairs are all = (
    maps_same pairs are (In first.argument) (In last.argument) (In first.result) (In last.result)
        (written_within signature.takes last.argument first.argument other.0 one.0)
        (written_within signature.gives first.result last.result one.1 other.1) all.0,
    arrows_within signatures arrows others one.2 other.2 pairs are all.1,
  )

  -- and so do their intersections
  pub intersection_within : (signatures : List Signature) (arrows others : List Arrow) → AreWritten scope signatures arrows
      → AreWritten scope signatures others → (t s : Typ) → IsIntersection arrows t → IsIntersection others s → In t ⊆ In s
  intersection_within signatures arrows others one other t s is such d element inside =
      let all = is.within d element inside in
      such.whole d element
      (all.0, all.1, arrows_within signatures arrows others one other all.0 (subst IsElement all.1 element) all.2)
