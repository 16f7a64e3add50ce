-- The type of a query is well made, and no naming fault stands in it.
use Rattle.std.proofs.Common.{◌≡◌, refl, ℕ, ℤ, Option, subst}
use Rattle.cd_syntax.specs.declared.tokens.Span.{Span}
use Rattle.cd_syntax.specs.declared.type_tree.Post.{Post}
use Rattle.cd_syntax.specs.TypeTree.{Tree, tree, Ints, Sequence, regular, Item, Repeat, NoDeclaration}
use Rattle.cd_syntax.specs.WellMade.{IsWellMade}
use Rattle.cd_model.specs.Scope.{Scope}
use Rattle.cd_resolve.specs.Faults.{Fault, IsFault, in_part, in_sequence, IsItem, item, repeated, IsFaultOfType}
use Rattle.cd_running.specs.Inner.WorkQueries.{integers_up_to}

pub integers_are_well_made : (digits number : ℕ) → IsWellMade (integers_up_to digits number)
integers_are_well_made digits number = tt

module _ (outer scope : Scope) where
  -- nothing stands in an interval
  interval_sound : (span : Span) (low high : Option ℤ) (fault : Fault) → IsFault outer scope (tree span (Ints low high)) fault → ⊥
  interval_sound span low high _ (in_part _ _ inner _ _ part fault is_part is) = elim is_part [ ]

  -- the one item of a repeated expression
  only_item : (span inner : Span) (post : Post) (part is : Tree)
      → IsItem part (regular span (Repeat (regular inner (Item is)) post)) → part ≡ is
  only_item span inner post part _ (repeated _ _ _ _ (item _ _)) = refl

  repeated_sound : (place span inner : Span) (post : Post) (is : Tree) → ((fault : Fault) → IsFault outer scope is fault → ⊥)
      → (fault : Fault) → IsFault outer scope (tree place (Sequence (regular span (Repeat (regular inner (Item is)) post)))) fault → ⊥
  repeated_sound place span inner post is sound _ (in_part _ _ _ _ _ part fault (in_sequence _ _ _ among) faulty) =
      sound fault (subst (λ one. IsFault outer scope one fault) (only_item span inner post part is among) faulty)

pub no_fault : (digits number : ℕ) (fault : Fault) → IsFaultOfType NoDeclaration (integers_up_to digits number) fault → ⊥
no_fault digits number fault faulty =
    repeated_sound _ _ _ _ _ _ _ (interval_sound _ _ _ _ _) fault faulty
