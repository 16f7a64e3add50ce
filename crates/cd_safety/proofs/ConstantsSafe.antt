-- Constants are good and in the types that hold them; and a good value of a type is one of each type that holds its elements.
use Rattle.std.proofs.Common.{◌≡◌, ℕ, true, List, [], ◌∷◌, refl, codes}
use Rattle.std.specs.Char.{IsScalar}
use Rattle.cd_syntax.specs.declared.constant.Constant.{Constant}
use Rattle.cd_syntax.specs.declared.constant.Constant.TheVariants as constant
use Rattle.cd_model.specs.AllOf.{AllOf}
use Rattle.cd_model.specs.Formula.{Graph}
use Rattle.cd_model.specs.Interfaces.{Interfaces}
use Rattle.cd_model.specs.Thing.{Thing, Fields, IsElement}
use Rattle.cd_matching.specs.Sequences.{thing_of, text_of}
use Rattle.cd_meaning.specs.Sets.{◌⊆◌}
use Rattle.cd_typing.specs.Typ.{Typ, In, IsType}
use Rattle.cd_evaluation.specs.Runs.{Outcome, Done, Raised, Overflow, Spent, Stuck}
use Rattle.cd_safety.specs.ByParts.{IsByParts}
use Rattle.cd_safety.specs.Operands.{GoodIn}
use Rattle.cd_safety.specs.Sound.{IsGood, AreGood, IsFine}
use Rattle.cd_safety.specs.StandsIn as stand
use Rattle.cd_safety.specs.StandsIn.{StandsIn}
use Rattle.cd_safety.proofs.SequencesGood.{nil_of, text_good}
use Rattle.cd_safety.proofs.SequencesStandIn.{text_stands}
use Rattle.cd_safety.proofs.SortsByParts.{good_by_parts}
use Rattle.cd_safety.proofs.StandInsAgree.{agree}
use Rattle.cd_safety.proofs.ValuesWithin.{value_within}

characters_in : (text : List ℕ) → IsElement (text_of text) → AllOf IsScalar text
characters_in [] element = tt
characters_in (c ∷ text) element = (element.0, characters_in text element.1)

constant_good : (Of : Thing → Type 0) (OfFields : Fields → Type 0) → IsByParts Of OfFields → (is : Constant) → IsElement (thing_of is)
    → Of (thing_of is)
constant_good Of OfFields by_parts (constant.Int n) element = (by_parts.integer n).1 element
constant_good Of OfFields by_parts (constant.Char c) element = by_parts.character c element
constant_good Of OfFields by_parts (constant.Atom name) element = by_parts.atom name element
constant_good Of OfFields by_parts (constant.Text text) element = text_good Of OfFields by_parts text (characters_in text element)
constant_good Of OfFields by_parts constant.Nil element = nil_of Of OfFields by_parts

constant_stands : (graph : Graph) (interfaces : Interfaces) (is : Constant) → StandsIn graph interfaces (thing_of is) (thing_of is)
constant_stands graph interfaces (constant.Int n) = stand.integer n
constant_stands graph interfaces (constant.Char c) = stand.character c
constant_stands graph interfaces (constant.Atom name) = stand.atom name
constant_stands graph interfaces (constant.Text text) = text_stands graph interfaces text
constant_stands graph interfaces constant.Nil = stand.atom (codes "nil")

module _ (fact : ℕ → Fields → Type 0) (interfaces : Interfaces) where
  pub constant_in : (is : Constant) (t : Typ) → IsElement (thing_of is) → (λ d. d ≡ thing_of is) ⊆ In t
      → GoodIn fact interfaces t (thing_of is)
  constant_in is t element within = (
    constant_good (IsGood fact interfaces) (AreGood fact interfaces) (good_by_parts fact interfaces) is element,
    (agree t.graph interfaces (thing_of is) (thing_of is) (constant_stands t.graph interfaces is) t.id true).1
        (within (thing_of is) element refl),
  )

  -- subsumption, of values and of outcomes
  pub good_within : (s t : Typ) → IsType s → IsType t → In s ⊆ In t → (v : Thing) → GoodIn fact interfaces s v → GoodIn fact interfaces t v
  good_within s t s_is t_is within v good = (good.0, value_within interfaces v good.0.typed s t s_is t_is within good.1)

  pub fine_weaker : (one other : Thing → Type 0) → ((v : Thing) → IsGood fact interfaces v → one v → other v) → (outcome : Outcome)
      → IsFine fact interfaces one outcome → IsFine fact interfaces other outcome
  fine_weaker one other weaker (Done v) fine = (fine.0, weaker v fine.0 fine.1)
  fine_weaker one other weaker (Raised v) fine = fine
  fine_weaker one other weaker Overflow fine = tt
  fine_weaker one other weaker Spent fine = tt
  fine_weaker one other weaker Stuck fine = absurd fine
