-- Where a pattern has no fault of its variables, its parts have none.
use Rattle.std.proofs.Common.{◌≡◌, Bool, true, false, List, ◌∷◌, inl, inr, refl, sym}
use Rattle.std.proofs.Common.{if◌then◌else◌}
use Rattle.std.proofs.lemmas.Bool.{true≢false}
use Rattle.cd_syntax.specs.TypeTree.{Tree, tree, Kind, Item, Regular, regular, RegularKind}
use Rattle.cd_syntax.specs.TypeTree.{Sequence}
use Rattle.cd_syntax.specs.declared.tokens.Span.{Span}
use Rattle.cd_model.proofs.Ones.{one_on_left, one_on_right}
use Rattle.cd_resolve.specs.Faults.{Fault}
use Rattle.cd_variables.specs.Occurrences.{Occurrence, variables}
use Rattle.cd_variables.specs.VariableFaults.{IsAmong, IsOneIn, binding_parts, alternatives}
use Rattle.cd_variables.specs.VariableFaults.{parts_without, regular_parts, misplaced}
use Rattle.cd_variables.specs.VariableFaults.{IsVariableFault, IsRegularFault, out_of_place, in_part}
use Rattle.cd_variables.specs.VariableFaults.{in_sequence, in_item, in_regular}

abbrev pub IsSound : Tree → Type 0
IsSound t = (fault : Fault) → IsVariableFault t fault → ⊥

abbrev pub IsSoundRegular : Regular → Type 0
IsSoundRegular r = (fault : Fault) → IsRegularFault r fault → ⊥

abbrev pub AreSound : List Tree → Type 0
AreSound trees = (t : Tree) → IsOneIn t trees → IsSound t

abbrev pub AreSoundRegulars : List Regular → Type 0
AreSoundRegulars all = (r : Regular) → IsOneIn r all → IsSoundRegular r

-- no variable stands in a tree
abbrev pub IsBare : Tree → Type 0
IsBare t = (o : Occurrence) → IsAmong o (variables t) → ⊥

abbrev pub AreBare : List Tree → Type 0
AreBare trees = (t : Tree) → IsOneIn t trees → IsBare t

-- one of a list that begins with something, or does not
pub one_unless : {X : Type 0} (b : Bool) (x : X) (xs : List X) → b ≡ false
    → IsOneIn x (if b then xs else x ∷ xs)
one_unless true x xs h = absurd (true≢false h)
one_unless false x xs h = inl refl

pub rest_unless : {X : Type 0} (b : Bool) (x y : X) (xs : List X) → IsOneIn y xs
    → IsOneIn y (if b then xs else x ∷ xs)
rest_unless true x y xs h = h
rest_unless false x y xs h = inr h

pub one_if : {X : Type 0} (b : Bool) (x : X) (xs : List X) → b ≡ true
    → IsOneIn x (if b then x ∷ xs else xs)
one_if true x xs h = inl refl
one_if false x xs h = absurd (true≢false (sym h))

pub rest_if : {X : Type 0} (b : Bool) (x y : X) (xs : List X) → IsOneIn y xs
    → IsOneIn y (if b then x ∷ xs else xs)
rest_if true x y xs h = inr h
rest_if false x y xs h = h

module _ (span : Span) (kind : Kind) (sound : IsSound (tree span kind)) where
  pub parts_are_sound : AreSound (binding_parts kind)
  parts_are_sound t among fault is = sound fault (in_part span kind t fault
      (one_on_left (λ other. other ≡ t) (binding_parts kind) (alternatives kind) among) is)

  pub alternatives_are_sound : AreSound (alternatives kind)
  alternatives_are_sound t among fault is = sound fault (in_part span kind t fault
      (one_on_right (λ other. other ≡ t) (binding_parts kind) (alternatives kind) among) is)

  pub others_are_bare : AreBare (parts_without kind)
  others_are_bare t among o is = sound (misplaced o) (out_of_place span kind t o among is)

pub sequence_is_sound : (span : Span) (r : Regular) → IsSound (tree span (Sequence r))
    → IsSoundRegular r
sequence_is_sound span r sound fault is = sound fault (in_sequence span r fault is)

pub item_is_sound : (span : Span) (t : Tree) → IsSoundRegular (regular span (Item t)) → IsSound t
item_is_sound span t sound fault is = sound fault (in_item span t fault is)

pub regulars_are_sound : (span : Span) (kind : RegularKind) → IsSoundRegular (regular span kind)
    → AreSoundRegulars (regular_parts kind)
regulars_are_sound span kind sound r among fault is =
    sound fault (in_regular span kind r fault among is)
