-- A function into the integers and into the characters has no result.
use Rattle.std.proofs.Common.{true, pos, ◌⊎◌, inl, inr}
use Rattle.cd_model.specs.Thing.{Thing, Integer, Character, Atom, Pair, Xml, Record, Function, Closure}
use Rattle.cd_model.specs.Thing.{Pairs, NoPair, Maps, Fails}
use Rattle.cd_model.specs.Examples.{graph, ZERO, EMPTY, ANY, INT, CHAR}
use Rattle.cd_model.specs.Formula.{nodes, in_node}
use Rattle.cd_model.specs.Types.{element_maps}

no_integer_and_character : (is : Thing) → in_node graph is INT true → in_node graph is CHAR true
    → in_node graph is EMPTY true
no_integer_and_character (Integer n) integer character = absurd cc
no_integer_and_character (Character c) integer character = absurd cc
no_integer_and_character (Atom name) integer character = absurd cc
no_integer_and_character (Pair first second) integer character = absurd cc
no_integer_and_character (Xml tag attributes content) integer character = absurd cc
no_integer_and_character (Record fields) integer character = absurd cc
no_integer_and_character (Function pairs) integer character = absurd cc
no_integer_and_character (Closure function environment) integer character = absurd cc

-- the argument is outside, or the result in two nodes at once
argument_or_both : {outside one other both : Type 0} → (one → other → both)
    → outside ⊎ one → outside ⊎ other → outside ⊎ both
argument_or_both makes (inl out) second = inl out
argument_or_both makes (inr is) (inl out) = inl out
argument_or_both makes (inr is) (inr other) = inr (makes is other)

pub both_are_nowhere : (pairs : Pairs) → element_maps (nodes graph) pairs ZERO INT true → element_maps (nodes graph) pairs ZERO CHAR true
    → element_maps (nodes graph) pairs ZERO EMPTY true
both_are_nowhere NoPair integer character = integer
both_are_nowhere (Maps from to rest) integer character = (
  argument_or_both (no_integer_and_character to) integer.0 character.0,
  both_are_nowhere rest integer.1 character.1,
)
both_are_nowhere (Fails from rest) integer character = (integer.0, both_are_nowhere rest integer.1 character.1)

-- `fun{0 => ?}` does not map `0` anywhere
pub fails_outside : element_maps (nodes graph) (Fails (Integer (pos 0)) NoPair) ZERO ANY true → ⊥
fails_outside maps = absurd cc
