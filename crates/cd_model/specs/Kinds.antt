-- What things are, in the words that say what the built-in types hold.
use Rattle.std.specs.Prelude.{◌≡◌, ◌<◌, ◌⊎◌, codes, None}
use Rattle.cd_syntax.specs.Integer.{IsInteger}
use Rattle.std.specs.Char.{IsScalar}
use Rattle.cd_syntax.specs.Name.{IsLabel}
use Rattle.cd_model.specs.Thing.{Thing, Integer, Character, Atom, Pair, Xml, Record, Function}
use Rattle.cd_model.specs.Thing.{Closure, Fields, NoField, Field, Pairs, NoPair, Maps, Fails}
use Rattle.cd_model.specs.Thing.{IsAtom, IsRecord, LabelsRise}

pub data Kind : Type 0 where
  AnInteger : Kind
  ACharacter : Kind
  AnAtom : Kind
  APair : Kind
  AnXml : Kind
  ARecord : Kind
  AFunction : Kind

abbrev pub kind_of : Thing → Kind
kind_of (Integer n) = AnInteger
kind_of (Character c) = ACharacter
kind_of (Atom name) = AnAtom
kind_of (Pair first second) = APair
kind_of (Xml tag attributes content) = AnXml
kind_of (Record fields) = ARecord
kind_of (Function pairs) = AFunction
kind_of (Closure function environment) = AFunction

-- a character below 256
abbrev pub IsByte : Thing → Type 0
IsByte (Character c) = c < 256
IsByte _ = ⊥

-- a truth value
abbrev pub IsBool : Thing → Type 0
IsBool (Atom name) = (name ≡ codes "false") ⊎ (name ≡ codes "true")
IsBool _ = ⊥

-- the empty sequence
abbrev pub IsNil : Thing → Type 0
IsNil (Atom name) = name ≡ codes "nil"
IsNil _ = ⊥

-- a sequence of characters
abbrev pub IsString : Thing → Type 0
IsString (Pair first second) = (kind_of first ≡ ACharacter) × IsString second
IsString is = IsNil is

-- a thing that is sound, whatever its closures are, as elements and values are
abbrev mutual
  pub IsSound : Thing → Type 0
  IsSound (Integer n) = IsInteger n
  IsSound (Character c) = IsScalar c
  IsSound (Atom name) = IsLabel name
  IsSound (Pair first second) = IsSound first × IsSound second
  IsSound (Xml tag attributes content) =
      IsAtom tag × IsRecord attributes × IsSound tag × IsSound attributes × IsSound content
  IsSound (Record fields) = LabelsRise None fields × AreSound fields
  IsSound (Function pairs) = ArePairsSound pairs
  IsSound (Closure function environment) = Unit {0}

  pub AreSound : Fields → Type 0
  AreSound NoField = Unit {0}
  AreSound (Field label value rest) = IsSound value × AreSound rest

  pub ArePairsSound : Pairs → Type 0
  ArePairsSound NoPair = Unit {0}
  ArePairsSound (Maps argument result rest) =
      IsSound argument × IsSound result × ArePairsSound rest
  ArePairsSound (Fails argument rest) = IsSound argument × ArePairsSound rest
