-- Things: the elements of the model of types, and the values of programs. All are finite.
--
-- An element holds no closure, a value no list of pairs, and data neither.
use Rattle.std.specs.Prelude.{ℕ, ℤ, Option, Some, None}
use Rattle.std.specs.Char.{IsScalar}
use Rattle.cd_syntax.specs.Name.{Name, IsLabel}
use Rattle.cd_syntax.specs.Integer.{IsInteger}
use Rattle.cd_syntax.specs.Name.{IsAbove}

mutual
  pub data Thing : Type 0 where
    Integer : ℤ → Thing
    Character : ℕ → Thing
    Atom : Name → Thing
    Pair : (first second : Thing) → Thing
    Xml : (tag attributes content : Thing) → Thing
    Record : Fields → Thing
    Function : Pairs → Thing
    -- the function of a program with this number, and the values of the names that it sees
    Closure : (function : ℕ) (environment : Fields) → Thing

  -- a label, or a name of an environment, and a thing each
  pub data Fields : Type 0 where
    NoField : Fields
    Field : (label : Name) (value : Thing) (rest : Fields) → Fields

  -- a function as its list of pairs: each maps an element to an element, or fails at it
  pub data Pairs : Type 0 where
    NoPair : Pairs
    Maps : (argument result : Thing) (rest : Pairs) → Pairs
    Fails : (argument : Thing) (rest : Pairs) → Pairs

-- the tag of an XML thing is an atom, and its attributes are a record
abbrev pub IsAtom : Thing → Type 0
IsAtom (Atom name) = Unit {0}
IsAtom _ = ⊥

abbrev pub IsRecord : Thing → Type 0
IsRecord (Record fields) = Unit {0}
IsRecord _ = ⊥

-- the labels rise strictly
abbrev pub LabelsRise : Option Name → Fields → Type 0
LabelsRise before NoField = Unit {0}
LabelsRise before (Field label value rest) = IsAbove before label × LabelsRise (Some label) rest

abbrev mutual
  pub IsElement : Thing → Type 0
  IsElement (Integer n) = IsInteger n
  IsElement (Character c) = IsScalar c
  IsElement (Atom name) = IsLabel name
  IsElement (Pair first second) = IsElement first × IsElement second
  IsElement (Xml tag attributes content) =
      IsAtom tag × IsRecord attributes × IsElement tag × IsElement attributes × IsElement content
  IsElement (Record fields) = LabelsRise None fields × AreFields fields
  IsElement (Function pairs) = ArePairs pairs
  IsElement (Closure function environment) = ⊥

  pub AreFields : Fields → Type 0
  AreFields NoField = Unit {0}
  AreFields (Field label value rest) = IsLabel label × IsElement value × AreFields rest

  pub ArePairs : Pairs → Type 0
  ArePairs NoPair = Unit {0}
  ArePairs (Maps argument result rest) = IsElement argument × IsElement result × ArePairs rest
  ArePairs (Fails argument rest) = IsElement argument × ArePairs rest

abbrev mutual
  pub IsValue : Thing → Type 0
  IsValue (Integer n) = IsInteger n
  IsValue (Character c) = IsScalar c
  IsValue (Atom name) = IsLabel name
  IsValue (Pair first second) = IsValue first × IsValue second
  IsValue (Xml tag attributes content) =
      IsAtom tag × IsRecord attributes × IsValue tag × IsValue attributes × IsValue content
  IsValue (Record fields) = LabelsRise None fields × AreValues fields
  IsValue (Function pairs) = ⊥
  IsValue (Closure function environment) = AreValues environment

  pub AreValues : Fields → Type 0
  AreValues NoField = Unit {0}
  AreValues (Field label value rest) = IsLabel label × IsValue value × AreValues rest

abbrev mutual
  pub IsData : Thing → Type 0
  IsData (Integer n) = Unit {0}
  IsData (Character c) = Unit {0}
  IsData (Atom name) = Unit {0}
  IsData (Pair first second) = IsData first × IsData second
  IsData (Xml tag attributes content) = IsData tag × IsData attributes × IsData content
  IsData (Record fields) = AreData fields
  IsData (Function pairs) = ⊥
  IsData (Closure function environment) = ⊥

  pub AreData : Fields → Type 0
  AreData NoField = Unit {0}
  AreData (Field label value rest) = IsData value × AreData rest

-- a fact of the number of each closure in a thing; the environment of a closure is not looked into
abbrev mutual
  pub EachClosure : (ℕ → Type 0) → Thing → Type 0
  EachClosure fact (Pair first second) = EachClosure fact first × EachClosure fact second
  EachClosure fact (Xml tag attributes content) =
      EachClosure fact tag × EachClosure fact attributes × EachClosure fact content
  EachClosure fact (Record fields) = EachOfFields fact fields
  EachClosure fact (Function pairs) = EachOfPairs fact pairs
  EachClosure fact (Closure function environment) = fact function
  EachClosure fact is = Unit {0}

  pub EachOfFields : (ℕ → Type 0) → Fields → Type 0
  EachOfFields fact NoField = Unit {0}
  EachOfFields fact (Field label value rest) = EachClosure fact value × EachOfFields fact rest

  pub EachOfPairs : (ℕ → Type 0) → Pairs → Type 0
  EachOfPairs fact NoPair = Unit {0}
  EachOfPairs fact (Maps argument result rest) = EachClosure fact argument × EachClosure fact result
      × EachOfPairs fact rest
  EachOfPairs fact (Fails argument rest) = EachClosure fact argument × EachOfPairs fact rest
