-- Relations of things whose parts are related, and of which sequences of related things are.
use Rattle.std.proofs.Common.{ℤ, ℕ}
use Rattle.cd_syntax.specs.Name.{Name}
use Rattle.cd_model.specs.Thing as thing
use Rattle.cd_model.specs.Thing.{Thing, Fields, NoField, Field, Pairs}
use Rattle.cd_matching.specs.Sequences.{nil}

-- the same labels, with related things
pub data FieldsRelated (Are : Thing → Thing → Type 0) : (fields others : Fields) → Type 0 where
  no_field : FieldsRelated Are NoField NoField
  field : (label : Name) (v e : Thing) (rest others : Fields) → Are v e → FieldsRelated Are rest others
      → FieldsRelated Are (Field label v rest) (Field label e others)

-- the same form, with related parts; functions and closures have no parts here
pub data PartsRelated (Are : Thing → Thing → Type 0) : (v e : Thing) → Type 0 where
  integer : (n : ℤ) → PartsRelated Are (thing.Integer n) (thing.Integer n)
  character : (c : ℕ) → PartsRelated Are (thing.Character c) (thing.Character c)
  atom : (name : Name) → PartsRelated Are (thing.Atom name) (thing.Atom name)
  pair : (v w d e : Thing) → Are v d → Are w e → PartsRelated Are (thing.Pair v w) (thing.Pair d e)
  xml : (tag attributes content d e last : Thing) → Are tag d → Are attributes e → Are content last
      → PartsRelated Are (thing.Xml tag attributes content) (thing.Xml d e last)
  of_fields : (fields others : Fields) → FieldsRelated Are fields others → PartsRelated Are (thing.Record fields) (thing.Record others)
  of_function : (pairs others : Pairs) → PartsRelated Are (thing.Function pairs) (thing.Function others)
  of_closure : (function number : ℕ) (environment other : Fields)
      → PartsRelated Are (thing.Closure function environment) (thing.Closure number other)
  in_place : (function : ℕ) (environment : Fields) (pairs : Pairs)
      → PartsRelated Are (thing.Closure function environment) (thing.Function pairs)

pub record Relation : Type 1 where
  pub Are : Thing → Thing → Type 0
  pub parts : (v e : Thing) → Are v e → PartsRelated Are v e
  pub nil : Are nil nil
  pub pair : (v w d e : Thing) → Are v d → Are w e → Are (thing.Pair v w) (thing.Pair d e)
