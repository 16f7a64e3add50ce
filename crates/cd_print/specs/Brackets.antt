-- How many brackets are open at once in the canonical text of data.
use Rattle.std.specs.Prelude.{ℕ, suc, max, Bool, false, bytes_eq, codes, if◌then◌else◌}
use Rattle.cd_model.specs.Thing.{Thing, Character, Atom, Pair, Xml, Record}
use Rattle.cd_model.specs.Thing.{Fields, NoField, Field}

-- characters alone stand along the right of a thing, and `nil` at its end
abbrev pub is_text : Thing → Bool
is_text (Atom name) = bytes_eq name (codes "nil")
is_text (Pair (Character c) rest) = is_text rest
is_text _ = false

abbrev mutual
  pub brackets : Thing → ℕ
  -- `nil` is `[]`
  brackets (Atom name) = if bytes_eq name (codes "nil") then 1 else 0
  -- a text has none; a sequence and a tuple have one, and those of their parts
  brackets (Pair first second) =
      if is_text (Pair first second) then 0 else suc (max (brackets first) (along second))
  -- `<` is open until the content ends
  brackets (Xml tag attributes content) = suc (max (within attributes) (brackets content))
  brackets (Record fields) = suc (of_fields fields)
  brackets _ = 0

  -- of the parts along the right of a thing, and of what stands at its end
  pub along : Thing → ℕ
  along (Pair first second) = max (brackets first) (along second)
  along (Xml tag attributes content) = suc (max (within attributes) (brackets content))
  along (Record fields) = suc (of_fields fields)
  along _ = 0

  -- of the fields of a record, without its braces
  pub within : Thing → ℕ
  within (Record fields) = of_fields fields
  within _ = 0

  pub of_fields : Fields → ℕ
  of_fields NoField = 0
  of_fields (Field label value rest) = max (brackets value) (of_fields rest)
