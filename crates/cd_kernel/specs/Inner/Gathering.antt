-- The variables of patterns as the code finds them: in the order in which they stand, each once.
-- Those that gather items are in groups.
use Rattle.std.specs.Prelude.{ℕ, Bool, true, false, ◌||◌, List, [], ◌∷◌, ◌++◌, map, Option, Some}
use Rattle.std.specs.Prelude.{if◌then◌else◌}
use Rattle.std.specs.Option.{unwrap_or}
use Rattle.cd_syntax.specs.Name.{Name}
use Rattle.cd_matching.specs.Kernel.{number_of}
use Rattle.cd_matching.specs.Pattern as pattern
use Rattle.cd_matching.specs.Pattern.{Pattern, Patterns, NoPattern, APattern, Fields, NoField}
use Rattle.cd_matching.specs.Pattern.{Regular, Regulars, NoRegular, ARegular}
use Rattle.cd_kernel.specs.Copies.{is_among}

abbrev pub with_name : List Name → Name → List Name
with_name names name = if is_among names name then names else names ++ name ∷ []

abbrev mutual
  pub with_variables : {T : Type 0} → Pattern T → List Name → List Name
  with_variables (pattern.OfType type) names = names
  with_variables (pattern.Bind name) names = with_name names name
  with_variables (pattern.Default name constant) names = with_name names name
  with_variables (pattern.Pair p q) names = with_variables q (with_variables p names)
  with_variables (pattern.Xml p q r) names =
      with_variables r (with_variables q (with_variables p names))
  with_variables (pattern.Record fields more) names = with_those_of_fields fields names
  with_variables (pattern.Both all) names = with_those_of_all all names
  with_variables (pattern.First all) names = with_those_of_all all names
  with_variables (pattern.Sequence r) names = with_those_of_items r names

  pub with_those_of_all : {T : Type 0} → Patterns T → List Name → List Name
  with_those_of_all NoPattern names = names
  with_those_of_all (APattern p rest) names = with_those_of_all rest (with_variables p names)

  pub with_those_of_fields : {T : Type 0} → Fields T → List Name → List Name
  with_those_of_fields NoField names = names
  with_those_of_fields (pattern.Present label p rest) names =
      with_those_of_fields rest (with_variables p names)
  with_those_of_fields (pattern.Optional label type rest) names = with_those_of_fields rest names

  pub with_those_of_items : {T : Type 0} → Regular T → List Name → List Name
  with_those_of_items pattern.Nothing names = names
  with_those_of_items (pattern.Item p) names = with_variables p names
  with_those_of_items (pattern.Seq all) names = with_those_of_parts all names
  with_those_of_items (pattern.Alt all) names = with_those_of_parts all names
  with_those_of_items (pattern.Repeat r post) names = with_those_of_items r names
  with_those_of_items (pattern.Capture name r) names =
      with_those_of_items r (with_name names name)

  pub with_those_of_parts : {T : Type 0} → Regulars T → List Name → List Name
  with_those_of_parts NoRegular names = names
  with_those_of_parts (ARegular first rest) names =
      with_those_of_parts rest (with_those_of_items first names)

-- the variables that gather items of this very expression
abbrev mutual
  pub with_gathered : {T : Type 0} → Regular T → List Name → List Name
  with_gathered pattern.Nothing names = names
  with_gathered (pattern.Item p) names = names
  with_gathered (pattern.Seq all) names = with_all_gathered all names
  with_gathered (pattern.Alt all) names = with_all_gathered all names
  with_gathered (pattern.Repeat r post) names = with_gathered r names
  with_gathered (pattern.Capture name r) names = with_gathered r (with_name names name)

  pub with_all_gathered : {T : Type 0} → Regulars T → List Name → List Name
  with_all_gathered NoRegular names = names
  with_all_gathered (ARegular first rest) names = with_all_gathered rest (with_gathered first names)

-- a variable gathers items in what another one gathers, or within such a one as is around all this
abbrev mutual
  pub nests : {T : Type 0} → (within : Bool) → Regular T → Bool
  nests within pattern.Nothing = false
  nests within (pattern.Item p) = false
  nests within (pattern.Seq all) = one_nests within all
  nests within (pattern.Alt all) = one_nests within all
  nests within (pattern.Repeat r post) = nests within r
  nests within (pattern.Capture name r) = within || nests true r

  pub one_nests : {T : Type 0} → (within : Bool) → Regulars T → Bool
  one_nests within NoRegular = false
  one_nests within (ARegular first rest) = nests within first || one_nests within rest

abbrev pub singly : List Name → List (List Name)
singly [] = [] ∷ []
singly (name ∷ names) = map (λ one. one ∷ []) (name ∷ names)

-- one group, or where two variables gather one item a group for each
abbrev pub groups_of : {T : Type 0} → (kept : Bool) → Regular T → List (List Name)
groups_of false r = [] ∷ []
groups_of true r = if nests false r then singly (with_gathered r []) else with_gathered r [] ∷ []

abbrev pub numbered : List Name → Name → ℕ
numbered variables name = unwrap_or (number_of variables name) 0

-- the variable of a group that gathers each item, where this one gathers around all
module _ (variables group : List Name) where
  abbrev mutual
    pub gathering : {T : Type 0} → Option ℕ → Regular T → List (Option ℕ)
    gathering around pattern.Nothing = []
    gathering around (pattern.Item p) = around ∷ []
    gathering around (pattern.Seq all) = all_gathering around all
    gathering around (pattern.Alt all) = all_gathering around all
    gathering around (pattern.Repeat r post) = gathering around r
    gathering around (pattern.Capture name r) =
        gathering (if is_among group name then Some (numbered variables name) else around) r

    pub all_gathering : {T : Type 0} → Option ℕ → Regulars T → List (Option ℕ)
    all_gathering around NoRegular = []
    all_gathering around (ARegular first rest) =
        gathering around first ++ all_gathering around rest
