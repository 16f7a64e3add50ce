-- The kernel of a sequence: copies of its automaton, joined by Both. A node gathers items for one
-- variable alone, so variables that gather the same item are in several copies. Each relation
-- speaks of nodes that are there, and so is kept where nodes are put after them.
use Rattle.std.specs.Prelude.{◌≡◌, ℕ, Bool, true, false, ◌||◌, List, [], ◌∷◌, Option, Some, None}
use Rattle.std.specs.Prelude.{map, bytes_eq, if◌then◌else◌}
use Rattle.std.specs.List.{slice_get, list_any}
use Rattle.std.specs.Option.{unwrap_or}
use Rattle.cd_syntax.specs.Name.{Name}
use Rattle.cd_syntax.specs.declared.constant.Constant.TheVariants as constant
use Rattle.cd_matching.specs.Kernel.{KernelNode, Test, Put, Pair, Both, First, Gather, number_of}
use Rattle.cd_matching.specs.Pattern.{Regular}
use Rattle.cd_kernel.specs.Chains.{IsChain}
use Rattle.cd_moves.specs.Automaton.{Move, End, To, ItemOf, once, first_moves, items_of, rows_of}

-- the types of the empty sequence, of all things and of none
pub record Types (T : Type 0) : Type 0 where
  pub nil : T
  pub any : T
  pub empty : T

abbrev pub AreTypes : {T : Type 0} → (T → Type 0) → Types T → Type 0
AreTypes IsType types = IsType types.nil × IsType types.any × IsType types.empty

abbrev pub IsAt : {T : Type 0} → List (KernelNode T) → ℕ → KernelNode T → Type 0
IsAt nodes number node = slice_get nodes number ≡ Some node

-- a variable is known by this number
abbrev pub IsNumber : List Name → Name → ℕ → Type 0
IsNumber variables name variable = number_of variables name ≡ Some variable

abbrev pub is_among : List Name → Name → Bool
is_among names name = list_any (bytes_eq name) names

abbrev pub AreDistinct : List Name → Type 0
AreDistinct [] = Unit {0}
AreDistinct (name ∷ names) = (is_among names name ≡ false) × AreDistinct names

-- the first of the variables around an item that is in a group
abbrev pub gatherer : (group around : List Name) → Option Name
gatherer group [] = None
gatherer group (name ∷ around) = if is_among group name then Some name else gatherer group around

-- A copy, for a group of variables that gather: the node of each item, that of the state after it,
-- and that of the first state. The items of a plain copy bind plain variables
pub record Copy : Type 0 where
  pub plain : Bool
  pub group : List Name
  pub items : List ℕ
  pub states : List ℕ
  pub start : ℕ

abbrev pub in_a_group : List Copy → Name → Bool
in_a_group [] name = false
in_a_group (copy ∷ copies) name = is_among copy.group name || in_a_group copies name

abbrev pub one_is_plain : List Copy → Bool
one_is_plain [] = false
one_is_plain (copy ∷ copies) = copy.plain || one_is_plain copies

-- no variable is in two groups, and at most one copy is plain
abbrev pub AreDisjoint : List Copy → Type 0
AreDisjoint [] = Unit {0}
AreDisjoint (copy ∷ copies) =
    ((name : Name) → is_among copy.group name ≡ true → in_a_group copies name ≡ false)
    × (copy.plain ≡ true → one_is_plain copies ≡ false) × AreDisjoint copies

module _ {T : Type 0} (types : Types T) (variables : List Name) (nodes : List (KernelNode T)) where
  -- the things of a type, where each of these variables is the empty sequence
  abbrev pub ArePut : T → List Name → ℕ → Type 0
  ArePut type [] number = IsAt nodes number (Test type)
  ArePut type (name ∷ names) number = (variable put rest : ℕ)
      × IsNumber variables name variable × IsAt nodes number (Both put rest)
      × IsAt nodes put (Put variable constant.Nil) × ArePut type names rest

  abbrev pub IsStep : Option Name → (number item next : ℕ) → Type 0
  IsStep None number item next = IsAt nodes number (Pair item next)
  IsStep (Some name) number item next = (variable : ℕ)
      × IsNumber variables name variable × IsAt nodes number (Gather variable item next)

  abbrev pub IsMove : Copy → List (ItemOf T) → Move → ℕ → Type 0
  IsMove copy items End number = ArePut types.nil copy.group number
  IsMove copy items (To place) number = (item next : ℕ) × (of : ItemOf T)
      × (slice_get copy.items place ≡ Some item) × (slice_get copy.states place ≡ Some next)
      × (slice_get items place ≡ Some of) × IsStep (gatherer copy.group of.1) number item next

  -- a state takes by the first of its moves that does, and without a move takes nothing
  abbrev pub IsState : Copy → List (ItemOf T) → List Move → ℕ → Type 0
  IsState copy items [] number = (one other : ℕ) × IsAt nodes number (Both one other)
      × IsAt nodes one (Test types.empty) × ArePut types.any copy.group other
  IsState copy items (move ∷ []) number = IsMove copy items move number
  IsState copy items (move ∷ next ∷ moves) number = (first rest : ℕ)
      × IsAt nodes number (First first rest) × IsMove copy items move first
      × IsState copy items (next ∷ moves) rest

  pub record IsCopy (r : Regular T) (copy : Copy) : Type 0 where
    pub starts : IsState copy (items_of [] r) (once (first_moves r 0)) copy.start
    pub goes_on : (place number : ℕ) → slice_get copy.states place ≡ Some number
        → IsState copy (items_of [] r) (unwrap_or (slice_get (rows_of r) place) []) number
    pub distinct : AreDistinct copy.group
    -- no two variables of the group gather one item
    pub alone : (place : ℕ) (of : ItemOf T) (name : Name)
        → slice_get (items_of [] r) place ≡ Some of → is_among copy.group name ≡ true
        → is_among of.1 name ≡ true → gatherer copy.group of.1 ≡ Some name

  abbrev pub AreJoined : List Copy → ℕ → Type 0
  AreJoined copies = IsChain nodes Both (map (λ copy. copy.start) copies)
