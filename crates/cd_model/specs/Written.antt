-- Written types as types.
--
-- A name holds what the tree holds that it is declared as. Names may lead to names without end, so
-- an answer is given with a number: each name uses up one, and where none is left a name holds
-- nothing. It is the number of names that are declared there, and begins anew at each step into a
-- part of a thing.
use Rattle.std.specs.Prelude.{◌≡◌, ℕ, suc, zero, Bool, true, false, not, List, [], ◌∷◌, Option}
use Rattle.std.specs.Prelude.{Some, None, ◌⊎◌, length, codes, bytes_eq}
use Rattle.std.specs.Option.{unwrap_or}
use Rattle.cd_sets.specs.Characters.{is_among}
use Rattle.cd_sets.specs.Interval.{is_between}
use Rattle.cd_syntax.specs.Integer.{LEAST, GREATEST}
use Rattle.cd_syntax.specs.Name.{Name}
use Rattle.cd_syntax.specs.declared.builtin.BuiltinName.{BuiltinName}
use Rattle.cd_syntax.specs.declared.builtin.BuiltinName.TheVariants as builtin
use Rattle.cd_syntax.specs.TypeTree as type
use Rattle.cd_syntax.specs.TypeTree.{Tree, tree, Kind, Trees, NoTree, ATree, Signs, NoSign, ASign}
use Rattle.cd_model.specs.BuiltIns.{built_in}
use Rattle.cd_model.specs.Formula as formula
use Rattle.cd_model.specs.Thing.{Thing}
use Rattle.cd_model.specs.Types.{FieldOf, Head, Integers, Characters, Atoms, Products, Xmls}
use Rattle.cd_model.specs.Types.{Records, Arrows, Sequences, Regular, NoItem, Item, Seq, Alt}
use Rattle.cd_model.specs.Types.{Repeat, Regulars, NoRegular, ARegular, Reader, Presentation}
use Rattle.cd_model.specs.Types.{at_head, element_answers}
use Rattle.cd_model.specs.Scope.{Scope, Declared, declared_as, names_seen}

-- a written type: its form, and the declarations that it sees
pub record WrittenType : Type 0 where
  pub scope : Scope
  pub kind : Kind

-- a tree without its place
abbrev pub kind_of : Tree → Kind
kind_of (tree span kind) = kind

abbrev pub alone : Kind → WrittenType
alone kind = record { scope = []; kind = kind }

abbrev pub within : Scope → Tree → WrittenType
within scope is = record { scope = scope; kind = kind_of is }

abbrev pub type_named : BuiltinName → WrittenType
type_named name = alone (type.Builtin name)

-- What is written after the first tree of a tuple, and of a chain of arrows: a tree where there is
-- one, else the tuple, or the chain, of those trees. A tuple or a chain of fewer than two trees
-- holds nothing, and no text writes one
abbrev pub tuple_rest : Trees → Kind
tuple_rest (ATree is NoTree) = kind_of is
tuple_rest trees = type.Tuple trees

abbrev pub arrows_rest : Trees → Kind
arrows_rest (ATree is NoTree) = kind_of is
arrows_rest trees = type.Arrows trees

abbrev pub tuple_head : Scope → Trees → Option (Head WrittenType)
tuple_head scope (ATree is (ATree next rest)) =
    Some (Products (within scope is)
    (record { scope = scope; kind = tuple_rest (ATree next rest) }))
tuple_head scope trees = None

abbrev pub arrows_head : Scope → Trees → Option (Head WrittenType)
arrows_head scope (ATree is (ATree next rest)) =
    Some (Arrows (within scope is) (record { scope = scope; kind = arrows_rest (ATree next rest) }))
arrows_head scope trees = None

-- a text is the pair of its first character and the text of the others; the text without characters
-- is the atom `nil`
abbrev pub text_head : List ℕ → Head WrittenType
text_head [] = Atoms (λ name. bytes_eq name (codes "nil"))
text_head (c ∷ text) = Products (alone (type.Chars c c)) (alone (type.Text text))

-- labels of a sound type differ; of one that stands twice the first is meant
abbrev pub named_in : Scope → type.Fields → List (Name × FieldOf WrittenType)
named_in scope type.NoField = []
named_in scope (type.AField name at optional is rest) =
    (name, record { optional = optional; type = within scope is }) ∷ named_in scope rest

-- the type of what stands at a label that is not named
abbrev pub rest_in : Scope → type.Rest → WrittenType
rest_in scope type.Closed = type_named builtin.Empty
rest_in scope type.Open = type_named builtin.Any
rest_in scope (type.Typed is) = within scope is

-- a capture is a form of patterns, which stands in no type
abbrev mutual
  pub regular_in : Scope → type.Regular → Regular WrittenType
  regular_in scope (type.regular span kind) = regular_kind_in scope kind

  pub regular_kind_in : Scope → type.RegularKind → Regular WrittenType
  regular_kind_in scope type.Nothing = NoItem
  regular_kind_in scope (type.Item is) = Item (within scope is)
  regular_kind_in scope (type.Seq all) = Seq (regulars_in scope all)
  regular_kind_in scope (type.Alt all) = Alt (regulars_in scope all)
  regular_kind_in scope (type.Repeat is post) = Repeat (regular_in scope is) post
  regular_kind_in scope (type.Capture name is) = Alt NoRegular

  pub regulars_in : Scope → type.Regulars → Regulars WrittenType
  regulars_in scope type.NoRegular = NoRegular
  regulars_in scope (type.ARegular first rest) =
      ARegular (regular_in scope first) (regulars_in scope rest)

-- the head of a form; connectives and names have none, nor have the two forms of patterns, which
-- stand in no type
abbrev pub head_of : Scope → Kind → Option (Head WrittenType)
head_of scope (type.Ints low high) =
    Some (Integers (is_between (unwrap_or low LEAST) (unwrap_or high GREATEST)))
head_of scope (type.Chars low high) = Some (Characters (is_among low high))
head_of scope (type.Atom name) = Some (Atoms (λ other. bytes_eq other name))
head_of scope (type.Text text) = Some (text_head text)
head_of scope (type.Tuple trees) = tuple_head scope trees
head_of scope (type.Arrows trees) = arrows_head scope trees
head_of scope (type.Sequence is) = Some (Sequences (regular_in scope is))
head_of scope (type.Record fields rest) =
    Some (Records (named_in scope fields) (rest_in scope rest))
head_of scope (type.Xml tag attributes content) =
    Some (Xmls (within scope tag) (within scope attributes) (within scope content))
head_of scope kind = None

abbrev pub Names : Type 1
Names = Scope → Name → Bool → Type 0

-- what a thing with this reader answers at a form, where `names` is what it answers at names
abbrev mutual
  pub tree_holds : Reader WrittenType → Names → Scope → Tree → Bool → Type 0
  tree_holds read names scope (tree span kind) answer = kind_holds read names scope kind answer

  pub kind_holds : Reader WrittenType → Names → Scope → Kind → Bool → Type 0
  kind_holds read names scope (type.Builtin name) answer =
      formula.holds (formula.at_formula read) (built_in type_named name) answer
  kind_holds read names scope (type.Union trees) true = one_holds read names scope trees true
  kind_holds read names scope (type.Union trees) false = each_holds read names scope trees false
  kind_holds read names scope (type.Meet first signs) true = tree_holds read names scope first true
      × signs_hold read names scope signs true
  kind_holds read names scope (type.Meet first signs) false =
      tree_holds read names scope first false ⊎ signs_hold read names scope signs false
  kind_holds read names scope (type.Named name) answer = names scope name answer
  kind_holds read names scope (type.Where is declarations) answer =
      tree_holds read names (declarations ∷ scope) is answer
  kind_holds read names scope kind answer = at_head read (head_of scope kind) answer

  pub each_holds : Reader WrittenType → Names → Scope → Trees → Bool → Type 0
  each_holds read names scope NoTree answer = Unit {0}
  each_holds read names scope (ATree first rest) answer = tree_holds read names scope first answer
      × each_holds read names scope rest answer

  pub one_holds : Reader WrittenType → Names → Scope → Trees → Bool → Type 0
  one_holds read names scope NoTree answer = ⊥
  one_holds read names scope (ATree first rest) answer = tree_holds read names scope first answer
      ⊎ one_holds read names scope rest answer

  -- it is in each tree after a `&`, and outside each after a `\`
  pub signs_hold : Reader WrittenType → Names → Scope → Signs → Bool → Type 0
  signs_hold read names scope NoSign answer = answer ≡ true
  signs_hold read names scope (ASign kept is rest) true = tree_holds read names scope is kept
      × signs_hold read names scope rest true
  signs_hold read names scope (ASign kept is rest) false = tree_holds read names scope is (not kept)
      ⊎ signs_hold read names scope rest false

-- what it answers at a name that is declared so, and at any name with so many names left to use up
abbrev pub declared_holds : Reader WrittenType → Names → Option Declared → Bool → Type 0
declared_holds read names None answer = answer ≡ false
declared_holds read names (Some is) answer = tree_holds read names is.scope is.tree answer

abbrev pub name_holds : Reader WrittenType → ℕ → Names
name_holds read zero scope name answer = answer ≡ false
name_holds read (suc left) scope name answer =
    declared_holds read (name_holds read left) (declared_as scope name) answer

-- written types, with so many names to use up at each part
abbrev pub written : ℕ → Presentation WrittenType
written count read = λ is. kind_holds read (name_holds read count) is.scope is.kind

-- a written type with its place, and how many names are declared in its tree and in the lists that
-- it stands under
pub record Written : Type 0 where
  pub scope : Scope
  pub tree : Tree

abbrev pub type_of : Written → WrittenType
type_of is = within is.scope is.tree

abbrev pub number_of_names : Written → ℕ
number_of_names is = length (names_seen is.scope is.tree)

-- what an element answers at a written type
abbrev pub in_written : Thing → Written → Bool → Type 0
in_written is type = element_answers (written (number_of_names type)) is (type_of type)
