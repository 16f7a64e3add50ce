-- What constructors stand round in a place whose names all have a fact.
use Rattle.std.proofs.Common.{◌++◌}
use Rattle.cd_syntax.specs.TypeTree as type
use Rattle.cd_syntax.specs.TypeTree.{Tree, Trees, NoTree, ATree}
use Rattle.cd_model.specs.AllOf.{AllOf}
use Rattle.cd_model.specs.Scope.{Scope, Declared, names_in, names_in_trees, names_over}
use Rattle.cd_model.specs.Written.{kind_of, tuple_rest, arrows_rest}
use Rattle.cd_model.proofs.Covered.{Covered, each_parts, covered_tree}

-- the parts of an XML type
pub record XmlParts (Fact : Declared → Type 0) (scope : Scope) (tag attributes content : Tree) : Type 0 where
  pub tag_is : Covered Fact scope (kind_of tag)
  pub attributes_are : Covered Fact scope (kind_of attributes)
  pub content_is : Covered Fact scope (kind_of content)

module _ (Fact : Declared → Type 0) where
  -- the first of some trees, and the others
  first_tree : (scope : Scope) (is : Tree) (rest : Trees) → AllOf Fact (names_in_trees scope (ATree is rest))
      → AllOf Fact (names_over scope) → Covered Fact scope (kind_of is)
  first_tree scope is rest within over =
      covered_tree Fact scope is (each_parts Fact (names_in scope is) (names_in_trees scope rest) within).0 over

  other_trees : (scope : Scope) (is : Tree) (rest : Trees) → AllOf Fact (names_in_trees scope (ATree is rest))
      → AllOf Fact (names_in_trees scope rest)
  other_trees scope is rest within = (each_parts Fact (names_in scope is) (names_in_trees scope rest) within).1

  tuple_of : (scope : Scope) (rest : Trees) → AllOf Fact (names_in_trees scope rest) → AllOf Fact (names_over scope)
      → Covered Fact scope (tuple_rest rest)
  tuple_of scope NoTree within over = record { within = within; over = over }
  tuple_of scope (ATree is NoTree) within over = first_tree scope is NoTree within over
  tuple_of scope (ATree is (ATree other rest)) within over = record { within = within; over = over }

  arrows_of : (scope : Scope) (rest : Trees) → AllOf Fact (names_in_trees scope rest) → AllOf Fact (names_over scope)
      → Covered Fact scope (arrows_rest rest)
  arrows_of scope NoTree within over = record { within = within; over = over }
  arrows_of scope (ATree is NoTree) within over = first_tree scope is NoTree within over
  arrows_of scope (ATree is (ATree other rest)) within over = record { within = within; over = over }

  pub covered_first : (scope : Scope) (is : Tree) (rest : Trees) → Covered Fact scope (type.Tuple (ATree is rest))
      → Covered Fact scope (kind_of is)
  covered_first scope is rest covered = first_tree scope is rest covered.within covered.over

  pub covered_tuple : (scope : Scope) (is : Tree) (rest : Trees) → Covered Fact scope (type.Tuple (ATree is rest))
      → Covered Fact scope (tuple_rest rest)
  covered_tuple scope is rest covered = tuple_of scope rest (other_trees scope is rest covered.within) covered.over

  pub covered_argument : (scope : Scope) (is : Tree) (rest : Trees) → Covered Fact scope (type.Arrows (ATree is rest))
      → Covered Fact scope (kind_of is)
  covered_argument scope is rest covered = first_tree scope is rest covered.within covered.over

  pub covered_arrows : (scope : Scope) (is : Tree) (rest : Trees) → Covered Fact scope (type.Arrows (ATree is rest))
      → Covered Fact scope (arrows_rest rest)
  covered_arrows scope is rest covered = arrows_of scope rest (other_trees scope is rest covered.within) covered.over

  pub covered_xml : (scope : Scope) (tag attributes content : Tree) → Covered Fact scope (type.Xml tag attributes content)
      → XmlParts Fact scope tag attributes content
  covered_xml scope tag attributes content covered =
      by_content (each_parts Fact (names_in scope tag ++ names_in scope attributes) (names_in scope content) covered.within)
    where
      by_all : AllOf Fact (names_in scope tag) × AllOf Fact (names_in scope attributes) → AllOf Fact (names_in scope content)
          → XmlParts Fact scope tag attributes content
      by_all others last = record {
        tag_is = covered_tree Fact scope tag others.0 covered.over;
        attributes_are = covered_tree Fact scope attributes others.1 covered.over;
        content_is = covered_tree Fact scope content last covered.over;
      }

      by_content : AllOf Fact (names_in scope tag ++ names_in scope attributes) × AllOf Fact (names_in scope content)
          → XmlParts Fact scope tag attributes content
      by_content parts = by_all (each_parts Fact (names_in scope tag) (names_in scope attributes) parts.0) parts.1
