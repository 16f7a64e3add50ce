-- The formulas of the code as plain data.
use Rattle.std.specs.Prelude.{List, map}
use Rattle.cd_syntax.specs.Name.{Name}
use Rattle.cd_model.specs.Formula.{formulas_of, Formula, Formulas, Field, Nothing, Everything, Ints}
use Rattle.cd_model.specs.Formula.{Chars, Atoms, Pair, Xml, Record, Arrow, And, Or, Not}
use Rattle.cd_graph.specs.declared.fields.Field.{Field as CodeField}
use Rattle.cd_graph.specs.declared.formula.Formula.TheOpen as layer
use Rattle.cd_graph.specs.declared.formula.Formula.{Formula as CodeFormula, Formula-F, fold-Formula}
use Rattle.cd_graph.specs.declared.formula.Formulas.{Formulas as CodeFormulas, Formulas-F}
use Rattle.cd_graph.specs.declared.formula.Formulas.{fold-Formulas}

-- what a record type says of one label, and of some
abbrev pub plain_field : CodeField → Field
plain_field field = record { optional = field.optional; type = field.node }

abbrev pub plain_named : List (Name × CodeField) → List (Name × Field)
plain_named fields = map (λ field. (field.0, plain_field field.1)) fields

-- one layer of each, whose parts are plain
abbrev pub formula_layer : Formula-F Formula (List Formula) → Formula
formula_layer layer.None = Nothing
formula_layer layer.All = Everything
formula_layer (layer.Ints set) = Ints set
formula_layer (layer.Chars set) = Chars set
formula_layer (layer.Atoms set) = Atoms set
formula_layer (layer.Pair first second) = Pair first second
formula_layer (layer.Xml tag attributes content) = Xml tag attributes content
formula_layer (layer.Record fields) = Record (plain_named fields.named) fields.rest
formula_layer (layer.Arrow argument result) = Arrow argument result
formula_layer (layer.And formulas) = And (formulas_of formulas)
formula_layer (layer.Or formulas) = Or (formulas_of formulas)
formula_layer (layer.Not one) = Not one.value

abbrev pub list_layer : Formulas-F Formula (List Formula) → List Formula
list_layer formulas = formulas.items.value.items

-- the plain data that each is
abbrev pub plain : CodeFormula → Formula
plain = fold-Formula Formula (List Formula) formula_layer list_layer

abbrev pub plain_list : CodeFormulas → List Formula
plain_list = fold-Formulas Formula (List Formula) formula_layer list_layer

abbrev pub plain_formulas : CodeFormulas → Formulas
plain_formulas formulas = formulas_of (plain_list formulas)
