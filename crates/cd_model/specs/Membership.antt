-- Membership in nodes, by the names that crates above use.
use Rattle.std.specs.Prelude.{ℕ, ℤ}
use Rattle.cd_sets.specs.declared.node_id.NodeId.{NodeId}
use Rattle.cd_syntax.specs.Name.{Name}
use Rattle.cd_model.specs.Formula.{Graph, FormulaReader, formula_at, at_formula, nodes, in_node}
use Rattle.cd_model.specs.Formula.{holds}
pub use Rattle.cd_model.specs.Formula.{holds, each_holds, one_holds, asked, IsIn, IsOutside}
pub use Rattle.cd_model.specs.Formula.{IsWithin}
use Rattle.cd_model.specs.Interfaces as by
use Rattle.cd_model.specs.Interfaces.{Interfaces, admits, value_in_node}
use Rattle.cd_model.specs.Thing.{Thing, Fields, Pairs}
use Rattle.cd_model.specs.Types as types
use Rattle.cd_model.specs.Types.{no_closure, element_maps, closure_maps}
pub use Rattle.cd_model.specs.Types.{absent, chosen as either}

abbrev pub Answers : Type 1
Answers = types.Answers NodeId

abbrev pub Reader : Type 1
Reader = FormulaReader NodeId

abbrev pub Labelled : Type 1
Labelled = types.Labelled NodeId

abbrev pub Mapping : Type 1
Mapping = types.Mapping NodeId

abbrev pub at_nodes : Graph → Reader → Answers
at_nodes graph read = λ id. holds read (formula_at graph id)

abbrev pub integer_reader : ℤ → Reader
integer_reader n = at_formula (types.integer_at n)

abbrev pub character_reader : ℕ → Reader
character_reader c = at_formula (types.character_at c)

abbrev pub atom_reader : Name → Reader
atom_reader name = at_formula (types.atom_at name)

abbrev pub pair_reader : Answers → Answers → Reader
pair_reader first second = at_formula (types.pair_at first second)

abbrev pub xml_reader : Answers → Answers → Answers → Reader
xml_reader tag attributes content = at_formula (types.xml_at tag attributes content)

abbrev pub record_reader : Labelled → Reader
record_reader labelled = at_formula (types.record_at labelled)

abbrev pub function_reader : Mapping → Reader
function_reader mapping = at_formula (types.function_at mapping)

abbrev pub reader : Graph → Thing → Reader
reader graph is = at_formula (types.reader (nodes graph) no_closure is)

abbrev pub labelled : Graph → Fields → Labelled
labelled graph = types.labelled (nodes graph) no_closure

abbrev pub mapping : Graph → Pairs → Mapping
mapping graph = element_maps (nodes graph)

abbrev pub value_reader : Graph → Interfaces → Thing → Reader
value_reader graph interfaces is = at_formula (by.value_reader graph interfaces is)

abbrev pub value_labelled : Graph → Interfaces → Fields → Labelled
value_labelled graph interfaces =
    types.labelled (nodes graph) (closure_maps (nodes graph) (admits interfaces))

abbrev pub closure_mapping : Graph → Interfaces → ℕ → Mapping
closure_mapping graph interfaces function = closure_maps (nodes graph) (admits interfaces) function

abbrev pub answers : Graph → Thing → Answers
answers graph is = in_node graph is

abbrev pub value_answers : Graph → Interfaces → Thing → Answers
value_answers graph interfaces is = value_in_node graph interfaces is
