-- What a formula of the code is, form by form. Outside of this crate the fold is stuck, and these are its equations.
use Rattle.std.proofs.Common.{◌≡◌, List, ap, ◌∙◌}
use Rattle.std.specs.declared.alloc.Global.{Global}
use Rattle.std.specs.declared.rc.Rc.{Rc}
use Rattle.cd_sets.specs.declared.node_id.NodeId.{NodeId}
use Rattle.cd_sets.specs.declared.int_set.IntSet.{IntSet}
use Rattle.cd_sets.specs.declared.char_set.CharSet.{CharSet}
use Rattle.cd_sets.specs.declared.atom_set.AtomSet.{AtomSet}
use Rattle.cd_model.specs.Formula.{Formula, Nothing, Everything, Ints, Chars, Atoms, Pair, Xml, Record, Arrow, And, Or, Not}
use Rattle.cd_graph.specs.PlainFormula.{plain, plain_list, plain_formulas, plain_named, formula_layer, list_layer}
use Rattle.cd_graph.specs.declared.fields.Fields.{Fields}
use Rattle.cd_graph.specs.declared.formula.Formula.TheOpen as layer
use Rattle.cd_graph.specs.declared.formula.Formula.TheVariants as code
use Rattle.cd_graph.specs.declared.formula.Formula.{Formula as CodeFormula, Formula-F, out-Formula, map-Formula, fold_out-Formula}
use Rattle.cd_graph.specs.declared.formula.Formulas.{Formulas as CodeFormulas}

-- a formula is what its layer is, with its parts made plain
plain_layer : (is : CodeFormula) (one : Formula-F CodeFormula CodeFormulas) → out-Formula is ≡ one
    → plain is ≡ formula_layer (map-Formula CodeFormula CodeFormulas Formula (List Formula) plain plain_list one)
plain_layer is one out =
    fold_out-Formula Formula (List Formula) formula_layer list_layer is
    ∙ ap (λ one. formula_layer (map-Formula CodeFormula CodeFormulas Formula (List Formula) plain plain_list one)) out

pub plain_none : plain code.None ≡ Nothing
plain_none = plain_layer code.None layer.None code.outs-None

pub plain_all : plain code.All ≡ Everything
plain_all = plain_layer code.All layer.All code.outs-All

pub plain_ints : (set : IntSet) → plain (code.Ints set) ≡ Ints set
plain_ints set = plain_layer (code.Ints set) (layer.Ints set) (code.outs-Ints set)

pub plain_chars : (set : CharSet) → plain (code.Chars set) ≡ Chars set
plain_chars set = plain_layer (code.Chars set) (layer.Chars set) (code.outs-Chars set)

pub plain_atoms : (set : AtomSet) → plain (code.Atoms set) ≡ Atoms set
plain_atoms set = plain_layer (code.Atoms set) (layer.Atoms set) (code.outs-Atoms set)

pub plain_pair : (first second : NodeId) → plain (code.Pair first second) ≡ Pair first second
plain_pair first second = plain_layer (code.Pair first second) (layer.Pair first second) (code.outs-Pair first second)

pub plain_xml : (tag attributes content : NodeId) → plain (code.Xml tag attributes content) ≡ Xml tag attributes content
plain_xml tag attributes content =
    plain_layer (code.Xml tag attributes content) (layer.Xml tag attributes content) (code.outs-Xml tag attributes content)

pub plain_record : (fields : Fields) → plain (code.Record fields) ≡ Record (plain_named fields.named) fields.rest
plain_record fields = plain_layer (code.Record fields) (layer.Record fields) (code.outs-Record fields)

pub plain_arrow : (argument result : NodeId) → plain (code.Arrow argument result) ≡ Arrow argument result
plain_arrow argument result =
    plain_layer (code.Arrow argument result) (layer.Arrow argument result) (code.outs-Arrow argument result)

pub plain_and : (formulas : CodeFormulas) → plain (code.And formulas) ≡ And (plain_formulas formulas)
plain_and formulas = plain_layer (code.And formulas) (layer.And formulas) (code.outs-And formulas)

pub plain_or : (formulas : CodeFormulas) → plain (code.Or formulas) ≡ Or (plain_formulas formulas)
plain_or formulas = plain_layer (code.Or formulas) (layer.Or formulas) (code.outs-Or formulas)

pub plain_not : (is : Rc CodeFormula Global) → plain (code.Not is) ≡ Not (plain is.value)
plain_not is = plain_layer (code.Not is) (layer.Not is) (code.outs-Not is)

pub ruleset reading = (
  plain_none,
  plain_all,
  plain_ints,
  plain_chars,
  plain_atoms,
  plain_pair,
  plain_xml,
  plain_record,
  plain_arrow,
  plain_and,
  plain_or,
  plain_not,
)
