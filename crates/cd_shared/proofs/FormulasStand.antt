-- A formula stands for the one with the classes of the nodes that it names.
use Rattle.std.proofs.Common.{◌≡◌, Bool, true, false, List, [], ◌∷◌, map, refl, sym, bytes_eq}
use Rattle.std.proofs.Common.{if◌then◌else◌}
use Rattle.cd_sets.specs.declared.node_id.NodeId.{NodeId}
use Rattle.cd_syntax.specs.Name.{Name}
use Rattle.cd_model.specs.Alike as heads
use Rattle.cd_model.specs.Alike.{Standing, FieldsStand}
use Rattle.cd_model.specs.Formula as formula
use Rattle.cd_model.specs.Formula.{Formula, Formulas, NoFormula, AFormula, Field, field_of}
use Rattle.cd_model.proofs.FormulasAlike.{FormulasStand, AllStand, nothing, everything, of_head}
use Rattle.cd_model.proofs.FormulasAlike.{and_of, or_of, not_of, no_formula, a_formula}
use Rattle.cd_shared.specs.Shared.{renamed_field, renamed_formula, renamed_formulas}

module _ (class : NodeId → NodeId) (once : (id : NodeId) → class (class id) ≡ class id) where
  -- nodes of one class stand for each other
  abbrev pub OfOneClass : Standing NodeId NodeId
  OfOneClass one other = class one ≡ class other

  own : (id : NodeId) → OfOneClass id (class id)
  own id = sym (once id)

  fields_stand : (named : List (Name × Field)) (rest : NodeId) (label : Name)
      → FieldsStand OfOneClass (field_of named rest label)
      (field_of (map (renamed_field class) named) (class rest) label)
  fields_stand [] rest label = record { optional = refl; type = own rest }
  fields_stand (field ∷ named) rest label =
      by_test (bytes_eq field.0 label) (fields_stand named rest label)
    where
      by_test : (test : Bool) → FieldsStand OfOneClass (field_of named rest label)
          (field_of (map (renamed_field class) named) (class rest) label)
          → FieldsStand OfOneClass
          (if test then field.1 else field_of named rest label)
          (if test then (renamed_field class field).1
          else field_of (map (renamed_field class) named) (class rest) label)
      by_test true others = record { optional = refl; type = own field.1.type }
      by_test false others = others

  mutual
    pub formula_stands : (is : Formula) → FormulasStand OfOneClass is (renamed_formula class is)
    formula_stands formula.Nothing = nothing
    formula_stands formula.Everything = everything
    formula_stands (formula.Ints set) =
        of_head _ _ _ _ refl refl (heads.integers _ _ (λ n. refl))
    formula_stands (formula.Chars set) =
        of_head _ _ _ _ refl refl (heads.characters _ _ (λ n. refl))
    formula_stands (formula.Atoms set) = of_head _ _ _ _ refl refl (heads.atoms _ _ (λ n. refl))
    formula_stands (formula.Pair first second) =
        of_head _ _ _ _ refl refl (heads.products _ _ _ _ (own first) (own second))
    formula_stands (formula.Xml tag attributes content) = of_head _ _ _ _ refl refl
        (heads.xmls _ _ _ _ _ _ (own tag) (own attributes) (own content))
    formula_stands (formula.Record named rest) =
        of_head _ _ _ _ refl refl (heads.records _ _ _ _ (fields_stand named rest))
    formula_stands (formula.Arrow argument result) =
        of_head _ _ _ _ refl refl (heads.arrows _ _ _ _ (own argument) (own result))
    formula_stands (formula.And formulas) = and_of _ _ (all_stand formulas)
    formula_stands (formula.Or formulas) = or_of _ _ (all_stand formulas)
    formula_stands (formula.Not is) = not_of _ _ (formula_stands is)

    all_stand : (formulas : Formulas) → AllStand OfOneClass formulas (renamed_formulas class formulas)
    all_stand NoFormula = no_formula
    all_stand (AFormula is rest) = a_formula _ _ _ _ (formula_stands is) (all_stand rest)
