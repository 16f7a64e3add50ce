-- Formulas whose parts stand for each other hold alike.
use Rattle.std.proofs.Common.{◌≡◌, Bool, true, false, [], Some, ◌↔◌, refl, sym, subst}
use Rattle.std.proofs.lemmas.Option.{none-some}
use Rattle.cd_syntax.specs.declared.builtin.BuiltinName.{BuiltinName}
use Rattle.cd_syntax.specs.declared.builtin.BuiltinName.TheVariants as name
use Rattle.cd_model.specs.Alike as heads
use Rattle.cd_model.specs.Alike.{Standing, FieldsStand, HeadsStand, ReadAlike}
use Rattle.cd_model.specs.BuiltIns.{built_in}
use Rattle.cd_model.specs.Formula as formula
use Rattle.cd_model.specs.Formula.{FormulaOf, FormulasOf, Formula, Formulas, NoFormula, AFormula, head_of, at_formula, holds, each_holds, one_holds}
use Rattle.cd_model.specs.Types.{Head, Reader, at_head}
use Rattle.cd_model.proofs.BothWays.{itself, turned, through, both_agree, one_agrees}

mutual
  pub data FormulasStand {X Y : Type 0} (Stands : Standing X Y) : FormulaOf X → FormulaOf Y → Type 0 where
    nothing : FormulasStand Stands formula.Nothing formula.Nothing
    everything : FormulasStand Stands formula.Everything formula.Everything
    of_head : (one : FormulaOf X) (other : FormulaOf Y) (first : Head X) (second : Head Y) → head_of one ≡ Some first
        → head_of other ≡ Some second → HeadsStand Stands first second → FormulasStand Stands one other
    and_of : (all : FormulasOf X) (others : FormulasOf Y) → AllStand Stands all others
        → FormulasStand Stands (formula.And all) (formula.And others)
    or_of : (all : FormulasOf X) (others : FormulasOf Y) → AllStand Stands all others
        → FormulasStand Stands (formula.Or all) (formula.Or others)
    not_of : (one : FormulaOf X) (other : FormulaOf Y) → FormulasStand Stands one other
        → FormulasStand Stands (formula.Not one) (formula.Not other)

  pub data AllStand {X Y : Type 0} (Stands : Standing X Y) : FormulasOf X → FormulasOf Y → Type 0 where
    no_formula : AllStand Stands NoFormula NoFormula
    a_formula : (one : FormulaOf X) (other : FormulaOf Y) (rest : FormulasOf X) (others : FormulasOf Y)
        → FormulasStand Stands one other → AllStand Stands rest others → AllStand Stands (AFormula one rest) (AFormula other others)

-- a formula that has a head holds what the head does
pub of_its_head : {X : Type 0} (read : Reader X) (is : FormulaOf X) (head : Head X) → head_of is ≡ Some head → (answer : Bool)
    → holds (at_formula read) is answer ↔ read head answer
of_its_head read formula.Everything head e answer = absurd (none-some head e)
of_its_head read (formula.And all) head e answer = absurd (none-some head e)
of_its_head read (formula.Or all) head e answer = absurd (none-some head e)
of_its_head read (formula.Not is) head e answer = absurd (none-some head e)
of_its_head read is head e answer = subst (λ found. at_head read found answer ↔ read head answer) (sym e) itself

module _ {X Y : Type 0} (Stands : Standing X Y) (first : Reader X) (second : Reader Y) (alike : ReadAlike Stands first second) where
  mutual
    pub formulas_alike : (one : FormulaOf X) (other : FormulaOf Y) → FormulasStand Stands one other → (answer : Bool)
        → holds (at_formula first) one answer ↔ holds (at_formula second) other answer
    formulas_alike _ _ nothing answer = itself
    formulas_alike _ _ everything answer = itself
    formulas_alike _ _ (of_head one other a b is_a is_b stands) answer =
        through (of_its_head first one a is_a answer)
        (through (alike a b stands answer) (turned (of_its_head second other b is_b answer)))
    formulas_alike _ _ (and_of all others stand) true = each_alike all others stand true
    formulas_alike _ _ (and_of all others stand) false = one_alike all others stand false
    formulas_alike _ _ (or_of all others stand) true = one_alike all others stand true
    formulas_alike _ _ (or_of all others stand) false = each_alike all others stand false
    formulas_alike _ _ (not_of one other stands) true = formulas_alike one other stands false
    formulas_alike _ _ (not_of one other stands) false = formulas_alike one other stands true

    each_alike : (all : FormulasOf X) (others : FormulasOf Y) → AllStand Stands all others → (answer : Bool)
        → each_holds (at_formula first) all answer ↔ each_holds (at_formula second) others answer
    each_alike _ _ no_formula answer = itself
    each_alike _ _ (a_formula one other rest others stands all) answer =
        both_agree (formulas_alike one other stands answer) (each_alike rest others all answer)

    one_alike : (all : FormulasOf X) (others : FormulasOf Y) → AllStand Stands all others → (answer : Bool)
        → one_holds (at_formula first) all answer ↔ one_holds (at_formula second) others answer
    one_alike _ _ no_formula answer = itself
    one_alike _ _ (a_formula one other rest others stands all) answer =
        one_agrees (formulas_alike one other stands answer) (one_alike rest others all answer)

-- the formulas of the built-in names, where the types of the names stand for each other
module _ {X Y : Type 0} (Stands : Standing X Y) (one : BuiltinName → X) (other : BuiltinName → Y)
    (named : (name : BuiltinName) → Stands (one name) (other name)) where
  ints : (set : _) → FormulasStand Stands (formula.Ints set) (formula.Ints set)
  ints set = of_head _ _ _ _ refl refl (heads.integers _ _ (λ n. refl))

  chars : (set : _) → FormulasStand Stands (formula.Chars set) (formula.Chars set)
  chars set = of_head _ _ _ _ refl refl (heads.characters _ _ (λ n. refl))

  atoms : (set : _) → FormulasStand Stands (formula.Atoms set) (formula.Atoms set)
  atoms set = of_head _ _ _ _ refl refl (heads.atoms _ _ (λ n. refl))

  pairs : (a b : BuiltinName) → FormulasStand Stands (formula.Pair (one a) (one b)) (formula.Pair (other a) (other b))
  pairs a b = of_head _ _ _ _ refl refl (heads.products _ _ _ _ (named a) (named b))

  xmls : (a b c : BuiltinName) → FormulasStand Stands (formula.Xml (one a) (one b) (one c)) (formula.Xml (other a) (other b) (other c))
  xmls a b c = of_head _ _ _ _ refl refl (heads.xmls _ _ _ _ _ _ (named a) (named b) (named c))

  records : (a : BuiltinName) → FormulasStand Stands (formula.Record [] (one a)) (formula.Record [] (other a))
  records a = of_head _ _ _ _ refl refl (heads.records _ _ _ _ (λ label. record { optional = refl; type = named a }))

  pub built_ins_stand : (is : BuiltinName) → FormulasStand Stands (built_in one is) (built_in other is)
  built_ins_stand name.Empty = nothing
  built_ins_stand name.Any = everything
  built_ins_stand name.Int = ints _
  built_ins_stand name.Char = chars _
  built_ins_stand name.Byte = chars _
  built_ins_stand name.Atom = atoms _
  built_ins_stand name.Bool = or_of _ _ (a_formula _ _ _ _ (atoms _) (a_formula _ _ _ _ (atoms _) no_formula))
  built_ins_stand name.String =
      or_of _ _ (a_formula _ _ _ _ (pairs name.Char name.String) (a_formula _ _ _ _ (atoms _) no_formula))
  built_ins_stand name.Arrow = of_head _ _ _ _ refl refl (heads.arrows _ _ _ _ (named name.Empty) (named name.Any))
  built_ins_stand name.Pair = pairs name.Any name.Any
  built_ins_stand name.Record = records name.Any
  built_ins_stand name.AnyXml = xmls name.Any name.Any name.Any
  built_ins_stand name.Data = or_of _ _ (a_formula _ _ _ _ (ints _) (a_formula _ _ _ _ (chars _) (a_formula _ _ _ _ (atoms _)
      (a_formula _ _ _ _ (pairs name.Data name.Data) (a_formula _ _ _ _ (records name.Data)
      (a_formula _ _ _ _ (xmls name.Atom name.Data name.Data) no_formula))))))
