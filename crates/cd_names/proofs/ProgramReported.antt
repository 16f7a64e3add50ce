-- What is reported of what is found in a program, and of its types, is reported of the program.
use Rattle.std.proofs.Common.{◌≡◌, ◌⊎◌, inl, inr, List, [], ◌∷◌, Result}
use Rattle.cd_syntax.specs.TypeTree.{Tree, Declarations}
use Rattle.cd_program.specs.Expr.{Program}
use Rattle.cd_model.specs.AllOf.{AllOf, AnyOf}
use Rattle.cd_resolve.specs.Faults.{Fault, IsFaultOfType, IsFaultOfDeclarations}
use Rattle.cd_resolve.specs.declared.error.NameError.{NameError}
use Rattle.cd_variables.specs.VariableFaults.{IsOneIn}
use Rattle.cd_names.specs.ProgramFaults as faults
use Rattle.cd_names.specs.ProgramFaults.{IsFaultOfProgram}
use Rattle.cd_names.specs.Inner.Faults.{IsFaultOfOne, Reports}
use Rattle.cd_names.specs.Inner.FindingInPrograms.{Found, found_in_program}
use Rattle.cd_resolve.specs.Least.{first_of}
use Rattle.cd_names.proofs.Covering.{Covers, VariablesFound, each_member}
use Rattle.cd_names.proofs.FaultsFound.{OfProgram, covers_program}
use Rattle.cd_names.proofs.FirstReported.{both_reported, reports_same}

-- the faults of declarations, those that are found, and those of the trees that are found
abbrev AnyFound : Declarations → Found → Fault → Type 0
AnyFound types found f = (IsFaultOfDeclarations types f ⊎ IsOneIn f found.faults)
    ⊎ IsFaultOfOne types found.trees f

all_of_any : (Q : Tree → Type 0) (P : Type 0) (trees : List Tree) → AllOf (λ t. Q t → P) trees
    → AnyOf Q trees → P
all_of_any Q P [] all is = elim is [ ]
all_of_any Q P (first ∷ rest) all (inl is) = all.0 is
all_of_any Q P (first ∷ rest) all (inr is) = all_of_any Q P rest all.1 is

any_of_one : (Q : Tree → Type 0) (trees : List Tree) (t : Tree) → IsOneIn t trees → Q t
    → AnyOf Q trees
any_of_one Q [] t there is = elim there [ ]
any_of_one Q (first ∷ rest) t (inl same) is = inl (rw same is)
any_of_one Q (first ∷ rest) t (inr there) is = inr (any_of_one Q rest t there is)

each_fault : (types : Declarations) (P : Fault → Type 0) (trees : List Tree) (f : Fault)
    → AllOf (λ t. (f : Fault) → IsFaultOfType types t f → P f) trees → IsFaultOfOne types trees f
    → P f
each_fault types P [] f all is = elim is [ ]
each_fault types P (first ∷ rest) f all (inl is) = all.0 f is
each_fault types P (first ∷ rest) f all (inr is) = each_fault types P rest f all.1 is

module _ (variables : VariablesFound) (program : Program) where
  abbrev found : Found
  found = found_in_program program

  -- all that is found is a fault of the program
  found_are : (f : Fault) → AnyFound program.types found f → IsFaultOfProgram program f
  found_are f is = by is
    where
      covers : Covers program.types (IsFaultOfProgram program) found
      covers = (covers_program program.types variables (IsFaultOfProgram program) program).1
          (record {
            again = λ o is. faults.declared_again o is;
            main = λ not. faults.no_main not;
            functions = λ one there f is. faults.in_function one f there is;
          })

      by : AnyFound program.types found f → IsFaultOfProgram program f
      by (inl (inl is)) = faults.in_types f is
      by (inl (inr is)) = covers.faults f is
      by (inr is) = each_fault program.types (IsFaultOfProgram program) found.trees f covers.trees
          is

  -- and each fault of the program is found
  are_found : (f : Fault) → IsFaultOfProgram program f → AnyFound program.types found f
  are_found f is = by f is
    where
      covers : Covers program.types (AnyFound program.types found) found
      covers = record {
        faults = λ f is. inl (inr is);
        trees = (each_member _ found.trees).1
            (λ t there f is. inr (any_of_one (λ t. IsFaultOfType program.types t f) found.trees t
            there is));
      }

      all : OfProgram program.types variables (AnyFound program.types found) program
      all = (covers_program program.types variables (AnyFound program.types found) program).0 covers

      by : (f : Fault) → IsFaultOfProgram program f → AnyFound program.types found f
      by f (faults.in_types _ is) = inl (inl is)
      by f (faults.declared_again o is) = all.again o is
      by f (faults.in_function one _ there is) = all.functions one there f is
      by f (faults.no_main not) = all.main not

  pub program_reported : (one : Found) → one ≡ found_in_program program
      → (first second third : Result (Unit {0}) NameError)
      → Reports (IsFaultOfDeclarations program.types) first → Reports (λ f. IsOneIn f one.faults) second
      → Reports (IsFaultOfOne program.types one.trees) third
      → Reports (IsFaultOfProgram program) (first_of (first_of first second) third)
  program_reported one is first second third reported reported_too reported_of_trees =
      reports_same (AnyFound program.types found) (IsFaultOfProgram program)
      (λ f. (found_are f, are_found f))
      (first_of (first_of first second) third)
      (both_reported (λ f. IsFaultOfDeclarations program.types f ⊎ IsOneIn f found.faults)
      (IsFaultOfOne program.types found.trees) (first_of first second) third
      (both_reported (IsFaultOfDeclarations program.types) (λ f. IsOneIn f found.faults) first second
      reported
      (rw is at reported_too)) (rw is at reported_of_trees))
