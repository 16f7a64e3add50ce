-- The clauses of the conjuncts of each kind.
use Rattle.std.specs.Prelude.{List, [], ◌∷◌, ◌++◌, map}
use Rattle.cd_sets.specs.declared.question.Question.{Question}
use Rattle.cd_model.specs.Formula.{Graph}
use Rattle.cd_rules.specs.Clauses.{Clause}
use Rattle.cd_rules.specs.KindDnf.{kind_dnf_of}
use Rattle.cd_rules.specs.PartialConjuncts.{clause_by}
use Rattle.cd_normal.specs.declared.kind.Kind.{Kind}
use Rattle.cd_normal.specs.Inner.PlainKind.{plain_kind, kinds}

-- the clauses of a question, of one kind and of several
abbrev pub clauses_of_kind : Graph → Question → Kind → List Clause
clauses_of_kind graph question kind =
    map (clause_by (plain_kind kind)) (kind_dnf_of (plain_kind kind) graph question)

abbrev pub clauses_of_kinds : Graph → Question → List Kind → List Clause
clauses_of_kinds graph question [] = []
clauses_of_kinds graph question (kind ∷ some) =
    clauses_of_kind graph question kind ++ clauses_of_kinds graph question some

abbrev pub clauses_of_all : Graph → Question → List Clause
clauses_of_all graph question = clauses_of_kinds graph question kinds
