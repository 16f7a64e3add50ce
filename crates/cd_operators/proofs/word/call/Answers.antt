use Rattle.std.proofs.Common.{sym, subst, lit<}
use Rattle.std.proofs.lemmas.Result.{err_from_is_err_and}
use Rattle.cd_model.specs.BuiltIns.{BOOL, DATA, EMPTY, INT, STRING}
use Rattle.cd_model.specs.Formula.{Graph}
use Rattle.cd_program.specs.declared.operator.BuiltIn.{BuiltIn as Word}
use Rattle.cd_program.specs.declared.operator.BuiltIn.TheVariants as word
use Rattle.cd_meaning.specs.Sequences.{IsItemOf}
use Rattle.cd_meaning.specs.Sets.{◌⊆◌, elements_of}
use Rattle.cd_typing.specs.Operators.{IsNumbers}
use Rattle.cd_typing.specs.Typ.{In}
use Rattle.cd_typing.proofs.Subsets.{through}
use Rattle.cd_empty.specs.Seen.{graph_of, table_of}
use Rattle.cd_operators.specs.declared.misfit.Side.TheVariants.{First}
use Rattle.cd_operators.specs.Misfits.{IsMisfitOfWord}
use Rattle.cd_operators.specs.ResultTypes.{IsLeastResultOfWord}
use Rattle.cd_operators.proofs.BuiltInNodes.{in_type, type_in_node, type_stays, node_within}
use Rattle.cd_operators.proofs.Numbers.{extreme_least}
use Rattle.cd_operators.proofs.Operated.{empty_least}
use Rattle.cd_operators.proofs.Outcomes.{of_either}
use Rattle.cd_operators.proofs.Refused.{misfit_of_word}
use Rattle.cd_operators.proofs.word.call.Goals as goal

-- `not`
pub returns-in_err-need-in-Not-clause-misfit : goal.returns-in_err-need-in-Not-clause-misfit
returns-in_err-need-in-Not-clause-misfit c =
    let graph = graph_of c.args.world.now in
    let table = table_of c.need.new.world in
    let is = err_from_is_err_and c.from_residual.result
    c.from_residual.ensures.1 in
    let stop = c.in_err-need-in-Not.field-0.0 in
    rw (is.1, is.2)
    (subst (λ (one : Word). IsMisfitOfWord graph table one c.args.operand stop) (sym c.in-Not.is)
    (misfit_of_word graph table (elements_of graph BOOL) First c.args.operand word.Not
    (type_in_node graph c.graph.ensures.built_in BOOL (lit< tt)) stop
    c.in_err-need-in-Not.ensures.misfit))

pub returns-in_ok-need-in-Not-clause-least : goal.returns-in_ok-need-in-Not-clause-least
returns-in_ok-need-in-Not-clause-least c =
    let graph = graph_of c.args.world.now in
    let begins = c.graph.ensures.built_in in
    let last = graph_of c.need.new.world in
    let same = c.in_ok-need-in-Not.ensures.graph in
    subst (λ (one : Word). IsLeastResultOfWord one (elements_of graph c.args.operand)
    (elements_of last BOOL)) (sym c.in-Not.is) (record {
      gives = (
        in_type graph begins BOOL (lit< tt) (elements_of graph c.args.operand)
            c.in_ok-need-in-Not.ensures.within,
        type_stays graph begins BOOL (lit< tt) last same,
      );
      within = λ wider result fewer gives. node_within graph begins BOOL (lit< tt) last same
          (In result) gives.1;
    })

-- `int_of`
pub returns-in_err-need-in-IntOf-clause-misfit : goal.returns-in_err-need-in-IntOf-clause-misfit
returns-in_err-need-in-IntOf-clause-misfit c =
    let graph = graph_of c.args.world.now in
    let table = table_of c.need-in-IntOf.new.world in
    let is = err_from_is_err_and c.from_residual-in_err-need-in-IntOf.result
    c.from_residual-in_err-need-in-IntOf.ensures.1 in
    let stop = c.in_err-need-in-IntOf.field-0.0 in
    rw (is.1, is.2)
    (subst (λ (one : Word). IsMisfitOfWord graph table one c.args.operand stop) (sym c.in-IntOf.is)
    (misfit_of_word graph table (elements_of graph STRING) First c.args.operand word.IntOf
    (type_in_node graph c.graph.ensures.built_in STRING (lit< tt)) stop
    c.in_err-need-in-IntOf.ensures.misfit))

pub returns-in_ok-need-in-IntOf-clause-least : goal.returns-in_ok-need-in-IntOf-clause-least
returns-in_ok-need-in-IntOf-clause-least c =
    let graph = graph_of c.args.world.now in
    let begins = c.graph.ensures.built_in in
    let last = graph_of c.need-in-IntOf.new.world in
    let same = c.in_ok-need-in-IntOf.ensures.graph in
    subst (λ (one : Word). IsLeastResultOfWord one (elements_of graph c.args.operand)
    (elements_of last INT)) (sym c.in-IntOf.is) (record {
      gives = (
        in_type graph begins STRING (lit< tt) (elements_of graph c.args.operand)
            c.in_ok-need-in-IntOf.ensures.within,
        type_stays graph begins INT (lit< tt) last same,
      );
      within = λ wider result fewer gives. node_within graph begins INT (lit< tt) last same
          (In result) gives.1;
    })

-- `string_of`
pub returns-in_err-need-in-StringOf-clause-misfit : goal.returns-in_err-need-in-StringOf-clause-misfit
returns-in_err-need-in-StringOf-clause-misfit c =
    let graph = graph_of c.args.world.now in
    let table = table_of c.need-in-StringOf.new.world in
    let is = err_from_is_err_and c.from_residual-in_err-need-in-StringOf.result
    c.from_residual-in_err-need-in-StringOf.ensures.1 in
    let stop = c.in_err-need-in-StringOf.field-0.0 in
    rw (is.1, is.2)
    (subst (λ (one : Word). IsMisfitOfWord graph table one c.args.operand stop) (sym c.in-StringOf.is)
    (misfit_of_word graph table (elements_of graph INT) First c.args.operand word.StringOf
    (type_in_node graph c.graph.ensures.built_in INT (lit< tt)) stop
    c.in_err-need-in-StringOf.ensures.misfit))

pub returns-in_ok-need-in-StringOf-clause-least : goal.returns-in_ok-need-in-StringOf-clause-least
returns-in_ok-need-in-StringOf-clause-least c =
    let graph = graph_of c.args.world.now in
    let begins = c.graph.ensures.built_in in
    let last = graph_of c.need-in-StringOf.new.world in
    let same = c.in_ok-need-in-StringOf.ensures.graph in
    subst (λ (one : Word). IsLeastResultOfWord one (elements_of graph c.args.operand)
    (elements_of last STRING)) (sym c.in-StringOf.is) (record {
      gives = (
        in_type graph begins INT (lit< tt) (elements_of graph c.args.operand)
            c.in_ok-need-in-StringOf.ensures.within,
        type_stays graph begins STRING (lit< tt) last same,
      );
      within = λ wider result fewer gives. node_within graph begins STRING (lit< tt) last same
          (In result) gives.1;
    })

-- `min_of` and `max_of`
pub returns-in_err-need-in-MinOf-clause-misfit : goal.returns-in_err-need-in-MinOf-clause-misfit
returns-in_err-need-in-MinOf-clause-misfit c =
    let graph = graph_of c.args.world.now in
    let table = table_of c.need-in-MinOf.new.world in
    let numbers = elements_of graph c.args.tools.now.numbers in
    let is = err_from_is_err_and c.from_residual-in_err-need-in-MinOf.result
    c.from_residual-in_err-need-in-MinOf.ensures.1 in
    let stop = c.in_err-need-in-MinOf.field-0.0 in
    rw (is.1, is.2)
    (of_either (λ (one : Word). IsMisfitOfWord graph table one c.args.operand stop) c.args.word
    word.MinOf word.MaxOf c.in-MinOf.is
    (misfit_of_word graph table numbers First c.args.operand word.MinOf
    c.requires.tools.all_numbers stop c.in_err-need-in-MinOf.ensures.misfit)
    (misfit_of_word graph table numbers First c.args.operand word.MaxOf
    c.requires.tools.all_numbers stop c.in_err-need-in-MinOf.ensures.misfit))

pub returns-in_ok-items-in-MinOf-clause-least : goal.returns-in_ok-items-in-MinOf-clause-least
returns-in_ok-items-in-MinOf-clause-least c =
    let graph = graph_of c.args.world.now in
    let operand = elements_of graph c.args.operand in
    let result = elements_of (graph_of c.items.new.world) c.in_ok-items-in-MinOf.field-0 in
    let same = c.in_ok-need-in-MinOf.ensures.graph in
    extreme_least operand result
    (through operand (elements_of graph c.args.tools.now.numbers) IsNumbers
    c.in_ok-need-in-MinOf.ensures.within c.requires.tools.are_numbers)
    (subst (λ (g : Graph). IsItemOf (elements_of g c.args.operand) ⊆ result) same
    c.in_ok-items-in-MinOf.ensures.has)
    (subst (λ (g : Graph). result ⊆ IsItemOf (elements_of g c.args.operand)) same
    c.in_ok-items-in-MinOf.ensures.only) c.args.word c.in-MinOf.is

-- `raise`
pub returns-in_err-need-in-Raise-clause-misfit : goal.returns-in_err-need-in-Raise-clause-misfit
returns-in_err-need-in-Raise-clause-misfit c =
    let graph = graph_of c.args.world.now in
    let table = table_of c.need-in-Raise.new.world in
    let is = err_from_is_err_and c.from_residual-in_err-need-in-Raise.result
    c.from_residual-in_err-need-in-Raise.ensures.1 in
    let stop = c.in_err-need-in-Raise.field-0.0 in
    rw (is.1, is.2)
    (subst (λ (one : Word). IsMisfitOfWord graph table one c.args.operand stop) (sym c.in-Raise.is)
    (misfit_of_word graph table (elements_of graph DATA) First c.args.operand word.Raise
    (type_in_node graph c.graph.ensures.built_in DATA (lit< tt)) stop
    c.in_err-need-in-Raise.ensures.misfit))

pub returns-in_ok-need-in-Raise-clause-least : goal.returns-in_ok-need-in-Raise-clause-least
returns-in_ok-need-in-Raise-clause-least c =
    let graph = graph_of c.args.world.now in
    let begins = c.graph.ensures.built_in in
    let last = graph_of c.need-in-Raise.new.world in
    subst (λ (one : Word). IsLeastResultOfWord one (elements_of graph c.args.operand)
    (elements_of last EMPTY)) (sym c.in-Raise.is) (record {
      gives = in_type graph begins DATA (lit< tt) (elements_of graph c.args.operand)
          c.in_ok-need-in-Raise.ensures.within;
      within = λ wider result fewer gives. node_within graph begins EMPTY (lit< tt) last
          c.in_ok-need-in-Raise.ensures.graph (In result) (empty_least (In result));
    })

-- `flatten`
pub returns-in-Flatten-clause-least : goal.returns-in-Flatten-clause-least
returns-in-Flatten-clause-least c = rw c.in-Flatten.is c.flatten.ensures.least
