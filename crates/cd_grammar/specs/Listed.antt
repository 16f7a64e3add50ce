-- The tables of the code, and the machine and the grammar that read them.
use Rattle.cd_lr.specs.Grammar.{Grammar}
use Rattle.cd_lr.specs.Automaton.{Automaton}
use Rattle.cd_lr.specs.Flat.{FlatTables, flat_machine, flat_grammar}
use Rattle.cd_grammar.specs.Language.{Entry, Placed, kind_of, value_of, is_free, build}
use Rattle.cd_grammar.specs.declared.tables.TheConstants.{ACTIONS, GOTOS, LEFTS, LENGTHS}
use Rattle.cd_grammar.specs.declared.tables.TheConstants.{TERMINALS, NONTERMINALS}
use Rattle.cd_grammar.specs.declared.table.TheConstants.{END}

unfoldable pub listed : FlatTables
listed = record {
  actions = ACTIONS;
  gotos = GOTOS;
  lefts = LEFTS;
  lengths = LENGTHS;
  terminals = TERMINALS;
  nonterminals = NONTERMINALS;
  finish = END;
}

abbrev pub automaton : Automaton
automaton = flat_machine listed

abbrev pub the_grammar : Grammar Entry Placed
the_grammar = flat_grammar listed kind_of value_of is_free build
