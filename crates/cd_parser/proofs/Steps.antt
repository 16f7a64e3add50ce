-- Steps of the automaton.
use Rattle.std.proofs.Common.{◌≡◌, ◌∙◌, sym, ap, ap₂, refl, ℕ, ◌≤◌, List, [], ◌∷◌, map, drop, length}
use Rattle.std.proofs.lemmas.List.{drop_all}
use Rattle.cd_syntax.specs.declared.tokens.Token.{Token}
use Rattle.cd_lr.specs.Automaton as machine
use Rattle.cd_lr.specs.Automaton.{Reduce, Cell, Config, On, Reaches, here, on}
use Rattle.cd_lr.specs.Flat.{entry}
use Rattle.cd_grammar.specs.Language.{Entry, Read, Placed}
use Rattle.cd_grammar.specs.declared.table.TheConstants.{END}
use Rattle.cd_parser.specs.Ahead.{terminal_ahead}
use Rattle.cd_grammar.specs.Listed.{listed, automaton, the_grammar}
use Rattle.cd_lr.proofs.FlatMachine.{blanks_length}

-- past the last token
pub end_ahead : (index : ℕ) (tokens : List Token) → length tokens ≤ index → END ≡ terminal_ahead (drop index tokens)
unfolding listed
end_ahead index tokens long = ap terminal_ahead (sym (drop_all index tokens long))

look_ahead : (most : ℕ) (rest : List Token)
    → terminal_ahead rest ≡ machine.look the_grammar automaton most (map Read rest)
look_ahead most [] = refl
look_ahead most (token ∷ rest) = refl

pub reduce_step : (most state terminal rule : ℕ) (stack after : List (Cell Placed)) (rest : List Token)
    → Reduce rule ≡ automaton.action state terminal → state ≡ machine.state_of stack → terminal ≡ terminal_ahead rest
    → after ≡ machine.pushed the_grammar automaton most rule (machine.popped (entry listed.lengths rule) [] stack)
    → On record { stack = after; rest = map Read rest }
    ≡ machine.step the_grammar automaton most record { stack = stack; rest = map Read rest }
reduce_step most state terminal rule stack after rest is at ahead put =
    ap config (put
    ∙ ap (λ n. machine.pushed the_grammar automaton most rule (machine.popped n [] stack))
    (sym (blanks_length (entry listed.lengths rule))))
    ∙ ap (λ action. machine.act the_grammar automaton most action stack (map Read rest))
    (is ∙ ap₂ (λ s k. automaton.action s k) at (ahead ∙ look_ahead most rest))
  where
    config : List (Cell Placed) → machine.Next Entry Placed
    config all = On record { stack = all; rest = map Read rest }

-- a run and one more step
pub longer : (most : ℕ) (c d e : Config Entry Placed) → Reaches the_grammar automaton most c d
    → machine.step the_grammar automaton most d ≡ On e → Reaches the_grammar automaton most c e
longer most _ d e (here c) is = on c e e is (here e)
longer most _ f e (on c d f' one more) is = on c d e one (longer most d f e more is)
