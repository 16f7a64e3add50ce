-- The machine that reads a comment to its end, one character after the other.
use Rattle.std.specs.Prelude.{ℕ, suc, ◌-◌, ◌==◌, List, [], ◌∷◌, Option, Some, None, if◌then◌else◌}
use Rattle.std.specs.Option.{option_map, option_map_or}
use Rattle.cd_lex.specs.declared.comment.Before.{Before}
use Rattle.cd_lex.specs.declared.comment.Before.TheVariants.{Nothing, Parenthesis, Star}
use Rattle.cd_lex.specs.declared.comment.CommentState.{CommentState}

-- what a character may begin
abbrev pub begins : ℕ → Before
begins c = if c == 40 then Parenthesis else (if c == 42 then Star else Nothing)

-- the state after a whole pair, with so many comments around it
abbrev pub within : ℕ → CommentState
within around = record { around = around; before = Nothing }

-- the state after a character that ends no pair
abbrev pub after : ℕ → ℕ → CommentState
after around c = record { around = around; before = begins c }

-- one character, with so many comments around and this before it
abbrev pub step : ℕ → Before → ℕ → Option CommentState
step around Nothing c = Some (after around c)
step around Parenthesis c = if c == 42 then Some (within (suc around)) else Some (after around c)
step around Star c = if c ==
    41 then (if around == 0 then None else Some (within (around - 1))) else Some (after around c)

-- one character: the state after it, or none where it closes the outermost comment
abbrev pub step_of : CommentState → ℕ → Option CommentState
step_of state c = step state.around state.before c

-- how many characters of the text close the outermost comment, from this state on
abbrev pub length_from : CommentState → List ℕ → Option ℕ
length_from state [] = None
length_from state (c ∷ cs) =
    option_map suc (option_map_or (λ next. length_from next cs) (step_of state c) (Some 0))

-- what is left of the text after the characters that close the outermost comment
abbrev pub left_from : CommentState → List ℕ → Option (List ℕ)
left_from state [] = None
left_from state (c ∷ cs) = option_map_or (λ next. left_from next cs) (step_of state c) (Some cs)
