-- What is made of one part of its sort is of its own sort, and the facts hold of it.
use Rattle.std.proofs.Common.{◌≡◌, sym, subst, ℕ, Bool, List, [], ◌∷◌, map, Option, Some, None}
use Rattle.std.specs.List.{AllByRecursion as AllOf}
use Rattle.cd_syntax.specs.declared.tokens.Span.{Span}
use Rattle.cd_syntax.specs.declared.builtin.BuiltinName.{BuiltinName}
use Rattle.cd_syntax.specs.declared.constant.Constant.{Constant}
use Rattle.cd_syntax.specs.Name.{Name}
use Rattle.cd_syntax.specs.TypeTree.{Tree, tree, regular, Open}
use Rattle.cd_program.specs.Expr.{expr, Constant as a_constant}
use Rattle.cd_tables.specs.Rows.{row_of}
use Rattle.cd_tables.specs.Words.{type_names}
use Rattle.cd_grammar.specs.declared.make.One.{One}
use Rattle.cd_grammar.specs.declared.make.One.TheVariants as one
use Rattle.cd_grammar.specs.Parts.{Part, AConstant, AnExpr, of_one as of_part}
use Rattle.cd_grammar.specs.Actions.{name_in, characters_in, constant_of, type_of, item_of, letter, letters}
use Rattle.cd_grammar.specs.Makes.{made_of_one}
use Rattle.cd_grammar.proofs.Sorts.{Sort, OfConstant, OfExpr}
use Rattle.cd_grammar.proofs.SortsOfMakes.{of_one}
use Rattle.cd_grammar.proofs.SortedParts.{Facts, AreKept, OfValue, Fits, one_tree, some_trees, some_signs}
use Rattle.cd_grammar.proofs.SortedParts.{some_fields, some_names, one_regular, some_regulars, one_file, one_mark}
use Rattle.cd_grammar.proofs.SortedParts.{one_constant, one_expr, some_exprs, one_chain, some_items, some_expr_fields}
use Rattle.cd_grammar.proofs.SortedParts.{one_function, one_program, one_token, one_literal, one_character, one_atom}
use Rattle.cd_grammar.proofs.SortedParts.{one_label}

module _ (facts : Facts) (kept : AreKept facts) where
  open facts use {of_tree as T, of_regular as R, of_label as L}
  open kept use {trees_kept, patterns_kept, exprs_kept, file}

  -- a name is that of a built in type, or another
  name_fits : (p : Bool) (here : Span) (name : Name) (found : Option BuiltinName) → T p (tree here (type_of found name))
  name_fits p here name None = (trees_kept p).named here name
  name_fits p here name (Some is) = (trees_kept p).built_in here is

  -- items and letters
  pub item_fits : (p : Bool) (is : Tree) → T p is → R p (item_of is)
  item_fits p (tree span kind) so = (trees_kept p).item span (tree span kind) so

  pub items_fit : (p : Bool) (all : List Tree) → AllOf (T p) all → AllOf (R p) (map item_of all)
  items_fit p [] are = tt
  items_fit p (first ∷ rest) are = (item_fits p first are.0, items_fit p rest are.1)

  each_letter : (p : Bool) (here : Span) (all : List ℕ) → AllOf (R p) (map (letter here) all)
  each_letter p here [] = tt
  each_letter p here (c ∷ rest) =
      ((trees_kept p).item here _ ((trees_kept p).chars here c c), each_letter p here rest)

  letters_fit : (p : Bool) (here : Span) (all : List ℕ) → R p (regular here (letters here all))
  letters_fit p here [] = (trees_kept p).nothing here
  letters_fit p here (c ∷ rest) =
      (trees_kept p).in_turn here (map (letter here) (c ∷ rest)) (each_letter p here (c ∷ rest))

  -- a constant that was found
  constant_fits : (found : Option Constant) (value : Constant) → found ≡ Some value → OfValue L value
      → Fits facts OfConstant (of_part found (λ it. AConstant it))
  constant_fits found value same so =
      subst (λ c. Fits facts OfConstant (of_part c (λ it. AConstant it))) (sym same) (one_constant value so)

  constant_expr_fits : (here : Span) (found : Option Constant) (value : Constant) → found ≡ Some value → OfValue L value
      → Fits facts OfExpr (of_part found (λ it. AnExpr (expr here (a_constant it))))
  constant_expr_fits here found value same so =
      subst (λ c. Fits facts OfExpr (of_part c (λ it. AnExpr (expr here (a_constant it))))) (sym same)
      (one_expr _ (exprs_kept.constant here value so))

  pub one_fits : (p : Bool) (own : Sort) (m : One) (here : Span) (part : Part) → Fits facts (of_one p own m).0 part
      → Fits facts (of_one p own m).1 (made_of_one m here part)
  one_fits p own one.That here part is = is
  one_fits p own one.Union here _ (some_trees first second rest are) =
      one_tree _ ((trees_kept p).union here first second rest are)
  one_fits p own one.Arrows here _ (some_trees first second rest are) =
      one_tree _ ((trees_kept p).arrows here first second rest are)
  one_fits p own one.Meet here _ (some_signs first rest is are) =
      one_tree _ ((trees_kept p).meet here first rest is are)
  one_fits p own one.Number here _ (one_token is) = one_tree _ ((trees_kept p).ints here _ _)
  one_fits p own one.Character here _ (one_character c span) = one_tree _ ((trees_kept p).chars here c c)
  one_fits p own one.Text here _ (one_token is) = one_tree _ ((trees_kept p).letters here _)
  one_fits p own one.Atom here _ (one_atom name span so) = one_tree _ ((trees_kept p).atom here name so)
  one_fits p own one.Named here _ (one_label is so) =
      one_tree _ (name_fits p here (name_in is.kind) (row_of type_names (name_in is.kind)))
  one_fits p own one.Any here part is = one_tree _ ((trees_kept p).built_in here _)
  one_fits p own one.Label here _ (one_label is so) = one_tree _ ((trees_kept p).atom here _ so)
  one_fits p own one.Others here part is = some_fields [] Open tt tt
  one_fits p own one.Attributes here _ (some_fields all others are so) =
      one_tree _ ((trees_kept p).fields here all others are so)
  one_fits p own one.Item here _ (one_tree is so) = one_regular _ (item_fits p is so)
  one_fits p own one.Run here _ (one_token is) = one_regular _ (letters_fit p here (characters_in is.kind))
  one_fits p own one.Alternatives here _ (some_regulars first second rest are) =
      one_regular _ ((trees_kept p).alternatives here (first ∷ second ∷ rest) are)
  one_fits p own one.InTurn here _ (some_regulars first second rest are) =
      one_regular _ ((trees_kept p).in_turn here (first ∷ second ∷ rest) are)
  one_fits p own (one.Mark mark) here part is = one_mark mark
  one_fits p own one.NoFile here part is = one_file _ (file [] tt)
  one_fits p own one.Variable here _ (one_label is so) = one_tree _ (patterns_kept.variable here _ so)
  one_fits p own one.Constant here _ (one_literal is value same so) =
      constant_fits (constant_of is.kind) value same so
  one_fits p own one.NoProgram here part is = one_program [] [] tt tt
  one_fits p own one.FirstType here _ (some_names all are) = one_program all [] are tt
  one_fits p own one.FirstFunction here _ (one_function is so) = one_program [] (is ∷ []) tt (so, tt)
  one_fits p own one.Chain here _ (one_chain first next rest is are) =
      one_expr _ (exprs_kept.chain here first next rest is are)
  one_fits p own one.Apply here _ (some_exprs first second rest are) =
      one_expr _ (exprs_kept.apply here first second rest are)
  one_fits p own one.ConstantExpr here _ (one_literal is value same so) =
      constant_expr_fits here (constant_of is.kind) value same so
  one_fits p own one.VariableExpr here _ (one_label is so) = one_expr _ (exprs_kept.variable here _ so)
  one_fits p own one.LabelExpr here _ (one_label is so) = one_expr _ (exprs_kept.constant here _ so)
  one_fits p own one.AttributesExpr here _ (some_expr_fields all are) = one_expr _ (exprs_kept.fields here all are)
  one_fits p own one.RunItem here _ (one_token is) = some_items _ (tt, tt)
  one_fits p own one.OneItem here _ (one_expr is so) = some_items _ (so, tt)
