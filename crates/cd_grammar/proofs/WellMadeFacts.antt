-- That trees, expressions and functions are well made, as facts.
use Rattle.std.proofs.Common.{Bool, true, false}
use Rattle.cd_syntax.specs.Name.{IsLabel}
use Rattle.cd_syntax.specs.TypeTree.{Tree, Regular}
use Rattle.cd_syntax.specs.WellMade.{IsWellMade, IsWellMadeRegular, AreWellMadeDeclarations}
use Rattle.cd_program.specs.WellMade.{IsWellMadeExpr, IsWellMadeFunction}
use Rattle.cd_syntax.specs.WellMadePattern.{IsWellMadePattern, IsWellMadePatternRegular}
use Rattle.cd_program.specs.WellMade.{HasName}
use Rattle.cd_grammar.proofs.SortedParts.{Facts}

-- a type, or a pattern
abbrev pub IsWellMadeTree : (pattern : Bool) → Tree → Type 0
IsWellMadeTree false = IsWellMade
IsWellMadeTree true = IsWellMadePattern

abbrev pub IsWellMadeSequence : (pattern : Bool) → Regular → Type 0
IsWellMadeSequence false = IsWellMadeRegular
IsWellMadeSequence true = IsWellMadePatternRegular

abbrev pub well_made : Facts
well_made = record {
  of_tree = IsWellMadeTree;
  of_regular = IsWellMadeSequence;
  of_label = IsLabel;
  of_file = AreWellMadeDeclarations;
  of_expr = IsWellMadeExpr;
  of_function = λ is. HasName is × IsWellMadeFunction is;
}
