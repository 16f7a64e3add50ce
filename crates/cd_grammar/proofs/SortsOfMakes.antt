-- What is taken by each make, and last what it gives: of types or of patterns, where its rule gives what is of its own
-- sort. A sign or word may be anything.
use Rattle.std.specs.Prelude.{Bool, true, false, List, [], ◌∷◌}
use Rattle.cd_grammar.specs.declared.make.Make.{Make}
use Rattle.cd_grammar.specs.declared.make.Make.TheVariants as make
use Rattle.cd_grammar.specs.declared.make.One.{One}
use Rattle.cd_grammar.specs.declared.make.One.TheVariants as one
use Rattle.cd_grammar.specs.declared.make.Two.{Two}
use Rattle.cd_grammar.specs.declared.make.Two.TheVariants as two
use Rattle.cd_grammar.specs.declared.make.Three.{Three}
use Rattle.cd_grammar.specs.declared.make.Three.TheVariants as three
use Rattle.cd_grammar.specs.declared.make.Four.{Four}
use Rattle.cd_grammar.specs.declared.make.Four.TheVariants as four
use Rattle.cd_grammar.specs.declared.make.Five.{Five}
use Rattle.cd_grammar.specs.declared.make.Five.TheVariants as five
use Rattle.cd_grammar.specs.declared.make.Six.{Six}
use Rattle.cd_grammar.specs.declared.make.Six.TheVariants as six
use Rattle.cd_grammar.proofs.Sorts.{Sort, OfTree, OfTrees, OfSigns, OfFields, OfNames, OfFile, OfRegular, OfRegulars}
use Rattle.cd_grammar.proofs.Sorts.{OfMark, OfToken, OfLiteral, OfCharacter, OfAtom, OfLabel, OfAnything, OfConstant}
use Rattle.cd_grammar.proofs.Sorts.{OfExpr, OfExprs, OfChain, OfItems, OfExprFields, OfBranches, OfSignatures}
use Rattle.cd_grammar.proofs.Sorts.{OfSteps, OfSources, OfFunction, OfProgram}

module _ (p : Bool) (own : Sort) where
  abbrev pub of_one : One → Sort × Sort
  of_one one.That = (own, own)
  of_one one.Union = (OfTrees p, OfTree p)
  of_one one.Arrows = (OfTrees p, OfTree p)
  of_one one.Meet = (OfSigns p, OfTree p)
  of_one one.Number = (OfToken, OfTree p)
  of_one one.Character = (OfCharacter, OfTree p)
  of_one one.Text = (OfToken, OfTree p)
  of_one one.Atom = (OfAtom, OfTree p)
  of_one one.Named = (OfLabel, OfTree p)
  of_one one.Any = (OfAnything, OfTree p)
  of_one one.Label = (OfLabel, OfTree p)
  of_one one.Others = (OfAnything, OfFields p)
  of_one one.Attributes = (OfFields p, OfTree p)
  of_one one.Item = (OfTree p, OfRegular p)
  of_one one.Run = (OfToken, OfRegular p)
  of_one one.Alternatives = (OfRegulars p, OfRegular p)
  of_one one.InTurn = (OfRegulars p, OfRegular p)
  of_one (one.Mark mark) = (OfAnything, OfMark)
  of_one one.NoFile = (OfAnything, OfFile)
  of_one one.Variable = (OfLabel, OfTree true)
  of_one one.Constant = (OfLiteral, OfConstant)
  of_one one.NoProgram = (OfAnything, OfProgram)
  of_one one.FirstType = (OfNames false, OfProgram)
  of_one one.FirstFunction = (OfFunction, OfProgram)
  of_one one.Chain = (OfChain, OfExpr)
  of_one one.Apply = (OfExprs, OfExpr)
  of_one one.ConstantExpr = (OfLiteral, OfExpr)
  of_one one.VariableExpr = (OfLabel, OfExpr)
  of_one one.LabelExpr = (OfLabel, OfExpr)
  of_one one.AttributesExpr = (OfExprFields, OfExpr)
  of_one one.RunItem = (OfToken, OfItems)
  of_one one.OneItem = (OfExpr, OfItems)

  abbrev pub of_two : Two → Sort × Sort × Sort
  of_two two.First = (own, OfAnything, own)
  of_two two.Second = (OfAnything, own, own)
  of_two two.HalfInterval = (OfToken, OfToken, OfTree p)
  of_two two.AndOthers = (OfFields p, OfFields p, OfFields p)
  of_two two.NextFields = (OfFields p, OfFields p, OfFields p)
  of_two two.NoFields = (OfAnything, OfAnything, OfTree p)
  of_two two.EmptySequence = (OfAnything, OfToken, OfTree p)
  of_two two.TwoRegulars = (OfRegular p, OfRegular p, OfRegulars p)
  of_two two.NextRegular = (OfRegulars p, OfRegular p, OfRegulars p)
  of_two two.ItemRegular = (OfTree p, OfRegular p, OfRegulars p)
  of_two two.Repeated = (OfRegular p, OfMark, OfRegular p)
  of_two two.RepeatedItem = (OfTree p, OfMark, OfRegular p)
  of_two two.NextNames = (OfNames p, OfNames p, OfNames p)
  of_two two.File = (OfAnything, OfNames false, OfFile)
  of_two two.Nil = (OfAnything, OfAnything, OfConstant)
  of_two two.NextType = (OfProgram, OfNames false, OfProgram)
  of_two two.NextFunction = (OfProgram, OfFunction, OfProgram)
  of_two two.NextBranches = (OfBranches, OfBranches, OfBranches)
  of_two (two.Call word) = (OfAnything, OfExpr, OfExpr)
  of_two two.Applied = (OfExpr, OfExpr, OfExprs)
  of_two two.NextApplied = (OfExprs, OfExpr, OfExprs)
  of_two two.NoItems = (OfAnything, OfAnything, OfExpr)
  of_two two.NextItems = (OfItems, OfItems, OfItems)
  of_two two.Splice = (OfAnything, OfExpr, OfItems)
  of_two two.NoExprFields = (OfAnything, OfAnything, OfExpr)
  of_two two.NextExprFields = (OfExprFields, OfExprFields, OfExprFields)
  of_two two.Path = (OfExpr, OfSteps, OfExpr)
  of_two two.FieldStep = (OfAnything, OfLabel, OfSteps)
  of_two two.ChildStep = (OfToken, OfLabel, OfSteps)
  of_two two.AttributeStep = (OfToken, OfLabel, OfSteps)

  abbrev pub of_three : Three → Sort × Sort × Sort × Sort
  of_three three.Between = (OfAnything, own, OfAnything, own)
  of_three three.TwoTrees = (OfTree p, OfAnything, OfTree p, OfTrees p)
  of_three three.NextTree = (OfTrees p, OfAnything, OfTree p, OfTrees p)
  of_three three.BeforeTrees = (OfTree p, OfAnything, OfTrees p, OfTrees p)
  of_three three.Tuple = (OfAnything, OfTrees p, OfAnything, OfTree p)
  of_three (three.FirstSign kept) = (OfTree p, OfAnything, OfTree p, OfSigns p)
  of_three (three.NextSign kept) = (OfSigns p, OfAnything, OfTree p, OfSigns p)
  of_three three.Interval = (OfToken, OfAnything, OfToken, OfTree p)
  of_three three.Characters = (OfCharacter, OfAnything, OfCharacter, OfTree p)
  of_three three.Name = (OfLabel, OfAnything, OfTree p, OfNames p)
  of_three three.AndNames = (OfNames p, OfAnything, OfNames p, OfNames p)
  of_three three.Where = (OfTree p, OfAnything, OfNames p, OfTree p)
  of_three (three.Field optional) = (OfLabel, OfAnything, OfTree p, OfFields p)
  of_three three.SeparateFields = (OfFields p, OfAnything, OfFields p, OfFields p)
  of_three three.SeparateOthers = (OfFields p, OfAnything, OfFields p, OfFields p)
  of_three three.TypedOthers = (OfAnything, OfAnything, OfTree p, OfFields p)
  of_three three.Record = (OfAnything, OfFields p, OfAnything, OfTree p)
  of_three three.Sequence = (OfAnything, OfRegular p, OfAnything, OfTree p)
  of_three three.EitherRegular = (OfRegular p, OfAnything, OfRegular p, OfRegulars p)
  of_three three.OrRegular = (OfRegulars p, OfAnything, OfRegular p, OfRegulars p)
  of_three three.OrItem = (OfRegulars p, OfAnything, OfTree p, OfRegulars p)
  of_three three.RegularOrItem = (OfRegular p, OfAnything, OfTree p, OfRegulars p)
  of_three three.ItemOrRegular = (OfTree p, OfAnything, OfRegular p, OfRegulars p)
  of_three three.ItemsOrRegular = (OfTrees p, OfAnything, OfRegular p, OfRegulars p)
  of_three three.Capture = (OfLabel, OfAnything, OfRegular true, OfRegular true)
  of_three three.Signature = (OfTree false, OfAnything, OfTree false, OfSignatures)
  of_three three.SeparateSignatures = (OfSignatures, OfAnything, OfSignatures, OfSignatures)
  of_three three.Branch = (OfTree true, OfAnything, OfExpr, OfBranches)
  of_three three.UnnamedFunction = (OfLabel, OfSignatures, OfBranches, OfExpr)
  of_three (three.FirstOperand op) = (OfExpr, OfAnything, OfExpr, OfChain)
  of_three (three.NextOperand op) = (OfChain, OfAnything, OfExpr, OfChain)
  of_three three.FirstWithout = (OfExpr, OfAnything, OfLabel, OfChain)
  of_three three.NextWithout = (OfChain, OfAnything, OfLabel, OfChain)
  of_three three.BeforeFieldStep = (OfAnything, OfLabel, OfSteps, OfSteps)
  of_three three.BeforeChildStep = (OfToken, OfLabel, OfSteps, OfSteps)
  of_three three.BeforeAttributeStep = (OfToken, OfLabel, OfSteps, OfSteps)
  of_three three.Source = (OfTree true, OfAnything, OfExpr, OfSources)
  of_three three.TwoExprs = (OfExpr, OfAnything, OfExpr, OfExprs)
  of_three three.NextExpr = (OfExprs, OfAnything, OfExpr, OfExprs)
  of_three three.TupleExpr = (OfAnything, OfExprs, OfAnything, OfExpr)
  of_three three.SequenceExpr = (OfAnything, OfItems, OfAnything, OfExpr)
  of_three three.RecordExpr = (OfAnything, OfExprFields, OfAnything, OfExpr)
  of_three three.ExprField = (OfLabel, OfAnything, OfExpr, OfExprFields)
  of_three three.SeparateExprFields = (OfExprFields, OfAnything, OfExprFields, OfExprFields)

  abbrev pub of_four : Four → Sort × Sort × Sort × Sort × Sort
  of_four four.Declaration = (OfAnything, OfLabel, OfAnything, OfTree false, OfNames false)
  of_four four.Xml = (OfAnything, OfTree p, OfToken, OfTree p, OfTree p)
  of_four (four.Matching form) = (OfAnything, OfExpr, OfAnything, OfBranches, OfExpr)
  of_four four.NamedFunction = (OfLabel, OfLabel, OfSignatures, OfBranches, OfExpr)
  of_four four.XmlExpr = (OfAnything, OfExpr, OfToken, OfExpr, OfExpr)

  abbrev pub of_five : Five → Sort × Sort × Sort × Sort × Sort × Sort
  of_five five.XmlWith = (OfAnything, OfTree p, OfTree p, OfAnything, OfTree p, OfTree p)
  of_five five.Default = (OfAnything, OfLabel, OfAnything, OfConstant, OfAnything, OfTree true)
  of_five five.DeclaredFunction = (OfAnything, OfLabel, OfLabel, OfSignatures, OfBranches, OfFunction)
  of_five five.XmlExprWith = (OfAnything, OfExpr, OfExpr, OfAnything, OfExpr, OfExpr)
  of_five five.SourceWhere = (OfTree true, OfAnything, OfExpr, OfAnything, OfExpr, OfSources)
  of_five five.BeforeSources = (OfTree true, OfAnything, OfExpr, OfAnything, OfSources, OfSources)

  abbrev pub of_six : Six → Sort × Sort × Sort × Sort × Sort × Sort × Sort
  of_six six.Let = (OfAnything, OfTree true, OfAnything, OfExpr, OfAnything, OfExpr, OfExpr)
  of_six six.If = (OfAnything, OfExpr, OfAnything, OfExpr, OfAnything, OfExpr, OfExpr)
  of_six six.Selecting = (OfAnything, OfAnything, OfExpr, OfAnything, OfSources, OfAnything, OfExpr)

  -- of all parts, and of what is made of them
  abbrev pub sorts_of : Make → List Sort × Sort
  sorts_of (make.One is) = let s = of_one is in (s.0 ∷ [], s.1)
  sorts_of (make.Two is) = let s = of_two is in (s.0 ∷ s.1 ∷ [], s.2)
  sorts_of (make.Three is) = let s = of_three is in (s.0 ∷ s.1 ∷ s.2 ∷ [], s.3)
  sorts_of (make.Four is) = let s = of_four is in (s.0 ∷ s.1 ∷ s.2 ∷ s.3 ∷ [], s.4)
  sorts_of (make.Five is) = let s = of_five is in (s.0 ∷ s.1 ∷ s.2 ∷ s.3 ∷ s.4 ∷ [], s.5)
  sorts_of (make.Six is) = let s = of_six is in (s.0 ∷ s.1 ∷ s.2 ∷ s.3 ∷ s.4 ∷ s.5 ∷ [], s.6)
