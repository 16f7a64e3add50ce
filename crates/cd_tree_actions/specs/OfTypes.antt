-- What a part is to a rule of types or patterns: one of programs is nothing of use.
use Rattle.cd_grammar.specs.Parts.{Part, AnExpr, Exprs, AChain, Items, ExprFields, Branches}
use Rattle.cd_grammar.specs.Parts.{Signatures, Steps, Sources, AFunction, AProgram, Junk}

abbrev pub of_types : Part → Part
of_types (AnExpr is) = Junk
of_types (Exprs all) = Junk
of_types (AChain first rest) = Junk
of_types (Items all) = Junk
of_types (ExprFields all) = Junk
of_types (Branches all) = Junk
of_types (Signatures all) = Junk
of_types (Steps all) = Junk
of_types (Sources all condition) = Junk
of_types (AFunction is) = Junk
of_types (AProgram types functions) = Junk
of_types other = other
