-- What is of one sort is of another one: of the same, of the sort of anything, and some tokens are of several sorts.
use Rattle.std.proofs.Common.{refl, Bool, true, false, List, [], ◌∷◌, Option, Some, None}
use Rattle.cd_syntax.specs.declared.constant.Constant.TheVariants as constants
use Rattle.cd_grammar.specs.Parts.{Part}
use Rattle.cd_grammar.proofs.Sorts.{Sort, OfTree, OfTrees, OfSigns, OfFields, OfNames, OfFile, OfRegular, OfRegulars}
use Rattle.cd_grammar.proofs.Sorts.{OfMark, OfToken, OfLiteral, OfCharacter, OfAtom, OfLabel, OfAnything, OfConstant}
use Rattle.cd_grammar.proofs.Sorts.{OfExpr, OfExprs, OfChain, OfItems, OfExprFields, OfBranches, OfSignatures}
use Rattle.cd_grammar.proofs.Sorts.{OfSteps, OfSources, OfFunction, OfProgram}
use Rattle.cd_grammar.proofs.SortedParts.{Facts, Fits, one_token, one_literal, one_character, one_atom, one_part}
use Rattle.cd_grammar.proofs.SortedParts.{AreFit, none, and}

pub data IsIn : Sort → Sort → Type 0 where
  same : {sort : Sort} → IsIn sort sort
  in_anything : {sort : Sort} → IsIn sort OfAnything
  literal_in_token : IsIn OfLiteral OfToken
  character_in_token : IsIn OfCharacter OfToken
  character_in_literal : IsIn OfCharacter OfLiteral
  atom_in_literal : IsIn OfAtom OfLiteral

-- both of types, or both of patterns
abbrev same_of : (sort : Bool → Sort) (p q : Bool) → Option (IsIn (sort p) (sort q))
same_of sort false false = Some same
same_of sort true true = Some same
same_of sort _ _ = None

abbrev pub is_in : (given wanted : Sort) → Option (IsIn given wanted)
is_in given OfAnything = Some in_anything
is_in (OfTree p) (OfTree q) = same_of OfTree p q
is_in (OfTrees p) (OfTrees q) = same_of OfTrees p q
is_in (OfSigns p) (OfSigns q) = same_of OfSigns p q
is_in (OfFields p) (OfFields q) = same_of OfFields p q
is_in (OfNames p) (OfNames q) = same_of OfNames p q
is_in (OfRegular p) (OfRegular q) = same_of OfRegular p q
is_in (OfRegulars p) (OfRegulars q) = same_of OfRegulars p q
is_in OfFile OfFile = Some same
is_in OfMark OfMark = Some same
is_in OfConstant OfConstant = Some same
is_in OfExpr OfExpr = Some same
is_in OfExprs OfExprs = Some same
is_in OfChain OfChain = Some same
is_in OfItems OfItems = Some same
is_in OfExprFields OfExprFields = Some same
is_in OfBranches OfBranches = Some same
is_in OfSignatures OfSignatures = Some same
is_in OfSteps OfSteps = Some same
is_in OfSources OfSources = Some same
is_in OfFunction OfFunction = Some same
is_in OfProgram OfProgram = Some same
is_in OfToken OfToken = Some same
is_in OfLiteral OfLiteral = Some same
is_in OfCharacter OfCharacter = Some same
is_in OfAtom OfAtom = Some same
is_in OfLabel OfLabel = Some same
is_in OfLiteral OfToken = Some literal_in_token
is_in OfCharacter OfToken = Some character_in_token
is_in OfCharacter OfLiteral = Some character_in_literal
is_in OfAtom OfLiteral = Some atom_in_literal
is_in _ _ = None

abbrev pub AreIn : (given wanted : List Sort) → Type 0
AreIn [] [] = Unit {0}
AreIn (one ∷ given) (other ∷ wanted) = IsIn one other × AreIn given wanted
AreIn _ _ = ⊥

-- two things that are there
abbrev pub both_found : {A B : Type 0} → Option A → Option B → Option (A × B)
both_found (Some a) (Some b) = Some (a, b)
both_found _ _ = None

abbrev pub are_in : (given wanted : List Sort) → Option (AreIn given wanted)
are_in [] [] = Some tt
are_in (one ∷ given) (other ∷ wanted) = both_found (is_in one other) (are_in given wanted)
are_in [] (other ∷ wanted) = None
are_in (one ∷ given) [] = None

module _ (facts : Facts) where
  pub in_fits : (given wanted : Sort) (part : Part) → IsIn given wanted → Fits facts given part → Fits facts wanted part
  in_fits _ _ part same fits = fits
  in_fits _ _ part in_anything fits = one_part part
  in_fits _ _ _ literal_in_token (one_literal is value found so) = one_token is
  in_fits _ _ _ character_in_token (one_character c span) = one_token _
  in_fits _ _ _ character_in_literal (one_character c span) = one_literal _ (constants.Char c) refl tt
  in_fits _ _ _ atom_in_literal (one_atom name span so) = one_literal _ (constants.Atom name) refl so

  pub in_fit : (given wanted : List Sort) (parts : List Part) → AreIn given wanted → AreFit facts given parts
      → AreFit facts wanted parts
  in_fit [] [] _ are none = none
  in_fit (one ∷ given) (other ∷ wanted) _ are (and {part = part} {parts = parts} is fit) =
      and (in_fits one other part are.0 is) (in_fit given wanted parts are.1 fit)
  in_fit [] (other ∷ wanted) parts never fit = absurd never
  in_fit (one ∷ given) [] parts never fit = absurd never
