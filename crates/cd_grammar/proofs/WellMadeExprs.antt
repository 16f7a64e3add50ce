-- What rules make of well made expressions, functions and programs is well made.
use Rattle.std.proofs.Common.{◌≡◌, ◌≢◌, ◌∙◌, sym, refl, ℕ, true, false, List, [], ◌∷◌, Option, Some, None}
use Rattle.std.proofs.Common.{codes, bytes_eq}
use Rattle.std.proofs.lemmas.Slice.Eq.{bytes_eq-Decides}
use Rattle.std.specs.List.{AllByRecursion as AllOf}
use Rattle.cd_syntax.specs.Name.{Name, IsLabel}
use Rattle.cd_syntax.specs.WellMade.{IsWellMade}
use Rattle.cd_program.specs.declared.operator.Form.{Form}
use Rattle.cd_program.specs.declared.operator.Form.TheVariants as form
use Rattle.cd_program.specs.Expr.{Expr, exprs_of, Item, items_of, One, Splice, Run, Field, fields_of, Tail}
use Rattle.cd_program.specs.Expr.{Tails, NoTail, ATail, Operand, Without, Select, tails_of, Branch, Branches, NoBranch}
use Rattle.cd_program.specs.Expr.{ABranch, branches_of, Signature, FunctionTree, function, of_form}
use Rattle.cd_program.specs.WellMade.{AreWellMadeSignatures, IsWellMadeName, IsWellMadeExpr}
use Rattle.cd_syntax.specs.WellMadePattern.{IsWellMadePattern}
use Rattle.cd_program.specs.WellMade.{IsWellMadeExprKind, AreWellMadeExprs, AreWellMadeItems, AreWellMadeExprFields}
use Rattle.cd_program.specs.WellMade.{AreWellMadeTails, AreWellMadeBranches, IsWellMadeFunction, HasName}
use Rattle.cd_program.specs.WellMade.{AreWellMadeFunctions}
use Rattle.cd_query.specs.Core.{content_name, child_name}
use Rattle.cd_grammar.proofs.SortedParts.{ExprsAreKept, HiddenAreKept, OfItem, OfExprField, OfTail, OfBranch}
use Rattle.cd_grammar.proofs.SortedParts.{OfSignature}
use Rattle.cd_grammar.proofs.WellMadeFacts.{well_made}
use Rattle.cd_grammar.proofs.WellMadePatterns.{value_made}

exprs_made : (all : List Expr) → AllOf IsWellMadeExpr all → AreWellMadeExprs (exprs_of all)
exprs_made [] are = tt
exprs_made (first ∷ rest) are = (are.0, exprs_made rest are.1)

items_made : (all : List Item) → AllOf (OfItem IsWellMadeExpr) all → AreWellMadeItems (items_of all)
items_made [] are = tt
items_made (One is ∷ rest) are = (are.0, items_made rest are.1)
items_made (Splice is ∷ rest) are = (are.0, items_made rest are.1)
items_made (Run characters ∷ rest) are = (tt, items_made rest are.1)

fields_made : (all : List Field) → AllOf (OfExprField IsWellMadeExpr IsLabel) all → AreWellMadeExprFields (fields_of all)
fields_made [] are = tt
fields_made (first ∷ rest) are = (are.0.0, are.0.1, fields_made rest are.1)

tails_made : (all : List Tail) → AllOf (OfTail IsWellMadeExpr IsLabel) all → AreWellMadeTails (tails_of all)
tails_made [] are = tt
tails_made (Operand op is ∷ rest) are = (are.0, tails_made rest are.1)
tails_made (Without label ∷ rest) are = (are.0, tails_made rest are.1)
tails_made (Select label ∷ rest) are = (are.0, tails_made rest are.1)

branches_made : (all : List Branch) → AllOf (OfBranch IsWellMadePattern IsWellMadeExpr) all
    → AreWellMadeBranches (branches_of all)
branches_made [] are = tt
branches_made (first ∷ rest) are = (are.0.0, are.0.1, branches_made rest are.1)

signatures_made : (all : List Signature) → AllOf (OfSignature IsWellMade) all → AreWellMadeSignatures all
signatures_made [] are = tt
signatures_made (first ∷ rest) are = (are.0.0, are.0.1, signatures_made rest are.1)

pub functions_made : (all : List FunctionTree) → AllOf (λ is. HasName is × IsWellMadeFunction is) all
    → AreWellMadeFunctions all
functions_made [] are = tt
functions_made (first ∷ rest) are = (are.0.0, are.0.1, functions_made rest are.1)

-- lists that are not empty
some_tail : (first : Tail) (rest : Tails) → ATail first rest ≢ NoTail
some_tail first rest same = cc

some_branch : (first : Branch) (rest : Branches) → ABranch first.pattern first.body rest ≢ NoBranch
some_branch first rest same = cc

some_arrow : (first : Signature) (rest : List Signature) → first ∷ rest ≢ []
some_arrow first rest same = cc

matching_made : (is : Form) (value : Expr) (first : Branch) (rest : List Branch) → IsWellMadeExpr value
    → AllOf (OfBranch IsWellMadePattern IsWellMadeExpr) (first ∷ rest)
    → IsWellMadeExprKind (of_form is value (branches_of (first ∷ rest)))
matching_made form.Match value first rest is are = (is, some_branch first _, branches_made (first ∷ rest) are)
matching_made form.Try value first rest is are = (is, some_branch first _, branches_made (first ∷ rest) are)
matching_made form.Map value first rest is are = (is, some_branch first _, branches_made (first ∷ rest) are)
matching_made form.Transform value first rest is are = (is, some_branch first _, branches_made (first ∷ rest) are)

function_made : (word : ℕ) (name : Option Name) (name_at : ℕ) (arrow : Signature) (arrows : List Signature)
    (first : Branch) (rest : List Branch) → IsWellMadeName name → AllOf (OfSignature IsWellMade) (arrow ∷ arrows)
    → AllOf (OfBranch IsWellMadePattern IsWellMadeExpr) (first ∷ rest)
    → IsWellMadeFunction (function word name name_at (arrow ∷ arrows) (branches_of (first ∷ rest)))
function_made word name name_at arrow arrows first rest is are so = (
  is,
  some_arrow arrow arrows,
  signatures_made (arrow ∷ arrows) are,
  some_branch first _,
  branches_made (first ∷ rest) so,
)

pub exprs_kept : ExprsAreKept well_made
exprs_kept = record {
  constant = λ here value so. value_made value so;
  variable = λ here name label. label;
  tuple = λ here first second rest are. (tt, exprs_made (first ∷ second ∷ rest) are);
  apply = λ here first second rest are. (tt, exprs_made (first ∷ second ∷ rest) are);
  sequence = λ here all are. items_made all are;
  fields = λ here all are. fields_made all are;
  xml = λ here tag attributes content is so too. (is, so, too);
  chain = λ here first next rest is are. (is, some_tail next _, tails_made (next ∷ rest) are);
  call = λ word here one is. is;
  matching = λ form here value first rest is are. matching_made form value first rest is are;
  let_in = λ here pattern value rest is so too. (is, so, too);
  if_else = λ here condition one other is so too. (is, so, too);
  unnamed = λ here word arrow arrows first rest are so. function_made word None word arrow arrows first rest tt are so;
  named = λ here word name name_at arrow arrows first rest is are so.
      function_made word (Some name) name_at arrow arrows first rest is are so;
  declared = λ word name name_at arrow arrows first rest is are so.
      (tt, function_made word (Some name) name_at arrow arrows first rest is are so);
}

-- the names of variables that no text has are labels
is_no_blank : (name : Name) → bytes_eq name (codes "_") ≡ false → name ≢ codes "_"
is_no_blank name other same =
    let never : true ≡ false = sym ((bytes_eq-Decides name (codes "_")).1 same) ∙ other in
    absurd cc

pub hidden_kept : HiddenAreKept well_made
hidden_kept = record {
  content = (refl, is_no_blank content_name refl);
  child = (refl, is_no_blank child_name refl);
}
