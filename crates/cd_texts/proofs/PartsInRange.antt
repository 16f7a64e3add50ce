-- Parts in which the constants of patterns are in range.
use Rattle.std.proofs.Common.{ℕ, List, [], ◌∷◌, Option, Some, None}
use Rattle.cd_syntax.specs.declared.tokens.Span.{Span}
use Rattle.cd_syntax.specs.TypeTree.{Signed, Field as TreeField, Declaration}
use Rattle.cd_model.specs.AllOf.{AllOf}
use Rattle.cd_program.specs.Expr as exprs
use Rattle.cd_program.specs.Expr.{Expr, Item, Tail, Branch, FunctionTree}
use Rattle.cd_query.specs.Core.{Source}
use Rattle.cd_safety.specs.PatternsIn.{EachPattern, EachOfFunction}
use Rattle.cd_nodes.specs.ConstantsInRange.{IsInRange, ConstantsInRange, RestInRange, RegularInRange}
use Rattle.cd_grammar.specs.Parts.{Part, AToken, ATree, Trees, Signs, SomeFields, Names, ARegular, Regulars, AConstant}
use Rattle.cd_grammar.specs.Parts.{AnExpr, Exprs, AChain, Items, ExprFields, Branches, Sources, AFunction, AProgram}
use Rattle.cd_grammar.specs.Parts.{token_in, of_one, of_two, of_three}
use Rattle.cd_grammar.specs.Actions.{between, characters, characters_in}
use Rattle.cd_placed.proofs.TokensInRange.{TokenInRange}

-- of trees
abbrev pub SignInRange : Signed → Type 0
SignInRange one = ConstantsInRange one.tree

abbrev pub TreeFieldInRange : TreeField → Type 0
TreeFieldInRange one = ConstantsInRange one.tree

abbrev pub DeclarationInRange : Declaration → Type 0
DeclarationInRange one = ConstantsInRange one.tree

-- of programs
abbrev pub ExprInRange : Expr → Type 0
ExprInRange e = EachPattern ConstantsInRange e

abbrev pub FunctionInRange : FunctionTree → Type 0
FunctionInRange f = EachOfFunction ConstantsInRange f

abbrev pub ItemInRange : Item → Type 0
ItemInRange (exprs.One is) = ExprInRange is
ItemInRange (exprs.Splice is) = ExprInRange is
ItemInRange (exprs.Run characters) = Unit {0}

abbrev pub FieldInRange : exprs.Field → Type 0
FieldInRange one = ExprInRange one.expr

abbrev pub TailInRange : Tail → Type 0
TailInRange (exprs.Operand op is) = ExprInRange is
TailInRange (exprs.Without label) = Unit {0}
TailInRange (exprs.Select label) = Unit {0}

abbrev pub BranchInRange : Branch → Type 0
BranchInRange one = ConstantsInRange one.pattern × ExprInRange one.body

abbrev pub SourceInRange : Source → Type 0
SourceInRange one = ConstantsInRange one.pattern × ExprInRange one.value

abbrev pub ConditionInRange : Option Expr → Type 0
ConditionInRange None = Unit {0}
ConditionInRange (Some is) = ExprInRange is

abbrev pub PartInRange : Part → Type 0
PartInRange (AToken is) = TokenInRange is.kind
PartInRange (ATree is) = ConstantsInRange is
PartInRange (Trees all) = AllOf ConstantsInRange all
PartInRange (Signs first rest) = ConstantsInRange first × AllOf SignInRange rest
PartInRange (SomeFields all rest) = AllOf TreeFieldInRange all × RestInRange rest
PartInRange (Names all) = AllOf DeclarationInRange all
PartInRange (ARegular is) = RegularInRange is
PartInRange (Regulars all) = AllOf RegularInRange all
PartInRange (AConstant is) = IsInRange is
PartInRange (AnExpr is) = ExprInRange is
PartInRange (Exprs all) = AllOf ExprInRange all
PartInRange (AChain first rest) = ExprInRange first × AllOf TailInRange rest
PartInRange (Items all) = AllOf ItemInRange all
PartInRange (ExprFields all) = AllOf FieldInRange all
PartInRange (Branches all) = AllOf BranchInRange all
PartInRange (Sources all condition) = AllOf SourceInRange all × ConditionInRange condition
PartInRange (AFunction is) = FunctionInRange is
PartInRange (AProgram types functions) = AllOf FunctionInRange functions
PartInRange _ = Unit {0}

-- what is in range, whatever its parts are
pub plain_one : {A : Type 0} (found : Option A) (make : A → Part) → ((a : A) → PartInRange (make a))
    → PartInRange (of_one found make)
plain_one None make plain = tt
plain_one (Some a) make plain = plain a

pub plain_two : {A B : Type 0} (found : Option A) (other : Option B) (make : A → B → Part)
    → ((a : A) (b : B) → PartInRange (make a b)) → PartInRange (of_two found other make)
plain_two None other make plain = tt
plain_two (Some a) None make plain = tt
plain_two (Some a) (Some b) make plain = plain a b

pub plain_three : {A B C : Type 0} (found : Option A) (other : Option B) (last : Option C) (make : A → B → C → Part)
    → ((a : A) (b : B) (c : C) → PartInRange (make a b c)) → PartInRange (of_three found other last make)
plain_three None other last make plain = tt
plain_three (Some a) None last make plain = tt
plain_three (Some a) (Some b) None make plain = tt
plain_three (Some a) (Some b) (Some c) make plain = plain a b c

-- an interval of characters has no constant that is captured, or is nothing of use
between_plain : (here : Span) (low high : List ℕ) → PartInRange (between here low high)
between_plain here (low ∷ []) (high ∷ []) = tt
between_plain here _ _ = tt

pub characters_in_range : (here : Span) (a b : Part) → PartInRange (characters here a b)
characters_in_range here a b =
    plain_two (token_in a) (token_in b) _
    (λ low high. between_plain here (characters_in low.kind) (characters_in high.kind))
