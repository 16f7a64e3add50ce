-- Formulas that are made for what is wanted, where nodes are known by their numbers among the
-- wants.
use Rattle.std.specs.Prelude.{◌≡◌, ◌+◌, ℕ, List, [], ◌∷◌, length, Option, Some}
use Rattle.std.specs.Prelude.{None, codes}
use Rattle.std.specs.List.{slice_get, All, AllZip, Contains}
use Rattle.std.specs.Option.{unwrap_or}
use Rattle.cd_sets.specs.declared.node_id.NodeId.{NodeId}
use Rattle.cd_syntax.specs.Name.{first}
use Rattle.cd_syntax.specs.declared.constant.Constant.{Constant}
use Rattle.cd_syntax.specs.declared.constant.Constant.TheVariants as constant
use Rattle.cd_model.specs.BuiltIns.{node, atoms_of}
use Rattle.cd_model.specs.Formula.{Formula, Nothing, Pair, Or}
use Rattle.cd_model.specs.Formula.{formulas_of}
use Rattle.cd_model.specs.Leaves.{one_integer, one_character, one_atom}
use Rattle.cd_products.specs.Keeping.{IsFormulaOfQuestion}
use Rattle.cd_filter.specs.Table.{Place}
use Rattle.cd_explored.specs.declared.givers.Giver.{Giver}
use Rattle.cd_explored.specs.declared.step.Step.{Step}
use Rattle.cd_explored.specs.declared.step.Step.TheVariants as step
use Rattle.cd_explored.specs.declared.want.Want.{Want}
use Rattle.cd_explored.specs.declared.want.Want.TheVariants.{Comes, Captures, Text, Character}
use Rattle.cd_explored.specs.Inner.Givers.{givers_of}
use Rattle.cd_explored.specs.Inner.Plan.{Plan}
use Rattle.cd_explored.specs.Inner.Reached.{ReachesBy}
use Rattle.cd_explored.specs.Inner.Wanted.{AreOnce, AreFirst, AreGathered}

module _ (plan : Plan) where
  -- what comes to a place
  abbrev pub IsComing : Option Place → Formula → Type 0
  IsComing None f = f ≡ Nothing
  IsComing (Some place) f = IsFormulaOfQuestion plan.graph place.question f

  -- the text of a node of the kernel
  abbrev pub text_at : ℕ → List ℕ
  text_at number = unwrap_or (slice_get plan.texts number) []

  module _ (wants : List Want) where
    -- the node of a want
    abbrev pub IsNodeOfWant : NodeId → Want → Type 0
    IsNodeOfWant id want = (number : ℕ) × (slice_get wants number ≡ Some want)
        × (id ≡ node (plan.first + number))

    abbrev pub IsPairOf : (one other : Want) → Formula → Type 0
    IsPairOf one other f = (first second : NodeId) × IsNodeOfWant first one
        × IsNodeOfWant second other × (f ≡ Pair first second)

    -- a text of a node of the kernel by its first character, if it has one, where the next one has
    -- this number
    abbrev pub IsText : (number next : ℕ) → Option ℕ → Formula → Type 0
    IsText number next None f = f ≡ atoms_of (codes "nil" ∷ [])
    IsText number next (Some c) f = IsPairOf (Character c) (Text number next) f

    abbrev pub IsConstant : (number : ℕ) → Constant → Formula → Type 0
    IsConstant number (constant.Int n) f = f ≡ one_integer n
    IsConstant number (constant.Char c) f = f ≡ one_character c
    IsConstant number (constant.Atom name) f = f ≡ one_atom name
    IsConstant number (constant.Text text) f = IsText number 1 (first text) f
    IsConstant number constant.Nil f = f ≡ atoms_of (codes "nil" ∷ [])

    -- the constant of a Put at a place
    abbrev pub IsPut : Option Place → Constant → Formula → Type 0
    IsPut None constant f = f ≡ Nothing
    IsPut (Some place) constant f = IsConstant place.number constant f

    -- what a step at the place with this number gives
    abbrev pub IsGiven : (variable number : ℕ) → Step → Formula → Type 0
    IsGiven variable number (step.Takes other) f = IsComing (slice_get plan.places number) f
    IsGiven variable number (step.Puts other constant) f =
        IsPut (slice_get plan.places number) constant.now f
    IsGiven variable number (step.Leads but next) f = f ≡ Nothing
    IsGiven variable number (step.Gathers other item next) f =
        IsPairOf (Comes item) (Captures variable next) f

    abbrev pub IsMember : (variable : ℕ) → Giver → Formula → Type 0
    IsMember variable giver f = IsGiven variable giver.number giver.step f

    -- the union of what the steps give
    abbrev pub IsUnion : (variable : ℕ) → List Giver → Formula → Type 0
    IsUnion variable givers f = (members : List Formula)
        × AllZip (IsMember variable) givers members × (f ≡ Or (formulas_of members))

    -- what a variable captures at a place: the union over the places that are reached
    abbrev pub IsCapture : (variable number : ℕ) → Formula → Type 0
    IsCapture variable number f = (numbers : List ℕ)
        × All (ReachesBy plan.rows variable number) numbers
        × ((other : ℕ) → ReachesBy plan.rows variable number other → Contains numbers other)
        × IsUnion variable (givers_of variable plan.rows numbers) f

    abbrev pub IsMade : Want → Formula → Type 0
    IsMade (Comes number) f = IsComing (slice_get plan.places number) f
    IsMade (Captures variable number) f = IsCapture variable number f
    IsMade (Text number from) f = IsText number (from + 1) (slice_get (text_at number) from) f
    IsMade (Character c) f = f ≡ one_character c

    -- each formula is made for the want with its number
    abbrev pub AreMade : List Formula → Type 0
    AreMade formulas = (number : ℕ) (want : Want) (f : Formula)
        → slice_get wants number ≡ Some want → slice_get formulas number ≡ Some f → IsMade want f

-- formulas for all that is wanted
pub record AreFormulas (plan : Plan) (variables : ℕ) (batch : List Formula) : Type 0 where
  pub wants : List Want
  pub first : AreFirst wants variables
  pub gathered : AreGathered wants plan.rows
  pub once : AreOnce wants
  pub made : AreMade plan wants batch
  pub count : length batch ≡ length wants
