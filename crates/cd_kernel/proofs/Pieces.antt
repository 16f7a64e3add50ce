-- What a node of a kernel may be made of, with the variables that it binds; and what is shown of
-- it: which node it is, and what the nodes are made of that this one leads to.
use Rattle.std.proofs.Common.{◌≡◌, ℕ, Bool, true, false, ◌||◌, ◌&&◌, List, [], ◌∷◌}
use Rattle.std.proofs.Common.{map, None, sym, ap₂, ◌∙◌, bytes_eq}
use Rattle.std.proofs.lemmas.Bool.{true≢false, and_parts, and_from}
use Rattle.std.proofs.lemmas.Bool.{false_from_ne_true}
use Rattle.cd_syntax.specs.Name.{Name}
use Rattle.cd_model.specs.Thing.{IsElement}
use Rattle.cd_syntax.specs.declared.constant.Constant.TheVariants as constant
use Rattle.cd_model.specs.AllOf.{AllOf}
use Rattle.cd_model.specs.Formula.{AreRisingLabels}
use Rattle.cd_matching.specs.Kernel.{KernelNode, KernelField, Present, Optional, Test, Bind, Put}
use Rattle.cd_matching.specs.Kernel.{Pair, Xml, Record, Both, First, Gather, variables_of}
use Rattle.cd_matching.specs.Naming.{AreDisjointNames, AreSame, IsNamed}
use Rattle.cd_matching.specs.Pattern.{Pattern, Regular, Sequence}
use Rattle.cd_matching.specs.Sequences.{thing_of}
use Rattle.cd_matching.specs.Variables.{binds, is_gathered, is_plain}
use Rattle.cd_moves.specs.Automaton.{Move, items_of}
use Rattle.cd_kernel.specs.Copies.{Types, IsAt, IsNumber, is_among, AreDistinct, Copy}
use Rattle.cd_kernel.specs.Copies.{ArePut, IsMove, IsState, IsCopy}
use Rattle.cd_kernel.specs.Making.{inner, IsKernelOf}
use Rattle.cd_kernel.proofs.CompletePatterns.{IsComplete, IsCompleteRegular}
use Rattle.cd_kernel.proofs.AnyOrder.{EachTwo}
use Rattle.cd_kernel.proofs.ItemsByNumber.{ItemsHave}
use Rattle.cd_kernel.proofs.PlainVariables.{Names, either, none, BindsBy, BindsFrom}
use Rattle.cd_kernel.proofs.StateEnds.{Ending, ends, goes}

abbrev pub Within : Names → Names → Type 0
Within part whole = (name : Name) → part name ≡ true → whole name ≡ true

pub disjoint_turned : (one other : Names) → AreDisjointNames one other → AreDisjointNames other one
disjoint_turned one other apart name h = false_from_ne_true (one name)
    (λ there. true≢false (sym h ∙ apart name there))

abbrev pub kept_of : (keeps bound : Names) → Names
kept_of keeps bound name = keeps name && bound name

pub kept_within : (keeps part whole : Names) → Within part whole
    → Within (kept_of keeps part) (kept_of keeps whole)
kept_within keeps part whole within name h =
    let parts = and_parts (keeps name) (part name) h in
    and_from (keeps name) (whole name) parts.0 (within name parts.1)

pub kept_either : (k a b : Bool) → ((k && a) || (k && b)) ≡ true → (k && (a || b)) ≡ true
kept_either true a b h = h
kept_either false a b h = h

pub kept_three : (k a b c : Bool) → ((k && a) || ((k && b) || (k && c))) ≡ true
    → (k && (a || (b || c))) ≡ true
kept_three true a b c h = h
kept_three false a b c h = h

pub kept_disjoint : (keeps one other : Names) → AreDisjointNames one other
    → AreDisjointNames (kept_of keeps one) (kept_of keeps other)
kept_disjoint keeps one other apart name h =
    let parts = and_parts (keeps name) (one name) h in
    ap₂ (λ (a b : Bool). a && b) parts.0 (apart name parts.1)

-- what one of these binds
abbrev pub any_of : List Names → Names
any_of [] = none
any_of (bound ∷ more) = either bound (any_of more)

-- what each node of a copy binds, where plain variables are bound from it on
abbrev pub copy_binds : {T : Type 0} → (keeps : Names) → Regular T → Copy → (plain : Names) → Names
copy_binds keeps r copy plain name = is_among copy.group name
    || (inner keeps r copy name && plain name)

abbrev pub copies_bind : {T : Type 0} → (keeps : Names) → Regular T → List Copy → Names
copies_bind keeps r copies = any_of (map (λ copy. copy_binds keeps r copy (is_plain r)) copies)

abbrev pub HasMove : List Move → Type 0
HasMove [] = ⊥
HasMove (move ∷ moves) = Unit {0}

pub has_move : (rows : List (List Move)) (moves : List Move) → Ending rows moves → HasMove moves
has_move rows [] (ends _ there) = there
has_move rows [] (goes place row _ there at on) = there
has_move rows (move ∷ moves) end = tt

module _ {T : Type 0} (IsType : T → Type 0) (types : Types T) (variables : List Name)
    (nodes : List (KernelNode T)) where
  abbrev pub ItemMade : Names → Pattern T → ℕ → Type 0
  ItemMade keeps p number = IsKernelOf types variables nodes keeps p number × IsNamed p
      × IsComplete IsType p

  pub record IsCopyOf (keeps : Names) (r : Regular T) (copy : Copy) : Type 0 where
    pub is_copy : IsCopy types variables nodes r copy
    pub group : (name : Name) → is_among copy.group name ≡ true
        → (keeps name && is_gathered r name) ≡ true
    pub items : ItemsHave (ItemMade (inner keeps r copy)) copy.items r 0
    pub named : IsNamed (Sequence r)
    pub well_made : IsCompleteRegular IsType r

  pub data Piece : Names → ℕ → Type 0 where
    test_of : (type : T) (number : ℕ) → IsAt nodes number (Test type) → IsType type
        → Piece none number
    put_of : (name : Name) (variable number : ℕ) → IsNumber variables name variable
        → IsAt nodes number (Put variable constant.Nil)
        → Piece (λ other. bytes_eq other name) number
    made : (keeps : Names) (p : Pattern T) (number : ℕ) → ItemMade keeps p number
        → Piece (kept_of keeps (binds p)) number
    both_of : (first second : Names) (one other number : ℕ) → IsAt nodes number (Both one other)
        → Piece first one → Piece second other → AreDisjointNames first second
        → Piece (either first second) number
    first_of : (bound : Names) (one other number : ℕ) → IsAt nodes number (First one other)
        → Piece bound one → Piece bound other → Piece bound number
    puts_of : (type : T) (names : List Name) (number : ℕ)
        → ArePut types variables nodes type names number → IsType type → AreDistinct names
        → Piece (is_among names) number
    state_of : (keeps : Names) (r : Regular T) (copy : Copy) (plain : Names) (moves : List Move)
        (number : ℕ) → IsCopyOf keeps r copy
        → IsState types variables nodes copy (items_of [] r) moves number
        → BindsFrom r plain moves → HasMove moves → Piece (copy_binds keeps r copy plain) number
    move_of : (keeps : Names) (r : Regular T) (copy : Copy) (plain : Names) (move : Move)
        (number : ℕ) → IsCopyOf keeps r copy
        → IsMove types variables nodes copy (items_of [] r) move number
        → BindsBy r plain move → Piece (copy_binds keeps r copy plain) number

  abbrev pub Allowed : Names → ℕ → Type 0
  Allowed bound variable =
      (name : Name) × IsNumber variables name variable × (bound name ≡ true)

  abbrev pub SubPiece : Names → ℕ → Type 0
  SubPiece bound number = (part : Names) × Piece part number × Within part bound

  -- two nodes that bind apart
  abbrev pub TwoDisjoint : Names → ℕ → ℕ → Type 0
  TwoDisjoint bound one other = (first second : Names) × Piece first one × Piece second other
      × AreDisjointNames first second × Within (either first second) bound

  abbrev pub FieldIs : Names → Name × KernelField T → Type 0
  FieldIs bound (label, Present number) = SubPiece bound number
  FieldIs bound (label, Optional type) = IsType type

  abbrev pub FieldsBindDisjoint : Name × KernelField T → Name × KernelField T → Type 0
  FieldsBindDisjoint (label, Present one) (name, Present other) = (first second : Names)
      × Piece first one × Piece second other × AreDisjointNames first second
  FieldsBindDisjoint field another = Unit {0}

  -- what a node of a piece is
  abbrev pub Shape : Names → KernelNode T → Type 0
  Shape bound (Test type) = IsType type
  Shape bound (Bind variable) = Unit {0}
  Shape bound (Put variable constant) = IsElement (thing_of constant)
  Shape bound (Pair one other) = TwoDisjoint bound one other
  Shape bound (Xml one other last) = (first second third : Names) × Piece first one
      × Piece second other × Piece third last × AreDisjointNames first (either second third)
      × AreDisjointNames second third × Within (either first (either second third)) bound
  Shape bound (Record fields more) = AreRisingLabels None fields × AllOf (FieldIs bound) fields
      × EachTwo FieldsBindDisjoint fields
  Shape bound (Both one other) = TwoDisjoint bound one other
  Shape bound (First one other) = (first second : Names) × Piece first one × Piece second other
      × AreSame first second × Within first bound
  Shape bound (Gather variable one other) = (first second : Names) × Piece first one
      × Piece second other × AreDisjointNames first second × Within (either first second) bound
      × ((name : Name) × IsNumber variables name variable × (second name ≡ true))

  -- its node, whose variables are allowed
  abbrev pub Good : Names → ℕ → Type 0
  Good bound number = (node : KernelNode T) × IsAt nodes number node
      × AllOf (Allowed bound) (variables_of node) × Shape bound node

  -- a piece of something that binds more
  allowed_wider : (bound more : Names) → Within bound more → (all : List ℕ)
      → AllOf (Allowed bound) all → AllOf (Allowed more) all
  allowed_wider bound more within [] all = tt
  allowed_wider bound more within (variable ∷ rest) ((name, is_number, h), all) =
      ((name, is_number, within name h), allowed_wider bound more within rest all)

  fields_wider : (bound more : Names) → Within bound more → (fields : List (Name × KernelField T))
      → AllOf (FieldIs bound) fields → AllOf (FieldIs more) fields
  fields_wider bound more within [] all = tt
  fields_wider bound more within ((label, Present number) ∷ fields) ((part, piece, sub), all) =
      ((part, piece, λ name h. within name (sub name h)), fields_wider bound more within fields all)
  fields_wider bound more within ((label, Optional type) ∷ fields) (is, all) =
      (is, fields_wider bound more within fields all)

  shape_wider : (bound more : Names) → Within bound more → (node : KernelNode T)
      → Shape bound node → Shape more node
  shape_wider bound more within (Test type) shape = shape
  shape_wider bound more within (Bind variable) shape = shape
  shape_wider bound more within (Put variable constant) shape = shape
  shape_wider bound more within (Pair one other) (a, b, p, q, apart, sub) =
      (a, b, p, q, apart, λ name h. within name (sub name h))
  shape_wider bound more within (Xml one other last) (a, b, c, p, q, r, apart, too, sub) =
      (a, b, c, p, q, r, apart, too, λ name h. within name (sub name h))
  shape_wider bound more within (Record fields rest) (labels, all, apart) =
      (labels, fields_wider bound more within fields all, apart)
  shape_wider bound more within (Both one other) (a, b, p, q, apart, sub) =
      (a, b, p, q, apart, λ name h. within name (sub name h))
  shape_wider bound more within (First one other) (a, b, p, q, same, sub) =
      (a, b, p, q, same, λ name h. within name (sub name h))
  shape_wider bound more within (Gather variable one other) (a, b, p, q, apart, sub, has) =
      (a, b, p, q, apart, λ name h. within name (sub name h), has)

  pub wider : (bound more : Names) → Within bound more → (number : ℕ) → Good bound number
      → Good more number
  wider bound more within number (node, there, allowed, shape) = (
    node,
    there,
    allowed_wider bound more within (variables_of node) allowed,
    shape_wider bound more within node shape,
  )
