-- Shapes whose parts agree where a set asks them have the same members in the set.
use Rattle.std.proofs.Common.{◌≡◌, ◌&&◌, ◌||◌, not, Bool, true, false, List, [], ◌∷◌, ◌++◌, Option, Some, None, ◌⊎◌, inl, inr, refl, sym, ap, ◌∙◌, bytes_eq, true≢false}
use Rattle.std.specs.Prelude.{IfSome}
use Rattle.std.specs.List.{list_all}
use Rattle.std.proofs.lemmas.Bool.{cases_Bool}
use Rattle.std.proofs.lemmas.Slice.Eq.{bytes_eq-Decides}
use Rattle.cd_sets.specs.declared.node_id.NodeId.{NodeId}
use Rattle.cd_syntax.specs.Name.{Name}
use Rattle.cd_model.specs.AllOf.{AllOf}
use Rattle.cd_model.specs.Formula as formula
use Rattle.cd_model.specs.Formula.{Formula, Formulas, NoFormula, AFormula, Graph, Field, formula_at, field_of}
use Rattle.cd_asking.specs.Inner.Shapes.{Nodes, Shape, Pair, Xml, Record, item_at, labels, in_field, in_named, is_named, in_rest, in_basic, in_formula, in_each, in_one, nodes_with, members}
use Rattle.cd_asking.specs.Inner.Tasks.{Child, First, Second, Tag, Attributes, Content, At, led, EachBasic, EachOfFormulas, Covers, among}
use Rattle.cd_asking.proofs.Members.{filtered, same_filter, each_by, both_by, always}

-- facts of the formulas in a formula that are no connectives
module _ (F G H : Formula → Type 0) (by : (is : Formula) → F is → G is → H is) where
  mutual
    pub both_basic : (is : Formula) → EachBasic F is → EachBasic G is → EachBasic H is
    both_basic formula.Nothing first second = tt
    both_basic formula.Everything first second = tt
    both_basic (formula.And formulas) first second = both_of_all formulas first second
    both_basic (formula.Or formulas) first second = both_of_all formulas first second
    both_basic (formula.Not is) first second = both_basic is first second
    both_basic is first second = by is first second

    both_of_all : (formulas : Formulas) → EachOfFormulas F formulas → EachOfFormulas G formulas → EachOfFormulas H formulas
    both_of_all NoFormula first second = tt
    both_of_all (AFormula is rest) first second = (both_basic is first.0 second.0, both_of_all rest first.1 second.1)

module _ (F : Formula → Type 0) (by : (is : Formula) → F is) where
  mutual
    pub always_basic : (is : Formula) → EachBasic F is
    always_basic formula.Nothing = tt
    always_basic formula.Everything = tt
    always_basic (formula.And formulas) = always_of_all formulas
    always_basic (formula.Or formulas) = always_of_all formulas
    always_basic (formula.Not is) = always_basic is
    always_basic is = by is

    always_of_all : (formulas : Formulas) → EachOfFormulas F formulas
    always_of_all NoFormula = tt
    always_of_all (AFormula is rest) = (always_basic is, always_of_all rest)

pub basic_by : (F G : Formula → Type 0) → ((is : Formula) → F is → G is) → (is : Formula) → EachBasic F is → EachBasic G is
basic_by F G by is each = both_basic F F G (λ one f g. by one f) is each each

-- two shapes that agree there agree at the formula
module _ (one other : Shape) where
  abbrev SameAt : Formula → Type 0
  SameAt is = in_basic one is ≡ in_basic other is

  mutual
    pub same_formula : (is : Formula) → EachBasic SameAt is → in_formula one is ≡ in_formula other is
    same_formula formula.Nothing same = refl
    same_formula formula.Everything same = refl
    same_formula (formula.And formulas) same = same_each formulas same
    same_formula (formula.Or formulas) same = same_one formulas same
    same_formula (formula.Not is) same = ap not (same_formula is same)
    same_formula is same = same

    same_each : (formulas : Formulas) → EachOfFormulas SameAt formulas → in_each one formulas ≡ in_each other formulas
    same_each NoFormula same = refl
    same_each (AFormula is rest) same = cc (same_formula is same.0, same_each rest same.1)

    same_one : (formulas : Formulas) → EachOfFormulas SameAt formulas → in_one one formulas ≡ in_one other formulas
    same_one NoFormula same = refl
    same_one (AFormula is rest) same = cc (same_formula is same.0, same_one rest same.1)

-- nodes agree where a formula asks the child
abbrev pub AgreeAt : Child → (one other : Nodes) → Formula → Type 0
AgreeAt child one other is = IfSome (led is child) (λ id. one id ≡ other id)

abbrev pub Agree : Graph → Child → (set : List NodeId) → (one other : Nodes) → Type 0
Agree graph child set one other = AllOf (λ id. EachBasic (AgreeAt child one other) (formula_at graph id)) set

pub some_by : {X : Type 0} (P Q : X → Type 0) → ((x : X) → P x → Q x) → (o : Option X) → IfSome o P → IfSome o Q
some_by P Q by (Some x) p = by x p
some_by P Q by None p = tt

always_some : {X : Type 0} (P : X → Type 0) → ((x : X) → P x) → (o : Option X) → IfSome o P
always_some P by (Some x) = by x
always_some P by None = tt

module _ (graph : Graph) where
  pub agree_same : (child : Child) (set : List NodeId) (nodes : Nodes) → Agree graph child set nodes nodes
  agree_same child set nodes = always _ set (λ id. always_basic (AgreeAt child nodes nodes) (λ is. always_some _ (λ id. refl) (led is child)) (formula_at graph id))

  -- what is found at a covering set agrees with all
  pub agree_covered : (child : Child) (set next : List NodeId) (shape : Shape) → Covers graph child set next
      → Agree graph child set (among (members graph shape next)) (nodes_with graph shape)
  agree_covered child set next shape covers =
      each_by _ _ set (λ id asks. basic_by _ _ (λ is asked. some_by _ _ (λ id there. filtered (nodes_with graph shape) next id there) (led is child) asked) (formula_at graph id) asks)
      covers

  same_members : (one other : Shape) (set : List NodeId) → AllOf (λ id. EachBasic (SameAt one other) (formula_at graph id)) set
      → members graph one set ≡ members graph other set
  same_members one other set same = same_filter _ _ set (each_by _ _ set (λ id each. same_formula one other (formula_at graph id) each) same)

  -- pairs
  module _ (first second third fourth : Nodes) where
    pair_basic : (is : Formula) → AgreeAt First first third is → AgreeAt Second second fourth is
        → SameAt (Pair first second) (Pair third fourth) is
    pair_basic (formula.Pair one other) a b = cc (a, b)
    pair_basic _ a b = refl

    pub pair_members : (set : List NodeId) → Agree graph First set first third → Agree graph Second set second fourth
        → members graph (Pair first second) set ≡ members graph (Pair third fourth) set
    pair_members set a b = same_members _ _ set (both_by _ _ _ set (λ id a b. both_basic _ _ _ pair_basic (formula_at graph id) a b) a b)

  -- XML
  module _ (tag attributes content name fields items : Nodes) where
    abbrev Two : Formula → Type 0
    Two is = AgreeAt Tag tag name is × AgreeAt Attributes attributes fields is

    xml_basic : (is : Formula) → Two is → AgreeAt Content content items is
        → SameAt (Xml tag attributes content) (Xml name fields items) is
    xml_basic (formula.Xml one other last) two c = cc (two.0, two.1, c)
    xml_basic _ two c = refl

    pub xml_members : (set : List NodeId) → Agree graph Tag set tag name → Agree graph Attributes set attributes fields
        → Agree graph Content set content items → members graph (Xml tag attributes content) set ≡ members graph (Xml name fields items) set
    xml_members set a b c = same_members _ _ set (both_by _ _ _ set
        (λ id two c. both_basic _ _ _ xml_basic (formula_at graph id) two c)
        (both_by _ _ _ set (λ id a b. both_basic _ _ Two (λ is a b. (a, b)) (formula_at graph id) a b) a b) c)

-- records with the same fields but for one
same_all : {X : Type 0} (test other : X → Bool) → ((x : X) → test x ≡ other x) → (list : List X) → list_all test list ≡ list_all other list
same_all test other same [] = refl
same_all test other same (x ∷ list) = cc (same x, same_all test other same list)

pub not_named : (named : List (Name × Field)) (rest : NodeId) (label : Name) → is_named named label ≡ false
    → field_of named rest label ≡ record { optional = true; type = rest }
not_named [] rest label unnamed = refl
not_named (field ∷ named) rest label unnamed = by_first (cases_Bool (bytes_eq field.0 label)) (λ later. not_named named rest label later)
  where
    by_first : (bytes_eq field.0 label ≡ true) ⊎ (bytes_eq field.0 label ≡ false)
        → (is_named named label ≡ false → field_of named rest label ≡ record { optional = true; type = rest })
        → field_of (field ∷ named) rest label ≡ record { optional = true; type = rest }
    by_first (inl is) later = absurd (true≢false (sym (ap (λ b. b || is_named named label) is) ∙ unnamed))
    by_first (inr differs) later = rw differs (later (rw differs at unnamed))

module _ (label : Name) (one other : Nodes) (later : List (Name × Nodes)) (named : List (Name × Field)) (rest : NodeId)
    (agree : one (field_of named rest label).type ≡ other (field_of named rest label).type) where
  abbrev these : (before : List (Name × Nodes)) → List (Name × Nodes)
  these before = before ++ (label, one) ∷ later

  abbrev those : (before : List (Name × Nodes)) → List (Name × Nodes)
  those before = before ++ (label, other) ∷ later

  same_field : (before : List (Name × Nodes)) (name : Name)
      → in_field (item_at (these before) name) (field_of named rest name) ≡ in_field (item_at (those before) name) (field_of named rest name)
  same_field [] name = by_name (cases_Bool (bytes_eq label name))
    where
      by_name : (bytes_eq label name ≡ true) ⊎ (bytes_eq label name ≡ false)
          → in_field (item_at (these []) name) (field_of named rest name) ≡ in_field (item_at (those []) name) (field_of named rest name)
      by_name (inl is) = let same : label ≡ name = (bytes_eq-Decides label name).0 is in rw is (rw same at agree)
      by_name (inr differs) = rw differs refl
  same_field (field ∷ before) name = by_name (cases_Bool (bytes_eq field.0 name)) (same_field before name)
    where
      by_name : (bytes_eq field.0 name ≡ true) ⊎ (bytes_eq field.0 name ≡ false)
          → in_field (item_at (these before) name) (field_of named rest name) ≡ in_field (item_at (those before) name) (field_of named rest name)
          → in_field (item_at (these (field ∷ before)) name) (field_of named rest name) ≡ in_field (item_at (those (field ∷ before)) name) (field_of named rest name)
      by_name (inl is) same = rw is refl
      by_name (inr differs) same = rw differs same

  in_rest_here : (b : Bool) → is_named named label ≡ b → (b || one rest) ≡ (b || other rest)
  in_rest_here true is = refl
  in_rest_here false is = rw (not_named named rest label is) at agree

  same_rest : (before : List (Name × Nodes)) → in_rest (these before) named rest ≡ in_rest (those before) named rest
  same_rest [] = ap (λ b. b && in_rest later named rest) (in_rest_here (is_named named label) refl)
  same_rest (field ∷ before) = ap (λ b. (is_named named field.0 || field.1 rest) && b) (same_rest before)

  pub record_type : (before : List (Name × Nodes))
      → (in_named (these before) named rest && in_rest (these before) named rest) ≡ (in_named (those before) named rest && in_rest (those before) named rest)
  record_type before = cc (same_all _ _ (same_field before) (labels named), same_rest before)

record_basic : (before later : List (Name × Nodes)) (label : Name) (one other : Nodes) (is : Formula) → AgreeAt (At label) one other is
    → SameAt (Record (before ++ (label, one) ∷ later)) (Record (before ++ (label, other) ∷ later)) is
record_basic before later label one other (formula.Record named rest) agree = record_type label one other later named rest agree before
record_basic before later label one other _ agree = refl

pub record_members : (graph : Graph) (before later : List (Name × Nodes)) (label : Name) (one other : Nodes) (set : List NodeId)
    → Agree graph (At label) set one other
    → members graph (Record (before ++ (label, one) ∷ later)) set ≡ members graph (Record (before ++ (label, other) ∷ later)) set
record_members graph before later label one other set agree = same_members graph _ _ set
    (each_by _ _ set (λ id a. basic_by _ _ (record_basic before later label one other) (formula_at graph id) a) agree)
