-- What is formed of rows that are right is right.
use Rattle.std.proofs.Common.{◌≡◌, ◌==◌, ◌<◌, ◌⊎◌, inl, inr, ℕ, zero, suc, Bool, true, false, ◌||◌}
use Rattle.std.proofs.Common.{◌&&◌, List, [], ◌∷◌, ◌++◌, map, length, Option, Some, None, is_some}
use Rattle.std.proofs.Common.{refl, sym, ap, subst, ◌∙◌, if◌then◌else◌, eqb-true}
use Rattle.std.specs.Prelude.{slice_set}
use Rattle.std.specs.List.{slice_get, list_any, list_all}
use Rattle.std.specs.Option.{IfSome}
use Rattle.std.proofs.lemmas.Bool.{true≢false}
use Rattle.std.proofs.lemmas.Option.{none-some}
use Rattle.cd_sets.specs.declared.node_id.NodeId.{NodeId}
use Rattle.cd_model.specs.Formula as formula
use Rattle.cd_model.specs.Formula.{Graph, Formula, formulas_of}
use Rattle.cd_model.proofs.ByNumber.{all_got}
use Rattle.cd_graph.specs.PlainFormula.{plain}
use Rattle.cd_matching.specs.Kernel.{Kernel, KernelNode, Test, Bind, Put, Pair, Xml, Record, Both}
use Rattle.cd_matching.specs.Kernel.{First, Gather, IsSound, IsSoundNode}
use Rattle.cd_filter.specs.Accepting.{AreMembers, IsOwn, own_formula, Accepts}
use Rattle.cd_filter.specs.Accepting.{by_itself, by_both, by_members, by_simpler, AllAccept}
use Rattle.cd_filter.specs.Accepting.{no_more, one_more}
use Rattle.cd_filter.specs.Inner.Forming.{is_among, others, joined, row_formula, row_members}
use Rattle.cd_filter.specs.Inner.Forming.{row_at, is_there, formula_in, members_in, IsUnion, IsMeet}
use Rattle.cd_filter.specs.Inner.Forming.{IsAlone, IsFormOf, HasTypes, IsFormed, AreFormed, IsBatch}
use Rattle.cd_filter.proofs.RowsOf.{get_end, get_set, length_map, row_there}
use Rattle.cd_filter.specs.declared.formed.Formed.{Formed}

-- one of two lists
or_assoc : (a b c : Bool) → ((a || b) || c) ≡ (a || (b || c))
or_assoc true b c = refl
or_assoc false b c = refl

or_true : (a : Bool) → (a || true) ≡ true
or_true true = refl
or_true false = refl

any_append : (fact : ℕ → Bool) (one other : List ℕ)
    → list_any fact (one ++ other) ≡ (list_any fact one || list_any fact other)
any_append fact [] other = refl
any_append fact (n ∷ one) other = ap (λ b. fact n || b) (any_append fact one other)
    ∙ sym (or_assoc (fact n) (list_any fact one) (list_any fact other))

-- a number that is among these
same_number : (n m : ℕ) → (n == m) ≡ true → n ≡ m
same_number = eqb-true

among_any : (fact : ℕ → Bool) (numbers : List ℕ) (number : ℕ) → is_among numbers number ≡ true
    → fact number ≡ true → list_any fact numbers ≡ true
among_any fact [] number among holds = absurd (true≢false (sym among))
among_any fact (n ∷ numbers) number among holds =
    by_test (n == number) refl (λ later. among_any fact numbers number later holds) among
  where
    by_test : (b : Bool) → (n == number) ≡ b
        → (is_among numbers number ≡ true → list_any fact numbers ≡ true)
        → (b || is_among numbers number) ≡ true → (fact n || list_any fact numbers) ≡ true
    by_test true same further h = ap (λ b. b || list_any fact numbers)
        (ap fact (same_number n number same) ∙ holds)
    by_test false same further h = ap (λ b. fact n || b) (further h) ∙ or_true (fact n)

any_others : (fact : ℕ → Bool) (one other : List ℕ)
    → (list_any fact one || list_any fact (others one other))
    ≡ (list_any fact one || list_any fact other)
any_others fact one [] = refl
any_others fact one (number ∷ rest) =
    by_test (is_among one number) refl (fact number) refl (list_any fact one) refl
    (any_others fact one rest)
  where
    by_test : (b : Bool) → is_among one number ≡ b → (holds : Bool) → fact number ≡ holds
        → (there : Bool) → list_any fact one ≡ there
        → (list_any fact one || list_any fact (others one rest))
        ≡ (list_any fact one || list_any fact rest)
        → (list_any fact one
        || list_any fact (if b then others one rest else number ∷ others one rest))
        ≡ (list_any fact one || (fact number || list_any fact rest))
    by_test b among holds holds_is true there_is further =
        ap (λ a. a || list_any fact (if b then others one rest else number ∷ others one rest))
        there_is ∙ sym (ap (λ a. a || (fact number || list_any fact rest)) there_is)
    by_test true among true holds_is false there_is further = absurd (true≢false
        (sym (among_any fact one number among holds_is) ∙ there_is))
    by_test true among false holds_is false there_is further = further
        ∙ ap (λ a. list_any fact one || (a || list_any fact rest)) (sym holds_is)
    by_test false among true holds_is false there_is further =
        ap (λ a. list_any fact one || (a || list_any fact (others one rest))) holds_is
        ∙ ap (λ a. list_any fact one || (a || list_any fact rest)) (sym holds_is)
    by_test false among false holds_is false there_is further =
        ap (λ a. list_any fact one || (a || list_any fact (others one rest))) holds_is ∙ further
        ∙ ap (λ a. list_any fact one || (a || list_any fact rest)) (sym holds_is)

any_joined : (fact : ℕ → Bool) (one other : List ℕ)
    → list_any fact (joined one other) ≡ (list_any fact one || list_any fact other)
any_joined fact one other = any_append fact one (others one other) ∙ any_others fact one other

-- rows
found : (rows : List (Option Formed)) (number : ℕ) → is_there rows number ≡ true
    → (one : Formed) × (slice_get rows number ≡ Some (Some one)) × (row_at rows number ≡ Some one)
found [] zero there = absurd (true≢false (sym there))
found [] (suc number) there = absurd (true≢false (sym there))
found (None ∷ rows) zero there = absurd (true≢false (sym there))
found (Some one ∷ rows) zero there = (one, refl, refl)
found (row ∷ rows) (suc number) there = found rows number there

module _ (graph : Graph) (nodes : List (KernelNode NodeId)) (first : ℕ) where
  abbrev Right : Option Formed → ℕ → Type 0
  Right row number = IfSome row (IsFormed graph nodes first number)

  module _ (rows : List (Option Formed)) (are : AreFormed graph nodes first rows) where
    in_row : (number : ℕ) → is_there rows number ≡ true
        → Accepts graph nodes first number (formula_in rows number)
    in_row number there = let it = found rows number there in
        subst (λ row. Accepts graph nodes first number (row_formula row)) (sym it.2)
        (are.formed number it.0 it.1).accepts

    members_are : (number : ℕ) → is_there rows number ≡ true
        → AreMembers nodes number (members_in rows number)
    members_are number there = let it = found rows number there in
        subst (λ row. AreMembers nodes number (row_members row)) (sym it.2)
        (are.formed number it.0 it.1).members

    in_rows : (members : List ℕ) → list_all (is_there rows) members ≡ true
        → AllAccept graph nodes first members (map (formula_in rows) members)
    in_rows [] all = no_more
    in_rows (number ∷ members) all =
        by_test (is_there rows number) refl (in_rows members) all
      where
        by_test : (b : Bool) → is_there rows number ≡ b
            → (list_all (is_there rows) members ≡ true
            → AllAccept graph nodes first members (map (formula_in rows) members))
            → (b && list_all (is_there rows) members) ≡ true
            → AllAccept graph nodes first (number ∷ members)
            (formula_in rows number ∷ map (formula_in rows) members)
        by_test true there further rest = one_more number (formula_in rows number) members
            (map (formula_in rows) members) (in_row number there) (further rest)
        by_test false there further rest = absurd (true≢false (sym rest))

    alone_members : (number : ℕ) → AreMembers nodes number (number ∷ [])
    alone_members number takes agrees = sym (or_false (takes number))
      where
        or_false : (a : Bool) → (a || false) ≡ a
        or_false true = refl
        or_false false = refl

    of_alone : (number : ℕ) (node : KernelNode NodeId) → slice_get nodes number ≡ Some node
        → IsOwn node → (formed : Formed) → IsAlone number (own_formula graph first node) formed
        → IsFormed graph nodes first number formed
    of_alone number node there own formed is = record {
      members = subst (AreMembers nodes number) (sym is.members_are) (alone_members number);
      accepts = subst (Accepts graph nodes first number) (sym is.formula_is)
          (by_itself number node there own);
    }

    of_meet : (number p q : ℕ) → slice_get nodes number ≡ Some (Both p q) → (formed : Formed)
        → IsMeet rows number p q formed → IsFormed graph nodes first number formed
    of_meet number p q there formed is = record {
      members = subst (AreMembers nodes number) (sym is.members_are) (alone_members number);
      accepts = by_simpler number
          (formula.And (formulas_of (formula_in rows p ∷ formula_in rows q ∷ [])))
          (plain formed.formula)
          (by_both number p q (formula_in rows p) (formula_in rows q) there
          (in_row p is.first_there) (in_row q is.second_there)) is.simpler;
    }

    of_union : (number p q : ℕ) → slice_get nodes number ≡ Some (First p q) → (formed : Formed)
        → IsUnion rows p q formed → IsFormed graph nodes first number formed
    of_union number p q there formed is = record {
      members = are_members;
      accepts = by_simpler number
          (formula.Or (formulas_of (map (formula_in rows) formed.members.items)))
          (plain formed.formula)
          (by_members number formed.members.items (map (formula_in rows) formed.members.items)
          are_members (in_rows formed.members.items is.there)) is.simpler;
    }
      where
        are_members : AreMembers nodes number formed.members.items
        are_members = subst (AreMembers nodes number) (sym is.members_are)
            (λ takes agrees. agrees number p q there
            ∙ ap (λ a. a || takes q) (members_are p is.first_there takes agrees)
            ∙ ap (λ b. list_any takes (members_in rows p) || b)
            (members_are q is.second_there takes agrees)
            ∙ sym (any_joined takes (members_in rows p) (members_in rows q)))

    pub formed_right : (number : ℕ) (node : KernelNode NodeId) → slice_get nodes number ≡ Some node
        → (row : Option Formed) → IfSome row (IsFormOf graph first rows number node)
        → Right row number
    formed_right number node there None is = tt
    formed_right number (Both p q) there (Some formed) is = of_meet number p q there formed is
    formed_right number (First p q) there (Some formed) is = of_union number p q there formed is
    formed_right number (Test id) there (Some formed) is =
        of_alone number (Test id) there tt formed is
    formed_right number (Bind variable) there (Some formed) is =
        of_alone number (Bind variable) there tt formed is
    formed_right number (Put variable constant) there (Some formed) is =
        of_alone number (Put variable constant) there tt formed is
    formed_right number (Pair p q) there (Some formed) is =
        of_alone number (Pair p q) there tt formed is
    formed_right number (Xml p q r) there (Some formed) is =
        of_alone number (Xml p q r) there tt formed is
    formed_right number (Record named more) there (Some formed) is =
        of_alone number (Record named more) there tt formed is
    formed_right number (Gather by p q) there (Some formed) is =
        of_alone number (Gather by p q) there tt formed is

    -- a row more, and one in the place of another
    pub pushed : (row : Option Formed) → Right row (length rows)
        → AreFormed graph nodes first (rows ++ row ∷ [])
    pushed row right = record {
      formed = λ number one there. at_end row right number one
          (get_end rows row number (Some one) there);
    }
      where
        at_end : (row : Option Formed) → Right row (length rows) → (number : ℕ) (one : Formed)
            → ((number ≡ length rows) × (row ≡ Some one))
            ⊎ (slice_get rows number ≡ Some (Some one))
            → IsFormed graph nodes first number one
        at_end row right number one (inl (at, is)) = subst (λ n. IsFormed graph nodes first n one)
            (sym at) (subst (λ r. Right r (length rows)) is right)
        at_end row right number one (inr there) = are.formed number one there

    pub replaced : (place : ℕ) (row : Option Formed) → Right row place
        → AreFormed graph nodes first (slice_set rows place row)
    replaced place row right = record {
      formed = λ number one there. at_place number one
          (get_set rows place row number (Some one) there);
    }
      where
        at_place : (number : ℕ) (one : Formed)
            → ((number ≡ place) × (row ≡ Some one)) ⊎ (slice_get rows number ≡ Some (Some one))
            → IsFormed graph nodes first number one
        at_place number one (inl (at, is)) = subst (λ n. IsFormed graph nodes first n one)
            (sym at) (subst (λ r. Right r place) is right)
        at_place number one (inr there) = are.formed number one there

    -- full rows give the batch
    pub batch_is : list_all is_some rows ≡ true → length rows ≡ length nodes
        → (batch : List Formula) → batch ≡ map row_formula rows → IsBatch graph nodes first batch
    batch_is full count batch is = record {
      count = ap length is ∙ length_map row_formula rows ∙ count;
      accepts = λ number f there. at_row number f (row_there rows full number f
          (ap (λ xs. slice_get xs number) (sym is) ∙ there));
    }
      where
        at_row : (number : ℕ) (f : Formula)
            → (one : Formed) × (slice_get rows number ≡ Some (Some one)) × (plain one.formula ≡ f)
            → Accepts graph nodes first number f
        at_row number f (one, there, same) = subst (Accepts graph nodes first number) same
            (are.formed number one there).accepts

  abbrev no_rows : List (Option Formed)
  no_rows = []

  pub none_formed : AreFormed graph nodes first no_rows
  none_formed = record { formed = λ number one there. absurd (nothing number one there) }
    where
      nothing : (number : ℕ) (one : Formed) → slice_get no_rows number ≡ Some (Some one) → ⊥
      nothing zero one there = none-some (Some one) there
      nothing (suc number) one there = none-some (Some one) there

-- the types of a sound kernel
pub has_types : (types : ℕ) (kernel : Kernel NodeId) → IsSound (λ id. id.0 < types) kernel
    → (number : ℕ) (node : KernelNode NodeId) → slice_get kernel.nodes number ≡ Some node
    → HasTypes types node
has_types types kernel is number node there = by_kind node
    (all_got (IsSoundNode kernel.nodes (length kernel.variables) (λ id. id.0 < types)) kernel.nodes
    number node is.nodes there)
  where
    by_kind : (node : KernelNode NodeId)
        → IsSoundNode kernel.nodes (length kernel.variables) (λ id. id.0 < types) node
        → HasTypes types node
    by_kind (Test id) sound = sound
    by_kind (Record named more) sound = sound.0
    by_kind (Bind variable) sound = tt
    by_kind (Put variable constant) sound = tt
    by_kind (Pair p q) sound = tt
    by_kind (Xml p q r) sound = tt
    by_kind (Both p q) sound = tt
    by_kind (First p q) sound = tt
    by_kind (Gather by p q) sound = tt
