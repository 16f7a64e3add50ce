-- A fact of all faults that are found is one of all faults that there are.
use Rattle.std.proofs.Common.{◌≡◌, ◌∙◌, ap, sym, refl, subst, true, false, true≢false, Bool, ◌||◌}
use Rattle.std.proofs.Common.{ℕ, ◌⊎◌, inl, inr}
use Rattle.std.proofs.Common.{◌↔◌, List, [], ◌∷◌, ◌++◌}
use Rattle.std.specs.Prelude.{bytes_eq}
use Rattle.std.proofs.lemmas.Bool.Decides.{Decides-or}
use Rattle.std.proofs.lemmas.List.Folds.{list_any-append}
use Rattle.std.proofs.lemmas.Slice.Eq.{bytes_eq-Decides}
use Rattle.cd_syntax.specs.Name.{Name}
use Rattle.cd_syntax.specs.TypeTree.{Tree, Declarations}
use Rattle.cd_program.specs.Expr.{Signature}
use Rattle.cd_model.specs.AllOf.{AllOf}
use Rattle.cd_resolve.specs.Faults.{Fault, IsFaultOfType}
use Rattle.cd_resolve.specs.declared.fault.NameFault.{NameFault}
use Rattle.cd_resolve.specs.declared.fault.NameFault.TheVariants.{Unknown, Twice}
use Rattle.cd_variables.specs.Occurrences.{Occurrence}
use Rattle.cd_variables.specs.VariableFaults.{IsOneIn, IsVariableFault}
use Rattle.cd_names.specs.ProgramFaults.{IsFaultOfPattern, DeclaredAgain, arrow_types, is_seen}
use Rattle.cd_variables.specs.FindingVariables.{variable_faults}
use Rattle.cd_names.specs.Inner.FindingInPrograms.{Found, reported, with_tree, with_pattern, with_types}
use Rattle.cd_names.specs.Inner.FindingInPrograms.{met, reported_if}
use Rattle.cd_names.specs.Inner.FindingInPrograms.{again}

-- of all members, and of each
pub each_member : {X : Type 0} (fact : X → Type 0) (all : List X)
    → AllOf fact all ↔ ((one : X) → IsOneIn one all → fact one)
each_member fact [] = (λ h one is. elim is [ ], λ h. tt)
each_member fact (first ∷ rest) = (
  λ h one is. by h one is ((each_member fact rest).0 h.1 one),
  λ h. (h first (inl refl), (each_member fact rest).1 (λ one is. h one (inr is))),
)
  where
    by : AllOf fact (first ∷ rest) → (one : _) → IsOneIn one (first ∷ rest)
        → (IsOneIn one rest → fact one) → fact one
    by h one (inl same) on = subst fact same h.0
    by h one (inr is) on = on is

-- of two lists, one after the other
pub all_of_both : {X : Type 0} (fact : X → Type 0) (first second : List X)
    → AllOf fact (first ++ second) ↔ (AllOf fact first × AllOf fact second)
all_of_both fact [] second = (λ h. (tt, h), λ h. h.1)
all_of_both fact (one ∷ first) second = (
  λ h. let on = (all_of_both fact first second).0 h.1 in ((h.0, on.0), on.1),
  λ h. (h.0.0, (all_of_both fact first second).1 (h.0.1, h.1)),
)

-- what is walked over second comes after what is walked over first
pub then : {A B C X Y : Type 0} → A ↔ (B × Y) → B ↔ (C × X) → A ↔ (C × (X × Y))
then second first = (
  λ a. let b = second.0 a in let c = first.0 b.0 in (c.0, (c.1, b.1)),
  λ h. second.1 (first.1 (h.0, h.1.0), h.1.1),
)

-- the other part says the same
pub other_same : {A B X Y : Type 0} → A ↔ (B × X) → X ↔ Y → A ↔ (B × Y)
other_same is same = (λ a. let b = is.0 a in (b.0, same.0 b.1), λ h. is.1 (h.0, same.1 h.1))

-- a value is walked over before branches, and stands before their bodies
pub value_first : {A B C X Y Z : Type 0} → A ↔ (B × (Y × Z)) → B ↔ (C × X) → A ↔ (C × (Y × (X × Z)))
value_first second first = other_same (then second first)
    (λ h. (h.1.0, (h.0, h.1.1)), λ h. (h.1.0, (h.0, h.1.1)))

-- three parts in turn
pub three_parts : {A B C D X Y Z : Type 0} → A ↔ (B × Z) → B ↔ (C × Y) → C ↔ (D × X)
    → A ↔ (D × (X × (Y × (Z × Unit {0}))))
three_parts third second first = other_same (then third (then second first))
    (λ h. (h.0.0, (h.0.1, (h.1, tt))), λ h. ((h.0, h.1.0), h.1.1.0))

pub nothing_more : {A : Type 0} → A ↔ (A × Unit {0})
nothing_more = (λ a. (a, tt), λ h. h.0)

-- the facts of what is found: of faults, and of the faults of trees
pub record Covers (types : Declarations) (P : Fault → Type 0) (found : Found) : Type 0 where
  pub faults : (f : Fault) → IsOneIn f found.faults → P f
  pub trees : AllOf (λ t. (f : Fault) → IsFaultOfType types t f → P f) found.trees

-- what is wrong with variables, as it is found
abbrev pub VariablesFound : Type 0
VariablesFound = (t : Tree) (s : List Fault) (f : Fault)
    → IsOneIn f (variable_faults t s) ↔ (IsOneIn f s ⊎ IsVariableFault t f)

-- among these, or the last
among_last : {X : Type 0} (one last : X) (all : List X) → IsOneIn one (all ++ last ∷ [])
    ↔ (IsOneIn one all ⊎ (last ≡ one))
among_last one last [] = (λ is. to is, λ is. from is)
  where
    to : IsOneIn one (last ∷ []) → IsOneIn one [] ⊎ (last ≡ one)
    to (inl same) = inr same
    to (inr is) = elim is [ ]

    from : IsOneIn one [] ⊎ (last ≡ one) → IsOneIn one (last ∷ [])
    from (inl is) = elim is [ ]
    from (inr same) = inl same
among_last one last (first ∷ all) =
    (λ is. to is (among_last one last all), λ is. from is (among_last one last all))
  where
    to : IsOneIn one (first ∷ all ++ last ∷ [])
        → IsOneIn one (all ++ last ∷ []) ↔ (IsOneIn one all ⊎ (last ≡ one))
        → IsOneIn one (first ∷ all) ⊎ (last ≡ one)
    to (inl same) on = inl (inl same)
    to (inr is) on = by (on.0 is)
      where
        by : IsOneIn one all ⊎ (last ≡ one) → IsOneIn one (first ∷ all) ⊎ (last ≡ one)
        by (inl is) = inl (inr is)
        by (inr same) = inr same

    from : IsOneIn one (first ∷ all) ⊎ (last ≡ one)
        → IsOneIn one (all ++ last ∷ []) ↔ (IsOneIn one all ⊎ (last ≡ one))
        → IsOneIn one (first ∷ all ++ last ∷ [])
    from (inl (inl same)) on = inl same
    from (inl (inr is)) on = inr (on.1 (inl is))
    from (inr same) on = inr (on.1 (inr same))

module _ (types : Declarations) (P : Fault → Type 0) where
  pub covers_reported : (fault : NameFault) (name : Name) (at : ℕ) (s : Found)
      → Covers types P (reported fault name at s)
      ↔ (Covers types P s × P (record { fault = fault; name = name; at = at }))
  covers_reported fault name at s = (
    λ h. (
      record {
        faults = λ f is. h.faults f ((among_last f _ s.faults).1 (inl is));
        trees = h.trees;
      },
      h.faults _ ((among_last _ _ s.faults).1 (inr refl)),
    ),
    λ h. record { faults = λ f is. by f h ((among_last f _ s.faults).0 is); trees = h.0.trees },
  )
    where
      one : Fault
      one = record { fault = fault; name = name; at = at }

      by : (f : Fault) → Covers types P s × P one → IsOneIn f s.faults ⊎ (one ≡ f) → P f
      by f h (inl is) = h.0.faults f is
      by f h (inr same) = subst P same h.1

  pub covers_tree : (t : Tree) (s : Found) → Covers types P (with_tree t s)
      ↔ (Covers types P s × ((f : Fault) → IsFaultOfType types t f → P f))
  covers_tree t s = (
    λ h. let both = (all_of_both _ s.trees (t ∷ [])).0 h.trees in
        (record { faults = h.faults; trees = both.0 }, both.1.0),
    λ h. record {
      faults = h.0.faults;
      trees = (all_of_both _ s.trees (t ∷ [])).1 (h.0.trees, (h.1, tt));
    },
  )

  pub covers_pattern : VariablesFound → (t : Tree) (s : Found) → Covers types P (with_pattern t s)
      ↔ (Covers types P s × ((f : Fault) → IsFaultOfPattern types t f → P f))
  covers_pattern variables t s = (
    λ h. let both = (all_of_both _ s.trees (t ∷ [])).0 h.trees in (
      record { faults = λ f is. h.faults f ((variables t s.faults f).1 (inl is)); trees = both.0 },
      λ f is. to f both.1.0 (λ f is. h.faults f ((variables t s.faults f).1 (inr is))) is,
    ),
    λ h. record {
      faults = λ f is. from f h ((variables t s.faults f).0 is);
      trees = (all_of_both _ s.trees (t ∷ [])).1 (h.0.trees, (λ f is. h.1 f (inl is), tt));
    },
  )
    where
      to : (f : Fault) → ((f : Fault) → IsFaultOfType types t f → P f)
          → ((f : Fault) → IsVariableFault t f → P f)
          → IsFaultOfPattern types t f → P f
      to f one other (inl is) = one f is
      to f one other (inr is) = other f is

      from : (f : Fault) → Covers types P s × ((f : Fault) → IsFaultOfPattern types t f → P f)
          → IsOneIn f s.faults ⊎ IsVariableFault t f → P f
      from f h (inl is) = h.0.faults f is
      from f h (inr is) = h.1 f (inr is)

  pub covers_types : (arrows : List Signature) (s : Found) → Covers types P (with_types arrows s)
      ↔ (Covers types P s × AllOf (λ t. (f : Fault) → IsFaultOfType types t f → P f)
      (arrow_types arrows))
  covers_types [] s = nothing_more
  covers_types (arrow ∷ arrows) s =
      other_same (then (covers_types arrows (with_tree arrow.gives (with_tree arrow.takes s)))
      (then (covers_tree arrow.gives (with_tree arrow.takes s)) (covers_tree arrow.takes s)))
      (λ h. (h.0.0, (h.0.1, h.1)), λ h. ((h.0, h.1.0), h.1.1))

  pub covers_met : (seen : Bool) (name : Name) (at : ℕ) (s : Found)
      → Covers types P (met seen name at s)
      ↔ (Covers types P s × (seen ≡ false → P (record { fault = Unknown; name = name; at = at })))
  covers_met true name at s = (λ h. (h, λ never. absurd (true≢false never)), λ h. h.0)
  covers_met false name at s = other_same (covers_reported Unknown name at s)
      (λ is never. is, λ is. is refl)

  covers_reported_if : (before : Bool) (name : Name) (at : ℕ) (s : Found)
      → Covers types P (reported_if before name at s)
      ↔ (Covers types P s × (before ≡ true → P (record { fault = Twice; name = name; at = at })))
  covers_reported_if false name at s = (λ h. (h, λ never. absurd (true≢false (sym never))), λ h. h.0)
  covers_reported_if true name at s = other_same (covers_reported Twice name at s)
      (λ is never. is, λ is. is refl)

-- it stands among these after such a name, or after one of them with its name
abbrev StandsAfter : List Name → List Occurrence → Occurrence → Type 0
StandsAfter before all o = ((is_seen before o.name ≡ true) × IsOneIn o all) ⊎ DeclaredAgain o all

-- one name more that stands before
one_before : (before : List Name) (name other : Name) → is_seen (before ++ name ∷ []) other ≡ true
    ↔ ((is_seen before other ≡ true) ⊎ (name ≡ other))
one_before before name other = (
  λ is. to ((Decides-or _ _ (λ is. is, λ is. is) (bytes_eq-Decides other name)).0
      (sym (parts ∙ ap (λ b. is_seen before other || b) (or_none (bytes_eq other name))) ∙ is)),
  λ is. parts ∙ ap (λ b. is_seen before other || b) (or_none (bytes_eq other name))
      ∙ (Decides-or _ _ (λ is. is, λ is. is) (bytes_eq-Decides other name)).1 (from is),
)
  where
    parts : is_seen (before ++ name ∷ []) other
        ≡ (is_seen before other || (bytes_eq other name || false))
    parts = list_any-append (bytes_eq other) before (name ∷ [])

    or_none : (b : Bool) → (b || false) ≡ b
    or_none true = refl
    or_none false = refl

    to : (is_seen before other ≡ true) ⊎ (other ≡ name)
        → (is_seen before other ≡ true) ⊎ (name ≡ other)
    to (inl is) = inl is
    to (inr same) = inr (sym same)

    from : (is_seen before other ≡ true) ⊎ (name ≡ other)
        → (is_seen before other ≡ true) ⊎ (other ≡ name)
    from (inl is) = inl is
    from (inr same) = inr (sym same)

-- the first one stands after such a name, or another one does, after one name more
first_or_later : (before : List Name) (first : Occurrence) (rest : List Occurrence) (o : Occurrence)
    → StandsAfter before (first ∷ rest) o
    → ((is_seen before first.name ≡ true) × (first ≡ o))
    ⊎ StandsAfter (before ++ first.name ∷ []) rest o
first_or_later before first rest o (inl (is, inl same)) =
    inl (subst (λ o. is_seen before o.name ≡ true) (sym same) is, same)
first_or_later before first rest o (inl (is, inr there)) =
    inr (inl ((one_before before first.name o.name).1 (inl is), there))
first_or_later before first rest o (inr (inl (same, there))) =
    inr (inl ((one_before before first.name o.name).1 (inr same), there))
first_or_later before first rest o (inr (inr on)) = inr (inr on)

later_stands : (before : List Name) (first : Occurrence) (rest : List Occurrence) (o : Occurrence)
    → StandsAfter (before ++ first.name ∷ []) rest o → StandsAfter before (first ∷ rest) o
later_stands before first rest o (inl (is, there)) = by ((one_before before first.name o.name).0 is)
  where
    by : (is_seen before o.name ≡ true) ⊎ (first.name ≡ o.name)
        → StandsAfter before (first ∷ rest) o
    by (inl is) = inl (is, inr there)
    by (inr same) = inr (inl (same, there))
later_stands before first rest o (inr on) = inr (inr on)

module _ (types : Declarations) (P : Fault → Type 0) where
  abbrev Reported : Occurrence → Type 0
  Reported o = P (record { fault = Twice; name = o.name; at = o.at })

  covers_after : (all : List Occurrence) (before : List Name) (s : Found)
      → Covers types P (again before all s)
      ↔ (Covers types P s × ((o : Occurrence) → StandsAfter before all o → Reported o))
  covers_after [] before s = (λ h. (h, λ o is. none o is), λ h. h.0)
    where
      none : (o : Occurrence) → StandsAfter before [] o → Reported o
      none o (inl (is, there)) = elim there [ ]
      none o (inr is) = elim is [ ]
  covers_after (first ∷ rest) before s = other_same
      (then (covers_after rest (before ++ first.name ∷ [])
      (reported_if (is_seen before first.name) first.name first.at s))
      (covers_reported_if types P (is_seen before first.name) first.name first.at s)) (
        λ h o is. to h o (first_or_later before first rest o is),
        λ h. (
          λ is. h first (inl (is, inl refl)),
          λ o is. h o (later_stands before first rest o is),
        ),
      )
    where
      to : ((is_seen before first.name ≡ true) → Reported first)
          × ((o : Occurrence) → StandsAfter (before ++ first.name ∷ []) rest o → Reported o)
          → (o : Occurrence) → ((is_seen before first.name ≡ true) × (first ≡ o))
          ⊎ StandsAfter (before ++ first.name ∷ []) rest o → Reported o
      to h o (inl (is, same)) = subst Reported same (h.0 is)
      to h o (inr is) = h.1 o is

  pub covers_again : (all : List Occurrence) (s : Found) → Covers types P (again [] all s)
      ↔ (Covers types P s × ((o : Occurrence) → DeclaredAgain o all
      → P (record { fault = Twice; name = o.name; at = o.at })))
  covers_again all s = other_same (covers_after all [] s)
      (λ h o is. h o (inr is), λ h o is. by h o is)
    where
      by : ((o : Occurrence) → DeclaredAgain o all → Reported o) → (o : Occurrence)
          → StandsAfter [] all o → Reported o
      by h o (inl (never, there)) = absurd (true≢false (sym never))
      by h o (inr is) = h o is
