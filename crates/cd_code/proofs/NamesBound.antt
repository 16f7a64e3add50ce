-- Going on from one name to the next while names are bound.
use Rattle.std.proofs.Common.{◌≡◌, ◌+◌, ◌++◌, ℕ, List, [], ◌∷◌, Option, Some, None, map, drop, refl, sym, ap, subst, ◌∙◌}
use Rattle.std.proofs.lemmas.List.{append_assoc}
use Rattle.cd_syntax.specs.Name.{Name, IsLabel}
use Rattle.cd_model.specs.AllOf.{AllOf}
use Rattle.cd_matching.specs.Kernel.{number_of}
use Rattle.cd_syntax.specs.TypeTree.{Tree}
use Rattle.cd_names.specs.ProgramFaults.{names_of}
use Rattle.cd_variables.specs.Occurrences.{Occurrence as PlainOccurrence, bound}
use Rattle.cd_variables.specs.PlainOccurrences.{plain_occurrence}
use Rattle.cd_variables.specs.declared.occurrence.Occurrence.{Occurrence}
use Rattle.cd_code.specs.Inner.Numbered.{with_number, numbered}

abbrev pub name_of : Occurrence → Name
name_of one = one.name.now

numbered_one : (variables : List Name) (name : Name) (names : List Name)
    → numbered variables (name ∷ names) ≡ numbered variables (name ∷ []) ++ numbered variables names
numbered_one variables name names = by (number_of variables name)
  where
    by : (number : Option ℕ) → with_number name number (numbered variables names)
        ≡ with_number name number [] ++ numbered variables names
    by None = refl
    by (Some number) = refl

module _ (variables : List Name) (all : List Occurrence) (index : ℕ) (one : Occurrence)
    (is : drop index all ≡ one ∷ drop (index + 1) all) where
  pub bound_goes_on : (old new whole : List (ℕ × Name)) → new ≡ old ++ numbered variables (name_of one ∷ [])
      → old ++ numbered variables (map name_of (drop index all)) ≡ whole
      → new ++ numbered variables (map name_of (drop (index + 1) all)) ≡ whole
  bound_goes_on old new whole added before =
      let rest = map name_of (drop (index + 1) all) in
      ap (λ all. all ++ numbered variables rest) added
      ∙ append_assoc old (numbered variables (name_of one ∷ [])) (numbered variables rest)
      ∙ ap (λ left. old ++ left) (sym (numbered_one variables (name_of one) rest))
      ∙ ap (λ left. old ++ numbered variables (map name_of left)) (sym is)
      ∙ before

  pub labels_left : AllOf (λ other. IsLabel (name_of other)) (drop index all)
      → IsLabel (name_of one) × AllOf (λ other. IsLabel (name_of other)) (drop (index + 1) all)
  labels_left labels = subst (AllOf (λ other. IsLabel (name_of other))) is labels

-- the names of what was found are those of plain occurrences
pub names_are : (all : List Occurrence) → map (λ one. one.name) (map plain_occurrence all) ≡ map name_of all
names_are [] = refl
names_are (one ∷ rest) = ap (λ names. one.name.now ∷ names) (names_are rest)

pub each_label : (all : List Occurrence) (names : List Name) → map name_of all ≡ names → AllOf IsLabel names
    → AllOf (λ one. IsLabel (name_of one)) all
each_label all names same labels = by all (subst (AllOf IsLabel) (sym same) labels)
  where
    by : (all : List Occurrence) → AllOf IsLabel (map name_of all) → AllOf (λ one. IsLabel (name_of one)) all
    by [] labels = tt
    by (one ∷ rest) labels = (labels.0, by rest labels.1)

-- those that were found after none are those that the pattern binds
pub bound_names : (old new slice : List Occurrence) (pattern : Tree) → old ≡ []
    → map plain_occurrence new ≡ map plain_occurrence old ++ bound pattern → slice ≡ new → map name_of slice ≡ names_of pattern
bound_names old new slice pattern none found same =
    ap (map name_of) same ∙ sym (names_are new)
    ∙ ap (map (λ (one : PlainOccurrence). one.name)) (found ∙ ap (λ before. map plain_occurrence before ++ bound pattern) none)
