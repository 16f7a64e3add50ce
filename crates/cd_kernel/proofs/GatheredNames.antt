-- The names that the code finds are those of the variables, each once.
use Rattle.std.proofs.Common.{◌≡◌, ℕ, suc, Bool, true, false, ◌||◌, List, [], ◌∷◌, ◌++◌, Option}
use Rattle.std.proofs.Common.{Some}
use Rattle.std.proofs.Common.{None, option_map, refl, sym, ap, ap₂, ◌∙◌, bytes_eq}
use Rattle.std.proofs.Common.{if◌then◌else◌}
use Rattle.std.specs.Option.{unwrap_or}
use Rattle.std.proofs.lemmas.Bool.{true≢false}
use Rattle.std.proofs.lemmas.Option.{none-some}
use Rattle.cd_syntax.specs.Name.{Name}
use Rattle.cd_matching.specs.Kernel.{number_of}
use Rattle.cd_matching.specs.Pattern as pattern
use Rattle.cd_matching.specs.Pattern.{Pattern, Patterns, NoPattern, APattern, Fields, NoField}
use Rattle.cd_matching.specs.Pattern.{Present, Optional, Regular, Regulars, NoRegular, ARegular}
use Rattle.cd_matching.specs.Variables.{binds, all_bind, fields_bind, regular_binds, regulars_bind}
use Rattle.cd_matching.specs.Variables.{is_gathered, one_is_gathered}
use Rattle.cd_kernel.specs.Copies.{IsNumber, is_among, AreDistinct}
use Rattle.cd_kernel.specs.Inner.Gathering.{with_name, with_variables, with_those_of_all}
use Rattle.cd_kernel.specs.Inner.Gathering.{with_those_of_fields, with_those_of_items}
use Rattle.cd_kernel.specs.Inner.Gathering.{with_those_of_parts, with_gathered}
use Rattle.cd_kernel.specs.Inner.Gathering.{with_all_gathered, numbered}
use Rattle.cd_kernel.proofs.VariableNumbers.{names_same, name_turned}

or_assoc : (a b c : Bool) → ((a || b) || c) ≡ (a || (b || c))
or_assoc true b c = refl
or_assoc false b c = refl

or_false : (a : Bool) → (a || false) ≡ a
or_false true = refl
or_false false = refl

among_end : (names : List Name) (one name : Name)
    → is_among (names ++ one ∷ []) name ≡ (is_among names name || bytes_eq one name)
among_end [] one name = or_false (bytes_eq name one) ∙ name_turned name one
among_end (first ∷ names) one name = ap (bytes_eq name first ||◌) (among_end names one name)
    ∙ sym (or_assoc (bytes_eq name first) (is_among names name) (bytes_eq one name))

-- a name is among others with one more
pub among_with : (names : List Name) (one name : Name)
    → is_among (with_name names one) name ≡ (is_among names name || bytes_eq one name)
among_with names one name = by_test (is_among names one) refl
  where
    same : is_among names one ≡ true → (b : Bool) → bytes_eq one name ≡ b
        → is_among names name ≡ (is_among names name || b)
    same there false differs = sym (or_false (is_among names name))
    same there true is = ap (is_among names) (sym (names_same one name is)) ∙ there
        ∙ sym (ap (λ (b : Bool). b || true)
        (ap (is_among names) (sym (names_same one name is)) ∙ there))

    by_test : (b : Bool) → is_among names one ≡ b
        → is_among (if b then names else names ++ one ∷ []) name
        ≡ (is_among names name || bytes_eq one name)
    by_test true there = same there (bytes_eq one name) refl
    by_test false differs = among_end names one name

distinct_end : (names : List Name) (one : Name) → AreDistinct names → is_among names one ≡ false
    → AreDistinct (names ++ one ∷ [])
distinct_end [] one distinct none = (refl, tt)
distinct_end (first ∷ names) one distinct none =
    by_test (bytes_eq one first) refl none (distinct_end names one distinct.1)
  where
    by_test : (b : Bool) → bytes_eq one first ≡ b → (b || is_among names one) ≡ false
        → (is_among names one ≡ false → AreDistinct (names ++ one ∷ []))
        → (is_among (names ++ one ∷ []) first ≡ false) × AreDistinct (names ++ one ∷ [])
    by_test true is none on = absurd (true≢false none)
    by_test false differs none on =
        (among_end names one first ∙ ap₂ (λ (a b : Bool). a || b) distinct.0 differs, on none)

pub distinct_with : (names : List Name) (one : Name) → AreDistinct names
    → AreDistinct (with_name names one)
distinct_with names one distinct = by_test (is_among names one) refl
  where
    by_test : (b : Bool) → is_among names one ≡ b
        → AreDistinct (if b then names else names ++ one ∷ [])
    by_test true there = distinct
    by_test false none = distinct_end names one distinct none

module _ {T : Type 0} where
  mutual
    pub gathered_among : (r : Regular T) (names : List Name) (name : Name)
        → is_among (with_gathered r names) name ≡ (is_among names name || is_gathered r name)
    gathered_among pattern.Nothing names name = sym (or_false (is_among names name))
    gathered_among (pattern.Item p) names name = sym (or_false (is_among names name))
    gathered_among (pattern.Seq all) names name = all_gathered_among all names name
    gathered_among (pattern.Alt all) names name = all_gathered_among all names name
    gathered_among (pattern.Repeat r post) names name = gathered_among r names name
    gathered_among (pattern.Capture one r) names name =
        gathered_among r (with_name names one) name
        ∙ ap (λ (b : Bool). b || is_gathered r name) (among_with names one name)
        ∙ or_assoc (is_among names name) (bytes_eq one name) (is_gathered r name)

    all_gathered_among : (all : Regulars T) (names : List Name) (name : Name)
        → is_among (with_all_gathered all names) name
        ≡ (is_among names name || one_is_gathered all name)
    all_gathered_among NoRegular names name = sym (or_false (is_among names name))
    all_gathered_among (ARegular first rest) names name =
        all_gathered_among rest (with_gathered first names) name
        ∙ ap (λ (b : Bool). b || one_is_gathered rest name) (gathered_among first names name)
        ∙ or_assoc (is_among names name) (is_gathered first name) (one_is_gathered rest name)

  mutual
    pub gathered_distinct : (r : Regular T) (names : List Name) → AreDistinct names
        → AreDistinct (with_gathered r names)
    gathered_distinct pattern.Nothing names distinct = distinct
    gathered_distinct (pattern.Item p) names distinct = distinct
    gathered_distinct (pattern.Seq all) names distinct = all_distinct all names distinct
    gathered_distinct (pattern.Alt all) names distinct = all_distinct all names distinct
    gathered_distinct (pattern.Repeat r post) names distinct = gathered_distinct r names distinct
    gathered_distinct (pattern.Capture one r) names distinct =
        gathered_distinct r (with_name names one) (distinct_with names one distinct)

    all_distinct : (all : Regulars T) (names : List Name) → AreDistinct names
        → AreDistinct (with_all_gathered all names)
    all_distinct NoRegular names distinct = distinct
    all_distinct (ARegular first rest) names distinct =
        all_distinct rest (with_gathered first names) (gathered_distinct first names distinct)

  -- the variables of a pattern
  mutual
    pub variables_among : (p : Pattern T) (names : List Name) (name : Name)
        → is_among (with_variables p names) name ≡ (is_among names name || binds p name)
    variables_among (pattern.OfType type) names name = sym (or_false (is_among names name))
    variables_among (pattern.Bind one) names name = among_with names one name
    variables_among (pattern.Default one constant) names name = among_with names one name
    variables_among (pattern.Pair p q) names name =
        variables_among q (with_variables p names) name
        ∙ ap (λ (b : Bool). b || binds q name) (variables_among p names name)
        ∙ or_assoc (is_among names name) (binds p name) (binds q name)
    variables_among (pattern.Xml p q r) names name =
        variables_among r (with_variables q (with_variables p names)) name
        ∙ ap (λ (b : Bool). b || binds r name)
        (variables_among q (with_variables p names) name
        ∙ ap (λ (b : Bool). b || binds q name) (variables_among p names name)
        ∙ or_assoc (is_among names name) (binds p name) (binds q name))
        ∙ or_assoc (is_among names name) (binds p name || binds q name) (binds r name)
        ∙ ap (is_among names name ||◌) (or_assoc (binds p name) (binds q name) (binds r name))
    variables_among (pattern.Record fields more) names name = of_fields_among fields names name
    variables_among (pattern.Both all) names name = of_all_among all names name
    variables_among (pattern.First all) names name = of_all_among all names name
    variables_among (pattern.Sequence r) names name = of_items_among r names name

    of_all_among : (all : Patterns T) (names : List Name) (name : Name)
        → is_among (with_those_of_all all names) name ≡ (is_among names name || all_bind all name)
    of_all_among NoPattern names name = sym (or_false (is_among names name))
    of_all_among (APattern first rest) names name =
        of_all_among rest (with_variables first names) name
        ∙ ap (λ (b : Bool). b || all_bind rest name) (variables_among first names name)
        ∙ or_assoc (is_among names name) (binds first name) (all_bind rest name)

    of_fields_among : (fields : Fields T) (names : List Name) (name : Name)
        → is_among (with_those_of_fields fields names) name
        ≡ (is_among names name || fields_bind fields name)
    of_fields_among NoField names name = sym (or_false (is_among names name))
    of_fields_among (Present label p rest) names name =
        of_fields_among rest (with_variables p names) name
        ∙ ap (λ (b : Bool). b || fields_bind rest name) (variables_among p names name)
        ∙ or_assoc (is_among names name) (binds p name) (fields_bind rest name)
    of_fields_among (Optional label type rest) names name = of_fields_among rest names name

    of_items_among : (r : Regular T) (names : List Name) (name : Name)
        → is_among (with_those_of_items r names) name
        ≡ (is_among names name || regular_binds r name)
    of_items_among pattern.Nothing names name = sym (or_false (is_among names name))
    of_items_among (pattern.Item p) names name = variables_among p names name
    of_items_among (pattern.Seq all) names name = of_parts_among all names name
    of_items_among (pattern.Alt all) names name = of_parts_among all names name
    of_items_among (pattern.Repeat r post) names name = of_items_among r names name
    of_items_among (pattern.Capture one r) names name =
        of_items_among r (with_name names one) name
        ∙ ap (λ (b : Bool). b || regular_binds r name) (among_with names one name)
        ∙ or_assoc (is_among names name) (bytes_eq one name) (regular_binds r name)

    of_parts_among : (all : Regulars T) (names : List Name) (name : Name)
        → is_among (with_those_of_parts all names) name
        ≡ (is_among names name || regulars_bind all name)
    of_parts_among NoRegular names name = sym (or_false (is_among names name))
    of_parts_among (ARegular first rest) names name =
        of_parts_among rest (with_those_of_items first names) name
        ∙ ap (λ (b : Bool). b || regulars_bind rest name) (of_items_among first names name)
        ∙ or_assoc (is_among names name) (regular_binds first name) (regulars_bind rest name)

-- a name that is among others has a number there
pub among_numbered : (names : List Name) (name : Name) → is_among names name ≡ true
    → IsNumber names name (numbered names name)
among_numbered [] name there = absurd (true≢false (sym there))
among_numbered (first ∷ names) name there =
    by_test (bytes_eq first name) (ap (λ (b : Bool). b || is_among names name)
    (name_turned first name) ∙ there) (among_numbered names name)
  where
    next : (o : Option ℕ) → o ≡ Some (unwrap_or o 0)
        → option_map suc o ≡ Some (unwrap_or (option_map suc o) 0)
    next (Some n) h = refl
    next None h = absurd (none-some 0 h)

    by_test : (b : Bool) → (b || is_among names name) ≡ true
        → (is_among names name ≡ true → IsNumber names name (numbered names name))
        → (if b then Some 0 else option_map suc (number_of names name))
        ≡ Some (unwrap_or (if b then Some 0 else option_map suc (number_of names name)) 0)
    by_test true there on = refl
    by_test false there on = next (number_of names name) (on there)
