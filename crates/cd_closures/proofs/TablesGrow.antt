-- A table grows by the entries of one function after the other.
use Rattle.std.proofs.Common.{◌≡◌, ◌⊎◌, inl, inr, ◌||◌, ◌==◌, ◌∙◌, ℕ, Bool, true, false, List, [], ◌∷◌, Option, Some, None, nat_eq, map, refl, sym, ap, subst, true≢false, if◌then◌else◌}
use Rattle.std.proofs.lemmas.Bool.{cases_Bool, or_cases, or_parts, eqb-true, eq-eqb}
use Rattle.std.specs.List.{list_any}
use Rattle.std.specs.Option.{option_eq}
use Rattle.cd_sets.specs.declared.node_id.NodeId.{NodeId}
use Rattle.cd_model.specs.AllOf.{AllOf}
use Rattle.cd_model.specs.Formula.{Graph, nodes}
use Rattle.cd_model.specs.Interfaces.{ArrowOf, OfWritten, admits}
use Rattle.cd_model.specs.Scope.{Scope}
use Rattle.cd_model.specs.Types.{closure_maps, element_maps}
use Rattle.cd_model.specs.Written.{WrittenType, written}
use Rattle.cd_program.specs.Expr.{Signature, FunctionTree, Program}
use Rattle.cd_typing.specs.Typed.{scope_of}
use Rattle.cd_asking.specs.MappedArrows.{is_listed, entries_of, Lists, MapsRight, ArrowStands}
use Rattle.cd_asking.specs.Mappings.{Mappings}
use Rattle.cd_evaluation.specs.Code.{place_of}
use Rattle.cd_evaluation.specs.ProgramFunctions.{all_functions, first_at, function_at}
use Rattle.cd_evaluation.specs.ProgramInterfaces.{interface_of, IsEnoughFor, written_arrow, arrows_of, count_of, interfaces_of}
use Rattle.cd_evaluation.proofs.CountIsEnough.{count_is_enough_at}
use Rattle.cd_closures.specs.Inner.Collected.{with_nodes}
use Rattle.cd_closures.specs.Inner.Entries.{has, HasNone, AddsOf, AreRight}
use Rattle.cd_closures.specs.Inner.Tables.{UnlistedHaveNone, IsFound, IsTable}
use Rattle.cd_closures.specs.Inner.Wholes.{IsRight}
use Rattle.cd_closures.specs.declared.arrow.NodeArrow.{NodeArrow}
use Rattle.cd_closures.specs.declared.asked.Asked.{Asked}
use Rattle.cd_closures.proofs.ArrowsCollected.{of_graph}

-- the entries of a function that was not listed, which is listed now
module _ (place : ℕ) (maps middle new : Mappings) (lists : Lists place maps middle) (adds : AddsOf (Some place) middle new) where
  entries_stay : (key : Option ℕ) → option_eq nat_eq (Some place) key ≡ false → (arrow : NodeArrow) → has new key arrow ≡ has maps key arrow
  entries_stay key differs arrow = adds.others key differs arrow
      ∙ ap (λ entries. has (record { functions = maps.functions; entries = entries }) key arrow) lists.entries

  listed_then : (n : ℕ) → is_listed new n ≡ is_listed maps n || (place == n)
  listed_then n = ap (λ functions. is_listed (record { functions = functions; entries = new.entries }) n) adds.functions ∙ lists.functions n

  pub none_still : UnlistedHaveNone maps → UnlistedHaveNone new
  none_still none n not arrow =
      let apart = or_parts _ _ (sym (listed_then n) ∙ not) in entries_stay (Some n) apart.1 arrow ∙ none n apart.0 arrow

-- and has none before
pub none_then : (place : ℕ) (maps middle : Mappings) → Lists place maps middle → is_listed maps place ≡ false → UnlistedHaveNone maps → HasNone (Some place) middle
none_then place maps middle lists not none arrow =
    ap (λ entries. has (record { functions = maps.functions; entries = entries }) (Some place) arrow) lists.entries ∙ none place not arrow

module _ (graph : Graph) (scope : Scope) where
  -- what was right of a function is so where its entries are the same
  right_still : (interface : List Signature) (key : Option ℕ) (old new : Mappings) → ((arrow : NodeArrow) → has new key arrow ≡ has old key arrow)
      → (asked : List Asked) → AreRight graph scope interface key asked old → AreRight graph scope interface key asked new
  right_still interface key old new same [] are = tt
  right_still interface key old new same (one ∷ asked) are = (
    subst (IsRight scope graph interface one.arrow.argument one.arrow.result) (sym (same one.arrow)) are.0,
    right_still interface key old new same asked are.1,
  )

  module _ (asked : List Asked) (all : List FunctionTree) where
    abbrev Table : List FunctionTree → Mappings → Type 0
    Table = IsTable graph scope asked all

    -- no function is listed yet
    pub table_begins : (maps : Mappings) → maps.functions ≡ [] → AreRight graph scope [] None asked maps → Table all maps
    table_begins maps none others = record {
      listed = λ n is. absurd (true≢false (sym is ∙ ap (λ functions. list_any (λ one. n == one) functions) none));
      unlisted = λ n not. refl;
      others = others;
    }

    -- the next function
    module _ (f : FunctionTree) (left : List FunctionTree) (maps : Mappings) (table : Table (f ∷ left) maps) where
      abbrev place : ℕ
      place = place_of f

      further : (n : ℕ) → (place == n) ≡ false → first_at all n ≡ first_at (f ∷ left) n → first_at all n ≡ first_at left n
      further n differs found = found ∙ ap (λ c. if c then Some f else first_at left n) differs

      -- it is listed already
      pub table_skips : is_listed maps place ≡ true → Table left maps
      table_skips is = record {
        listed = table.listed;
        unlisted = λ n not. further n (elsewhere n not (cases_Bool (place == n))) (table.unlisted n not);
        others = table.others;
      }
        where
          elsewhere : (n : ℕ) → is_listed maps n ≡ false → ((place == n) ≡ true) ⊎ ((place == n) ≡ false) → (place == n) ≡ false
          elsewhere n not (inl same) = absurd (true≢false (sym is ∙ ap (is_listed maps) (eqb-true place n same) ∙ not))
          elsewhere n not (inr differs) = differs

      -- it is listed now, with its entries
      module _ (not_listed : is_listed maps place ≡ false) (middle new : Mappings) (lists : Lists place maps middle)
          (adds : AddsOf (Some place) middle new) where
        other_place : (n : ℕ) → is_listed maps n ≡ true → ((place == n) ≡ true) ⊎ ((place == n) ≡ false) → (place == n) ≡ false
        other_place n is (inl same) = absurd (true≢false (sym is ∙ ap (is_listed maps) (sym (eqb-true place n same)) ∙ not_listed))
        other_place n is (inr differs) = differs

        pub table_grows : AreRight graph scope (interface_of f) (Some place) asked new → Table left new
        table_grows right = record {
          listed = λ n is. by_case n (or_cases _ _ (sym (listed_then place maps middle new lists adds n) ∙ is));
          unlisted = λ n not. let apart = or_parts _ _ (sym (listed_then place maps middle new lists adds n) ∙ not) in
              further n apart.1 (table.unlisted n apart.0);
          others = right_still [] None maps new (entries_stay place maps middle new lists adds None refl) asked table.others;
        }
          where
            by_case : (n : ℕ) → (is_listed maps n ≡ true) ⊎ ((place == n) ≡ true) → IsFound graph scope asked all n new
            by_case n (inl before) =
                let found = table.listed n before in record {
                  f = found.f;
                  found = found.found;
                  right = right_still (interface_of found.f) (Some n) maps new (entries_stay place maps middle new lists adds (Some n) (other_place n before (cases_Bool (place == n))))
                      asked found.right;
                }
            by_case n (inr here) = subst (λ number. IsFound graph scope asked all number new) (eqb-true place n here) (record {
              f = f;
              found = table.unlisted place not_listed ∙ ap (λ c. if c then Some f else first_at left place) (eq-eqb place place refl);
              right = right;
            })

-- where no function is left, the table is right of a program with these functions
closed_alike : (graph : Graph) (count : ℕ) (all : ℕ → List (ArrowOf WrittenType)) (n : ℕ) (some : List (ArrowOf WrittenType)) → all n ≡ some
    → (argument result : NodeId) (answer : Bool) → closure_maps (nodes graph) (admits (OfWritten count (λ at. some))) 0 argument result answer
    → closure_maps (nodes graph) (admits (OfWritten count all)) n argument result answer
closed_alike graph count all n some same argument result true is = λ pairs element admitted.
    is pairs element (subst (AllOf (λ arrow. element_maps (written count) pairs arrow.argument arrow.result true)) same admitted)
closed_alike graph count all n some same argument result false is = λ each. is (λ pairs element admitted.
    each pairs element (subst (AllOf (λ arrow. element_maps (written count) pairs arrow.argument arrow.result true)) (sym same) admitted))

module _ (graph : Graph) (asked : List Asked) (arrows : map (λ one. one.arrow) asked ≡ with_nodes [] graph) (maps : Mappings) where
  each_arrow : (P : NodeArrow → Type 0) (some : List Asked) → AllOf (λ one. P one.arrow) some → AllOf P (map (λ one. one.arrow) some)
  each_arrow P [] are = tt
  each_arrow P (one ∷ some) are = (are.0, each_arrow P some are.1)

  module _ (scope : Scope) (interface : List Signature) (key : Option ℕ) (right : AreRight graph scope interface key asked maps) where
    abbrev Right : NodeArrow → Type 0
    Right arrow = IsRight scope graph interface arrow.argument arrow.result (has maps key arrow)

    right_of : (argument result : NodeId) → ArrowStands graph argument result → Right (record { argument = argument; result = result })
    right_of argument result stands =
        of_graph Right graph (subst (AllOf Right) arrows (each_arrow Right asked right)) stands.0 argument result stands.1

  module _ (program : Program) (table : IsTable graph (scope_of program) asked (all_functions program) [] maps) where
    abbrev scope : Scope
    scope = scope_of program

    pub of_program : (n : ℕ) → MapsRight graph (interfaces_of program) maps n
    of_program n = by_case (cases_Bool (is_listed maps n))
      where
        answer_by : (found : Option FunctionTree) (interface : List Signature) (key : Option ℕ) → function_at program n ≡ found
            → arrows_of scope found ≡ map (written_arrow scope) interface → IsEnoughFor scope (count_of program) interface
            → entries_of maps n ≡ key → AreRight graph scope interface key asked maps → MapsRight graph (interfaces_of program) maps n
        answer_by found interface key is same enough entries right = λ argument result stands.
            subst (λ key. closure_maps (nodes graph) (admits (interfaces_of program)) n argument result
            (has maps key (record { argument = argument; result = result }))) (sym entries)
            (closed_alike graph (count_of program) (λ at. arrows_of scope (function_at program at)) n (map (written_arrow scope) interface)
            (ap (arrows_of scope) is ∙ same) argument result (has maps key (record { argument = argument; result = result }))
            (right_of scope interface key right argument result stands (count_of program) enough))

        by_case : (is_listed maps n ≡ true) ⊎ (is_listed maps n ≡ false) → MapsRight graph (interfaces_of program) maps n
        by_case (inl is) = let found = table.listed n is in
            answer_by (Some found.f) (interface_of found.f) (Some n) found.found refl (count_is_enough_at program n found.f found.found)
            (ap (λ c. if c then Some n else None) is) found.right
        by_case (inr not) = answer_by None [] None (table.unlisted n not) refl tt (ap (λ c. if c then Some n else None) not) table.others
