-- Functions and patterns whose places stand once stand at different places, in any order.
use Rattle.std.proofs.Common.{arith, ℕ, ◌≤◌, List, [], ◌∷◌, ◌++◌, map}
use Rattle.std.specs.Prelude.{flat_map}
use Rattle.cd_syntax.specs.TypeTree.{Tree}
use Rattle.cd_program.specs.Expr.{FunctionTree}
use Rattle.cd_evaluation.specs.Code.{place_of}
use Rattle.cd_evaluation.specs.ProgramFunctions.{functions_within, within_all, PlacesDiffer}
use Rattle.cd_placed.specs.Patterns.{start_of, patterns_of_function, patterns_of_functions, StartsDiffer}
use Rattle.cd_placed.proofs.Once.{Stands, times, times_both, Follows, itself, times_of_both, none_of, others_once}
use Rattle.cd_placed.proofs.FunctionPlaces.{of_both, places_of_function}
use Rattle.cd_placed.proofs.PatternStarts.{starts_of_function}

-- patterns
starts_differ : (patterns : List Tree) → ((p : ℕ) → times p (map start_of patterns) ≤ 1) → StartsDiffer patterns
starts_differ [] once = tt
starts_differ (one ∷ rest) once =
    (none_of start_of one rest once, starts_differ rest (others_once start_of one rest once))

all_starts : (functions : List FunctionTree)
    → Follows (map start_of (patterns_of_functions functions)) (flat_map starts_of_function functions)
all_starts [] = itself []
all_starts (f ∷ rest) = of_both start_of (patterns_of_function f) (patterns_of_functions rest) _ (all_starts rest)

pub patterns_differ : (from to : ℕ) (functions : List FunctionTree)
    → Stands from (flat_map starts_of_function functions) to → StartsDiffer (patterns_of_functions functions)
patterns_differ from to functions stand =
    starts_differ (patterns_of_functions functions)
    (λ p. let less = (all_starts functions).counts p in let most = stand.once p in omega (arith, less, most))

-- functions
places_differ : (functions : List FunctionTree) → ((p : ℕ) → times p (map place_of functions) ≤ 1)
    → PlacesDiffer functions
places_differ [] once = tt
places_differ (f ∷ rest) once = (none_of place_of f rest once, places_differ rest (others_once place_of f rest once))

-- the functions that are declared, and those within
all_counts : (functions : List FunctionTree)
    → Follows (map place_of functions ++ map place_of (within_all functions))
    (flat_map places_of_function functions)
all_counts [] = itself []
all_counts (f ∷ rest) = record {
  counts = λ p.
      let own = map place_of (functions_within f) in
      let others = map place_of rest in
      let inner = map place_of (functions_within f ++ within_all rest) in
      let later = flat_map places_of_function rest in
      let more = (all_counts rest).counts p in
      let one = times_both p (place_of f ∷ []) (others ++ inner) in
      let left = times_both p others inner in
      let parts = times_of_both place_of p (functions_within f) (within_all rest) in
      let both = times_both p others (map place_of (within_all rest)) in
      let first = times_both p (place_of f ∷ []) (own ++ later) in
      let right = times_both p own later in
      omega (arith, more, one, left, parts, both, first, right);
}

pub functions_differ : (from to : ℕ) (functions : List FunctionTree)
    → Stands from (flat_map places_of_function functions) to → PlacesDiffer (functions ++ within_all functions)
functions_differ from to functions stand =
    places_differ (functions ++ within_all functions)
    (λ p. let less = (all_counts functions).counts p in
    let most = stand.once p in
    let all = times_of_both place_of p functions (within_all functions) in
    let parts = times_both p (map place_of functions) (map place_of (within_all functions)) in
    omega (arith, less, most, all, parts))
