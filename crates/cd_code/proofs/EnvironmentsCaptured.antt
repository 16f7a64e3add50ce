-- The environment of what a kernel captures, by the numbers of its variables.
use Rattle.std.proofs.Common.{◌≡◌, ℕ, List, [], ◌∷◌, Option, Some, None, refl, ap}
use Rattle.cd_syntax.specs.Name.{Name}
use Rattle.cd_matching.specs.Captures.{Captures}
use Rattle.cd_matching.specs.Kernel.{number_of, at_number, by_name}
use Rattle.cd_evaluation.specs.Environment.{with_capture, captured_env}
use Rattle.cd_code.specs.Inner.Numbered.{with_number, numbered, env_by}

pub captured_by_number : (variables names : List Name) (captures : Captures ℕ)
    → captured_env names (by_name variables captures) ≡ env_by (numbered variables names) captures
captured_by_number variables [] captures = refl
captured_by_number variables (name ∷ names) captures =
    by_number (number_of variables name) (captured_by_number variables names captures)
  where
    by_number : (number : Option ℕ)
        → captured_env names (by_name variables captures) ≡ env_by (numbered variables names) captures
        → with_capture name (at_number captures number) (captured_env names (by_name variables captures))
        ≡ env_by (with_number name number (numbered variables names)) captures
    by_number None rest = rest
    by_number (Some number) rest = ap (with_capture name (captures number)) rest
