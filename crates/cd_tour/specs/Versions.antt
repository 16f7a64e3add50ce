-- Two versions of a schema as one file.
use Rattle.std.specs.Prelude.{◌≡◌, List, [], ◌∷◌, ◌++◌, Option, codes}
use Rattle.cd_base.specs.FilesState.{IsPrefixOf}
use Rattle.cd_replies.specs.Disk.{LARGEST}
use Rattle.cd_replies.specs.Bytes.{Bytes}

-- the one file holds the text of the first version, and then that of the second, where these are
-- reported
pub record HoldsBoth (known : Bytes → Option Bytes) (files : List (Bytes × Bytes)) : Type 0 where
  pub first : Bytes
  pub second : Bytes
  pub first_is : IsPrefixOf (known (codes "schema.cd")) LARGEST first
  pub second_is : IsPrefixOf (known (codes "schema2.cd")) LARGEST second
  pub files_are : files ≡ (codes "schemas.cd", first ++ second) ∷ []
