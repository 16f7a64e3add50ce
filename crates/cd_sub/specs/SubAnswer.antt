-- The answers of `sub`.
use Rattle.std.specs.Prelude.{◌++◌, codes, encode_utf8_all}
use Rattle.cd_base.specs.declared.status.Status.TheVariants.{Done, No}
use Rattle.cd_syntax.specs.TypeTree.{Declarations}
use Rattle.cd_model.specs.Thing.{Thing, IsElement}
use Rattle.cd_model.specs.Canonical.{canonical}
use Rattle.cd_model.specs.Written.{Written}
use Rattle.cd_replies.specs.Bytes.{Bytes}
use Rattle.cd_replies.specs.Reply.{Reply, says, refusal}
use Rattle.cd_replies.specs.Texts.{ReadsAs, Declares, RefusesType, RefusesDeclarations}
use Rattle.cd_replies.specs.Disk.{Disk, HasText, FileRefusal}
use Rattle.cd_replies.specs.Within.{IsIn, IsOutside, IsWithin}
use Rattle.cd_replies.specs.declared.refusal.Refusal.{Refusal}

-- the answers of `sub` on two texts, which see these declarations; the first text is taken first
pub data SubAnswer (declared : Declarations) (text1 text2 : Bytes) : Reply → Type 0 where
  first_refused : (found : Refusal) → RefusesType declared text1 found
      → SubAnswer declared text1 text2 (refusal (codes "T1") text1 found)
  second_refused : (first : Written) → ReadsAs declared text1 first → (found : Refusal)
      → RefusesType declared text2 found
      → SubAnswer declared text1 text2 (refusal (codes "T2") text2 found)
  -- yes: each element of the first type is in the second
  yes : (first second : Written) → ReadsAs declared text1 first → ReadsAs declared text2 second
      → IsWithin first second
      → SubAnswer declared text1 text2 (says Done (codes "yes"))
  -- no, with the canonical text of an element that is in the first type and outside the second
  no : (first second : Written) → ReadsAs declared text1 first → ReadsAs declared text2 second
      → (element : Thing) → IsElement element → IsIn element first → IsOutside element second
      → SubAnswer declared text1 text2
      (says No (codes "no: " ++ encode_utf8_all (canonical element)))

-- the answers of `sub` with a file of declarations, which is taken first
pub data SubTypesAnswer (disk : Disk) (file text1 text2 : Bytes) : Reply → Type 0 where
  file_refused : (reply : Reply) → FileRefusal RefusesDeclarations disk file reply
      → SubTypesAnswer disk file text1 text2 reply
  on_texts : (text : Bytes) → HasText disk file text → (declared : Declarations)
      → Declares text declared
      → (reply : Reply) → SubAnswer declared text1 text2 reply
      → SubTypesAnswer disk file text1 text2 reply
