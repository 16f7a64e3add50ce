-- The commands, and the words that give them. Words are texts in UTF-8, seen as their bytes.
use Rattle.std.specs.Prelude.{◌≡◌, ℕ, ◌≤◌, ◌⊎◌, List, [], ◌∷◌, length, map, codes, String}
use Rattle.std.specs.Prelude.{Option, Some, None, string_bytes}
use Rattle.std.specs.Global.{Global}
use Rattle.cd_syntax.specs.Digits.{AreDigits, decimal_value}
use Rattle.cd_replies.specs.Bytes.{Bytes}
use Rattle.cd_running.specs.RunAnswer.{UNITS}

-- the texts of words
abbrev pub texts : List (String Global) → List Bytes
texts words = map string_bytes words

pub data Command : Type 0 where
  -- is the first type text within the second
  Sub : (first second : Bytes) → Command
  -- the same, with the type declarations of a file
  SubTypes : (file first second : Bytes) → Command
  -- is the value of a document in a type text, with the type declarations of a file
  Member : (file document type : Bytes) → Command
  -- is the program of a file well typed
  Check : (file : Bytes) → Command
  -- run the program of a file on a document, with 1,000,000,000 units
  Run : (file document : Bytes) → Command
  -- the same, with so many units
  RunSteps : (units : ℕ) (file document : Bytes) → Command
  -- run the workload of this size
  Work : (size : ℕ) → Command

-- the word is 1 to `most` decimal digits, which write this number
pub record IsNumeral (most : ℕ) (word : Bytes) (number : ℕ) : Type 0 where
  pub digits : AreDigits word
  pub short : length word ≤ most
  pub value : number ≡ decimal_value word

-- the size of a workload: 1 to 6 decimal digits that write a number from 1 to 100,000
pub record IsSize (word : Bytes) (size : ℕ) : Type 0 where
  pub numeral : IsNumeral 6 word size
  pub least : 1 ≤ size
  pub most : size ≤ 100000

-- the words give the command
abbrev pub ParseAs : List Bytes → Command → Type 0
ParseAs words (Sub first second) = words ≡ codes "sub" ∷ first ∷ second ∷ []
ParseAs words (SubTypes file first second) =
    words ≡ codes "sub" ∷ codes "--types" ∷ file ∷ first ∷ second ∷ []
ParseAs words (Member file document type) = words ≡ codes "member" ∷ file ∷ document ∷ type ∷ []
ParseAs words (Check file) = words ≡ codes "check" ∷ file ∷ []
ParseAs words (Run file document) = words ≡ codes "run" ∷ file ∷ document ∷ []
ParseAs words (RunSteps units file document) =
    (word : Bytes) × (words ≡ codes "run" ∷ codes "--steps" ∷ word ∷ file ∷ document ∷ [])
    × IsNumeral 18 word units
ParseAs words (Work size) =
    (word : Bytes) × (words ≡ codes "work" ∷ word ∷ []) × IsSize word size

-- the words ask for a run of the program of a file on a document, with so many units
abbrev pub ParseAsRun : List Bytes → (units : ℕ) → (file document : Bytes) → Type 0
ParseAsRun words units file document = (ParseAs words (Run file document) × (units ≡ UNITS))
    ⊎ ParseAs words (RunSteps units file document)

-- the words have no form that is listed
abbrev pub AreNoCommand : List Bytes → Type 0
AreNoCommand words = (command : Command) → ParseAs words command → ⊥

-- the file of the program that a command is about, if it is about one
abbrev pub program_of : Command → Option Bytes
program_of (Check file) = Some file
program_of (Run file document) = Some file
program_of (RunSteps units file document) = Some file
program_of command = None

-- the files that a command reads, in this order
abbrev pub files_of : Command → List Bytes
files_of (SubTypes file first second) = file ∷ []
files_of (Member file document type) = file ∷ document ∷ []
files_of (Check file) = file ∷ []
files_of (Run file document) = file ∷ document ∷ []
files_of (RunSteps units file document) = file ∷ document ∷ []
files_of command = []
