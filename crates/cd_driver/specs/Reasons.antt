-- What each status says of the words, the files and the sinks.
use Rattle.std.specs.Prelude.{◌≡◌, ℕ, ◌⊎◌, ◌<◌, ◌≤◌, List, Some, length}
use Rattle.std.specs.Str.{IsUtf8}
use Rattle.cd_base.specs.declared.status.Status.{Status}
use Rattle.cd_base.specs.declared.status.Status.TheVariants as status
use Rattle.cd_base.specs.Faults.{Rose}
use Rattle.cd_syntax.specs.declared.fault.TextFault.TheVariants.{BadChar, OpenText, OpenComment}
use Rattle.cd_syntax.specs.declared.fault.TextFault.TheVariants.{TooWide, Syntax, TooDeep}
use Rattle.cd_model.specs.Thing.{Thing, IsElement}
use Rattle.cd_syntax.specs.TypeTree.{Declarations, NoDeclaration}
use Rattle.cd_program.specs.Expr.{Program}
use Rattle.cd_model.specs.Written.{Written}
use Rattle.cd_resolve.specs.Faults.{Fault}
use Rattle.cd_replies.specs.Bytes.{Bytes}
use Rattle.cd_model.specs.AllOf.{AnyOf}
use Rattle.cd_driver.specs.Command.{Command, Sub, SubTypes, Member, Check, Work, ParseAs}
use Rattle.cd_driver.specs.Command.{ParseAsRun}
use Rattle.cd_driver.specs.Command.{AreNoCommand, files_of, program_of}
use Rattle.cd_replies.specs.Refusals.{naming_of}
use Rattle.cd_replies.specs.Texts.{ReadsAs, Declares}
use Rattle.cd_replies.specs.Texts.{RefusesType, RefusesDeclarations, RefusesProgram}
use Rattle.cd_replies.specs.Within.{IsIn, IsOutside, IsWithin}
use Rattle.cd_driver.specs.Outside.{Outside}
use Rattle.cd_replies.specs.Disk.{Disk, Encountered, Has, HasText, LARGEST}
use Rattle.cd_driver.specs.Causes.{SinkFailed}
use Rattle.cd_replies.specs.Documents.{RefusesDocument, FileWrites, IsValueIn, IsValueOutside}
use Rattle.cd_replies.specs.declared.refusal.Refusal.{Refusal}
use Rattle.cd_replies.specs.declared.refusal.Refusal.TheVariants.{Text}
use Rattle.cd_member.specs.MemberAnswer.{FileDeclares}
use Rattle.cd_typing.specs.Typed.{IsTyped}
use Rattle.cd_checking.specs.CheckAnswer.{FileHasProgram}
use Rattle.cd_evaluation.specs.Runs as outcome
use Rattle.cd_evaluation.specs.Runs.{Outcome, Result}
use Rattle.cd_running.specs.Input.{IsNoInput}
use Rattle.cd_running.specs.RunAnswer.{FileHasTyped, Given, HasRun}
use Rattle.cd_running.specs.Queries.{Answered}
use Rattle.cd_running.specs.WorkAnswer.{Runs}

-- the words ask about two type texts, which see these declarations: none, or those of a file
pub data ParseAsTexts (words : List Bytes) (disk : Disk) : Declarations → (text1 text2 : Bytes)
    → Type 0 where
  alone : (text1 text2 : Bytes) → ParseAs words (Sub text1 text2)
      → ParseAsTexts words disk NoDeclaration text1 text2
  with_file : (file text1 text2 : Bytes) → ParseAs words (SubTypes file text1 text2)
      → (text : Bytes)
      → HasText disk file text
      → (declared : Declarations) → Declares text declared
      → ParseAsTexts words disk declared text1 text2

-- the words ask whether the first type is within the second, for the files that were encountered
pub record Ask (words : List Bytes) (before after : Outside) (first second : Written) : Type 0 where
  pub disk : Disk
  pub encountered : Encountered before.files after.files disk
  pub declared : Declarations
  pub text1 : Bytes
  pub text2 : Bytes
  pub parse : ParseAsTexts words disk declared text1 text2
  pub first_is : ReadsAs declared text1 first
  pub second_is : ReadsAs declared text2 second

-- each element of the first type is in the second
pub record IsYes (words : List Bytes) (before after : Outside) : Type 0 where
  pub first : Written
  pub second : Written
  pub ask : Ask words before after first second
  pub within : IsWithin first second

-- an element of the first type is outside the second
pub record IsNo (words : List Bytes) (before after : Outside) : Type 0 where
  pub first : Written
  pub second : Written
  pub ask : Ask words before after first second
  pub element : Thing
  pub exists : IsElement element
  pub inside : IsIn element first
  pub outside : IsOutside element second

-- the words ask whether the value is in the type, for the files that were encountered
pub record AskMember (words : List Bytes) (before after : Outside) (v : Thing)
    (type : Written) : Type 0 where
  pub disk : Disk
  pub encountered : Encountered before.files after.files disk
  pub file : Bytes
  pub document : Bytes
  pub text : Bytes
  pub parse : ParseAs words (Member file document text)
  pub declared : Declarations
  pub declares : FileDeclares disk file declared
  pub type_is : ReadsAs declared text type
  pub writes : FileWrites disk document v

-- the value of the document is in the type
pub record IsMember (words : List Bytes) (before after : Outside) : Type 0 where
  pub v : Thing
  pub type : Written
  pub ask : AskMember words before after v type
  pub inside : IsValueIn v type

-- the value of the document is outside the type
pub record IsNoMember (words : List Bytes) (before after : Outside) : Type 0 where
  pub v : Thing
  pub type : Written
  pub ask : AskMember words before after v type
  pub outside : IsValueOutside v type

-- this stands against a text that the words give
pub data HasRefusal (words : List Bytes) (disk : Disk) (found : Refusal) : Type 0 where
  in_file : (file text1 text2 : Bytes) → ParseAs words (SubTypes file text1 text2) → (text : Bytes)
      → HasText disk file text
      → RefusesDeclarations text found → HasRefusal words disk found
  in_first : (declared : Declarations) (text1 text2 : Bytes)
      → ParseAsTexts words disk declared text1 text2
      → RefusesType declared text1 found → HasRefusal words disk found
  in_second : (declared : Declarations) (text1 text2 : Bytes)
      → ParseAsTexts words disk declared text1 text2
      → (first : Written) → ReadsAs declared text1 first → RefusesType declared text2 found
      → HasRefusal words disk found
  in_declarations : (file document text : Bytes) → ParseAs words (Member file document text)
      → (declarations : Bytes) → HasText disk file declarations
      → RefusesDeclarations declarations found → HasRefusal words disk found
  in_type : (file document text : Bytes) → ParseAs words (Member file document text)
      → (declared : Declarations) → FileDeclares disk file declared
      → RefusesType declared text found → HasRefusal words disk found
  in_document : (file document text : Bytes) → ParseAs words (Member file document text)
      → (declared : Declarations) → FileDeclares disk file declared → (type : Written)
      → ReadsAs declared text type → (notation : Bytes) → HasText disk document notation
      → RefusesDocument notation found → HasRefusal words disk found
  in_program : (command : Command) (file : Bytes) → ParseAs words command
      → program_of command ≡ Some file → (text : Bytes) → HasText disk file text
      → RefusesProgram text found → HasRefusal words disk found
  in_run : (units : ℕ) (file document : Bytes) → ParseAsRun words units file document
      → (program : Program) → FileHasTyped disk file program → (notation : Bytes)
      → HasText disk document notation
      → RefusesDocument notation found → HasRefusal words disk found

-- and it is of this kind
pub record IsRefused (words : List Bytes) (before after : Outside)
    (is : Refusal → Type 0) : Type 0 where
  pub disk : Disk
  pub encountered : Encountered before.files after.files disk
  pub found : Refusal
  pub kind : is found
  pub stands : HasRefusal words disk found

abbrev pub IsLexical : Refusal → Type 0
IsLexical (Text (BadChar place)) = Unit {0}
IsLexical (Text (OpenText place)) = Unit {0}
IsLexical (Text (OpenComment place)) = Unit {0}
IsLexical (Text (TooWide place)) = Unit {0}
IsLexical found = ⊥

abbrev pub IsSyntax : Refusal → Type 0
IsSyntax found = (place : ℕ) × (found ≡ Text (Syntax place))

abbrev pub IsTooDeep : Refusal → Type 0
IsTooDeep found = (place : ℕ) × (found ≡ Text (TooDeep place))

abbrev pub IsNaming : Refusal → Type 0
IsNaming found = (fault : Fault) × (found ≡ naming_of fault)

-- the words' command reads a file of this name
pub record NamesFile (words : List Bytes) (file : Bytes) : Type 0 where
  pub command : Command
  pub parse : ParseAs words command
  pub is : AnyOf (λ name. name ≡ file) (files_of command)

-- a read of a file that the words name failed
pub record IsUnread (words : List Bytes) (before after : Outside) : Type 0 where
  pub file : Bytes
  pub named : NamesFile words file
  pub rose : Rose before.files.faults after.files.faults
  pub last : after.files.last ≡ Some file

-- the bytes of a file that the words name are of this kind
pub record FileIs (words : List Bytes) (before after : Outside)
    (kind : Bytes → Type 0) : Type 0 where
  pub disk : Disk
  pub encountered : Encountered before.files after.files disk
  pub file : Bytes
  pub named : NamesFile words file
  pub bytes : Bytes
  pub has : Has disk file bytes
  pub is : kind bytes

abbrev pub IsLarge : Bytes → Type 0
IsLarge bytes = LARGEST < length bytes

abbrev pub IsNotText : Bytes → Type 0
IsNotText bytes = (length bytes ≤ LARGEST) × (IsUtf8 bytes → ⊥)

-- the words' command is about the program of a file, which is this one, for the files that were
-- met; its names are sound
pub record AskProgram (words : List Bytes) (before after : Outside) (command : Command)
    (program : Program) : Type 0 where
  pub disk : Disk
  pub encountered : Encountered before.files after.files disk
  pub parse : ParseAs words command
  pub file : Bytes
  pub about : program_of command ≡ Some file
  pub text : Bytes
  pub has : FileHasProgram disk file text program

-- the words ask whether a program has types, and the typing rules type it
pub record IsWellTyped (words : List Bytes) (before after : Outside) : Type 0 where
  pub file : Bytes
  pub program : Program
  pub ask : AskProgram words before after (Check file) program
  pub typed : IsTyped program

-- the typing rules do not type the program of the words' command
pub record IsIllTyped (words : List Bytes) (before after : Outside) : Type 0 where
  pub command : Command
  pub program : Program
  pub ask : AskProgram words before after command program
  pub untyped : IsTyped program → ⊥

-- the words ask for a run with so many units, for the files that were encountered
pub record AskRun (words : List Bytes) (before after : Outside) (disk : Disk) (units : ℕ)
    (file document : Bytes) : Type 0 where
  pub encountered : Encountered before.files after.files disk
  pub parse : ParseAsRun words units file document

-- the run that they ask for ends with an outcome of this kind, and is safe
pub record HasEnded (words : List Bytes) (before after : Outside) (kind : Outcome → Type 0)
    : Type 0 where
  pub disk : Disk
  pub units : ℕ
  pub file : Bytes
  pub document : Bytes
  pub ask : AskRun words before after disk units file document
  pub result : Result
  pub run : HasRun disk units file document result
  pub is : kind result.outcome

-- the document is in no argument of the program's `main`
pub record IsNotTaken (words : List Bytes) (before after : Outside) : Type 0 where
  pub disk : Disk
  pub units : ℕ
  pub file : Bytes
  pub document : Bytes
  pub ask : AskRun words before after disk units file document
  pub given : Given disk file document
  pub outside : IsNoInput given.program given.main given.value

-- the words ask for the workload, whose run and whose queries have an answer
pub record HasWorked (words : List Bytes) : Type 0 where
  pub size : ℕ
  pub parse : ParseAs words (Work size)
  pub used : ℕ
  pub value : Thing
  pub runs : Runs size used value
  pub affirmed : ℕ
  pub answered : Answered size affirmed

-- the reason for each status; want of memory is free, and one number stands for nothing
abbrev pub Reason : List Bytes → Outside → Outside → Status → Type 0
Reason words before after status.Done =
    IsYes words before after ⊎ (IsMember words before after ⊎ (IsWellTyped words before after
    ⊎ (HasEnded words before after (λ is. (v : Thing) × (is ≡ outcome.Done v))
    ⊎ HasWorked words)))
Reason words before after status.No = IsNo words before after ⊎ IsNoMember words before after
Reason words before after status.Usage = AreNoCommand words
Reason words before after status.ReadFault = IsUnread words before after
Reason words before after status.WriteFault = SinkFailed words before after
Reason words before after status.NoMemory = Unit {0}
Reason words before after status.TooLarge = FileIs words before after IsLarge
Reason words before after status.NotUtf8 = FileIs words before after IsNotText
Reason words before after status.Lexical = IsRefused words before after IsLexical
Reason words before after status.Syntax = IsRefused words before after IsSyntax
Reason words before after status.TooDeep = IsRefused words before after IsTooDeep
Reason words before after status.Naming = IsRefused words before after IsNaming
Reason words before after status.IllTyped = IsIllTyped words before after
Reason words before after status.NotBuilt = ⊥
Reason words before after status.NotInput = IsNotTaken words before after
Reason words before after status.Uncaught =
    HasEnded words before after (λ is. (v : Thing) × (is ≡ outcome.Raised v))
Reason words before after status.Overflow =
    HasEnded words before after (λ is. is ≡ outcome.Overflow)
Reason words before after status.Spent =
    HasEnded words before after (λ is. is ≡ outcome.Spent)
