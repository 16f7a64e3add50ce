-- What a call leaves of what is known of files, by the files that its words name.
use Rattle.std.proofs.Common.{◌≡◌, List, [], ◌∷◌, inl, inr, subst}
use Rattle.cd_base.specs.FilesState.{FilesState, FailsToRead}
use Rattle.cd_model.specs.AllOf.{AnyOf}
use Rattle.cd_replies.specs.Bytes.{Bytes}
use Rattle.cd_driver.specs.Command.{Command, SubTypes, ParseAs, files_of}
use Rattle.cd_replies.specs.File.{ReadsThere, ReadsAmong}
use Rattle.cd_driver.specs.FilesRead.{ReadsFilesOf, NamesNoFile}
use Rattle.cd_driver.proofs.OneCommand.{one_command}

at_file : (old new : FilesState) (file : Bytes) → AnyOf (FailsToRead old new) (file ∷ []) → ReadsThere old new file
at_file old new file (inl fails) = inr fails
at_file old new file (inr none) = absurd none

pub named : (words : List Bytes) (old new : FilesState) → ReadsFilesOf words old new
    → (file text1 text2 : Bytes) → ParseAs words (SubTypes file text1 text2) → ReadsThere old new file
named words old new (inl same) file text1 text2 parse = inl same
named words old new (inr given) file text1 text2 parse =
    at_file old new file
    (subst (λ command. AnyOf (FailsToRead old new) (files_of command)) (one_command words (SubTypes file text1 text2) given.0 parse given.1) given.2)

pub among : (words : List Bytes) (old new : FilesState) → ReadsFilesOf words old new
    → (command : Command) → ParseAs words command → ReadsAmong old new (files_of command)
among words old new (inl same) command parse = inl same
among words old new (inr given) command parse =
    inr (subst (λ command. AnyOf (FailsToRead old new) (files_of command)) (one_command words command given.0 parse given.1) given.2)

pub unnamed : (words : List Bytes) (old new : FilesState) → ReadsFilesOf words old new → NamesNoFile words → new ≡ old
unnamed words old new (inl same) none = same
unnamed words old new (inr given) none = absurd (subst (AnyOf (FailsToRead old new)) (none given.0 given.1) given.2)
