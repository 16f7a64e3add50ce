-- What is said to a command is said to the words that give it.
use Rattle.std.proofs.Common.{◌≡◌, List, [], ◌∷◌, ℕ, Result, Ok, Err, refl, subst, inl, inr}
use Rattle.std.specs.Prelude.{IfOk}
use Rattle.std.specs.declared.alloc.AllocError.{AllocError}
use Rattle.cd_base.specs.FilesState.{FilesState}
use Rattle.cd_replies.specs.Bytes.{Bytes}
use Rattle.cd_driver.specs.Command.{Command, Run, RunSteps, ParseAs, ParseAsRun, AreNoCommand, files_of}
use Rattle.cd_replies.specs.Reply.{usage}
use Rattle.cd_replies.specs.Disk.{all_read, known_disk}
use Rattle.cd_driver.specs.Answer.{Answer, AnswerOf}
use Rattle.cd_replies.specs.Message.{IsAnswer, reply_of}
use Rattle.cd_replies.specs.File.{ReadsThere, ReadsAmong}
use Rattle.cd_driver.specs.FilesRead.{ReadsFilesOf}
use Rattle.cd_running.specs.RunAnswer.{RunAnswer}
use Rattle.cd_replies.specs.declared.message.Message.{Message}

pub answers_usage : (words : List Bytes) (files : FilesState) → AreNoCommand words → (r : Result Message AllocError) → IfOk r (λ message. reply_of message ≡ usage)
    → IsAnswer (λ disk. Answer words disk) files files r
answers_usage words files none (Ok message) is = (known_disk files, all_read refl, inl (none, is))
answers_usage words files none (Err error) is = (known_disk files, all_read refl, tt)

-- a command that reads no file
pub answers_at_once : (words : List Bytes) (files : FilesState) (command : Command) → ParseAs words command
    → (r : Result Message AllocError) → IfOk r (λ message. AnswerOf command (known_disk files) (reply_of message)) → IsAnswer (λ disk. Answer words disk) files files r
answers_at_once words files command parse (Ok message) answers = (known_disk files, all_read refl, inr (command, parse, answers))
answers_at_once words files command parse (Err error) answers = (known_disk files, all_read refl, tt)

pub answers_command : (words : List Bytes) (old new : FilesState) (command : Command) → ParseAs words command
    → (r : Result Message AllocError) → IsAnswer (AnswerOf command) old new r → IsAnswer (λ disk. Answer words disk) old new r
answers_command words old new command parse (Ok message) answers = (answers.0, answers.1, inr (command, parse, answers.2))
answers_command words old new command parse (Err error) answers = (answers.0, answers.1, tt)

-- a read of one file, and of those that a command names
pub among_one : (old new : FilesState) (file : Bytes) → ReadsThere old new file → ReadsAmong old new (file ∷ [])
among_one old new file (inl same) = inl same
among_one old new file (inr fails) = inr (inl fails)

pub reads_files : (words : List Bytes) (old new : FilesState) (command : Command) → ParseAs words command → ReadsAmong old new (files_of command)
    → ReadsFilesOf words old new
reads_files words old new command parse (inl same) = inl same
reads_files words old new command parse (inr fails) = inr (command, parse, fails)

-- a run, whose units the words write or not
pub answers_run : (words : List Bytes) (old new : FilesState) (units : ℕ) (file document : Bytes) → ParseAsRun words units file document
    → (r : Result Message AllocError) → IsAnswer (λ disk. RunAnswer disk units file document) old new r → IsAnswer (λ disk. Answer words disk) old new r
answers_run words old new units file document (inl parse) r answers =
    answers_command words old new (Run file document) parse.0 r
    (subst (λ units. IsAnswer (λ disk. RunAnswer disk units file document) old new r) parse.1 answers)
answers_run words old new units file document (inr parse) r answers = answers_command words old new (RunSteps units file document) parse r answers

pub reads_run : (words : List Bytes) (old new : FilesState) (units : ℕ) (file document : Bytes) → ParseAsRun words units file document
    → ReadsAmong old new (file ∷ document ∷ []) → ReadsFilesOf words old new
reads_run words old new units file document (inl parse) among = reads_files words old new (Run file document) parse.0 among
reads_run words old new units file document (inr parse) among = reads_files words old new (RunSteps units file document) parse among
