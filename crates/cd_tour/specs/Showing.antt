-- How queries are shown.
use Rattle.std.specs.Prelude.{◌≡◌, List, [], ◌∷◌, ◌++◌, map, codes}
use Rattle.std.specs.Fmt.{decimal}
use Rattle.std.specs.Io.KnownBytes.{Appends}
use Rattle.cd_base.specs.Status.{status_number}
use Rattle.cd_base.specs.declared.status.Status.{Status}
use Rattle.cd_replies.specs.Bytes.{Bytes}
use Rattle.cd_replies.specs.Reply.{Reply}
use Rattle.cd_driver.specs.Outside.{Outside}
use Rattle.cd_replies.specs.Disk.{Disk, Encountered}
use Rattle.cd_driver.specs.Answer.{Answer}
use Rattle.cd_tour.specs.CommandLine.{command_line}
use Rattle.cd_tour.specs.declared.queries.Query.{Query}

-- the words of a query, and what its answer means
abbrev pub words_of : Query → List Bytes
words_of query = map (λ word. word.now) query.words.now

abbrev pub meaning_of : Query → Bytes
meaning_of query = query.meaning.now

-- an answer to the words was written whole, and this is its status
pub record IsAnswered (words : List Bytes) (before after : Outside) (status : Status) : Type 0 where
  pub disk : Disk
  pub encountered : Encountered before.files after.files disk
  pub reply : Reply
  pub answer : Answer words disk reply
  pub status_is : status ≡ reply.status
  pub out : Appends before.out.known after.out.known reply.out
  pub err : Appends before.err.known after.err.known reply.err

-- what stands after an answer: its status, what it means, and an empty line
abbrev pub ending : Status → Bytes → Bytes
ending status meaning = codes "status "
    ++ (decimal (status_number status) ++ (codes "\n" ++ (meaning ++ codes "\n\n")))

-- the query was shown: its words, an answer to them, and the answer's status and meaning
pub record IsShown (query : Query) (before after : Outside) : Type 0 where
  pub disk : Disk
  pub encountered : Encountered before.files after.files disk
  pub reply : Reply
  pub answer : Answer (words_of query) disk reply
  pub out : Appends before.out.known after.out.known
      (command_line (words_of query) ++ (reply.out ++ ending reply.status (meaning_of query)))
  pub err : Appends before.err.known after.err.known reply.err

-- the queries were shown one after the other
abbrev pub AreShown : List Query → Outside → Outside → Type 0
AreShown [] before after = after ≡ before
AreShown (query ∷ queries) before after = (between : Outside) × IsShown query before between
    × AreShown queries between after
