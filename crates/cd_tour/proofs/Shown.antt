-- A query whose words, answer and ending were written is shown.
use Rattle.std.proofs.Common.{◌≡◌, ◌++◌, Option, Some, None, ap, subst, ◌∙◌, append_assoc}
use Rattle.std.specs.Io.KnownBytes.{Appends}
use Rattle.cd_base.specs.FilesState.{FilesState}
use Rattle.cd_base.specs.SinkState.{SinkState, Puts}
use Rattle.cd_base.specs.declared.status.Status.{Status}
use Rattle.cd_replies.specs.Bytes.{Bytes}
use Rattle.cd_driver.specs.Outside.{outside}
use Rattle.cd_tour.specs.CommandLine.{command_line}
use Rattle.cd_tour.specs.Showing.{IsAnswered, words_of, meaning_of, ending, IsShown}
use Rattle.cd_tour.specs.declared.queries.Query.{Query}

-- bytes that are appended after others
appends_more : (first second third : Option Bytes) (bytes more : Bytes) → Appends first second bytes → Appends second third more
    → Appends first third (bytes ++ more)
appends_more None second third bytes more one two = tt
appends_more (Some a) (Some b) (Some c) bytes more one two = two ∙ (ap (λ front. front ++ more) one ∙ append_assoc a bytes more)
appends_more (Some a) (Some b) None bytes more one two = absurd two
appends_more (Some a) None third bytes more one two = absurd one

pub is_shown : (query : Query) (old new : FilesState) (out with_line with_reply with_ending err with_errors : SinkState) (status : Status)
    → (line : Bytes) → line ≡ command_line (words_of query) → Puts out with_line line
    → IsAnswered (words_of query) (outside old with_line err) (outside new with_reply with_errors) status
    → (last : Bytes) → last ≡ ending status (meaning_of query) → Puts with_reply with_ending last
    → IsShown query (outside old out err) (outside new with_ending with_errors)
is_shown query old new out with_line with_reply with_ending err with_errors status line line_is puts answered last last_is ends = record {
  disk = answered.disk;
  encountered = answered.encountered;
  reply = answered.reply;
  answer = answered.answer;
  out = appends_more out.known with_line.known with_ending.known _ _ (subst (Appends out.known with_line.known) line_is puts.known)
      (appends_more with_line.known with_reply.known with_ending.known _ _ answered.out
      (subst (Appends with_reply.known with_ending.known) (last_is ∙ ap (λ is. ending is (meaning_of query)) answered.status_is) ends.known));
  err = answered.err;
}
