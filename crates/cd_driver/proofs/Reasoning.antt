-- The cause of each status is its reason.
use Rattle.std.proofs.Common.{◌≡◌, ℕ, List, [], ◌∷◌, Some, inl, inr, refl, sym, subst}
use Rattle.std.specs.Prelude.{codes}
use Rattle.cd_base.specs.declared.status.Status.{Status}
use Rattle.cd_base.specs.declared.status.Status.TheVariants.{WriteFault, NoMemory}
use Rattle.cd_base.specs.Faults.{Rose}
use Rattle.cd_base.specs.FilesState.{FilesState}
use Rattle.cd_syntax.specs.declared.fault.TextFault.TheVariants.{BadChar, OpenText, OpenComment, TooWide, Syntax, TooDeep}
use Rattle.cd_syntax.specs.TypeTree.{Declarations, NoDeclaration}
use Rattle.cd_model.specs.Written.{Written}
use Rattle.cd_replies.specs.Bytes.{Bytes}
use Rattle.cd_driver.specs.Command.{Command, Sub, SubTypes, Member, Check, Run, RunSteps, Work, ParseAs, ParseAsRun}
use Rattle.cd_driver.specs.Command.{files_of, program_of}
use Rattle.cd_model.specs.AllOf.{AnyOf}
use Rattle.cd_model.specs.Thing.{Thing}
use Rattle.cd_replies.specs.Texts.{ReadsAs, RefusesDeclarations, RefusesProgram}
use Rattle.cd_replies.specs.Reply.{Reply, refusal}
use Rattle.cd_replies.specs.declared.refusal.Refusal.{Refusal}
use Rattle.cd_replies.specs.declared.refusal.Refusal.TheVariants.{Text, Naming}
use Rattle.cd_driver.specs.Outside.{Outside}
use Rattle.cd_replies.specs.Disk.{Disk, Encountered, HasText, all_read, unreadable, FileRefusal, unread, large, encoding, refused}
use Rattle.cd_sub.specs.SubAnswer.{SubAnswer, yes, no, first_refused, second_refused}
use Rattle.cd_sub.specs.SubAnswer.{SubTypesAnswer, file_refused, on_texts}
use Rattle.cd_replies.specs.Documents.{RefusesDocument}
use Rattle.cd_member.specs.MemberAnswer as member
use Rattle.cd_member.specs.MemberAnswer.{FileDeclares, DocumentAnswer, MemberAnswer}
use Rattle.cd_program.specs.Expr.{Program}
use Rattle.cd_least.proofs.ProgramRefuted.{program_refuted}
use Rattle.cd_checking.specs.CheckAnswer as checking
use Rattle.cd_checking.specs.CheckAnswer.{CheckAnswer, FileHasProgram, ProgramAnswer, ReportsFault, unmet}
use Rattle.cd_evaluation.specs.Runs as outcome
use Rattle.cd_evaluation.specs.Runs.{Outcome, Result}
use Rattle.cd_running.specs.Ending.{Reports, done, raised, overflow, spent}
use Rattle.cd_running.specs.RunAnswer as run
use Rattle.cd_running.specs.RunAnswer.{HasRun, RunAnswer, UNITS}
use Rattle.cd_running.specs.WorkAnswer.{WorkAnswer, worked}
use Rattle.cd_driver.specs.Answer.{Answer, AnswerOf}
use Rattle.cd_driver.specs.Causes.{IsCause, Cause}
use Rattle.cd_driver.specs.Reasons.{ParseAsTexts, alone, with_file, HasRefusal, in_file, in_first, in_second, Reason}
use Rattle.cd_driver.specs.Reasons.{NamesFile, AskRun, HasEnded, in_declarations, in_type, in_document, in_program, in_run}

-- a file that is unreadable is the latest whose read failed
read_failed : (before after : FilesState) (disk : Disk) (name : Bytes) → Encountered before after disk → disk.unreadable ≡ Some name
    → Rose before.faults after.faults × (after.last ≡ Some name)
read_failed before after _ name (all_read same) is = absurd cc
read_failed before after _ name (unreadable other rose last) is = (rose, subst (λ unreadable. after.last ≡ unreadable) is last)

module _ (words : List Bytes) (disk : Disk) (before after : Outside) (encountered : Encountered before.files after.files disk) where
  -- what stands against a text is the reason for what is said of it
  refused_reason : (origin text : Bytes) (found : Refusal) → HasRefusal words disk found → Reason words before after (refusal origin text found).status
  refused_reason origin text (Text (BadChar place)) stands = record { disk = disk; encountered = encountered; found = _; kind = tt; stands = stands }
  refused_reason origin text (Text (OpenText place)) stands = record { disk = disk; encountered = encountered; found = _; kind = tt; stands = stands }
  refused_reason origin text (Text (OpenComment place)) stands = record { disk = disk; encountered = encountered; found = _; kind = tt; stands = stands }
  refused_reason origin text (Text (TooWide place)) stands = record { disk = disk; encountered = encountered; found = _; kind = tt; stands = stands }
  refused_reason origin text (Text (Syntax place)) stands = record { disk = disk; encountered = encountered; found = _; kind = (place, refl); stands = stands }
  refused_reason origin text (Text (TooDeep place)) stands = record { disk = disk; encountered = encountered; found = _; kind = (place, refl); stands = stands }
  refused_reason origin text (Naming fault name at) stands =
      record { disk = disk; encountered = encountered; found = _; kind = (record { fault = fault; name = name; at = at }, refl); stands = stands }

  file_reason : (refuses : Bytes → Refusal → Type 0) (file : Bytes) → NamesFile words file
      → ((text : Bytes) → HasText disk file text → (found : Refusal) → refuses text found → HasRefusal words disk found)
      → (reply : Reply) → FileRefusal refuses disk file reply → Reason words before after reply.status
  file_reason refuses file named stand _ (unread is) =
      let failed = read_failed before.files after.files disk file encountered is in
      record { file = file; named = named; rose = failed.0; last = failed.1 }
  file_reason refuses file named stand _ (large bytes has is) =
      record { disk = disk; encountered = encountered; file = file; named = named; bytes = bytes; has = has; is = is }
  file_reason refuses file named stand _ (encoding bytes has size is) =
      record { disk = disk; encountered = encountered; file = file; named = named; bytes = bytes; has = has; is = (size, is) }
  file_reason refuses file named stand _ (refused text has found stands) = refused_reason file text found (stand text has found stands)

  sub_reason : (declared : Declarations) (text1 text2 : Bytes) → ParseAsTexts words disk declared text1 text2
      → (reply : Reply) → SubAnswer declared text1 text2 reply → Reason words before after reply.status
  sub_reason declared text1 text2 parse _ (first_refused found stands) =
      refused_reason (codes "T1") text1 found (in_first declared text1 text2 parse stands)
  sub_reason declared text1 text2 parse _ (second_refused first is1 found stands) =
      refused_reason (codes "T2") text2 found (in_second declared text1 text2 parse first is1 stands)
  sub_reason declared text1 text2 parse _ (yes first second is1 is2 within) = inl (record {
    first = first;
    second = second;
    ask = record { disk = disk; encountered = encountered; declared = declared; text1 = text1; text2 = text2; parse = parse; first_is = is1; second_is = is2 };
    within = within;
  })
  sub_reason declared text1 text2 parse _ (no first second is1 is2 element is inside outside) = inl (record {
    first = first;
    second = second;
    ask = record { disk = disk; encountered = encountered; declared = declared; text1 = text1; text2 = text2; parse = parse; first_is = is1; second_is = is2 };
    element = element;
    exists = is;
    inside = inside;
    outside = outside;
  })

  sub_types_reason : (file text1 text2 : Bytes) → ParseAs words (SubTypes file text1 text2) → (reply : Reply) → SubTypesAnswer disk file text1 text2 reply → Reason words before after reply.status
  sub_types_reason file text1 text2 parse _ (file_refused reply refusal) =
      file_reason RefusesDeclarations file (record { command = SubTypes file text1 text2; parse = parse; is = inl refl })
      (λ text has found stands. in_file file text1 text2 parse text has stands) reply refusal
  sub_types_reason file text1 text2 parse _ (on_texts text has declared declares reply answers) =
      sub_reason declared text1 text2 (with_file file text1 text2 parse text has declared declares) reply answers

  document_reason : (file document text : Bytes) → ParseAs words (Member file document text) → (declared : Declarations) → FileDeclares disk file declared
      → (type : Written) → ReadsAs declared text type → (reply : Reply) → DocumentAnswer disk document type reply → Reason words before after reply.status
  document_reason file document text parse declared declares type reads _ (member.document_refused reply refusal) =
      file_reason RefusesDocument document (record { command = Member file document text; parse = parse; is = inr (inl refl) })
      (λ notation has found stands. in_document file document text parse declared declares type reads notation has stands) reply refusal
  document_reason file document text parse declared declares type reads _ (member.yes v writes inside) = inr (inl (record {
    v = v;
    type = type;
    ask = record { disk = disk; encountered = encountered; file = file; document = document; text = text; parse = parse; declared = declared; declares = declares; type_is = reads; writes = writes };
    inside = inside;
  }))
  document_reason file document text parse declared declares type reads _ (member.no v writes outside) = inr (record {
    v = v;
    type = type;
    ask = record { disk = disk; encountered = encountered; file = file; document = document; text = text; parse = parse; declared = declared; declares = declares; type_is = reads; writes = writes };
    outside = outside;
  })

  member_reason : (file document text : Bytes) → ParseAs words (Member file document text) → (reply : Reply) → MemberAnswer disk file document text reply
      → Reason words before after reply.status
  member_reason file document text parse _ (member.file_refused reply refusal) =
      file_reason RefusesDeclarations file (record { command = Member file document text; parse = parse; is = inl refl })
      (λ declarations has found stands. in_declarations file document text parse declarations has stands) reply refusal
  member_reason file document text parse _ (member.type_refused declared declares found stands) =
      refused_reason (codes "T") text found (in_type file document text parse declared declares stands)
  member_reason file document text parse _ (member.on_document declared declares type reads reply answers) =
      document_reason file document text parse declared declares type reads reply answers

  -- the program of a command has a fault of typing
  fault_reason : (command : Command) (file : Bytes) → ParseAs words command → program_of command ≡ Some file → (text : Bytes) (program : Program)
      → FileHasProgram disk file text program → (reply : Reply) → ReportsFault file text program reply → Reason words before after reply.status
  fault_reason command file parse about text program has _ (unmet place rule element fault exists) = record {
    command = command;
    program = program;
    ask = record { disk = disk; encountered = encountered; parse = parse; file = file; about = about; text = text; has = has };
    untyped = program_refuted program place rule element fault;
  }

  program_reason : (file : Bytes) → ParseAs words (Check file) → (text : Bytes) (program : Program) → FileHasProgram disk file text program
      → (reply : Reply) → ProgramAnswer file text program reply → Reason words before after reply.status
  program_reason file parse text program has _ (checking.accepted typed) = inr (inr (inl (record {
    file = file;
    program = program;
    ask = record { disk = disk; encountered = encountered; parse = parse; file = file; about = refl; text = text; has = has };
    typed = typed;
  })))
  program_reason file parse text program has _ (checking.ill_typed reply reports) = fault_reason (Check file) file parse refl text program has reply reports

  check_reason : (file : Bytes) → ParseAs words (Check file) → (reply : Reply) → CheckAnswer disk file reply
      → Reason words before after reply.status
  check_reason file parse _ (checking.file_refused reply refusal) =
      file_reason RefusesProgram file (record { command = Check file; parse = parse; is = inl refl })
      (λ text has found stands. in_program (Check file) file parse refl text has stands) reply refusal
  check_reason file parse _ (checking.on_program text program has reply answers) =
      program_reason file parse text program has reply answers

  -- a run, of a command that asks for it
  module _ (units : ℕ) (file document : Bytes) (asks : ParseAsRun words units file document) (command : Command) (parse : ParseAs words command)
      (about : program_of command ≡ Some file) (files : files_of command ≡ file ∷ document ∷ []) where
    names_file : NamesFile words file
    names_file = record { command = command; parse = parse; is = subst (AnyOf (λ name. name ≡ file)) (sym files) (inl refl) }

    names_document : NamesFile words document
    names_document = record { command = command; parse = parse; is = subst (AnyOf (λ name. name ≡ document)) (sym files) (inr (inl refl)) }

    ask : AskRun words before after disk units file document
    ask = record { encountered = encountered; parse = asks }

    ended : (kind : Outcome → Type 0) (result : Result) → HasRun disk units file document result → kind result.outcome → HasEnded words before after kind
    ended kind result has is = record {
      disk = disk;
      units = units;
      file = file;
      document = document;
      ask = ask;
      result = result;
      run = has;
      is = is;
    }

    outcome_reason : (result : Result) → HasRun disk units file document result → (is : Outcome) → result.outcome ≡ is → (reply : Reply) → Reports is reply
        → Reason words before after reply.status
    outcome_reason result has _ same _ (done v) = inr (inr (inr (inl (ended (λ is. (v : Thing) × (is ≡ outcome.Done v)) result has (v, same)))))
    outcome_reason result has _ same _ (raised v) = ended (λ is. (v : Thing) × (is ≡ outcome.Raised v)) result has (v, same)
    outcome_reason result has _ same _ overflow = ended (λ is. is ≡ outcome.Overflow) result has same
    outcome_reason result has _ same _ spent = ended (λ is. is ≡ outcome.Spent) result has same

    run_reason : (reply : Reply) → RunAnswer disk units file document reply → Reason words before after reply.status
    run_reason _ (run.file_refused reply refusal) =
        file_reason RefusesProgram file names_file (λ text has found stands. in_program command file parse about text has stands) reply refusal
    run_reason _ (run.program_refused text program has reply reports) = fault_reason command file parse about text program has reply reports
    run_reason _ (run.document_refused program has reply refusal) =
        file_reason RefusesDocument document names_document
        (λ notation is found stands. in_run units file document asks program has notation is stands) reply refusal
    run_reason _ (run.not_input given outside) = record {
      disk = disk;
      units = units;
      file = file;
      document = document;
      ask = ask;
      given = given;
      outside = outside;
    }
    run_reason _ (run.ran result has reply reports) = outcome_reason result has result.outcome refl reply reports

  work_reason : (size : ℕ) → ParseAs words (Work size) → (reply : Reply) → WorkAnswer size reply → Reason words before after reply.status
  work_reason size parse _ (worked used value affirmed runs answered) = inr (inr (inr (inr (record {
    size = size;
    parse = parse;
    used = used;
    value = value;
    runs = runs;
    affirmed = affirmed;
    answered = answered;
  }))))

  command_reason : (command : Command) → ParseAs words command → (reply : Reply) → AnswerOf command disk reply → Reason words before after reply.status
  command_reason (Sub text1 text2) parse reply answers = sub_reason NoDeclaration text1 text2 (alone text1 text2 parse) reply answers
  command_reason (SubTypes file text1 text2) parse reply answers = sub_types_reason file text1 text2 parse reply answers
  command_reason (Member file document text) parse reply answers = member_reason file document text parse reply answers
  command_reason (Check file) parse reply answers = check_reason file parse reply answers
  command_reason (Run file document) parse reply answers =
      run_reason UNITS file document (inl (parse, refl)) (Run file document) parse refl refl reply answers
  command_reason (RunSteps units file document) parse reply answers =
      run_reason units file document (inr parse) (RunSteps units file document) parse refl refl reply answers
  command_reason (Work size) parse reply answers = work_reason size parse reply answers

  answer_reason : (reply : Reply) → Answer words disk reply → Reason words before after reply.status
  answer_reason reply (inl none) = subst (λ reply. Reason words before after reply.status) (sym none.1) none.0
  answer_reason reply (inr given) = command_reason given.0 given.1 reply given.2

by_answer : (words : List Bytes) (before after : Outside) (is : Status) → IsCause words before after is → Reason words before after is
by_answer words before after is cause = subst (Reason words before after) cause.4 (answer_reason words cause.0 before after cause.1 cause.2 cause.3)

pub causes : (words : List Bytes) (before after : Outside) (is : Status) → Cause words before after is → Reason words before after is
causes words before after WriteFault cause = cause
causes words before after NoMemory cause = cause
causes words before after status cause = by_answer words before after status cause
