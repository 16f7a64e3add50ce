-- The words and the files decide the status of an answer.
use Rattle.std.proofs.Common.{◌≡◌, ◌<◌, ◌≤◌, ℕ, List, Some, length, refl, sym, ap, subst, ◌∙◌, inl, inr, arith}
use Rattle.std.specs.Prelude.{codes}
use Rattle.std.specs.Str.{IsUtf8, chars}
use Rattle.cd_syntax.specs.TypeTree.{Declarations, NoDeclaration}
use Rattle.cd_program.specs.Expr.{Program}
use Rattle.cd_model.specs.AllOf.{AllOf}
use Rattle.cd_model.specs.Thing.{Thing, Closure, NoField, IsElement}
use Rattle.cd_model.specs.Written.{Written}
use Rattle.cd_model.proofs.ApartAtWritten.{not_both}
use Rattle.cd_replies.specs.Bytes.{Bytes}
use Rattle.cd_driver.specs.Command.{Command, Sub, SubTypes, Member, Check, Run, RunSteps, Work, files_of}
use Rattle.cd_replies.specs.Texts.{ReadsAs, Declares, ReadsAsProgram, RefusesType, RefusesDeclarations, RefusesProgram}
use Rattle.cd_replies.specs.Within.{IsIn, IsOutside, IsWithin}
use Rattle.cd_replies.specs.Reply.{Reply, refusal}
use Rattle.cd_replies.specs.declared.refusal.Refusal.{Refusal}
use Rattle.cd_replies.specs.Disk.{Disk, Has, HasText, LARGEST, FileRefusal, unread, large, encoding, refused}
use Rattle.cd_sub.specs.SubAnswer.{SubAnswer, yes, no, first_refused, second_refused}
use Rattle.cd_sub.specs.SubAnswer.{SubTypesAnswer, file_refused, on_texts}
use Rattle.cd_driver.specs.Answer.{Answer, AnswerOf, IsKnown, FileIsKnown}
use Rattle.cd_documents.specs.Reading.{WritesValue}
use Rattle.cd_replies.specs.Documents.{RefusesDocument, FileWrites, IsValueIn, IsValueOutside}
use Rattle.cd_member.specs.MemberAnswer as member
use Rattle.cd_member.specs.MemberAnswer.{FileDeclares, DocumentAnswer, MemberAnswer}
use Rattle.cd_checking.specs.CheckAnswer as checking
use Rattle.cd_checking.specs.CheckAnswer.{CheckAnswer, FileHasProgram, ProgramAnswer, ReportsFault}
use Rattle.cd_checking.proofs.FaultsUntyped.{fault_status, fault_untyped}
use Rattle.cd_typing.specs.Typed.{IsTyped}
use Rattle.cd_evaluation.specs.Code.{place_of}
use Rattle.cd_evaluation.specs.ProgramCode.{code_of}
use Rattle.cd_evaluation.specs.ProgramFunctions.{function_at}
use Rattle.cd_evaluation.specs.ProgramInterfaces.{interface_of}
use Rattle.cd_evaluation.specs.Runs.{Outcome, Result}
use Rattle.cd_evaluation.proofs.OneResult.{one_meaning}
use Rattle.cd_evaluation.proofs.ProgramTakes.{takes_once}
use Rattle.cd_safety.specs.SafeProgram.{IsMain, ComesTo}
use Rattle.cd_running.specs.Ending.{Reports, done, raised, overflow, spent}
use Rattle.cd_running.specs.Input.{IsInput, IsNoInput}
use Rattle.cd_running.proofs.InputDecided.{in_or_none}
use Rattle.cd_running.specs.RunAnswer as run
use Rattle.cd_running.specs.RunAnswer.{FileHasTyped, Given, HasRun, RunAnswer, UNITS}
use Rattle.cd_running.specs.WorkAnswer.{WorkAnswer, worked}
use Rattle.cd_driver.proofs.OneCommand.{one_command}
use Rattle.cd_replies.proofs.OneRefusal.{one_type_refusal, one_declarations_refusal, reads_unrefused, declares_unrefused, reads_one, declares_one}
use Rattle.cd_replies.proofs.OneRefusal.{one_program_refusal, program_unrefused, reads_one_program}
use Rattle.cd_replies.proofs.OneDocument.{one_document_refusal, writes_unrefused, writes_one, value_not_both}

-- no types are within each other and separated by an element
not_within : (first second : Written) → IsWithin first second → (element : Thing) → IsElement element → IsIn element first → IsOutside element second → ⊥
not_within first second within element is inside outside = not_both second element (within element is inside) outside

-- the texts of `sub`, and the declarations that they see, decide the status
module _ (declared : Declarations) (text1 text2 : Bytes) where
  apart : {A : Type 0} (a b c d : Written) → ReadsAs declared text1 a → ReadsAs declared text2 b → ReadsAs declared text1 c → ReadsAs declared text2 d
      → IsWithin a b → (element : Thing) → IsElement element → IsIn element c → IsOutside element d → A
  apart a b c d a_is b_is c_is d_is within element is inside outside =
      let first = reads_one declared text1 c a c_is a_is in
      let second = reads_one declared text2 d b d_is b_is in
      absurd (not_within a b within element is (subst (IsIn element) first inside) (subst (IsOutside element) second outside))

  sub_one : (r s : Reply) → SubAnswer declared text1 text2 r → SubAnswer declared text1 text2 s → r.status ≡ s.status
  sub_one _ _ (yes a b a_is b_is within) (yes c d c_is d_is within') = refl
  sub_one _ _ (yes a b a_is b_is within) (no c d c_is d_is element is inside outside) =
      apart a b c d a_is b_is c_is d_is within element is inside outside
  sub_one _ _ (yes a b a_is b_is within) (first_refused found stands) = absurd (reads_unrefused declared text1 a a_is found stands)
  sub_one _ _ (yes a b a_is b_is within) (second_refused c c_is found stands) = absurd (reads_unrefused declared text2 b b_is found stands)
  sub_one _ _ (no c d c_is d_is element is inside outside) (yes a b a_is b_is within) =
      apart a b c d a_is b_is c_is d_is within element is inside outside
  sub_one _ _ (no a b a_is b_is element is inside outside) (no c d c_is d_is element' is' inside' outside') = refl
  sub_one _ _ (no a b a_is b_is element is inside outside) (first_refused found stands) = absurd (reads_unrefused declared text1 a a_is found stands)
  sub_one _ _ (no a b a_is b_is element is inside outside) (second_refused c c_is found stands) = absurd (reads_unrefused declared text2 b b_is found stands)
  sub_one _ _ (first_refused found stands) (yes a b a_is b_is within) = absurd (reads_unrefused declared text1 a a_is found stands)
  sub_one _ _ (first_refused found stands) (no a b a_is b_is element is inside outside) = absurd (reads_unrefused declared text1 a a_is found stands)
  sub_one _ _ (first_refused found stands) (first_refused other stands') = one_type_refusal declared (codes "T1") text1 found other stands stands'
  sub_one _ _ (first_refused found stands) (second_refused a a_is other stands') = absurd (reads_unrefused declared text1 a a_is found stands)
  sub_one _ _ (second_refused c c_is found stands) (yes a b a_is b_is within) = absurd (reads_unrefused declared text2 b b_is found stands)
  sub_one _ _ (second_refused c c_is found stands) (no a b a_is b_is element is inside outside) = absurd (reads_unrefused declared text2 b b_is found stands)
  sub_one _ _ (second_refused c c_is found stands) (first_refused other stands') = absurd (reads_unrefused declared text1 c c_is other stands')
  sub_one _ _ (second_refused c c_is found stands) (second_refused a a_is other stands') = one_type_refusal declared (codes "T2") text2 found other stands stands'

-- a file that is known has one content at most
one_content : (disk : Disk) (file : Bytes) → IsKnown disk file → (a b : Bytes) → Has disk file a → Has disk file b → a ≡ b
one_content disk file (inl unreadable) a b first second = absurd (first.read unreadable)
one_content disk file (inr held) a b first second =
    let same = λ (bytes : Bytes) (has : Has disk file bytes). known_bytes held.0 bytes held.1 has in
    sym (same a first) ∙ same b second
  where
    known_bytes : (all bytes : Bytes) → disk.known file ≡ Some all → Has disk file bytes → all ≡ bytes
    known_bytes all bytes held has = rw held at has.known

-- a known file decides the status of what is said of it, whatever may stand against its text
module _ (disk : Disk) (file : Bytes) (known : IsKnown disk file) where
  same_two : (a b : Bytes) → Has disk file a → Has disk file b → a ≡ b
  same_two = one_content disk file known

  -- a file that has a text, one that is too large, and one that is no UTF-8, are not alike
  text_or_large : (text bytes : Bytes) → HasText disk file text → Has disk file bytes → LARGEST < length bytes → ⊥
  text_or_large text bytes has other is =
      let same = same_two bytes text other has.has in
      let large : LARGEST < length text = subst (λ bs. LARGEST < length bs) same is in
      let small = has.size in
      omega arith

  text_or_not : (text bytes : Bytes) → HasText disk file text → Has disk file bytes → (IsUtf8 bytes → ⊥) → ⊥
  text_or_not text bytes has other is = is (subst IsUtf8 (same_two text bytes has.has other) has.encoded)

  large_or_not : (a b : Bytes) → Has disk file a → LARGEST < length a → Has disk file b → length b ≤ LARGEST → ⊥
  large_or_not a b first is second size =
      let large : LARGEST < length b = subst (λ bs. LARGEST < length bs) (same_two a b first second) is in
      omega arith

  module _ (refuses : Bytes → Refusal → Type 0) where
    file_one : ((text : Bytes) (a b : Refusal) → refuses text a → refuses text b → (refusal file text a).status ≡ (refusal file text b).status)
        → (r s : Reply) → FileRefusal refuses disk file r → FileRefusal refuses disk file s → r.status ≡ s.status
    file_one one _ _ (unread unreadable) (unread unreadable') = refl
    file_one one _ _ (unread unreadable) (large bytes has is) = absurd (has.read unreadable)
    file_one one _ _ (unread unreadable) (encoding bytes has size is) = absurd (has.read unreadable)
    file_one one _ _ (unread unreadable) (refused text has found stands) = absurd (has.has.read unreadable)
    file_one one _ _ (large bytes has is) (unread unreadable) = absurd (has.read unreadable)
    file_one one _ _ (large bytes has is) (large bytes' has' is') = refl
    file_one one _ _ (large bytes has is) (encoding bytes' has' size is') = absurd (large_or_not bytes bytes' has is has' size)
    file_one one _ _ (large bytes has is) (refused text has' found stands) = absurd (text_or_large text bytes has' has is)
    file_one one _ _ (encoding bytes has size is) (unread unreadable) = absurd (has.read unreadable)
    file_one one _ _ (encoding bytes has size is) (large bytes' has' is') = absurd (large_or_not bytes' bytes has' is' has size)
    file_one one _ _ (encoding bytes has size is) (encoding bytes' has' size' is') = refl
    file_one one _ _ (encoding bytes has size is) (refused text has' found stands) = absurd (text_or_not text bytes has' has is)
    file_one one _ _ (refused text has found stands) (unread unreadable) = absurd (has.has.read unreadable)
    file_one one _ _ (refused text has found stands) (large bytes has' is) = absurd (text_or_large text bytes has has' is)
    file_one one _ _ (refused text has found stands) (encoding bytes has' size is) = absurd (text_or_not text bytes has has' is)
    file_one one _ _ (refused text has found stands) (refused text' has' found' stands') =
        let same = same_two text' text has'.has has.has in
        one text found found' stands (subst (λ t. refuses t found') same stands')
        ∙ ap (λ t. (refusal file t found').status) (sym same)

    -- a file that is refused has no text against which nothing stands
    refused_or_not : (reply : Reply) (text : Bytes) → FileRefusal refuses disk file reply → HasText disk file text
        → ((found : Refusal) → refuses text found → ⊥) → ⊥
    refused_or_not _ text (unread unreadable) has none = has.has.read unreadable
    refused_or_not _ text (large bytes other is) has none = text_or_large text bytes has other is
    refused_or_not _ text (encoding bytes other size is) has none = text_or_not text bytes has other is
    refused_or_not _ text (refused text' other found stands) has none =
        none found (subst (λ t. refuses t found) (same_two text' text other.has has.has) stands)

  -- it declares one list
  one_list : (text text' : Bytes) (declared declared' : Declarations) → HasText disk file text → HasText disk file text'
      → Declares text declared → Declares text' declared' → declared' ≡ declared
  one_list text text' declared declared' has has' declares declares' =
      declares_one text declared' declared (subst (λ t. Declares t declared') (same_two text' text has'.has has.has) declares') declares

  declarations_one : (r s : Reply) → FileRefusal RefusesDeclarations disk file r → FileRefusal RefusesDeclarations disk file s → r.status ≡ s.status
  declarations_one = file_one RefusesDeclarations (λ text a b first second. one_declarations_refusal file text a b first second)

  undeclared : {A : Type 0} (reply : Reply) (text : Bytes) (declared : Declarations) → FileRefusal RefusesDeclarations disk file reply
      → HasText disk file text → Declares text declared → A
  undeclared reply text declared refusal has declares =
      absurd (refused_or_not RefusesDeclarations reply text refusal has (declares_unrefused text declared declares))

  sub_types_one : (text1 text2 : Bytes) (r s : Reply) → SubTypesAnswer disk file text1 text2 r → SubTypesAnswer disk file text1 text2 s → r.status ≡ s.status
  sub_types_one text1 text2 _ _ (file_refused r refusal) (file_refused s refusal') = declarations_one r s refusal refusal'
  sub_types_one text1 text2 _ _ (file_refused r refusal) (on_texts text has declared declares s answers) =
      undeclared r text declared refusal has declares
  sub_types_one text1 text2 _ _ (on_texts text has declared declares r answers) (file_refused s refusal) =
      undeclared s text declared refusal has declares
  sub_types_one text1 text2 _ _ (on_texts text has declared declares r answers) (on_texts text' has' declared' declares' s answers') =
      sub_one declared text1 text2 r s answers
      (subst (λ list. SubAnswer list text1 text2 s) (one_list text text' declared declared' has has' declares declares') answers')

  -- a document stands for one value
  one_value : (first second : Thing) → FileWrites disk file first → FileWrites disk file second → first ≡ second
  one_value first second one other =
      let same = same_two other.text one.text other.has.has one.has.has in
      writes_one one.text first second one.writes (subst (λ t. WritesValue (chars t) second) same other.writes)

  -- which is in a type or outside, and not both
  one_answer : {A : Type 0} (type : Written) (first second : Thing) → FileWrites disk file first → FileWrites disk file second
      → IsValueIn first type → IsValueOutside second type → A
  one_answer type first second one other inside outside =
      absurd (value_not_both type first inside
      (subst (λ v. IsValueOutside v type) (sym (one_value first second one other)) outside))

  unwritten : {A : Type 0} (reply : Reply) (v : Thing) → FileRefusal RefusesDocument disk file reply → FileWrites disk file v → A
  unwritten reply v refusal writes =
      absurd (refused_or_not RefusesDocument reply writes.text refusal writes.has (writes_unrefused writes.text v writes.writes))

  document_one : (type : Written) (r s : Reply) → DocumentAnswer disk file type r → DocumentAnswer disk file type s → r.status ≡ s.status
  document_one type _ _ (member.document_refused r refusal) (member.document_refused s refusal') =
      file_one RefusesDocument (λ text a b first second. one_document_refusal text file a b first second) r s refusal refusal'
  document_one type _ _ (member.document_refused r refusal) (member.yes v writes inside) = unwritten r v refusal writes
  document_one type _ _ (member.document_refused r refusal) (member.no v writes outside) = unwritten r v refusal writes
  document_one type _ _ (member.yes v writes inside) (member.document_refused s refusal) = unwritten s v refusal writes
  document_one type _ _ (member.yes v writes inside) (member.yes v' writes' inside') = refl
  document_one type _ _ (member.yes v writes inside) (member.no v' writes' outside) = one_answer type v v' writes writes' inside outside
  document_one type _ _ (member.no v writes outside) (member.document_refused s refusal) = unwritten s v refusal writes
  document_one type _ _ (member.no v writes outside) (member.yes v' writes' inside) = one_answer type v' v writes' writes inside outside
  document_one type _ _ (member.no v writes outside) (member.no v' writes' outside') = refl

  -- a file that has a program is not refused
  unrefused : {A : Type 0} (reply : Reply) (text : Bytes) (program : Program) → FileRefusal RefusesProgram disk file reply
      → FileHasProgram disk file text program → A
  unrefused reply text program refusal has =
      absurd (refused_or_not RefusesProgram reply text refusal has.has (program_unrefused text program has.reads))

  -- the file has one program
  one_program : (text text' : Bytes) (program program' : Program) → FileHasProgram disk file text program
      → FileHasProgram disk file text' program' → program ≡ program'
  one_program text text' program program' has has' = reads_one_program text program program' has.reads
      (subst (λ bytes. ReadsAsProgram bytes program') (same_two text' text has'.has.has has.has.has) has'.reads)

  -- which has types, or a fault
  typed_or_not : {A : Type 0} (text text' : Bytes) (program program' : Program) → FileHasProgram disk file text program
      → FileHasProgram disk file text' program' → IsTyped program → (reply : Reply) → ReportsFault file text' program' reply → A
  typed_or_not text text' program program' has has' typed reply reports =
      absurd (fault_untyped file text' program' reply reports (subst IsTyped (one_program text text' program program' has has') typed))

  programs_one : (text text' : Bytes) (program program' : Program) → FileHasProgram disk file text program → FileHasProgram disk file text' program'
      → (r s : Reply) → ProgramAnswer file text program r → ProgramAnswer file text' program' s → r.status ≡ s.status
  programs_one text text' program program' has has' _ _ (checking.accepted typed) (checking.accepted typed') = refl
  programs_one text text' program program' has has' _ _ (checking.accepted typed) (checking.ill_typed s reports) =
      typed_or_not text text' program program' has has' typed s reports
  programs_one text text' program program' has has' _ _ (checking.ill_typed r reports) (checking.accepted typed) =
      typed_or_not text' text program' program has' has typed r reports
  programs_one text text' program program' has has' _ _ (checking.ill_typed r reports) (checking.ill_typed s reports') =
      fault_status file text program r reports ∙ sym (fault_status file text' program' s reports')

  check_one : (r s : Reply) → CheckAnswer disk file r → CheckAnswer disk file s → r.status ≡ s.status
  check_one _ _ (checking.file_refused r refusal) (checking.file_refused s refusal') =
      file_one RefusesProgram (λ text a b first second. one_program_refusal file text a b first second) r s refusal refusal'
  check_one _ _ (checking.file_refused r refusal) (checking.on_program text program has s answers) = unrefused r text program refusal has
  check_one _ _ (checking.on_program text program has r answers) (checking.file_refused s refusal) = unrefused s text program refusal has
  check_one _ _ (checking.on_program text program has r answers) (checking.on_program text' program' has' s answers') =
      programs_one text text' program program' has has' r s answers answers'

-- the file, the type text and the document decide the status of what `member` answers
module _ (disk : Disk) (file document text : Bytes) (known : IsKnown disk file) (document_known : IsKnown disk document) where
  declared_one : (first second : Declarations) → FileDeclares disk file first → FileDeclares disk file second → second ≡ first
  declared_one first second one other = one_list disk file known one.text other.text first second one.has other.has one.declares other.declares

  unread_type : {A : Type 0} (first second : Declarations) → FileDeclares disk file first → FileDeclares disk file second
      → (found : Refusal) → RefusesType first text found → (type : Written) → ReadsAs second text type → A
  unread_type first second one other found stands type reads =
      absurd (reads_unrefused first text type (subst (λ list. ReadsAs list text type) (declared_one first second one other) reads) found stands)

  member_one : (r s : Reply) → MemberAnswer disk file document text r → MemberAnswer disk file document text s → r.status ≡ s.status
  member_one _ _ (member.file_refused r refusal) (member.file_refused s refusal') = declarations_one disk file known r s refusal refusal'
  member_one _ _ (member.file_refused r refusal) (member.type_refused declared declares found stands) =
      undeclared disk file known r declares.text declared refusal declares.has declares.declares
  member_one _ _ (member.file_refused r refusal) (member.on_document declared declares type reads s answers) =
      undeclared disk file known r declares.text declared refusal declares.has declares.declares
  member_one _ _ (member.type_refused declared declares found stands) (member.file_refused s refusal) =
      undeclared disk file known s declares.text declared refusal declares.has declares.declares
  member_one _ _ (member.type_refused declared declares found stands) (member.type_refused declared' declares' found' stands') =
      one_type_refusal declared (codes "T") text found found' stands
      (subst (λ list. RefusesType list text found') (declared_one declared declared' declares declares') stands')
  member_one _ _ (member.type_refused declared declares found stands) (member.on_document declared' declares' type reads s answers) =
      unread_type declared declared' declares declares' found stands type reads
  member_one _ _ (member.on_document declared declares type reads r answers) (member.file_refused s refusal) =
      undeclared disk file known s declares.text declared refusal declares.has declares.declares
  member_one _ _ (member.on_document declared declares type reads r answers) (member.type_refused declared' declares' found stands) =
      unread_type declared' declared declares' declares found stands type reads
  member_one _ _ (member.on_document declared declares type reads r answers) (member.on_document declared' declares' type' reads' s answers') =
      let same = reads_one declared text type' type
      (subst (λ list. ReadsAs list text type') (declared_one declared declared' declares declares') reads') reads in
      document_one disk document document_known type r s answers
      (subst (λ type. DocumentAnswer disk document type s) same answers')

-- an outcome is reported in one way
reported_once : (outcome : Outcome) (r s : Reply) → Reports outcome r → Reports outcome s → r.status ≡ s.status
reported_once _ _ _ (done v) (done _) = refl
reported_once _ _ _ (raised v) (raised _) = refl
reported_once _ _ _ overflow overflow = refl
reported_once _ _ _ spent spent = refl

-- the program and the document decide the status of what `run` answers
module _ (disk : Disk) (units : ℕ) (file document : Bytes)
    (known : IsKnown disk file) (document_known : IsKnown disk document) where
  -- the program, its `main` and the value are one
  programs_same : (one other : Given disk file document) → one.program ≡ other.program
  programs_same one other =
      let same = same_two disk file known other.has.text one.has.text other.has.has.has.has one.has.has.has.has in
      reads_one_program one.has.text one.program other.program one.has.has.reads
      (subst (λ text. ReadsAsProgram text other.program) same other.has.has.reads)

  mains_same : (one other : Given disk file document) → one.main ≡ other.main
  mains_same one other =
      let moved = subst (λ program. IsMain program other.main) (sym (programs_same one other)) other.is_main in
      let places : Some (place_of one.main) ≡ Some (place_of other.main) = sym one.is_main.declared ∙ moved.declared in
      let at : place_of one.main ≡ place_of other.main = cc in
      let found : Some one.main ≡ Some other.main =
      sym one.is_main.found ∙ ap (function_at one.program) at ∙ moved.found in
      cc

  values_same : (one other : Given disk file document) → one.value ≡ other.value
  values_same one other = one_value disk document document_known one.value other.value one.writes other.writes

  unprogrammed : {A : Type 0} (reply : Reply) (program : Program) → FileRefusal RefusesProgram disk file reply → FileHasTyped disk file program → A
  unprogrammed reply program refusal has = unrefused disk file known reply has.text program refusal has.has

  -- a program has types, or a fault
  faulty : {A : Type 0} (text : Bytes) (program program' : Program) → FileHasTyped disk file program → FileHasProgram disk file text program'
      → (reply : Reply) → ReportsFault file text program' reply → A
  faulty text program program' has has' reply reports = typed_or_not disk file known has.text text program program' has.has has' has.typed reply reports

  -- a document is taken, or not
  taken_or_not : {A : Type 0} (one other : Given disk file document) → IsNoInput one.program one.main one.value
      → IsInput other.program other.main other.value → A
  taken_or_not one other outside inside =
      absurd (in_or_none one.program one.value (interface_of one.main)
      (subst (λ program. IsInput program one.main one.value) (sym (programs_same one other))
      (subst (λ main. IsInput other.program main one.value) (sym (mains_same one other))
      (subst (IsInput other.program other.main) (sym (values_same one other)) inside)))
      outside)

  -- a run has one result
  result_same : (first second : Result) → HasRun disk units file document first → HasRun disk units file document second → first ≡ second
  result_same first second one other =
      let moved = subst (λ program. ComesTo program one.given.main one.given.value units second) (sym (programs_same one.given other.given))
      (subst (λ main. ComesTo other.given.program main one.given.value units second) (sym (mains_same one.given other.given))
      (subst (λ v. ComesTo other.given.program other.given.main v units second) (sym (values_same one.given other.given)) other.run.comes)) in
      one_meaning (code_of one.given.program) (takes_once one.given.program) (Closure (place_of one.given.main) NoField) one.given.value units
      first second one.run.comes moved

  run_one : (r s : Reply) → RunAnswer disk units file document r → RunAnswer disk units file document s → r.status ≡ s.status
  run_one _ _ (run.file_refused r refusal) (run.file_refused s refusal') =
      file_one disk file known RefusesProgram (λ text a b first second. one_program_refusal file text a b first second) r s refusal refusal'
  run_one _ _ (run.file_refused r refusal) (run.program_refused text program has s reports) = unrefused disk file known r text program refusal has
  run_one _ _ (run.file_refused r refusal) (run.document_refused program has s refusal') = unprogrammed r program refusal has
  run_one _ _ (run.file_refused r refusal) (run.not_input given outside) = unprogrammed r given.program refusal given.has
  run_one _ _ (run.file_refused r refusal) (run.ran result has s reports) = unprogrammed r has.given.program refusal has.given.has
  run_one _ _ (run.program_refused text program has r reports) (run.file_refused s refusal) = unrefused disk file known s text program refusal has
  run_one _ _ (run.program_refused text program has r reports) (run.program_refused text' program' has' s reports') =
      fault_status file text program r reports ∙ sym (fault_status file text' program' s reports')
  run_one _ _ (run.program_refused text program has r reports) (run.document_refused program' has' s refusal) =
      faulty text program' program has' has r reports
  run_one _ _ (run.program_refused text program has r reports) (run.not_input given outside) =
      faulty text given.program program given.has has r reports
  run_one _ _ (run.program_refused text program has r reports) (run.ran result has' s reports') =
      faulty text has'.given.program program has'.given.has has r reports
  run_one _ _ (run.document_refused program has r refusal) (run.file_refused s refusal') = unprogrammed s program refusal' has
  run_one _ _ (run.document_refused program has r refusal) (run.program_refused text program' has' s reports) =
      faulty text program program' has has' s reports
  run_one _ _ (run.document_refused program has r refusal) (run.document_refused program' has' s refusal') =
      file_one disk document document_known RefusesDocument (λ text a b first second. one_document_refusal text document a b first second)
      r s refusal refusal'
  run_one _ _ (run.document_refused program has r refusal) (run.not_input given outside) =
      unwritten disk document document_known r given.value refusal given.writes
  run_one _ _ (run.document_refused program has r refusal) (run.ran result has' s reports) =
      unwritten disk document document_known r has'.given.value refusal has'.given.writes
  run_one _ _ (run.not_input given outside) (run.file_refused s refusal) = unprogrammed s given.program refusal given.has
  run_one _ _ (run.not_input given outside) (run.program_refused text program has s reports) =
      faulty text given.program program given.has has s reports
  run_one _ _ (run.not_input given outside) (run.document_refused program has s refusal) =
      unwritten disk document document_known s given.value refusal given.writes
  run_one _ _ (run.not_input given outside) (run.not_input given' outside') = refl
  run_one _ _ (run.not_input given outside) (run.ran result has s reports) = taken_or_not given has.given outside has.run.input
  run_one _ _ (run.ran result has r reports) (run.file_refused s refusal) = unprogrammed s has.given.program refusal has.given.has
  run_one _ _ (run.ran result has r reports) (run.program_refused text program has' s reports') =
      faulty text has.given.program program has.given.has has' s reports'
  run_one _ _ (run.ran result has r reports) (run.document_refused program has' s refusal) =
      unwritten disk document document_known s has.given.value refusal has.given.writes
  run_one _ _ (run.ran result has r reports) (run.not_input given outside) = taken_or_not given has.given outside has.run.input
  run_one _ _ (run.ran result has r reports) (run.ran result' has' s reports') =
      let same = result_same result result' has has' in
      reported_once result.outcome r s reports (subst (λ result. Reports result.outcome s) (sym same) reports')

-- work has one status
work_one : (size : ℕ) (r s : Reply) → WorkAnswer size r → WorkAnswer size s → r.status ≡ s.status
work_one size _ _ (worked used value affirmed runs answered) (worked used' value' affirmed' runs' answered') = refl

-- a command and its files decide it
command_decides : (disk : Disk) (command : Command) → AllOf (IsKnown disk) (files_of command)
    → (r s : Reply) → AnswerOf command disk r → AnswerOf command disk s → r.status ≡ s.status
command_decides disk (Sub text1 text2) known r s answers answers' = sub_one NoDeclaration text1 text2 r s answers answers'
command_decides disk (SubTypes file text1 text2) known r s answers answers' = sub_types_one disk file known.0 text1 text2 r s answers answers'
command_decides disk (Member file document text) known r s answers answers' =
    member_one disk file document text known.0 known.1.0 r s answers answers'
command_decides disk (Check file) known r s answers answers' = check_one disk file known.0 r s answers answers'
command_decides disk (Run file document) known r s answers answers' =
    run_one disk UNITS file document known.0 known.1.0 r s answers answers'
command_decides disk (RunSteps units file document) known r s answers answers' =
    run_one disk units file document known.0 known.1.0 r s answers answers'
command_decides disk (Work size) known r s answers answers' = work_one size r s answers answers'

-- and so do the words
pub one_status : (words : List Bytes) (disk : Disk) → FileIsKnown words disk
    → (r s : Reply) → Answer words disk r → Answer words disk s → r.status ≡ s.status
one_status words disk known r s (inl none) (inl none') = ap (λ reply. reply.status) (none.1 ∙ sym none'.1)
one_status words disk known r s (inl none) (inr given) = absurd (none.0 given.0 given.1)
one_status words disk known r s (inr given) (inl none) = absurd (none.0 given.0 given.1)
one_status words disk known r s (inr given) (inr given') =
    command_decides disk given.0 (known given.0 given.1) r s given.2
    (subst (λ command. AnswerOf command disk s) (one_command words given.0 given'.0 given.1 given'.1) given'.2)
