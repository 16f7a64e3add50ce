-- Replies: a status, and a text on output or on errors.
use Rattle.std.specs.Prelude.{ℕ, [], ◌∷◌, ◌++◌, codes, encode_utf8_all}
use Rattle.std.specs.Fmt.{decimal}
use Rattle.cd_base.specs.declared.status.Status.{Status}
use Rattle.cd_base.specs.declared.status.Status.TheVariants.{Usage, ReadFault, TooLarge, NotUtf8}
use Rattle.cd_base.specs.declared.status.Status.TheVariants.{Lexical as IsLexical}
use Rattle.cd_base.specs.declared.status.Status.TheVariants.{Syntax as IsSyntax}
use Rattle.cd_base.specs.declared.status.Status.TheVariants.{TooDeep as IsTooDeep}
use Rattle.cd_base.specs.declared.status.Status.TheVariants.{Naming as IsNaming}
use Rattle.cd_base.specs.declared.status.Status.TheVariants.{IllTyped as IsIllTyped, Done}
use Rattle.cd_base.specs.declared.status.Status.TheVariants.{NotInput, Uncaught}
use Rattle.cd_base.specs.declared.status.Status.TheVariants.{Overflow as IsOverflow}
use Rattle.cd_base.specs.declared.status.Status.TheVariants.{Spent as IsSpent}
use Rattle.cd_syntax.specs.declared.fault.TextFault.{TextFault}
use Rattle.cd_syntax.specs.declared.fault.TextFault.TheVariants.{BadChar, OpenText, OpenComment}
use Rattle.cd_syntax.specs.declared.fault.TextFault.TheVariants.{TooWide, Syntax, TooDeep}
use Rattle.cd_replies.specs.Bytes.{Bytes}
use Rattle.cd_replies.specs.Position.{position}
use Rattle.cd_resolve.specs.Faults.{Fault}
use Rattle.cd_resolve.specs.declared.fault.NameFault.{NameFault}
use Rattle.cd_resolve.specs.declared.fault.NameFault.TheVariants.{Unknown, Twice, Unguarded}
use Rattle.cd_resolve.specs.declared.fault.NameFault.TheVariants.{VariablesDiffer, VariableTwice}
use Rattle.cd_resolve.specs.declared.fault.NameFault.TheVariants.{VariableRepeats}
use Rattle.cd_resolve.specs.declared.fault.NameFault.TheVariants.{VariableMisplaced, NoMain}
use Rattle.cd_replies.specs.declared.refusal.Refusal.{Refusal}
use Rattle.cd_replies.specs.declared.refusal.Refusal.TheVariants.{Text, Naming}

pub record Reply : Type 0 where
  pub status : Status
  pub out : Bytes
  pub err : Bytes

-- a text and a line feed
abbrev pub line : Bytes → Bytes
line text = text ++ 10 ∷ []

-- a line on output
abbrev pub says : Status → Bytes → Reply
says status text = record { status = status; out = line text; err = [] }

-- a line on errors
abbrev pub complains : Status → Bytes → Reply
complains status text = record { status = status; out = []; err = line text }

abbrev pub usage : Reply
usage = complains Usage
    (codes "usage: cduce sub [--types FILE] T1 T2, member FILE DOC T, check FILE, "
    ++ codes "run [--steps N] FILE DOC, work N")

-- files that can't be read, that are too large, and that are UTF-8 just up to a byte
abbrev pub cannot_read : Bytes → Reply
cannot_read name = complains ReadFault (codes "cannot read " ++ name)

abbrev pub too_large : Bytes → Reply
too_large name = complains TooLarge (name ++ codes ": too large")

abbrev pub not_utf8 : Bytes → ℕ → Reply
not_utf8 name byte = complains NotUtf8 (name ++ codes ": not UTF-8 at byte " ++ decimal byte)

-- what is said of a place of a text
abbrev pub at_place : Status → (origin text : Bytes) → (place : ℕ) → Bytes → Reply
at_place status origin text place message =
    complains status (origin ++ codes ":" ++ position text place ++ codes ": " ++ message)

-- a fault of a text: a lexical one, one of syntax, or what is too deep
abbrev pub text_fault : (origin text : Bytes) → TextFault → Reply
text_fault origin text (BadChar place) =
    at_place IsLexical origin text place (codes "bad character")
text_fault origin text (OpenText place) =
    at_place IsLexical origin text place (codes "text not closed")
text_fault origin text (OpenComment place) =
    at_place IsLexical origin text place (codes "comment not closed")
text_fault origin text (TooWide place) =
    at_place IsLexical origin text place (codes "number too wide")
text_fault origin text (Syntax place) = at_place IsSyntax origin text place (codes "syntax")
text_fault origin text (TooDeep place) = at_place IsTooDeep origin text place (codes "too deep")

-- a naming fault of this name
abbrev pub naming_message : NameFault → Bytes → Bytes
naming_message Unknown name = codes "unknown name " ++ name
naming_message Twice name = codes "name " ++ name ++ codes " twice"
naming_message Unguarded name = codes "type " ++ name ++ codes " is not guarded"
naming_message VariablesDiffer name = codes "sides of | bind different variables"
naming_message VariableTwice name = codes "variable " ++ name ++ codes " twice"
naming_message VariableRepeats name = codes "variable " ++ name ++ codes " repeats"
naming_message VariableMisplaced name = codes "variable " ++ name ++ codes " misplaced"
naming_message NoMain name = codes "no main"

abbrev pub naming : (origin text : Bytes) → Fault → Reply
naming origin text fault =
    at_place IsNaming origin text fault.at (naming_message fault.fault (encode_utf8_all fault.name))

-- what is said of a text where this stands against it; its origin is the name of its file, or `T1`
-- or `T2`
abbrev pub refusal : (origin text : Bytes) → Refusal → Reply
refusal origin text (Text fault) = text_fault origin text fault
refusal origin text (Naming fault name at) =
    naming origin text (record { fault = fault; name = name; at = at })

-- what is said of a program that has no types: a rule that isn't met at this place, and an element
-- that shows it
abbrev pub ill_typed : (origin text : Bytes) → (place : ℕ) → (rule element : Bytes) → Reply
ill_typed origin text place rule element =
    at_place IsIllTyped origin text place (rule ++ codes ": " ++ element)

-- a document that is in no type of the input
abbrev pub not_input : Bytes → Reply
not_input document = complains NotInput (document ++ codes ": not of the input type")

-- what is said of how a run ended: with a value and with a raised one, by their texts; with an
-- integer beyond 128 bits; and without the units that it wanted
abbrev pub printed : Bytes → Reply
printed text = says Done text

abbrev pub uncaught : Bytes → Reply
uncaught text = complains Uncaught (codes "uncaught exception: " ++ text)

abbrev pub overflow : Reply
overflow = complains IsOverflow (codes "overflow")

abbrev pub spent : Reply
spent = complains IsSpent (codes "steps spent")
