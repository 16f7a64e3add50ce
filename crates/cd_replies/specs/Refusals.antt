-- Why a text is not read.
use Rattle.cd_syntax.specs.declared.fault.TextError.{TextError}
use Rattle.cd_syntax.specs.declared.fault.TextError.TheVariants as of_a_text
use Rattle.cd_resolve.specs.Faults.{Fault}
use Rattle.cd_resolve.specs.declared.error.NameError.{NameError}
use Rattle.cd_resolve.specs.declared.error.NameError.TheVariants as of_a_name
use Rattle.cd_replies.specs.declared.refusal.Refusal.{Refusal}
use Rattle.cd_replies.specs.declared.refusal.Refusal.TheVariants.{Text, Naming}
use Rattle.cd_replies.specs.declared.refusal.RefusalError.{RefusalError}
use Rattle.cd_replies.specs.declared.refusal.RefusalError.TheVariants.{Refused, Memory}

-- such a refusal stands against it, or memory ran out
abbrev pub IfRefused : RefusalError → (such : Refusal → Type 0) → Type 0
IfRefused (Refused found) such = such found
IfRefused Memory such = Unit {0}

-- a naming fault, as what stands against a text
abbrev pub naming_of : Fault → Refusal
naming_of fault = Naming fault.fault fault.name fault.at

-- an error of a text, and one of its names
abbrev pub of_text : TextError → RefusalError
of_text (of_a_text.Fault fault) = Refused (Text fault)
of_text of_a_text.Memory = Memory

abbrev pub of_names : NameError → RefusalError
of_names (of_a_name.Fault fault name at) = Refused (Naming fault name at)
of_names of_a_name.Memory = Memory
