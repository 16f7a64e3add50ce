-- The workload: the text of a program, the texts of its documents, and the texts of queries.
use Rattle.std.specs.Prelude.{ℕ, zero, suc, ◌%◌, List, [], ◌∷◌, ◌++◌, map, codes}
use Rattle.std.specs.Fmt.{decimal}
use Rattle.cd_replies.specs.Bytes.{Bytes}

abbrev pub program_text : Bytes
program_text =
    codes "type Log = <log>[Entry*]\n"
    ++ codes "type Entry = <e n=Int>[Int*]\n"
    ++ codes "let fun main (Log -> [Int*])\n"
    ++ codes "  <log>c -> transform c with <e n=k>[x::Int _*] -> x | _ -> [0]\n"

-- the numbers in an entry, by what is left of its own number when it is divided by three: none,
-- its number, or its number and the next one
abbrev pub numbers : (left number : ℕ) → List ℕ
numbers zero number = []
numbers (suc zero) number = number ∷ []
numbers (suc (suc left)) number = number ∷ suc number ∷ []

-- texts with a space between
abbrev pub spaced : List Bytes → Bytes
spaced [] = []
spaced (text ∷ []) = text
spaced (text ∷ next ∷ rest) = text ++ codes " " ++ spaced (next ∷ rest)

abbrev pub entry_text : (number : ℕ) → Bytes
entry_text number = codes "<e n=" ++ decimal number ++ codes ">["
    ++ spaced (map decimal (numbers (number % 3) number)) ++ codes "]"

-- so many entries, the first of them of this number
abbrev pub entry_texts : (first count : ℕ) → List Bytes
entry_texts first zero = []
entry_texts first (suc count) = entry_text first ∷ entry_texts (suc first) count

-- the document of so many entries
abbrev pub document_text : (size : ℕ) → Bytes
document_text size = codes "<log>[" ++ spaced (entry_texts zero size) ++ codes "]"

-- the query of a number: whether the sequences of integers up to it are among those up to 99
abbrev pub query_text : (number : ℕ) → Bytes
query_text number = codes "[(0--" ++ decimal number ++ codes ")*]"

abbrev pub wanted_text : Bytes
wanted_text = codes "[(0--99)*]"
