mod Fits
pub mod ListedFits
pub mod Terminals
pub mod Exact
pub mod OneReading
pub mod Rules
mod Sorts
mod SortsOfMakes
mod SortedParts
mod SortsInSorts
mod SortedOnes
mod SortedQueries
mod SortedTwos
mod SortedThrees
mod SortedMakes
mod SortedRules
mod SortedTokens
mod SortedSymbols
mod SortedWholes
pub mod WhatIsWritten
mod Later
mod TokenFaults
mod SameForms
mod ProgramForm
mod TextAnswers
pub mod FormsOfTexts
mod SpelledTokens
mod WellMadeFacts
mod WellMadeTypes
mod WellMadePatterns
mod WellMadeExprs
pub mod MadeWell
mod WrittenDeeper
pub mod Runs
mod Examples
mod ProgramRuns
mod PatternTexts
mod ExprTexts
mod QueryTexts
mod ProgramTexts
mod ProgramFaults
