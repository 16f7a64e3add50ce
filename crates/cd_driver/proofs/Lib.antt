mod Asking
mod Commands
mod Concluding
mod Causing
mod OneCommand
mod OneStatus
mod Reasoning
mod NamedFiles
