mod BuiltCommands
mod OnLiterals
mod Program
mod Entered
mod Examples
