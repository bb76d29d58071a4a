pub mod EditsInTurn
pub mod LineLemmas
pub mod MessagesAgain
pub mod RoundTrip
pub mod ScriptEdits
pub mod ToCome
