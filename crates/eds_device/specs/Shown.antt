-- What an `Origin`, a `Described` and a `DefaultText` of the program are, as the crates below define it.
pub use Rattle.eds_places.specs.Shown.{origin_shown}
pub use Rattle.eds_entries.specs.Shown.{default_shown, description_shown}
