-- What one object section says, as `eds_entries` defines it.
unfoldable pub use Rattle.eds_entries.specs.Sections.{number_at, object_type, is_plain, compact_count, kind_of}
pub use Rattle.eds_entries.specs.Sections.{object_of, object_of_number, is_plain_type, is_compact_type, in_subs}
pub use Rattle.eds_entries.specs.Sections.{kind_without}
