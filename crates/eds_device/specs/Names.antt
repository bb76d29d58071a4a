-- What the names of sections say, as `eds_entries` defines it.
unfoldable pub use Rattle.eds_entries.specs.Names.{index_named, sub_named, sub_listed, place_named, values_named}
