-- The entries that the sections of an EDS give, as `eds_places` defines them.
unfoldable pub use Rattle.eds_places.specs.Places.{places_given, pairs_of}
pub use Rattle.eds_places.specs.Places.{first_subs, object_places, put_in_order}
