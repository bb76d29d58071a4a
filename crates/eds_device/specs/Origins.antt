-- Where an entry of a device stands, as `eds_places` defines it.
unfoldable pub use Rattle.eds_places.specs.Origins.{sub_section, object_section, values_section, origin_of}
pub use Rattle.eds_places.specs.Origins.{Origin, own, compact, is_index, is_place}
