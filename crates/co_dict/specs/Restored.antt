-- A part of a dictionary as another has it (CiA 301, NMT reset).
unfoldable pub use Rattle.dict_values.specs.Restored.{with_restored}
