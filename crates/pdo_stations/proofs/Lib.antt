pub mod AlikeLemmas
pub mod RoomLemmas
pub mod SeatLemmas
pub mod StationLemmas
pub mod UnsignedLemmas
