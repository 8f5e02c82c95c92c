pub mod SeatLaws
