pub mod PlaceIndex
