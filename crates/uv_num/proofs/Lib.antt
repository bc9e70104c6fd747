pub mod Alike
pub mod EachLaws
pub mod Maps
pub mod PlaceLaws
pub mod PlacesOf
pub mod Prefixes
