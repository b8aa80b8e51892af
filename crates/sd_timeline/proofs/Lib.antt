pub mod PictureLemmas
pub mod RoomLemmas
pub mod CircleLemmas
