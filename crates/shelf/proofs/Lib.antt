pub mod ShelfLaws
