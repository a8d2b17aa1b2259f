pub mod ReadPieces
