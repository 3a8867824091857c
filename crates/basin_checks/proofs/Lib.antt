pub mod PiecesInOrder
