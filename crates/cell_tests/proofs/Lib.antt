pub mod PassLists
