-- Sets of codes, trees, the grammar, the trees in memory, what the readers answer.
pub mod Codes
pub mod Ast
pub mod Grammar
pub mod Nodes
pub mod Reading
