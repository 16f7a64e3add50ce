pub mod AloneNodes
pub mod OutermostQuestions
pub mod OneMoreNode
pub mod UnionFormulas
pub mod UnionNodes
