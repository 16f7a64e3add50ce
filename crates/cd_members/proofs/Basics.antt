-- What is in the sets of a question is an element of it.
use Rattle.std.proofs.Common.{List, true}
use Rattle.cd_sets.specs.declared.question.Question.{Question}
use Rattle.cd_model.specs.Formula.{Graph}
use Rattle.cd_model.specs.Membership.{asked, answers}
use Rattle.cd_model.specs.Thing.{Thing, IsElement}
use Rattle.cd_elements.specs.Table.{IsShape, element_by}
use Rattle.cd_elements.specs.declared.shape.Shape.{Shape}
use Rattle.cd_elements.specs.declared.shape.Shape.TheVariants.{Int, Char, Atom}
use Rattle.cd_rules.specs.BasicSets.{question_passes}
use Rattle.cd_normal.proofs.BasicsOfQuestions.{integer_in, character_in, atom_in}
use Rattle.cd_normal.specs.Inner.ExactSets.{AreExact}
use Rattle.cd_normal.specs.declared.basic_sets.Basics.{Basics}
use Rattle.cd_members.specs.Inner.Basic.{IsIn}

pub shape_in : (graph : Graph) (question : Question) (sets : Basics) → AreExact (λ test. question_passes test graph question) sets
    → (table : List Thing) (shape : Shape) → IsIn sets shape
    → IsShape table shape × IsElement (element_by table shape) × asked (answers graph (element_by table shape)) question true
shape_in graph question sets exact table (Int n) here = (tt, here.0, integer_in graph question sets exact n here.0 here.1)
shape_in graph question sets exact table (Char c) here = (tt, here.0, character_in graph question sets exact c here.0 here.1)
shape_in graph question sets exact table (Atom name) here = (here.0, here.0, atom_in graph question sets exact name here.0 here.1)
shape_in graph question sets exact table _ here = absurd here
