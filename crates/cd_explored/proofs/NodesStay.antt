-- A node whose formula is not Nothing is a node of the graph, and has that formula in each longer
-- graph.
use Rattle.std.proofs.Common.{◌≡◌, ◌<◌, ℕ, zero, suc, Bool, true, false, [], ◌∷◌, ◌++◌, length, refl}
use Rattle.std.proofs.Common.{ap, ◌∙◌, arith}
use Rattle.std.proofs.lemmas.Bool.{true≢false}
use Rattle.cd_model.specs.BuiltIns.{node}
use Rattle.cd_model.specs.Formula as formula
use Rattle.cd_model.specs.Formula.{Graph, Formula, formula_at}

abbrev pub is_nothing : Formula → Bool
is_nothing formula.Nothing = true
is_nothing _ = false

pub formula_stays : (graph more : Graph) (id : ℕ) (f : Formula) → formula_at graph (node id) ≡ f
    → is_nothing f ≡ false → formula_at (graph ++ more) (node id) ≡ f
formula_stays [] more id f is some = absurd (true≢false (ap is_nothing is ∙ some))
formula_stays (form ∷ graph) more zero f is some = is
formula_stays (form ∷ graph) more (suc id) f is some = formula_stays graph more id f is some

-- a node of the graph has its formula in each longer one
pub formula_kept : (graph more : Graph) (id : ℕ) → id < length graph
    → formula_at (graph ++ more) (node id) ≡ formula_at graph (node id)
formula_kept [] more id below = absurd (omega arith)
formula_kept (form ∷ graph) more zero below = refl
formula_kept (form ∷ graph) more (suc id) below = formula_kept graph more id (omega arith)
