-- A test of the types of a graph that is right of each value; by it a pattern takes a value as the graph says.
use Rattle.std.proofs.Common.{◌≡◌, ◌++◌, ◌||◌, Bool, true, false, List, [], ◌∷◌, Option, Some, None, option_map, bytes_eq, codes}
use Rattle.std.proofs.Common.{if◌then◌else◌, refl, sym, ap, ◌∙◌}
use Rattle.cd_sets.specs.declared.node_id.NodeId.{NodeId}
use Rattle.cd_model.proofs.Closures.{every_closure}
use Rattle.cd_model.proofs.Sorts.{values}
use Rattle.cd_model.specs.BuiltIns.{built_ins, atoms_of, EMPTY, ANY, NIL}
use Rattle.cd_model.specs.Formula.{Graph, Formula, Nothing, Everything, formula_at, nodes}
use Rattle.cd_model.specs.Interfaces.{Interfaces, admits, value_in_node}
use Rattle.cd_model.specs.Thing as thing
use Rattle.cd_model.specs.Thing.{Thing, IsValue}
use Rattle.cd_model.specs.Types.{closure_maps}
use Rattle.cd_matching.specs.Pattern.{Pattern}
use Rattle.cd_matching.specs.Sequences.{items, is_no_item}
use Rattle.cd_matching.specs.Take.{take}
use Rattle.cd_matching.specs.Takes.{IsRight, ValueTakes}
use Rattle.cd_matching.proofs.AlikeTakes.{takes_same}
use Rattle.cd_matching.proofs.Retyped.{retyped, alike_retyped}
use Rattle.cd_asking.specs.Inner.Shapes.{shape_of, in_formula, is_in}
use Rattle.cd_asking.specs.MappedArrows.{maps_at, MapsRight}
use Rattle.cd_asking.specs.Mappings.{Mappings}
use Rattle.cd_asking.proofs.InNode.{value_answers_as_tested}
use Rattle.cd_code.specs.Tested.{AreTested}

module _ (graph : Graph) (interfaces : Interfaces) (maps : Mappings) (tested : AreTested graph interfaces maps) where
  -- what each thing answers
  abbrev pub test : NodeId → Thing → Bool
  test id d = is_in graph (maps_at maps) d id

  pub right : (id : NodeId) → IsRight (value_in_node graph interfaces) IsValue id (test id)
  right id v is = value_answers_as_tested graph (maps_at maps) (closure_maps (nodes graph) (admits interfaces)) v id is
      (every_closure (MapsRight graph interfaces maps) tested.maps_right v)

  abbrev AgreeOn : NodeId → (Thing → Bool) → Type 0
  AgreeOn id one = (v : Thing) → IsValue v → test id v ≡ one v

  -- so a pattern takes a value by this test as the graph says
  pub takes_by_test : (p : Pattern NodeId) (v : Thing) → IsValue v → ValueTakes graph interfaces p v (take NodeId test p v)
  takes_by_test p v is = record {
    tested = retyped test p;
    right = alike_retyped test (IsRight (value_in_node graph interfaces) IsValue) right p;
    gives = sym (takes_same values test (λ (one : Thing → Bool). one) AgreeOn (λ id one agree. agree) p (retyped test p)
        (alike_retyped test AgreeOn (λ id w here. refl) p) v is);
  }

  -- at the built-in nodes that kernels ask of
  formula_is : (id : NodeId) (f : Formula) → formula_at (built_ins ++ tested.begins.0) id ≡ f → (d : Thing)
      → test id d ≡ in_formula (shape_of graph (maps_at maps) d) f
  formula_is id f is d = ap (λ (g : Graph). in_formula (shape_of graph (maps_at maps) d) (formula_at g id)) tested.begins.1
      ∙ ap (in_formula (shape_of graph (maps_at maps) d)) is

  pub empty_is : (d : Thing) → test EMPTY d ≡ false
  empty_is d = formula_is EMPTY Nothing refl d

  pub any_is : (d : Thing) → test ANY d ≡ true
  any_is d = formula_is ANY Everything refl d

  no_list : (first : Thing) (all : Option (List Thing)) → false ≡ is_no_item (option_map (λ rest. first ∷ rest) all)
  no_list first None = refl
  no_list first (Some rest) = refl

  -- the empty sequence has no item, and nothing else is a sequence without items
  in_nil : (d : Thing) → in_formula (shape_of graph (maps_at maps) d) (atoms_of (codes "nil" ∷ [])) ≡ is_no_item (items d)
  in_nil (thing.Integer n) = refl
  in_nil (thing.Character c) = refl
  in_nil (thing.Atom name) = by_test (bytes_eq name (codes "nil"))
    where
      by_test : (b : Bool) → (b || false) ≡ is_no_item (if b then Some [] else None)
      by_test true = refl
      by_test false = refl
  in_nil (thing.Pair first second) = no_list first (items second)
  in_nil (thing.Xml tag attributes content) = refl
  in_nil (thing.Record fields) = refl
  in_nil (thing.Function pairs) = refl
  in_nil (thing.Closure function environment) = refl

  pub nil_is : (d : Thing) → test NIL d ≡ is_no_item (items d)
  nil_is d = formula_is NIL (atoms_of (codes "nil" ∷ [])) refl d ∙ in_nil d
