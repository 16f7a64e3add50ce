-- A walk loses nothing that was found before it.
use Rattle.std.proofs.Common.{◌≡◌, ℕ, List, [], ◌∷◌, ◌++◌, length, Bool, true, false, Option, Some, None, ◌≤◌, arith}
use Rattle.std.specs.Prelude.{◌||◌}
use Rattle.std.specs.List.{slice_get as nth}
use Rattle.std.proofs.lemmas.List.{length-append}
use Rattle.cd_syntax.specs.Name.{Name}
use Rattle.cd_syntax.specs.TypeTree.{Tree, tree, Kind, Builtin, Ints, Chars, Atom, Text, Tuple, Arrows, Union, Meet}
use Rattle.cd_syntax.specs.TypeTree.{Sequence, Record, Xml, Named, Where, Variable, Default, Trees, NoTree, ATree}
use Rattle.cd_syntax.specs.TypeTree.{Signs, NoSign, ASign, Fields, NoField, AField, Declarations, NoDeclaration}
use Rattle.cd_syntax.specs.TypeTree.{ADeclaration, Regular, regular, RegularKind, Nothing, Item, Seq, Alt, Repeat}
use Rattle.cd_syntax.specs.TypeTree.{Capture, Regulars, NoRegular, ARegular, Rest, Closed, Open, Typed}
use Rattle.cd_resolve.specs.declared.fault.NameFault.{NameFault}
use Rattle.cd_resolve.specs.Faults.{Fault}
use Rattle.cd_resolve.specs.Inner.BuiltinNames.{is_among, is_builtin}
use Rattle.cd_resolve.specs.Inner.Finding.{ScopeLevels, Id, Link, DeclaredAt, State, reported, reported_if, entered, met, declared_under}
use Rattle.cd_resolve.specs.Inner.Finding.{labelled, start_of, found_in, found_in_kind, found_in_trees, found_in_signs}
use Rattle.cd_resolve.specs.Inner.Finding.{found_in_fields, found_in_declared, found_in_regular, found_in_regular_kind}
use Rattle.cd_resolve.specs.Inner.Finding.{found_in_regulars, found_in_rest}
use Rattle.cd_resolve.proofs.GrowingLists.{get_before}
use Rattle.cd_resolve.proofs.InLists.{IsIn, in_front}
use Rattle.cd_resolve.proofs.Rich.{whole}

pub record Grows (s t : State ScopeLevels) : Type 0 where
  pub faults : (fault : Fault) → IsIn fault s.faults → IsIn fault t.faults
  pub lists : (n : ℕ) (levels : ScopeLevels) → nth s.lists n ≡ Some levels → nth t.lists n ≡ Some levels
  pub links : (link : Link) → IsIn link s.links → IsIn link t.links
  pub longer : length s.lists ≤ length t.lists

pub same : (s : State ScopeLevels) → Grows s s
same s = record { faults = λ fault is. is; lists = λ n levels is. is; links = λ link is. is; longer = omega arith }

pub then : (s t u : State ScopeLevels) → Grows s t → Grows t u → Grows s u
then s t u first second = record {
  faults = λ fault is. second.faults fault (first.faults fault is);
  lists = λ n levels is. second.lists n levels (first.lists n levels is);
  links = λ link is. second.links link (first.links link is);
  longer = omega (arith, first.longer, second.longer);
}

pub reported_grows : (fault : NameFault) (name : Name) (at : ℕ) (s : State ScopeLevels) → Grows s (reported fault name at s)
reported_grows fault name at s = record {
  faults = λ one is. in_front one s.faults _ is;
  lists = λ n levels is. is;
  links = λ
      link is. is;
  longer = omega arith;
}

pub if_grows : (twice : Bool) (name : Name) (at : ℕ) (s : State ScopeLevels) → Grows s (reported_if twice name at s)
if_grows true name at s = reported_grows _ name at s
if_grows false name at s = same s

pub entered_grows : (levels : ScopeLevels) (s : State ScopeLevels) → Grows s (entered levels s)
entered_grows levels s = record {
  faults = λ one is. is;
  lists = λ n there is. get_before there s.lists _ n is;
  links = λ
      link is. is;
  longer = let more = length-append s.lists (levels ∷ []) in omega arith;
}

pub met_grows : (start : Option Id) (name : Name) (at : ℕ) (declared_at : Option DeclaredAt) (s : State ScopeLevels)
    → Grows s (met start name at declared_at s)
met_grows start name at None s = reported_grows _ name at s
met_grows None name at (Some declared_at) s = same s
met_grows (Some start) name at (Some declared_at) s = record {
  faults = λ one is. is;
  lists = λ n levels is. is;
  links = λ link is. in_front link s.links _ is;
  longer = omega
      arith;
}

pub labelled_grows : (seen : List Name) (fields : Fields) (s : State ScopeLevels) → Grows s (labelled seen fields s)
labelled_grows seen NoField s = same s
labelled_grows seen (AField label at optional is rest) s = then s _ _ (if_grows (is_among seen label) label at s)
    (labelled_grows (seen ++ label ∷ []) rest _)

mutual
  pub walked_grows : (levels : ScopeLevels) (start : Option Id) (is : Tree) (s : State ScopeLevels)
      → Grows s (found_in whole levels start is s)
  walked_grows levels start (tree span kind) s = kind_grows levels start span.from kind s

  pub kind_grows : (levels : ScopeLevels) (start : Option Id) (at : ℕ) (kind : Kind) (s : State ScopeLevels)
      → Grows s (found_in_kind whole levels start at kind s)
  kind_grows levels start at (Tuple trees) s = trees_grow levels None trees s
  kind_grows levels start at (Arrows trees) s = trees_grow levels None trees s
  kind_grows levels start at (Union trees) s = trees_grow levels start trees s
  kind_grows levels start at (Meet first signs) s = then s _ _ (walked_grows levels start first s)
      (signs_grow levels start signs (found_in whole levels start first s))
  kind_grows levels start at (Sequence is) s = regular_grows levels is s
  kind_grows levels start at (Record fields rest) s =
      let one = labelled [] fields s in
      let two = found_in_fields whole levels fields one in
      then s one _ (labelled_grows [] fields s) (then one two _ (fields_grow levels fields one)
      (rest_grows levels rest two))
  kind_grows levels start at (Xml tag attributes content) s =
      let one = found_in whole levels None tag s in
      let two = found_in whole levels None attributes one in
      then s one _ (walked_grows levels None tag s) (then one two _ (walked_grows levels None attributes one)
      (walked_grows levels None content two))
  kind_grows levels start at (Named name) s = met_grows start name at (declared_under levels name) s
  kind_grows levels start at (Where is declarations) s =
      let under : ScopeLevels = record { declarations = declarations; list = length s.lists } ∷ levels in
      let one = entered under s in
      let two = found_in_declared whole under (length s.lists) [] declarations one in
      then s one _ (entered_grows under s) (then one two _ (declared_grows under (length s.lists) [] declarations one)
      (walked_grows under start is two))
  kind_grows levels start at (Builtin name) s = same s
  kind_grows levels start at (Ints low high) s = same s
  kind_grows levels start at (Chars low high) s = same s
  kind_grows levels start at (Atom name) s = same s
  kind_grows levels start at (Text text) s = same s
  kind_grows levels start at (Variable name) s = same s
  kind_grows levels start at (Default name constant) s = same s

  pub trees_grow : (levels : ScopeLevels) (start : Option Id) (trees : Trees) (s : State ScopeLevels)
      → Grows s (found_in_trees whole levels start trees s)
  trees_grow levels start NoTree s = same s
  trees_grow levels start (ATree first rest) s = then s _ _ (walked_grows levels start first s)
      (trees_grow levels start rest (found_in whole levels start first s))

  pub signs_grow : (levels : ScopeLevels) (start : Option Id) (signs : Signs) (s : State ScopeLevels)
      → Grows s (found_in_signs whole levels start signs s)
  signs_grow levels start NoSign s = same s
  signs_grow levels start (ASign kept is rest) s = then s _ _ (walked_grows levels start is s)
      (signs_grow levels start rest (found_in whole levels start is s))

  pub fields_grow : (levels : ScopeLevels) (fields : Fields) (s : State ScopeLevels)
      → Grows s (found_in_fields whole levels fields s)
  fields_grow levels NoField s = same s
  fields_grow levels (AField label at optional is rest) s = then s _ _ (walked_grows levels None is s)
      (fields_grow levels rest (found_in whole levels None is s))

  pub rest_grows : (levels : ScopeLevels) (rest : Rest) (s : State ScopeLevels)
      → Grows s (found_in_rest whole levels rest s)
  rest_grows levels Closed s = same s
  rest_grows levels Open s = same s
  rest_grows levels (Typed is) s = walked_grows levels None is s

  pub declared_grows : (levels : ScopeLevels) (list : ℕ) (seen : List Name) (declarations : Declarations) (s : State ScopeLevels)
      → Grows s (found_in_declared whole levels list seen declarations s)
  declared_grows levels list seen NoDeclaration s = same s
  declared_grows levels list seen (ADeclaration name at is rest) s =
      let one = reported_if (is_among seen name || is_builtin name) name at s in
      let two = found_in whole levels (start_of (is_among seen name) list name) is one in
      then s one _ (if_grows (is_among seen name || is_builtin name) name at s)
      (then one two _ (walked_grows levels (start_of (is_among seen name) list name) is one)
      (declared_grows levels list (seen ++ name ∷ []) rest two))

  pub regular_grows : (levels : ScopeLevels) (is : Regular) (s : State ScopeLevels) → Grows s (found_in_regular whole levels is s)
  regular_grows levels (regular span kind) s = regular_kind_grows levels kind s

  pub regular_kind_grows : (levels : ScopeLevels) (kind : RegularKind) (s : State ScopeLevels)
      → Grows s (found_in_regular_kind whole levels kind s)
  regular_kind_grows levels Nothing s = same s
  regular_kind_grows levels (Item is) s = walked_grows levels None is s
  regular_kind_grows levels (Seq all) s = regulars_grow levels all s
  regular_kind_grows levels (Alt all) s = regulars_grow levels all s
  regular_kind_grows levels (Repeat is post) s = regular_grows levels is s
  regular_kind_grows levels (Capture name is) s = regular_grows levels is s

  pub regulars_grow : (levels : ScopeLevels) (all : Regulars) (s : State ScopeLevels)
      → Grows s (found_in_regulars whole levels all s)
  regulars_grow levels NoRegular s = same s
  regulars_grow levels (ARegular first rest) s = then s _ _ (regular_grows levels first s)
      (regulars_grow levels rest (found_in_regular whole levels first s))
