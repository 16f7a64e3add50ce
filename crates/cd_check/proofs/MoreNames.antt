-- An expression that is sound where some names are seen is sound where more are.
use Rattle.std.proofs.Common.{◌≡◌, Bool, true, false, [], ◌∷◌, ◌++◌, ◌⊎◌, inl, inr, refl, sym, bytes_eq, ◌||◌, Option, Some, None}
use Rattle.std.proofs.lemmas.Bool.{or_cases, true≢false}
use Rattle.cd_syntax.specs.Name.{Name}
use Rattle.cd_program.specs.Expr.{Program}
use Rattle.cd_program.specs.Expr.{Expr, expr, Kind, Constant, Variable, Tuple, Sequence, Record, Xml}
use Rattle.cd_program.specs.Expr.{Function, Apply, Match, Try, Map, Transform, Let, If, Chain, Call}
use Rattle.cd_program.specs.Expr.{Exprs, NoExpr, AnExpr, Items, NoItem, AnItem, One, Splice, Run}
use Rattle.cd_program.specs.Expr.{Fields, NoField, AField, Tails, NoTail, ATail, Operand, Without, Select}
use Rattle.cd_program.specs.Expr.{Branches, NoBranch, ABranch, function}
use Rattle.cd_names.specs.ProgramFaults.{Seen, is_seen, names_of, with_name}
use Rattle.cd_check.specs.Inner.SoundNames.{IsSound, KindIsSound, AreSound, ItemsAreSound, FieldsAreSound}
use Rattle.cd_check.specs.Inner.SoundNames.{TailsAreSound, BranchesAreSound}

-- all that is seen here is seen there
abbrev pub AllSeen : (seen more : Seen) → Type 0
AllSeen seen more = (name : Name) → is_seen seen name ≡ true → is_seen more name ≡ true

or_true : (a b : Bool) → (a ≡ true) ⊎ (b ≡ true) → (a || b) ≡ true
or_true true b either = refl
or_true false b (inl never) = absurd (true≢false (sym never))
or_true false b (inr later) = later

pub under : (own seen more : Seen) → AllSeen seen more → AllSeen (own ++ seen) (own ++ more)
under [] seen more all name is = all name is
under (first ∷ own) seen more all name is = or_true (bytes_eq name first) (is_seen (own ++ more) name)
    (by (or_cases (bytes_eq name first) (is_seen (own ++ seen) name) is) (under own seen more all name))
  where
    by : (bytes_eq name first ≡ true) ⊎ (is_seen (own ++ seen) name ≡ true) → (is_seen (own ++ seen) name ≡ true → is_seen (own ++ more) name ≡ true)
        → (bytes_eq name first ≡ true) ⊎ (is_seen (own ++ more) name ≡ true)
    by (inl here) further = inl here
    by (inr later) further = inr (further later)

pub under_name : (name : Option Name) (seen more : Seen) → AllSeen seen more → AllSeen (with_name name seen) (with_name name more)
under_name None seen more all = all
under_name (Some name) seen more all = under (name ∷ []) seen more all

module _ (program : Program) where
  mutual
    pub sound_more : (e : Expr) (seen more : Seen) → AllSeen seen more → IsSound program seen e → IsSound program more e
    sound_more (expr span kind) seen more all sound = kind_more kind seen more all sound

    kind_more : (kind : Kind) (seen more : Seen) → AllSeen seen more → KindIsSound program seen kind → KindIsSound program more kind
    kind_more (Constant is) seen more all sound = sound
    kind_more (Variable name) seen more all sound = all name sound
    kind_more (Tuple exprs) seen more all sound = all_more exprs seen more all sound
    kind_more (Sequence items) seen more all sound = items_more items seen more all sound
    kind_more (Record fields) seen more all sound = fields_more fields seen more all sound
    kind_more (Xml tag attributes content) seen more all sound = (
      sound_more tag seen more all sound.0,
      sound_more attributes seen more all sound.1,
      sound_more content seen more all sound.2,
    )
    kind_more (Function (function at name name_at interface branches)) seen more all sound =
        (sound.0, branches_more branches (with_name name seen) (with_name name more) (under_name name seen more all) sound.1)
    kind_more (Apply exprs) seen more all sound = (sound.0, all_more exprs seen more all sound.1)
    kind_more (Match value branches) seen more all sound =
        (sound_more value seen more all sound.0, branches_more branches seen more all sound.1)
    kind_more (Try value branches) seen more all sound =
        (sound_more value seen more all sound.0, branches_more branches seen more all sound.1)
    kind_more (Map value branches) seen more all sound =
        (sound_more value seen more all sound.0, branches_more branches seen more all sound.1)
    kind_more (Transform value branches) seen more all sound =
        (sound_more value seen more all sound.0, branches_more branches seen more all sound.1)
    kind_more (Let pattern value rest) seen more all sound = (
      sound.0,
      sound_more value seen more all sound.1,
      sound_more rest (names_of pattern ++ seen) (names_of pattern ++ more) (under (names_of pattern) seen more all) sound.2,
    )
    kind_more (If condition then_one else_one) seen more all sound = (
      sound_more condition seen more all sound.0,
      sound_more then_one seen more all sound.1,
      sound_more else_one seen more all sound.2,
    )
    kind_more (Chain first tails) seen more all sound =
        (sound_more first seen more all sound.0, tails_more tails seen more all sound.1)
    kind_more (Call word operand) seen more all sound = sound_more operand seen more all sound

    all_more : (exprs : Exprs) (seen more : Seen) → AllSeen seen more → AreSound program seen exprs → AreSound program more exprs
    all_more NoExpr seen more all sound = tt
    all_more (AnExpr e rest) seen more all sound =
        (sound_more e seen more all sound.0, all_more rest seen more all sound.1)

    items_more : (items : Items) (seen more : Seen) → AllSeen seen more → ItemsAreSound program seen items → ItemsAreSound program more items
    items_more NoItem seen more all sound = tt
    items_more (AnItem (One e) rest) seen more all sound =
        (sound_more e seen more all sound.0, items_more rest seen more all sound.1)
    items_more (AnItem (Splice e) rest) seen more all sound =
        (sound_more e seen more all sound.0, items_more rest seen more all sound.1)
    items_more (AnItem (Run characters) rest) seen more all sound = (sound.0, items_more rest seen more all sound.1)

    fields_more : (fields : Fields) (seen more : Seen) → AllSeen seen more → FieldsAreSound program seen fields
        → FieldsAreSound program more fields
    fields_more NoField seen more all sound = tt
    fields_more (AField label at e rest) seen more all sound =
        (sound.0, sound.1, sound_more e seen more all sound.2, fields_more rest seen more all sound.3)

    tails_more : (tails : Tails) (seen more : Seen) → AllSeen seen more → TailsAreSound program seen tails → TailsAreSound program more tails
    tails_more NoTail seen more all sound = tt
    tails_more (ATail (Operand op e) rest) seen more all sound =
        (sound_more e seen more all sound.0, tails_more rest seen more all sound.1)
    tails_more (ATail (Without label) rest) seen more all sound = (sound.0, tails_more rest seen more all sound.1)
    tails_more (ATail (Select label) rest) seen more all sound = (sound.0, tails_more rest seen more all sound.1)

    pub branches_more : (branches : Branches) (seen more : Seen) → AllSeen seen more → BranchesAreSound program seen branches
        → BranchesAreSound program more branches
    branches_more NoBranch seen more all sound = tt
    branches_more (ABranch pattern body rest) seen more all sound = (
      sound.0,
      sound_more body (names_of pattern ++ seen) (names_of pattern ++ more) (under (names_of pattern) seen more all) sound.1,
      branches_more rest seen more all sound.2,
    )
