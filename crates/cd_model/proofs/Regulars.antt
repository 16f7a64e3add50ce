-- What regular expressions of types answer where it is known what things answer at types.
use Rattle.std.proofs.Common.{Bool, true, false, ◌⊎◌}
use Rattle.cd_syntax.specs.declared.type_tree.Post.{Post}
use Rattle.cd_syntax.specs.declared.type_tree.Post.TheVariants as post
use Rattle.cd_model.specs.Alike.{Standing, RegularsStand, RowsStand, AnswerAlike}
use Rattle.cd_model.specs.Alike as alike
use Rattle.cd_model.specs.Language.{Language}
use Rattle.cd_model.specs.Types.{Answers, Regular, NoItem, Item, Seq, Alt, Repeat, Regulars, NoRegular, ARegular, repeated, fits, fits_in_turn, fits_one}
use Rattle.cd_model.proofs.Languages.{ApartOver, none_apart, nothing_apart, item_apart, either_apart, followed_apart, star_apart, plus_apart, optional_apart}
use Rattle.cd_model.proofs.Languages.{DecidesOver, none_decides, nothing_decides, item_decides, either_decides, followed_decides, star_decides, plus_decides, optional_decides}
use Rattle.cd_model.proofs.Languages.{AgreeOver, none_agree, nothing_agree, item_agree, either_agree, followed_agree, star_agree, plus_agree, optional_agree}

-- no type answers both
abbrev pub Apart : {X : Type 0} → (X → Bool → Type 0) → Type 0
Apart {X} answers = (x : X) → answers x true → answers x false → ⊥

-- each type answers one of both
abbrev pub Decides : {X : Type 0} → (X → Bool → Type 0) → Type 0
Decides {X} answers = (x : X) → answers x true ⊎ answers x false

module _ {X : Type 0} where
  abbrev AreApart : Language (Answers X) → Type 1
  AreApart = ApartOver (λ (answers : Answers X). Apart answers)

  abbrev AreDecided : Language (Answers X) → Type 1
  AreDecided = DecidesOver (λ (answers : Answers X). Decides answers)

  repeated_apart : (post : Post) (one : Language (Answers X)) → AreApart one → AreApart (repeated post one)
  repeated_apart post.Star one is_one = star_apart _ one is_one
  repeated_apart post.LazyStar one is_one = star_apart _ one is_one
  repeated_apart post.Plus one is_one = plus_apart _ one is_one
  repeated_apart post.LazyPlus one is_one = plus_apart _ one is_one
  repeated_apart post.Opt one is_one = optional_apart _ one is_one
  repeated_apart post.LazyOpt one is_one = optional_apart _ one is_one

  mutual
    pub fits_apart : (is : Regular X) → AreApart (fits is)
    fits_apart NoItem = nothing_apart _
    fits_apart (Item x) = item_apart _ (λ answers. answers x) (λ one known. known x)
    fits_apart (Seq all) = in_turn_apart all
    fits_apart (Alt all) = one_apart all
    fits_apart (Repeat is post) = repeated_apart post (fits is) (fits_apart is)

    in_turn_apart : (all : Regulars X) → AreApart (fits_in_turn all)
    in_turn_apart NoRegular = nothing_apart _
    in_turn_apart (ARegular first rest) =
        followed_apart _ (fits first) (fits_in_turn rest) (fits_apart first) (in_turn_apart rest)

    one_apart : (all : Regulars X) → AreApart (fits_one all)
    one_apart NoRegular = none_apart _
    one_apart (ARegular first rest) = either_apart _ (fits first) (fits_one rest) (fits_apart first) (one_apart rest)

  repeated_decides : (post : Post) (one : Language (Answers X)) → AreDecided one → AreDecided (repeated post one)
  repeated_decides post.Star one is_one = star_decides _ one is_one
  repeated_decides post.LazyStar one is_one = star_decides _ one is_one
  repeated_decides post.Plus one is_one = plus_decides _ one is_one
  repeated_decides post.LazyPlus one is_one = plus_decides _ one is_one
  repeated_decides post.Opt one is_one = optional_decides _ one is_one
  repeated_decides post.LazyOpt one is_one = optional_decides _ one is_one

  mutual
    pub fits_decides : (is : Regular X) → AreDecided (fits is)
    fits_decides NoItem = nothing_decides _
    fits_decides (Item x) = item_decides _ (λ answers. answers x) (λ one known. known x)
    fits_decides (Seq all) = in_turn_decides all
    fits_decides (Alt all) = one_decides all
    fits_decides (Repeat is post) = repeated_decides post (fits is) (fits_decides is)

    in_turn_decides : (all : Regulars X) → AreDecided (fits_in_turn all)
    in_turn_decides NoRegular = nothing_decides _
    in_turn_decides (ARegular first rest) =
        followed_decides _ (fits first) (fits_in_turn rest) (fits_decides first) (in_turn_decides rest)

    one_decides : (all : Regulars X) → AreDecided (fits_one all)
    one_decides NoRegular = none_decides _
    one_decides (ARegular first rest) = either_decides _ (fits first) (fits_one rest) (fits_decides first) (one_decides rest)

module _ {X Y : Type 0} (Stands : Standing X Y) where
  abbrev AreAlike : Language (Answers X) → Language (Answers Y) → Type 1
  AreAlike = AgreeOver (λ (one : Answers X) (other : Answers Y). AnswerAlike Stands one other)

  repeated_alike : (post : Post) (one : Language (Answers X)) (other : Language (Answers Y)) → AreAlike one other
      → AreAlike (repeated post one) (repeated post other)
  repeated_alike post.Star one other is_one = star_agree _ one other is_one
  repeated_alike post.LazyStar one other is_one = star_agree _ one other is_one
  repeated_alike post.Plus one other is_one = plus_agree _ one other is_one
  repeated_alike post.LazyPlus one other is_one = plus_agree _ one other is_one
  repeated_alike post.Opt one other is_one = optional_agree _ one other is_one
  repeated_alike post.LazyOpt one other is_one = optional_agree _ one other is_one

  mutual
    pub fits_alike : (one : Regular X) (other : Regular Y) → RegularsStand Stands one other → AreAlike (fits one) (fits other)
    fits_alike _ _ alike.no_item = nothing_agree _
    fits_alike _ _ (alike.an_item x y is) =
        item_agree _ (λ answers. answers x) (λ answers. answers y) (λ one other known. known x y is)
    fits_alike _ _ (alike.in_turn one other is) = in_turn_alike one other is
    fits_alike _ _ (alike.one_of one other is) = one_alike one other is
    fits_alike _ _ (alike.repeat one other post is) = repeated_alike post (fits one) (fits other) (fits_alike one other is)

    in_turn_alike : (one : Regulars X) (other : Regulars Y) → RowsStand Stands one other
        → AreAlike (fits_in_turn one) (fits_in_turn other)
    in_turn_alike _ _ alike.no_more = nothing_agree _
    in_turn_alike _ _ (alike.one_more one other rest others is more) =
        followed_agree _ (fits one) (fits_in_turn rest) (fits other) (fits_in_turn others)
        (fits_alike one other is) (in_turn_alike rest others more)

    one_alike : (one : Regulars X) (other : Regulars Y) → RowsStand Stands one other → AreAlike (fits_one one) (fits_one other)
    one_alike _ _ alike.no_more = none_agree _
    one_alike _ _ (alike.one_more one other rest others is more) =
        either_agree _ (fits one) (fits_one rest) (fits other) (fits_one others)
        (fits_alike one other is) (one_alike rest others more)
