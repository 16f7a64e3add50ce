-- Elements are known by their parts, and so are good values.
use Rattle.std.proofs.Common.{ℕ}
use Rattle.cd_model.specs.Interfaces.{Interfaces}
use Rattle.cd_model.specs.Thing.{Fields, IsElement, AreFields}
use Rattle.cd_safety.specs.ByParts.{IsByParts}
use Rattle.cd_safety.specs.Sound.{IsGood, AreGood}

pub elements_by_parts : IsByParts IsElement AreFields
elements_by_parts = record {
  integer = λ n. (λ is. is, λ is. is);
  character = λ c is. is;
  atom = λ name is. is;
  pair = λ first second. (λ is. is, λ is. is);
  xml = λ name fields content tag attributes last. (tt, tt, tag, attributes, last);
  fields = λ fields. (λ is. is, λ is. is);
  no_field = tt;
  field = λ label v rest. (λ is. is, λ is. is);
}

pub good_by_parts : (fact : ℕ → Fields → Type 0) (interfaces : Interfaces)
    → IsByParts (IsGood fact interfaces) (AreGood fact interfaces)
good_by_parts fact interfaces = record {
  integer = λ n. (λ is. is.typed.is_value, λ is. record { typed = record { is_value = is; have_arrows = tt }; sound = tt });
  character = λ c is. record { typed = record { is_value = is; have_arrows = tt }; sound = tt };
  atom = λ name is. record { typed = record { is_value = is; have_arrows = tt }; sound = tt };
  pair = λ first second. (
    λ is. (
      record { typed = record { is_value = is.typed.is_value.0; have_arrows = is.typed.have_arrows.0 }; sound = is.sound.0 },
      record { typed = record { is_value = is.typed.is_value.1; have_arrows = is.typed.have_arrows.1 }; sound = is.sound.1 },
    ),
    λ are. record {
      typed = record {
        is_value = (are.0.typed.is_value, are.1.typed.is_value);
        have_arrows = (are.0.typed.have_arrows, are.1.typed.have_arrows);
      };
      sound = (are.0.sound, are.1.sound);
    },
  );
  xml = λ name fields content tag attributes last. record {
    typed = record {
      is_value = (tt, tt, tag.typed.is_value, attributes.typed.is_value, last.typed.is_value);
      have_arrows = (tag.typed.have_arrows, attributes.typed.have_arrows, last.typed.have_arrows);
    };
    sound = (tag.sound, attributes.sound, last.sound);
  };
  fields = λ fields. (
    λ is. (
      is.typed.is_value.0,
      record { are_values = is.typed.is_value.1; have_arrows = is.typed.have_arrows; sound = is.sound },
    ),
    λ are. record {
      typed = record { is_value = (are.0, are.1.are_values); have_arrows = are.1.have_arrows };
      sound = are.1.sound;
    },
  );
  no_field = record { are_values = tt; have_arrows = tt; sound = tt };
  field = λ label v rest. (
    λ are. (
      are.are_values.0,
      record { typed = record { is_value = are.are_values.1; have_arrows = are.have_arrows.0 }; sound = are.sound.0 },
      record { are_values = are.are_values.2; have_arrows = are.have_arrows.1; sound = are.sound.1 },
    ),
    λ are. record {
      are_values = (are.0, are.1.typed.is_value, are.2.are_values);
      have_arrows = (are.1.typed.have_arrows, are.2.have_arrows);
      sound = (are.1.sound, are.2.sound);
    },
  );
}
