use Rattle.std.proofs.Common.{◌∷◌, [], ap, sym, ◌∙◌}
use Rattle.std.proofs.Math.Utf8.{encodes}
use Rattle.std.proofs.lemmas.Str.{encodes-chars}
use Rattle.cd_resolve.proofs.key.KeyHash.hash.Goals as goal

-- the text is the one that spells the name
pub returns : goal.returns
returns g c =
    let spelled = ap encodes (sym c.as_str.ensures) ∙ encodes-chars c.as_str.result.now c.as_str.utf8 in
    c.hash.ensures
    ∙ ap (λ text. g.H.Hasher.write (g.H.Hasher.write c.args.state.now text) (255 ∷ [])) (sym spelled)
