use Rattle.std.proofs.{Common.{◌≡◌, ap, ◌∙◌, [], ◌∷◌, to_z, of_z, w32, arith}, lemmas.Int.ints}
use Rattle.mus_stems.proofs.AloneLaws.{alone_signed}
use Rattle.mus_stems.proofs.signs.signs_for.Goals as goal

pub returns-in-len1 : goal.returns-in-len1
returns-in-len1 c =
    let same : to_z w32 (of_z w32 c.args.first) ≡ c.args.first = omega (arith, ints, c.ranges.first.sfits) in
    c.one.ensures
    ∙ ap (λ x. x ∷ []) c.sign_alone.ensures
    ∙ rw same (alone_signed c.args.first c.args.stands.now _ c.requires.near c.in-len1.len_at_least c.in-len1.len_below)
